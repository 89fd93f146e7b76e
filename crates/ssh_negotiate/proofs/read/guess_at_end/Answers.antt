use Rattle.std.proofs.lemmas.Result.{err_from_is_err_and}
use Rattle.ssh_negotiate.specs.Reading.{read_rest}
use Rattle.ssh_negotiate.proofs.Parts.{gives_err, no_text, no_second, no_byte, no_number, no_end, at_the_end}
use Rattle.ssh_negotiate.proofs.read.guess_at_end.Goals as goal

pub returns-in_err-read_text : goal.returns-in_err-read_text
returns-in_err-read_text c =
    let p = err_from_is_err_and c.from_residual.result c.from_residual.ensures.1 in
    gives_err (read_rest c.args.r.now (λ f. f)) c.from_residual.result p.0 c.in_err-read_text.field-0.0 p.1 p.2
    (no_text c.args.r.now c.in_err-read_text.field-0.0 c.in_err-read_text.ensures.exact.0)

pub returns-in_err-read_text-2 : goal.returns-in_err-read_text-2
returns-in_err-read_text-2 c =
    let p = err_from_is_err_and c.from_residual-in_err-read_text-2.result c.from_residual-in_err-read_text-2.ensures.1 in
    gives_err (read_rest c.args.r.now (λ f. f)) c.from_residual-in_err-read_text-2.result p.0 c.in_err-read_text-2.field-0.0 p.1 p.2
    (no_second c.args.r.now c.in_ok-read_text.field-0.now c.read_text.new.self c.in_err-read_text-2.field-0.0 c.in_ok-read_text.ensures.exact c.in_err-read_text-2.ensures.exact.0)

pub returns-in_err-follows : goal.returns-in_err-follows
returns-in_err-follows c =
    let p = err_from_is_err_and c.from_residual-in_err-follows.result c.from_residual-in_err-follows.ensures.1 in
    gives_err (read_rest c.args.r.now (λ f. f)) c.from_residual-in_err-follows.result p.0 c.in_err-follows.field-0.0 p.1 p.2
    (no_byte c.args.r.now c.in_ok-read_text.field-0.now c.read_text.new.self c.in_ok-read_text-2.field-0.now c.read_text-2.new.self c.in_err-follows.field-0.0 c.in_ok-read_text.ensures.exact c.in_ok-read_text-2.ensures.exact c.in_err-follows.ensures.exact.0)

pub returns-in_err-read_u32 : goal.returns-in_err-read_u32
returns-in_err-read_u32 c =
    let p = err_from_is_err_and c.from_residual-in_err-read_u32.result c.from_residual-in_err-read_u32.ensures.1 in
    gives_err (read_rest c.args.r.now (λ f. f)) c.from_residual-in_err-read_u32.result p.0 c.in_err-read_u32.field-0.0 p.1 p.2
    (no_number c.args.r.now c.in_ok-read_text.field-0.now c.read_text.new.self c.in_ok-read_text-2.field-0.now c.read_text-2.new.self c.in_ok-follows.follows c.read_u8.new.self c.in_err-read_u32.field-0.0 c.in_ok-read_text.ensures.exact c.in_ok-read_text-2.ensures.exact c.in_ok-follows.ensures.exact c.in_err-read_u32.ensures.exact.0)

pub returns-in_err-ensure_end : goal.returns-in_err-ensure_end
returns-in_err-ensure_end c =
    let p = err_from_is_err_and c.from_residual-in_err-ensure_end.result c.from_residual-in_err-ensure_end.ensures.1 in
    gives_err (read_rest c.args.r.now (λ f. f)) c.from_residual-in_err-ensure_end.result p.0 c.in_err-ensure_end.field-0.0 p.1 p.2
    (no_end c.args.r.now c.in_ok-read_text.field-0.now c.read_text.new.self c.in_ok-read_text-2.field-0.now c.read_text-2.new.self c.in_ok-follows.follows c.read_u8.new.self c.in_ok-read_u32.field-0 c.read_u32.new.self c.in_err-ensure_end.field-0.0 c.in_ok-read_text.ensures.exact c.in_ok-read_text-2.ensures.exact c.in_ok-follows.ensures.exact c.in_ok-read_u32.ensures.exact c.in_err-ensure_end.ensures.left.0 c.in_err-ensure_end.ensures.left.1)

pub returns : goal.returns
returns c =
    at_the_end c.args.r.now c.in_ok-read_text.field-0.now c.read_text.new.self c.in_ok-read_text-2.field-0.now c.read_text-2.new.self c.in_ok-follows.follows c.read_u8.new.self c.in_ok-read_u32.field-0 c.read_u32.new.self c.in_ok-read_text.ensures.exact c.in_ok-read_text-2.ensures.exact c.in_ok-follows.ensures.exact c.in_ok-read_u32.ensures.exact c.in_ok-ensure_end.ensures.end
