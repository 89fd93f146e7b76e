use Rattle.std.proofs.Common.{◌≡◌, ◌∙◌, ap, sym, subst, rules, Bool, Ok}
use Rattle.std.proofs.lemmas.Result.{err_from_is_err_and}
use Rattle.ssh_wire.specs.Names.{names_at}
use Rattle.ssh_wire.specs.declared.error.AlgorithmKind.TheVariants.{Compression}
use Rattle.ssh_negotiate.specs.Advertised.{compression_text}
use Rattle.ssh_negotiate.specs.Parts.{RefusesReading, compressions_part, with_guess, front_taken, with_rest}
use Rattle.ssh_negotiate.specs.Reading.{read_rest, select}
use Rattle.ssh_negotiate.specs.declared.negotiation.Names.{Names}
use Rattle.ssh_negotiate.proofs.Parts.{gives_err, guess_read, guess_refused, refused, refused_too, taken}
use Rattle.ssh_negotiate.proofs.read.names_behind_macs.Goals as goal

pub returns-in_err-choice_at : goal.returns-in_err-choice_at
returns-in_err-choice_at c =
    let own : c.as_slice.result.now ≡ c.args.pref.now.compression = search rules in
    let p = err_from_is_err_and c.from_residual.result c.from_residual.ensures.1 in
    gives_err (compressions_part c.args.side c.args.pref.now (with_guess c.args.names c.args.both_first) c.args.r.now) c.from_residual.result p.0 c.in_err-choice_at.field-0.0 p.1 p.2
    (refused (names_at c.args.r.now) (select compression_text c.args.side Compression c.args.pref.now.compression)
    (λ _ r. front_taken (names_at r) (select compression_text c.args.side Compression c.args.pref.now.compression) λ _ s. read_rest s (with_guess c.args.names c.args.both_first))
    c.in_err-choice_at.field-0.0
    (subst (λ l. RefusesReading (front_taken (names_at c.args.r.now) (select compression_text c.args.side Compression l) with_rest) c.in_err-choice_at.field-0.0) own c.in_err-choice_at.ensures))

pub returns-in_err-choice_at-2 : goal.returns-in_err-choice_at-2
returns-in_err-choice_at-2 c =
    let own : c.as_slice.result.now ≡ c.args.pref.now.compression = search rules in
    let same : c.as_slice-2.result.now ≡ c.args.pref.now.compression = search rules in
    let p = err_from_is_err_and c.from_residual-in_err-choice_at-2.result c.from_residual-in_err-choice_at-2.ensures.1 in
    gives_err (compressions_part c.args.side c.args.pref.now (with_guess c.args.names c.args.both_first) c.args.r.now) c.from_residual-in_err-choice_at-2.result p.0 c.in_err-choice_at-2.field-0.0 p.1 p.2
    (refused_too _ _ c.in_err-choice_at-2.field-0.0
    (taken (names_at c.args.r.now) (select compression_text c.args.side Compression c.args.pref.now.compression)
    (λ _ r. front_taken (names_at r) (select compression_text c.args.side Compression c.args.pref.now.compression) λ _ s. read_rest s (with_guess c.args.names c.args.both_first))
    c.in_ok-choice_at.field-0 c.choice_at.new.r
    (subst (λ l. front_taken (names_at c.args.r.now) (select compression_text c.args.side Compression l) with_rest ≡ Ok (c.in_ok-choice_at.field-0, c.choice_at.new.r)) own c.in_ok-choice_at.ensures))
    (refused (names_at c.choice_at.new.r) (select compression_text c.args.side Compression c.args.pref.now.compression)
    (λ _ s. read_rest s (with_guess c.args.names c.args.both_first))
    c.in_err-choice_at-2.field-0.0
    (subst (λ l. RefusesReading (front_taken (names_at c.choice_at.new.r) (select compression_text c.args.side Compression l) with_rest) c.in_err-choice_at-2.field-0.0) same c.in_err-choice_at-2.ensures)))

pub returns-in_err-follows : goal.returns-in_err-follows
returns-in_err-follows c =
    let own : c.as_slice.result.now ≡ c.args.pref.now.compression = search rules in
    let same : c.as_slice-2.result.now ≡ c.args.pref.now.compression = search rules in
    let p = err_from_is_err_and c.from_residual-in_err-follows.result c.from_residual-in_err-follows.ensures.1 in
    gives_err (compressions_part c.args.side c.args.pref.now (with_guess c.args.names c.args.both_first) c.args.r.now) c.from_residual-in_err-follows.result p.0 c.in_err-follows.field-0.0 p.1 p.2
    (refused_too _ _ c.in_err-follows.field-0.0
    (taken (names_at c.args.r.now) (select compression_text c.args.side Compression c.args.pref.now.compression)
    (λ _ r. front_taken (names_at r) (select compression_text c.args.side Compression c.args.pref.now.compression) λ _ s. read_rest s (with_guess c.args.names c.args.both_first))
    c.in_ok-choice_at.field-0 c.choice_at.new.r
    (subst (λ l. front_taken (names_at c.args.r.now) (select compression_text c.args.side Compression l) with_rest ≡ Ok (c.in_ok-choice_at.field-0, c.choice_at.new.r)) own c.in_ok-choice_at.ensures)
    ∙ taken (names_at c.choice_at.new.r) (select compression_text c.args.side Compression c.args.pref.now.compression)
    (λ _ s. read_rest s (with_guess c.args.names c.args.both_first))
    c.in_ok-choice_at-2.field-0 c.choice_at-2.new.r
    (subst (λ l. front_taken (names_at c.choice_at.new.r) (select compression_text c.args.side Compression l) with_rest ≡ Ok (c.in_ok-choice_at-2.field-0, c.choice_at-2.new.r)) same c.in_ok-choice_at-2.ensures))
    (guess_refused c.choice_at-2.new.r (with_guess c.args.names c.args.both_first) c.in_err-follows.field-0.0 c.in_err-follows.ensures))

pub returns : goal.returns
returns c =
    let own : c.as_slice.result.now ≡ c.args.pref.now.compression = search rules in
    let same : c.as_slice-2.result.now ≡ c.args.pref.now.compression = search rules in
    taken (names_at c.args.r.now) (select compression_text c.args.side Compression c.args.pref.now.compression)
    (λ _ r. front_taken (names_at r) (select compression_text c.args.side Compression c.args.pref.now.compression) λ _ s. read_rest s (with_guess c.args.names c.args.both_first))
    c.in_ok-choice_at.field-0 c.choice_at.new.r
    (subst (λ l. front_taken (names_at c.args.r.now) (select compression_text c.args.side Compression l) with_rest ≡ Ok (c.in_ok-choice_at.field-0, c.choice_at.new.r)) own c.in_ok-choice_at.ensures)
    ∙ (taken (names_at c.choice_at.new.r) (select compression_text c.args.side Compression c.args.pref.now.compression)
    (λ _ s. read_rest s (with_guess c.args.names c.args.both_first))
    c.in_ok-choice_at-2.field-0 c.choice_at-2.new.r
    (subst (λ l. front_taken (names_at c.choice_at.new.r) (select compression_text c.args.side Compression l) with_rest ≡ Ok (c.in_ok-choice_at-2.field-0, c.choice_at-2.new.r)) same c.in_ok-choice_at-2.ensures)
    ∙ (guess_read c.choice_at-2.new.r (with_guess c.args.names c.args.both_first) c.in_ok-follows.follows c.in_ok-follows.ensures
    ∙ ap (λ (b : Bool). Ok (let n : Names = record c.args.names { ignore_guessed = b } in n)) (sym c.is_wrong_guess.ensures)))
