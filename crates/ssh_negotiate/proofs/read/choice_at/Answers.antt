use Rattle.std.proofs.Common.{inr}
use Rattle.std.proofs.lemmas.Result.{err_from_is_err_and}
use Rattle.ssh_wire.specs.Names.{names_at}
use Rattle.ssh_negotiate.specs.Parts.{front_taken, with_rest}
use Rattle.ssh_negotiate.specs.Reading.{select}
use Rattle.ssh_negotiate.proofs.Parts.{field_refused_in_memory, front_err, list_taken}
use Rattle.ssh_negotiate.proofs.read.choice_at.Goals as goal

pub returns-in_err-peer : goal.returns-in_err-peer
returns-in_err-peer g c =
    let p = err_from_is_err_and c.from_residual.result c.from_residual.ensures.1 in
    front_err (front_taken (names_at c.args.r.now) (select g.A.AsName.text c.args.side c.args.kind c.args.own.now) with_rest) c.from_residual.result c.decode.new.r p.0 c.in_err-peer.field-0.0 p.1 p.2 (field_refused_in_memory (names_at c.args.r.now) _ c.in_err-peer.field-0.0 (inr c.in_err-peer.ensures.0))

pub returns : goal.returns
returns g c =
    list_taken (names_at c.args.r.now) (select g.A.AsName.text c.args.side c.args.kind c.args.own.now) c.in_ok-peer.peer c.decode.new.r c.choice_with_read.result c.in_ok-peer.ensures c.choice_with_read.ensures
