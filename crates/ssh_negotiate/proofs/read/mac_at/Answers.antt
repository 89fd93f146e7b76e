use Rattle.std.proofs.Common.{inr}
use Rattle.std.proofs.lemmas.Result.{err_from_is_err_and}
use Rattle.ssh_wire.specs.Names.{names_at}
use Rattle.ssh_negotiate.specs.Parts.{front_taken, with_rest}
use Rattle.ssh_negotiate.specs.Reading.{select_mac}
use Rattle.ssh_negotiate.proofs.Parts.{field_refused_in_memory, front_err, list_taken}
use Rattle.ssh_negotiate.proofs.read.mac_at.Goals as goal

pub returns-in_err-peer : goal.returns-in_err-peer
returns-in_err-peer c =
    let p = err_from_is_err_and c.from_residual.result c.from_residual.ensures.1 in
    front_err (front_taken (names_at c.args.r.now) (select_mac c.args.side c.args.cipher c.args.own.now) with_rest) c.from_residual.result c.decode.new.r p.0 c.in_err-peer.field-0.0 p.1 p.2 (field_refused_in_memory (names_at c.args.r.now) _ c.in_err-peer.field-0.0 (inr c.in_err-peer.ensures.0))

pub returns : goal.returns
returns c =
    list_taken (names_at c.args.r.now) (select_mac c.args.side c.args.cipher c.args.own.now) c.in_ok-peer.peer c.decode.new.r c.mac_of.result c.in_ok-peer.ensures c.mac_of.ensures
