use Rattle.std.proofs.Common.{map, subst, sym, ap}
use Rattle.std.specs.Prelude.{filter, not}
use Rattle.ssh_negotiate.specs.Advertised.{is_foreign}
use Rattle.ssh_negotiate.specs.Tables.{kex_text}
use Rattle.ssh_negotiate.proofs.Telling.{TellsMore, all_told, turn_passed, turn_left}
use Rattle.ssh_negotiate.proofs.told.Told.add_kex.Goals as goal
use Rattle.ssh_negotiate.proofs.told.Told.add_kex.Goals.{then-not-is_foreign, else-not-is_foreign}

pub loop-name-preserved : goal.loop-name-preserved
loop-name-preserved c =
    elim c.if-not-is_foreign.branch [
      | then-not-is_foreign w ↦
          subst (λ n. TellsMore c.args.self.now n _) (sym w.self-is)
          (turn_passed (λ n. not (is_foreign c.args.side n)) kex_text c.args.self.now c.loop-name.self w.add.new.self c.args.kex.now c.loop-name.name-index _ w.as_str.result.now c.loop-name-test.true (ap not w.if-not-is_foreign.ensures) w.as_str.ensures c.loop-name.invariant w.add.ensures)
      | else-not-is_foreign w ↦ turn_left (λ n. not (is_foreign c.args.side n)) kex_text c.args.self.now c.loop-name.self c.if-not-is_foreign.self c.args.kex.now c.loop-name.name-index _ c.loop-name-test.true (ap not w.if-not-is_foreign.ensures) w.self-is c.loop-name.invariant
    ]

pub returns : goal.returns
returns c = all_told (λ l. map kex_text (filter (λ n. not (is_foreign c.args.side n)) l)) c.args.self.now c.loop-name.self c.args.kex.now c.loop-name.name-index c.loop-name-test.false c.loop-name.invariant
