use Rattle.std.proofs.Common.{sym, ◌∙◌}
use Rattle.std.proofs.lemmas.Result.{on_ok_weaker}
use Rattle.ssh_judge.proofs.Counted.{counts_message, counts_payload}
use Rattle.ssh_judge.proofs.tally.Tally.count.Goals as goal

pub returns-then-is_payload_type-clause-counts : goal.returns-then-is_payload_type-clause-counts
returns-then-is_payload_type-clause-counts c = λ items i f s few d.
    counts_payload items i c.args.packet.now c.args.self.now c.count_packet.new.self c.count_payload.new.self f s few c.count_packet.ensures.fits d (sym c.is_payload_type.ensures ∙ c.if-is_payload_type.true) c.count_packet.ensures.counts c.count_payload.ensures

pub returns-clause-counts : goal.returns-clause-counts
returns-clause-counts c = on_ok_weaker c.count_message.result (λ m items i f s few d.
    counts_message items i c.args.packet.now c.args.self.now c.count_packet.new.self c.count_message.new.self f s few c.count_packet.ensures.fits d (sym c.is_payload_type.ensures ∙ c.if-is_payload_type.false) c.count_packet.ensures.counts m) c.count_message.ensures
