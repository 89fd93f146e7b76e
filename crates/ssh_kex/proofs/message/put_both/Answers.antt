use Rattle.std.proofs.Common.{◌+◌, ◌≤◌, length, ap, sym, subst}
use Rattle.ssh_packet.specs.Sealing.{Sealing}
use Rattle.ssh_packet.specs.Writing.{Writer, room_for}
use Rattle.ssh_kex.proofs.Drawn.{sends_both}
use Rattle.ssh_kex.proofs.Rooms.{fits_second, unrefused}
use Rattle.ssh_kex.proofs.message.put_both.Goals as goal

pub returns-clause-unchanged : goal.returns-clause-unchanged
returns-clause-unchanged g c =
    unrefused c.put_message-2.result _
    (c.put_message-2.ensures.room c.requires.short
    (fits_second c.reserve_output.new.self c.put_message.new.output c.args.first.now (length c.args.second.now) c.requires.first c.in_ok-put_message.ensures.puts c.put_message.ensures.spare
    (subst (λ (s : Sealing). room_for s (length c.args.first.now + length c.args.second.now) 2 ≤ c.reserve_output.new.self.room) (ap (λ (w : Writer). w.sealing) (sym c.reserve_output.ensures.unchanged)) c.in_ok-reserve_output.ensures.room)))

pub returns-clause-drawn : goal.returns-clause-drawn
returns-clause-drawn g c =
    sends_both c.put_message-2.result c.args.output.now c.reserve_output.new.self c.put_message.new.output c.put_message-2.new.output c.args.first.now c.args.second.now (g.R.Rng.stream c.args.rng.now) (g.R.Rng.stream c.put_message.new.rng) (g.R.Rng.stream c.put_message-2.new.rng)
    c.reserve_output.ensures.unchanged c.in_ok-put_message.ensures.drawn c.put_message-2.ensures.drawn
