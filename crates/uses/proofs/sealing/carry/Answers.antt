use Rattle.std.proofs.Common.{length, ◌≤◌, Ok, ap, ◌∙◌, arith}
use Rattle.ssh_packet.specs.Keys.{opening_of}
use Rattle.uses.proofs.Carrying.{on_its_way, carried_over, hands_out, nothing_else}
use Rattle.uses.proofs.sealing.carry.Goals as goal

pub returns-in_ok-from_slice-in-Some-clause-same : goal.returns-in_ok-from_slice-in-Some-clause-same
returns-in_ok-from_slice-in-Some-clause-same g c =
    let way = on_its_way c.args.writer.now c.packet_raw.new.self c.args.reader.now c.push.new.self (opening_of c.args.key.now) c.args.payload.now _ (g.R.Rng.stream c.args.rng.now) c.requires.some c.requires.before c.in_ok-packet_raw.ensures.sent c.in_ok-packet_raw.ensures.admissible c.output.ensures c.in_ok-push.ensures.ok in
    let hands = hands_out _ _ _ _ _ c.in-Some.incoming (c.in_ok-incoming.was ∙ ap Ok c.in-Some.is) c.next.follows.holds-at-none in
    let all : length c.packet_raw.new.self.output ≤ length c.output-sent.result.now = omega (arith, ap length c.output-sent.ensures) in
    c.in_ok-from_slice-in-Some.ensures.items ∙ (carried_over c.one_packet.ensures _ _ _ _ _ _ _ _ _ _ _ _ way all c.consume_output.ensures hands).0

pub returns-in_ok-from_slice-in-Some-clause-after : goal.returns-in_ok-from_slice-in-Some-clause-after
returns-in_ok-from_slice-in-Some-clause-after g c =
    let way = on_its_way c.args.writer.now c.packet_raw.new.self c.args.reader.now c.push.new.self (opening_of c.args.key.now) c.args.payload.now _ (g.R.Rng.stream c.args.rng.now) c.requires.some c.requires.before c.in_ok-packet_raw.ensures.sent c.in_ok-packet_raw.ensures.admissible c.output.ensures c.in_ok-push.ensures.ok in
    let hands = hands_out _ _ _ _ _ c.in-Some.incoming (c.in_ok-incoming.was ∙ ap Ok c.in-Some.is) c.next.follows.holds-at-none in
    let all : length c.packet_raw.new.self.output ≤ length c.output-sent.result.now = omega (arith, ap length c.output-sent.ensures) in
    (carried_over c.one_packet.ensures _ _ _ _ _ _ _ _ _ _ _ _ way all c.consume_output.ensures hands).1

pub returns-in_err-incoming-clause-causes : goal.returns-in_err-incoming-clause-causes
returns-in_err-incoming-clause-causes g c =
    let way = on_its_way c.args.writer.now c.packet_raw.new.self c.args.reader.now c.push.new.self (opening_of c.args.key.now) c.args.payload.now _ (g.R.Rng.stream c.args.rng.now) c.requires.some c.requires.before c.in_ok-packet_raw.ensures.sent c.in_ok-packet_raw.ensures.admissible c.output.ensures c.in_ok-push.ensures.ok in
    let found = nothing_else c.front_whole.ensures _ _ _ _ _ _ _ _ _ way c.next.result c.next.follows.holds-at-none in
    let there = found.1 in
    let other = c.in_err-incoming.was in
    absurd (let bad : ⊥ = cc in bad)

pub returns-in-None-clause-causes : goal.returns-in-None-clause-causes
returns-in-None-clause-causes g c =
    let way = on_its_way c.args.writer.now c.packet_raw.new.self c.args.reader.now c.push.new.self (opening_of c.args.key.now) c.args.payload.now _ (g.R.Rng.stream c.args.rng.now) c.requires.some c.requires.before c.in_ok-packet_raw.ensures.sent c.in_ok-packet_raw.ensures.admissible c.output.ensures c.in_ok-push.ensures.ok in
    let found = nothing_else c.front_whole.ensures _ _ _ _ _ _ _ _ _ way c.next.result c.next.follows.holds-at-none in
    let there = found.1 in
    let other = c.in_ok-incoming.was in
    absurd (let bad : ⊥ = cc in bad)
