-- A side's mark is one of a run exactly where its counts say so.
use Rattle.std.proofs.Common.{◌≡◌, ◌⊎◌, ◌↔◌, inl, inr, ℕ, ◌-◌, ◌<◌, ◌≤◌, max, List, length, take, map, sym, ◌∙◌, ap, subst, arith, Some, Bool, IsTrue}
use Rattle.std.proofs.lemmas.Bool.{cases_lt}
use Rattle.ssh_packet.specs.Sealing.{Item}
use Rattle.ssh_packet.specs.Stream.{first_place}
use Rattle.ssh_wire.specs.Lines.{id_line}
use Rattle.ssh_wire.specs.declared.side.Side.{Side}
use Rattle.ssh_kex.specs.Exchange.{outgoing}
use Rattle.ssh_rules.specs.Wire.{InBlocks, exchange_block}
use Rattle.ssh_rules.specs.Marks.{Half, IsMarked, due, epoch, kexinits, payload_bytes}
use Rattle.ssh_rules.specs.MessageTypes.{order}
use Rattle.ssh_transcript.specs.declared.packet.Packet.{Packet}
use Rattle.ssh_judge.specs.Tallies.{IsKeptHalf, end_behind, line_of}
use Rattle.ssh_judge.specs.Standing.{ShowsSide, StandsMarked}
use Rattle.ssh_judge.specs.declared.side.SideState.{SideState}
use Rattle.ssh_judge.proofs.Fronts.{ends_grow, sent_ends, unbegun}

-- how many messages of the exchange that was begun last were read
read_same : (O T : List Item) (n : ℕ) → (0 < kexinits T → n ≡ length (exchange_block (kexinits T - 1) T)) → 0 < kexinits O → kexinits T ≡ kexinits O → n ≡ length (exchange_block (kexinits O - 1) T)
read_same O T n m l e = m (omega (arith, l, e)) ∙ ap (λ k. length (exchange_block (k - 1) T)) e

read_less : (side : Side) (kind : Bool) (O : List Item) (theirs : List Item) (c : ℕ) → InBlocks side (λ m. kind) 1 (order side kind) theirs → kexinits (take c theirs) < kexinits O → length (exchange_block (kexinits O - 1) (take c theirs)) ≡ 0
read_less side kind O theirs c b l = ap length (unbegun side kind theirs c (kexinits O - 1) b (omega (arith, l)))

-- a side's counts say that its mark is one of a run
pub marked_by : (kind : Bool) (half other : Half) (own theirs : List Item) (own_kept their_kept : List Packet) (s o : SideState) → IsKeptHalf kind half own own_kept → IsKeptHalf kind other theirs their_kept → ShowsSide half other own theirs own_kept their_kept s → o.facts.line ≡ line_of other → StandsMarked s o kind
    → IsMarked kind half other s.mark o.mark (take s.own.packets own) (take s.theirs.packets theirs)
marked_by kind half other own theirs own_kept their_kept s o w v shows line h =
    let O = take s.own.packets own in
    let T = take s.theirs.packets theirs in
    let co = shows.counts_own.front.counts in
    let ct = shows.counts_theirs.front.counts in
    let ends : end_behind (line_of half) own_kept s.own.packets ≡ s.mark.sent = sym shows.counts_own.front.ends ∙ h.at_packets.sent in
    let reach : line_of half ≤ s.mark.sent = (let g = ends_grow (Some (first_place (map (outgoing half.side) half.exchanges))) (line_of half) own own_kept s.own.packets w.are in omega (arith, g, ends)) in
    let within : s.mark.sent ≤ length half.wire = (let g = h.at_packets.within in let e = shows.facts.length_is in omega (arith, g, e)) in
    let begun : s.own.kexinits ≡ kexinits O = co.begun in
    let heard : s.theirs.kexinits ≡ kexinits T = ct.begun in
    record {
      sent = (sent_ends kind half own own_kept w s.own.packets s.mark.sent shows.counts_own.front.within reach within shows.counts_own.whole).0 ends;
      reaches = reach;
      within = within;
      taken = h.at_packets.taken;
      taken_whole = shows.counts_theirs.whole;
      delivered = shows.delivered ∙ ct.carried;
      finished = shows.finished ∙ ct.ended;
      inside = subst (λ k. IsTrue s.mark.inside ↔ (s.mark.finished < max 1 k)) begun shows.inside;
      outside_sent = λ e. subst (λ k. s.mark.submitted ≤ k) co.carried (h.quiet.sent e);
      outside_written = λ e. subst (λ k. payload_bytes (epoch O) < k) shows.facts.write_is (subst (λ k. k < s.facts.write_limit) co.written (h.quiet.written e));
      outside_read = λ e. subst (λ k. payload_bytes (epoch T) < k) shows.facts.read_is (subst (λ k. k < s.facts.read_limit) ct.written (h.quiet.read e));
      starts = subst (λ k. (0 < k) ↔ (length (id_line other.config.id) ≤ s.mark.taken)) begun (subst (λ k. (0 < s.own.kexinits) ↔ (k ≤ s.mark.taken)) line h.started);
      answers = subst (λ k. kexinits T ≤ max 1 k) begun (subst (λ k. k ≤ max 1 s.own.kexinits) heard h.prompt.answers);
      prompt = λ l. prompted l (cases_lt (kexinits T) (kexinits O));
    }
  where
    side_due : (n : ℕ) → due s.facts.side kind n ≡ due half.side kind n
    side_due n = ap (λ x. due x kind n) shows.facts.side_is

    prompted : 0 < kexinits (take s.own.packets own) → ((kexinits (take s.theirs.packets theirs) < kexinits (take s.own.packets own)) ⊎ (kexinits (take s.own.packets own) ≤ kexinits (take s.theirs.packets theirs)))
        → length (exchange_block (kexinits (take s.own.packets own) - 1) (take s.own.packets own)) ≡ due half.side kind (length (exchange_block (kexinits (take s.own.packets own) - 1) (take s.theirs.packets theirs)))
    prompted l (inl less) =
        let co = shows.counts_own.front.counts in
        let ct = shows.counts_theirs.front.counts in
        sym (co.messages l) ∙ (h.prompt.less (let b = co.begun in omega (arith, l, b)) (let b = co.begun in let t = ct.begun in omega (arith, less, b, t)) ∙ (side_due 0 ∙ ap (due half.side kind) (sym (read_less other.side kind (take s.own.packets own) theirs s.theirs.packets v.blocks less))))
    prompted l (inr le) =
        let co = shows.counts_own.front.counts in
        let ct = shows.counts_theirs.front.counts in
        let same : kexinits (take s.theirs.packets theirs) ≡ kexinits (take s.own.packets own) = (let b = co.begun in let t = ct.begun in let a = h.prompt.answers in omega (arith, l, le, a, b, t)) in
        sym (co.messages l) ∙ (h.prompt.same (let b = co.begun in omega (arith, l, b)) (ct.begun ∙ (same ∙ sym co.begun)) ∙ (side_due s.theirs.messages ∙ ap (due half.side kind) (read_same (take s.own.packets own) (take s.theirs.packets theirs) s.theirs.messages ct.messages l same)))

-- and say so wherever it is
pub marked_so : (kind : Bool) (half other : Half) (own theirs : List Item) (own_kept their_kept : List Packet) (s o : SideState) → IsKeptHalf kind half own own_kept → IsKeptHalf kind other theirs their_kept → ShowsSide half other own theirs own_kept their_kept s → o.facts.line ≡ line_of other
    → IsMarked kind half other s.mark o.mark (take s.own.packets own) (take s.theirs.packets theirs) → StandsMarked s o kind
marked_so kind half other own theirs own_kept their_kept s o w v shows line m =
    let O = take s.own.packets own in
    let T = take s.theirs.packets theirs in
    let co = shows.counts_own.front.counts in
    let ct = shows.counts_theirs.front.counts in
    let begun : s.own.kexinits ≡ kexinits O = co.begun in
    let heard : s.theirs.kexinits ≡ kexinits T = ct.begun in
    let ends : end_behind (line_of half) own_kept s.own.packets ≡ s.mark.sent = (sent_ends kind half own own_kept w s.own.packets s.mark.sent shows.counts_own.front.within m.reaches m.within shows.counts_own.whole).1 m.sent in
    record {
      at_packets = record { sent = shows.counts_own.front.ends ∙ ends; within = subst (λ k. s.mark.sent ≤ k) (sym shows.facts.length_is) m.within; taken = m.taken };
      quiet = record {
        sent = λ e. subst (λ k. s.mark.submitted ≤ k) (sym co.carried) (m.outside_sent e);
        written = λ e. subst (λ k. s.own.epoch_bytes < k) (sym shows.facts.write_is) (subst (λ k. k < half.config.limits.rekey_write_limit) (sym co.written) (m.outside_written e));
        read = λ e. subst (λ k. s.theirs.epoch_bytes < k) (sym shows.facts.read_is) (subst (λ k. k < half.config.limits.rekey_read_limit) (sym ct.written) (m.outside_read e));
      };
      started = subst (λ k. (0 < s.own.kexinits) ↔ (k ≤ s.mark.taken)) (sym line) (subst (λ k. (0 < k) ↔ (length (id_line other.config.id) ≤ s.mark.taken)) (sym begun) m.starts);
      prompt = record {
        answers = subst (λ k. k ≤ max 1 s.own.kexinits) (sym heard) (subst (λ k. kexinits T ≤ max 1 k) (sym begun) m.answers);
        same = λ l e. (let l' : 0 < kexinits O = omega (arith, l, begun) in let same : kexinits T ≡ kexinits O = sym heard ∙ (e ∙ begun) in
            co.messages l' ∙ (m.prompt l' ∙ (ap (due half.side kind) (sym (read_same O T s.theirs.messages ct.messages l' same)) ∙ sym (ap (λ x. due x kind s.theirs.messages) shows.facts.side_is))));
        less = λ l e. (let l' : 0 < kexinits O = omega (arith, l, begun) in let less : kexinits T < kexinits O = omega (arith, e, begun, heard) in
            co.messages l' ∙ (m.prompt l' ∙ (ap (due half.side kind) (read_less other.side kind O theirs s.theirs.packets v.blocks less) ∙ sym (ap (λ x. due x kind 0) shows.facts.side_is))));
      };
    }
