-- Behind a step: how far both sides come, and that marks changed as the step asks.
use Rattle.std.proofs.Common.{◌≡◌, ℕ, suc, ◌+◌, ◌<◌, ◌≤◌, ◌^◌, List, length, take, refl, sym, ◌∙◌, ap, subst, arith, Option, Bool, true, false, if◌then◌else◌}
use Rattle.ssh_packet.specs.Sealing.{Item}
use Rattle.ssh_wire.specs.Sides.{other_side, same_side}
use Rattle.ssh_wire.specs.declared.side.Side.{Side}
use Rattle.ssh_wire.specs.declared.side.Side.TheVariants.{Client, Server}
use Rattle.ssh_rules.specs.Wire.{carried_payloads, epochs_ended}
use Rattle.ssh_rules.specs.Marks.{Half}
use Rattle.ssh_rules.specs.Run.{Effect, TakesNothing, mark_of}
use Rattle.ssh_rules.specs.declared.link.Mark.{Mark}
use Rattle.ssh_rules.specs.declared.link.SideMark.{SideMark}
use Rattle.ssh_rules.specs.declared.link.Step.{Step}
use Rattle.ssh_rules.specs.declared.link.Step.TheVariants.{Submit, Deliver, Rekey, Settle}
use Rattle.ssh_record.specs.Runs.{sent_at}
use Rattle.ssh_record.specs.declared.recording.SentPair.{SentPair}
use Rattle.ssh_record.proofs.Lemmas.{whole_one}
use Rattle.ssh_transcript.specs.declared.packet.Packet.{Packet}
use Rattle.ssh_judge.specs.Effects.{HasChanged, IsAsked, change_of, rekeyed_behind, sent_of, submitted_after, taken_after, taken_more}
use Rattle.ssh_judge.specs.Tallies.{Advances, IsKeptHalf, line_of}
use Rattle.ssh_judge.specs.Standing.{AreFactsOf, ComesSide, ComesTo, CountsOn, ShowsSide}
use Rattle.ssh_judge.specs.declared.side.Reach.{Reach}
use Rattle.ssh_judge.specs.declared.side.SideState.{SideState}
use Rattle.ssh_judge.proofs.Fronts.{advanced}

-- ---- marks alone

-- where a side's mark comes by a step, as far as no packet is asked
pub record Moves (step : Step) (side : Side) (m : Mark) (sent : SentPair) (a : SideMark) : Type 0 where
  pub sent_is : a.sent ≡ sent_of side sent
  pub taken_is : a.taken ≡ taken_after step side m sent
  pub submitted_is : a.submitted ≡ submitted_after step side (mark_of side m).submitted
  pub delivered_stays : a.taken ≡ (mark_of side m).taken → a.delivered ≡ (mark_of side m).delivered
  pub finished_stays : a.taken ≡ (mark_of side m).taken → a.finished ≡ (mark_of side m).finished

takes_nothing : (step : Step) (side : Side) (m : Mark) (sent : SentPair) (a : SideMark) → Moves step side m sent a → taken_after step side m sent ≡ (mark_of side m).taken → TakesNothing (mark_of side m) a
takes_nothing step side m sent a h e = record { taken = h.taken_is ∙ e; delivered = h.delivered_stays (h.taken_is ∙ e); finished = h.finished_stays (h.taken_is ∙ e) }

abbrev both_marks : SideMark → SideMark → Mark
both_marks a b = record { client = a; server = b }

-- marks that changed so are changed by the step
pub effect_by : (step : Step) (m : Mark) (sent : SentPair) (c s : SideState) → Moves step Client m sent c.mark → Moves step Server m sent s.mark → HasChanged step m c s → Effect step c.rekeyed s.rekeyed m (both_marks c.mark s.mark)
effect_by (Submit Client p) m sent c s mc ms h = (h.0, takes_nothing _ Client m sent c.mark mc refl, mc.submitted_is, h.1, h.2)
effect_by (Submit Server p) m sent c s mc ms h = (h.0, takes_nothing _ Server m sent s.mark ms refl, ms.submitted_is, h.1, h.2)
effect_by (Deliver Client n) m sent c s mc ms h = (h.0, mc.taken_is, mc.submitted_is, h.1)
effect_by (Deliver Server n) m sent c s mc ms h = (h.0, ms.taken_is, ms.submitted_is, h.1)
effect_by (Rekey Client) m sent c s mc ms h = (h.0, takes_nothing _ Client m sent c.mark mc refl, mc.submitted_is, h.1.inside, λ e. (h.1.sends e, h.1.begins e))
effect_by (Rekey Server) m sent c s mc ms h = (h.0, takes_nothing _ Server m sent s.mark ms refl, ms.submitted_is, h.1.inside, λ e. (h.1.sends e, h.1.begins e))
effect_by Settle m sent c s mc ms h = (
  record {
    to_client = h.0.taken;
    to_server = h.1.taken;
    client_outside = h.0.outside;
    server_outside = h.1.outside;
    client_delivered = h.0.delivered;
    server_delivered = h.1.delivered;
    same_finished = h.0.same_finished;
    finished = h.0.finished;
    client_rekeyed = h.0.rekeyed;
    server_rekeyed = h.1.rekeyed;
  },
  mc.submitted_is,
  ms.submitted_is,
  h.2,
  h.3,
)

-- and those that the step changes changed so
pub effect_so : (step : Step) (m : Mark) (c s : SideState) → Effect step c.rekeyed s.rekeyed m (both_marks c.mark s.mark) → HasChanged step m c s
effect_so (Submit Client p) m c s h = (h.0, h.3, h.4)
effect_so (Submit Server p) m c s h = (h.0, h.3, h.4)
effect_so (Deliver Client n) m c s h = (h.0, h.3)
effect_so (Deliver Server n) m c s h = (h.0, h.3)
effect_so (Rekey Client) m c s h = (h.0, record { inside = h.3; sends = λ e. (h.4 e).0; begins = λ e. (h.4 e).1 })
effect_so (Rekey Server) m c s h = (h.0, record { inside = h.3; sends = λ e. (h.4 e).0; begins = λ e. (h.4 e).1 })
effect_so Settle m c s h = (
  record { taken = h.0.to_client; outside = h.0.client_outside; delivered = h.0.client_delivered; same_finished = h.0.same_finished; finished = h.0.finished; rekeyed = h.0.client_rekeyed },
  record { taken = h.0.to_server; outside = h.0.server_outside; delivered = h.0.server_delivered; same_finished = sym h.0.same_finished; finished = subst (λ n. 1 ≤ n) h.0.same_finished h.0.finished; rekeyed = h.0.server_rekeyed },
  h.3,
  h.4,
)

-- ---- how far they come

stays_sent : (a b : SideMark) → a ≡ b → b.sent ≤ a.sent
stays_sent a b e = omega (arith, ap (λ (x : SideMark). x.sent) e)

asked_sent : (a b : SideMark) → IsAsked (change_of b a) → b.sent ≤ a.sent
asked_sent a b h = by b.inside refl where
  by : (t : Bool) → b.inside ≡ t → b.sent ≤ a.sent
  by true e = stays_sent a b (h.inside e)
  by false e = omega (arith, h.sends e)

-- no byte that was sent is gone where marks changed so
pub changed_grows : (step : Step) (m : Mark) (c s : SideState) → HasChanged step m c s → (m.client.sent ≤ c.mark.sent) × (m.server.sent ≤ s.mark.sent)
changed_grows (Submit Client p) m c s h = (h.1, stays_sent s.mark m.server h.0)
changed_grows (Submit Server p) m c s h = (stays_sent c.mark m.client h.0, h.1)
changed_grows (Deliver Client n) m c s h = (h.1, stays_sent s.mark m.server h.0)
changed_grows (Deliver Server n) m c s h = (stays_sent c.mark m.client h.0, h.1)
changed_grows (Rekey Client) m c s h = (asked_sent c.mark m.client h.1, stays_sent s.mark m.server h.0)
changed_grows (Rekey Server) m c s h = (stays_sent c.mark m.client h.0, asked_sent s.mark m.server h.1)
changed_grows Settle m c s h = (h.2, h.3)

-- nor where a step has its effect
pub effect_grows : (step : Step) (cb sb : Option ℕ) (m a : Mark) (side : Side) → Effect step cb sb m a → (mark_of side m).sent ≤ (mark_of side a).sent
effect_grows (Submit Client p) cb sb m a Client h = h.3
effect_grows (Submit Client p) cb sb m a Server h = stays_sent a.server m.server h.0
effect_grows (Submit Server p) cb sb m a Client h = stays_sent a.client m.client h.0
effect_grows (Submit Server p) cb sb m a Server h = h.3
effect_grows (Deliver Client n) cb sb m a Client h = h.3
effect_grows (Deliver Client n) cb sb m a Server h = stays_sent a.server m.server h.0
effect_grows (Deliver Server n) cb sb m a Client h = stays_sent a.client m.client h.0
effect_grows (Deliver Server n) cb sb m a Server h = h.3
effect_grows (Rekey Client) cb sb m a Client h = asked_sent a.client m.client (record { inside = h.3; sends = λ e. (h.4 e).0; begins = λ e. (h.4 e).1 })
effect_grows (Rekey Client) cb sb m a Server h = stays_sent a.server m.server h.0
effect_grows (Rekey Server) cb sb m a Client h = stays_sent a.client m.client h.0
effect_grows (Rekey Server) cb sb m a Server h = asked_sent a.server m.server (record { inside = h.3; sends = λ e. (h.4 e).0; begins = λ e. (h.4 e).1 })
effect_grows Settle cb sb m a Client h = h.3
effect_grows Settle cb sb m a Server h = h.4

-- nothing that was taken is given back
pub taken_grows : (step : Step) (side : Side) (m : Mark) (sent : SentPair) → (mark_of side m).taken ≤ sent_of (other_side side) sent → (mark_of side m).taken ≤ taken_after step side m sent
taken_grows (Submit s p) side m sent l = omega arith
taken_grows (Deliver s n) side m sent l = by (same_side s side) where
  by : (b : Bool) → (mark_of side m).taken ≤ (if b then taken_more (mark_of side m).taken (mark_of (other_side side) m).sent n else (mark_of side m).taken)
  by true = omega arith
  by false = omega arith
taken_grows (Rekey s) side m sent l = omega arith
taken_grows Settle side m sent l = l

-- what a step's effect takes, and what it submits
pub effect_taken : (step : Step) (cb sb : Option ℕ) (m a : Mark) (side : Side) → Effect step cb sb m a → (mark_of side a).taken ≡ taken_after step side m (sent_at a)
effect_taken (Submit Client p) cb sb m a Client h = h.1.taken
effect_taken (Submit Client p) cb sb m a Server h = ap (λ (t : SideMark). t.taken) h.0
effect_taken (Submit Server p) cb sb m a Client h = ap (λ (t : SideMark). t.taken) h.0
effect_taken (Submit Server p) cb sb m a Server h = h.1.taken
effect_taken (Deliver Client n) cb sb m a Client h = h.1
effect_taken (Deliver Client n) cb sb m a Server h = ap (λ (t : SideMark). t.taken) h.0
effect_taken (Deliver Server n) cb sb m a Client h = ap (λ (t : SideMark). t.taken) h.0
effect_taken (Deliver Server n) cb sb m a Server h = h.1
effect_taken (Rekey Client) cb sb m a Client h = h.1.taken
effect_taken (Rekey Client) cb sb m a Server h = ap (λ (t : SideMark). t.taken) h.0
effect_taken (Rekey Server) cb sb m a Client h = ap (λ (t : SideMark). t.taken) h.0
effect_taken (Rekey Server) cb sb m a Server h = h.1.taken
effect_taken Settle cb sb m a Client h = h.0.to_client
effect_taken Settle cb sb m a Server h = h.0.to_server

pub effect_submitted : (step : Step) (cb sb : Option ℕ) (m a : Mark) (side : Side) → Effect step cb sb m a → (mark_of side a).submitted ≡ submitted_after step side (mark_of side m).submitted
effect_submitted (Submit Client p) cb sb m a Client h = h.2
effect_submitted (Submit Client p) cb sb m a Server h = ap (λ (t : SideMark). t.submitted) h.0
effect_submitted (Submit Server p) cb sb m a Client h = ap (λ (t : SideMark). t.submitted) h.0
effect_submitted (Submit Server p) cb sb m a Server h = h.2
effect_submitted (Deliver Client n) cb sb m a Client h = h.2
effect_submitted (Deliver Client n) cb sb m a Server h = ap (λ (t : SideMark). t.submitted) h.0
effect_submitted (Deliver Server n) cb sb m a Client h = ap (λ (t : SideMark). t.submitted) h.0
effect_submitted (Deliver Server n) cb sb m a Server h = h.2
effect_submitted (Rekey Client) cb sb m a Client h = h.2
effect_submitted (Rekey Client) cb sb m a Server h = ap (λ (t : SideMark). t.submitted) h.0
effect_submitted (Rekey Server) cb sb m a Client h = ap (λ (t : SideMark). t.submitted) h.0
effect_submitted (Rekey Server) cb sb m a Server h = h.2
effect_submitted Settle cb sb m a Client h = h.1
effect_submitted Settle cb sb m a Server h = h.2

-- a step submits one payload at most
pub submitted_few : (step : Step) (side : Side) (n : ℕ) → submitted_after step side n ≤ suc n
submitted_few (Submit s p) side n = by (same_side s side) where
  by : (b : Bool) → (if b then n + 1 else n) ≤ suc n
  by true = omega arith
  by false = omega arith
submitted_few (Deliver s c) side n = omega arith
submitted_few (Rekey s) side n = omega arith
submitted_few Settle side n = omega arith

-- ---- packets

-- a side that came so far shows its packets again
pub came : (kind : Bool) (step : Step) (side : Side) (m : Mark) (sent : SentPair) (half other : Half) (own theirs : List Item) (own_kept their_kept : List Packet) (s s' : SideState) → IsKeptHalf kind half own own_kept → IsKeptHalf kind other theirs their_kept
    → ShowsSide half other own theirs own_kept their_kept s → ComesSide step side m sent their_kept s s' → s.mark.sent ≤ s'.mark.sent → s.mark.taken ≤ s'.mark.taken → ShowsSide half other own theirs own_kept their_kept s'
came kind step side m sent half other own theirs own_kept their_kept s s' w v h c more_sent more_taken =
    let on : CountsOn own_kept (sent_of side sent) s.own s'.own = subst (λ k. CountsOn k (sent_of side sent) s.own s'.own) h.facts.packets_are c.own in
    record {
      facts = subst (λ f. AreFactsOf half own_kept f) (sym c.facts) h.facts;
      counts_own = advanced kind half own own_kept s.own s'.own s'.mark.sent w (λ l. (let r = h.counts_own.reached l in omega (arith, r, more_sent)))
          (subst (λ k. Advances (line_of half) own own_kept k s.own s'.own) (sym c.sent_is) (on kind half own w h.counts_own.front));
      counts_theirs = advanced kind other theirs their_kept s.theirs s'.theirs s'.mark.taken v (λ l. (let r = h.counts_theirs.reached l in omega (arith, r, more_taken)))
          (subst (λ k. Advances (line_of other) theirs their_kept k s.theirs s'.theirs) (sym c.taken_is) (c.theirs kind other theirs v h.counts_theirs.front));
      delivered = c.delivered;
      finished = c.finished;
      inside = c.inside;
    }

-- a side that took nothing delivered and finished nothing
pub same_taken : (half other : Half) (own theirs : List Item) (own_kept their_kept : List Packet) (s s' : SideState) → ShowsSide half other own theirs own_kept their_kept s → ShowsSide half other own theirs own_kept their_kept s' → s'.mark.taken ≡ s.mark.taken → (s'.mark.delivered ≡ s.mark.delivered) × (s'.mark.finished ≡ s.mark.finished)
same_taken half other own theirs own_kept their_kept s s' h h' e =
    let one : take s'.theirs.packets theirs ≡ take s.theirs.packets theirs = whole_one other s'.mark.taken s.mark.taken (take s'.theirs.packets theirs) (take s.theirs.packets theirs) e h'.counts_theirs.whole h.counts_theirs.whole in
    let a = h.counts_theirs.front.counts in
    let b = h'.counts_theirs.front.counts in (
      h'.delivered ∙ (b.carried ∙ (ap (λ t. length (carried_payloads t)) one ∙ (sym a.carried ∙ sym h.delivered))),
      h'.finished ∙ (b.ended ∙ (ap epochs_ended one ∙ (sym a.ended ∙ sym h.finished))),
    )

-- ---- a side on its way

-- a side that comes so far comes to where the step leads
pub comes_side : (step : Step) (side : Side) (m : Mark) (sent : SentPair) (others : List Packet) (reach : Reach) (s mid s' : SideState) → mid ≡ record s { rekeyed = rekeyed_behind step s.facts.side s.mark.finished s.rekeyed } → reach.sent ≡ sent_of side sent → reach.taken ≡ taken_after step side m sent
    → ((mark_of side m).submitted + 1 < 2 ^ 64 → reach.submitted ≡ submitted_after step side (mark_of side m).submitted) → ComesTo others reach mid s' → ComesSide step side m sent others s s'
comes_side step side m sent others reach s mid s' e f g u c = record {
  facts = c.facts ∙ ap (λ (x : SideState). x.facts) e;
  own = subst (λ n. CountsOn s.facts.packets.now n s.own s'.own) f (subst (λ (x : SideState). CountsOn x.facts.packets.now reach.sent x.own s'.own) e c.own);
  theirs = subst (λ n. CountsOn others n s.theirs s'.theirs) g (subst (λ (x : SideState). CountsOn others reach.taken x.theirs s'.theirs) e c.theirs);
  causes = c.causes ∙ ap (λ (x : SideState). x.causes) e;
  rekeyed = c.rekeyed ∙ ap (λ (x : SideState). x.rekeyed) e;
  sent_is = c.sent ∙ f;
  taken_is = c.taken ∙ g;
  submitted_is = λ l. c.submitted ∙ u l;
  delivered = c.delivered;
  finished = c.finished;
  inside = c.inside;
}
