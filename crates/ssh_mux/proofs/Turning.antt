-- The turns of a settle don't run out: each makes a message, and fewer are to be made than it has turns.
use Rattle.std.proofs.Common.{◌≡◌, ◌⊎◌, inl, inr, ℕ, zero, suc, ◌+◌, ◌-◌, ◌^◌, ◌<◌, ◌≤◌, min, Bool, true, List, [], ◌∷◌, ◌++◌, length, get_or, take, refl, sym, ap, ◌∙◌, subst, length-append, arith}
use Rattle.std.proofs.lemmas.List.{take_more}
use Rattle.ssh_wire.specs.declared.side.Side.{Side}
use Rattle.ssh_wire.specs.declared.side.Side.TheVariants.{Client, Server}
use Rattle.ssh_rules.specs.Headline.{submitted_by}
use Rattle.ssh_rules.specs.declared.link.Step.{Step}
use Rattle.ssh_rules.specs.declared.link.Step.TheVariants as steps
use Rattle.ssh_run.specs.Carrying.{CarriedLink}
use Rattle.ssh_run.specs.Stepping.{LinkState, first_link_state}
use Rattle.ssh_record.proofs.Lemmas.{front_length}
use Rattle.ssh_channels.specs.Laws.{AreSettings}
use Rattle.ssh_talks.specs.Making.{still_made}
use Rattle.ssh_mux.specs.Pairs.{are_within}
use Rattle.ssh_mux.specs.Running.{Carries, HasReceived, LinkGoes, PairOnLink, first_on_link, request_of, state_at}
use Rattle.ssh_mux.specs.Stopping.{RunsOut, TurnsOn, TurnsOnce, submitted_in, turns_after, turns_behind}
use Rattle.ssh_mux.specs.declared.pair.PairConfig.{PairConfig}
use Rattle.ssh_mux.specs.declared.step.ChannelStep.{ChannelStep}
use Rattle.ssh_mux.specs.declared.step.ChannelStep.TheVariants.{Start, Write, Read, Eof, Close, Deliver, Rekey, Settle}
use Rattle.ssh_mux.proofs.Honesty.{IsAtMoment, added_in, asked_in, at_called, at_carries, at_first, at_steps, before_self, before_then, carries_before, made_in, runs_marked, settings, submitted_on}
use Rattle.ssh_mux.proofs.OnTime.{IsBefore, IsMarkedLink, MakesHonest, submitted_front}

-- ---- how many messages are submitted

before_submitted : (a b : LinkState) → IsBefore a b → submitted_in a ≤ submitted_in b
before_submitted a b h =
    let c = front_length _ _ (submitted_front Client b.steps a.steps h.steps) in
    let s = front_length _ _ (submitted_front Server b.steps a.steps h.steps) in
    omega (arith, c, s)

pub carries_submitted : (a b : PairOnLink) → Carries a b → submitted_in a.link ≤ submitted_in b.link
carries_submitted a b h = before_submitted a.link b.link (carries_before h.0 a b h.1)

goes_counted : (side : Side) (step : Step) (a b : LinkState) → LinkGoes step a b → length (submitted_by side b.steps) ≡ length (submitted_by side a.steps) + length (submitted_by side (step ∷ []))
goes_counted side step a b t =
    ap (λ l. length (submitted_by side l)) t.steps ∙ (ap length (submitted_on side a.steps step) ∙ length-append (submitted_by side a.steps) (submitted_by side (step ∷ [])))

-- a payload that is submitted counts
pub submit_counted : (side : Side) (payload : List ℕ) (a b : LinkState) → LinkGoes (steps.Submit side payload) a b → submitted_in b ≡ suc (submitted_in a)
submit_counted Client payload a b t = (let c = goes_counted Client (steps.Submit Client payload) a b t in let s = goes_counted Server (steps.Submit Client payload) a b t in omega (arith, c, s))
submit_counted Server payload a b t = (let c = goes_counted Client (steps.Submit Server payload) a b t in let s = goes_counted Server (steps.Submit Server payload) a b t in omega (arith, c, s))

-- no more are submitted than there are steps
few_submitted : (l : List Step) → length (submitted_by Client l) + length (submitted_by Server l) ≤ length l
few_submitted [] = omega arith
few_submitted (steps.Submit Client p ∷ l) = (let r = few_submitted l in omega (arith, r))
few_submitted (steps.Submit Server p ∷ l) = (let r = few_submitted l in omega (arith, r))
few_submitted (steps.Deliver side n ∷ l) = (let r = few_submitted l in omega (arith, r))
few_submitted (steps.Rekey side ∷ l) = (let r = few_submitted l in omega (arith, r))
few_submitted (steps.Settle ∷ l) = (let r = few_submitted l in omega (arith, r))

-- what is left to submit
pub next_counted : (side : Side) (payload : List ℕ) (left rest : List (List ℕ)) (n : ℕ) (a b : LinkState) → left ≡ payload ∷ rest → LinkGoes (steps.Submit side payload) a b → submitted_in a + length left ≡ n → submitted_in b + length rest ≡ n
next_counted side payload left rest n a b e t c = (let s = submit_counted side payload a b t in let l = ap length e in omega (arith, s, l, c))

-- ---- one turn

pub turned_once : (old mid new last : PairOnLink) (client server : Bool) → Carries old mid → Carries mid new → Carries new last → (state_at Client new.both).made ≡ [] → HasReceived Server new.link new.both last.both
    → (client ≡ true → submitted_in mid.link < submitted_in new.link) → (server ≡ true → submitted_in new.link < submitted_in last.link) → Carries old last → (client ≡ true) ⊎ (server ≡ true) → TurnsOnce old last
turned_once old mid new last client server a b c made r of_client of_server whole some = record {
  carries = whole;
  client_made = ap (λ x. x.mux.made) r.other ∙ made;
  server_made = r.made;
  some = by some;
}
  where
    by : (client ≡ true) ⊎ (server ≡ true) → submitted_in old.link < submitted_in last.link
    by (inl e) = (let p = carries_submitted old mid a in let q = of_client e in let s = carries_submitted new last c in omega (arith, p, q, s))
    by (inr e) = (let p = carries_submitted old mid a in let q = carries_submitted mid new b in let s = of_server e in omega (arith, p, q, s))

-- ---- some turns

turns_before : (n : ℕ) (a b : PairOnLink) → TurnsOn n a b → IsBefore a.link b.link
turns_before zero a b e = subst (λ (x : PairOnLink). IsBefore a.link x.link) (sym e) (before_self a.link)
turns_before (suc n) a b h = before_then a.link h.0.link b.link (turns_before n a h.0 h.1) (carries_before h.2.carries.0 h.0 b h.2.carries.1)

turns_submitted : (n : ℕ) (a b : PairOnLink) → TurnsOn n a b → n ≤ submitted_in b.link
turns_submitted zero a b e = omega arith
turns_submitted (suc n) a b h = (let r = turns_submitted n a h.0 h.1 in let s = h.2.some in omega (arith, r, s))

-- where nothing is left to submit, all that was made was submitted
all_submitted : (s : PairOnLink) → (state_at Client s.both).made ≡ [] → (state_at Server s.both).made ≡ [] → made_in s ≡ submitted_in s.link
all_submitted s c d =
    let a = length-append (submitted_by Client s.link.steps) (state_at Client s.both).made in
    let b = length-append (submitted_by Server s.link.steps) (state_at Server s.both).made in
    let e = ap length c in
    let f = ap length d in
    omega (arith, a, b, e, f)

-- Behind some turns: each but the first made a message that was to be made before the first.
record IsTurned (w m v k turns most : ℕ) (s : PairOnLink) : Type 0 where
  pub at : IsAtMoment w m v k s
  pub marked : IsMarkedLink s.link
  pub client_made : (state_at Client s.both).made ≡ []
  pub server_made : (state_at Server s.both).made ≡ []
  pub left : still_made at.pair + turns ≤ most

turned : (w m v k : ℕ) → AreSettings w m v k → (last : LinkState) → MakesHonest last → (n : ℕ) (old new : PairOnLink) → IsMarkedLink old.link → IsBefore new.link last → (x : IsAtMoment w m v k old) → TurnsOn (suc n) old new
    → IsTurned w m v k n (still_made x.pair) new
turned w m v k are last honest zero old new marked before x h =
    let t = subst (λ b. TurnsOnce b new) h.1 h.2 in
    let c = at_carries w m v k are last honest t.carries.0 old new marked before x t.carries.1 in
    record { at = c.0.at; marked = c.1; client_made = t.client_made; server_made = t.server_made; left = (let p = c.0.fewer in let q = c.0.more in omega (arith, p, q)) }
turned w m v k are last honest (suc n) old new marked before x h =
    let t = h.2 in
    let r = turned w m v k are last honest n old h.0 marked (before_then h.0.link new.link last (carries_before t.carries.0 h.0 new t.carries.1) before) x h.1 in
    let c = at_carries w m v k are last honest t.carries.0 h.0 new r.marked before r.at t.carries.1 in
    record {
      at = c.0.at;
      marked = c.1;
      client_made = t.client_made;
      server_made = t.server_made;
      left = (
          let p = c.0.fewer in
          let q = all_submitted h.0 r.client_made r.server_made in
          let s = all_submitted new t.client_made t.server_made in
          let u = t.some in
          let l = r.left in
          omega (arith, p, q, s, u, l));
    }

pub turns_more : (n : ℕ) (old mid new : PairOnLink) → TurnsOn n old mid → TurnsOnce mid new → TurnsOn (n + 1) old new
turns_more n old mid new h t = subst (λ k. TurnsOn k old new) (let e : suc n ≡ n + 1 = omega arith in e) (mid, h, t)

-- all turns
pub turns_all : (n turns : ℕ) (old new : PairOnLink) → n ≤ turns → turns ≤ n → TurnsOn n old new → TurnsOn turns old new
turns_all n turns old new p q h = subst (λ k. TurnsOn k old new) (let e : n ≡ turns = omega (arith, p, q) in e) h

-- ---- how many turns there are

behind_enough : (step : ChannelStep) (turns : ℕ) → min (turns + added_in (request_of step)) (2 ^ 64 - 1) ≤ turns_behind step turns
behind_enough (Start side) turns = omega arith
behind_enough (Write side channel bytes) turns = omega arith
behind_enough (Read side channel n) turns = omega arith
behind_enough (Eof side channel) turns = omega arith
behind_enough (Close side channel) turns = omega arith
behind_enough (Deliver side count) turns = omega arith
behind_enough (Rekey side) turns = omega arith
behind_enough Settle turns = omega arith

after_enough : (steps : List ChannelStep) (turns : ℕ) → min (turns + asked_in steps) (2 ^ 64 - 1) ≤ turns_after turns steps
after_enough [] turns = omega arith
after_enough (step ∷ steps) turns = (let a = behind_enough step turns in let b = after_enough steps (turns_behind step turns) in omega (arith, a, b))

asked_more : (done : List ChannelStep) (step : ChannelStep) → asked_in (done ++ step ∷ []) ≡ asked_in done + added_in (request_of step)
asked_more [] step = omega arith
asked_more (s ∷ done) step = (let r = asked_more done step in omega (arith, r))

pub after_more : (turns : ℕ) (done : List ChannelStep) (step : ChannelStep) → turns_after turns (done ++ step ∷ []) ≡ turns_behind step (turns_after turns done)
after_more turns [] step = refl
after_more turns (s ∷ done) step = after_more (turns_behind s turns) done step

pub next_turns : (all : List ChannelStep) (i : ℕ) (step item : ChannelStep) (turns now : ℕ) → i < length all → item ≡ get_or all i item → step ≡ item → turns ≡ turns_after 2 (take i all) → now ≡ turns_behind step turns → now ≡ turns_after 2 (take (i + 1) all)
next_turns all i step item turns now h is p t n =
    n ∙ (ap (turns_behind step) t ∙ (sym (after_more 2 (take i all) step) ∙ ap (turns_after 2) (ap (λ x. take i all ++ x ∷ []) (p ∙ is) ∙ sym (take_more all i item h))))

-- ---- a whole run

-- so many turns behind a call aren't taken
no_turns : (w m v k : ℕ) → AreSettings w m v k → (last : LinkState) → MakesHonest last → length last.steps < 2 ^ 63 → (n most : ℕ) (old new : PairOnLink) → IsMarkedLink old.link → IsBefore new.link last → (x : IsAtMoment w m v k old) → still_made x.pair ≤ most
    → min (2 + most) (2 ^ 64 - 1) ≤ n → TurnsOn n old new → ⊥
no_turns w m v k are last honest few zero most old new marked before x s enough h = omega (arith, enough)
no_turns w m v k are last honest few (suc n) most old new marked before x s enough h =
    let t = turned w m v k are last honest n old new marked before x h in
    let l = t.left in
    let a = turns_submitted (suc n) old new h in
    let b = before_submitted new.link last before in
    let c = few_submitted last.steps in
    omega (arith, few, s, enough, l, a, b, c)

pub never_out : (config : PairConfig) → are_within config ≡ true → (first : CarriedLink) (last : PairOnLink) → MakesHonest last.link → length last.link.steps < 2 ^ 63 → RunsOut 2 (first_on_link config first) last → ⊥
never_out config within first last honest few b =
    let w = config.client.window in
    let m = config.client.largest in
    let v = config.server.window in
    let k = config.server.largest in
    let are = settings config within in
    let called : PairOnLink = record { both = b.out.called; link = b.mid.link } in
    let marked : IsMarkedLink (first_link_state first) = record { many = refl; last = refl } in
    let before : IsBefore b.mid.link last.link = turns_before _ called last b.out.turned in
    let x = at_steps w m v k are last.link honest b.done 0 (first_on_link config first) b.mid marked before (at_first config first) b.run in
    let y = at_called w m v k (request_of b.step) b.mid b.out.called x.at b.out.call in
    no_turns w m v k are last.link honest few (turns_after 2 (b.done ++ b.step ∷ [])) (asked_in (b.done ++ b.step ∷ [])) called last (runs_marked b.done (first_on_link config first) b.mid marked b.run) (before_self last.link) y.at
    (let a = x.few in let c = y.few in let e = asked_more b.done b.step in omega (arith, a, c, e))
    (after_enough (b.done ++ b.step ∷ []) 2) b.out.turned
