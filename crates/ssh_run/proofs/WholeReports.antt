-- A run's report is whole: its marks, and that both sides rest behind each settle, whatever the parts are.
use Rattle.std.proofs.Common.{◌≡◌, ℕ, zero, suc, ◌+◌, ◌<◌, ◌≤◌, ◌^◌, Bool, true, false, not, List, [], ◌∷◌, ◌++◌, length, map, take, append_assoc, append-nil, length-append, slice_get, Some, refl, sym, ap, ◌∙◌, subst, arith}
use Rattle.ssh_wire.specs.declared.side.Side.TheVariants.{Client, Server}
use Rattle.ssh_kex.specs.Setting.{Says}
use Rattle.ssh_kex.specs.declared.config.Config.{Config}
use Rattle.ssh_rules.specs.Headline.{bound_of}
use Rattle.ssh_rules.specs.Log.{sent_bytes}
use Rattle.ssh_rules.specs.Machine.{Event}
use Rattle.ssh_rules.specs.Standing.{Acts, RekeyedFrom, Standing, is_outside}
use Rattle.ssh_rules.specs.declared.link.LinkReport.{LinkReport}
use Rattle.ssh_rules.specs.declared.link.Mark.{Mark}
use Rattle.ssh_rules.specs.declared.link.Step.{Step}
use Rattle.ssh_rules.specs.declared.link.Step.TheVariants.{Submit, Deliver, Rekey, Settle}
use Rattle.ssh_run.specs.Carrying.{CarriedEnd, CarriedLink, CarriesTo, FewBegun, FewBehind, IsCarried, IsNewLink, RepeatsTurns, SettlesAll, StepsLink, StepsLinks, TakesTurns, both_marks, bound_behind, last_link}
use Rattle.ssh_run.specs.Reports.{BothRest, IsWholeReport}
use Rattle.ssh_run.proofs.LinkSoFar.{as_many, bound_on}

-- ---- no side took more than the other sent

pub record AreWithin (l : CarriedLink) : Type 0 where
  pub of_client : l.client.taken ≤ length l.server.transport.output
  pub of_server : l.server.taken ≤ length l.client.transport.output

abbrev Grows : CarriedEnd → CarriedEnd → Type 0
Grows old new = length old.transport.output ≤ length new.transport.output

acts_grow : (says : Says) (old : Standing) (events : List Event) (new : Standing) → Acts says old events new → length old.output ≤ length new.output
acts_grow says old events new a = (let e = ap length a.output in let f = length-append old.output (sent_bytes old.side old.state.writing events) in omega (arith, e, f))

carry_grows : (says : Says) (old : CarriedEnd) (wire : List ℕ) (n : ℕ) (new : CarriedEnd) → CarriesTo says old wire n new → Grows old new
carry_grows says old wire n new h = (let a = acts_grow says old.transport h.call.events h.fed h.call.acts in let e = ap (λ (t : Standing). length t.output) h.transport in omega (arith, a, e))

rekey_grows : (says : Says) (outside : Bool) (old new : Standing) → RekeyedFrom outside says old new → length old.output ≤ length new.output
rekey_grows says true old new h = acts_grow says old _ new h.acts
rekey_grows says false old new h = (let e = ap (λ (t : Standing). length t.output) h in omega (arith, e))

carry_within : (says : Says) (old : CarriedEnd) (wire : List ℕ) (n : ℕ) (new : CarriedEnd) → CarriesTo says old wire n new → old.taken ≤ length wire → new.taken ≤ length wire
carry_within says old wire n new h w = (let e = h.taken in omega (arith, e, w))

stays_within : (old new : CarriedEnd) (sent sent' : ℕ) → new.taken ≡ old.taken → sent ≤ sent' → old.taken ≤ sent → new.taken ≤ sent'
stays_within old new sent sent' e g w = omega (arith, e, g, w)

same_taken : (old new : CarriedEnd) → new ≡ old → new.taken ≡ old.taken
same_taken old new e = ap (λ (x : CarriedEnd). x.taken) e

same_sent : (old new : CarriedEnd) → new ≡ old → Grows old new
same_sent old new e = (let f = ap (λ (x : CarriedEnd). length x.transport.output) e in omega (arith, f))

turns_within : (c s : Says) (old new : CarriedLink) → TakesTurns c s old new → AreWithin old → AreWithin new
turns_within c s old new h w =
    let g = carry_grows s old.server old.client.transport.output _ new.server h.to_server in
    let k = carry_grows c old.client new.server.transport.output _ new.client h.to_client in
    let a = carry_within s old.server old.client.transport.output _ new.server h.to_server w.of_server in
    let v = w.of_client in
    record {
      of_client = carry_within c old.client new.server.transport.output _ new.client h.to_client (omega (arith, g, v));
      of_server = omega (arith, a, k);
    }

repeats_within : (c s : Says) (n : ℕ) (old new : CarriedLink) → RepeatsTurns c s n old new → AreWithin old → AreWithin new
repeats_within c s zero old new h w = subst AreWithin (sym h) w
repeats_within c s (suc n) old new h w = turns_within c s h.0 new h.2 (repeats_within c s n old h.0 h.1 w)

step_within : (c s : Says) (step : Step) (old new : CarriedLink) → StepsLink c s step old new → AreWithin old → AreWithin new
step_within c s (Submit Client p) old new h w = record {
  of_client = stays_within old.client new.client _ _ h.0.taken (same_sent old.server new.server h.1) w.of_client;
  of_server = stays_within old.server new.server _ _ (same_taken old.server new.server h.1) (acts_grow c old.client.transport h.0.call.events new.client.transport h.0.call.acts) w.of_server;
}
step_within c s (Submit Server p) old new h w = record {
  of_client = stays_within old.client new.client _ _ (same_taken old.client new.client h.1) (acts_grow s old.server.transport h.0.call.events new.server.transport h.0.call.acts) w.of_client;
  of_server = stays_within old.server new.server _ _ h.0.taken (same_sent old.client new.client h.1) w.of_server;
}
step_within c s (Deliver Client n) old new h w = (
    let a = carry_within c old.client old.server.transport.output n new.client h.0 w.of_client in
    let g = same_sent old.server new.server h.1 in
    record {
      of_client = omega (arith, a, g);
      of_server = stays_within old.server new.server _ _ (same_taken old.server new.server h.1) (carry_grows c old.client old.server.transport.output n new.client h.0) w.of_server;
    })
step_within c s (Deliver Server n) old new h w = (
    let a = carry_within s old.server old.client.transport.output n new.server h.0 w.of_server in
    let g = same_sent old.client new.client h.1 in
    record {
      of_client = stays_within old.client new.client _ _ (same_taken old.client new.client h.1) (carry_grows s old.server old.client.transport.output n new.server h.0) w.of_client;
      of_server = omega (arith, a, g);
    })
step_within c s (Rekey Client) old new h w = record {
  of_client = stays_within old.client new.client _ _ h.0.taken (same_sent old.server new.server h.1) w.of_client;
  of_server = stays_within old.server new.server _ _ (same_taken old.server new.server h.1) (rekey_grows c (is_outside old.client.transport.state.stands) old.client.transport new.client.transport h.0.call) w.of_server;
}
step_within c s (Rekey Server) old new h w = record {
  of_client = stays_within old.client new.client _ _ (same_taken old.client new.client h.1) (rekey_grows s (is_outside old.server.transport.state.stands) old.server.transport new.server.transport h.0.call) w.of_client;
  of_server = stays_within old.server new.server _ _ h.0.taken (same_sent old.client new.client h.1) w.of_server;
}
step_within c s Settle old new h w = repeats_within c s h.times old new h.turns w

new_within : (client server : Config) (l : CarriedLink) → IsNewLink client server l → AreWithin l
new_within client server l n = (
    let a = ap (λ (e : CarriedEnd). e.taken) n.of_client.2 in
    let b = ap (λ (e : CarriedEnd). e.taken) n.of_server.2 in
    record { of_client = omega (arith, a); of_server = omega (arith, b) })

-- ---- behind a settle

rest_mark : (c s : Says) (bound : ℕ) (old new : CarriedLink) → SettlesAll c s old new → FewBehind bound Settle new → AreWithin new → BothRest bound (both_marks new)
rest_mark c s bound old new h f w = (
    let a = h.to_client in
    let b = h.to_server in
    let v = w.of_client in
    let u = w.of_server in
    let x = f.0 in
    let y = f.1 in
    record {
      to_client = omega (arith, a, v);
      to_server = omega (arith, b, u);
      client_outside = ap not h.client_rests.outside;
      server_outside = ap not h.server_rests.outside;
      client_few = omega (arith, x);
      server_few = omega (arith, y);
    })

rest_at : (c s : Says) (step : Step) (bound : ℕ) (old new : CarriedLink) → step ≡ Settle → StepsLink c s step old new → FewBehind bound step new → AreWithin new → BothRest bound (both_marks new)
rest_at c s (Submit side p) bound old new e h f w = cc
rest_at c s (Deliver side n) bound old new e h f w = cc
rest_at c s (Rekey side) bound old new e h f w = cc
rest_at c s Settle bound old new e h f w = rest_mark c s bound old new h f w

same_some : {A : Type 0} (x y : A) → Some x ≡ Some y → x ≡ y
same_some x y e = cc

none_there : {A : Type 0} (k : ℕ) (x : A) → slice_get [] k ≡ Some x → ⊥
none_there zero x e = cc
none_there (suc k) x e = cc

-- so many steps before them may begin so many
rests_from : (c s : Says) (done steps : List Step) (bound : ℕ) (l : CarriedLink) (links : List CarriedLink) (j : ℕ) (m : Mark) → length done + length steps < 2 ^ 64 → bound ≡ bound_of done → StepsLinks c s steps l links → FewBegun bound steps links → AreWithin l → slice_get steps j ≡ Some Settle → slice_get (map both_marks links) j ≡ Some m → BothRest (bound_of (done ++ take j steps)) m
rests_from c s done [] bound l links j m room b h f w e g = absurd (none_there j Settle e)
rests_from c s done (step ∷ steps) bound l [] j m room b h f w e g = absurd h
rests_from c s done (step ∷ steps) bound l (x ∷ links) zero m room b h f w e g =
    subst (λ n. BothRest n m) (b ∙ ap bound_of (sym (append-nil done))) (subst (BothRest bound) (same_some (both_marks x) m g) (rest_at c s step bound l x (same_some step Settle e) h.0 f.0 (step_within c s step l x h.0 w)))
rests_from c s done (step ∷ steps) bound l (x ∷ links) (suc j) m room b h f w e g =
    subst (λ q. BothRest (bound_of q) m) (append_assoc done (step ∷ []) (take j steps))
    (rests_from c s (done ++ step ∷ []) steps (bound_behind step bound) x links j m (let a = length-append done (step ∷ []) in omega (arith, a, room)) (bound_on done (done ++ step ∷ []) step bound refl (omega (arith, room)) b) h.1 f.1 (step_within c s step l x h.0 w) e g)

-- ---- its marks

marked : (l : CarriedLink) (links : List CarriedLink) → length (map both_marks (l ∷ links)) ≡ length links + 1
marked l [] = refl
marked l (x ∷ links) = let e = marked x links in omega (arith, e)

last_marked : (l : CarriedLink) (links : List CarriedLink) → slice_get (map both_marks (l ∷ links)) (length links) ≡ Some (both_marks (last_link l links))
last_marked l [] = refl
last_marked l (x ∷ links) = last_marked x links

pub whole_run : (c s : Says) (client server : Config) (steps : List Step) (report : LinkReport) → length steps < 2 ^ 64 → IsCarried c s client server steps report → IsWholeReport steps report
whole_run c s client server steps report room h =
    let n = as_many c s steps h.first h.links h.each in
    subst (λ r. IsWholeReport steps r) (sym h.report_is) (record {
      marks = marked h.first h.links ∙ ap (λ m. m + 1) n;
      settled = λ j m e g. rests_from c s [] steps 1 h.first h.links j m (omega (arith, room)) refl h.each h.few (new_within client server h.first h.new) e g;
      last = (both_marks (last_link h.first h.links), subst (λ m. slice_get (map both_marks (h.first ∷ h.links)) m ≡ Some (both_marks (last_link h.first h.links))) n (last_marked h.first h.links), record { sent = refl; taken_is = refl; delivered_is = refl; finished = refl }, record { sent = refl; taken_is = refl; delivered_is = refl; finished = refl });
    })
