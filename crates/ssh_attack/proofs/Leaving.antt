-- What the calls on a side leave of its parts.
use Rattle.std.proofs.Common.{◌≡◌, ℕ, Bool, true, false, List, [], ◌∷◌, length, refl, sym, ap, ◌∙◌, subst, OnOk}
use Rattle.std.specs.Prelude.{Result, Ok, Err, OnErr, IsTrue}
use Rattle.rand_core.specs.Stream.{Stream}
use Rattle.ssh_wire.specs.Sides.{same_side}
use Rattle.ssh_wire.specs.declared.error.Error.{Error}
use Rattle.ssh_wire.specs.declared.error.Error.TheVariants as errors
use Rattle.ssh_wire.specs.declared.side.Side.{Side}
use Rattle.ssh_packet.specs.Stream.{message_type}
use Rattle.ssh_kex.specs.Setting.{Says}
use Rattle.ssh_kex.specs.declared.config.Config.{Config}
use Rattle.ssh_kex.specs.declared.exchange.FinishedExchange.{FinishedExchange}
use Rattle.ssh_rules.specs.Answering.{HasAnswered, PartTests}
use Rattle.ssh_rules.specs.Asking.{PartCalls}
use Rattle.ssh_rules.specs.Attacking.{AttackedEnd, AttacksSide, FeedsBy, OwnStep, RekeysBy, SubmitsBy, Tells}
use Rattle.ssh_rules.specs.MessageTypes.{is_payload_type}
use Rattle.ssh_rules.specs.Standing.{IsNew, Rekeyed, RekeyedFrom, Standing, Submitted, TakesInput, is_outside, unfinished}
use Rattle.ssh_rules.specs.Valid.{is_bad_size, is_good_payload}
use Rattle.ssh_rules.specs.declared.link.AttackStep.{AttackStep}
use Rattle.ssh_rules.specs.declared.link.AttackStep.TheVariants.{Feed, Rekey, Submit}
use Rattle.ssh_transport.specs.Asking.{tally}
use Rattle.ssh_transport.specs.Drawing.{PartsStand, StaysDrawn}
use Rattle.ssh_transport.specs.Sending.{ServesCall}
use Rattle.ssh_transport.proofs.Lemmas.{answered_new, comes_fed, comes_join, comes_rekeyed, comes_same, comes_still, comes_submitted, drawn_join}
use Rattle.ssh_attack.specs.AttackEnds.{AllTaken, LeavesEnd}

-- ---- a call

pub leaves_still : (t : Standing) (p : PartsStand) → LeavesEnd t t p p
leaves_still t p = record { drawn = λ side config first d. d; came = λ l. (l, comes_still t p.tests) }

pub leaves_join : (a b c : Standing) (p q r : PartsStand) → LeavesEnd a b p q → LeavesEnd b c q r → LeavesEnd a c p r
leaves_join a b c p q r h k = record {
  drawn = drawn_join a b c p.stream q.stream r.stream h.drawn k.drawn;
  came = λ l. (let n = k.came l in let m = h.came n.0 in (m.0, comes_join a b c p.tests q.tests r.tests m.1 n.1));
}

-- whether it had failed before
before : (b : Bool) (P : Type 0) → (b ≡ true → P) → (b ≡ false → P) → P
before true P f g = f refl
before false P f g = g refl

-- bytes that it was fed, whose payloads were taken over
pub leaves_fed : (says : Says) (old fed new : Standing) (piece : List ℕ) (Made : Side → Stream → Stream → Type 0) (s s' : Stream) (n n' : PartCalls) (t t' : PartTests) (answer : Result (Unit {0}) Error) → new ≡ record fed { delivered = [] } → StaysDrawn old new s s' → old.failed ≡ false → (old.failed ≡ false → OnErr answer ((fed.failed ≡ true) × (unfinished fed ≡ []))) → OnOk answer (TakesInput says old piece fed) → OnOk answer (ServesCall Made old fed (tally n t) (tally n' t') s s')
    → LeavesEnd old new (record { stream = s; tests = t }) (record { stream = s'; tests = t' })
leaves_fed says old fed new piece Made s s' n n' t t' (Ok u) e d l f h a = record { drawn = d; came = λ k. (l, comes_fed says old fed new piece t t' e h a.answers) }
leaves_fed says old fed new piece Made s s' n n' t t' (Err x) e d l f h a = record { drawn = d; came = λ k. absurd (let i = (f l).0 in let g = ap (λ (y : Standing). y.failed) e in cc) }

-- nothing changed
unchanged : (old new : Standing) (s s' : Stream) (t t' : PartTests) → StaysDrawn old new s s' → t' ≡ t → new ≡ old → LeavesEnd old new (record { stream = s; tests = t }) (record { stream = s'; tests = t' })
unchanged old new s s' t t' d e h = record { drawn = d; came = λ l. (sym (ap (λ (x : Standing). x.failed) h) ∙ l, comes_same old new t t' h e) }

-- a payload that was submitted, or refused for what it is
pub leaves_submitted : (says : Says) (old new : Standing) (payload : List ℕ) (s s' : Stream) (t t' : PartTests) (answer : Result (Unit {0}) Error) → (answer ≡ Err errors.Memory → ⊥) → StaysDrawn old new s s' → t' ≡ t → (old.failed ≡ true → new ≡ old)
    → (old.failed ≡ false → IsTrue (is_bad_size (length payload)) → new ≡ old) → (old.failed ≡ false → is_bad_size (length payload) ≡ false → is_payload_type (message_type payload) ≡ false → new ≡ old)
    → OnOk answer (Submitted says old payload new) → (old.failed ≡ false → is_good_payload payload ≡ true → OnErr answer (answer ≡ Err errors.Memory))
    → LeavesEnd old new (record { stream = s; tests = t }) (record { stream = s'; tests = t' })
leaves_submitted says old new payload s s' t t' (Ok u) ample d e dead size type sent memory = before old.failed _ (λ f. unchanged old new s s' t t' d e (dead f)) (λ f. record {
  drawn = d;
  came = λ l. (f, comes_submitted says old payload new t t' e sent);
})
leaves_submitted says old new payload s s' t t' (Err x) ample d e dead size type sent memory = by old.failed (is_bad_size (length payload)) (is_payload_type (message_type payload)) refl refl refl where
  by : (f b k : Bool) → old.failed ≡ f → is_bad_size (length payload) ≡ b → is_payload_type (message_type payload) ≡ k → LeavesEnd old new (record { stream = s; tests = t }) (record { stream = s'; tests = t' })
  by true b k f g h = unchanged old new s s' t t' d e (dead f)
  by false true k f g h = unchanged old new s s' t t' d e (size f g)
  by false false false f g h = unchanged old new s s' t t' d e (type f g h)
  by false false true f g h = absurd (ample (memory f (rw (g, h) refl)))

-- an exchange that was asked for
pub leaves_rekeyed : (says : Says) (old new : Standing) (s s' : Stream) (t t' : PartTests) (answer : Result (Unit {0}) Error) → (answer ≡ Err errors.Memory → ⊥) → StaysDrawn old new s s' → t' ≡ t → (old.failed ≡ true → new ≡ old) → OnOk answer (Rekeyed says old new) → (old.failed ≡ false → OnErr answer (answer ≡ Err errors.Memory))
    → LeavesEnd old new (record { stream = s; tests = t }) (record { stream = s'; tests = t' })
leaves_rekeyed says old new s s' t t' (Ok u) ample d e dead begun memory = before old.failed _ (λ f. unchanged old new s s' t t' d e (dead f)) (λ f. record {
  drawn = d;
  came = λ l. (f, comes_rekeyed says old new t t' e begun);
})
leaves_rekeyed says old new s s' t t' (Err x) ample d e dead begun memory = before old.failed _ (λ f. unchanged old new s s' t t' d e (dead f)) (λ f. absurd (ample (memory f)))

-- ---- a whole run

-- before the first step
pub none_attacked : (t : Tells) (side : Side) (answers : List (Result (Unit {0}) Error)) (end : AttackedEnd) → answers ≡ [] → AttacksSide t side [] answers end end
none_attacked t side answers end e = subst (λ (a : List (Result (Unit {0}) Error)). AttacksSide t side [] a end end) (sym e) refl

own_live : (b : Bool) (own : Type 0) (old new : AttackedEnd) → OwnStep b own (new ≡ old) → (b ≡ true → own → new.transport.failed ≡ false) → old.transport.failed ≡ false → new.transport.failed ≡ false
own_live true own old new h f l = f refl h
own_live false own old new h f l = ap (λ (x : AttackedEnd). x.transport.failed) h ∙ l

submits_live : (t : Tells) (old : AttackedEnd) (payload : List ℕ) (answer : Result (Unit {0}) Error) (new : AttackedEnd) → old.transport.failed ≡ false → SubmitsBy old.transport.failed t old payload answer new → new.transport.failed ≡ false
submits_live t old payload (Ok u) new l h = (let k = subst (λ (b : Bool). SubmitsBy b t old payload (Ok u) new) l h in ((k.call).acts).live)
submits_live t old payload (Err e) new l h = (let k = subst (λ (b : Bool). SubmitsBy b t old payload (Err e) new) l h in ap (λ (x : AttackedEnd). x.transport.failed) k.2 ∙ l)

rekeyed_live : (says : Says) (old new : Standing) → old.failed ≡ false → Rekeyed says old new → new.failed ≡ false
rekeyed_live says old new l h = by (is_outside old.state.stands) h where
  by : (b : Bool) → RekeyedFrom b says old new → new.failed ≡ false
  by true k = (k.acts).live
  by false k = ap (λ (x : Standing). x.failed) k ∙ l

rekeys_live : (t : Tells) (old : AttackedEnd) (answer : Result (Unit {0}) Error) (new : AttackedEnd) → old.transport.failed ≡ false → RekeysBy old.transport.failed t old answer new → new.transport.failed ≡ false
rekeys_live t old (Ok u) new l h = (let k = subst (λ (b : Bool). RekeysBy b t old (Ok u) new) l h in rekeyed_live t.says old.transport new.transport l k.call)
rekeys_live t old (Err e) new l h = absurd (subst (λ (b : Bool). RekeysBy b t old (Err e) new) l h)

feeds_live : (t : Tells) (old : AttackedEnd) (bytes : List ℕ) (new : AttackedEnd) → old.transport.failed ≡ false → FeedsBy old.transport.failed t old bytes (Ok tt) new → new.transport.failed ≡ false
feeds_live t old bytes new l h = (let k = subst (λ (b : Bool). FeedsBy b t old bytes (Ok tt) new) l h in ap (λ (x : Standing). x.failed) (k.2).transport ∙ ((k.1).acts).live)

-- a side that took all that it was fed isn't refused
pub all_live : (t : Tells) (side : Side) (steps : List AttackStep) (answers : List (Result (Unit {0}) Error)) (old new : AttackedEnd) → AttacksSide t side steps answers old new → AllTaken side steps answers → old.transport.failed ≡ false → new.transport.failed ≡ false
all_live t side [] [] old new h k l = ap (λ (x : AttackedEnd). x.transport.failed) h ∙ l
all_live t side [] (a ∷ answers) old new h k l = absurd h
all_live t side (step ∷ steps) [] old new h k l = absurd h
all_live t side (Submit s payload ∷ steps) (a ∷ answers) old new h k l = all_live t side steps answers h.0 new h.2 k (own_live (same_side s side) _ old h.0 h.1 (λ e q. submits_live t old payload a h.0 l q) l)
all_live t side (Rekey s ∷ steps) (a ∷ answers) old new h k l = all_live t side steps answers h.0 new h.2 k (own_live (same_side s side) _ old h.0 h.1 (λ e q. rekeys_live t old a h.0 l q) l)
all_live t side (Feed s bytes ∷ steps) (Ok tt ∷ answers) old new h k l = all_live t side steps answers h.0 new h.2 k (own_live (same_side s side) _ old h.0 h.1 (λ e q. feeds_live t old bytes h.0 l q.does) l)
all_live t side (Feed s bytes ∷ steps) (Err x ∷ answers) old new h k l = all_live t side steps answers h.0 new h.2 k.1 (own_live (same_side s side) _ old h.0 h.1 (λ e q. absurd (let f : true ≡ false = sym e ∙ k.0 in cc)) l)

-- the report of one
pub side_answered : (t : Tells) (side : Side) (config : Config) (steps : List AttackStep) (answers reported : List (Result (Unit {0}) Error)) (old new : AttackedEnd) (p p' : PartsStand) (wire : List ℕ) (exchanges : List FinishedExchange) → IsNew side config old.transport → AttacksSide t side steps answers old new → LeavesEnd old.transport new.transport p p' → reported ≡ answers → wire ≡ new.transport.output → exchanges ≡ new.transport.state.records → AllTaken side steps reported → HasAnswered side config wire exchanges p.tests p'.tests
side_answered t side config steps answers reported old new p p' wire exchanges n h d a w r k =
    let live = all_live t side steps answers old new h (subst (AllTaken side steps) a k) (ap (λ (x : Standing). x.failed) n) in
    answered_new side config old.transport old.transport new.transport wire exchanges p.tests p'.tests n refl (d.came live).1 w r
