-- What a desk has answered, and what it was granted.
use Rattle.std.proofs.Common.{◌≡◌, ℕ, ◌==◌, arith, Bool, true, false, ◌||◌, if◌then◌else◌, List, [], ◌∷◌, ◌++◌, Result, Ok, Err, IfOk, OnOk, refl, sym, ap, ◌∙◌, subst, length, take, drop, get_or, ◌+◌, ◌<◌, append_assoc}
use Rattle.std.proofs.lemmas.Grind.{common_steps}
use Rattle.std.specs.List.{list_any}
use Rattle.std.specs.Str.{bytes_eq}
use Rattle.std.proofs.lemmas.Bool.Decides.{nat_tests}
use Rattle.std.proofs.lemmas.List.{take-append-drop}
use Rattle.std.proofs.lemmas.List.Folds.{list_any-append}
use Rattle.std.proofs.lemmas.Slice.Eq.{bytes_eq-Decides}
use Rattle.ssh_wire.specs.declared.error.Error.{Error}
use Rattle.ssh_wire.specs.declared.error.Error.TheVariants.{Inconsistent}
use Rattle.ssh_wire.specs.declared.disconnect.Disconnect.TheVariants.{ProtocolError, ServiceNotAvailable}
use Rattle.ssh_wire.specs.declared.side.Side.TheVariants.{Server}
use Rattle.ssh_wire.specs.Messages.{whole}
use Rattle.ssh_service.specs.Answers.{ServiceState, StandsFor, answer_after, answer_read, asks_for, asks_in, is_for_above, tells_extensions}
use Rattle.ssh_service.specs.Extensions.{info_at}
use Rattle.ssh_service.specs.Messages.{made_message, message_of, spelling}
use Rattle.ssh_service.specs.ServiceNames.{name_at}
use Rattle.ssh_service.specs.declared.info.Extension.{Extension}
use Rattle.ssh_service.specs.declared.answer.ServiceAnswer.{ServiceAnswer}
use Rattle.ssh_service.specs.declared.answer.ServiceAnswer.TheVariants.{Accepted, Bad, Extensions, Other, Refused}
use Rattle.ssh_service.specs.declared.message.ServiceMessage.{ServiceMessage}
use Rattle.ssh_service.specs.declared.message.ServiceMessage.TheVariants.{Accept, Info, Request}
use Rattle.ssh_pipe.specs.Desks.{DeskState, HasAnswered, login_service, was_granted}

or_false : (a : Bool) → (a || false) ≡ a
or_false true = refl
or_false false = refl

or_true : (a : Bool) → (a || true) ≡ true
or_true true = refl
or_true false = refl

-- one more behind
any_one : {A : Type 0} (f : A → Bool) (xs : List A) (y : A) → list_any f (xs ++ y ∷ []) ≡ (list_any f xs || f y)
any_one f xs y = list_any-append f xs (y ∷ []) ∙ ap (λ t. list_any f xs || t) (or_false (f y))

-- whether the service was granted, by what the machine of services answers
abbrev pub granted_by : ServiceAnswer → Bool → Bool
granted_by (Accepted reply) granted = true
granted_by (Refused reason) granted = granted
granted_by Extensions granted = granted
granted_by Other granted = granted
granted_by (Bad e) granted = granted

-- a message for another layer asks for no service
above_asks : (name payload : List ℕ) → is_for_above payload ≡ true → asks_for name payload ≡ false
above_asks name [] h = cc
above_asks name (b ∷ fields) h = step (b == 5) (b == 6) (b == 7) refl refl refl
  where
    step : (t u v : Bool) → (b == 5) ≡ t → (b == 6) ≡ u → (b == 7) ≡ v
        → asks_in name (if t then made_message Request (whole (name_at fields)) else if u then made_message Accept (whole (name_at fields)) else if v then made_message Info (whole (info_at fields)) else Err Inconsistent) ≡ false
    step true u v e f g = let is : b ≡ 5 = grind (arith, nat_tests) in absurd (grind (arith, nat_tests))
    step false true v e f g = let is : b ≡ 6 = grind (arith, nat_tests) in absurd (grind (arith, nat_tests))
    step false false true e f g = let is : b ≡ 7 = grind (arith, nat_tests) in absurd (grind (arith, nat_tests))
    step false false false e f g = refl

swapped : (a b : List ℕ) → bytes_eq a b ≡ false → bytes_eq b a ≡ false
swapped a b h = by (bytes_eq b a) refl where
  by : (t : Bool) → bytes_eq b a ≡ t → t ≡ false
  by false e = refl
  by true e =
      let same : b ≡ a = (bytes_eq-Decides b a).0 e in
      let both : true ≡ false = sym ((bytes_eq-Decides a b).1 (sym same)) ∙ h in
      cc

-- the service was granted behind a payload, as the machine of services answers it
granted_next : (earlier : List (List ℕ)) (payload : List ℕ) → granted_by (answer_after (login_service ∷ []) earlier payload) (list_any (asks_for login_service) earlier) ≡ list_any (asks_for login_service) (earlier ++ payload ∷ [])
granted_next earlier payload = unless (is_for_above payload) (message_of payload) refl refl ∙ sym (any_one (asks_for login_service) earlier payload)
  where
    was : Bool
    was = list_any (asks_for login_service) earlier

    told : (t : Bool) (es : List Extension) → granted_by (if t then Bad Inconsistent else Extensions) was ≡ (was || false)
    told true es = sym (or_false was)
    told false es = sym (or_false was)

    asked : (name : List ℕ) → login_service ≡ name → (u : Bool) → list_any (asks_for name) earlier ≡ u
        → granted_by (if u then Refused ProtocolError else Accepted (spelling (Accept name))) was ≡ (was || bytes_eq name login_service)
    asked name same true e =
        ap (λ n. list_any (asks_for n) earlier) same ∙ e ∙ sym (ap (λ t. was || t) ((bytes_eq-Decides name login_service).1 (sym same)) ∙ or_true was)
    asked name same false e = sym (ap (λ t. was || t) ((bytes_eq-Decides name login_service).1 (sym same)) ∙ or_true was)

    request : (name : List ℕ) (t : Bool) → bytes_eq login_service name ≡ t
        → granted_by (if (t || false) then (if list_any (asks_for name) earlier then Refused ProtocolError else Accepted (spelling (Accept name))) else Refused ServiceNotAvailable) was ≡ (was || bytes_eq name login_service)
    request name true e = asked name ((bytes_eq-Decides login_service name).0 e) (list_any (asks_for name) earlier) refl
    request name false e = sym (ap (λ t. was || t) (swapped login_service name e) ∙ or_false was)

    by_message : (read : Result ServiceMessage Error) → granted_by (answer_read (login_service ∷ []) earlier read) was ≡ (was || asks_in login_service read)
    by_message (Ok (Request name)) = request name (bytes_eq login_service name) refl
    by_message (Ok (Accept name)) = sym (or_false was)
    by_message (Ok (Info es)) = told (list_any tells_extensions earlier) es
    by_message (Err e) = sym (or_false was)

    unless : (t : Bool) (read : Result ServiceMessage Error) → is_for_above payload ≡ t → message_of payload ≡ read
        → granted_by (if t then Other else answer_read (login_service ∷ []) earlier read) was ≡ (was || asks_in login_service read)
    unless true read e f = sym (ap (λ t. was || t) (sym (ap (asks_in login_service) f) ∙ above_asks login_service payload e) ∙ or_false was)
    unless false read e f = by_message read

-- A server's desk has answered one payload more.
pub answered_next : (d d' : DeskState) (was : ServiceState) (earlier : List (List ℕ)) (payload : List ℕ) (answer : ServiceAnswer) (r : Result ServiceAnswer Error)
    → r ≡ Ok answer → d.side ≡ Server → d'.side ≡ Server → d.services ≡ was → d'.services.offered ≡ was.offered
    → ((before : List (List ℕ)) → StandsFor was before → IfOk r (λ a. a ≡ answer_after was.offered before payload))
    → OnOk r ((before : List (List ℕ)) → StandsFor was before → StandsFor d'.services (before ++ payload ∷ []))
    → d'.granted ≡ granted_by answer d.granted → HasAnswered d earlier → HasAnswered d' (earlier ++ payload ∷ [])
answered_next d d' was earlier payload answer r is server server' before same answered stands by h = record {
  offered = same ∙ offered;
  stands = λ s. (subst (λ x. OnOk x ((before : List (List ℕ)) → StandsFor was before → StandsFor d'.services (before ++ payload ∷ []))) is stands) earlier met;
  granted = by ∙ (ap (granted_by answer) h.granted ∙ (ap (λ s. granted_by answer (was_granted s earlier)) server ∙ (ap (λ a. granted_by a (list_any (asks_for login_service) earlier)) read ∙ (granted_next earlier payload ∙ ap (λ s. was_granted s (earlier ++ payload ∷ [])) (sym server')))));
} where
  offered : was.offered ≡ login_service ∷ []
  offered = ap (λ (s : ServiceState). s.offered) (sym before) ∙ h.offered

  met : StandsFor was earlier
  met = subst (λ s. StandsFor s earlier) before (h.stands server)

  read : answer ≡ answer_after (login_service ∷ []) earlier payload
  read = subst (λ x. IfOk x (λ a. a ≡ answer_after was.offered earlier payload)) is (answered earlier met) ∙ ap (λ o. answer_after o earlier payload) offered

pub on_ok_all : {A E : Type 0} (r : Result A E) (P : Type 0) → P → OnOk r P
on_ok_all (Ok a) P p = p
on_ok_all (Err e) P p = tt

-- the next of a list, behind those before it
pub taken_next : (xs : List (List ℕ)) (i : ℕ) (x : List ℕ) → i < length xs → x ≡ get_or xs i x → take (i + 1) xs ≡ take i xs ++ x ∷ []
taken_next xs i x h e = grind (arith, common_steps)

pub split_at : (xs : List (List ℕ)) (i : ℕ) (x : List ℕ) → i < length xs → x ≡ get_or xs i x → take i xs ++ x ∷ drop (i + 1) xs ≡ xs
split_at xs i x h e = sym (append_assoc (take i xs) (x ∷ []) (drop (i + 1) xs)) ∙ (ap (λ l. l ++ drop (i + 1) xs) (sym (taken_next xs i x h e)) ∙ take-append-drop (i + 1) xs)
