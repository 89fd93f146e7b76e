-- A machine stands for what it received.
use Rattle.std.proofs.Common.{◌≡◌, ℕ, ◌==◌, nat_le, drop, arith, Bool, true, false, ◌||◌, if◌then◌else◌, List, [], ◌∷◌, ◌++◌, Result, Ok, Err, IfOk, OnOk, OnErr, refl, sym, ap, ◌∙◌, subst}
use Rattle.std.specs.List.{list_any}
use Rattle.std.specs.Str.{bytes_eq}
use Rattle.std.proofs.lemmas.Slice.Eq.{bytes_eq-Decides}
use Rattle.ssh_wire.specs.declared.error.Error.{Error}
use Rattle.ssh_service.specs.Answers.{IsServiceAnswer, ServiceState, StandsFor, answer_after, answer_by, answer_read, asks_for, asks_in, has_name, is_for_above, tells_extensions, tells_in}
use Rattle.ssh_service.specs.Messages.{made_message, message_of, spelling}
use Rattle.ssh_service.specs.ServiceNames.{name_at}
use Rattle.ssh_service.specs.Extensions.{info_at}
use Rattle.ssh_wire.specs.Forms.{string}
use Rattle.ssh_wire.specs.Messages.{whole}
use Rattle.std.proofs.lemmas.Bool.Decides.{nat_tests}
use Rattle.ssh_service.specs.declared.info.Extension.{Extension}
use Rattle.ssh_wire.specs.declared.disconnect.Disconnect.TheVariants.{ProtocolError, ServiceNotAvailable}
use Rattle.ssh_wire.specs.declared.error.Error.TheVariants.{Inconsistent}
use Rattle.ssh_service.specs.Steps.{answer_to, moves}
use Rattle.ssh_service.specs.declared.answer.ServiceAnswer.{ServiceAnswer}
use Rattle.ssh_service.specs.declared.answer.ServiceAnswer.TheVariants.{Accepted, Bad, Extensions, Other, Refused}
use Rattle.ssh_service.specs.declared.message.ServiceMessage.{ServiceMessage}
use Rattle.ssh_service.specs.declared.message.ServiceMessage.TheVariants.{Accept, Info, Request}

or_assoc : (a b c : Bool) → ((a || b) || c) ≡ (a || (b || c))
or_assoc true b c = refl
or_assoc false b c = refl

or_false : (a : Bool) → (a || false) ≡ a
or_false true = refl
or_false false = refl

or_true : (a : Bool) → (a || true) ≡ true
or_true true = refl
or_true false = refl

-- one more behind
pub any_more : {A : Type 0} (f : A → Bool) (xs : List A) (y : A) → list_any f (xs ++ y ∷ []) ≡ (list_any f xs || f y)
any_more f [] y = or_false (f y)
any_more f (x ∷ xs) y = ap (λ t. f x || t) (any_more f xs y) ∙ sym (or_assoc (f x) (list_any f xs) (f y))

same_bytes : (a b : List ℕ) → bytes_eq a b ≡ true → a ≡ b
same_bytes a b h = (bytes_eq-Decides a b).0 h

-- the answer of a machine is the one to the payloads that it stands for
pub same_answer : (s : ServiceState) (earlier : List (List ℕ)) (payload : List ℕ) (m : ServiceMessage) → StandsFor s earlier → is_for_above payload ≡ false → message_of payload ≡ Ok m
    → answer_to s m ≡ answer_after s.offered earlier payload
same_answer s earlier payload m st other read =
    by_message m ∙ sym (ap (λ t. if t then Other else answer_read s.offered earlier (message_of payload)) other ∙ ap (answer_read s.offered earlier) read)
  where
    granted : (name : List ℕ) (t u : Bool) → has_name name s.offered ≡ t → (has_name name s.offered ≡ true → u ≡ list_any (asks_for name) earlier)
        → answer_by t u s.informed (Ok (Request name)) ≡ answer_by t (list_any (asks_for name) earlier) (list_any tells_extensions earlier) (Ok (Request name))
    granted name true u e asked = ap (λ x. answer_by true x s.informed (Ok (Request name))) (asked e)
    granted name false u e asked = refl

    by_message : (n : ServiceMessage) → answer_to s n ≡ answer_read s.offered earlier (Ok n)
    by_message (Request name) = granted name (has_name name s.offered) (has_name name s.requested) refl (st.requested name)
    by_message (Accept name) = refl
    by_message (Info es) = ap (λ t. answer_by (has_name [] s.offered) (has_name [] s.requested) t (Ok (Info es))) st.informed

asked_next : (name : List ℕ) (earlier : List (List ℕ)) (payload : List ℕ) (read : Result ServiceMessage Error) → message_of payload ≡ read
    → list_any (asks_for name) (earlier ++ payload ∷ []) ≡ (list_any (asks_for name) earlier || asks_in name read)
asked_next name earlier payload read h = any_more (asks_for name) earlier payload ∙ ap (λ r. list_any (asks_for name) earlier || asks_in name r) h

told_next : (earlier : List (List ℕ)) (payload : List ℕ) (read : Result ServiceMessage Error) → message_of payload ≡ read
    → list_any tells_extensions (earlier ++ payload ∷ []) ≡ (list_any tells_extensions earlier || tells_in read)
told_next earlier payload read h = any_more tells_extensions earlier payload ∙ ap (λ r. list_any tells_extensions earlier || tells_in r) h

-- and it stands for them with the payload
pub stands_next : (s : ServiceState) (earlier : List (List ℕ)) (payload : List ℕ) (m : ServiceMessage) → StandsFor s earlier → message_of payload ≡ Ok m
    → StandsFor (moves s m) (earlier ++ payload ∷ [])
stands_next s earlier payload (Accept n) st read = record {
  requested = λ name offered. st.requested name offered ∙ sym (asked_next name earlier payload (Ok (Accept n)) read ∙ or_false (list_any (asks_for name) earlier));
  informed = st.informed ∙ sym (told_next earlier payload (Ok (Accept n)) read ∙ or_false (list_any tells_extensions earlier));
}
stands_next s earlier payload (Info es) st read = record {
  requested = λ name offered. st.requested name offered ∙ sym (asked_next name earlier payload (Ok (Info es)) read ∙ or_false (list_any (asks_for name) earlier));
  informed = sym (told_next earlier payload (Ok (Info es)) read ∙ or_true (list_any tells_extensions earlier));
}
stands_next s earlier payload (Request n) st read = step (has_name n s.offered) (has_name n s.requested) refl refl
  where
    told : s.informed ≡ list_any tells_extensions (earlier ++ payload ∷ [])
    told = st.informed ∙ sym (told_next earlier payload (Ok (Request n)) read ∙ or_false (list_any tells_extensions earlier))

    apart : (name : List ℕ) (t : Bool) → bytes_eq n name ≡ t → has_name n s.offered ≡ false → has_name name s.offered ≡ true → has_name name s.requested ≡ (list_any (asks_for name) earlier || t)
    apart name true e none offered = let same : n ≡ name = same_bytes n name e in let both : false ≡ true = sym none ∙ (ap (λ x. has_name x s.offered) same ∙ offered) in cc
    apart name false e none offered = st.requested name offered ∙ sym (or_false (list_any (asks_for name) earlier))

    again : (name : List ℕ) (t : Bool) → bytes_eq n name ≡ t → has_name n s.requested ≡ true → has_name name s.offered ≡ true → has_name name s.requested ≡ (list_any (asks_for name) earlier || t)
    again name true e had offered = let same : n ≡ name = same_bytes n name e in ap (λ x. has_name x s.requested) (sym same) ∙ (had ∙ sym (or_true (list_any (asks_for name) earlier)))
    again name false e had offered = st.requested name offered ∙ sym (or_false (list_any (asks_for name) earlier))

    step : (t u : Bool) → has_name n s.offered ≡ t → has_name n s.requested ≡ u
        → StandsFor (if t then (if u then s else record s { requested = s.requested ++ n ∷ [] }) else s) (earlier ++ payload ∷ [])
    step false u e d = record {
      requested = λ name offered. apart name (bytes_eq n name) refl e offered ∙ sym (asked_next name earlier payload (Ok (Request n)) read);
      informed = told;
    }
    step true true e d = record {
      requested = λ name offered. again name (bytes_eq n name) refl d offered ∙ sym (asked_next name earlier payload (Ok (Request n)) read);
      informed = told;
    }
    step true false e d = record {
      requested = λ name offered. any_more (λ x. bytes_eq x name) s.requested n
          ∙ (ap (λ x. x || bytes_eq n name) (st.requested name offered) ∙ sym (asked_next name earlier payload (Ok (Request n)) read));
      informed = told;
    }

-- both of what a machine answered
pub answers_so : (s : ServiceState) (earlier : List (List ℕ)) (payload : List ℕ) (m : ServiceMessage) (r : Result ServiceAnswer Error) → StandsFor s earlier → is_for_above payload ≡ false → message_of payload ≡ Ok m
    → IfOk r (λ a. a ≡ answer_to s m) → IsServiceAnswer (answer_after s.offered earlier payload) r
answers_so s earlier payload m (Ok a) st other read h = h ∙ same_answer s earlier payload m st other read
answers_so s earlier payload m (Err e) st other read h = tt

pub stands_so : (s new : ServiceState) (payload : List ℕ) (m : ServiceMessage) (r : Result ServiceAnswer Error) → message_of payload ≡ Ok m → OnOk r (new ≡ moves s m)
    → OnOk r ((earlier : List (List ℕ)) → StandsFor s earlier → StandsFor new (earlier ++ payload ∷ []))
stands_so s new payload m (Ok a) read h = λ earlier st. subst (λ x. StandsFor x (earlier ++ payload ∷ [])) (sym h) (stands_next s earlier payload m st read)
stands_so s new payload m (Err e) read h = tt

-- A service is accepted by a request for it, the first one for it.
pub accepted_is : (offered earlier : List (List ℕ)) (payload reply : List ℕ) → answer_after offered earlier payload ≡ Accepted reply
    → (name : List ℕ) × (message_of payload ≡ Ok (Request name)) × (reply ≡ spelling (Accept name)) × (has_name name offered ≡ true) × (list_any (asks_for name) earlier ≡ false)
accepted_is offered earlier payload reply h = unless (is_for_above payload) (message_of payload) refl h
  where
    by_tests : (name : List ℕ) (t u : Bool) → has_name name offered ≡ t → list_any (asks_for name) earlier ≡ u → message_of payload ≡ Ok (Request name)
        → (if t then (if u then Refused ProtocolError else Accepted (spelling (Accept name))) else Refused ServiceNotAvailable) ≡ Accepted reply
        → (name : List ℕ) × (message_of payload ≡ Ok (Request name)) × (reply ≡ spelling (Accept name)) × (has_name name offered ≡ true) × (list_any (asks_for name) earlier ≡ false)
    by_tests name true false e d read q = (name, read, cc, e, d)
    by_tests name true true e d read q = cc
    by_tests name false u e d read q = cc

    informed : (t : Bool) (es : List Extension) → (if t then Bad Inconsistent else Extensions) ≡ Accepted reply → ⊥
    informed true es q = cc
    informed false es q = cc

    by_message : (read : Result ServiceMessage Error) → message_of payload ≡ read → answer_read offered earlier read ≡ Accepted reply
        → (name : List ℕ) × (message_of payload ≡ Ok (Request name)) × (reply ≡ spelling (Accept name)) × (has_name name offered ≡ true) × (list_any (asks_for name) earlier ≡ false)
    by_message (Ok (Request name)) e q = by_tests name (has_name name offered) (list_any (asks_for name) earlier) refl refl e q
    by_message (Ok (Accept name)) e q = cc
    by_message (Ok (Info es)) e q = absurd (informed (list_any tells_extensions earlier) es q)
    by_message (Err f) e q = cc

    unless : (t : Bool) (read : Result ServiceMessage Error) → message_of payload ≡ read → (if t then Other else answer_read offered earlier read) ≡ Accepted reply
        → (name : List ℕ) × (message_of payload ≡ Ok (Request name)) × (reply ≡ spelling (Accept name)) × (has_name name offered ≡ true) × (list_any (asks_for name) earlier ≡ false)
    unless true read e q = cc
    unless false read e q = by_message read e q

-- the first request for an offered service is granted
pub first_granted : (offered earlier : List (List ℕ)) (payload name : List ℕ) → is_for_above payload ≡ false → message_of payload ≡ Ok (Request name)
    → has_name name offered ≡ true → list_any (asks_for name) earlier ≡ false → answer_after offered earlier payload ≡ Accepted (spelling (Accept name))
first_granted offered earlier payload name other read has none =
    ap (λ t. if t then Other else answer_read offered earlier (message_of payload)) other
    ∙ (ap (answer_read offered earlier) read
    ∙ (ap (λ t. answer_by t (list_any (asks_for name) earlier) (list_any tells_extensions earlier) (Ok (Request name))) has
    ∙ ap (λ u. answer_by true u (list_any tells_extensions earlier) (Ok (Request name))) none))

-- a request isn't a message of a later protocol
request_own : (payload name : List ℕ) → message_of payload ≡ Ok (Request name) → is_for_above payload ≡ false
request_own [] name h = cc
request_own (b ∷ fields) name h = step (b == 5) (b == 6) (b == 7) refl refl refl h
  where
    step : (t u v : Bool) → (b == 5) ≡ t → (b == 6) ≡ u → (b == 7) ≡ v
        → (if t then made_message Request (whole (name_at fields)) else if u then made_message Accept (whole (name_at fields)) else if v then made_message Info (whole (info_at fields)) else Err Inconsistent) ≡ Ok (Request name)
        → nat_le 50 b ≡ false
    step true u v e f g q = let is : b ≡ 5 = grind (arith, nat_tests) in grind (arith, nat_tests)
    step false true v e f g q = let is : b ≡ 6 = grind (arith, nat_tests) in grind (arith, nat_tests)
    step false false true e f g q = let is : b ≡ 7 = grind (arith, nat_tests) in grind (arith, nat_tests)
    step false false false e f g q = cc

pub first_accepted : (offered before : List (List ℕ)) (payload name : List ℕ) → message_of payload ≡ Ok (Request name) → has_name name offered ≡ true → list_any (asks_for name) before ≡ false
    → answer_after offered before payload ≡ Accepted (spelling (Accept name))
first_accepted offered before payload name read has none = first_granted offered before payload name (request_own payload name read) read has none

any_here : (f : List ℕ → Bool) (before between : List (List ℕ)) (p : List ℕ) → f p ≡ true → list_any f (before ++ p ∷ between) ≡ true
any_here f [] between p h = ap (λ t. t || list_any f between) h
any_here f (x ∷ before) between p h = ap (λ t. f x || t) (any_here f before between p h) ∙ or_true (f x)

pub accepted_once : (offered before between : List (List ℕ)) (p q reply : List ℕ) → answer_after offered before p ≡ Accepted reply → answer_after offered (before ++ p ∷ between) q ≡ Accepted reply → ⊥
accepted_once offered before between p q reply h k =
    let a = accepted_is offered before p reply h in
    let b = accepted_is offered (before ++ p ∷ between) q reply k in
    let texts : 6 ∷ string a.0 ≡ 6 ∷ string b.0 = sym a.2 ∙ b.2 in
    let same : a.0 ≡ b.0 = ap (drop 5) texts in
    let asked : asks_for b.0 p ≡ true = ap (asks_in b.0) a.1 ∙ (ap (λ n. bytes_eq n b.0) same ∙ (bytes_eq-Decides b.0 b.0).1 refl) in
    let both : true ≡ false = sym (any_here (asks_for b.0) before between p asked) ∙ b.4 in
    cc

-- a message changes no service that is offered
moves_offered : (s : ServiceState) (m : ServiceMessage) → (moves s m).offered ≡ s.offered
moves_offered s (Request name) = by (has_name name s.offered) (has_name name s.requested) where
  by : (t u : Bool) → (if t then (if u then s else record s { requested = s.requested ++ name ∷ [] }) else s).offered ≡ s.offered
  by true true = refl
  by true false = refl
  by false u = refl
moves_offered s (Accept name) = refl
moves_offered s (Info es) = refl

pub offered_so : (s t : ServiceState) (m : ServiceMessage) (result : Result ServiceAnswer Error) → OnOk result (t ≡ moves s m) → OnErr result (t ≡ s) → t.offered ≡ s.offered
offered_so s t m (Ok a) e same = ap (λ (x : ServiceState). x.offered) e ∙ moves_offered s m
offered_so s t m (Err e) n same = ap (λ (x : ServiceState). x.offered) same
