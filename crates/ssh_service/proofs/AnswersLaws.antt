-- What is answered to payloads one after the other.
use Rattle.std.proofs.Common.{◌≡◌, ℕ, ◌+◌, ◌<◌, ◌≤◌, Err, Ok, OnErr, Result, List, [], ◌∷◌, ◌++◌, length, take, get_or, sym, ap, ◌∙◌, subst, append_assoc, append-nil}
use Rattle.std.proofs.lemmas.List.{take_more}
use Rattle.ssh_service.specs.Answers.{ReceivesSome, ServiceState, StandsFor, answer_after, answers_from}
use Rattle.ssh_service.specs.declared.answer.ServiceAnswer.{ServiceAnswer}

-- one answer more
pub answers_more : (offered earlier payloads : List (List ℕ)) (payload : List ℕ) → answers_from offered earlier (payloads ++ payload ∷ []) ≡ answers_from offered earlier payloads ++ answer_after offered (earlier ++ payloads) payload ∷ []
answers_more offered earlier [] payload = ap (λ l. answer_after offered l payload ∷ []) (sym (append-nil earlier))
answers_more offered earlier (p ∷ payloads) payload =
    ap (λ l. answer_after offered earlier p ∷ l) (answers_more offered (earlier ++ p ∷ []) payloads payload
    ∙ ap (λ l. answers_from offered (earlier ++ p ∷ []) payloads ++ answer_after offered l payload ∷ []) (append_assoc earlier (p ∷ []) payloads))

-- one payload more of those that were delivered
pub taken_next : (all items : List (List ℕ)) (i : ℕ) (payload item : List ℕ) → items ≡ all → i < length items → item ≡ get_or items i item → payload ≡ item → take (i + 1) all ≡ take i all ++ payload ∷ []
taken_next all items i payload item same h is p =
    ap (take (i + 1)) (sym same) ∙ (take_more items i item h ∙ (ap (λ x. take i items ++ x ∷ []) (sym is ∙ sym p) ∙ ap (λ l. take i l ++ payload ∷ []) same))

pub answers_next : (offered earlier done done' : List (List ℕ)) (answers answers' : List ServiceAnswer) (a : ServiceAnswer) (payload : List ℕ) → done' ≡ done ++ payload ∷ []
    → answers ≡ answers_from offered earlier done → a ≡ answer_after offered (earlier ++ done) payload → answers' ≡ answers ++ a ∷ [] → answers' ≡ answers_from offered earlier done'
answers_next offered earlier done done' answers answers' a payload d h k e =
    e ∙ (ap (λ l. l ++ a ∷ []) h ∙ (ap (λ x. answers_from offered earlier done ++ x ∷ []) k ∙ (sym (answers_more offered earlier done payload) ∙ ap (answers_from offered earlier) (sym d))))

pub stands_with : (s : ServiceState) (earlier done done' : List (List ℕ)) (payload : List ℕ) → done' ≡ done ++ payload ∷ [] → StandsFor s ((earlier ++ done) ++ payload ∷ []) → StandsFor s (earlier ++ done')
stands_with s earlier done done' payload d h =
    subst (λ l. StandsFor s l) (append_assoc earlier done (payload ∷ []) ∙ ap (λ l. earlier ++ l) (sym d)) h

pub always_err : {A E : Type 0} (r : Result A E) (P : Type 0) → P → OnErr r P
always_err (Ok x) P h = tt
always_err (Err e) P h = h

-- all up to this one were received
abbrev pub received_all : (s t : ServiceState) (payloads : List (List ℕ)) (i : ℕ) → i ≤ length payloads
    → ((earlier : List (List ℕ)) → StandsFor s earlier → StandsFor t (earlier ++ take i payloads)) → ReceivesSome s payloads t
received_all s t payloads i few stands = record { count = i; few = few; stands = stands }

-- where a call received nothing
abbrev pub received_same : (s t t' : ServiceState) (payloads : List (List ℕ)) (i : ℕ) → t' ≡ t → i ≤ length payloads
    → ((earlier : List (List ℕ)) → StandsFor s earlier → StandsFor t (earlier ++ take i payloads)) → ReceivesSome s payloads t'
received_same s t t' payloads i same few stands =
    received_all s t' payloads i few (λ earlier st. subst (λ x. StandsFor x (earlier ++ take i payloads)) (sym same) (stands earlier st))

-- where it received one more
abbrev pub received_next : (s t t' : ServiceState) (all : List (List ℕ)) (payload : List ℕ) (i : ℕ) → i + 1 ≤ length all → take (i + 1) all ≡ take i all ++ payload ∷ []
    → ((earlier : List (List ℕ)) → StandsFor s earlier → StandsFor t (earlier ++ take i all)) → ((earlier : List (List ℕ)) → StandsFor t earlier → StandsFor t' (earlier ++ payload ∷ []))
    → ReceivesSome s all t'
received_next s t t' all payload i few done before moved =
    received_all s t' all (i + 1) few (λ earlier st. stands_with t' earlier (take i all) (take (i + 1) all) payload done (moved (earlier ++ take i all) (before earlier st)))
