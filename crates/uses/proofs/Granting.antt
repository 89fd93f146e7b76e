-- A service that is asked for over a link.
use Rattle.std.proofs.Common.{◌≡◌, ℕ, suc, zero, ◌+◌, ◌*◌, ◌<◌, ◌≤◌, List, [], ◌∷◌, ◌++◌, length, take, map, get_or, Bool, true, false, ◌&&◌, ◌||◌, not, Ok, Err, refl, sym, ◌∙◌, ap, subst, arith, length-append, inl, inr}
use Rattle.std.proofs.lemmas.Bool.Decides.{nat_tests}
use Rattle.std.proofs.lemmas.Slice.Eq.{bytes_eq-Decides}
use Rattle.std.specs.Str.{bytes_eq}
use Rattle.std.specs.List.{flat_map}
use Rattle.ssh_rules.specs.MessageTypes.{is_payload_type}
use Rattle.ssh_rules.specs.Valid.{is_bad_size, is_good_payload}
use Rattle.ssh_kex.specs.declared.config.Config.{Config}
use Rattle.ssh_rules.specs.Headline.{IsLink}
use Rattle.ssh_rules.specs.Parts.{ClientPairs, Secrets, ServerValues}
use Rattle.ssh_rules.specs.declared.link.LinkReport.{LinkReport}
use Rattle.ssh_rules.specs.declared.link.Step.{Step}
use Rattle.ssh_rules.specs.declared.link.Step.TheVariants.{Settle, Submit}
use Rattle.ssh_negotiate.specs.declared.kex.Name.{Name as KexName}
use Rattle.ssh_wire.specs.declared.side.Side.{Side}
use Rattle.ssh_wire.specs.declared.side.Side.TheVariants.{Client, Server}
use Rattle.ssh_run.specs.RunCauses.{IsValidRun, all_submits_good}
use Rattle.ssh_service.proofs.Lemmas.{first_accepted, message_again, named_short}
use Rattle.ssh_service.specs.Answers.{answers_from, has_name}
use Rattle.ssh_service.specs.Extensions.{AllExtensions, AreExtensions, extension}
use Rattle.ssh_service.specs.Messages.{IsMessage, IsReadAs, spelling}
use Rattle.ssh_service.specs.ServiceNames.{IsServiceName}
use Rattle.ssh_service.specs.declared.answer.ServiceAnswer.{ServiceAnswer}
use Rattle.ssh_service.specs.declared.answer.ServiceAnswer.TheVariants.{Accepted}
use Rattle.ssh_service.specs.declared.info.Extension.{Extension}
use Rattle.ssh_service.specs.declared.message.ServiceMessage.{ServiceMessage}
use Rattle.ssh_service.specs.declared.message.ServiceMessage.TheVariants.{Accept, Info, Request}
use Rattle.ssh_wire.specs.Forms.{string, u32be}
use Rattle.ssh_wire.specs.declared.error.Error.{Error}
use Rattle.ssh_wire.specs.declared.error.Error.TheVariants.{Memory}
use Rattle.uses.specs.Granted.{AreMessages, granting_steps}
use Rattle.uses.proofs.Settling.{all_delivered}
use Rattle.uses.specs.Settled.{AllDelivered}

-- ---- messages one after the other

-- the next one, and what is read so far with it
pub record NextMessage (messages : List ServiceMessage) (i : ℕ) (payload : List ℕ) : Type 0 where
  pub message : ServiceMessage
  pub is : IsMessage message
  pub spelled : payload ≡ spelling message
  pub more : take (i + 1) messages ≡ take i messages ++ message ∷ []

next_in : (messages : List ServiceMessage) (i : ℕ) (item : List ℕ) → AreMessages messages → i < length (map spelling messages) → item ≡ get_or (map spelling messages) i item → NextMessage messages i item
next_in [] i item are h is = absurd (omega (arith, h))
next_in (m ∷ messages) zero item are h is = record { message = m; is = are.0; spelled = is; more = refl }
next_in (m ∷ messages) (suc i) item are h is =
    let r = next_in messages i item are.1 (omega (arith, h)) is in
    record { message = r.message; is = r.is; spelled = r.spelled; more = ap (λ k. take k (m ∷ messages)) (one_more i) ∙ ap (λ t. m ∷ t) r.more }
  where
    one_more : (n : ℕ) → suc n + 1 ≡ suc (n + 1)
    one_more n = omega arith

pub next_message : (messages : List ServiceMessage) (payloads items : List (List ℕ)) (i : ℕ) (payload item : List ℕ) → AreMessages messages → payloads ≡ map spelling messages → items ≡ payloads → i < length items → item ≡ get_or items i item → payload ≡ item → NextMessage messages i payload
next_message messages payloads items i payload item are e same h is p =
    subst (λ x. NextMessage messages i x) (sym p) (next_in messages i item are (subst (λ l. i < length l) (same ∙ e) h) (subst (λ l. item ≡ get_or l i item) (same ∙ e) is))

-- what was read as a message is it
pub read_is : (m n : ServiceMessage) → IsReadAs (Ok m) (Ok n) → n ≡ m
read_is m n h = cc

pub read_refuses : (m : ServiceMessage) (e : Error) → IsReadAs (Ok m) (Err e) → e ≡ Memory
read_refuses m e (inl h) = h
read_refuses m e (inr h) = cc

-- ---- the steps may be taken

string_length : (s : List ℕ) → length (string s) ≡ 4 + length s
string_length s = length-append (u32be (length s)) s

extension_length : (e : Extension) (short : length e.name ≤ 255) (value : length e.value ≤ 8192) → length (extension e) ≤ 8455
extension_length e short value = omega (arith, length-append (string e.name) (string e.value), string_length e.name, string_length e.value, short, value)

extensions_length : (es : List Extension) → AllExtensions es → length (flat_map extension es) ≤ 8455 * length es
extensions_length [] all = omega arith
extensions_length (e ∷ es) all =
    omega (arith, length-append (extension e) (flat_map extension es), extension_length e (named_short e.name all.0.name.no_fault) all.0.value, extensions_length es all.1)

spelling_good : (t : ℕ) (rest : List ℕ) → is_payload_type t ≡ true → length rest < 262157 → is_good_payload (t ∷ rest) ≡ true
spelling_good t rest type short = go (is_bad_size (length (t ∷ rest))) (is_payload_type t) size type where
  size : is_bad_size (length (t ∷ rest)) ≡ false
  size = grind (arith, nat_tests)

  go : (a b : Bool) → a ≡ false → b ≡ true → (not a && b) ≡ true
  go true b e f = cc
  go false true e f = refl
  go false false e f = cc

-- the three messages
named_good : (t : ℕ) (name : List ℕ) → is_payload_type t ≡ true → IsServiceName name → is_good_payload (t ∷ string name) ≡ true
named_good t name type is = spelling_good t (string name) type (omega (arith, string_length name, named_short name is.no_fault))

told_good : (extensions : List Extension) → AreExtensions extensions → is_good_payload (7 ∷ (u32be (length extensions) ++ flat_map extension extensions)) ≡ true
told_good extensions are =
    spelling_good 7 (u32be (length extensions) ++ flat_map extension extensions) refl
    (omega (arith, length-append (u32be (length extensions)) (flat_map extension extensions), extensions_length extensions are.each, are.few))

pub steps_good : (name : List ℕ) (extensions : List Extension) → IsServiceName name → AreExtensions extensions → all_submits_good (granting_steps name extensions) ≡ true
steps_good name extensions is are =
    go (is_good_payload (spelling (Info extensions))) (is_good_payload (spelling (Request name))) (is_good_payload (spelling (Accept name)))
    (told_good extensions are) (named_good 5 name refl is) (named_good 6 name refl is)
  where
    go : (a b c : Bool) → a ≡ true → b ≡ true → c ≡ true → (true && (a && (b && (true && (c && (true && true)))))) ≡ true
    go true true true e f g = refl
    go true true false e f g = cc
    go true false c e f g = cc
    go false b c e f g = cc

-- a run that is valid but for its steps, which are good
pub run_with : (config : Side → Config) (offered : Side → KexName → Bool) (steps : List Step) → IsValidRun config offered []
    → all_submits_good steps ≡ true → IsValidRun config offered steps
run_with config offered steps v good =
    record { valid = v.valid; names = v.names; chosen = v.chosen; offers = v.offers; good = good }

-- ---- what comes of them

-- a link of these steps
pub linked_so : (client_makes : ClientPairs) (server_makes : ServerValues) (agrees : Secrets) (client server : Config)
    (steps : List Step) (name : List ℕ) (extensions : List Extension) (report : LinkReport)
    → steps ≡ granting_steps name extensions → IsLink client_makes server_makes agrees client server steps report
    → AllDelivered (granting_steps name extensions) report
linked_so client_makes server_makes agrees client server steps name extensions report e link =
    all_delivered client_makes server_makes agrees client server
    (Settle ∷ Submit Server (spelling (Info extensions)) ∷ Submit Client (spelling (Request name)) ∷ Settle
    ∷ Submit Server (spelling (Accept name)) ∷ [])
    report (subst (λ s. IsLink client_makes server_makes agrees client server s report) e link)

-- the server's answer to the request, where it offers this service alone
pub granted_once : (offered : List (List ℕ)) (name : List ℕ) (extensions : List Extension) (report : LinkReport)
    (answers : List ServiceAnswer) → IsServiceName name → offered ≡ name ∷ []
    → AllDelivered (granting_steps name extensions) report
    → answers ≡ answers_from offered [] report.server.delivered → answers ≡ Accepted (spelling (Accept name)) ∷ []
granted_once offered name extensions report answers is one all e =
    e ∙ (ap (λ o. answers_from o [] report.server.delivered) one ∙ (ap (answers_from (name ∷ []) []) all.to_server
    ∙ ap (λ a. a ∷ []) (first_accepted (name ∷ []) [] (spelling (Request name)) name (message_again (Request name) is) has refl)))
  where
    same : bytes_eq name name ≡ true
    same = (bytes_eq-Decides name name).1 refl

    has : has_name name (name ∷ []) ≡ true
    has = ap (λ b. b || false) same

-- the messages of the server
pub told_both : (name : List ℕ) (extensions : List Extension) (report : LinkReport) → AllDelivered (granting_steps name extensions) report → report.client.delivered ≡ map spelling (Info extensions ∷ Accept name ∷ [])
told_both name extensions report all = all.to_client
