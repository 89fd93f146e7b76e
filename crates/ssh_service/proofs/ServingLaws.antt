-- Payloads that are submitted one after the other, and what their answers are.
use Rattle.std.proofs.Common.{◌≡◌, ℕ, ◌+◌, true, false, not, ◌&&◌, List, [], ◌∷◌, ◌++◌, length, take, sym, ap, ◌∙◌, subst, append_assoc, append-nil, arith}
use Rattle.std.proofs.lemmas.Bool.Decides.{nat_tests}
use Rattle.ssh_kex.specs.Setting.{Says}
use Rattle.ssh_rules.specs.Standing.{Standing, Submitted}
use Rattle.ssh_rules.specs.Log.{delivered_in}
use Rattle.ssh_rules.specs.Wire.{carried_payloads}
use Rattle.ssh_rules.proofs.Lemmas.{delivers}
use Rattle.ssh_wire.specs.Lines.{id_text}
use Rattle.ssh_rules.specs.Valid.{is_bad_size, is_good_payload}
use Rattle.ssh_service.specs.Answers as machine
use Rattle.ssh_service.specs.Answers.{ReceivesSome, StandsFor, answers_from}
use Rattle.ssh_service.specs.Messages.{spelling}
use Rattle.ssh_kex.specs.declared.config.Config.{Config}
use Rattle.ssh_service.specs.Serving.{ServesSome, SubmitsAll, replies_in, replies_of}
use Rattle.ssh_service.specs.Steps.{IsGrant}
use Rattle.ssh_service.specs.declared.answer.ServiceAnswer.{ServiceAnswer}
use Rattle.ssh_service.specs.declared.message.ServiceMessage.TheVariants.{Accept}
use Rattle.ssh_service.proofs.FieldReads.{named_short}

pub submits_join : (says : Says) (old mid new : Standing) (ps qs : List (List ℕ)) → SubmitsAll says old ps mid → SubmitsAll says mid qs new → SubmitsAll says old (ps ++ qs) new
submits_join says old mid new [] qs h k = subst (λ t. SubmitsAll says t qs new) h k
submits_join says old mid new (p ∷ ps) qs h k = (h.0, h.1, submits_join says h.0 mid new ps qs h.2 k)

pub replies_more : (answers : List ServiceAnswer) (answer : ServiceAnswer) → replies_in (answers ++ answer ∷ []) ≡ replies_in answers ++ replies_of answer
replies_more [] answer = append-nil (replies_of answer)
replies_more (a ∷ answers) answer = ap (λ l. replies_of a ++ l) (replies_more answers answer) ∙ sym (append_assoc (replies_of a) (replies_in answers) (replies_of answer))

-- a message that grants a service may be submitted
pub grant_good : (reply : List ℕ) → IsGrant reply → is_good_payload reply ≡ true
grant_good reply g =
    let short = named_short g.0 g.1.no_fault in
    let size : length (spelling (Accept g.0)) ≡ 5 + length g.0 = grind arith in
    let fits : is_bad_size (length (spelling (Accept g.0))) ≡ false = grind (arith, nat_tests) in
    ap is_good_payload g.2 ∙ ap (λ t. not t && true) fits

pub replies_next : (says : Says) (old mid new : Standing) (answers answers' : List ServiceAnswer) (a : ServiceAnswer) → answers' ≡ answers ++ a ∷ []
    → SubmitsAll says old (replies_in answers) mid → SubmitsAll says mid (replies_of a) new → SubmitsAll says old (replies_in answers') new
replies_next says old mid new answers answers' a e h k =
    subst (λ l. SubmitsAll says old l new) (sym (ap replies_in e ∙ replies_more answers a)) (submits_join says old mid new (replies_in answers) (replies_of a) h k)

-- what is submitted delivers nothing
pub submit_keeps : (says : Says) (old : Standing) (payload : List ℕ) (new : Standing) → Submitted says old payload new → new.delivered ≡ old.delivered
submit_keeps says old payload new h =
    let none : delivered_in h.events ≡ [] = delivers says old.side old.config (id_text old.config.id) h.events old.state new.state h.acts.steps ∙ ap carried_payloads h.none_read in
    h.acts.delivered ∙ (ap (λ l. old.delivered ++ l) none ∙ append-nil old.delivered)

pub submits_keep : (says : Says) (old : Standing) (payloads : List (List ℕ)) (new : Standing) → SubmitsAll says old payloads new → new.delivered ≡ old.delivered
submits_keep says old [] new h = ap (λ t. t.delivered) h
submits_keep says old (p ∷ payloads) new h = submits_keep says h.0 payloads new h.2 ∙ submit_keeps says old p h.0 h.1

-- what parts say that are as they were
pub submits_there : {A H G : Type 0} (says : Config → A → H → G → Says) (config config' : Config) (a a' : A) (h h' : H) (g g' : G) (old : Standing) (payloads : List (List ℕ)) (new : Standing)
    → config' ≡ config → a' ≡ a → h' ≡ h → g' ≡ g → SubmitsAll (says config' a' h' g') old payloads new → SubmitsAll (says config a h g) old payloads new
submits_there says config config' a a' h h' g g' old payloads new c e k m s =
    subst (λ x. SubmitsAll (says x a h g) old payloads new) c
    (subst (λ x. SubmitsAll (says config' x h g) old payloads new) e
    (subst (λ x. SubmitsAll (says config' a' x g) old payloads new) k
    (subst (λ x. SubmitsAll (says config' a' h' x) old payloads new) m s)))

-- how far it came where the transport lives
pub serves_some : (says : Says) (old : Standing) (s : machine.ServiceState) (payloads : List (List ℕ)) (new : Standing) (t : machine.ServiceState) (answers : List ServiceAnswer) (r : ReceivesSome s payloads t)
    → ((earlier : List (List ℕ)) → StandsFor s earlier → answers ≡ answers_from s.offered earlier (take r.count payloads))
    → SubmitsAll says old (replies_in answers) new → ServesSome says old s payloads new t
serves_some says old s payloads new t answers r is submitted = record {
  received = r;
  replies = λ live earlier st. subst (λ l. SubmitsAll says old (replies_in l) new) (is earlier st) submitted;
}

-- and where it failed
pub serves_failed : (says : Says) (old : Standing) (s : machine.ServiceState) (payloads : List (List ℕ)) (new : Standing) (t : machine.ServiceState) → ReceivesSome s payloads t
    → new.failed ≡ true → ServesSome says old s payloads new t
serves_failed says old s payloads new t r failed = record {
  received = r;
  replies = λ live earlier st. let both : true ≡ false = sym failed ∙ live in cc;
}
