-- What a side delivers are the payloads that it handled, and what it wrote and holds are those that it was handed.
use Rattle.std.proofs.Common.{◌≡◌, ℕ, List, [], ◌∷◌, ◌++◌, map, refl, sym, ◌∙◌, ap, subst, arith, true, false, if◌then◌else◌, ◌&&◌, nat_le, append_assoc, append-nil}
use Rattle.std.proofs.lemmas.Bool.Decides.{nat_tests}
use Rattle.std.specs.Prelude.{filter}
use Rattle.ssh_packet.specs.Sealing.{Item, next_number}
use Rattle.ssh_packet.specs.Stream.{message_type}
use Rattle.ssh_wire.specs.declared.side.Side.{Side}
use Rattle.ssh_kex.specs.declared.config.Config.{Config}
use Rattle.ssh_kex.specs.Setting.{Says}
use Rattle.ssh_rules.specs.MessageTypes.{type_of, is_kex_type, is_payload_type}
use Rattle.ssh_rules.specs.Wire.{carried_payloads}
use Rattle.ssh_rules.specs.Machine.{SideState, setting, Event, IdHeard, PayloadSubmitted, ExchangeBegun, AnswerSent, PayloadSent, MessageTaken, GuessDropped, PayloadDelivered, PacketDropped, ExchangeFinished, Steps}
use Rattle.ssh_rules.proofs.side.StageFits.{Trace}
use Rattle.ssh_rules.specs.Log.{wrote, handled, delivered_in, submitted_in}
use Rattle.ssh_rules.proofs.side.Places.{HeldOk}
use Rattle.ssh_rules.proofs.side.LedgerSteps.{Tidy, tidy_step, AllKex, takes_kex, finishes_kex}
use Rattle.ssh_rules.proofs.turns.LinkBounded.{kexinit_kind}
use Rattle.ssh_kex.specs.Stages.{AwaitsNewkeys}

kex_no_payload : (t : ℕ) → is_kex_type t ≡ true → is_payload_type t ≡ false
kex_no_payload t h = grind (arith, nat_tests)

drop_no_payload : (t : ℕ) → (nat_le 2 t && nat_le t 4) ≡ true → is_payload_type t ≡ false
drop_no_payload t h = grind (arith, nat_tests)

without : (i : Item) (items : List Item) → is_payload_type (type_of i) ≡ false → carried_payloads (i ∷ items) ≡ carried_payloads items
without i items h = ap (λ b. map (λ (j : Item). j.payload) (if b then i ∷ filter (λ j. is_payload_type (type_of j)) items else filter (λ j. is_payload_type (type_of j)) items)) h

with_one : (i : Item) (items : List Item) → is_payload_type (type_of i) ≡ true → carried_payloads (i ∷ items) ≡ i.payload ∷ carried_payloads items
with_one i items h = ap (λ b. map (λ (j : Item). j.payload) (if b then i ∷ filter (λ j. is_payload_type (type_of j)) items else filter (λ j. is_payload_type (type_of j)) items)) h

pub delivers : (says : Says) (side : Side) (config : Config) (own_id : List ℕ) (log : List Event) (st st' : SideState) → Steps says side config own_id st log st' → delivered_in log ≡ carried_payloads (handled log)
delivers says side config own_id [] st st' h = refl
delivers says side config own_id (PayloadDelivered i ∷ es) st st' h = ap (λ x. i.payload ∷ x) (delivers says side config own_id es h.0 st' h.2) ∙ sym (with_one i (handled es) h.1.allowed)
delivers says side config own_id (MessageTaken i ∷ es) st st' h = delivers says side config own_id es h.0 st' h.2 ∙ sym (without i (handled es) (kex_no_payload (type_of i) (takes_kex says (setting side config own_id st) h.1.stage (next_number st.reading.number) i.payload h.1.answers h.1.next h.1.takes).0))
delivers says side config own_id (GuessDropped i ∷ es) st st' h = delivers says side config own_id es h.0 st' h.2 ∙ sym (without i (handled es) (kex_no_payload (type_of i) h.1.is_kex))
delivers says side config own_id (PacketDropped i ∷ es) st st' h = delivers says side config own_id es h.0 st' h.2 ∙ sym (without i (handled es) (drop_no_payload (type_of i) h.1.idle))
delivers says side config own_id (ExchangeFinished i x ∷ es) st st' h = delivers says side config own_id es h.0 st' h.2 ∙ sym (without i (handled es) (kex_no_payload (type_of i) (ap (λ p. is_kex_type (message_type p)) (finishes_kex says (AwaitsNewkeys h.1.exchange x h.1.host) i.payload x (h.1.payload_is, refl, h.1.trusted)))))
delivers says side config own_id (IdHeard id ∷ es) st st' h = delivers says side config own_id es h.0 st' h.2
delivers says side config own_id (PayloadSubmitted p ∷ es) st st' h = delivers says side config own_id es h.0 st' h.2
delivers says side config own_id (ExchangeBegun cause i ∷ es) st st' h = delivers says side config own_id es h.0 st' h.2
delivers says side config own_id (AnswerSent i q ∷ es) st st' h = delivers says side config own_id es h.0 st' h.2
delivers says side config own_id (PayloadSent i ∷ es) st st' h = delivers says side config own_id es h.0 st' h.2

pub submits : (says : Says) (side : Side) (config : Config) (own_id : List ℕ) (log : List Event) (st st' : SideState) (t : Trace) → Tidy says side config own_id st t → Steps says side config own_id st log st' → carried_payloads (wrote log) ++ st'.held ≡ st.held ++ submitted_in log
submits says side config own_id [] st st' t y h = ap (λ (s : SideState). s.held) h ∙ sym (append-nil st.held)
submits says side config own_id (PayloadSubmitted p ∷ es) st st' t y h = submits says side config own_id es h.0 st' _ (tidy_step says side config own_id st (PayloadSubmitted p) h.0 t y h.1) h.2 ∙ (ap (λ (s : SideState). s.held ++ submitted_in es) h.1.becomes ∙ append_assoc st.held (p ∷ []) (submitted_in es))
submits says side config own_id (ExchangeBegun cause i ∷ es) st st' t y h = ap (λ x. x ++ st'.held) (without i (wrote es) (kex_no_payload (type_of i) (kexinit_kind side config h.1.cookie i h.1.payload_is))) ∙ (submits says side config own_id es h.0 st' _ (tidy_step says side config own_id st (ExchangeBegun cause i) h.0 t y h.1) h.2 ∙ ap (λ (s : SideState). s.held ++ submitted_in es) h.1.becomes)
submits says side config own_id (AnswerSent i q ∷ es) st st' t y h = ap (λ x. x ++ st'.held) (without i (wrote es) (kex_no_payload (type_of i) (subst AllKex h.1.owes y.owed_kex).0)) ∙ (submits says side config own_id es h.0 st' _ (tidy_step says side config own_id st (AnswerSent i q) h.0 t y h.1) h.2 ∙ ap (λ (s : SideState). s.held ++ submitted_in es) h.1.becomes)
submits says side config own_id (PayloadSent i ∷ es) st st' t y h =
    ap (λ x. x ++ st'.held) (with_one i (wrote es) (subst HeldOk h.1.holds y.held).0)
    ∙ (ap (λ x. i.payload ∷ x) (submits says side config own_id es h.0 st' _ (tidy_step says side config own_id st (PayloadSent i) h.0 t y h.1) h.2 ∙ ap (λ (s : SideState). s.held ++ submitted_in es) h.1.becomes)
    ∙ ap (λ x. x ++ submitted_in es) (sym h.1.holds))
submits says side config own_id (IdHeard id ∷ es) st st' t y h = submits says side config own_id es h.0 st' _ (tidy_step says side config own_id st (IdHeard id) h.0 t y h.1) h.2 ∙ ap (λ (s : SideState). s.held ++ submitted_in es) h.1.becomes
submits says side config own_id (MessageTaken i ∷ es) st st' t y h = submits says side config own_id es h.0 st' _ (tidy_step says side config own_id st (MessageTaken i) h.0 t y h.1) h.2 ∙ ap (λ (s : SideState). s.held ++ submitted_in es) h.1.becomes
submits says side config own_id (GuessDropped i ∷ es) st st' t y h = submits says side config own_id es h.0 st' _ (tidy_step says side config own_id st (GuessDropped i) h.0 t y h.1) h.2 ∙ ap (λ (s : SideState). s.held ++ submitted_in es) h.1.becomes
submits says side config own_id (PayloadDelivered i ∷ es) st st' t y h = submits says side config own_id es h.0 st' _ (tidy_step says side config own_id st (PayloadDelivered i) h.0 t y h.1) h.2 ∙ ap (λ (s : SideState). s.held ++ submitted_in es) h.1.becomes
submits says side config own_id (PacketDropped i ∷ es) st st' t y h = submits says side config own_id es h.0 st' _ (tidy_step says side config own_id st (PacketDropped i) h.0 t y h.1) h.2 ∙ ap (λ (s : SideState). s.held ++ submitted_in es) h.1.becomes
submits says side config own_id (ExchangeFinished i z ∷ es) st st' t y h = submits says side config own_id es h.0 st' _ (tidy_step says side config own_id st (ExchangeFinished i z) h.0 t y h.1) h.2 ∙ ap (λ (s : SideState). s.held ++ submitted_in es) h.1.becomes
