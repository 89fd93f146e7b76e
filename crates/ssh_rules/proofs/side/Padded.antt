-- A side pads what it writes.
use Rattle.std.proofs.Common.{◌≡◌, ℕ, List, [], ◌∷◌, map, refl, sym, ◌∙◌, ap, subst, Option, Some, true, false, if◌then◌else◌}
use Rattle.ssh_packet.specs.Sealing.{Item, next_number}
use Rattle.ssh_packet.specs.Stream.{Opening, Place, place_after}
use Rattle.ssh_wire.specs.declared.side.Side.{Side}
use Rattle.ssh_kex.specs.declared.config.Config.{Config}
use Rattle.ssh_kex.specs.Exchange.{outgoing}
use Rattle.ssh_rules.specs.MessageTypes.{type_of, is_payload_type}
use Rattle.ssh_kex.specs.Setting.{Says}
use Rattle.ssh_kex.specs.Stages.{Stage, Created, AwaitsGroup, AwaitsReply, AwaitsRequest, AwaitsValue, AwaitsNewkeys, guess_dropped}
use Rattle.ssh_rules.specs.Machine.{Spot, spot_after, Where, Inside, SideState, setting, Event, IdHeard, PayloadSubmitted, ExchangeBegun, AnswerSent, PayloadSent, MessageTaken, GuessDropped, PayloadDelivered, PacketDropped, ExchangeFinished, Steps}
use Rattle.ssh_rules.specs.Log.{wrote, recorded}
use Rattle.ssh_rules.proofs.side.Ending.{LastIn}
use Rattle.ssh_packet.specs.Sealing.{IsPadded}
use Rattle.ssh_rules.specs.Wire.{ArePadded}
use Rattle.ssh_rules.proofs.side.Places.{place_of, resumed, ended, writing_place, OwedOk, HeldOk, takes_row, owed_step, open_with, open_takes, open_drops, open_may, at_open, after_plain, answered, kexinit_plain, payload_plain, held_step}

abbrev PaddedRest : Side → List Event → SideState → Type 0
PaddedRest side es m = ArePadded (writing_place m (map (outgoing side) (recorded es))) (wrote es)

step_padded : (at : Spot) (openings : List Opening) (i : Item) (start behind : Option Place) (items : List Item) → IsPadded at.sealing i → start ≡ Some (place_of at openings) → place_after (place_of at openings) i ≡ behind → ArePadded behind items → ArePadded start (i ∷ items)
step_padded at openings i start behind items a e f r = subst (λ p. ArePadded p (i ∷ items)) (sym e) (a, subst (λ p. ArePadded p items) (sym f) r)

same_padded : (side : Side) (es : List Event) (w w' : Where) (owed owed' : List (List ℕ)) (at : Spot) → ended w owed ≡ false → ended w' owed' ≡ false
    → ArePadded (if ended w' owed' then resumed (map (outgoing side) (recorded es)) at.number else Some (place_of at (map (outgoing side) (recorded es)))) (wrote es)
    → ArePadded (if ended w owed then resumed (map (outgoing side) (recorded es)) at.number else Some (place_of at (map (outgoing side) (recorded es)))) (wrote es)
same_padded side es w w' owed owed' at e f r = subst (λ p. ArePadded p (wrote es)) (at_open w' owed' at _ f ∙ sym (at_open w owed at _ e)) r

pub written_padded : (says : Says) (side : Side) (config : Config) (own_id : List ℕ) (log : List Event) (st st' : SideState) → OwedOk st.stands st.owed → HeldOk st.held → Steps says side config own_id st log st' → PaddedRest side log st
written_padded says side config own_id [] st st' w k h = tt
written_padded says side config own_id (IdHeard id ∷ es) st st' w k h = subst (PaddedRest side es) h.1.becomes (written_padded says side config own_id es h.0 st' (owed_step says side config own_id st (IdHeard id) h.0 w h.1) (held_step says side config own_id st (IdHeard id) h.0 k h.1) h.2)
written_padded says side config own_id (PayloadSubmitted p ∷ es) st st' w k h = subst (PaddedRest side es) h.1.becomes (written_padded says side config own_id es h.0 st' (owed_step says side config own_id st (PayloadSubmitted p) h.0 w h.1) (held_step says side config own_id st (PayloadSubmitted p) h.0 k h.1) h.2)
written_padded says side config own_id (ExchangeBegun cause i ∷ es) st st' w k h =
    let next = subst (PaddedRest side es) h.1.becomes (written_padded says side config own_id es h.0 st' (owed_step says side config own_id st (ExchangeBegun cause i) h.0 w h.1) (held_step says side config own_id st (ExchangeBegun cause i) h.0 k h.1) h.2) in
    step_padded st.writing (map (outgoing side) (recorded es)) i _ _ (wrote es) h.1.is_written.padded (at_open st.stands st.owed st.writing _ (open_may config st cause h.1.may)) (after_plain st.writing _ i (kexinit_plain side config h.1.cookie i h.1.payload_is)) next
written_padded says side config own_id (AnswerSent i resets ∷ es) st st' w k h =
    let next = subst (PaddedRest side es) h.1.becomes (written_padded says side config own_id es h.0 st' (owed_step says side config own_id st (AnswerSent i resets) h.0 w h.1) (held_step says side config own_id st (AnswerSent i resets) h.0 k h.1) h.2) in
    step_padded st.writing (map (outgoing side) (recorded es)) i _ _ (wrote es) h.1.is_written.padded (at_open st.stands st.owed st.writing _ (ap (ended st.stands) h.1.owes ∙ open_with st.stands i.payload h.1.more)) (answered says side config own_id es st.writing i resets st.stands h.1.more h.0 st' (subst (OwedOk st.stands) h.1.owes w) h.1.again_is (ap (λ (m : SideState). m.stands) h.1.becomes) h.2) next
written_padded says side config own_id (PayloadSent i ∷ es) st st' w k h =
    let next = subst (PaddedRest side es) h.1.becomes (written_padded says side config own_id es h.0 st' (owed_step says side config own_id st (PayloadSent i) h.0 w h.1) (held_step says side config own_id st (PayloadSent i) h.0 k h.1) h.2) in
    let payload : is_payload_type (type_of i) ≡ true = (subst HeldOk h.1.holds k).0 in
    step_padded st.writing (map (outgoing side) (recorded es)) i _ _ (wrote es) h.1.is_written.padded (at_open st.stands st.owed st.writing _ (ap (λ v. ended v st.owed) h.1.outside)) (after_plain st.writing _ i (payload_plain i payload)) (subst (λ p. ArePadded p (wrote es)) (at_open st.stands st.owed (spot_after st.writing i) _ (ap (λ v. ended v st.owed) h.1.outside)) next)
written_padded says side config own_id (MessageTaken i ∷ es) st st' w k h =
    let next = subst (PaddedRest side es) h.1.becomes (written_padded says side config own_id es h.0 st' (owed_step says side config own_id st (MessageTaken i) h.0 w h.1) (held_step says side config own_id st (MessageTaken i) h.0 k h.1) h.2) in
    same_padded side es st.stands (Inside h.1.next) st.owed h.1.answers st.writing (ap (λ v. ended v st.owed) h.1.inside ∙ open_takes says (setting side config own_id st) h.1.stage (next_number st.reading.number) i.payload h.1.answers h.1.next st.owed h.1.takes) ((takes_row says (setting side config own_id st) h.1.stage (next_number st.reading.number) i.payload h.1.answers h.1.next h.1.takes).open_yet) next
written_padded says side config own_id (GuessDropped i ∷ es) st st' w k h =
    let next = subst (PaddedRest side es) h.1.becomes (written_padded says side config own_id es h.0 st' (owed_step says side config own_id st (GuessDropped i) h.0 w h.1) (held_step says side config own_id st (GuessDropped i) h.0 k h.1) h.2) in
    same_padded side es st.stands (Inside (guess_dropped h.1.stage)) st.owed st.owed st.writing (ap (λ v. ended v st.owed) h.1.inside ∙ (open_drops h.1.stage st.owed h.1.drops).0) ((open_drops h.1.stage st.owed h.1.drops).1) next
written_padded says side config own_id (PayloadDelivered i ∷ es) st st' w k h = subst (PaddedRest side es) h.1.becomes (written_padded says side config own_id es h.0 st' (owed_step says side config own_id st (PayloadDelivered i) h.0 w h.1) (held_step says side config own_id st (PayloadDelivered i) h.0 k h.1) h.2)
written_padded says side config own_id (PacketDropped i ∷ es) st st' w k h = subst (PaddedRest side es) h.1.becomes (written_padded says side config own_id es h.0 st' (owed_step says side config own_id st (PacketDropped i) h.0 w h.1) (held_step says side config own_id st (PacketDropped i) h.0 k h.1) h.2)
written_padded says side config own_id (ExchangeFinished i x ∷ es) st st' w k h =
    let next = subst (PaddedRest side es) h.1.becomes (written_padded says side config own_id es h.0 st' (owed_step says side config own_id st (ExchangeFinished i x) h.0 w h.1) (held_step says side config own_id st (ExchangeFinished i x) h.0 k h.1) h.2) in
    finished (AwaitsNewkeys h.1.exchange x h.1.host) (h.1.payload_is, refl, h.1.trusted) h.1.inside h.1.owes next
  where
    finished : (stage : Stage) → LastIn says stage i.payload x → st.stands ≡ Inside stage → st.owed ≡ [] → ArePadded (Some (place_of (record st.writing { sealing = (outgoing side x).sealing }) (map (outgoing side) (recorded es)))) (wrote es) → PaddedRest side (ExchangeFinished i x ∷ es) st
    finished (AwaitsNewkeys exchange made host) f e o r = subst (λ b. ArePadded (if b then resumed (outgoing side x ∷ map (outgoing side) (recorded es)) st.writing.number else Some (place_of st.writing (outgoing side x ∷ map (outgoing side) (recorded es)))) (wrote es)) (sym (ap (λ v. ended v st.owed) e ∙ ap (ended (Inside (AwaitsNewkeys exchange made host))) o)) r
    finished (Created k) f e o r = absurd f
    finished (AwaitsGroup k) f e o r = absurd f
    finished (AwaitsReply k g l p) f e o r = absurd f
    finished (AwaitsRequest k) f e o r = absurd f
    finished (AwaitsValue k g) f e o r = absurd f
