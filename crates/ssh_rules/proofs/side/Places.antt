-- A side's packets are read off what it sent, under the exchanges that it recorded.
use Rattle.std.proofs.Common.{nat_le, ◌≡◌, ℕ, List, [], ◌∷◌, ◌++◌, map, refl, sym, ◌∙◌, ap, subst, arith, Option, Some, None, Bool, true, false, if◌then◌else◌, ◌==◌, ◌&&◌, inl, inr}
use Rattle.std.proofs.lemmas.Bool.Decides.{nat_tests}
use Rattle.ssh_packet.specs.Sealing.{Item, IsAdmissible, sealed_packet, next_number}
use Rattle.ssh_packet.specs.Stream.{Opening, Place, Reads, place_after, is_newkeys, message_type, next_place, kept_number}
use Rattle.ssh_wire.specs.declared.side.Side.{Side}
use Rattle.ssh_wire.specs.declared.side.Side.TheVariants.{Client, Server}
use Rattle.ssh_kex.specs.Stages as stages
use Rattle.ssh_kex.specs.declared.config.Config.{Config}
use Rattle.ssh_kex.specs.declared.exchange.FinishedExchange.{FinishedExchange}
use Rattle.ssh_kex.specs.Messages.{is_gex, newkeys, reply_message, value_message}
use Rattle.ssh_negotiate.specs.Advertised.{kexinit}
use Rattle.ssh_kex.specs.Exchange.{outgoing}
use Rattle.ssh_rules.specs.MessageTypes.{type_of, is_payload_type}
use Rattle.ssh_kex.specs.Setting.{Says, Setting, Opened, offers_of}
use Rattle.ssh_kex.specs.Stages.{Stage, Created, AwaitsGroup, AwaitsReply, AwaitsRequest, AwaitsValue, AwaitsNewkeys, drops_guess, guess_dropped}
use Rattle.ssh_rules.specs.Machine.{Spot, spot_after, spot_renumbered, Where, Silent, Outside, Inside, SideState, setting, Cause, Start, Asked, Answering, WriteLimit, ReadLimit, MayBegin, strict_now, Event, IdHeard, PayloadSubmitted, ExchangeBegun, AnswerSent, PayloadSent, MessageTaken, GuessDropped, PayloadDelivered, PacketDropped, ExchangeFinished, Step, Steps}
use Rattle.ssh_rules.specs.Log.{wrote, handled, recorded, sent_bytes, read_bytes}
use Rattle.ssh_wire.specs.Sides.{other_side}
use Rattle.ssh_kex.specs.declared.exchange.Exchange.{Exchange}
use Rattle.ssh_rules.proofs.side.Ending.{LastIn}

abbrev pub place_of : Spot → List Opening → Place
place_of at openings = record { sealing = at.sealing; number = at.number; openings = openings }

-- behind the own NEWKEYS, with the number that stands then
abbrev pub resumed : List Opening → ℕ → Option Place
resumed [] n = None
resumed (o ∷ openings) n = Some (record { sealing = o.sealing; number = n; openings = openings })

-- whether the own NEWKEYS is written and the other's awaited
abbrev pub ended : Where → List (List ℕ) → Bool
ended (Inside (AwaitsNewkeys exchange made host)) [] = true
ended w owed = false

abbrev pub writing_place : SideState → List Opening → Option Place
writing_place st openings = if ended st.stands st.owed then resumed openings st.writing.number else Some (place_of st.writing openings)

abbrev pub is_plain : List ℕ → Type 0
is_plain p = (message_type p == 21) ≡ false

-- what may be owed: NEWKEYS last, and only where the other's is awaited next
abbrev pub EndsInNewkeys : List (List ℕ) → Type 0
EndsInNewkeys [] = Unit {0}
EndsInNewkeys (p ∷ []) = p ≡ newkeys
EndsInNewkeys (p ∷ q ∷ r) = is_plain p × EndsInNewkeys (q ∷ r)

abbrev pub NoNewkeys : List (List ℕ) → Type 0
NoNewkeys [] = Unit {0}
NoNewkeys (p ∷ r) = is_plain p × NoNewkeys r

abbrev pub OwedOk : Where → List (List ℕ) → Type 0
OwedOk (Inside (AwaitsNewkeys exchange made host)) owed = EndsInNewkeys owed
OwedOk w owed = NoNewkeys owed

pub owed_none : (w : Where) → OwedOk w []
owed_none Silent = tt
owed_none Outside = tt
owed_none (Inside (Created k)) = tt
owed_none (Inside (AwaitsGroup o)) = tt
owed_none (Inside (AwaitsReply o g l p)) = tt
owed_none (Inside (AwaitsRequest o)) = tt
owed_none (Inside (AwaitsValue o g)) = tt
owed_none (Inside (AwaitsNewkeys exchange x h)) = tt

pub reply_plain : (kind : Bool) (a b c : List ℕ) → is_plain (reply_message kind a b c)
reply_plain true a b c = refl
reply_plain false a b c = refl

-- what a row leaves owed, and that it leaves the own NEWKEYS unwritten
pub record AfterRow (next : Stage) (written : List (List ℕ)) : Type 0 where
  pub owed : OwedOk (Inside next) written
  pub open_yet : ended (Inside next) written ≡ false

at_row : (next n0 : Stage) (written w0 : List (List ℕ)) → next ≡ n0 → written ≡ w0 → AfterRow n0 w0 → AfterRow next written
at_row next n0 written w0 e f h = subst (λ n. AfterRow n written) (sym e) (subst (λ w. AfterRow n0 w) (sym f) h)

opens_row : (says : Says) (s : Setting) (o : Opened) (side : Side) (kind : Bool) (written : List (List ℕ)) (next : Stage) → stages.OpensBy side kind says s o written next → AfterRow next written
opens_row says s o Client true written next h = at_row next _ written _ h.next_is h.written_is (record { owed = (refl, tt); open_yet = refl })
opens_row says s o Client false written next h = at_row next (AwaitsReply o None h.local h.public) written _ h.leads.next_is h.leads.written_is (record { owed = (refl, tt); open_yet = refl })
opens_row says s o Server true written next h = at_row next _ written _ h.next_is h.written_is (record { owed = tt; open_yet = refl })
opens_row says s o Server false written next h = at_row next _ written _ h.next_is h.written_is (record { owed = tt; open_yet = refl })

pub takes_row : (says : Says) (s : Setting) (stage : Stage) (seqn : ℕ) (payload : List ℕ) (written : List (List ℕ)) (next : Stage) → stages.Takes says s stage seqn payload written next → AfterRow next written
takes_row says s (Created k) seqn payload written next h = opens_row says s (record { names = h.names; own_kexinit = k; peer_kexinit = payload }) s.side (is_gex h.names.kex) written next h.opens
takes_row says s (AwaitsGroup o) seqn payload written next h = at_row next _ written _ h.leads.next_is h.leads.written_is (record { owed = (refl, tt); open_yet = refl })
takes_row says s (AwaitsReply o g l p) seqn payload written next h = at_row next (AwaitsNewkeys _ _ _) written _ h.leads.next_is h.leads.written_is (record { owed = refl; open_yet = refl })
takes_row says s (AwaitsRequest o) seqn payload written next h = at_row next _ written _ h.leads.next_is h.leads.written_is (record { owed = (refl, tt); open_yet = refl })
takes_row says s (AwaitsValue o g) seqn payload written next h = at_row next (AwaitsNewkeys _ _ _) written _ h.leads.next_is h.leads.written_is (record { owed = (reply_plain (is_gex o.names.kex) h.shown.blob h.own_value h.signature, refl); open_yet = refl })
takes_row says s (AwaitsNewkeys exchange x host) seqn payload written next h = absurd h

pub owed_tail : (w : Where) (p : List ℕ) (more : List (List ℕ)) → OwedOk w (p ∷ more) → OwedOk w more
owed_tail Silent p more h = h.1
owed_tail Outside p more h = h.1
owed_tail (Inside (Created k)) p more h = h.1
owed_tail (Inside (AwaitsGroup o)) p more h = h.1
owed_tail (Inside (AwaitsReply o g l q)) p more h = h.1
owed_tail (Inside (AwaitsRequest o)) p more h = h.1
owed_tail (Inside (AwaitsValue o g)) p more h = h.1
owed_tail (Inside (AwaitsNewkeys exchange x host)) p [] h = tt
owed_tail (Inside (AwaitsNewkeys exchange x host)) p (q ∷ more) h = h.1

pub owed_step : (says : Says) (side : Side) (config : Config) (own_id : List ℕ) (st : SideState) (e : Event) (st' : SideState) → OwedOk st.stands st.owed → Step says side config own_id st e st' → OwedOk st'.stands st'.owed
owed_step says side config own_id st (IdHeard id) st' w h = subst (λ (m : SideState). OwedOk m.stands m.owed) (sym h.becomes) w
owed_step says side config own_id st (PayloadSubmitted p) st' w h = subst (λ (m : SideState). OwedOk m.stands m.owed) (sym h.becomes) w
owed_step says side config own_id st (ExchangeBegun cause i) st' w h = subst (λ (m : SideState). OwedOk m.stands m.owed) (sym h.becomes) (subst (λ o. OwedOk (Inside (Created i.payload)) o) (sym h.owes) tt)
owed_step says side config own_id st (AnswerSent i resets) st' w h = subst (λ (m : SideState). OwedOk m.stands m.owed) (sym h.becomes) (owed_tail st.stands i.payload h.more (subst (OwedOk st.stands) h.owes w))
owed_step says side config own_id st (PayloadSent i) st' w h = subst (λ (m : SideState). OwedOk m.stands m.owed) (sym h.becomes) w
owed_step says side config own_id st (MessageTaken i) st' w h = subst (λ (m : SideState). OwedOk m.stands m.owed) (sym h.becomes) ((takes_row says (setting side config own_id st) h.stage (next_number st.reading.number) i.payload h.answers h.next h.takes).owed)
owed_step says side config own_id st (GuessDropped i) st' w h = subst (λ (m : SideState). OwedOk m.stands m.owed) (sym h.becomes) (subst (OwedOk (Inside (guess_dropped h.stage))) (sym h.owes) (owed_none (Inside (guess_dropped h.stage))))
owed_step says side config own_id st (PayloadDelivered i) st' w h = subst (λ (m : SideState). OwedOk m.stands m.owed) (sym h.becomes) w
owed_step says side config own_id st (PacketDropped i) st' w h = subst (λ (m : SideState). OwedOk m.stands m.owed) (sym h.becomes) w
owed_step says side config own_id st (ExchangeFinished i x) st' w h = subst (λ (m : SideState). OwedOk m.stands m.owed) (sym h.becomes) (subst (OwedOk Outside) (sym h.owes) tt)

-- with something owed, or in another stage, the own NEWKEYS isn't written
pub open_with : (w : Where) (p : List ℕ) (more : List (List ℕ)) → ended w (p ∷ more) ≡ false
open_with Silent p more = refl
open_with Outside p more = refl
open_with (Inside (Created k)) p more = refl
open_with (Inside (AwaitsGroup o)) p more = refl
open_with (Inside (AwaitsReply o g l q)) p more = refl
open_with (Inside (AwaitsRequest o)) p more = refl
open_with (Inside (AwaitsValue o g)) p more = refl
open_with (Inside (AwaitsNewkeys exchange x host)) p more = refl

pub open_takes : (says : Says) (s : Setting) (stage : Stage) (seqn : ℕ) (payload : List ℕ) (written : List (List ℕ)) (next : Stage) (owed : List (List ℕ)) → stages.Takes says s stage seqn payload written next → ended (Inside stage) owed ≡ false
open_takes says s (Created k) seqn payload written next owed h = refl
open_takes says s (AwaitsGroup o) seqn payload written next owed h = refl
open_takes says s (AwaitsReply o g l p) seqn payload written next owed h = refl
open_takes says s (AwaitsRequest o) seqn payload written next owed h = refl
open_takes says s (AwaitsValue o g) seqn payload written next owed h = refl
open_takes says s (AwaitsNewkeys exchange x host) seqn payload written next owed h = absurd h

pub open_drops : (stage : Stage) (owed : List (List ℕ)) → drops_guess stage ≡ true → (ended (Inside stage) owed ≡ false) × (ended (Inside (guess_dropped stage)) owed ≡ false)
open_drops (Created k) owed h = (refl, refl)
open_drops (AwaitsGroup o) owed h = (refl, refl)
open_drops (AwaitsReply o g l p) owed h = (refl, refl)
open_drops (AwaitsRequest o) owed h = (refl, refl)
open_drops (AwaitsValue o g) owed h = (refl, refl)
open_drops (AwaitsNewkeys exchange x host) owed h = cc

pub open_may : (config : Config) (st : SideState) (cause : Cause) → MayBegin config st cause → ended st.stands st.owed ≡ false
open_may config st Start h = ap (λ w. ended w st.owed) h.0
open_may config st Asked h = ap (λ w. ended w st.owed) h
open_may config st Answering h = ap (λ w. ended w st.owed) h
open_may config st WriteLimit h = ap (λ w. ended w st.owed) h.0
open_may config st ReadLimit h = ap (λ w. ended w st.owed) h.0

pub at_open : (w : Where) (owed : List (List ℕ)) (at : Spot) (openings : List Opening) → ended w owed ≡ false → (if ended w owed then resumed openings at.number else Some (place_of at openings)) ≡ Some (place_of at openings)
at_open w owed at openings h = ap (λ b. if b then resumed openings at.number else Some (place_of at openings)) h

pub after_plain : (at : Spot) (openings : List Opening) (i : Item) → is_newkeys i ≡ false → place_after (place_of at openings) i ≡ Some (place_of (spot_after at i) openings)
after_plain at openings i h = ap (λ b. if b then next_place openings (next_number at.number) else Some (place_of (spot_after at i) openings)) h

step_item : (at : Spot) (openings : List Opening) (i : Item) (start behind : Option Place) (items : List Item) (bytes : List ℕ) → IsAdmissible at.sealing i → start ≡ Some (place_of at openings) → place_after (place_of at openings) i ≡ behind → Reads behind items bytes [] → Reads start (i ∷ items) (sealed_packet at.sealing at.number i ++ bytes) []
step_item at openings i start behind items bytes a e f r =
    subst (λ p. Reads p (i ∷ items) (sealed_packet at.sealing at.number i ++ bytes) []) (sym e)
    (bytes, a, refl, subst (λ p. Reads p items bytes []) (sym f) r)

pub kexinit_plain : (side : Side) (config : Config) (cookie : List ℕ) (i : Item) → i.payload ≡ kexinit (offers_of side config) cookie → is_newkeys i ≡ false
unfolding kexinit
kexinit_plain side config cookie i e = ap (λ p. message_type p == 21) e

pub payload_plain : (i : Item) → is_payload_type (type_of i) ≡ true → is_newkeys i ≡ false
payload_plain i h = by_type (type_of i) h where
  by_type : (t : ℕ) → is_payload_type t ≡ true → (t == 21) ≡ false
  by_type t h = grind (arith, nat_tests)

-- While the other's NEWKEYS is awaited, the next record is the one that the stage made.
abbrev NextIs : FinishedExchange → List FinishedExchange → Type 0
NextIs made [] = Unit {0}
NextIs made (x ∷ xs) = x ≡ made

not_outside : (w : Where) (exchange : Exchange) (made : FinishedExchange) (host : _) → w ≡ Inside (AwaitsNewkeys exchange made host) → w ≡ Outside → ⊥
not_outside w exchange made host e f = let k : Inside (AwaitsNewkeys exchange made host) ≡ Outside = sym e ∙ f in cc

not_silent : (w : Where) (exchange : Exchange) (made : FinishedExchange) (host : _) → w ≡ Inside (AwaitsNewkeys exchange made host) → w ≡ Silent → ⊥
not_silent w exchange made host e f = let k : Inside (AwaitsNewkeys exchange made host) ≡ Silent = sym e ∙ f in cc

stage_is : (a b : Stage) → Inside a ≡ Inside b → a ≡ b
stage_is a b e = cc

next_record : (says : Says) (side : Side) (config : Config) (own_id : List ℕ) (es : List Event) (st st' : SideState) (exchange : Exchange) (made : FinishedExchange) (host : _) → st.stands ≡ Inside (AwaitsNewkeys exchange made host) → Steps says side config own_id st es st' → NextIs made (recorded es)
next_record says side config own_id [] st st' exchange made host e h = tt
next_record says side config own_id (IdHeard id ∷ es) st st' exchange made host e h = absurd (not_silent st.stands exchange made host e h.1.silent)
next_record says side config own_id (PayloadSubmitted p ∷ es) st st' exchange made host e h = next_record says side config own_id es h.0 st' exchange made host (ap (λ (m : SideState). m.stands) h.1.becomes ∙ e) h.2
next_record says side config own_id (ExchangeBegun Start i ∷ es) st st' exchange made host e h = absurd (not_silent st.stands exchange made host e h.1.may.0)
next_record says side config own_id (ExchangeBegun Asked i ∷ es) st st' exchange made host e h = absurd (not_outside st.stands exchange made host e h.1.may)
next_record says side config own_id (ExchangeBegun Answering i ∷ es) st st' exchange made host e h = absurd (not_outside st.stands exchange made host e h.1.may)
next_record says side config own_id (ExchangeBegun WriteLimit i ∷ es) st st' exchange made host e h = absurd (not_outside st.stands exchange made host e h.1.may.0)
next_record says side config own_id (ExchangeBegun ReadLimit i ∷ es) st st' exchange made host e h = absurd (not_outside st.stands exchange made host e h.1.may.0)
next_record says side config own_id (AnswerSent i r ∷ es) st st' exchange made host e h = next_record says side config own_id es h.0 st' exchange made host (ap (λ (m : SideState). m.stands) h.1.becomes ∙ e) h.2
next_record says side config own_id (PayloadSent i ∷ es) st st' exchange made host e h = absurd (not_outside st.stands exchange made host e h.1.outside)
next_record says side config own_id (MessageTaken i ∷ es) st st' exchange made host e h = absurd (subst (λ (s : Stage). stages.Takes says (setting side config own_id st) s (next_number st.reading.number) i.payload h.1.answers h.1.next) (stage_is h.1.stage (AwaitsNewkeys exchange made host) (sym h.1.inside ∙ e)) h.1.takes)
next_record says side config own_id (GuessDropped i ∷ es) st st' exchange made host e h = absurd (differ (sym (ap drops_guess (stage_is h.1.stage (AwaitsNewkeys exchange made host) (sym h.1.inside ∙ e))) ∙ h.1.drops)) where
  differ : false ≡ true → ⊥
  differ k = cc
next_record says side config own_id (PayloadDelivered i ∷ es) st st' exchange made host e h = absurd (elim h.1.may [ inl o ↦ not_outside st.stands exchange made host e o | inr o ↦ created o.0.0 o.0.1 ]) where
  created : (own : List ℕ) → st.stands ≡ Inside (Created own) → ⊥
  created own f = let k : AwaitsNewkeys exchange made host ≡ Created own = stage_is (AwaitsNewkeys exchange made host) (Created own) (sym e ∙ f) in cc
next_record says side config own_id (PacketDropped i ∷ es) st st' exchange made host e h = next_record says side config own_id es h.0 st' exchange made host (ap (λ (m : SideState). m.stands) h.1.becomes ∙ e) h.2
next_record says side config own_id (ExchangeFinished i x ∷ es) st st' exchange made host e h = (subst (λ (s : Stage). LastIn says s i.payload x) (stage_is (AwaitsNewkeys h.1.exchange x h.1.host) (AwaitsNewkeys exchange made host) (sym h.1.inside ∙ e)) (h.1.payload_is, refl, h.1.trusted)).1

abbrev ReadsRest : Side → List Event → SideState → Type 0
ReadsRest side es m = Reads (writing_place m (map (outgoing side) (recorded es))) (wrote es) (sent_bytes side m.writing es) []

strict_of : (side : Side) (x : FinishedExchange) → (outgoing side x).strict ≡ x.names.strict_kex
strict_of Client x = refl
strict_of Server x = refl

-- where the openings lead behind the own NEWKEYS
leads : (side : Side) (xs : List FinishedExchange) (made : FinishedExchange) (resets : Bool) (n : ℕ) → NextIs made xs → resets ≡ made.names.strict_kex → next_place (map (outgoing side) xs) n ≡ resumed (map (outgoing side) xs) (kept_number resets n)
leads side [] made resets n h e = refl
leads side (x ∷ xs) made resets n h e =
    ap (λ b. Some (record { sealing = (outgoing side x).sealing; number = kept_number b n; openings = map (outgoing side) xs }))
    (strict_of side x ∙ (ap (λ (y : FinishedExchange). y.names.strict_kex) h ∙ sym e))

newkeys_is : (i : Item) → i.payload ≡ newkeys → is_newkeys i ≡ true
newkeys_is i e = ap (λ p. message_type p == 21) e

renumbered_plain : (resets : Bool) (at : Spot) → resets ≡ false → spot_renumbered resets at ≡ at
renumbered_plain resets at e = ap (λ b. spot_renumbered b at) e

and_false : (a b : Bool) → b ≡ false → (a && b) ≡ false
and_false true b e = e
and_false false b e = refl

and_true_right : (a b : Bool) → b ≡ true → (a && b) ≡ a
and_true_right true b e = e
and_true_right false b e = refl

-- one owed message is written: the place behind it
pub answered : (says : Says) (side : Side) (config : Config) (own_id : List ℕ) (es : List Event) (at : Spot) (i : Item) (resets : Bool) (w : Where) (more : List (List ℕ)) (m st' : SideState) → OwedOk w (i.payload ∷ more) → resets ≡ (strict_now w && is_newkeys i) → m.stands ≡ w → Steps says side config own_id m es st'
    → place_after (place_of at (map (outgoing side) (recorded es))) i ≡ (if ended w more then resumed (map (outgoing side) (recorded es)) (spot_renumbered resets (spot_after at i)).number else Some (place_of (spot_renumbered resets (spot_after at i)) (map (outgoing side) (recorded es))))
answered says side config own_id es at i resets (Inside (AwaitsNewkeys exchange made host)) [] m st' k r e h =
    let third : is_newkeys i ≡ true = newkeys_is i k in
    ap (λ b. if b then next_place (map (outgoing side) (recorded es)) (next_number at.number) else Some (place_of (spot_after at i) (map (outgoing side) (recorded es)))) third
    ∙ leads side (recorded es) made resets (next_number at.number) (next_record says side config own_id es m st' exchange made host e h) (r ∙ and_true_right made.names.strict_kex (is_newkeys i) third)
answered says side config own_id es at i resets (Inside (AwaitsNewkeys exchange made host)) (q ∷ more) m st' k r e h =
    after_plain at _ i k.0 ∙ ap (λ s. Some (place_of s (map (outgoing side) (recorded es)))) (sym (renumbered_plain resets (spot_after at i) (r ∙ and_false made.names.strict_kex (is_newkeys i) k.0)))
answered says side config own_id es at i resets Silent more m st' k r e h = after_plain at _ i k.0 ∙ ap (λ s. Some (place_of s (map (outgoing side) (recorded es)))) (sym (renumbered_plain resets (spot_after at i) r))
answered says side config own_id es at i resets Outside more m st' k r e h = after_plain at _ i k.0 ∙ ap (λ s. Some (place_of s (map (outgoing side) (recorded es)))) (sym (renumbered_plain resets (spot_after at i) r))
answered says side config own_id es at i resets (Inside (Created c)) more m st' k r e h = after_plain at _ i k.0 ∙ ap (λ s. Some (place_of s (map (outgoing side) (recorded es)))) (sym (renumbered_plain resets (spot_after at i) r))
answered says side config own_id es at i resets (Inside (AwaitsGroup o)) more m st' k r e h = after_plain at _ i k.0 ∙ ap (λ s. Some (place_of s (map (outgoing side) (recorded es)))) (sym (renumbered_plain resets (spot_after at i) r))
answered says side config own_id es at i resets (Inside (AwaitsReply o g l p)) more m st' k r e h = after_plain at _ i k.0 ∙ ap (λ s. Some (place_of s (map (outgoing side) (recorded es)))) (sym (renumbered_plain resets (spot_after at i) r))
answered says side config own_id es at i resets (Inside (AwaitsRequest o)) more m st' k r e h = after_plain at _ i k.0 ∙ ap (λ s. Some (place_of s (map (outgoing side) (recorded es)))) (sym (renumbered_plain resets (spot_after at i) r))
answered says side config own_id es at i resets (Inside (AwaitsValue o g)) more m st' k r e h = after_plain at _ i k.0 ∙ ap (λ s. Some (place_of s (map (outgoing side) (recorded es)))) (sym (renumbered_plain resets (spot_after at i) r))

same_place : (side : Side) (es : List Event) (w w' : Where) (owed owed' : List (List ℕ)) (at : Spot) → ended w owed ≡ false → ended w' owed' ≡ false
    → Reads (if ended w' owed' then resumed (map (outgoing side) (recorded es)) at.number else Some (place_of at (map (outgoing side) (recorded es)))) (wrote es) (sent_bytes side at es) []
    → Reads (if ended w owed then resumed (map (outgoing side) (recorded es)) at.number else Some (place_of at (map (outgoing side) (recorded es)))) (wrote es) (sent_bytes side at es) []
same_place side es w w' owed owed' at e f r = subst (λ p. Reads p (wrote es) (sent_bytes side at es) []) (at_open w' owed' at _ f ∙ sym (at_open w owed at _ e)) r

-- what is held was tested when it was submitted
abbrev pub HeldOk : List (List ℕ) → Type 0
HeldOk [] = Unit {0}
HeldOk (p ∷ r) = (is_payload_type (message_type p) ≡ true) × HeldOk r

held_more : (xs : List (List ℕ)) (p : List ℕ) → HeldOk xs → is_payload_type (message_type p) ≡ true → HeldOk (xs ++ p ∷ [])
held_more [] p h e = (e, tt)
held_more (x ∷ xs) p h e = (h.0, held_more xs p h.1 e)

pub held_step : (says : Says) (side : Side) (config : Config) (own_id : List ℕ) (st : SideState) (e : Event) (st' : SideState) → HeldOk st.held → Step says side config own_id st e st' → HeldOk st'.held
held_step says side config own_id st (IdHeard id) st' k h = subst (λ (m : SideState). HeldOk m.held) (sym h.becomes) k
held_step says side config own_id st (PayloadSubmitted p) st' k h = subst (λ (m : SideState). HeldOk m.held) (sym h.becomes) (held_more st.held p k h.allowed)
held_step says side config own_id st (ExchangeBegun cause i) st' k h = subst (λ (m : SideState). HeldOk m.held) (sym h.becomes) k
held_step says side config own_id st (AnswerSent i resets) st' k h = subst (λ (m : SideState). HeldOk m.held) (sym h.becomes) k
held_step says side config own_id st (PayloadSent i) st' k h = subst (λ (m : SideState). HeldOk m.held) (sym h.becomes) ((subst HeldOk h.holds k).1)
held_step says side config own_id st (MessageTaken i) st' k h = subst (λ (m : SideState). HeldOk m.held) (sym h.becomes) k
held_step says side config own_id st (GuessDropped i) st' k h = subst (λ (m : SideState). HeldOk m.held) (sym h.becomes) k
held_step says side config own_id st (PayloadDelivered i) st' k h = subst (λ (m : SideState). HeldOk m.held) (sym h.becomes) k
held_step says side config own_id st (PacketDropped i) st' k h = subst (λ (m : SideState). HeldOk m.held) (sym h.becomes) k
held_step says side config own_id st (ExchangeFinished i x) st' k h = subst (λ (m : SideState). HeldOk m.held) (sym h.becomes) k

pub written_reads : (says : Says) (side : Side) (config : Config) (own_id : List ℕ) (log : List Event) (st st' : SideState) → OwedOk st.stands st.owed → HeldOk st.held → Steps says side config own_id st log st' → ReadsRest side log st
written_reads says side config own_id [] st st' w k h = refl
written_reads says side config own_id (IdHeard id ∷ es) st st' w k h = subst (ReadsRest side es) h.1.becomes (written_reads says side config own_id es h.0 st' (owed_step says side config own_id st (IdHeard id) h.0 w h.1) (held_step says side config own_id st (IdHeard id) h.0 k h.1) h.2)
written_reads says side config own_id (PayloadSubmitted p ∷ es) st st' w k h = subst (ReadsRest side es) h.1.becomes (written_reads says side config own_id es h.0 st' (owed_step says side config own_id st (PayloadSubmitted p) h.0 w h.1) (held_step says side config own_id st (PayloadSubmitted p) h.0 k h.1) h.2)
written_reads says side config own_id (ExchangeBegun cause i ∷ es) st st' w k h =
    let next = subst (ReadsRest side es) h.1.becomes (written_reads says side config own_id es h.0 st' (owed_step says side config own_id st (ExchangeBegun cause i) h.0 w h.1) (held_step says side config own_id st (ExchangeBegun cause i) h.0 k h.1) h.2) in
    step_item st.writing (map (outgoing side) (recorded es)) i _ _ (wrote es) _ h.1.is_written.admissible (at_open st.stands st.owed st.writing _ (open_may config st cause h.1.may)) (after_plain st.writing _ i (kexinit_plain side config h.1.cookie i h.1.payload_is)) next
written_reads says side config own_id (AnswerSent i resets ∷ es) st st' w k h =
    let next = subst (ReadsRest side es) h.1.becomes (written_reads says side config own_id es h.0 st' (owed_step says side config own_id st (AnswerSent i resets) h.0 w h.1) (held_step says side config own_id st (AnswerSent i resets) h.0 k h.1) h.2) in
    step_item st.writing (map (outgoing side) (recorded es)) i _ _ (wrote es) _ h.1.is_written.admissible (at_open st.stands st.owed st.writing _ (ap (ended st.stands) h.1.owes ∙ open_with st.stands i.payload h.1.more)) (answered says side config own_id es st.writing i resets st.stands h.1.more h.0 st' (subst (OwedOk st.stands) h.1.owes w) h.1.again_is (ap (λ (m : SideState). m.stands) h.1.becomes) h.2) next
written_reads says side config own_id (PayloadSent i ∷ es) st st' w k h =
    let next = subst (ReadsRest side es) h.1.becomes (written_reads says side config own_id es h.0 st' (owed_step says side config own_id st (PayloadSent i) h.0 w h.1) (held_step says side config own_id st (PayloadSent i) h.0 k h.1) h.2) in
    let payload : is_payload_type (type_of i) ≡ true = (subst HeldOk h.1.holds k).0 in
    step_item st.writing (map (outgoing side) (recorded es)) i _ _ (wrote es) _ h.1.is_written.admissible (at_open st.stands st.owed st.writing _ (ap (λ v. ended v st.owed) h.1.outside)) (after_plain st.writing _ i (payload_plain i payload)) (subst (λ p. Reads p (wrote es) (sent_bytes side (spot_after st.writing i) es) []) (at_open st.stands st.owed (spot_after st.writing i) _ (ap (λ v. ended v st.owed) h.1.outside)) next)
written_reads says side config own_id (MessageTaken i ∷ es) st st' w k h =
    let next = subst (ReadsRest side es) h.1.becomes (written_reads says side config own_id es h.0 st' (owed_step says side config own_id st (MessageTaken i) h.0 w h.1) (held_step says side config own_id st (MessageTaken i) h.0 k h.1) h.2) in
    same_place side es st.stands (Inside h.1.next) st.owed h.1.answers st.writing (ap (λ v. ended v st.owed) h.1.inside ∙ open_takes says (setting side config own_id st) h.1.stage (next_number st.reading.number) i.payload h.1.answers h.1.next st.owed h.1.takes) ((takes_row says (setting side config own_id st) h.1.stage (next_number st.reading.number) i.payload h.1.answers h.1.next h.1.takes).open_yet) next
written_reads says side config own_id (GuessDropped i ∷ es) st st' w k h =
    let next = subst (ReadsRest side es) h.1.becomes (written_reads says side config own_id es h.0 st' (owed_step says side config own_id st (GuessDropped i) h.0 w h.1) (held_step says side config own_id st (GuessDropped i) h.0 k h.1) h.2) in
    same_place side es st.stands (Inside (guess_dropped h.1.stage)) st.owed st.owed st.writing (ap (λ v. ended v st.owed) h.1.inside ∙ (open_drops h.1.stage st.owed h.1.drops).0) ((open_drops h.1.stage st.owed h.1.drops).1) next
written_reads says side config own_id (PayloadDelivered i ∷ es) st st' w k h = subst (ReadsRest side es) h.1.becomes (written_reads says side config own_id es h.0 st' (owed_step says side config own_id st (PayloadDelivered i) h.0 w h.1) (held_step says side config own_id st (PayloadDelivered i) h.0 k h.1) h.2)
written_reads says side config own_id (PacketDropped i ∷ es) st st' w k h = subst (ReadsRest side es) h.1.becomes (written_reads says side config own_id es h.0 st' (owed_step says side config own_id st (PacketDropped i) h.0 w h.1) (held_step says side config own_id st (PacketDropped i) h.0 k h.1) h.2)
written_reads says side config own_id (ExchangeFinished i x ∷ es) st st' w k h =
    let next = subst (ReadsRest side es) h.1.becomes (written_reads says side config own_id es h.0 st' (owed_step says side config own_id st (ExchangeFinished i x) h.0 w h.1) (held_step says side config own_id st (ExchangeFinished i x) h.0 k h.1) h.2) in
    finished (AwaitsNewkeys h.1.exchange x h.1.host) (h.1.payload_is, refl, h.1.trusted) h.1.inside h.1.owes next
  where
    finished : (stage : Stage) → LastIn says stage i.payload x → st.stands ≡ Inside stage → st.owed ≡ [] → Reads (Some (place_of (record st.writing { sealing = (outgoing side x).sealing }) (map (outgoing side) (recorded es)))) (wrote es) (sent_bytes side (record st.writing { sealing = (outgoing side x).sealing }) es) [] → ReadsRest side (ExchangeFinished i x ∷ es) st
    finished (AwaitsNewkeys exchange made host) f e o r = subst (λ b. Reads (if b then resumed (outgoing side x ∷ map (outgoing side) (recorded es)) st.writing.number else Some (place_of st.writing (outgoing side x ∷ map (outgoing side) (recorded es)))) (wrote es) (sent_bytes side (record st.writing { sealing = (outgoing side x).sealing }) es) []) (sym (ap (λ v. ended v st.owed) e ∙ ap (ended (Inside (AwaitsNewkeys exchange made host))) o)) r
    finished (Created k) f e o r = absurd f
    finished (AwaitsGroup k) f e o r = absurd f
    finished (AwaitsReply k g l p) f e o r = absurd f
    finished (AwaitsRequest k) f e o r = absurd f
    finished (AwaitsValue k g) f e o r = absurd f

-- what a side handles: only its NEWKEYS is one
pub drop_plain : (i : Item) → (nat_le 2 (type_of i) && nat_le (type_of i) 4) ≡ true → is_newkeys i ≡ false
drop_plain i h = by_type (type_of i) h where
  by_type : (t : ℕ) → (nat_le 2 t && nat_le t 4) ≡ true → (t == 21) ≡ false
  by_type t h = grind (arith, nat_tests)

value_plain : (kind : Bool) (v : List ℕ) → is_plain (value_message kind v)
value_plain true v = refl
value_plain false v = refl

of_type : (i : Item) (p : List ℕ) → i.payload ≡ p → is_plain p → is_newkeys i ≡ false
of_type i p e h = ap (λ q. message_type q == 21) e ∙ h

pub taken_plain : (says : Says) (s : Setting) (stage : Stage) (seqn : ℕ) (i : Item) (written : List (List ℕ)) (next : Stage) → stages.Takes says s stage seqn i.payload written next → is_newkeys i ≡ false
taken_plain says s (Created k) seqn i written next h = ap (λ t. t == 21) h.reads.is_kexinit
taken_plain says s (AwaitsGroup o) seqn i written next h = of_type i _ h.payload_is refl
taken_plain says s (AwaitsReply o g l p) seqn i written next h = of_type i _ h.payload_is (reply_plain (is_gex o.names.kex) h.host h.value h.signature)
taken_plain says s (AwaitsRequest o) seqn i written next h = of_type i _ h.payload_is refl
taken_plain says s (AwaitsValue o g) seqn i written next h = of_type i _ h.payload_is (value_plain (is_gex o.names.kex) h.value)
taken_plain says s (AwaitsNewkeys exchange x host) seqn i written next h = absurd h

-- no dropped guess is of type 21
abbrev pub PlainGuesses : List Event → Type 0
PlainGuesses [] = Unit {0}
PlainGuesses (GuessDropped i ∷ es) = (is_newkeys i ≡ false) × PlainGuesses es
PlainGuesses (IdHeard id ∷ es) = PlainGuesses es
PlainGuesses (PayloadSubmitted p ∷ es) = PlainGuesses es
PlainGuesses (ExchangeBegun cause i ∷ es) = PlainGuesses es
PlainGuesses (AnswerSent i r ∷ es) = PlainGuesses es
PlainGuesses (PayloadSent i ∷ es) = PlainGuesses es
PlainGuesses (MessageTaken i ∷ es) = PlainGuesses es
PlainGuesses (PayloadDelivered i ∷ es) = PlainGuesses es
PlainGuesses (PacketDropped i ∷ es) = PlainGuesses es
PlainGuesses (ExchangeFinished i x ∷ es) = PlainGuesses es

abbrev ReadsIn : Side → List Event → SideState → Type 0
ReadsIn side es m = Reads (Some (place_of m.reading (map (outgoing (other_side side)) (recorded es)))) (handled es) (read_bytes side m.reading es) []

pub finished_last : (says : Says) (stage : Stage) (i : Item) (x : FinishedExchange) → LastIn says stage i.payload x → is_newkeys i ≡ true
finished_last says (AwaitsNewkeys exchange made host) i x h = newkeys_is i h.0
finished_last says (Created k) i x h = absurd h
finished_last says (AwaitsGroup k) i x h = absurd h
finished_last says (AwaitsReply k g l p) i x h = absurd h
finished_last says (AwaitsRequest k) i x h = absurd h
finished_last says (AwaitsValue k g) i x h = absurd h

pub handled_reads : (says : Says) (side : Side) (config : Config) (own_id : List ℕ) (log : List Event) (st st' : SideState) → PlainGuesses log → Steps says side config own_id st log st' → ReadsIn side log st
handled_reads says side config own_id [] st st' g h = refl
handled_reads says side config own_id (IdHeard id ∷ es) st st' g h = subst (ReadsIn side es) h.1.becomes (handled_reads says side config own_id es h.0 st' g h.2)
handled_reads says side config own_id (PayloadSubmitted p ∷ es) st st' g h = subst (ReadsIn side es) h.1.becomes (handled_reads says side config own_id es h.0 st' g h.2)
handled_reads says side config own_id (ExchangeBegun cause i ∷ es) st st' g h = subst (ReadsIn side es) h.1.becomes (handled_reads says side config own_id es h.0 st' g h.2)
handled_reads says side config own_id (AnswerSent i r ∷ es) st st' g h = subst (ReadsIn side es) h.1.becomes (handled_reads says side config own_id es h.0 st' g h.2)
handled_reads says side config own_id (PayloadSent i ∷ es) st st' g h = subst (ReadsIn side es) h.1.becomes (handled_reads says side config own_id es h.0 st' g h.2)
handled_reads says side config own_id (MessageTaken i ∷ es) st st' g h =
    step_item st.reading (map (outgoing (other_side side)) (recorded es)) i _ _ (handled es) _ h.1.admissible refl (after_plain st.reading _ i (taken_plain says (setting side config own_id st) h.1.stage (next_number st.reading.number) i h.1.answers h.1.next h.1.takes)) (subst (ReadsIn side es) h.1.becomes (handled_reads says side config own_id es h.0 st' g h.2))
handled_reads says side config own_id (GuessDropped i ∷ es) st st' g h =
    step_item st.reading (map (outgoing (other_side side)) (recorded es)) i _ _ (handled es) _ h.1.admissible refl (after_plain st.reading _ i g.0) (subst (ReadsIn side es) h.1.becomes (handled_reads says side config own_id es h.0 st' g.1 h.2))
handled_reads says side config own_id (PayloadDelivered i ∷ es) st st' g h =
    step_item st.reading (map (outgoing (other_side side)) (recorded es)) i _ _ (handled es) _ h.1.admissible refl (after_plain st.reading _ i (payload_plain i h.1.allowed)) (subst (ReadsIn side es) h.1.becomes (handled_reads says side config own_id es h.0 st' g h.2))
handled_reads says side config own_id (PacketDropped i ∷ es) st st' g h =
    step_item st.reading (map (outgoing (other_side side)) (recorded es)) i _ _ (handled es) _ h.1.admissible refl (after_plain st.reading _ i (drop_plain i h.1.idle)) (subst (ReadsIn side es) h.1.becomes (handled_reads says side config own_id es h.0 st' g h.2))
handled_reads says side config own_id (ExchangeFinished i x ∷ es) st st' g h =
    step_item st.reading (map (outgoing (other_side side)) (recorded (ExchangeFinished i x ∷ es))) i _ _ (handled es) _ h.1.admissible refl
    (ap (λ b. if b then next_place (outgoing (other_side side) x ∷ map (outgoing (other_side side)) (recorded es)) (next_number st.reading.number) else Some (place_of (spot_after st.reading i) (outgoing (other_side side) x ∷ map (outgoing (other_side side)) (recorded es)))) (finished_last says (AwaitsNewkeys h.1.exchange x h.1.host) i x (h.1.payload_is, refl, h.1.trusted)))
    (subst (ReadsIn side es) h.1.becomes (handled_reads says side config own_id es h.0 st' g h.2))
