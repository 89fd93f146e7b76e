-- The packets that a side drops as guesses are those that the definition of a guess names, whatever bytes it is fed.
use Rattle.std.proofs.Common.{◌≡◌, ℕ, ◌<◌, List, [], ◌∷◌, ◌++◌, length, map, refl, sym, ◌∙◌, ap, subst, arith, Option, Some, None, Bool, true, false, if◌then◌else◌, ◌==◌, ◌&&◌, not, nat_le, inl, inr, Ok}
use Rattle.std.proofs.lemmas.Bool.Decides.{nat_tests}
use Rattle.std.specs.Prelude.{Result}
use Rattle.ssh_packet.specs.Sealing.{Item, IsAdmissible, sealed_packet, next_number}
use Rattle.ssh_packet.specs.Stream.{Opening, Place, ReadsBy, IsEnd, place_by, is_newkeys, message_type}
use Rattle.ssh_packet.specs.Front.{Unfinished, Fault, Refused, Whole, front_of}
use Rattle.ssh_packet.proofs.Lemmas.{front_whole}
use Rattle.ssh_wire.specs.declared.side.Side.{Side}
use Rattle.ssh_wire.specs.declared.side.Side.TheVariants.{Client, Server}
use Rattle.ssh_kex.specs.Stages as stages
use Rattle.std.specs.Prelude.{filter}
use Rattle.ssh_negotiate.specs.declared.negotiation.Names.{Names}
use Rattle.ssh_kex.specs.declared.config.Config.{Config}
use Rattle.ssh_kex.specs.declared.exchange.FinishedExchange.{FinishedExchange}
use Rattle.ssh_kex.specs.Messages.{is_gex}
use Rattle.ssh_kex.specs.Exchange.{outgoing}
use Rattle.ssh_negotiate.specs.Reading.{names_read, KexinitFault as ReadFault}
use Rattle.ssh_wire.specs.Sides.{other_side}
use Rattle.ssh_kex.specs.Setting.{Says, Setting, Opened, offers_of}
use Rattle.ssh_kex.specs.Stages.{Stage, Created, AwaitsGroup, AwaitsReply, AwaitsRequest, AwaitsValue, AwaitsNewkeys, drops_guess, guess_dropped}
use Rattle.ssh_negotiate.specs.Causes.{was_strict}
use Rattle.ssh_rules.specs.MessageTypes.{type_of, is_kex_type, is_payload_type}
use Rattle.ssh_rules.specs.Wire.{carried_payloads}
use Rattle.ssh_rules.specs.Guess.{Guess, BeforeKexinit, GuessDue, NoneFollows, guess_of, is_guess, guess_next, guess_behind, ends_epoch, without_guesses}
use Rattle.ssh_rules.specs.Machine.{Spot, spot_after, Where, Silent, Outside, Inside, SideState, setting, Cause, Event, IdHeard, PayloadSubmitted, ExchangeBegun, AnswerSent, PayloadSent, MessageTaken, GuessDropped, PayloadDelivered, PacketDropped, ExchangeFinished, Step, Steps}
use Rattle.ssh_rules.specs.Log.{handled, kept_in, recorded, read_bytes, first_epoch}
use Rattle.ssh_rules.specs.Attacked.{until_end}
use Rattle.ssh_rules.proofs.side.Places.{place_of}
use Rattle.ssh_rules.proofs.side.LedgerSteps.{takes_kex, payload_not_kex, drop_not_kex, finishes_kex}
use Rattle.ssh_rules.proofs.side.StageSteps.{setting_side}
use Rattle.ssh_rules.proofs.side.Ending.{LastIn}

-- what a reading says of a guess doesn't hang on what was strict before
abbrev pub ReadsAlike : Side → Config → Type 0
ReadsAlike side config = (b : Bool) (payload : List ℕ) (n : Names) → names_read side (offers_of side config) b payload ≡ Ok n → (m : Names) × (names_read side (offers_of side config) false payload ≡ Ok m) × (m.ignore_guessed ≡ n.ignore_guessed) × (m.kex ≡ n.kex)

abbrev pub awaits : Bool → Guess
awaits true = GuessDue
awaits false = NoneFollows

-- what is known of the guess in each stage
abbrev pub GuessAt : Where → Guess → Type 0
GuessAt Silent g = g ≡ BeforeKexinit
GuessAt Outside g = g ≡ BeforeKexinit
GuessAt (Inside (Created own)) g = g ≡ BeforeKexinit
GuessAt (Inside (AwaitsGroup o)) g = g ≡ awaits o.names.ignore_guessed
GuessAt (Inside (AwaitsReply o group l p)) g = g ≡ awaits o.names.ignore_guessed
GuessAt (Inside (AwaitsRequest o)) g = g ≡ awaits o.names.ignore_guessed
GuessAt (Inside (AwaitsValue o group)) g = g ≡ awaits o.names.ignore_guessed
GuessAt (Inside (AwaitsNewkeys exchange made host)) g = g ≡ NoneFollows

at_guess : (next n0 : Stage) (g : Guess) → next ≡ n0 → GuessAt (Inside n0) g → GuessAt (Inside next) g
at_guess next n0 g e h = subst (λ n. GuessAt (Inside n) g) (sym e) h

next_at : (side : Side) (config : Config) (g h : Guess) (i : Item) → g ≡ h → guess_next side config g i ≡ guess_next side config h i
next_at side config g h i e = ap (λ x. guess_next side config x i) e

-- behind a KEXINIT
guess_read : (n m : Names) (r : Result Names ReadFault) → r ≡ Ok m → m.ignore_guessed ≡ n.ignore_guessed → guess_of r ≡ awaits n.ignore_guessed
guess_read n m r e f = ap guess_of e ∙ by_flag m.ignore_guessed f where
  by_flag : (b : Bool) → b ≡ n.ignore_guessed → (if b then GuessDue else NoneFollows) ≡ awaits n.ignore_guessed
  by_flag true e = ap awaits e
  by_flag false e = ap awaits e

fresh_next : (side : Side) (config : Config) (i : Item) → type_of i ≡ 20 → guess_next side config BeforeKexinit i ≡ guess_of (names_read side (offers_of side config) false i.payload)
fresh_next side config i e = ap (λ t. if t == 20 then guess_of (names_read side (offers_of side config) false i.payload) else BeforeKexinit) e

opens_guess : (says : Says) (s : Setting) (o : Opened) (side : Side) (kind : Bool) (written : List (List ℕ)) (next : Stage) (g : Guess) → g ≡ awaits o.names.ignore_guessed → stages.OpensBy side kind says s o written next → GuessAt (Inside next) g
opens_guess says s o Client true written next g e h = at_guess next (AwaitsGroup o) g h.next_is e
opens_guess says s o Client false written next g e h = at_guess next (AwaitsReply o None h.local h.public) g h.leads.next_is e
opens_guess says s o Server true written next g e h = at_guess next (AwaitsRequest o) g h.next_is e
opens_guess says s o Server false written next g e h = at_guess next (AwaitsValue o None) g h.next_is e

none_stays : (side : Side) (config : Config) (i : Item) → is_newkeys i ≡ false → guess_next side config NoneFollows i ≡ NoneFollows
none_stays side config i n = ap (λ x. if x then BeforeKexinit else NoneFollows) n

-- where none is dropped, none is due
none_due : (b : Bool) (g : Guess) → b ≡ false → g ≡ awaits b → g ≡ NoneFollows
none_due b g d at = at ∙ ap awaits d

-- one row, and whether its packet is a guess
takes_guess : (says : Says) (s : Setting) (side : Side) (config : Config) (stage : Stage) (seqn : ℕ) (i : Item) (written : List (List ℕ)) (next : Stage) (g : Guess) → s.side ≡ side → s.config ≡ config → ReadsAlike side config → drops_guess stage ≡ false → GuessAt (Inside stage) g → stages.Takes says s stage seqn i.payload written next → GuessAt (Inside next) (guess_next side config g i) × (is_guess g i ≡ false)
takes_guess says s side config (Created k) seqn i written next g es ec alike d at h =
    let read : names_read side (offers_of side config) (was_strict s.cause) i.payload ≡ Ok h.names = ap (λ w. names_read w (offers_of w config) (was_strict s.cause) i.payload) (sym es) ∙ (ap (λ c. names_read s.side (offers_of s.side c) (was_strict s.cause) i.payload) (sym ec) ∙ h.reads.read) in
    let m = alike (was_strict s.cause) i.payload h.names read in
    let gr = guess_read h.names m.0 (names_read side (offers_of side config) false i.payload) m.1 m.2 in
    (opens_guess says s (record { names = h.names; own_kexinit = k; peer_kexinit = i.payload }) s.side (is_gex h.names.kex) written next _ (next_at side config g BeforeKexinit i at ∙ (fresh_next side config i h.reads.is_kexinit ∙ gr)) h.opens, ap (λ x. is_guess x i) at)
takes_guess says s side config (AwaitsGroup o) seqn i written next g es ec alike d at h =
    let k = takes_kex says s (AwaitsGroup o) seqn i.payload written next h in
    let none = none_due o.names.ignore_guessed g d at in
    (at_guess next (AwaitsReply o _ h.local h.public) _ h.leads.next_is (next_at side config g NoneFollows i none ∙ (none_stays side config i k.1 ∙ sym (ap awaits d))), ap (λ x. is_guess x i) none)
takes_guess says s side config (AwaitsReply o gr l p) seqn i written next g es ec alike d at h =
    let k = takes_kex says s (AwaitsReply o gr l p) seqn i.payload written next h in
    let none = none_due o.names.ignore_guessed g d at in
    (at_guess next (AwaitsNewkeys _ _ _) _ h.leads.next_is (next_at side config g NoneFollows i none ∙ none_stays side config i k.1), ap (λ x. is_guess x i) none)
takes_guess says s side config (AwaitsRequest o) seqn i written next g es ec alike d at h =
    let k = takes_kex says s (AwaitsRequest o) seqn i.payload written next h in
    let none = none_due o.names.ignore_guessed g d at in
    (at_guess next (AwaitsValue o _) _ h.leads.next_is (next_at side config g NoneFollows i none ∙ (none_stays side config i k.1 ∙ sym (ap awaits d))), ap (λ x. is_guess x i) none)
takes_guess says s side config (AwaitsValue o gr) seqn i written next g es ec alike d at h =
    let k = takes_kex says s (AwaitsValue o gr) seqn i.payload written next h in
    let none = none_due o.names.ignore_guessed g d at in
    (at_guess next (AwaitsNewkeys _ _ _) _ h.leads.next_is (next_at side config g NoneFollows i none ∙ none_stays side config i k.1), ap (λ x. is_guess x i) none)
takes_guess says s side config (AwaitsNewkeys exchange x host) seqn i written next g es ec alike d at h = absurd h

-- a dropped guess is one
is_due : (side : Side) (config : Config) (b : Bool) (i : Item) (g : Guess) → b ≡ true → is_kex_type (type_of i) ≡ true → g ≡ awaits b → (guess_next side config g i ≡ NoneFollows) × (is_guess g i ≡ true)
is_due side config b i g d k at =
    let now : g ≡ GuessDue = at ∙ ap awaits d in
    (next_at side config g GuessDue i now ∙ ap (λ c. if c then NoneFollows else GuessDue) k, ap (λ x. is_guess x i) now ∙ k)

ignores_guess : (side : Side) (config : Config) (stage : Stage) (i : Item) (g : Guess) → drops_guess stage ≡ true → is_kex_type (type_of i) ≡ true → GuessAt (Inside stage) g → GuessAt (Inside (guess_dropped stage)) (guess_next side config g i) × (is_guess g i ≡ true)
ignores_guess side config (AwaitsGroup o) i g d k at = is_due side config o.names.ignore_guessed i g d k at
ignores_guess side config (AwaitsReply o gr l p) i g d k at = is_due side config o.names.ignore_guessed i g d k at
ignores_guess side config (AwaitsRequest o) i g d k at = is_due side config o.names.ignore_guessed i g d k at
ignores_guess side config (AwaitsValue o gr) i g d k at = is_due side config o.names.ignore_guessed i g d k at
ignores_guess side config (Created own) i g d k at = absurd (let e : true ≡ false = sym d in cc)
ignores_guess side config (AwaitsNewkeys exchange x host) i g d k at = absurd (let e : true ≡ false = sym d in cc)

pub not_kex_types : (t : ℕ) → is_kex_type t ≡ false → ((t == 20) ≡ false) × ((t == 21) ≡ false)
not_kex_types t h = (first t h, second t h) where
  first : (t : ℕ) → is_kex_type t ≡ false → (t == 20) ≡ false
  first t h = grind (arith, nat_tests)

  second : (t : ℕ) → is_kex_type t ≡ false → (t == 21) ≡ false
  second t h = grind (arith, nat_tests)

-- any other packet changes nothing
other_guess : (side : Side) (config : Config) (i : Item) (g : Guess) → is_kex_type (type_of i) ≡ false → (guess_next side config g i ≡ g) × (is_guess g i ≡ false)
other_guess side config i BeforeKexinit k = (ap (λ b. if b then guess_of (names_read side (offers_of side config) false i.payload) else BeforeKexinit) (not_kex_types (type_of i) k).0, refl)
other_guess side config i GuessDue k = (ap (λ b. if b then NoneFollows else GuessDue) k, k)
other_guess side config i NoneFollows k = (ap (λ b. if b then BeforeKexinit else NoneFollows) (not_kex_types (type_of i) k).1, refl)

pub finishes_guess : (says : Says) (side : Side) (config : Config) (stage : Stage) (i : Item) (x : FinishedExchange) (g : Guess) → GuessAt (Inside stage) g → LastIn says stage i.payload x → (guess_next side config g i ≡ BeforeKexinit) × (is_guess g i ≡ false) × (is_newkeys i ≡ true)
finishes_guess says side config (AwaitsNewkeys exchange made host) i x g at h =
    let n : is_newkeys i ≡ true = ap (λ p. message_type p == 21) h.0 in
    (next_at side config g NoneFollows i at ∙ ap (λ b. if b then BeforeKexinit else NoneFollows) n, ap (λ y. is_guess y i) at, n)
finishes_guess says side config (Created own) i x g at h = absurd h
finishes_guess says side config (AwaitsGroup o) i x g at h = absurd h
finishes_guess says side config (AwaitsReply o gr l p) i x g at h = absurd h
finishes_guess says side config (AwaitsRequest o) i x g at h = absurd h
finishes_guess says side config (AwaitsValue o gr) i x g at h = absurd h

may_guess : (config : Config) (st : SideState) (cause : Cause) (g : Guess) → Rattle.ssh_rules.specs.Machine.MayBegin config st cause → GuessAt st.stands g → g ≡ BeforeKexinit
may_guess config st Rattle.ssh_rules.specs.Machine.Start g m at = subst (λ w. GuessAt w g) m.0 at
may_guess config st Rattle.ssh_rules.specs.Machine.Asked g m at = subst (λ w. GuessAt w g) m at
may_guess config st Rattle.ssh_rules.specs.Machine.Answering g m at = subst (λ w. GuessAt w g) m at
may_guess config st Rattle.ssh_rules.specs.Machine.WriteLimit g m at = subst (λ w. GuessAt w g) m.0 at
may_guess config st Rattle.ssh_rules.specs.Machine.ReadLimit g m at = subst (λ w. GuessAt w g) m.0 at

config_is : (side : Side) (config : Config) (own_id : List ℕ) (st : SideState) → (setting side config own_id st).config ≡ config
config_is Client config own_id st = refl
config_is Server config own_id st = refl

-- the guess behind what one event handled
abbrev guess_after : Side → Config → Guess → Event → Guess
guess_after side config g (IdHeard id) = g
guess_after side config g (PayloadSubmitted p) = g
guess_after side config g (ExchangeBegun cause i) = g
guess_after side config g (AnswerSent i q) = g
guess_after side config g (PayloadSent i) = g
guess_after side config g (MessageTaken i) = guess_next side config g i
guess_after side config g (GuessDropped i) = guess_next side config g i
guess_after side config g (PayloadDelivered i) = guess_next side config g i
guess_after side config g (PacketDropped i) = guess_next side config g i
guess_after side config g (ExchangeFinished i x) = guess_next side config g i

-- whether the event handled a guess
abbrev IsMarkedBy : Guess → Event → Type 0
IsMarkedBy g (IdHeard id) = Unit {0}
IsMarkedBy g (PayloadSubmitted p) = Unit {0}
IsMarkedBy g (ExchangeBegun cause i) = Unit {0}
IsMarkedBy g (AnswerSent i q) = Unit {0}
IsMarkedBy g (PayloadSent i) = Unit {0}
IsMarkedBy g (MessageTaken i) = is_guess g i ≡ false
IsMarkedBy g (GuessDropped i) = is_guess g i ≡ true
IsMarkedBy g (PayloadDelivered i) = is_guess g i ≡ false
IsMarkedBy g (PacketDropped i) = is_guess g i ≡ false
IsMarkedBy g (ExchangeFinished i x) = is_guess g i ≡ false

pub guess_step : (says : Says) (side : Side) (config : Config) (own_id : List ℕ) (g : Guess) (st : SideState) (e : Event) (st' : SideState) → ReadsAlike side config → GuessAt st.stands g → Step says side config own_id st e st' → GuessAt st'.stands (guess_after side config g e) × IsMarkedBy g e
guess_step says side config own_id g st (IdHeard id) st' al at h = (subst (λ (m : SideState). GuessAt m.stands g) (sym h.becomes) at, tt)
guess_step says side config own_id g st (PayloadSubmitted p) st' al at h = (subst (λ (m : SideState). GuessAt m.stands g) (sym h.becomes) at, tt)
guess_step says side config own_id g st (ExchangeBegun cause i) st' al at h = (subst (λ (m : SideState). GuessAt m.stands g) (sym h.becomes) (may_guess config st cause g h.may at), tt)
guess_step says side config own_id g st (AnswerSent i q) st' al at h = (subst (λ (m : SideState). GuessAt m.stands g) (sym h.becomes) at, tt)
guess_step says side config own_id g st (PayloadSent i) st' al at h = (subst (λ (m : SideState). GuessAt m.stands g) (sym h.becomes) at, tt)
guess_step says side config own_id g st (MessageTaken i) st' al at h =
    let t = takes_guess says (setting side config own_id st) side config h.stage (next_number st.reading.number) i h.answers h.next g (setting_side side config own_id st) (config_is side config own_id st) al h.kept (subst (λ w. GuessAt w g) h.inside at) h.takes in
    (subst (λ (m : SideState). GuessAt m.stands (guess_next side config g i)) (sym h.becomes) t.0, t.1)
guess_step says side config own_id g st (GuessDropped i) st' al at h =
    let t = ignores_guess side config h.stage i g h.drops h.is_kex (subst (λ w. GuessAt w g) h.inside at) in
    (subst (λ (m : SideState). GuessAt m.stands (guess_next side config g i)) (sym h.becomes) t.0, t.1)
guess_step says side config own_id g st (PayloadDelivered i) st' al at h =
    let t = other_guess side config i g (payload_not_kex (type_of i) h.allowed) in
    (subst (λ (m : SideState). GuessAt m.stands (guess_next side config g i)) (sym h.becomes) (subst (GuessAt st.stands) (sym t.0) at), t.1)
guess_step says side config own_id g st (PacketDropped i) st' al at h =
    let t = other_guess side config i g (drop_not_kex (type_of i) h.idle) in
    (subst (λ (m : SideState). GuessAt m.stands (guess_next side config g i)) (sym h.becomes) (subst (GuessAt st.stands) (sym t.0) at), t.1)
guess_step says side config own_id g st (ExchangeFinished i x) st' al at h =
    let t = finishes_guess says side config (AwaitsNewkeys h.exchange x h.host) i x g (subst (λ w. GuessAt w g) h.inside at) (h.payload_is, refl, h.trusted) in
    (subst (λ (m : SideState). GuessAt m.stands (guess_next side config g i)) (sym h.becomes) t.0, t.1)

-- ---- what is read, whatever it is

pub guess_snoc : (side : Side) (config : Config) (g : Guess) (before : List Item) (i : Item) → guess_behind side config g (before ++ i ∷ []) ≡ guess_next side config (guess_behind side config g before) i
guess_snoc side config g [] i = refl
guess_snoc side config g (j ∷ before) i = guess_snoc side config (guess_next side config g j) before i

abbrev ReadsOn : Side → Config → List Item → List Event → SideState → Type 0
ReadsOn side config before es m = ReadsBy (ends_epoch side config) before (Some (place_of m.reading (map (outgoing (other_side side)) (recorded es)))) (handled es) (read_bytes side m.reading es) []

one_read : (side : Side) (config : Config) (before : List Item) (at : Spot) (openings : List Opening) (i : Item) (items : List Item) (bytes : List ℕ) (behind : Option Place) → IsAdmissible at.sealing i → place_by (ends_epoch side config before i) (place_of at openings) i ≡ behind → ReadsBy (ends_epoch side config) (before ++ i ∷ []) behind items bytes [] → ReadsBy (ends_epoch side config) before (Some (place_of at openings)) (i ∷ items) (sealed_packet at.sealing at.number i ++ bytes) []
one_read side config before at openings i items bytes behind a e r = (bytes, a, refl, subst (λ p. ReadsBy (ends_epoch side config) (before ++ i ∷ []) p items bytes []) (sym e) r)

pub and_not : (a b : Bool) → b ≡ true → (a && not b) ≡ false
and_not true b e = ap not e
and_not false b e = refl

pub and_is : (a b : Bool) → a ≡ true → b ≡ false → (a && not b) ≡ true
and_is a b e f = ap (λ x. x && not b) e ∙ ap not f

pub and_no : (a b : Bool) → a ≡ false → (a && not b) ≡ false
and_no a b e = ap (λ x. x && not b) e

pub stays : (side : Side) (config : Config) (before : List Item) (at : Spot) (openings : List Opening) (i : Item) → ends_epoch side config before i ≡ false → place_by (ends_epoch side config before i) (place_of at openings) i ≡ Some (place_of (spot_after at i) openings)
stays side config before at openings i e = ap (λ b. place_by b (place_of at openings) i) e

-- The packets that a side handled are read off their bytes, with the test that leaves dropped guesses out; and those
-- that it kept are those without dropped guesses.
pub read_by_guesses : (says : Says) (side : Side) (config : Config) (own_id : List ℕ) (es : List Event) (before : List Item) (st st' : SideState) → ReadsAlike side config → GuessAt st.stands (guess_behind side config BeforeKexinit before) → Steps says side config own_id st es st' → ReadsOn side config before es st × (without_guesses side config (guess_behind side config BeforeKexinit before) (handled es) ≡ kept_in es)
read_by_guesses says side config own_id [] before st st' al at h = (refl, refl)
read_by_guesses says side config own_id (IdHeard id ∷ es) before st st' al at h =
    let g = guess_step says side config own_id (guess_behind side config BeforeKexinit before) st (IdHeard id) h.0 al at h.1 in
    let next = read_by_guesses says side config own_id es before h.0 st' al g.0 h.2 in
    (subst (ReadsOn side config before es) h.1.becomes next.0, next.1)
read_by_guesses says side config own_id (PayloadSubmitted p ∷ es) before st st' al at h =
    let g = guess_step says side config own_id (guess_behind side config BeforeKexinit before) st (PayloadSubmitted p) h.0 al at h.1 in
    let next = read_by_guesses says side config own_id es before h.0 st' al g.0 h.2 in
    (subst (ReadsOn side config before es) h.1.becomes next.0, next.1)
read_by_guesses says side config own_id (ExchangeBegun cause i ∷ es) before st st' al at h =
    let g = guess_step says side config own_id (guess_behind side config BeforeKexinit before) st (ExchangeBegun cause i) h.0 al at h.1 in
    let next = read_by_guesses says side config own_id es before h.0 st' al g.0 h.2 in
    (subst (ReadsOn side config before es) h.1.becomes next.0, next.1)
read_by_guesses says side config own_id (AnswerSent i q ∷ es) before st st' al at h =
    let g = guess_step says side config own_id (guess_behind side config BeforeKexinit before) st (AnswerSent i q) h.0 al at h.1 in
    let next = read_by_guesses says side config own_id es before h.0 st' al g.0 h.2 in
    (subst (ReadsOn side config before es) h.1.becomes next.0, next.1)
read_by_guesses says side config own_id (PayloadSent i ∷ es) before st st' al at h =
    let g = guess_step says side config own_id (guess_behind side config BeforeKexinit before) st (PayloadSent i) h.0 al at h.1 in
    let next = read_by_guesses says side config own_id es before h.0 st' al g.0 h.2 in
    (subst (ReadsOn side config before es) h.1.becomes next.0, next.1)
read_by_guesses says side config own_id (MessageTaken i ∷ es) before st st' al at h =
    let g = guess_step says side config own_id (guess_behind side config BeforeKexinit before) st (MessageTaken i) h.0 al at h.1 in
    let next = read_by_guesses says side config own_id es (before ++ i ∷ []) h.0 st' al (subst (GuessAt h.0.stands) (sym (guess_snoc side config BeforeKexinit before i)) g.0) h.2 in
    let reads = subst (ReadsOn side config (before ++ i ∷ []) es) h.1.becomes next.0 in
    let kept : without_guesses side config (guess_next side config (guess_behind side config BeforeKexinit before) i) (handled es) ≡ kept_in es = ap (λ q. without_guesses side config q (handled es)) (sym (guess_snoc side config BeforeKexinit before i)) ∙ next.1 in (
      one_read side config before st.reading (map (outgoing (other_side side)) (recorded es)) i (handled es) _ _ h.1.admissible (stays side config before st.reading _ i (and_no (is_newkeys i) _ (takes_kex says (setting side config own_id st) h.1.stage (next_number st.reading.number) i.payload h.1.answers h.1.next h.1.takes).1)) reads,
      ap (λ b. if b then without_guesses side config (guess_next side config (guess_behind side config BeforeKexinit before) i) (handled es) else i ∷ without_guesses side config (guess_next side config (guess_behind side config BeforeKexinit before) i) (handled es)) g.1 ∙ ap (λ z. i ∷ z) kept,
    )
read_by_guesses says side config own_id (GuessDropped i ∷ es) before st st' al at h =
    let g = guess_step says side config own_id (guess_behind side config BeforeKexinit before) st (GuessDropped i) h.0 al at h.1 in
    let next = read_by_guesses says side config own_id es (before ++ i ∷ []) h.0 st' al (subst (GuessAt h.0.stands) (sym (guess_snoc side config BeforeKexinit before i)) g.0) h.2 in
    let reads = subst (ReadsOn side config (before ++ i ∷ []) es) h.1.becomes next.0 in
    let kept : without_guesses side config (guess_next side config (guess_behind side config BeforeKexinit before) i) (handled es) ≡ kept_in es = ap (λ q. without_guesses side config q (handled es)) (sym (guess_snoc side config BeforeKexinit before i)) ∙ next.1 in (
      one_read side config before st.reading (map (outgoing (other_side side)) (recorded es)) i (handled es) _ _ h.1.admissible (stays side config before st.reading _ i (and_not (is_newkeys i) _ g.1)) reads,
      ap (λ b. if b then without_guesses side config (guess_next side config (guess_behind side config BeforeKexinit before) i) (handled es) else i ∷ without_guesses side config (guess_next side config (guess_behind side config BeforeKexinit before) i) (handled es)) g.1 ∙ kept,
    )
read_by_guesses says side config own_id (PayloadDelivered i ∷ es) before st st' al at h =
    let g = guess_step says side config own_id (guess_behind side config BeforeKexinit before) st (PayloadDelivered i) h.0 al at h.1 in
    let next = read_by_guesses says side config own_id es (before ++ i ∷ []) h.0 st' al (subst (GuessAt h.0.stands) (sym (guess_snoc side config BeforeKexinit before i)) g.0) h.2 in
    let reads = subst (ReadsOn side config (before ++ i ∷ []) es) h.1.becomes next.0 in
    let kept : without_guesses side config (guess_next side config (guess_behind side config BeforeKexinit before) i) (handled es) ≡ kept_in es = ap (λ q. without_guesses side config q (handled es)) (sym (guess_snoc side config BeforeKexinit before i)) ∙ next.1 in (
      one_read side config before st.reading (map (outgoing (other_side side)) (recorded es)) i (handled es) _ _ h.1.admissible (stays side config before st.reading _ i (and_no (is_newkeys i) _ (not_kex_types (type_of i) (payload_not_kex (type_of i) h.1.allowed)).1)) reads,
      ap (λ b. if b then without_guesses side config (guess_next side config (guess_behind side config BeforeKexinit before) i) (handled es) else i ∷ without_guesses side config (guess_next side config (guess_behind side config BeforeKexinit before) i) (handled es)) g.1 ∙ ap (λ z. i ∷ z) kept,
    )
read_by_guesses says side config own_id (PacketDropped i ∷ es) before st st' al at h =
    let g = guess_step says side config own_id (guess_behind side config BeforeKexinit before) st (PacketDropped i) h.0 al at h.1 in
    let next = read_by_guesses says side config own_id es (before ++ i ∷ []) h.0 st' al (subst (GuessAt h.0.stands) (sym (guess_snoc side config BeforeKexinit before i)) g.0) h.2 in
    let reads = subst (ReadsOn side config (before ++ i ∷ []) es) h.1.becomes next.0 in
    let kept : without_guesses side config (guess_next side config (guess_behind side config BeforeKexinit before) i) (handled es) ≡ kept_in es = ap (λ q. without_guesses side config q (handled es)) (sym (guess_snoc side config BeforeKexinit before i)) ∙ next.1 in (
      one_read side config before st.reading (map (outgoing (other_side side)) (recorded es)) i (handled es) _ _ h.1.admissible (stays side config before st.reading _ i (and_no (is_newkeys i) _ (not_kex_types (type_of i) (drop_not_kex (type_of i) h.1.idle)).1)) reads,
      ap (λ b. if b then without_guesses side config (guess_next side config (guess_behind side config BeforeKexinit before) i) (handled es) else i ∷ without_guesses side config (guess_next side config (guess_behind side config BeforeKexinit before) i) (handled es)) g.1 ∙ ap (λ z. i ∷ z) kept,
    )
read_by_guesses says side config own_id (ExchangeFinished i x ∷ es) before st st' al at h =
    let g = guess_step says side config own_id (guess_behind side config BeforeKexinit before) st (ExchangeFinished i x) h.0 al at h.1 in
    let next = read_by_guesses says side config own_id es (before ++ i ∷ []) h.0 st' al (subst (GuessAt h.0.stands) (sym (guess_snoc side config BeforeKexinit before i)) g.0) h.2 in
    let reads = subst (ReadsOn side config (before ++ i ∷ []) es) h.1.becomes next.0 in
    let kept : without_guesses side config (guess_next side config (guess_behind side config BeforeKexinit before) i) (handled es) ≡ kept_in es = ap (λ q. without_guesses side config q (handled es)) (sym (guess_snoc side config BeforeKexinit before i)) ∙ next.1 in
    let t = finishes_guess says side config (AwaitsNewkeys h.1.exchange x h.1.host) i x (guess_behind side config BeforeKexinit before) (subst (λ w. GuessAt w (guess_behind side config BeforeKexinit before)) h.1.inside at) (h.1.payload_is, refl, h.1.trusted) in (
      one_read side config before st.reading (map (outgoing (other_side side)) (recorded (ExchangeFinished i x ∷ es))) i (handled es) _ _ h.1.admissible (ap (λ b. place_by b (place_of st.reading (map (outgoing (other_side side)) (recorded (ExchangeFinished i x ∷ es)))) i) (and_is (is_newkeys i) _ t.2 t.1)) reads,
      ap (λ b. if b then without_guesses side config (guess_next side config (guess_behind side config BeforeKexinit before) i) (handled es) else i ∷ without_guesses side config (guess_next side config (guess_behind side config BeforeKexinit before) i) (handled es)) t.1 ∙ ap (λ z. i ∷ z) kept,
    )

-- ---- where nothing whole stands next, the list of packets ends

clash : (item : Item) (rest : List ℕ) → Unfinished ≡ Whole item rest → ⊥
clash item rest e = cc

clash_fault : (fault : Fault) (item : Item) (rest : List ℕ) → Refused fault ≡ Whole item rest → ⊥
clash_fault fault item rest e = cc

pub part_ends : (at : Place) (rest : List ℕ) → front_of at.sealing at.number rest ≡ Unfinished → IsEnd (Some at) rest
part_ends at rest e i more a f = clash i more (sym e ∙ (ap (front_of at.sealing at.number) f ∙ front_whole at.sealing at.number i more a))

pub fault_ends : (at : Place) (rest : List ℕ) (fault : Fault) → front_of at.sealing at.number rest ≡ Refused fault → IsEnd (Some at) rest
fault_ends at rest fault e i more a f = clash_fault fault i more (sym e ∙ (ap (front_of at.sealing at.number) f ∙ front_whole at.sealing at.number i more a))

-- ---- the packets of the first epoch

end_by : (b : Bool) (i : Item) (rest xs : List Item) → b ≡ false → rest ≡ xs → (if b then i ∷ [] else i ∷ rest) ≡ i ∷ xs
end_by true i rest xs e f = absurd (let q : true ≡ false = e in cc)
end_by false i rest xs e f = ap (λ z. i ∷ z) f

-- Up to the first packet that ends an epoch they are what was handled up to the first record.
pub first_is_end : (says : Says) (side : Side) (config : Config) (own_id : List ℕ) (es : List Event) (before : List Item) (st st' : SideState) → ReadsAlike side config → GuessAt st.stands (guess_behind side config BeforeKexinit before) → Steps says side config own_id st es st' → until_end (ends_epoch side config) before (handled es) ≡ first_epoch es
first_is_end says side config own_id [] before st st' al at h = refl
first_is_end says side config own_id (IdHeard id ∷ es) before st st' al at h =
    let g = guess_step says side config own_id (guess_behind side config BeforeKexinit before) st (IdHeard id) h.0 al at h.1 in
    first_is_end says side config own_id es before h.0 st' al g.0 h.2
first_is_end says side config own_id (PayloadSubmitted p ∷ es) before st st' al at h =
    let g = guess_step says side config own_id (guess_behind side config BeforeKexinit before) st (PayloadSubmitted p) h.0 al at h.1 in
    first_is_end says side config own_id es before h.0 st' al g.0 h.2
first_is_end says side config own_id (ExchangeBegun cause i ∷ es) before st st' al at h =
    let g = guess_step says side config own_id (guess_behind side config BeforeKexinit before) st (ExchangeBegun cause i) h.0 al at h.1 in
    first_is_end says side config own_id es before h.0 st' al g.0 h.2
first_is_end says side config own_id (AnswerSent i q ∷ es) before st st' al at h =
    let g = guess_step says side config own_id (guess_behind side config BeforeKexinit before) st (AnswerSent i q) h.0 al at h.1 in
    first_is_end says side config own_id es before h.0 st' al g.0 h.2
first_is_end says side config own_id (PayloadSent i ∷ es) before st st' al at h =
    let g = guess_step says side config own_id (guess_behind side config BeforeKexinit before) st (PayloadSent i) h.0 al at h.1 in
    first_is_end says side config own_id es before h.0 st' al g.0 h.2
first_is_end says side config own_id (MessageTaken i ∷ es) before st st' al at h =
    let g = guess_step says side config own_id (guess_behind side config BeforeKexinit before) st (MessageTaken i) h.0 al at h.1 in
    let next = first_is_end says side config own_id es (before ++ i ∷ []) h.0 st' al (subst (GuessAt h.0.stands) (sym (guess_snoc side config BeforeKexinit before i)) g.0) h.2 in
    end_by (ends_epoch side config before i) i _ (first_epoch es) (and_no (is_newkeys i) _ (takes_kex says (setting side config own_id st) h.1.stage (next_number st.reading.number) i.payload h.1.answers h.1.next h.1.takes).1) next
first_is_end says side config own_id (GuessDropped i ∷ es) before st st' al at h =
    let g = guess_step says side config own_id (guess_behind side config BeforeKexinit before) st (GuessDropped i) h.0 al at h.1 in
    let next = first_is_end says side config own_id es (before ++ i ∷ []) h.0 st' al (subst (GuessAt h.0.stands) (sym (guess_snoc side config BeforeKexinit before i)) g.0) h.2 in
    end_by (ends_epoch side config before i) i _ (first_epoch es) (and_not (is_newkeys i) _ g.1) next
first_is_end says side config own_id (PayloadDelivered i ∷ es) before st st' al at h =
    let g = guess_step says side config own_id (guess_behind side config BeforeKexinit before) st (PayloadDelivered i) h.0 al at h.1 in
    let next = first_is_end says side config own_id es (before ++ i ∷ []) h.0 st' al (subst (GuessAt h.0.stands) (sym (guess_snoc side config BeforeKexinit before i)) g.0) h.2 in
    end_by (ends_epoch side config before i) i _ (first_epoch es) (and_no (is_newkeys i) _ (not_kex_types (type_of i) (payload_not_kex (type_of i) h.1.allowed)).1) next
first_is_end says side config own_id (PacketDropped i ∷ es) before st st' al at h =
    let g = guess_step says side config own_id (guess_behind side config BeforeKexinit before) st (PacketDropped i) h.0 al at h.1 in
    let next = first_is_end says side config own_id es (before ++ i ∷ []) h.0 st' al (subst (GuessAt h.0.stands) (sym (guess_snoc side config BeforeKexinit before i)) g.0) h.2 in
    end_by (ends_epoch side config before i) i _ (first_epoch es) (and_no (is_newkeys i) _ (not_kex_types (type_of i) (drop_not_kex (type_of i) h.1.idle)).1) next
first_is_end says side config own_id (ExchangeFinished i x ∷ es) before st st' al at h =
    let t = finishes_guess says side config (AwaitsNewkeys h.1.exchange x h.1.host) i x (guess_behind side config BeforeKexinit before) (subst (λ w. GuessAt w (guess_behind side config BeforeKexinit before)) h.1.inside at) (h.1.payload_is, refl, h.1.trusted) in
    ap (λ b. if b then i ∷ [] else i ∷ until_end (ends_epoch side config) (before ++ i ∷ []) (handled es)) (and_is (is_newkeys i) _ t.2 t.1)

-- nothing is delivered before the first record
one_silent : (i : Item) (items : List Item) → is_payload_type (type_of i) ≡ false → carried_payloads items ≡ [] → carried_payloads (i ∷ items) ≡ []
one_silent i items e f = ap (λ b. map (λ (j : Item). j.payload) (if b then i ∷ filter (λ j. is_payload_type (type_of j)) items else filter (λ j. is_payload_type (type_of j)) items)) e ∙ f

kex_no_payload : (t : ℕ) → is_kex_type t ≡ true → is_payload_type t ≡ false
kex_no_payload t h = grind (arith, nat_tests)

drop_no_payload : (t : ℕ) → (nat_le 2 t && nat_le t 4) ≡ true → is_payload_type t ≡ false
drop_no_payload t h = grind (arith, nat_tests)

pub first_silent : (says : Says) (side : Side) (config : Config) (own_id : List ℕ) (es : List Event) (st st' : SideState) → (st.stands ≡ Outside → ⊥) → st.records ≡ [] → Steps says side config own_id st es st' → carried_payloads (first_epoch es) ≡ []
first_silent says side config own_id [] st st' n r h = refl
first_silent says side config own_id (IdHeard id ∷ es) st st' n r h = first_silent says side config own_id es h.0 st' (subst (λ (m : SideState). m.stands ≡ Outside → ⊥) (sym h.1.becomes) n) (ap (λ (m : SideState). m.records) h.1.becomes ∙ r) h.2
first_silent says side config own_id (PayloadSubmitted p ∷ es) st st' n r h = first_silent says side config own_id es h.0 st' (subst (λ (m : SideState). m.stands ≡ Outside → ⊥) (sym h.1.becomes) n) (ap (λ (m : SideState). m.records) h.1.becomes ∙ r) h.2
first_silent says side config own_id (ExchangeBegun cause i ∷ es) st st' n r h = first_silent says side config own_id es h.0 st' (λ e. absurd (let q : Inside (Created i.payload) ≡ Outside = sym (ap (λ (m : SideState). m.stands) h.1.becomes) ∙ e in cc)) (ap (λ (m : SideState). m.records) h.1.becomes ∙ r) h.2
first_silent says side config own_id (AnswerSent i q ∷ es) st st' n r h = first_silent says side config own_id es h.0 st' (subst (λ (m : SideState). m.stands ≡ Outside → ⊥) (sym h.1.becomes) n) (ap (λ (m : SideState). m.records) h.1.becomes ∙ r) h.2
first_silent says side config own_id (PayloadSent i ∷ es) st st' n r h = absurd (n h.1.outside)
first_silent says side config own_id (MessageTaken i ∷ es) st st' n r h = one_silent i (first_epoch es) (kex_no_payload (type_of i) (takes_kex says (setting side config own_id st) h.1.stage (next_number st.reading.number) i.payload h.1.answers h.1.next h.1.takes).0) (first_silent says side config own_id es h.0 st' (λ e. absurd (let q : Inside h.1.next ≡ Outside = sym (ap (λ (m : SideState). m.stands) h.1.becomes) ∙ e in cc)) (ap (λ (m : SideState). m.records) h.1.becomes ∙ r) h.2)
first_silent says side config own_id (GuessDropped i ∷ es) st st' n r h = one_silent i (first_epoch es) (kex_no_payload (type_of i) h.1.is_kex) (first_silent says side config own_id es h.0 st' (λ e. absurd (let q : Inside (guess_dropped h.1.stage) ≡ Outside = sym (ap (λ (m : SideState). m.stands) h.1.becomes) ∙ e in cc)) (ap (λ (m : SideState). m.records) h.1.becomes ∙ r) h.2)
first_silent says side config own_id (PayloadDelivered i ∷ es) st st' n r h = absurd (elim h.1.may [ inl e ↦ n e | inr f ↦ (let l : 0 < length st.records = f.1 in let z : length st.records ≡ 0 = ap length r in omega (arith, l, z)) ])
first_silent says side config own_id (PacketDropped i ∷ es) st st' n r h = one_silent i (first_epoch es) (drop_no_payload (type_of i) h.1.idle) (first_silent says side config own_id es h.0 st' (subst (λ (m : SideState). m.stands ≡ Outside → ⊥) (sym h.1.becomes) n) (ap (λ (m : SideState). m.records) h.1.becomes ∙ r) h.2)
first_silent says side config own_id (ExchangeFinished i x ∷ es) st st' n r h = one_silent i [] (ap (λ p. is_payload_type (message_type p)) (finishes_kex says (AwaitsNewkeys h.1.exchange x h.1.host) i.payload x (h.1.payload_is, refl, h.1.trusted))) refl
