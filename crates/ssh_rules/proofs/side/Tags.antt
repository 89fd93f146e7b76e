-- What each side's part of a report says is enough for the prefix theorem.
use Rattle.std.proofs.Common.{◌≡◌, ℕ, zero, suc, ◌^◌, ◌<◌, ◌≤◌, List, [], ◌∷◌, ◌++◌, length, map, take, slice_get, refl, sym, ◌∙◌, ap, subst, arith, Option, Some, None, Bool, true, false, if◌then◌else◌, ◌==◌, ◌&&◌, not, ◌⊎◌, inl, inr, append_assoc}
use Rattle.std.proofs.lemmas.Bool.Decides.{nat_tests}
use Rattle.std.specs.Prelude.{Result, Ok, Err}
use Rattle.ssh_packet.specs.Sealing.{Item}
use Rattle.ssh_packet.specs.Stream.{Place, ReadsBy, first_place, place_by, is_newkeys, message_type}
use Rattle.ssh_wire.specs.declared.side.Side.{Side}
use Rattle.ssh_wire.specs.declared.side.Side.TheVariants.{Client, Server}
use Rattle.ssh_negotiate.specs.declared.negotiation.Names.{Names}
use Rattle.ssh_kex.specs.declared.config.Config.{Config}
use Rattle.ssh_kex.specs.declared.exchange.FinishedExchange.{FinishedExchange}
use Rattle.ssh_negotiate.specs.Advertised.{kexinit}
use Rattle.ssh_kex.specs.Exchange.{outgoing}
use Rattle.ssh_rules.specs.Fills.{messages}
use Rattle.ssh_negotiate.specs.Reading.{names_read, KexinitFault}
use Rattle.ssh_wire.specs.Sides.{other_side}
use Rattle.ssh_kex.specs.Setting.{held_names, Says, offers_of}
use Rattle.ssh_negotiate.specs.Laws.{IsWithin}
use Rattle.ssh_negotiate.proofs.Lemmas.{read_flags, follows_none}
use Rattle.ssh_kex.specs.Setting.{behind_guess}
use Rattle.ssh_rules.specs.MessageTypes.{type_of, is_kex_type, is_payload_type, order}
use Rattle.ssh_rules.specs.Wire.{carried_payloads, HasFront, InBlocks, exchange_block, HasForm, IsWire}
use Rattle.ssh_rules.specs.Guess.{Guess, BeforeKexinit, GuessDue, NoneFollows, guess_of, is_guess, guess_next, guess_behind, ends_epoch, LegalOrder}
use Rattle.ssh_rules.specs.Handled.{Ending, AllRead, AtFault, AtPacket, Handled}
use Rattle.ssh_packet.specs.Stream.{by_type}
use Rattle.ssh_rules.specs.Attacked.{until_end, IsNamed, IsStrict, CarriesPrefix, known_names, read_names, IsOrdered}
use Rattle.ssh_rules.proofs.pair.Prefix.{keyed, AreFew, PlainFor}
use Rattle.ssh_rules.proofs.pair.Carries.{AllStrict, behind_end, carries_prefix}
use Rattle.ssh_packet.proofs.Lemmas.{reads_by_type}
use Rattle.ssh_kex.specs.Messages.{is_gex}
use Rattle.ssh_rules.specs.Machine.{SideState, Silent, Outside, Event, Steps, first_state}
use Rattle.ssh_rules.specs.Log.{handled, recorded, first_epoch}
use Rattle.ssh_rules.proofs.any_bytes.Guessing.{ReadsAlike, first_is_end, first_silent}
use Rattle.ssh_rules.proofs.side.Legal.{ReadsUnmarked}
use Rattle.ssh_rules.proofs.side.Ordered.{legal_order}

-- ---- no guess is dropped among own packets

-- each KEXINIT among them is read without a guess
abbrev AllCalm : Side → Config → List Item → Type 0
AllCalm side config [] = Unit {0}
AllCalm side config (i ∷ items) = ((type_of i == 20) ≡ true → guess_of (names_read side (offers_of side config) false i.payload) ≡ NoneFollows) × AllCalm side config items

abbrev Calm : Guess → Type 0
Calm g = (g ≡ BeforeKexinit) ⊎ (g ≡ NoneFollows)

calm_no : (g : Guess) (i : Item) → Calm g → is_guess g i ≡ false
calm_no g i (inl e) = ap (λ q. is_guess q i) e
calm_no g i (inr e) = ap (λ q. is_guess q i) e

-- only the payload is looked at
next_alike : (side : Side) (config : Config) (g : Guess) (i j : Item) → i.payload ≡ j.payload → guess_next side config g i ≡ guess_next side config g j
next_alike side config BeforeKexinit i j e = ap (λ p. if message_type p == 20 then guess_of (names_read side (offers_of side config) false p) else BeforeKexinit) e
next_alike side config GuessDue i j e = ap (λ p. if is_kex_type (message_type p) then NoneFollows else GuessDue) e
next_alike side config NoneFollows i j e = ap (λ p. if message_type p == 21 then BeforeKexinit else NoneFollows) e

calm_next : (side : Side) (config : Config) (g : Guess) (i : Item) → ((type_of i == 20) ≡ true → guess_of (names_read side (offers_of side config) false i.payload) ≡ NoneFollows) → Calm g → Calm (guess_next side config g i)
calm_next side config g i k (inl e) = subst (λ q. Calm (guess_next side config q i)) (sym e) (by (type_of i == 20) k) where
  by : (b : Bool) → (b ≡ true → guess_of (names_read side (offers_of side config) false i.payload) ≡ NoneFollows) → Calm (if b then guess_of (names_read side (offers_of side config) false i.payload) else BeforeKexinit)
  by true h = inr (h refl)
  by false h = inl refl
calm_next side config g i k (inr e) = subst (λ q. Calm (guess_next side config q i)) (sym e) (by (is_newkeys i)) where
  by : (b : Bool) → Calm (if b then BeforeKexinit else NoneFollows)
  by true = inl refl
  by false = inr refl

calm_behind : (side : Side) (config : Config) (g : Guess) (W : List Item) (r : List Item) (i : Item) → AllCalm side config W → Calm g → HasFront (map (λ (j : Item). j.payload) W) (map (λ (j : Item). j.payload) (r ++ i ∷ [])) → Calm (guess_behind side config g r)
calm_behind side config g W [] i all c s = c
calm_behind side config g [] (x ∷ r) i all c s = absurd (let e : x.payload ∷ (map (λ (j : Item). j.payload) (r ++ i ∷ []) ++ s.0) ≡ [] = s.1 in cc)
calm_behind side config g (w ∷ W) (x ∷ r) i all c s =
    let e : x.payload ≡ w.payload = (let q : x.payload ∷ (map (λ (j : Item). j.payload) (r ++ i ∷ []) ++ s.0) ≡ w.payload ∷ map (λ (j : Item). j.payload) W = s.1 in cc) in
    let t : map (λ (j : Item). j.payload) (r ++ i ∷ []) ++ s.0 ≡ map (λ (j : Item). j.payload) W = (let q : x.payload ∷ (map (λ (j : Item). j.payload) (r ++ i ∷ []) ++ s.0) ≡ w.payload ∷ map (λ (j : Item). j.payload) W = s.1 in cc) in
    calm_behind side config (guess_next side config g x) W r i all.1 (subst Calm (sym (next_alike side config g x w e)) (calm_next side config g w all.0 c)) (s.0, t)

behind_join : (side : Side) (config : Config) (g : Guess) (a b : List Item) → guess_behind side config g (a ++ b) ≡ guess_behind side config (guess_behind side config g a) b
behind_join side config g [] b = refl
behind_join side config g (i ∷ a) b = behind_join side config (guess_next side config g i) a b

and_not : (a b : Bool) → b ≡ false → (a && not b) ≡ a
and_not true b e = ap not e
and_not false b e = refl

plain_for : (side : Side) (config : Config) (before W : List Item) → AllCalm side config W → Calm (guess_behind side config BeforeKexinit before) → PlainFor (ends_epoch side config) before W
plain_for side config before W all c r i s =
    and_not (is_newkeys i) (is_guess (guess_behind side config BeforeKexinit (before ++ r)) i) (calm_no _ i (subst Calm (sym (behind_join side config BeforeKexinit before r)) (calm_behind side config (guess_behind side config BeforeKexinit before) W r i all c s)))

-- ---- behind an end of an epoch a KEXINIT is awaited

end_calm : (side : Side) (config : Config) (g : Guess) (i : Item) → (is_newkeys i && not (is_guess g i)) ≡ true → Calm (guess_next side config g i)
end_calm side config BeforeKexinit i h = inl (ap (λ b. if b then guess_of (names_read side (offers_of side config) false i.payload) else BeforeKexinit) (not_kexinit (type_of i) h)) where
  not_kexinit : (t : ℕ) → ((t == 21) && not false) ≡ true → (t == 20) ≡ false
  not_kexinit t h = grind (arith, nat_tests)
end_calm side config GuessDue i h = absurd (no (type_of i) h) where
  no : (t : ℕ) → ((t == 21) && not (is_kex_type t)) ≡ true → ⊥
  no t h = grind (arith, nat_tests)
end_calm side config NoneFollows i h = inl (ap (λ b. if b then BeforeKexinit else NoneFollows) (left (is_newkeys i) h)) where
  left : (b : Bool) → (b && not false) ≡ true → b ≡ true
  left true h = refl
  left false h = h

ends_calm : (side : Side) (config : Config) (before R : List Item) → (behind_end (ends_epoch side config) before R ≡ []) ⊎ Calm (guess_behind side config BeforeKexinit (before ++ until_end (ends_epoch side config) before R))
ends_calm side config before [] = inl refl
ends_calm side config before (i ∷ R) = by (ends_epoch side config before i) refl (ends_calm side config (before ++ i ∷ []) R) where
  by : (b : Bool) → ends_epoch side config before i ≡ b → (behind_end (ends_epoch side config) (before ++ i ∷ []) R ≡ []) ⊎ Calm (guess_behind side config BeforeKexinit ((before ++ i ∷ []) ++ until_end (ends_epoch side config) (before ++ i ∷ []) R)) → ((if b then R else behind_end (ends_epoch side config) (before ++ i ∷ []) R) ≡ []) ⊎ Calm (guess_behind side config BeforeKexinit (before ++ (if b then i ∷ [] else i ∷ until_end (ends_epoch side config) (before ++ i ∷ []) R)))
  by true e h = inr (subst Calm (sym (behind_join side config BeforeKexinit before (i ∷ []))) (end_calm side config (guess_behind side config BeforeKexinit before) i e))
  by false e h = elim h [ inl q ↦ inl q | inr q ↦ inr (subst (λ l. Calm (guess_behind side config BeforeKexinit l)) (append_assoc before (i ∷ []) (until_end (ends_epoch side config) (before ++ i ∷ []) R)) q) ]

calm_later : (side : Side) (config : Config) (before W : List Item) → AllCalm side config W → AllCalm side config (behind_end by_type before W)
calm_later side config before [] all = tt
calm_later side config before (j ∷ W) all = by (is_newkeys j) (calm_later side config (before ++ j ∷ []) W all.1) where
  by : (b : Bool) → AllCalm side config (behind_end by_type (before ++ j ∷ []) W) → AllCalm side config (if b then W else behind_end by_type (before ++ j ∷ []) W)
  by true h = all.1
  by false h = h

-- ---- all exchanges are strict

pub known_ok : (side : Side) (config : Config) (b : Bool) (m : Option (List ℕ)) (n : Names) → read_names side config b m ≡ Some n → (payload : List ℕ) × (names_read side (offers_of side config) b payload ≡ Ok n)
known_ok side config b None n e = absurd (let q : None ≡ Some n = e in cc)
known_ok side config b (Some payload) n e = (payload, by (names_read side (offers_of side config) b payload) e) where
  by : (r : Result Names KexinitFault) → known_names r ≡ Some n → r ≡ Ok n
  by (Ok m) e = (let q : Some m ≡ Some n = e in cc)
  by (Err f) e = absurd (let q : None ≡ Some n = e in cc)

held_strict : (n : Names) → (held_names n).strict_kex ≡ n.strict_kex
held_strict n = by n.ignore_guessed where
  by : (b : Bool) → (if b then behind_guess n else n).strict_kex ≡ n.strict_kex
  by true = refl
  by false = refl

outgoing_strict : (side : Side) (x : FinishedExchange) → (outgoing side x).strict ≡ x.names.strict_kex
outgoing_strict Client x = refl
outgoing_strict Server x = refl

abbrev AreNamed : Side → Config → (ℕ → List (List ℕ)) → List FinishedExchange → Type 0
AreNamed side config read xs = (k : ℕ) (x : FinishedExchange) → slice_get xs k ≡ Some x → IsNamed side config (take k xs) (read k) x

strict_each : (side : Side) (config : Config) (read : ℕ → List (List ℕ)) (y : FinishedExchange) (xs : List FinishedExchange) → AreNamed side config read (y ∷ xs) → y.names.strict_kex ≡ true → (k : ℕ) (x : FinishedExchange) → slice_get (y ∷ xs) k ≡ Some x → x.names.strict_kex ≡ true
strict_each side config read y xs named s zero x e = (let q : Some y ≡ Some x = e in let r : y ≡ x = cc in ap (λ (z : FinishedExchange). z.names.strict_kex) (sym r) ∙ s)
strict_each side config read y xs named s (suc k) x e =
    let n = (named (suc k) x e).names in
    let p = known_ok side config y.names.strict_kex (slice_get (read (suc k)) 0) n.0 n.1 in
    ap (λ (z : Names). z.strict_kex) n.2 ∙ held_strict n.0 ∙ (read_flags side (offers_of side config) y.names.strict_kex p.0 n.0 p.1).strict s

all_strict : (s : Side) (xs : List FinishedExchange) → ((k : ℕ) (x : FinishedExchange) → slice_get xs k ≡ Some x → x.names.strict_kex ≡ true) → AllStrict (map (outgoing s) xs)
all_strict s [] h = tt
all_strict s (x ∷ xs) h = (outgoing_strict s x ∙ h 0 x refl, all_strict s xs (λ k y e. h (suc k) y e))

strict_of : (side s : Side) (config : Config) (read : ℕ → List (List ℕ)) (xs : List FinishedExchange) → AreNamed side config read xs → IsStrict xs → AllStrict (map (outgoing s) xs)
strict_of side s config read [] named h = absurd h
strict_of side s config read (y ∷ xs) named h = all_strict s (y ∷ xs) (strict_each side config read y xs named h)

-- ---- the KEXINITs of a wire

abbrev HeadIs : Side → Config → List (List ℕ) → Type 0
HeadIs side config [] = Unit {0}
HeadIs side config (p ∷ ms) = (cookie : List ℕ) × (length cookie ≡ 16) × (p ≡ kexinit (offers_of side config) cookie)

head_of : (side : Side) (config : Config) (kind : Bool) (host : Option (List ℕ)) (own : List (List ℕ)) → HasForm side config kind host own → HeadIs side config own
head_of side config kind host [] f = tt
head_of side config kind host (p ∷ ms) f = (f.fills.cookie, f.cookie, by side kind f.front) where
  by : (s : Side) (k : Bool) → HasFront (messages s config k f.fills) (p ∷ ms) → p ≡ kexinit (offers_of s config) f.fills.cookie
  by Client false s = (let q : p ∷ (ms ++ s.0) ≡ messages Client config false f.fills = s.1 in cc)
  by Client true s = (let q : p ∷ (ms ++ s.0) ≡ messages Client config true f.fills = s.1 in cc)
  by Server false s = (let q : p ∷ (ms ++ s.0) ≡ messages Server config false f.fills = s.1 in cc)
  by Server true s = (let q : p ∷ (ms ++ s.0) ≡ messages Server config true f.fills = s.1 in cc)

-- read by anyone it has no guess to ignore
calm_head : (side writer : Side) (config peer : Config) (p : List ℕ) (ms : List (List ℕ)) → IsWithin (offers_of writer peer) → HeadIs writer peer (p ∷ ms) → guess_of (names_read side (offers_of side config) false p) ≡ NoneFollows
calm_head side writer config peer p ms good h =
    subst (λ q. guess_of (names_read side (offers_of side config) false q) ≡ NoneFollows) (sym h.2) (by (names_read side (offers_of side config) false (kexinit (offers_of writer peer) h.0)) (λ n e. follows_none side (offers_of side config) (offers_of writer peer) false h.0 n h.1 good e))
  where
    by : (r : Result Names KexinitFault) → ((n : Names) → r ≡ Ok n → n.ignore_guessed ≡ false) → guess_of r ≡ NoneFollows
    by (Err e) f = refl
    by (Ok n) f = ap (λ b. if b then GuessDue else NoneFollows) (f n refl)

-- what is still due in a block: NEWKEYS stands last, and there is no KEXINIT
abbrev Due : List ℕ → Type 0
Due [] = Unit {0}
Due (t ∷ []) = ((t == 20) ≡ false) × ((t == 21) ≡ true) × (is_payload_type t ≡ false)
Due (t ∷ u ∷ due) = ((t == 20) ≡ false) × ((t == 21) ≡ false) × (is_payload_type t ≡ false) × Due (u ∷ due)

due_order : (side : Side) (kind : Bool) → Due (Rattle.std.specs.Prelude.drop 1 (order side kind))
due_order Client false = (refl, refl, refl, (refl, refl, refl))
due_order Client true = (refl, refl, refl, (refl, refl, refl, (refl, refl, refl)))
due_order Server false = (refl, refl, refl, (refl, refl, refl))
due_order Server true = (refl, refl, refl, (refl, refl, refl, (refl, refl, refl)))

-- which blocks the heads are known of
abbrev IsOpenAt : List ℕ → ℕ → Type 0
IsOpenAt [] j = Unit {0}
IsOpenAt (t ∷ due) j = 1 ≤ j

block_same : (j : ℕ) (i : Item) (W : List Item) → is_newkeys i ≡ false → exchange_block (suc j) (i ∷ W) ≡ exchange_block (suc j) W
block_same j i W e = ap (λ b. if b then exchange_block j W else exchange_block (suc j) W) e

block_less : (j : ℕ) (i : Item) (W : List Item) → is_newkeys i ≡ true → exchange_block (suc j) (i ∷ W) ≡ exchange_block j W
block_less j i W e = ap (λ b. if b then exchange_block j W else exchange_block (suc j) W) e

block_payload : (j : ℕ) (i : Item) (W : List Item) → is_payload_type (type_of i) ≡ true → exchange_block j (i ∷ W) ≡ exchange_block j W
block_payload zero i W e = ap (λ b. if b then i.payload ∷ [] else (if is_kex_type (type_of i) then i.payload ∷ exchange_block zero W else exchange_block zero W)) (plain (type_of i) e) ∙ ap (λ b. if b then i.payload ∷ exchange_block zero W else exchange_block zero W) (other (type_of i) e) where
  plain : (t : ℕ) → is_payload_type t ≡ true → (t == 21) ≡ false
  plain t e = grind (arith, nat_tests)

  other : (t : ℕ) → is_payload_type t ≡ true → is_kex_type t ≡ false
  other t e = grind (arith, nat_tests)
block_payload (suc j) i W e = block_same j i W (plain (type_of i) e) where
  plain : (t : ℕ) → is_payload_type t ≡ true → (t == 21) ≡ false
  plain t e = grind (arith, nat_tests)

block_kexinit : (i : Item) (W : List Item) → type_of i ≡ 20 → exchange_block 0 (i ∷ W) ≡ i.payload ∷ exchange_block 0 W
block_kexinit i W e = ap (λ t. if t == 21 then i.payload ∷ [] else (if is_kex_type t then i.payload ∷ exchange_block zero W else exchange_block zero W)) e

calm_blocks : (side writer : Side) (config peer : Config) (kind : ℕ → Bool) (k : ℕ) (due : List ℕ) (W : List Item) → IsWithin (offers_of writer peer) → Due due → InBlocks writer kind k due W → ((j : ℕ) → IsOpenAt due j → HeadIs writer peer (exchange_block j W)) → AllCalm side config W
calm_blocks side writer config peer kind k due [] good d h heads = tt
calm_blocks side writer config peer kind k [] (i ∷ W) good d (inl h) heads =
    ((λ e. absurd (no (type_of i) h.0 e)), calm_blocks side writer config peer kind k [] W good tt h.1 (λ j o. subst (HeadIs writer peer) (block_payload j i W h.0) (heads j tt)))
  where
    no : (t : ℕ) → is_payload_type t ≡ true → (t == 20) ≡ true → ⊥
    no t e f = grind (arith, nat_tests)
calm_blocks side writer config peer kind k [] (i ∷ W) good d (inr h) heads = (
  (λ e. calm_head side writer config peer i.payload (exchange_block 0 W) good (subst (HeadIs writer peer) (block_kexinit i W h.0) (heads 0 tt))),
  calm_blocks side writer config peer kind (suc k) (Rattle.std.specs.Prelude.drop 1 (order writer (kind k))) W good (due_order writer (kind k)) h.1 (λ j o. later j (above writer (kind k) j o)),
)
  where
    plain : is_newkeys i ≡ false
    plain = ap (λ t. t == 21) h.0

    above : (s : Side) (b : Bool) (j : ℕ) → IsOpenAt (Rattle.std.specs.Prelude.drop 1 (order s b)) j → 1 ≤ j
    above Client false j o = o
    above Client true j o = o
    above Server false j o = o
    above Server true j o = o

    later : (j : ℕ) → 1 ≤ j → HeadIs writer peer (exchange_block j W)
    later zero o = absurd (omega (arith, o))
    later (suc j) o = subst (HeadIs writer peer) (block_same j i W plain) (heads (suc j) tt)
calm_blocks side writer config peer kind k (t ∷ []) (i ∷ W) good d h heads = (
  (λ e. absurd (let q : true ≡ false = sym e ∙ ap (λ u. u == 20) h.0 ∙ d.0 in cc)),
  calm_blocks side writer config peer kind k [] W good tt h.1 (λ j o. subst (HeadIs writer peer) (block_less j i W (ap (λ u. u == 21) h.0 ∙ d.1)) (heads (suc j) (omega (arith)))),
)
calm_blocks side writer config peer kind k (t ∷ u ∷ due) (i ∷ W) good d h heads = (
  (λ e. absurd (let q : true ≡ false = sym e ∙ ap (λ v. v == 20) h.0 ∙ d.0 in cc)),
  calm_blocks side writer config peer kind k (u ∷ due) W good d.3 h.1 later,
)
  where
    later : (j : ℕ) → 1 ≤ j → HeadIs writer peer (exchange_block j W)
    later zero o = absurd (omega (arith, o))
    later (suc j) o = subst (HeadIs writer peer) (block_same j i W (ap (λ v. v == 21) h.0 ∙ d.1)) (heads (suc j) (omega (arith)))

whole_blocks : (side : Side) (kind : ℕ → Bool) (W : List Item) → InBlocks side kind 1 (order side (kind 0)) W → InBlocks side kind 0 [] W
whole_blocks side kind [] h = tt
whole_blocks side kind (i ∷ W) h = inr (by side (kind 0) h) where
  by : (s : Side) (b : Bool) → InBlocks side kind 1 (order s b) (i ∷ W) → (type_of i ≡ 20) × InBlocks side kind 1 (Rattle.std.specs.Prelude.drop 1 (order s b)) W
  by Client false h = h
  by Client true h = h
  by Server false h = h
  by Server true h = h

pub calm_wire : (side writer : Side) (config peer : Config) (kind : ℕ → Bool) (host : ℕ → Option (List ℕ)) (submitted : List (List ℕ)) (xs : List FinishedExchange) (wire : List ℕ) (W : List Item) → IsWithin (offers_of writer peer) → IsWire writer peer kind host submitted xs wire W → AllCalm side config W
calm_wire side writer config peer kind host submitted xs wire W good w =
    calm_blocks side writer config peer kind 0 [] W good tt (whole_blocks writer kind W w.blocks) (λ j o. head_of writer peer (kind j) (host j) (exchange_block j W) (w.forms j))

-- ---- epoch 0 has no payload

one_not : (i : Item) (items : List Item) → is_payload_type (type_of i) ≡ false → carried_payloads (i ∷ items) ≡ carried_payloads items
one_not i items e = ap (λ b. map (λ (j : Item). j.payload) (if b then i ∷ Rattle.std.specs.Prelude.filter (λ j. is_payload_type (type_of j)) items else Rattle.std.specs.Prelude.filter (λ j. is_payload_type (type_of j)) items)) e

quiet_due : (side : Side) (kind : ℕ → Bool) (k : ℕ) (t : ℕ) (due : List ℕ) (before W : List Item) → Due (t ∷ due) → InBlocks side kind k (t ∷ due) W → carried_payloads (until_end by_type before W) ≡ []
quiet_due side kind k t due before [] d h = refl
quiet_due side kind k t [] before (i ∷ W) d h =
    ap (λ b. carried_payloads (if b then i ∷ [] else i ∷ until_end by_type (before ++ i ∷ []) W)) (ap (λ u. u == 21) h.0 ∙ d.1) ∙ one_not i [] (ap is_payload_type h.0 ∙ d.2)
quiet_due side kind k t (u ∷ due) before (i ∷ W) d h =
    ap (λ b. carried_payloads (if b then i ∷ [] else i ∷ until_end by_type (before ++ i ∷ []) W)) (ap (λ v. v == 21) h.0 ∙ d.1) ∙ one_not i (until_end by_type (before ++ i ∷ []) W) (ap is_payload_type h.0 ∙ d.2) ∙ quiet_due side kind k u due (before ++ i ∷ []) W d.3 h.1

quiet_wire : (side : Side) (kind : ℕ → Bool) (W : List Item) → InBlocks side kind 1 (order side (kind 0)) W → carried_payloads (until_end by_type [] W) ≡ []
quiet_wire side kind [] h = refl
quiet_wire side kind (i ∷ W) h = by side (kind 0) h where
  first : type_of i ≡ 20 → carried_payloads (until_end by_type (i ∷ []) W) ≡ [] → carried_payloads (until_end by_type [] (i ∷ W)) ≡ []
  first e h = ap (λ b. carried_payloads (if b then i ∷ [] else i ∷ until_end by_type (i ∷ []) W)) (ap (λ v. v == 21) e) ∙ one_not i (until_end by_type (i ∷ []) W) (ap is_payload_type e) ∙ h

  by : (s : Side) (b : Bool) → InBlocks side kind 1 (order s b) (i ∷ W) → carried_payloads (until_end by_type [] (i ∷ W)) ≡ []
  by Client false h = first h.0 (quiet_due side kind 1 30 (21 ∷ []) (i ∷ []) W (due_order Client false) h.1)
  by Client true h = first h.0 (quiet_due side kind 1 34 (32 ∷ 21 ∷ []) (i ∷ []) W (due_order Client true) h.1)
  by Server false h = first h.0 (quiet_due side kind 1 31 (21 ∷ []) (i ∷ []) W (due_order Server false) h.1)
  by Server true h = first h.0 (quiet_due side kind 1 31 (33 ∷ 21 ∷ []) (i ∷ []) W (due_order Server true) h.1)

-- ---- what was handled is read

reads_front : (E : List Item → Item → Bool) (before : List Item) (at : Option Place) (R S : List Item) (bytes rest : List ℕ) → ReadsBy E before at (R ++ S) bytes rest → (mid : List ℕ) × ReadsBy E before at R bytes mid
reads_front E before at [] S bytes rest r = (bytes, refl)
reads_front E before None (i ∷ R) S bytes rest r = absurd r
reads_front E before (Some at) (i ∷ R) S bytes rest r =
    let n = reads_front E (before ++ i ∷ []) (place_by (E before i) at i) R S r.0 rest r.3 in
    (n.0, (r.0, r.1, r.2, n.1))

pub handled_read : (side : Side) (config : Config) (xs : List FinishedExchange) (bytes : List ℕ) (items : List Item) (ending : Ending) → Handled side config xs bytes items ending → (mid : List ℕ) × ReadsBy (ends_epoch side config) [] (Some (first_place (map (outgoing (other_side side)) xs))) items bytes mid
handled_read side config xs bytes items AllRead h = (h.rest, subst (λ l. ReadsBy (ends_epoch side config) [] (Some (first_place (map (outgoing (other_side side)) xs))) l bytes h.rest) (sym h.ending_is.0) h.entries.reads)
handled_read side config xs bytes items (AtFault f) h = (h.rest, subst (λ l. ReadsBy (ends_epoch side config) [] (Some (first_place (map (outgoing (other_side side)) xs))) l bytes h.rest) (sym h.ending_is.0) h.entries.reads)
handled_read side config xs bytes items (AtPacket i) h =
    reads_front (ends_epoch side config) [] (Some (first_place (map (outgoing (other_side side)) xs))) items (i ∷ h.ending_is.0) bytes h.rest
    (subst (λ l. ReadsBy (ends_epoch side config) [] (Some (first_place (map (outgoing (other_side side)) xs))) l bytes h.rest) (sym h.ending_is.1 ∙ append_assoc items (i ∷ []) h.ending_is.0) h.entries.reads)

-- The prefix theorem, of what the two sides' parts of a report say: beside them only that the writer's numbers don't
-- wrap, and that nothing was delivered in epoch 0.
pub prefix_of_sides : (reader : Side) (rc wc : Config) (rx wx : List FinishedExchange) (bytes : List ℕ) (R : List Item) (ending : Ending) (rread wread : ℕ → List (List ℕ)) (kind : ℕ → Bool) (host : ℕ → Option (List ℕ)) (submitted : List (List ℕ)) (wire : List ℕ) (W : List Item)
    → IsWithin (offers_of (other_side reader) wc)
    → Handled reader rc rx bytes R ending
    → AreNamed reader rc rread rx → AreNamed (other_side reader) wc wread wx
    → IsWire (other_side reader) wc kind host submitted wx wire W
    → AreFew (keyed 0 0 W)
    → carried_payloads (until_end (ends_epoch reader rc) [] R) ≡ []
    → CarriesPrefix reader rc rx wx R W (carried_payloads R) submitted
prefix_of_sides reader rc wc rx wx bytes R ending rread wread kind host submitted wire W good handled rnamed wnamed w few quiet rs ws all =
    let r = handled_read reader rc rx bytes R ending handled in
    let sr = strict_of reader (other_side reader) rc rread rx rnamed rs in
    let sw = strict_of (other_side reader) (other_side reader) wc wread wx wnamed ws in
    let calm = calm_later reader rc [] W (calm_wire reader (other_side reader) rc wc kind host submitted wx wire W good w) in
    let plain : (behind_end (ends_epoch reader rc) [] R ≡ []) ⊎ PlainFor (ends_epoch reader rc) (until_end (ends_epoch reader rc) [] R) (behind_end by_type [] W) = elim (ends_calm reader rc [] R) [
      | inl e ↦ inl e
      | inr c ↦ inr (plain_for reader rc (until_end (ends_epoch reader rc) [] R) (behind_end by_type [] W) calm c)
    ] in
    carries_prefix (ends_epoch reader rc) (map (outgoing (other_side reader)) rx) (map (outgoing (other_side reader)) wx) R W bytes r.0 w.reads.0 [] submitted sr sw r.1 (reads_by_type [] _ W w.reads.0 [] w.reads.2) few plain quiet (quiet_wire (other_side reader) kind W w.blocks) w.payloads all

-- ---- of a run

pub quiet_run : (says : Says) (side : Side) (config : Config) (own_id : List ℕ) (log : List Event) (st : SideState) → ReadsAlike side config → Steps says side config own_id first_state log st → carried_payloads (until_end (ends_epoch side config) [] (handled log)) ≡ []
quiet_run says side config own_id log st al h =
    ap carried_payloads (first_is_end says side config own_id log [] first_state st al refl h) ∙ first_silent says side config own_id log first_state st (λ e. absurd (let q : Silent ≡ Outside = e in cc)) refl h

-- a side whose first exchange is strict read a legal order
pub ordered_run : (says : Says) (side : Side) (config : Config) (own_id : List ℕ) (log : List Event) (st : SideState) → ReadsAlike side config → ReadsUnmarked side config → Steps says side config own_id first_state log st → IsOrdered side config (recorded log) (handled log)
ordered_run says side config own_id log st al un h = by (recorded log) refl where
  same : until_end (ends_epoch side config) [] (handled log) ≡ first_epoch log
  same = first_is_end says side config own_id log [] first_state st al refl h

  by : (xs : List FinishedExchange) → recorded log ≡ xs → IsOrdered side config xs (handled log)
  by [] e = tt
  by (x ∷ xs) e = λ s l. subst (λ items. LegalOrder side (is_gex x.names.kex) x.names.guessed_ignored (map type_of items)) (sym same)
      (legal_order says side config own_id log st x un h (ap (λ ys. slice_get ys 0) e) s (subst (λ items. length items < 2 ^ 32) same l))
