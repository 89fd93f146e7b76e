-- What a side has read in epoch 0 where its first exchange was strict.
use Rattle.std.proofs.Common.{◌≡◌, ℕ, suc, ◌+◌, ◌-◌, List, [], ◌∷◌, ◌++◌, length, map, refl, sym, ◌∙◌, ap, subst, arith, Some, None, Bool, true, false, if◌then◌else◌, ◌==◌, ◌||◌, ◌&&◌, nat_le, not, ◌⊎◌, inl, inr, Ok}
use Rattle.std.proofs.lemmas.Bool.Decides.{nat_tests}
use Rattle.ssh_packet.specs.Sealing.{Item}
use Rattle.ssh_packet.specs.Stream.{message_type}
use Rattle.ssh_wire.specs.declared.side.Side.{Side}
use Rattle.ssh_wire.specs.declared.side.Side.TheVariants.{Client, Server}
use Rattle.ssh_kex.specs.Stages as stages
use Rattle.ssh_negotiate.specs.declared.negotiation.Names.{Names}
use Rattle.ssh_kex.specs.declared.config.Config.{Config}
use Rattle.ssh_kex.specs.declared.exchange.FinishedExchange.{FinishedExchange}
use Rattle.ssh_kex.specs.Messages.{is_gex, reply_message, value_message}
use Rattle.ssh_negotiate.specs.Reading.{names_read}
use Rattle.ssh_wire.specs.Sides.{other_side}
use Rattle.ssh_kex.specs.Setting.{Says, Setting, Opened, behind_guess, offers_of}
use Rattle.ssh_kex.specs.Stages.{Stage, Created, AwaitsGroup, AwaitsReply, AwaitsRequest, AwaitsValue, AwaitsNewkeys, drops_guess, guess_dropped}
use Rattle.ssh_negotiate.specs.Causes.{was_strict}
use Rattle.ssh_rules.specs.MessageTypes.{type_of, order, is_violation}
use Rattle.ssh_rules.specs.Guess.{LegalOrder, MayGuess, behind_first}
use Rattle.ssh_rules.specs.Machine.{Where, Inside, names_now, guesses, OrderBy}
use Rattle.ssh_rules.proofs.side.Ending.{LastIn}

-- ---- places in the orders

is_one : (a t : ℕ) → not ((t == a) || ((t == a) || false)) ≡ false → t ≡ a
is_one a t h = grind (arith, nat_tests)

is_two : (a b t : ℕ) → not ((t == a) || ((t == b) || false)) ≡ false → (t ≡ a) ⊎ (t ≡ b)
is_two a b t h = grind (arith, nat_tests)

is_last : (a t : ℕ) → not ((t == a) || false) ≡ false → t ≡ a
is_last a t h = grind (arith, nat_tests)

server_one : (t : ℕ) → is_violation Server t 1 ≡ false → t ≡ 31
server_one t h = is_one 31 t h

server_two : (t : ℕ) → is_violation Server t 2 ≡ false → (t ≡ 21) ⊎ (t ≡ 33)
server_two t h = is_two 21 33 t h

server_three : (t : ℕ) → is_violation Server t 3 ≡ false → t ≡ 21
server_three t h = is_last 21 t h

client_one : (t : ℕ) → is_violation Client t 1 ≡ false → (t ≡ 30) ⊎ (t ≡ 34)
client_one t h = is_two 30 34 t h

client_two : (t : ℕ) → is_violation Client t 2 ≡ false → (t ≡ 21) ⊎ (t ≡ 32)
client_two t h = is_two 21 32 t h

client_three : (t : ℕ) → is_violation Client t 3 ≡ false → t ≡ 21
client_three t h = is_last 21 t h

-- ---- what a side has read

-- a KEXINIT and what came behind it, beside a guess that was dropped
abbrev IsHeard : Side → Names → List ℕ → List ℕ → Type 0
IsHeard side n rest ts = ((ts ≡ 20 ∷ rest) × (n.guessed_ignored ≡ false))
    ⊎ ((g : ℕ) × MayGuess side g × (ts ≡ 20 ∷ g ∷ rest) × (n.guessed_ignored ≡ true) × (n.ignore_guessed ≡ false))

-- what stands between the other's KEXINIT and its NEWKEYS
abbrev between : Side → Bool → List ℕ
between Client true = 31 ∷ 33 ∷ []
between Client false = 31 ∷ []
between Server true = 34 ∷ 32 ∷ []
between Server false = 30 ∷ []

-- in a group exchange a guess is dropped before the group or the sizes are taken
abbrev pub HeardC : Stage → List ℕ → Type 0
HeardC (Created own) ts = Unit {0}
HeardC (AwaitsGroup o) ts = IsHeard Client o.names [] ts × (is_gex o.names.kex ≡ true)
HeardC (AwaitsReply o None l p) ts = IsHeard Client o.names [] ts × (is_gex o.names.kex ≡ false)
HeardC (AwaitsReply o (Some g) l p) ts = IsHeard Client o.names (31 ∷ []) ts × (is_gex o.names.kex ≡ true) × (o.names.ignore_guessed ≡ false)
HeardC (AwaitsRequest o) ts = ⊥
HeardC (AwaitsValue o g) ts = ⊥
HeardC (AwaitsNewkeys exchange x host) ts = IsHeard Client x.names (between Client (is_gex x.names.kex)) ts

abbrev pub HeardS : Stage → List ℕ → Type 0
HeardS (Created own) ts = Unit {0}
HeardS (AwaitsGroup o) ts = ⊥
HeardS (AwaitsReply o g l p) ts = ⊥
HeardS (AwaitsRequest o) ts = IsHeard Server o.names [] ts × (is_gex o.names.kex ≡ true)
HeardS (AwaitsValue o None) ts = IsHeard Server o.names [] ts × (is_gex o.names.kex ≡ false)
HeardS (AwaitsValue o (Some g)) ts = IsHeard Server o.names (34 ∷ []) ts × (is_gex o.names.kex ≡ true) × (o.names.ignore_guessed ≡ false)
HeardS (AwaitsNewkeys exchange x host) ts = IsHeard Server x.names (between Server (is_gex x.names.kex)) ts

-- a reading marks no guess
abbrev pub ReadsUnmarked : Side → Config → Type 0
ReadsUnmarked side config = (b : Bool) (payload : List ℕ) (n : Names) → names_read side (offers_of side config) b payload ≡ Ok n → n.guessed_ignored ≡ false

snoc_types : (h : List Item) (i : Item) (ts : List ℕ) (t : ℕ) → map type_of h ≡ ts → type_of i ≡ t → map type_of (h ++ i ∷ []) ≡ ts ++ t ∷ []
snoc_types [] i ts t e f = ap (λ x. x ∷ []) f ∙ ap (λ x. x ++ t ∷ []) e
snoc_types (j ∷ h) i [] t e f = cc
snoc_types (j ∷ h) i (a ∷ ts) t e f =
    let head : type_of j ≡ a = cc in
    let tail : map type_of h ≡ ts = cc in
    ap (λ x. type_of j ∷ x) (snoc_types h i ts t tail f) ∙ ap (λ x. x ∷ (ts ++ t ∷ [])) head

differ : true ≡ false → ⊥
differ e = cc

differ' : false ≡ true → ⊥
differ' e = cc

length_types : (h : List Item) → length (map type_of h) ≡ length h
length_types [] = refl
length_types (i ∷ h) = ap suc (length_types h)

-- the order test, where a number of packets were read
pub tested : (side : Side) (number : ℕ) (i : Item) (records : List FinishedExchange) (w : Where) (n : Names) (place : ℕ) → records ≡ [] → names_now w ≡ Some n → n.strict_kex ≡ true → number - guesses n ≡ place → OrderBy side number i records (names_now w) → is_violation (other_side side) (type_of i) place ≡ false
tested side number i records w n place r k s p o = subst (λ q. is_violation (other_side side) (type_of i) q ≡ false) p (subst (λ m. OrderBy side number i [] m) k (subst (λ x. OrderBy side number i x (names_now w)) r o) s)

-- a packet at the place of as many as were read, less one for a guess that was dropped, passes the order test
abbrev pub Passes : Side → Item → List Item → Stage → Type 0
Passes side i h stage = (n : Names) (place : ℕ) → names_now (Inside stage) ≡ Some n → length h ≡ place + guesses n → is_violation (other_side side) (type_of i) place ≡ false

at_place : (side : Side) (i : Item) (h : List Item) (stage : Stage) (n : Names) (rest : List ℕ) → names_now (Inside stage) ≡ Some n → Passes side i h stage → IsHeard side n rest (map type_of h) → is_violation (other_side side) (type_of i) (suc (length rest)) ≡ false
at_place side i h stage n rest k pass (inl e) = pass n (suc (length rest)) k (counted n.guessed_ignored e.1) where
  counted : (b : Bool) → b ≡ false → length h ≡ suc (length rest) + (if b then 1 else 0)
  counted b f = let l : length h ≡ suc (length rest) = sym (length_types h) ∙ ap length e.0 in let z : suc (length rest) + 0 ≡ suc (length rest) = omega arith in l ∙ (sym z ∙ ap (λ c. suc (length rest) + (if c then 1 else 0)) (sym f))
at_place side i h stage n rest k pass (inr e) = pass n (suc (length rest)) k (counted n.guessed_ignored e.3) where
  counted : (b : Bool) → b ≡ true → length h ≡ suc (length rest) + (if b then 1 else 0)
  counted b f = let l : length h ≡ suc (suc (length rest)) = sym (length_types h) ∙ ap length e.2 in let z : suc (length rest) + 1 ≡ suc (suc (length rest)) = omega arith in l ∙ (sym z ∙ ap (λ c. suc (length rest) + (if c then 1 else 0)) (sym f))

-- one message more
more_heard : (side : Side) (n : Names) (rest : List ℕ) (h : List Item) (i : Item) (t : ℕ) → type_of i ≡ t → IsHeard side n rest (map type_of h) → IsHeard side n (rest ++ t ∷ []) (map type_of (h ++ i ∷ []))
more_heard side n rest h i t ty (inl e) = inl (snoc_types h i (20 ∷ rest) t e.0 ty, e.1)
more_heard side n rest h i t ty (inr e) = inr (e.0, e.1, snoc_types h i (20 ∷ e.0 ∷ rest) t e.2 ty, e.3, e.4)

-- the guess
guess_heard : (side : Side) (n : Names) (h : List Item) (i : Item) → n.ignore_guessed ≡ true → (IsHeard side n [] (map type_of h) → MayGuess side (type_of i)) → IsHeard side n [] (map type_of h) → IsHeard side (behind_guess n) [] (map type_of (h ++ i ∷ []))
guess_heard side n h i d may (inl e) = inr (type_of i, may (inl e), snoc_types h i (20 ∷ []) (type_of i) e.0 refl, refl, refl)
guess_heard side n h i d may (inr e) = absurd (differ (sym d ∙ e.4))

-- none comes twice, nor behind another message
none_left : (n : Names) → n.ignore_guessed ≡ true → n.ignore_guessed ≡ false → ⊥
none_left n d e = differ (sym d ∙ e)

small : (t a : ℕ) → (nat_le 2 t && nat_le t 4) ≡ true → t ≡ a → nat_le a 4 ≡ false → ⊥
small t a d e f = grind (arith, nat_tests)

small_of : (t a b : ℕ) → (nat_le 2 t && nat_le t 4) ≡ true → nat_le a 4 ≡ false → nat_le b 4 ≡ false → (t ≡ a) ⊎ (t ≡ b) → ⊥
small_of t a b d e f (inl g) = small t a d g e
small_of t a b d e f (inr g) = small t b d g f

-- and the last message makes a legal order
legal_end : (side : Side) (kind : Bool) (n : Names) (h : List Item) (i : Item) → type_of i ≡ 21 → IsHeard side n (between side kind) (map type_of h) → LegalOrder side kind n.guessed_ignored (map type_of (h ++ i ∷ []))
legal_end side kind n h i ty (inl e) = subst (λ b. LegalOrder side kind b (map type_of (h ++ i ∷ []))) (sym e.1) (snoc_types h i (20 ∷ between side kind) 21 e.0 ty ∙ plain side kind) where
  plain : (side : Side) (kind : Bool) → 20 ∷ (between side kind ++ 21 ∷ []) ≡ order (other_side side) kind
  plain Client true = refl
  plain Client false = refl
  plain Server true = refl
  plain Server false = refl
legal_end side kind n h i ty (inr e) = subst (λ b. LegalOrder side kind b (map type_of (h ++ i ∷ []))) (sym e.3) (e.0, e.1, snoc_types h i (20 ∷ e.0 ∷ between side kind) 21 e.2 ty ∙ guessed side kind) where
  guessed : (side : Side) (kind : Bool) → 20 ∷ e.0 ∷ (between side kind ++ 21 ∷ []) ≡ behind_first e.0 (order (other_side side) kind)
  guessed Client true = refl
  guessed Client false = refl
  guessed Server true = refl
  guessed Server false = refl

-- ---- a client

reply_type : (kind : Bool) (a b c p : List ℕ) (k : Bool) → kind ≡ k → p ≡ reply_message kind a b c → message_type p ≡ (if k then 33 else 31)
reply_type true a b c p k e f = ap message_type f ∙ ap (λ q. if q then 33 else 31) e
reply_type false a b c p k e f = ap message_type f ∙ ap (λ q. if q then 33 else 31) e

at_next : (next n0 : Stage) (ts : List ℕ) → next ≡ n0 → HeardC n0 ts → HeardC next ts
at_next next n0 ts e h = subst (λ n. HeardC n ts) (sym e) h

-- a KEXINIT that gives strict names is the first packet
opens_client : (says : Says) (s : Setting) (o : Opened) (kind : Bool) (written : List (List ℕ)) (next : Stage) (ts : List ℕ) → is_gex o.names.kex ≡ kind → o.names.guessed_ignored ≡ false → ts ≡ 20 ∷ [] → stages.OpensBy Client kind says s o written next → HeardC next ts
opens_client says s o true written next ts k g e h = at_next next (AwaitsGroup o) ts h.next_is (inl (e, g), k)
opens_client says s o false written next ts k g e h = at_next next (AwaitsReply o None h.local h.public) ts h.leads.next_is (inl (e, g), k)

-- one row
pub takes_client : (says : Says) (s : Setting) (stage : Stage) (seqn : ℕ) (i : Item) (written : List (List ℕ)) (next : Stage) (h : List Item) → s.side ≡ Client
    → ReadsUnmarked Client s.config
    → ((own : List ℕ) → stage ≡ Created own → map type_of h ≡ [])
    → drops_guess stage ≡ false
    → HeardC stage (map type_of h)
    → stages.Takes says s stage seqn i.payload written next → HeardC next (map type_of (h ++ i ∷ []))
takes_client says s (Created k) seqn i written next h side read nil d g t =
    let o : Opened = record { names = t.names; own_kexinit = k; peer_kexinit = i.payload } in
    opens_client says s o (is_gex t.names.kex) written next _ refl (read (was_strict s.cause) i.payload t.names (ap (λ w. names_read w (offers_of w s.config) (was_strict s.cause) i.payload) (sym side) ∙ t.reads.read)) (snoc_types h i [] 20 (nil k refl) t.reads.is_kexinit) (subst (λ w. stages.OpensBy w (is_gex t.names.kex) says s o written next) side t.opens)
takes_client says s (AwaitsGroup o) seqn i written next h side read nil d g t =
    at_next next (AwaitsReply o (Some _) t.local t.public) _ t.leads.next_is (more_heard Client o.names [] h i 31 (ap message_type t.payload_is) g.0, g.1, d)
takes_client says s (AwaitsReply o None l p) seqn i written next h side read nil d g t =
    let ty : type_of i ≡ 31 = reply_type (is_gex o.names.kex) t.host t.value t.signature i.payload false g.1 t.payload_is in
    at_next next (AwaitsNewkeys _ _ _) _ t.leads.next_is (subst (λ b. IsHeard Client o.names (between Client b) (map type_of (h ++ i ∷ []))) (sym g.1) (more_heard Client o.names [] h i 31 ty g.0))
takes_client says s (AwaitsReply o (Some gr) l p) seqn i written next h side read nil d g t =
    let ty : type_of i ≡ 33 = reply_type (is_gex o.names.kex) t.host t.value t.signature i.payload true g.1 t.payload_is in
    at_next next (AwaitsNewkeys _ _ _) _ t.leads.next_is (subst (λ b. IsHeard Client o.names (between Client b) (map type_of (h ++ i ∷ []))) (sym g.1) (more_heard Client o.names (31 ∷ []) h i 33 ty g.0))
takes_client says s (AwaitsRequest o) seqn i written next h side read nil d g t = absurd g
takes_client says s (AwaitsValue o gr) seqn i written next h side read nil d g t = absurd g
takes_client says s (AwaitsNewkeys exchange x host) seqn i written next h side read nil d g t = absurd t

pub ignores_client : (stage : Stage) (i : Item) (h : List Item) → Passes Client i h stage → drops_guess stage ≡ true → HeardC stage (map type_of h) → HeardC (guess_dropped stage) (map type_of (h ++ i ∷ []))
ignores_client (AwaitsGroup o) i h pass d g = (guess_heard Client o.names h i d (λ e. server_one (type_of i) (at_place Client i h (AwaitsGroup o) o.names [] refl pass e)) g.0, g.1)
ignores_client (AwaitsReply o None l p) i h pass d g = (guess_heard Client o.names h i d (λ e. server_one (type_of i) (at_place Client i h (AwaitsReply o None l p) o.names [] refl pass e)) g.0, g.1)
ignores_client (AwaitsReply o (Some gr) l p) i h pass d g = absurd (none_left o.names d g.2)
ignores_client (AwaitsValue o gr) i h pass d g = absurd g
ignores_client (Created own) i h pass d g = absurd (differ' d)
ignores_client (AwaitsRequest o) i h pass d g = absurd g
ignores_client (AwaitsNewkeys exchange x host) i h pass d g = absurd (differ' d)

-- nothing is dropped
pub drops_client : (stage : Stage) (i : Item) (h : List Item) (n : Names) → names_now (Inside stage) ≡ Some n → Passes Client i h stage → (nat_le 2 (type_of i) && nat_le (type_of i) 4) ≡ true → HeardC stage (map type_of h) → ⊥
drops_client (Created own) i h n k pass d g = cc
drops_client (AwaitsGroup o) i h n k pass d g = small (type_of i) 31 d (server_one (type_of i) (at_place Client i h (AwaitsGroup o) o.names [] refl pass g.0)) refl
drops_client (AwaitsReply o None l p) i h n k pass d g = small (type_of i) 31 d (server_one (type_of i) (at_place Client i h (AwaitsReply o None l p) o.names [] refl pass g.0)) refl
drops_client (AwaitsReply o (Some gr) l p) i h n k pass d g = small_of (type_of i) 21 33 d refl refl (server_two (type_of i) (at_place Client i h (AwaitsReply o (Some gr) l p) o.names (31 ∷ []) refl pass g.0))
drops_client (AwaitsRequest o) i h n k pass d g = g
drops_client (AwaitsValue o gr) i h n k pass d g = g
drops_client (AwaitsNewkeys exchange x host) i h n k pass d g = by_kind (is_gex x.names.kex) g where
  by_kind : (b : Bool) → IsHeard Client x.names (between Client b) (map type_of h) → ⊥
  by_kind true e = small (type_of i) 21 d (server_three (type_of i) (at_place Client i h (AwaitsNewkeys exchange x host) x.names (31 ∷ 33 ∷ []) refl pass e)) refl
  by_kind false e = small_of (type_of i) 21 33 d refl refl (server_two (type_of i) (at_place Client i h (AwaitsNewkeys exchange x host) x.names (31 ∷ []) refl pass e))

pub finishes_client : (says : Says) (stage : Stage) (i : Item) (x : FinishedExchange) (h : List Item) → HeardC stage (map type_of h) → LastIn says stage i.payload x → LegalOrder Client (is_gex x.names.kex) x.names.guessed_ignored (map type_of (h ++ i ∷ []))
finishes_client says (AwaitsNewkeys exchange made host) i x h g t =
    subst (λ (y : FinishedExchange). LegalOrder Client (is_gex y.names.kex) y.names.guessed_ignored (map type_of (h ++ i ∷ []))) (sym t.1) (legal_end Client (is_gex made.names.kex) made.names h i (ap message_type t.0) g)
finishes_client says (Created own) i x h g t = absurd t
finishes_client says (AwaitsGroup o) i x h g t = absurd t
finishes_client says (AwaitsReply o gr l p) i x h g t = absurd t
finishes_client says (AwaitsRequest o) i x h g t = absurd t
finishes_client says (AwaitsValue o gr) i x h g t = absurd t

-- ---- a server

at_next_s : (next n0 : Stage) (ts : List ℕ) → next ≡ n0 → HeardS n0 ts → HeardS next ts
at_next_s next n0 ts e h = subst (λ n. HeardS n ts) (sym e) h

value_type : (kind : Bool) (a p : List ℕ) (k : Bool) → kind ≡ k → p ≡ value_message kind a → message_type p ≡ (if k then 32 else 30)
value_type true a p k e f = ap message_type f ∙ ap (λ q. if q then 32 else 30) e
value_type false a p k e f = ap message_type f ∙ ap (λ q. if q then 32 else 30) e

opens_server : (says : Says) (s : Setting) (o : Opened) (kind : Bool) (written : List (List ℕ)) (next : Stage) (ts : List ℕ) → is_gex o.names.kex ≡ kind → o.names.guessed_ignored ≡ false → ts ≡ 20 ∷ [] → stages.OpensBy Server kind says s o written next → HeardS next ts
opens_server says s o true written next ts k g e h = at_next_s next (AwaitsRequest o) ts h.next_is (inl (e, g), k)
opens_server says s o false written next ts k g e h = at_next_s next (AwaitsValue o None) ts h.next_is (inl (e, g), k)

pub takes_server : (says : Says) (s : Setting) (stage : Stage) (seqn : ℕ) (i : Item) (written : List (List ℕ)) (next : Stage) (h : List Item) → s.side ≡ Server
    → ReadsUnmarked Server s.config
    → ((own : List ℕ) → stage ≡ Created own → map type_of h ≡ [])
    → drops_guess stage ≡ false
    → HeardS stage (map type_of h)
    → stages.Takes says s stage seqn i.payload written next → HeardS next (map type_of (h ++ i ∷ []))
takes_server says s (Created k) seqn i written next h side read nil d g t =
    let o : Opened = record { names = t.names; own_kexinit = k; peer_kexinit = i.payload } in
    opens_server says s o (is_gex t.names.kex) written next _ refl (read (was_strict s.cause) i.payload t.names (ap (λ w. names_read w (offers_of w s.config) (was_strict s.cause) i.payload) (sym side) ∙ t.reads.read)) (snoc_types h i [] 20 (nil k refl) t.reads.is_kexinit) (subst (λ w. stages.OpensBy w (is_gex t.names.kex) says s o written next) side t.opens)
takes_server says s (AwaitsGroup o) seqn i written next h side read nil d g t = absurd g
takes_server says s (AwaitsReply o gr l p) seqn i written next h side read nil d g t = absurd g
takes_server says s (AwaitsRequest o) seqn i written next h side read nil d g t =
    at_next_s next (AwaitsValue o (Some (record { params = t.sizes; group = t.group }))) _ t.leads.next_is (more_heard Server o.names [] h i 34 (ap message_type t.payload_is) g.0, g.1, d)
takes_server says s (AwaitsValue o None) seqn i written next h side read nil d g t =
    let ty : type_of i ≡ 30 = value_type (is_gex o.names.kex) t.value i.payload false g.1 t.payload_is in
    at_next_s next (AwaitsNewkeys _ _ None) _ t.leads.next_is (subst (λ b. IsHeard Server o.names (between Server b) (map type_of (h ++ i ∷ []))) (sym g.1) (more_heard Server o.names [] h i 30 ty g.0))
takes_server says s (AwaitsValue o (Some gr)) seqn i written next h side read nil d g t =
    let ty : type_of i ≡ 32 = value_type (is_gex o.names.kex) t.value i.payload true g.1 t.payload_is in
    at_next_s next (AwaitsNewkeys _ _ None) _ t.leads.next_is (subst (λ b. IsHeard Server o.names (between Server b) (map type_of (h ++ i ∷ []))) (sym g.1) (more_heard Server o.names (34 ∷ []) h i 32 ty g.0))
takes_server says s (AwaitsNewkeys exchange x host) seqn i written next h side read nil d g t = absurd t

pub ignores_server : (stage : Stage) (i : Item) (h : List Item) → Passes Server i h stage → drops_guess stage ≡ true → HeardS stage (map type_of h) → HeardS (guess_dropped stage) (map type_of (h ++ i ∷ []))
ignores_server (AwaitsRequest o) i h pass d g = (guess_heard Server o.names h i d (λ e. client_one (type_of i) (at_place Server i h (AwaitsRequest o) o.names [] refl pass e)) g.0, g.1)
ignores_server (AwaitsValue o None) i h pass d g = (guess_heard Server o.names h i d (λ e. client_one (type_of i) (at_place Server i h (AwaitsValue o None) o.names [] refl pass e)) g.0, g.1)
ignores_server (AwaitsValue o (Some gr)) i h pass d g = absurd (none_left o.names d g.2)
ignores_server (AwaitsReply o gr l p) i h pass d g = absurd g
ignores_server (Created own) i h pass d g = absurd (differ' d)
ignores_server (AwaitsGroup o) i h pass d g = absurd g
ignores_server (AwaitsNewkeys exchange x host) i h pass d g = absurd (differ' d)

pub drops_server : (stage : Stage) (i : Item) (h : List Item) (n : Names) → names_now (Inside stage) ≡ Some n → Passes Server i h stage → (nat_le 2 (type_of i) && nat_le (type_of i) 4) ≡ true → HeardS stage (map type_of h) → ⊥
drops_server (Created own) i h n k pass d g = cc
drops_server (AwaitsGroup o) i h n k pass d g = g
drops_server (AwaitsReply o gr l p) i h n k pass d g = g
drops_server (AwaitsRequest o) i h n k pass d g = small_of (type_of i) 30 34 d refl refl (client_one (type_of i) (at_place Server i h (AwaitsRequest o) o.names [] refl pass g.0))
drops_server (AwaitsValue o None) i h n k pass d g = small_of (type_of i) 30 34 d refl refl (client_one (type_of i) (at_place Server i h (AwaitsValue o None) o.names [] refl pass g.0))
drops_server (AwaitsValue o (Some gr)) i h n k pass d g = small_of (type_of i) 21 32 d refl refl (client_two (type_of i) (at_place Server i h (AwaitsValue o (Some gr)) o.names (34 ∷ []) refl pass g.0))
drops_server (AwaitsNewkeys exchange x host) i h n k pass d g = by_kind (is_gex x.names.kex) g where
  by_kind : (b : Bool) → IsHeard Server x.names (between Server b) (map type_of h) → ⊥
  by_kind true e = small (type_of i) 21 d (client_three (type_of i) (at_place Server i h (AwaitsNewkeys exchange x host) x.names (34 ∷ 32 ∷ []) refl pass e)) refl
  by_kind false e = small_of (type_of i) 21 32 d refl refl (client_two (type_of i) (at_place Server i h (AwaitsNewkeys exchange x host) x.names (30 ∷ []) refl pass e))

pub finishes_server : (says : Says) (stage : Stage) (i : Item) (x : FinishedExchange) (h : List Item) → HeardS stage (map type_of h) → LastIn says stage i.payload x → LegalOrder Server (is_gex x.names.kex) x.names.guessed_ignored (map type_of (h ++ i ∷ []))
finishes_server says (AwaitsNewkeys exchange made host) i x h g t =
    subst (λ (y : FinishedExchange). LegalOrder Server (is_gex y.names.kex) y.names.guessed_ignored (map type_of (h ++ i ∷ []))) (sym t.1) (legal_end Server (is_gex made.names.kex) made.names h i (ap message_type t.0) g)
finishes_server says (Created own) i x h g t = absurd t
finishes_server says (AwaitsGroup o) i x h g t = absurd t
finishes_server says (AwaitsReply o gr l p) i x h g t = absurd t
finishes_server says (AwaitsRequest o) i x h g t = absurd t
finishes_server says (AwaitsValue o gr) i x h g t = absurd t
