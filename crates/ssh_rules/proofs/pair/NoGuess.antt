-- Of an honest peer no packet is dropped as a guess.
use Rattle.std.proofs.Common.{◌≡◌, ℕ, zero, suc, ◌+◌, ◌<◌, List, [], ◌∷◌, ◌++◌, length, take, refl, sym, ◌∙◌, ap, subst, arith, Option, Some, None, Bool, true, false, if◌then◌else◌, ◌⊎◌, inl, inr, Ok}
use Rattle.ssh_packet.specs.Sealing.{Item}
use Rattle.ssh_packet.specs.Stream.{is_newkeys}
use Rattle.ssh_wire.specs.declared.side.Side.{Side}
use Rattle.ssh_wire.specs.declared.side.Side.TheVariants.{Client, Server}
use Rattle.ssh_negotiate.specs.declared.negotiation.Names.{Names}
use Rattle.ssh_kex.specs.declared.config.Config.{Config}
use Rattle.ssh_kex.specs.Messages.{is_gex}
use Rattle.ssh_negotiate.specs.Advertised.{kexinit}
use Rattle.ssh_wire.specs.Sides.{other_side}
use Rattle.ssh_negotiate.specs.Reading.{names_read}
use Rattle.ssh_kex.specs.Setting.{Says, Setting, offers_of}
use Rattle.ssh_kex.specs.Stages.{Stage, Created, AwaitsGroup, AwaitsReply, AwaitsRequest, AwaitsValue, AwaitsNewkeys, drops_guess}
use Rattle.ssh_negotiate.specs.Causes.{was_strict}
use Rattle.ssh_rules.proofs.side.StageFits.{Holds, Trace, FitsStage, FitsWhere}
use Rattle.ssh_rules.specs.MessageTypes.{type_of, is_kex_type}
use Rattle.ssh_rules.specs.Wire.{exchange_block, epochs_ended, HasFront}
use Rattle.ssh_rules.specs.Machine.{Where, Silent, Outside, Inside, SideState, setting, GuessDropped, Step, names_now}
use Rattle.ssh_rules.proofs.pair.Awaited.{OwnForm}
use Rattle.ssh_rules.specs.ExchangeMessages.{messages_of}
use Rattle.ssh_rules.proofs.side.StageSteps.{at_stage, setting_side}
use Rattle.ssh_rules.proofs.side.LedgerSteps.{closed_trace}
use Rattle.ssh_rules.proofs.side.Accounts.{Kept}
use Rattle.ssh_rules.proofs.side.Blocks.{block_above}
use Rattle.ssh_rules.specs.Valid.{HasSizes}
use Rattle.ssh_rules.proofs.side.Forms.{own_form, made_form, first_is, front_of}
use Rattle.ssh_rules.specs.Snapshots.{KindIs}
use Rattle.ssh_rules.proofs.pair.Settled.{below_get}

-- ---- the first message of a block

kind_known : Option Names → Bool
kind_known None = false
kind_known (Some n) = is_gex n.kex

kind_is : (n : Option Names) → KindIs (kind_known n) n
unfolding kind_known
kind_is None = tt
kind_is (Some n) = refl

first_of : (side : Side) (config : Config) (kind : Bool) (p : List ℕ) (ms : List (List ℕ)) → OwnForm side config kind (p ∷ ms) → (cookie : List ℕ) × (length cookie ≡ 16) × (p ≡ kexinit (offers_of side config) cookie)
first_of side config kind p ms f =
    let r = front_of (messages_of side f.exchange f.host f.signature) [] ms p f.front in
    (f.cookie, f.cookie_length, first_is side f.exchange f.host f.signature p r.0 r.1 ∙ f.kexinit_is)

pub config_is : (side : Side) (config : Config) (own_id : List ℕ) (st : SideState) → (setting side config own_id st).config ≡ config
config_is Client config own_id st = refl
config_is Server config own_id st = refl

compare : (n m : ℕ) → (n < m) ⊎ ((n ≡ m) ⊎ (m < n))
compare zero zero = inr (inl refl)
compare zero (suc m) = inl (omega arith)
compare (suc n) zero = inr (inr (omega arith))
compare (suc n) (suc m) = elim (compare n m) [ inl l ↦ inl (omega (arith, l)) | inr h ↦ inr (elim h [ inl e ↦ inl (ap suc e) | inr l ↦ inr (omega (arith, l)) ]) ]

-- each block of messages that a side writes begins with a KEXINIT of its configuration
pub first_kexinit : (says : Says) (side : Side) (config : Config) (own_id : List ℕ) (w r : List Item) (st : SideState) (t : Trace) (k : ℕ) (p : List ℕ) (ms : List (List ℕ)) → HasSizes config → Kept says side config own_id w r st t → exchange_block k w ≡ p ∷ ms → (cookie : List ℕ) × (length cookie ≡ 16) × (p ≡ kexinit (offers_of side config) cookie)
first_kexinit says side config own_id w r st t k p ms sizes kept e = elim (compare k (length st.records)) [
  | inl l ↦ (let x = below_get st.records k l in
      let m = kept.accounts.each k x.0 x.1 in
      let f = made_form side says (Rattle.ssh_rules.proofs.side.Ledgers.setting_at side config own_id st.heard (take k st.records)) (exchange_block k w) (exchange_block k r) m.exchange x.0 m.host (is_gex x.0.names.kex) refl m.made in
      let g : OwnForm side config (is_gex x.0.names.kex) (p ∷ ms) = subst (λ b. OwnForm side config (is_gex x.0.names.kex) b) e (subst (λ c. OwnForm side c (is_gex x.0.names.kex) (exchange_block k w)) (config_is side config own_id _) f) in
      first_of side config (is_gex x.0.names.kex) p ms g)
  | inr q ↦ elim q [
    | inl l ↦ now st.stands refl (sym kept.accounts.own.block_is ∙ (ap (λ j. exchange_block j w) (sym l) ∙ e))
    | inr l ↦ absurd (later (compare k (epochs_ended w)) l)
  ]
] where
  later : (k < epochs_ended w) ⊎ ((k ≡ epochs_ended w) ⊎ (epochs_ended w < k)) → length st.records < k → ⊥
  later (inl a) l = at_most (Rattle.ssh_rules.proofs.side.Ledgers.has_newkeys t.own) kept.accounts.own.ends_is a l where
    at_most : (b : Bool) → epochs_ended w ≡ length st.records + (if b then 1 else 0) → k < epochs_ended w → length st.records < k → ⊥
    at_most true f a l = omega (arith, f, a, l)
    at_most false f a l = omega (arith, f, a, l)
  later (inr (inl a)) l = at_end (Rattle.ssh_rules.proofs.side.Ledgers.has_newkeys t.own) kept.accounts.own.ends_is where
    at_end : (b : Bool) → epochs_ended w ≡ length st.records + (if b then 1 else 0) → ⊥
    at_end false f = omega (arith, f, a, l)
    at_end true f = (let j : k ≡ suc (length st.records) = omega (arith, f, a) in let z : exchange_block k w ≡ [] = ap (λ m. exchange_block m w) j ∙ kept.accounts.own.next_is in let c : p ∷ ms ≡ [] = sym e ∙ z in cc)
  later (inr (inr a)) l = let z : exchange_block k w ≡ [] = block_above k w a in let c : p ∷ ms ≡ [] = sym e ∙ z in cc

  nothing : t.own ≡ [] → t.own ≡ p ∷ ms → ⊥
  nothing a b = let c : p ∷ ms ≡ [] = sym b ∙ a in cc

  now : (s : Where) → st.stands ≡ s → t.own ≡ p ∷ ms → (cookie : List ℕ) × (length cookie ≡ 16) × (p ≡ kexinit (offers_of side config) cookie)
  now Silent q o = absurd (nothing (closed_trace says side config own_id st t kept.tidy.fits (inr q)).0 o)
  now Outside q o = absurd (nothing (closed_trace says side config own_id st t kept.tidy.fits (inl q)).0 o)
  now (Inside stage) q o =
      let s = setting side config own_id st in
      let g : FitsStage says s stage (t.own ++ st.owed) t.theirs = subst (λ x. FitsWhere says s x (t.own ++ st.owed) t.theirs) q kept.tidy.fits in
      let f = own_form says s stage (t.own ++ st.owed) t.theirs (kind_known (names_now (Inside stage))) (subst HasSizes (sym (config_is side config own_id st)) sizes) (kind_is (names_now (Inside stage))) g in
      let f2 : OwnForm side config (kind_known (names_now (Inside stage))) (t.own ++ st.owed) = subst (λ c. OwnForm side c (kind_known (names_now (Inside stage))) (t.own ++ st.owed)) (config_is side config own_id st) (subst (λ d. OwnForm d s.config (kind_known (names_now (Inside stage))) (t.own ++ st.owed)) (setting_side side config own_id st) f) in
      first_of side config (kind_known (names_now (Inside stage))) p (ms ++ st.owed) (subst (λ o. OwnForm side config (kind_known (names_now (Inside stage))) (o ++ st.owed)) o f2)

-- a block's first message stays it when packets come behind
pub block_head : (k : ℕ) (w v : List Item) (p : List ℕ) (ms : List (List ℕ)) → exchange_block k w ≡ p ∷ ms → (ns : List (List ℕ)) × (exchange_block k (w ++ v) ≡ p ∷ ns)
block_head k [] v p ms e = cc
block_head zero (j ∷ w) v p ms e = cases (is_newkeys j) (is_kex_type (type_of j)) e (λ q. block_head zero w v p ms q) where
  cases : (b c : Bool) → (if b then j.payload ∷ [] else if c then j.payload ∷ exchange_block zero w else exchange_block zero w) ≡ p ∷ ms → (exchange_block zero w ≡ p ∷ ms → (ns : List (List ℕ)) × (exchange_block zero (w ++ v) ≡ p ∷ ns)) → (ns : List (List ℕ)) × ((if b then j.payload ∷ [] else if c then j.payload ∷ exchange_block zero (w ++ v) else exchange_block zero (w ++ v)) ≡ p ∷ ns)
  cases true c e f = ([], (let q : j.payload ≡ p = cc in ap (λ x. x ∷ []) q))
  cases false true e f = (exchange_block zero (w ++ v), (let q : j.payload ≡ p = cc in ap (λ x. x ∷ exchange_block zero (w ++ v)) q))
  cases false false e f = f e
block_head (suc k) (j ∷ w) v p ms e = cases (is_newkeys j) e (λ q. block_head k w v p ms q) (λ q. block_head (suc k) w v p ms q) where
  cases : (b : Bool) → (if b then exchange_block k w else exchange_block (suc k) w) ≡ p ∷ ms → (exchange_block k w ≡ p ∷ ms → (ns : List (List ℕ)) × (exchange_block k (w ++ v) ≡ p ∷ ns)) → (exchange_block (suc k) w ≡ p ∷ ms → (ns : List (List ℕ)) × (exchange_block (suc k) (w ++ v) ≡ p ∷ ns)) → (ns : List (List ℕ)) × ((if b then exchange_block k (w ++ v) else exchange_block (suc k) (w ++ v)) ≡ p ∷ ns)
  cases true e f g = f e
  cases false e f g = g e

-- ---- no guess

-- what is read of the other's own KEXINIT has no guess to ignore
abbrev pub FollowsNone : Side → Config → Config → Type 0
FollowsNone side config peer = (b : Bool) (cookie : List ℕ) (n : Names) → length cookie ≡ 16 → names_read side (offers_of side config) b (kexinit (offers_of (other_side side) peer) cookie) ≡ Ok n → n.ignore_guessed ≡ false

differ : true ≡ false → ⊥
differ e = cc

held_follows : (read held : Names) → Holds read held → held.ignore_guessed ≡ true → read.ignore_guessed ≡ true
held_follows read held (inl e) d = ap (λ (n : Names). n.ignore_guessed) (sym e) ∙ d
held_follows read held (inr e) d = e.0

-- a stage that drops a guess has read a KEXINIT which says that one follows
drops_read : (says : Says) (s : Setting) (stage : Stage) (own theirs : List (List ℕ)) → drops_guess stage ≡ true → FitsStage says s stage own theirs → (b : Bool) × (k : List ℕ) × (ms : List (List ℕ)) × (n : Names) × (theirs ≡ k ∷ ms) × (names_read s.side (offers_of s.side s.config) b k ≡ Ok n) × (n.ignore_guessed ≡ true)
drops_read says s (AwaitsReply o None l p) own theirs d f = (was_strict s.cause, o.peer_kexinit, [], f.opened.read_names, f.theirs_is, f.opened.read, held_follows f.opened.read_names o.names f.opened.held d)
drops_read says s (AwaitsReply o (Some g) l p) own theirs d f = (was_strict s.cause, o.peer_kexinit, _, f.opened.read_names, f.theirs_is, f.opened.read, held_follows f.opened.read_names o.names f.opened.held d)
drops_read says s (AwaitsValue o None) own theirs d f = (was_strict s.cause, o.peer_kexinit, [], f.opened.read_names, f.theirs_is, f.opened.read, held_follows f.opened.read_names o.names f.opened.held d)
drops_read says s (AwaitsValue o (Some g)) own theirs d f = (was_strict s.cause, o.peer_kexinit, _, f.opened.read_names, f.theirs_is, f.opened.read, held_follows f.opened.read_names o.names f.opened.held d)
drops_read says s (Created k) own theirs d f = absurd (let e : true ≡ false = sym d in cc)
drops_read says s (AwaitsGroup o) own theirs d f = (was_strict s.cause, o.peer_kexinit, [], f.opened.read_names, f.theirs_is, f.opened.read, held_follows f.opened.read_names o.names f.opened.held d)
drops_read says s (AwaitsRequest o) own theirs d f = (was_strict s.cause, o.peer_kexinit, [], f.opened.read_names, f.theirs_is, f.opened.read, held_follows f.opened.read_names o.names f.opened.held d)
drops_read says s (AwaitsNewkeys exchange x host) own theirs d f = absurd (let e : true ≡ false = sym d in cc)

-- So a side that has handled a front of what an honest peer wrote drops no guess next.
pub no_guess : (says : Says) (side : Side) (config : Config) (own_id : List ℕ) (peer_says : Says) (peer : Config) (peer_id : List ℕ) (w r pw pr : List Item) (st pst : SideState) (t pt : Trace) (i : Item) (st' : SideState)
    → FollowsNone side config peer → HasSizes peer
    → Kept says side config own_id w r st t → Kept peer_says (other_side side) peer peer_id pw pr pst pt → HasFront pw r
    → Step says side config own_id st (GuessDropped i) st' → ⊥
no_guess says side config own_id peer_says peer peer_id w r pw pr st pst t pt i st' follows sizes k pk front h =
    let s = setting side config own_id st in
    let at = at_stage says side config own_id st t h.stage h.inside h.owes k.tidy.fits in
    let d = drops_read says s h.stage t.own t.theirs h.drops at in
    let mine : exchange_block (length st.records) r ≡ d.1 ∷ d.2 = k.accounts.theirs.block_is ∙ d.4 in
    let head = block_head (length st.records) r front.0 d.1 d.2 mine in
    let theirs : exchange_block (length st.records) pw ≡ d.1 ∷ head.0 = ap (λ v. exchange_block (length st.records) v) (sym front.1) ∙ head.1 in
    let c = first_kexinit peer_says (other_side side) peer peer_id pw pr pst pt (length st.records) d.1 head.0 sizes pk theirs in
    let read : names_read side (offers_of side config) d.0 (kexinit (offers_of (other_side side) peer) c.0) ≡ Ok d.3 =
    ap (λ v. names_read side (offers_of side config) d.0 v) (sym c.2) ∙ (ap (λ v. names_read v (offers_of v config) d.0 d.1) (sym (setting_side side config own_id st)) ∙ (ap (λ v. names_read s.side (offers_of s.side v) d.0 d.1) (sym (config_is side config own_id st)) ∙ d.5)) in
    differ (sym d.6 ∙ follows d.0 c.0 d.3 c.1 read)
