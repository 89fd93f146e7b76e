-- Where both sides have read all that the other wrote and owe nothing, no exchange is open.
use Rattle.std.proofs.Common.{◌≡◌, ℕ, zero, suc, ◌<◌, ◌≤◌, List, [], ◌∷◌, ◌++◌, length, slice_get, refl, sym, ◌∙◌, ap, subst, arith, Some, None, Bool, true, false, if◌then◌else◌, ◌⊎◌, inl, inr, length-append}
use Rattle.ssh_packet.specs.Sealing.{Item}
use Rattle.ssh_wire.specs.declared.side.Side.{Side}
use Rattle.ssh_wire.specs.declared.side.Side.TheVariants.{Client, Server}
use Rattle.ssh_kex.specs.declared.config.Config.{Config}
use Rattle.ssh_kex.specs.declared.exchange.FinishedExchange.{FinishedExchange}
use Rattle.ssh_kex.specs.Messages.{is_gex, newkeys}
use Rattle.ssh_kex.specs.Setting.{Says, Setting}
use Rattle.ssh_kex.specs.Stages.{Stage, Created, AwaitsGroup, AwaitsReply, AwaitsRequest, AwaitsValue, AwaitsNewkeys}
use Rattle.ssh_rules.specs.Wire.{exchange_block}
use Rattle.ssh_rules.specs.Marks.{due}
use Rattle.ssh_rules.specs.Machine.{Where, Silent, Outside, Inside, SideState, setting, names_now}
use Rattle.ssh_rules.proofs.side.StageFits.{Trace, FitsStage}
use Rattle.ssh_rules.proofs.side.StageSteps.{at_stage}
use Rattle.ssh_rules.proofs.side.LedgerSteps.{closed_trace}
use Rattle.ssh_rules.proofs.side.Accounts.{Kept}
use Rattle.ssh_rules.specs.Snapshots.{KindIs}
use Rattle.ssh_rules.proofs.side.Prompt.{prompt_inside, full_made, both_whole}

-- how many messages a side has in an exchange
abbrev pub whole : Bool → ℕ
whole kind = if kind then 4 else 3

-- A side that owes nothing: its exchanges so far are whole, and of the open one as many messages are written as are
-- due.
pub record Quiet (side : Side) (kind : Bool) (n : ℕ) (w r : List Item) : Type 0 where
  pub own : (k : ℕ) → k < n → length (exchange_block k w) ≡ whole kind
  pub theirs : (k : ℕ) → k < n → length (exchange_block k r) ≡ whole kind
  pub now : ((length (exchange_block n w) ≡ 0) × (length (exchange_block n r) ≡ 0)) ⊎ ((length (exchange_block n w) ≡ due side kind (length (exchange_block n r))) × (length (exchange_block n r) < whole kind))

-- fewer than all of the other's messages are read while an exchange is open
theirs_short : (says : Says) (s : Setting) (stage : Stage) (own theirs : List (List ℕ)) (kind : Bool) → KindIs kind (names_now (Inside stage)) → FitsStage says s stage own theirs → length theirs < whole kind
theirs_short says s (Created k) own theirs kind q f = below kind (ap length f.theirs_is) where
  below : (kind : Bool) → length theirs ≡ 0 → length theirs < whole kind
  below true e = omega (arith, e)
  below false e = omega (arith, e)
theirs_short says s (AwaitsGroup o) own theirs kind q f = below kind (ap length f.theirs_is) where
  below : (kind : Bool) → length theirs ≡ 1 → length theirs < whole kind
  below true e = omega (arith, e)
  below false e = omega (arith, e)
theirs_short says s (AwaitsReply o None local public) own theirs kind q f = below kind (ap length f.theirs_is) where
  below : (kind : Bool) → length theirs ≡ 1 → length theirs < whole kind
  below true e = omega (arith, e)
  below false e = omega (arith, e)
theirs_short says s (AwaitsReply o (Some g) local public) own theirs kind q f = below kind (ap length f.theirs_is) where
  below : (kind : Bool) → length theirs ≡ 2 → length theirs < whole kind
  below true e = omega (arith, e)
  below false e = omega (arith, e)
theirs_short says s (AwaitsRequest o) own theirs kind q f = below kind (ap length f.theirs_is) where
  below : (kind : Bool) → length theirs ≡ 1 → length theirs < whole kind
  below true e = omega (arith, e)
  below false e = omega (arith, e)
theirs_short says s (AwaitsValue o None) own theirs kind q f = below kind (ap length f.theirs_is) where
  below : (kind : Bool) → length theirs ≡ 1 → length theirs < whole kind
  below true e = omega (arith, e)
  below false e = omega (arith, e)
theirs_short says s (AwaitsValue o (Some g)) own theirs kind q f = below kind (ap length f.theirs_is) where
  below : (kind : Bool) → length theirs ≡ 2 → length theirs < whole kind
  below true e = omega (arith, e)
  below false e = omega (arith, e)
theirs_short says s (AwaitsNewkeys exchange x host) own theirs kind q f =
    let full = full_made s.side says s own (theirs ++ newkeys ∷ []) exchange x host kind q f in
    omega (arith, full.theirs_is, length-append theirs (newkeys ∷ []))

pub below_get : {A : Type 0} (xs : List A) (k : ℕ) → k < length xs → (x : A) × (slice_get xs k ≡ Some x)
below_get [] k h = absurd (omega (arith, h))
below_get (x ∷ xs) zero h = (x, refl)
below_get (x ∷ xs) (suc k) h = below_get xs k (omega (arith, h))

-- where each exchange is of one kind
pub quiet_of : (says : Says) (side : Side) (config : Config) (own_id : List ℕ) (w r : List Item) (st : SideState) (t : Trace) (kind : Bool) → Kept says side config own_id w r st t → st.owed ≡ [] → KindIs kind (names_now st.stands) → ((k : ℕ) (x : FinishedExchange) → slice_get st.records k ≡ Some x → is_gex x.names.kex ≡ kind) → Quiet side kind (length st.records) w r
quiet_of says side config own_id w r st t kind k o q each = record {
  own = λ j l. (let x = below_get st.records j l in let m = k.accounts.each j x.0 x.1 in (full_made side says _ _ _ m.exchange x.0 m.host kind (each j x.0 x.1) m.made).own_is);
  theirs = λ j l. (let x = below_get st.records j l in let m = k.accounts.each j x.0 x.1 in (full_made side says _ _ _ m.exchange x.0 m.host kind (each j x.0 x.1) m.made).theirs_is);
  now = by_place st.stands refl;
} where
  by_place : (s : Where) → st.stands ≡ s → ((length (exchange_block (length st.records) w) ≡ 0) × (length (exchange_block (length st.records) r) ≡ 0)) ⊎ ((length (exchange_block (length st.records) w) ≡ due side kind (length (exchange_block (length st.records) r))) × (length (exchange_block (length st.records) r) < whole kind))
  by_place Silent e = inl (let c = closed_trace says side config own_id st t k.tidy.fits (inr e) in (ap length (k.accounts.own.block_is ∙ c.0), ap length (k.accounts.theirs.block_is ∙ c.1)))
  by_place Outside e = inl (let c = closed_trace says side config own_id st t k.tidy.fits (inl e) in (ap length (k.accounts.own.block_is ∙ c.0), ap length (k.accounts.theirs.block_is ∙ c.1)))
  by_place (Inside stage) e =
      let p = prompt_inside says side config own_id st t stage kind k.tidy.fits e o q in
      let s = theirs_short says (setting side config own_id st) stage t.own t.theirs kind (subst (λ x. KindIs kind (names_now x)) e q) (at_stage says side config own_id st t stage e o k.tidy.fits) in
      inr (ap length k.accounts.own.block_is ∙ (p ∙ ap (λ b. due side kind (length b)) (sym k.accounts.theirs.block_is)), subst (λ b. length b < whole kind) (sym k.accounts.theirs.block_is) s)

pub due_some : (side : Side) (kind : Bool) (n : ℕ) → 1 ≤ due side kind n
due_some Client kind zero = omega arith
due_some Client kind (suc zero) = omega arith
due_some Client kind (suc (suc zero)) = omega arith
due_some Client true (suc (suc (suc n))) = omega arith
due_some Client false (suc (suc (suc n))) = omega arith
due_some Server kind zero = omega arith
due_some Server kind (suc zero) = omega arith
due_some Server true (suc (suc zero)) = omega arith
due_some Server true (suc (suc (suc n))) = omega arith
due_some Server false (suc (suc n)) = omega arith

whole_some : (kind : Bool) → 1 ≤ whole kind
whole_some true = omega arith
whole_some false = omega arith

compare : (n m : ℕ) → (n < m) ⊎ ((n ≡ m) ⊎ (m < n))
compare zero zero = inr (inl refl)
compare zero (suc m) = inl (omega arith)
compare (suc n) zero = inr (inr (omega arith))
compare (suc n) (suc m) = elim (compare n m) [ inl l ↦ inl (omega (arith, l)) | inr h ↦ inr (elim h [ inl e ↦ inl (ap suc e) | inr l ↦ inr (omega (arith, l)) ]) ]

-- a side that has finished less than the other has, with all read, can't be
behind : (side other_side : Side) (kind : Bool) (n m : ℕ) (w r ow or : List Item) → Quiet side kind n w r → Quiet other_side kind m ow or → r ≡ ow → or ≡ w → n < m → ⊥
behind side other_side kind n m w r ow or a b e f l =
    let full = b.own n l in
    let read : length (exchange_block n r) ≡ whole kind = ap (λ x. length (exchange_block n x)) e ∙ full in
    let some = whole_some kind in
    elim a.now [
      | inl z ↦ omega (arith, z.1, read, some)
      | inr z ↦ omega (arith, z.1, read)
    ]

-- Both have read all, and owe nothing: they finished as many exchanges, and none is open.
pub settled : (kind : Bool) (n m : ℕ) (cw cr sw sr : List Item) → Quiet Client kind n cw cr → Quiet Server kind m sw sr → cr ≡ sw → sr ≡ cw → (n ≡ m) × ((length (exchange_block n cw) ≡ 0) × (length (exchange_block m sw) ≡ 0))
settled kind n m cw cr sw sr a b e f = elim (compare n m) [
  | inl l ↦ absurd (behind Client Server kind n m cw cr sw sr a b e f l)
  | inr h ↦ elim h [
    | inr l ↦ absurd (behind Server Client kind m n sw sr cw cr b a f e l)
    | inl g ↦ same n m a.now b.now g
  ]
] where
  same : (n m : ℕ) → ((length (exchange_block n cw) ≡ 0) × (length (exchange_block n cr) ≡ 0)) ⊎ ((length (exchange_block n cw) ≡ due Client kind (length (exchange_block n cr))) × (length (exchange_block n cr) < whole kind)) → ((length (exchange_block m sw) ≡ 0) × (length (exchange_block m sr) ≡ 0)) ⊎ ((length (exchange_block m sw) ≡ due Server kind (length (exchange_block m sr))) × (length (exchange_block m sr) < whole kind)) → n ≡ m → (n ≡ m) × ((length (exchange_block n cw) ≡ 0) × (length (exchange_block m sw) ≡ 0))
  same n m (inl x) (inl y) g = (g, (x.0, y.0))
  same n m (inl x) (inr y) g = absurd (let r : length (exchange_block m sw) ≡ 0 = ap (λ j. length (exchange_block j sw)) (sym g) ∙ (ap (λ q. length (exchange_block n q)) (sym e) ∙ x.1) in let d = due_some Server kind (length (exchange_block m sr)) in omega (arith, r, y.0, d))
  same n m (inr x) (inl y) g = absurd (let r : length (exchange_block n cw) ≡ 0 = ap (λ j. length (exchange_block j cw)) g ∙ (ap (λ q. length (exchange_block m q)) (sym f) ∙ y.1) in let d = due_some Client kind (length (exchange_block n cr)) in omega (arith, r, x.0, d))
  same n m (inr x) (inr y) g =
      let c : length (exchange_block n cw) ≡ due Client kind (length (exchange_block n sw)) = x.0 ∙ ap (λ q. due Client kind (length (exchange_block n q))) e in
      let s : length (exchange_block n sw) ≡ due Server kind (length (exchange_block n cw)) = ap (λ j. length (exchange_block j sw)) g ∙ (y.0 ∙ (ap (λ q. due Server kind (length (exchange_block m q))) f ∙ ap (λ j. due Server kind (length (exchange_block j cw))) (sym g))) in
      let full = both_whole kind (length (exchange_block n cw)) (length (exchange_block n sw)) c s in
      let read : length (exchange_block m sr) ≡ whole kind = ap (λ q. length (exchange_block m q)) f ∙ (ap (λ j. length (exchange_block j cw)) (sym g) ∙ full) in
      absurd (omega (arith, read, y.1))
