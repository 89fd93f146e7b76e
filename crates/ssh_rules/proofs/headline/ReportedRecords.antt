-- In an honest link each record is what a report says of it, whichever side made it first.
use Rattle.std.proofs.Common.{◌≡◌, ℕ, zero, suc, ◌+◌, ◌<◌, ◌≤◌, List, [], ◌∷◌, ◌++◌, length, take, refl, sym, ◌∙◌, ap, subst, arith, Option, Bool, true, false, if◌then◌else◌, ◌⊎◌, inl, inr, length-append, append-nil}
use Rattle.ssh_packet.specs.Sealing.{Item}
use Rattle.ssh_wire.specs.declared.side.Side.{Side}
use Rattle.ssh_wire.specs.declared.side.Side.TheVariants.{Client, Server}
use Rattle.ssh_kex.specs.Messages.{is_gex, newkeys}
use Rattle.ssh_kex.specs.Setting.{Says, Setting}
use Rattle.ssh_kex.specs.Stages.{Created, AwaitsGroup, AwaitsReply, AwaitsRequest, AwaitsValue, AwaitsNewkeys}
use Rattle.ssh_kex.specs.declared.config.Config.{Config}
use Rattle.ssh_kex.specs.declared.exchange.Exchange.{Exchange}
use Rattle.ssh_kex.specs.declared.exchange.FinishedExchange.{FinishedExchange}
use Rattle.ssh_kex.specs.declared.exchange.ServerHost.{ServerHost}
use Rattle.ssh_rules.proofs.side.StageFits.{Trace}
use Rattle.ssh_rules.proofs.side.Ledgers.{setting_at}
use Rattle.ssh_rules.specs.Machine.{Where, Silent, Outside, Inside, SideState, setting, first_state}
use Rattle.ssh_rules.specs.Made.{MadeBy}
use Rattle.ssh_rules.specs.Wire.{HasFront, exchange_block, epochs_ended}
use Rattle.ssh_rules.proofs.side.Accounts.{Kept}
use Rattle.ssh_rules.proofs.side.StageSteps.{same_setting, setting_side, at_stage}
use Rattle.ssh_rules.proofs.side.Forms.{length_messages}
use Rattle.ssh_rules.proofs.side.Places.{ended}
use Rattle.ssh_rules.proofs.side.Prompt.{full_made}
use Rattle.ssh_rules.proofs.pair.Settled.{below_get}
use Rattle.ssh_rules.proofs.side.OneMessage.{spoken}

-- What a side whose own block has ended knows of the exchange: from all of the other's block, or from all but its
-- NEWKEYS.
pub record Knows (says : Says) (side : Side) (config : Config) (own_id : List ℕ) (heard : Option (List ℕ)) (before : List FinishedExchange) (own read : List (List ℕ)) : Type 0 where
  pub theirs : List (List ℕ)
  pub exchange : Exchange
  pub made : FinishedExchange
  pub host : Option ServerHost
  pub knows : MadeBy side says (setting_at side config own_id heard before) own theirs exchange made host
  pub theirs_is : (theirs ≡ read) ⊎ (theirs ≡ read ++ newkeys ∷ [])

take_all : {A : Type 0} (xs : List A) → take (length xs) xs ≡ xs
take_all [] = refl
take_all (x ∷ xs) = ap (λ t. x ∷ t) (take_all xs)

compare : (n m : ℕ) → (n < m) ⊎ ((n ≡ m) ⊎ (m < n))
compare zero zero = inr (inl refl)
compare zero (suc m) = inl (omega arith)
compare (suc n) zero = inr (inr (omega arith))
compare (suc n) (suc m) = elim (compare n m) [ inl l ↦ inl (omega (arith, l)) | inr h ↦ inr (elim h [ inl e ↦ inl (ap suc e) | inr l ↦ inr (omega (arith, l)) ]) ]

has_ended : (b : Bool) (n m : ℕ) → m ≡ n + (if b then 1 else 0) → n < m → b ≡ true
has_ended true n m e l = refl
has_ended false n m e l = absurd (omega (arith, e, l))

most_one : (b : Bool) (n m : ℕ) → m ≡ n + (if b then 1 else 0) → m ≤ n + 1
most_one true n m e = omega (arith, e)
most_one false n m e = omega (arith, e)

-- where the own NEWKEYS is written and the other's awaited
ended_stage : (w : Where) (owed : List (List ℕ)) → ended w owed ≡ true → (exchange : Exchange) × (made : FinishedExchange) × (host : Option ServerHost) × (w ≡ Inside (AwaitsNewkeys exchange made host)) × (owed ≡ [])
ended_stage Silent owed e = cc
ended_stage Outside owed e = cc
ended_stage (Inside (Created own)) owed e = cc
ended_stage (Inside (AwaitsGroup o)) owed e = cc
ended_stage (Inside (AwaitsReply o gex local public)) owed e = cc
ended_stage (Inside (AwaitsRequest o)) owed e = cc
ended_stage (Inside (AwaitsValue o gex)) owed e = cc
ended_stage (Inside (AwaitsNewkeys exchange made host)) [] e = (exchange, made, host, refl, refl)
ended_stage (Inside (AwaitsNewkeys exchange made host)) (p ∷ owed) e = cc

pub ended_knows : (says : Says) (side : Side) (config : Config) (own_id : List ℕ) (w r : List Item) (st : SideState) (t : Trace) (k : ℕ) → Kept says side config own_id w r st t → k < epochs_ended w → Knows says side config own_id st.heard (take k st.records) (exchange_block k w) (exchange_block k r)
ended_knows says side config own_id w r st t k kept l = elim (compare k (length st.records)) [
  | inl b ↦ (let x = below_get st.records k b in let m = kept.accounts.each k x.0 x.1 in
      record { theirs = exchange_block k r; exchange = m.exchange; made = x.0; host = m.host; knows = m.made; theirs_is = inl refl })
  | inr o ↦ elim o [
    | inl e ↦ subst (λ j. Knows says side config own_id st.heard (take j st.records) (exchange_block j w) (exchange_block j r)) (sym e) (now (subst (λ j. j < epochs_ended w) e l))
    | inr b ↦ absurd (let m = most_one _ (length st.records) (epochs_ended w) kept.accounts.own.ends_is in omega (arith, b, l, m))
  ]
] where
  now : length st.records < epochs_ended w → Knows says side config own_id st.heard (take (length st.records) st.records) (exchange_block (length st.records) w) (exchange_block (length st.records) r)
  now l =
      let at = ended_stage st.stands st.owed (sym kept.tidy.own_ended ∙ has_ended _ (length st.records) (epochs_ended w) kept.accounts.own.ends_is l) in
      let f = at_stage says side config own_id st t (AwaitsNewkeys at.0 at.1 at.2) at.3 at.4 kept.tidy.fits in
      let m : MadeBy side says (setting_at side config own_id st.heard st.records) t.own (t.theirs ++ newkeys ∷ []) at.0 at.1 at.2 =
      subst (λ s. MadeBy side says s t.own (t.theirs ++ newkeys ∷ []) at.0 at.1 at.2) (same_setting side config own_id st (record first_state { heard = st.heard; records = st.records }) refl refl)
      (subst (λ w. MadeBy w says (setting side config own_id st) t.own (t.theirs ++ newkeys ∷ []) at.0 at.1 at.2) (setting_side side config own_id st) f) in
      record {
        theirs = t.theirs ++ newkeys ∷ [];
        exchange = at.0;
        made = at.1;
        host = at.2;
        knows = subst (λ q. MadeBy side says (setting_at side config own_id st.heard q) (exchange_block (length st.records) w) (t.theirs ++ newkeys ∷ []) at.0 at.1 at.2) (sym (take_all st.records))
            (subst (λ o. MadeBy side says (setting_at side config own_id st.heard st.records) o (t.theirs ++ newkeys ∷ []) at.0 at.1 at.2) (sym kept.accounts.own.block_is) m);
        theirs_is = inr (ap (λ b. b ++ newkeys ∷ []) (sym kept.accounts.theirs.block_is));
      }

-- ---- both blocks are one

cut : (a b c : List (List ℕ)) → length a ≡ length b → a ++ c ≡ b ++ newkeys ∷ [] → c ≡ newkeys ∷ []
cut [] [] c l e = e
cut [] (x ∷ b) c l e = absurd (omega (arith, l))
cut (x ∷ a) [] c l e = absurd (omega (arith, l))
cut (x ∷ a) (y ∷ b) c l e = cut a b c (omega (arith, l)) (let k : x ∷ (a ++ c) ≡ y ∷ (b ++ newkeys ∷ []) = e in cc)

-- the last message of either side is NEWKEYS
last_made : (side : Side) (says : Says) (s : Setting) (own theirs : List (List ℕ)) (e : Exchange) (x : FinishedExchange) (h : Option ServerHost) → MadeBy side says s own theirs e x h → (front : List (List ℕ)) × (front ++ newkeys ∷ [] ≡ own)
last_made Client says s own theirs e x h m = let f = length_messages Client (spoken e m.host m.signature) e.gex _ refl in (f.0, f.1 ∙ sym m.own_is)
last_made Server says s own theirs e x h m = let f = length_messages Server (spoken e m.shown.blob m.signature) e.gex _ refl in (f.0, f.1 ∙ sym m.own_is)

-- What the other read of an own block is a front of it; where its own block is the one that was read here, it has all
-- of it.
pub same_theirs : (side other : Side) (says other_says : Says) (s p : Setting) (own read theirs : List (List ℕ)) (d e : Exchange) (x y : FinishedExchange) (g h : Option ServerHost) (front : List (List ℕ))
    → MadeBy side says s own read d x g → MadeBy other other_says p read theirs e y h → HasFront own front → (theirs ≡ front) ⊎ (theirs ≡ front ++ newkeys ∷ []) → theirs ≡ own
same_theirs side other says other_says s p own read theirs d e x y g h front m n f q =
    let a = full_made side says s own read d x g (is_gex x.names.kex) refl m in
    let b = full_made other other_says p read theirs e y h (is_gex y.names.kex) refl n in
    let long : length theirs ≡ length own = b.theirs_is ∙ (sym b.own_is ∙ (a.theirs_is ∙ sym a.own_is)) in
    elim q [
      | inl z ↦ z ∙ whole front own f (ap length (sym z) ∙ long)
      | inr z ↦ z ∙ (ap (λ t. front ++ t) (sym (rest z long)) ∙ f.1)
    ]
  where
    nil : (xs : List (List ℕ)) → length xs ≡ 0 → xs ≡ []
    nil [] l = refl
    nil (v ∷ xs) l = absurd (omega (arith, l))

    whole : (front own : List (List ℕ)) → HasFront own front → length front ≡ length own → front ≡ own
    whole front own f l =
        let k = length-append front f.0 in
        let c : length (front ++ f.0) ≡ length own = ap length f.1 in
        let z : f.0 ≡ [] = nil f.0 (omega (arith, k, c, l)) in
        sym (append-nil front) ∙ (ap (λ t. front ++ t) (sym z) ∙ f.1)

    rest : theirs ≡ front ++ newkeys ∷ [] → length theirs ≡ length own → f.0 ≡ newkeys ∷ []
    rest z l =
        let v = last_made side says s own read d x g m in
        let k = length-append front (newkeys ∷ []) in
        let u = length-append v.0 (newkeys ∷ []) in
        let w : length theirs ≡ length (front ++ newkeys ∷ []) = ap length z in
        let c : length (v.0 ++ newkeys ∷ []) ≡ length own = ap length v.1 in
        cut front v.0 f.0 (omega (arith, k, u, w, c, l)) (f.1 ∙ sym v.1)
