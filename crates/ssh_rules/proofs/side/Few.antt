-- A side writes few packets between two ends of epochs.
use Rattle.std.proofs.Common.{◌≡◌, ℕ, zero, suc, ◌+◌, ◌-◌, ◌<◌, ◌≤◌, List, [], ◌∷◌, ◌++◌, length, refl, sym, ◌∙◌, ap, subst, arith, Bool, true, false, if◌then◌else◌, ◌⊎◌, inl, inr, length-append, append-nil}
use Rattle.ssh_packet.specs.Sealing.{Item}
use Rattle.std.specs.Prelude.{min, ◌^◌}
use Rattle.ssh_packet.specs.Stream.{is_newkeys}
use Rattle.ssh_wire.specs.declared.side.Side.{Side}
use Rattle.ssh_kex.specs.declared.config.Config.{Config}
use Rattle.ssh_kex.specs.declared.exchange.FinishedExchange.{FinishedExchange}
use Rattle.ssh_kex.specs.Messages.{is_gex, newkeys}
use Rattle.ssh_kex.specs.Setting.{Says}
use Rattle.ssh_kex.specs.Stages.{Stage, Created, AwaitsGroup, AwaitsReply, AwaitsRequest, AwaitsValue, AwaitsNewkeys}
use Rattle.ssh_rules.specs.Wire.{epochs_ended}
use Rattle.ssh_rules.specs.Fresh.{packets_at}
use Rattle.ssh_rules.specs.Machine.{Silent, Outside, Inside, SideState, setting, Event, IdHeard, PayloadSubmitted, ExchangeBegun, AnswerSent, PayloadSent, MessageTaken, GuessDropped, PayloadDelivered, PacketDropped, ExchangeFinished, Step, Steps, first_state}
use Rattle.ssh_rules.proofs.side.StageFits.{Trace, no_trace, trace_after, FitsStage}
use Rattle.ssh_rules.proofs.side.Ledgers.{has_newkeys}
use Rattle.ssh_rules.specs.Log.{wrote}
use Rattle.ssh_rules.proofs.side.Blocks.{ends_true, ends_false}
use Rattle.ssh_rules.proofs.side.StageSteps.{at_stage}
use Rattle.ssh_rules.proofs.side.Places.{open_with}
use Rattle.ssh_rules.proofs.side.LedgerSteps.{closed_trace, may_closed}
use Rattle.ssh_rules.proofs.side.Accounts.{Kept, kept_first, more_wrote, more_kept, trace_of}
use Rattle.ssh_rules.proofs.side.ReasonSteps.{ends_open, one_kept}
use Rattle.ssh_rules.proofs.side.Prompt.{full_made}
use Rattle.ssh_rules.proofs.side.Ending.{LastIn}

choice : (b : Bool) → (b ≡ true) ⊎ (b ≡ false)
choice true = inl refl
choice false = inr refl

one_way : (b : Bool) (x y z : ℕ) → (b ≡ true → x ≡ z) → (b ≡ false → y ≡ z) → (if b then x else y) ≡ z
one_way true x y z f g = f refl
one_way false x y z f g = g refl

both : (b : Bool) (x y z w : ℕ) → (b ≡ true → x ≡ z) → (b ≡ false → y ≡ w) → (if b then x else y) ≡ (if b then z else w)
both true x y z w f g = f refl
both false x y z w f g = g refl

pub packets_above : (k : ℕ) (w : List Item) → epochs_ended w < k → packets_at k w ≡ 0
packets_above zero [] h = refl
packets_above (suc k) [] h = refl
packets_above zero (j ∷ w) h = absurd (omega arith)
packets_above (suc k) (j ∷ w) h = one_way (is_newkeys j) _ _ _ (λ e. packets_above k w (omega (arith, ends_true j w e, h))) (λ e. packets_above (suc k) w (omega (arith, ends_false j w e, h)))

pub packets_below : (k : ℕ) (w : List Item) (i : Item) → k < epochs_ended w → packets_at k (w ++ i ∷ []) ≡ packets_at k w
packets_below k [] i h = absurd (omega arith)
packets_below zero (j ∷ w) i h = both (is_newkeys j) _ _ _ _ (λ e. refl) (λ e. ap (λ n. 1 + n) (packets_below zero w i (omega (arith, ends_false j w e, h))))
packets_below (suc k) (j ∷ w) i h = both (is_newkeys j) _ _ _ _ (λ e. packets_below k w i (omega (arith, ends_true j w e, h))) (λ e. packets_below (suc k) w i (omega (arith, ends_false j w e, h)))

same_if : (b : Bool) (x : ℕ) → (if b then x else x) ≡ x
same_if true x = refl
same_if false x = refl

if_plus : (b : Bool) (x y z w : ℕ) → (b ≡ true → x ≡ z + 1) → (b ≡ false → y ≡ w + 1) → (if b then x else y) ≡ (if b then z else w) + 1
if_plus true x y z w f g = f refl
if_plus false x y z w f g = g refl

pub packets_now : (w : List Item) (i : Item) (n : ℕ) → n ≡ epochs_ended w → packets_at n (w ++ i ∷ []) ≡ packets_at n w + 1
packets_now [] i zero e = same_if (is_newkeys i) 1
packets_now [] i (suc n) e = absurd (omega (arith, e))
packets_now (j ∷ w) i zero e = if_plus (is_newkeys j) _ _ _ _ (λ t. absurd (omega (arith, e, ends_true j w t))) (λ f. (let r = packets_now w i zero (e ∙ ends_false j w f) in omega (arith, r)))
packets_now (j ∷ w) i (suc n) e = if_plus (is_newkeys j) _ _ _ _ (λ t. packets_now w i n (omega (arith, e, ends_true j w t))) (λ f. packets_now w i (suc n) (e ∙ ends_false j w f))

pub packets_next : (w : List Item) (i : Item) (n : ℕ) → n ≡ epochs_ended w → packets_at (suc n) (w ++ i ∷ []) ≡ 0
packets_next [] i n e = same_if (is_newkeys i) 0
packets_next (j ∷ w) i zero e = one_way (is_newkeys j) _ _ _ (λ t. absurd (omega (arith, e, ends_true j w t))) (λ f. packets_next w i zero (e ∙ ends_false j w f))
packets_next (j ∷ w) i (suc n) e = one_way (is_newkeys j) _ _ _ (λ t. packets_next w i n (omega (arith, e, ends_true j w t))) (λ f. packets_next w i (suc n) (e ∙ ends_false j w f))

-- ---- on the machine

-- between two ends of epochs there are no more packets than the limit and the messages of an exchange
pub record AreFew (config : Config) (w : List Item) (st : SideState) (t : Trace) : Type 0 where
  pub older : (k : ℕ) → k < length st.records → packets_at k w ≤ config.limits.rekey_write_limit + 4
  pub outside : st.stands ≡ Outside → (packets_at (length st.records) w ≤ st.written) × (packets_at (length st.records) w ≤ config.limits.rekey_write_limit)
  pub inside : (stage : Stage) → st.stands ≡ Inside stage → packets_at (length st.records) w ≤ config.limits.rekey_write_limit + length t.own
  pub silent : st.stands ≡ Silent → packets_at (length st.records) w ≡ 0
  pub next : packets_at (suc (length st.records)) w ≡ 0

in_out : (stage : Stage) → Inside stage ≡ Outside → ⊥
in_out stage e = cc

in_silent : (stage : Stage) → Inside stage ≡ Silent → ⊥
in_silent stage e = cc

out_in : (stage : Stage) → Outside ≡ Inside stage → ⊥
out_in stage e = cc

out_silent : Outside ≡ Silent → ⊥
out_silent e = cc

at_few : (config : Config) (w : List Item) (m st' : SideState) (t : Trace) → st' ≡ m → AreFew config w m t → AreFew config w st' t
at_few config w m st' t e h = subst (λ s. AreFew config w s t) (sym e) h

older_wrote : (config : Config) (w : List Item) (i : Item) (n : ℕ) → epochs_ended w ≡ n → ((k : ℕ) → k < n → packets_at k w ≤ config.limits.rekey_write_limit + 4) → (k : ℕ) → k < n → packets_at k (w ++ i ∷ []) ≤ config.limits.rekey_write_limit + 4
older_wrote config w i n e h k l = let b = packets_below k w i (omega (arith, l, e)) in omega (arith, b, h k l)

whole_four : (kind : Bool) (n : ℕ) → n ≡ (if kind then 4 else 3) → n ≤ 4
whole_four true n e = omega (arith, e)
whole_four false n e = omega (arith, e)

-- a side that has all but the other's NEWKEYS has at most four messages of its own
full_few : (says : Says) (side : Side) (config : Config) (own_id : List ℕ) (st : SideState) (t : Trace) (stage : Stage) (payload : List ℕ) (x : FinishedExchange) → st.stands ≡ Inside stage → st.owed ≡ [] → LastIn says stage payload x → Rattle.ssh_rules.proofs.side.StageFits.Fits says side config own_id st t → length t.own ≤ 4
full_few says side config own_id st t stage payload x e o z f = by_stage stage z (at_stage says side config own_id st t stage e o f) where
  by_stage : (stage : Stage) → LastIn says stage payload x → FitsStage says (setting side config own_id st) stage t.own t.theirs → length t.own ≤ 4
  by_stage (AwaitsNewkeys exchange made host) z g = whole_four (is_gex made.names.kex) _ (full_made (setting side config own_id st).side says (setting side config own_id st) t.own (t.theirs ++ newkeys ∷ []) exchange made host (is_gex made.names.kex) refl g).own_is
  by_stage (Created own) z g = absurd z
  by_stage (AwaitsGroup o) z g = absurd z
  by_stage (AwaitsReply o gr l p) z g = absurd z
  by_stage (AwaitsRequest o) z g = absurd z
  by_stage (AwaitsValue o gr) z g = absurd z

one_more : (p p' c l limit : ℕ) → p' ≡ p + 1 → p ≤ c → 0 < l → c < limit → limit ≤ 2 ^ 30 → p' ≤ min (c + l) (2 ^ 64 - 1)
one_more p p' c l limit a b d e f = omega (arith, a, b, d, e, f)

pub few_step : (says : Says) (side : Side) (config : Config) (own_id : List ℕ) (w r : List Item) (st : SideState) (e : Event) (st' : SideState) (t : Trace) → config.limits.rekey_write_limit ≤ 2 ^ 30 → Kept says side config own_id w r st t → AreFew config w st t → Step says side config own_id st e st' → AreFew config (more_wrote w e) st' (trace_after t e)
few_step says side config own_id w r st (IdHeard id) st' t small k q h = at_few config w _ st' t h.becomes (record { older = q.older; outside = q.outside; inside = q.inside; silent = q.silent; next = q.next })
few_step says side config own_id w r st (PayloadSubmitted p) st' t small k q h = at_few config w _ st' t h.becomes (record { older = q.older; outside = q.outside; inside = q.inside; silent = q.silent; next = q.next })
few_step says side config own_id w r st (ExchangeBegun cause i) st' t small k q h =
    let closed = closed_trace says side config own_id st t k.tidy.fits (may_closed config st cause h.may) in
    let at = ends_open (length st.records) t.own w k.accounts.own (ap has_newkeys closed.0) in
    let now = packets_now w i (length st.records) (sym at) in
    at_few config (w ++ i ∷ []) _ st' (trace_after t (ExchangeBegun cause i)) h.becomes (record {
      older = older_wrote config w i (length st.records) at q.older;
      outside = λ e. absurd (in_out _ e);
      inside = λ stage e. elim (may_closed config st cause h.may) [ inl o ↦ (let b = (q.outside o).1 in omega (arith, now, b)) | inr s ↦ (let b = q.silent s in omega (arith, now, b)) ];
      silent = λ e. absurd (in_silent _ e);
      next = packets_next w i (length st.records) (sym at);
    })
few_step says side config own_id w r st (AnswerSent i z) st' t small k q h =
    let before : has_newkeys t.own ≡ false = k.tidy.own_ended ∙ (ap (Rattle.ssh_rules.proofs.side.Places.ended st.stands) h.owes ∙ open_with st.stands i.payload h.more) in
    let at = ends_open (length st.records) t.own w k.accounts.own before in
    let now = packets_now w i (length st.records) (sym at) in
    at_few config (w ++ i ∷ []) _ st' (trace_after t (AnswerSent i z)) h.becomes (record {
      older = older_wrote config w i (length st.records) at q.older;
      outside = λ e. absurd (owes e);
      inside = λ stage e. (let b = q.inside stage e in let l = length-append t.own (i.payload ∷ []) in omega (arith, now, b, l));
      silent = λ e. absurd (quiet e);
      next = packets_next w i (length st.records) (sym at);
    })
  where
    some : length (t.own ++ st.owed) ≡ 0 → ⊥
    some l = let m : length st.owed ≡ suc (length h.more) = ap length h.owes in omega (arith, length-append t.own st.owed, l, m)

    owes : st.stands ≡ Outside → ⊥
    owes e = let g = subst (λ x. Rattle.ssh_rules.proofs.side.StageFits.FitsWhere says (setting side config own_id st) x (t.own ++ st.owed) t.theirs) e k.tidy.fits in some (ap length g.own_is)

    quiet : st.stands ≡ Silent → ⊥
    quiet e = let g = subst (λ x. Rattle.ssh_rules.proofs.side.StageFits.FitsWhere says (setting side config own_id st) x (t.own ++ st.owed) t.theirs) e k.tidy.fits in some (ap length g.own_is)
few_step says side config own_id w r st (PayloadSent i) st' t small k q h =
    let closed = closed_trace says side config own_id st t k.tidy.fits (inl h.outside) in
    let at = ends_open (length st.records) t.own w k.accounts.own (ap has_newkeys closed.0) in
    let now = packets_now w i (length st.records) (sym at) in
    let o = q.outside h.outside in
    let some = h.is_written.admissible.payload in
    at_few config (w ++ i ∷ []) _ st' t h.becomes (record {
      older = older_wrote config w i (length st.records) at q.older;
      outside = λ e. (one_more (packets_at (length st.records) w) (packets_at (length st.records) (w ++ i ∷ [])) st.written (length i.payload) config.limits.rekey_write_limit now o.0 some (h.below h.outside).0 small, omega (arith, now, o.0, (h.below h.outside).0));
      inside = λ stage e. absurd (out_in stage (sym h.outside ∙ e));
      silent = λ e. absurd (out_silent (sym h.outside ∙ e));
      next = packets_next w i (length st.records) (sym at);
    })
few_step says side config own_id w r st (MessageTaken i) st' t small k q h = at_few config w _ st' (trace_after t (MessageTaken i)) h.becomes (record { older = q.older; outside = λ e. absurd (in_out _ e); inside = λ stage e. q.inside h.stage h.inside; silent = λ e. absurd (in_silent _ e); next = q.next })
few_step says side config own_id w r st (GuessDropped i) st' t small k q h = at_few config w _ st' t h.becomes (record { older = q.older; outside = λ e. absurd (in_out _ e); inside = λ stage e. q.inside h.stage h.inside; silent = λ e. absurd (in_silent _ e); next = q.next })
few_step says side config own_id w r st (PayloadDelivered i) st' t small k q h = at_few config w _ st' t h.becomes (record { older = q.older; outside = q.outside; inside = q.inside; silent = q.silent; next = q.next })
few_step says side config own_id w r st (PacketDropped i) st' t small k q h = at_few config w _ st' t h.becomes (record { older = q.older; outside = q.outside; inside = q.inside; silent = q.silent; next = q.next })
few_step says side config own_id w r st (ExchangeFinished i x) st' t small k q h =
    let four = full_few says side config own_id st t (AwaitsNewkeys h.exchange x h.host) i.payload x h.inside h.owes (h.payload_is, refl, h.trusted) k.tidy.fits in
    let b = q.inside (AwaitsNewkeys h.exchange x h.host) h.inside in
    let up : length (st.records ++ x ∷ []) ≡ suc (length st.records) = omega (arith, length-append st.records (x ∷ [])) in
    let z : packets_at (length (st.records ++ x ∷ [])) w ≡ 0 = ap (λ n. packets_at n w) up ∙ q.next in
    at_few config w _ st' no_trace h.becomes (record {
      older = λ j l. older_now (length st.records) (length (st.records ++ x ∷ [])) up (omega (arith, b, four)) q.older j l;
      outside = λ e. (omega (arith, z), omega (arith, z));
      inside = λ stage e. absurd (out_in stage e);
      silent = λ e. absurd (out_silent e);
      next = packets_above (suc (length (st.records ++ x ∷ []))) w (ends_few (has_newkeys t.own) k.accounts.own.ends_is up);
    })
  where
    ends_few : (b : Bool) → epochs_ended w ≡ length st.records + (if b then 1 else 0) → length (st.records ++ x ∷ []) ≡ suc (length st.records) → epochs_ended w < suc (length (st.records ++ x ∷ []))
    ends_few true e f = omega (arith, e, f)
    ends_few false e f = omega (arith, e, f)

    older_now : (n m : ℕ) → m ≡ suc n → packets_at n w ≤ config.limits.rekey_write_limit + 4 → ((j : ℕ) → j < n → packets_at j w ≤ config.limits.rekey_write_limit + 4) → (j : ℕ) → j < m → packets_at j w ≤ config.limits.rekey_write_limit + 4
    older_now n m e last old j l = elim (split j n (omega (arith, e, l))) [ inl a ↦ old j a | inr a ↦ subst (λ k. packets_at k w ≤ config.limits.rekey_write_limit + 4) (sym a) last ] where
      split : (j n : ℕ) → j ≤ n → (j < n) ⊎ (j ≡ n)
      split zero zero l = inr refl
      split zero (suc n) l = inl (omega arith)
      split (suc j) zero l = absurd (omega (arith, l))
      split (suc j) (suc n) l = elim (split j n (omega (arith, l))) [ inl e ↦ inl (omega (arith, e)) | inr e ↦ inr (ap suc e) ]

pub few_first : (config : Config) → AreFew config [] first_state no_trace
few_first config = record { older = λ k l. absurd (omega (arith, l)); outside = λ e. (omega arith, omega arith); inside = λ stage e. omega arith; silent = λ e. refl; next = refl }

pub few_steps : (says : Says) (side : Side) (config : Config) (own_id : List ℕ) (log : List Event) (w r : List Item) (st st' : SideState) (t : Trace) → config.limits.rekey_write_limit ≤ 2 ^ 30 → Kept says side config own_id w r st t → AreFew config w st t → Steps says side config own_id st log st' → AreFew config (w ++ wrote log) st' (trace_of t log)
few_steps says side config own_id [] w r st st' t small k q h = subst (λ v. AreFew config v st' t) (sym (append-nil w)) (at_few config w st st' t h q)
few_steps says side config own_id (e ∷ es) w r st st' t small k q h =
    let next = few_steps says side config own_id es (more_wrote w e) (more_kept r e) h.0 st' (trace_after t e) small (one_kept says side config own_id w r st e h.0 t k h.1) (few_step says side config own_id w r st e h.0 t small k q h.1) h.2 in
    subst (λ v. AreFew config v st' (trace_of t (e ∷ es))) (Rattle.ssh_rules.proofs.side.Grammar.wrote_on w e es) next

-- Of a whole run: each epoch that has ended has at most the write limit and four packets.
pub few_in_epoch : (says : Says) (side : Side) (config : Config) (own_id : List ℕ) (log : List Event) (st : SideState) → config.limits.rekey_write_limit ≤ 2 ^ 30 → Steps says side config own_id first_state log st → AreFew config (wrote log) st (trace_of no_trace log)
few_in_epoch says side config own_id log st small h = few_steps says side config own_id log [] [] first_state st no_trace small (kept_first says side config own_id) (few_first config) h
