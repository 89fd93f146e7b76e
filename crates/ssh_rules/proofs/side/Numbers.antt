-- Of any run no number of an epoch's packets comes near 2^32.
use Rattle.std.proofs.Common.{◌≡◌, ℕ, zero, suc, ◌+◌, ◌<◌, ◌≤◌, ◌^◌, List, [], ◌∷◌, ◌++◌, length, refl, sym, ◌∙◌, ap, subst, arith, Option, Some, None, Bool, true, false, if◌then◌else◌, ◌⊎◌, inl, inr}
use Rattle.ssh_wire.specs.declared.side.Side.{Side}
use Rattle.ssh_wire.specs.declared.side.Side.TheVariants.{Client, Server}
use Rattle.ssh_kex.specs.declared.config.Config.{Config}
use Rattle.ssh_kex.specs.declared.exchange.FinishedExchange.{FinishedExchange}
use Rattle.ssh_kex.specs.declared.exchange.ServerHost.{ServerHost}
use Rattle.ssh_kex.specs.Setting.{Says, Setting}
use Rattle.ssh_kex.specs.Stages.{Stage, Created, AwaitsGroup, AwaitsReply, AwaitsRequest, AwaitsValue, AwaitsNewkeys}
use Rattle.ssh_rules.specs.Machine.{SideState, setting, Where, Silent, Outside, Inside, Event, Steps, first_state}
use Rattle.ssh_rules.specs.Log.{wrote, kept_in}
use Rattle.ssh_kex.specs.declared.exchange.Exchange.{Exchange}
use Rattle.ssh_rules.specs.Made.{MadeBy}
use Rattle.ssh_rules.proofs.side.StageFits.{FitsStage, FitsWhere, no_trace}
use Rattle.ssh_rules.specs.Fresh.{packets_at}
use Rattle.ssh_rules.proofs.side.Ledgers.{has_newkeys}
use Rattle.ssh_rules.specs.Wire.{epochs_ended}
use Rattle.ssh_rules.proofs.side.Accounts.{Kept, kept_run, trace_of}
use Rattle.ssh_rules.proofs.pair.Carries.{few_numbers}
use Rattle.ssh_rules.proofs.side.Few.{few_in_epoch, packets_above}
use Rattle.ssh_rules.proofs.pair.Prefix.{keyed}
use Rattle.ssh_kex.specs.declared.exchange.GexChosen.{GexChosen}
use Rattle.ssh_rules.proofs.side.OneMessage.{Spoken, spoken, client_spoken, server_spoken}
use Rattle.ssh_rules.proofs.side.Few as few
use Rattle.ssh_rules.proofs.pair.Prefix as prefix

client_four : (t : Spoken) (group : Option GexChosen) (own : List (List ℕ)) → own ≡ client_spoken t group → length own ≤ 4
client_four t None own e = (let l : length own ≡ 3 = ap length e in omega (arith, l))
client_four t (Some g) own e = (let l : length own ≡ 4 = ap length e in omega (arith, l))

server_four : (t : Spoken) (group : Option GexChosen) (own : List (List ℕ)) → own ≡ server_spoken t group → length own ≤ 4
server_four t None own e = (let l : length own ≡ 3 = ap length e in omega (arith, l))
server_four t (Some g) own e = (let l : length own ≡ 4 = ap length e in omega (arith, l))

made_four : (side : Side) (says : Says) (s : Setting) (own theirs : List (List ℕ)) (exchange : Exchange) (x : FinishedExchange) (host : Option ServerHost) → MadeBy side says s own theirs exchange x host → length own ≤ 4
made_four Client says s own theirs exchange x host m = client_four (spoken exchange m.host m.signature) exchange.gex own m.own_is
made_four Server says s own theirs exchange x host m = server_four (spoken exchange m.shown.blob m.signature) exchange.gex own m.own_is

at_most_four : (own : List (List ℕ)) (n : ℕ) → length own ≡ n → n ≤ 4 → length own ≤ 4
at_most_four own n e l = omega (arith, e, l)

own_four : (says : Says) (s : Setting) (stage : Stage) (own theirs : List (List ℕ)) → FitsStage says s stage own theirs → length own ≤ 4
own_four says s (Created k) own theirs f = at_most_four own 1 (ap length f.own_is) (omega (arith))
own_four says s (AwaitsGroup o) own theirs f = at_most_four own 2 (ap length f.own_is) (omega (arith))
own_four says s (AwaitsReply o None l p) own theirs f = at_most_four own 2 (ap length f.own_is) (omega (arith))
own_four says s (AwaitsReply o (Some g) l p) own theirs f = at_most_four own 3 (ap length f.own_is) (omega (arith))
own_four says s (AwaitsRequest o) own theirs f = at_most_four own 1 (ap length f.own_is) (omega (arith))
own_four says s (AwaitsValue o None) own theirs f = at_most_four own 1 (ap length f.own_is) (omega (arith))
own_four says s (AwaitsValue o (Some g)) own theirs f = at_most_four own 2 (ap length f.own_is) (omega (arith))
own_four says s (AwaitsNewkeys exchange x host) own theirs f = made_four s.side says s own _ exchange x host f

front_length : (a b : List (List ℕ)) (n : ℕ) → length (a ++ b) ≤ n → length a ≤ n
front_length [] b n l = omega (arith)
front_length (p ∷ a) b n l = shorter n (front_length a b) l where
  shorter : (n : ℕ) → ((m : ℕ) → length (a ++ b) ≤ m → length a ≤ m) → suc (length (a ++ b)) ≤ n → suc (length a) ≤ n
  shorter (suc m) f l = (let k = f m (omega (arith, l)) in omega (arith, k))
  shorter zero f l = absurd (omega (arith, l))

pub few_at : (says : Says) (side : Side) (config : Config) (own_id : List ℕ) (log : List Event) (st : SideState) → config.limits.rekey_write_limit ≤ 2 ^ 30 → Steps says side config own_id first_state log st → (d : ℕ) → packets_at d (wrote log) ≤ config.limits.rekey_write_limit + 4
few_at says side config own_id log st small h d = at (compare d (length st.records)) where
  compare : (n m : ℕ) → (n < m) ⊎ ((n ≡ m) ⊎ (m < n))
  compare zero zero = inr (inl refl)
  compare zero (suc m) = inl (omega (arith))
  compare (suc n) zero = inr (inr (omega (arith)))
  compare (suc n) (suc m) = elim (compare n m) [ inl l ↦ inl (omega (arith, l)) | inr q ↦ elim q [ inl e ↦ inr (inl (ap suc e)) | inr l ↦ inr (inr (omega (arith, l))) ] ]

  f : few.AreFew config (wrote log) st (trace_of no_trace log)
  f = few_in_epoch says side config own_id log st small h

  kept : Kept says side config own_id (wrote log) (kept_in log) st (trace_of no_trace log)
  kept = kept_run says side config own_id log st h

  at_last : (s : Where) → st.stands ≡ s → packets_at (length st.records) (wrote log) ≤ config.limits.rekey_write_limit + 4
  at_last Silent q = (let z = f.silent q in omega (arith, z))
  at_last Outside q = (let z = (f.outside q).1 in omega (arith, z))
  at_last (Inside stage) q =
      let g : FitsStage says (setting side config own_id st) stage ((trace_of no_trace log).own ++ st.owed) (trace_of no_trace log).theirs = subst (λ x. FitsWhere says (setting side config own_id st) x ((trace_of no_trace log).own ++ st.owed) (trace_of no_trace log).theirs) q kept.tidy.fits in
      let four = front_length (trace_of no_trace log).own st.owed 4 (own_four says (setting side config own_id st) stage _ _ g) in
      let z = f.inside stage q in omega (arith, z, four)

  ends_near : (b : Bool) → epochs_ended (wrote log) ≡ length st.records + (if b then 1 else 0) → epochs_ended (wrote log) ≤ length st.records + 1
  ends_near true e = omega (arith, e)
  ends_near false e = omega (arith, e)

  above : length st.records < d → (suc (length st.records) ≡ d) ⊎ (epochs_ended (wrote log) < d) → packets_at d (wrote log) ≤ config.limits.rekey_write_limit + 4
  above l (inl e) = (let z : packets_at d (wrote log) ≡ 0 = ap (λ k. packets_at k (wrote log)) (sym e) ∙ f.next in omega (arith, z))
  above l (inr m) = (let z = packets_above d (wrote log) m in omega (arith, z))

  near : (e : epochs_ended (wrote log) ≤ length st.records + 1) → length st.records < d → (suc (length st.records) ≡ d) ⊎ (epochs_ended (wrote log) < d)
  near e l = elim (compare (suc (length st.records)) d) [ inl a ↦ inr (omega (arith, a, e)) | inr q ↦ elim q [ inl a ↦ inl a | inr a ↦ absurd (omega (arith, a, l)) ] ]

  at : (d < length st.records) ⊎ ((d ≡ length st.records) ⊎ (length st.records < d)) → packets_at d (wrote log) ≤ config.limits.rekey_write_limit + 4
  at (inl l) = f.older d l
  at (inr (inl e)) = subst (λ k. packets_at k (wrote log) ≤ config.limits.rekey_write_limit + 4) (sym e) (at_last st.stands refl)
  at (inr (inr l)) = above l (near (ends_near (has_newkeys (trace_of no_trace log).own) kept.accounts.own.ends_is) l)

-- no number of the own packets wraps
pub few_run : (says : Says) (side : Side) (config : Config) (own_id : List ℕ) (log : List Event) (st : SideState) → config.limits.rekey_write_limit ≤ 2 ^ 30 → Steps says side config own_id first_state log st → prefix.AreFew (keyed 0 0 (wrote log))
few_run says side config own_id log st small h = few_numbers (wrote log) (λ d. (let z = few_at says side config own_id log st small h d in omega (arith, z, small)))
