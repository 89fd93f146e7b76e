-- A side with nothing left to do is prompt, whatever it was fed.
use Rattle.std.proofs.Common.{◌≡◌, ℕ, zero, suc, ◌+◌, ◌-◌, ◌<◌, ◌≤◌, ◌↔◌, List, [], ◌∷◌, ◌++◌, length, take, slice_get, refl, sym, ◌∙◌, ap, subst, arith, Option, Some, None, Bool, true, false, max, append-nil, is_some}
use Rattle.ssh_wire.specs.declared.side.Side.{Side}
use Rattle.ssh_negotiate.specs.declared.negotiation.Names.{Names}
use Rattle.ssh_kex.specs.Messages.{is_gex}
use Rattle.ssh_kex.specs.Setting.{Says, offers_of}
use Rattle.ssh_kex.specs.declared.config.Config.{Config}
use Rattle.ssh_kex.specs.declared.exchange.FinishedExchange.{FinishedExchange}
use Rattle.ssh_rules.specs.Attacked.{IsPrompt, block_names, kind_in, known_names, still_strict}
use Rattle.ssh_rules.specs.Counting.{begun, open_count}
use Rattle.ssh_rules.specs.Log.{wrote, kept_in, recorded, submitted_in}
use Rattle.ssh_rules.specs.Machine.{Where, Silent, Outside, Inside, SideState, Event, Steps, IsQuiet, first_state, names_now}
use Rattle.ssh_rules.specs.Marks.{due, epoch, kexinits, payload_bytes}
use Rattle.ssh_rules.specs.Snapshots.{KindIs}
use Rattle.ssh_rules.specs.Standing.{is_outside}
use Rattle.ssh_rules.specs.Wire.{carried_payloads, epochs_ended, exchange_block}
use Rattle.ssh_rules.proofs.side.Accounts.{Kept, kept_run, trace_of}
use Rattle.ssh_rules.proofs.side.Flags.{read_alike}
use Rattle.ssh_rules.proofs.side.Known.{ReadFirst, config_is, kind_read, known_here}
use Rattle.ssh_rules.proofs.side.LedgerSteps.{tidy_first}
use Rattle.ssh_rules.proofs.side.Ledgers.{setting_at}
use Rattle.ssh_rules.proofs.marks.Marked.{below_cap, max_one, read_below}
use Rattle.ssh_rules.proofs.marks.Moments.{SmallLimits}
use Rattle.ssh_rules.proofs.pair.OneKind.{record_first}
use Rattle.ssh_rules.proofs.side.Payloads.{submits}
use Rattle.ssh_rules.proofs.side.Prompt.{full_made, prompt_inside}
use Rattle.ssh_rules.proofs.side.ReasonSteps.{ends_open}
use Rattle.ssh_rules.proofs.side.StageFits.{no_trace}
use Rattle.ssh_rules.proofs.side.Tallied.{Tally, read_open, tally_run}

get_at : (n : ℕ) (xs : List FinishedExchange) → n < length xs → (x : FinishedExchange) × (slice_get xs n ≡ Some x)
get_at n [] l = absurd (omega (arith, l))
get_at zero (x ∷ xs) l = (x, refl)
get_at (suc n) (x ∷ xs) l = get_at n xs (omega (arith, l))

-- the kind of a block whose first message was read under these names
kind_of_read : (side : Side) (config : Config) (strict : Bool) (block : List (List ℕ)) (n : Names) → ReadFirst side config block n → kind_in (block_names side config strict block) ≡ is_gex n.kex
kind_of_read side config strict block n f =
    let a = read_alike side (offers_of side config) f.strict strict f.payload f.read_names f.read in
    ap (λ b. kind_in (block_names side config strict b)) f.first ∙ (ap (λ r. kind_in (known_names r)) a.1 ∙ (ap is_gex a.3 ∙ ap is_gex f.kex))

-- Of any run that leaves nothing to do. Where the last call was a rekey the side isn't outside.
pub run_prompt : (says : Says) (side : Side) (config : Config) (own_id : List ℕ) (log : List Event) (st : SideState) (asked : Bool) → SmallLimits config → Steps says side config own_id first_state log st → IsQuiet config st → (asked ≡ true → is_outside st.stands ≡ false)
    → IsPrompt side config (kind_in (block_names side config (still_strict (recorded log)) (exchange_block (kexinits (wrote log) - 1) (kept_in log)))) (submitted_in log) (wrote log) (kept_in log) (is_some st.heard) asked
run_prompt says side config own_id log st asked small h quiet rekey = record {
  sent = λ l. (let e = payloads in let z = quiet.sent (closed l) in sym e ∙ (ap (λ q. carried_payloads (wrote log) ++ q) z ∙ append-nil (carried_payloads (wrote log))));
  written = λ l. below_cap (payload_bytes (epoch (wrote log))) st.written _ (tally.written (closed l)) (quiet.below_write (closed l)) small.write;
  taken = λ l. below_cap (payload_bytes (epoch (kept_in log))) st.read _ (tally.read (closed l)) (quiet.below_read (closed l)) small.read;
  starts = heard_is st.heard refl;
  answers = answered (kexinits (wrote log)) tally.own tally.theirs;
  prompt = λ some. prompt_at some st.stands refl;
  begins = λ e. inside (rekey e) st.stands refl;
} where
  tally : Tally (wrote log) (kept_in log) st
  tally = tally_run says side config own_id log st h

  kept : Kept says side config own_id (wrote log) (kept_in log) st (trace_of no_trace log)
  kept = kept_run says side config own_id log st h

  records : st.records ≡ recorded log
  records = Rattle.ssh_rules.proofs.side.Ran.recorded_is says side config own_id log first_state st h

  ended : epochs_ended (kept_in log) ≡ length st.records
  ended = ends_open (length st.records) (trace_of no_trace log).theirs (kept_in log) kept.accounts.theirs kept.tidy.theirs_open

  payloads : carried_payloads (wrote log) ++ st.held ≡ submitted_in log
  payloads = submits says side config own_id log first_state st no_trace (tidy_first says side config own_id) h

  silent : st.stands ≡ Silent → length st.records ≡ 0
  silent e = ap length (kept.accounts.silent e)

  closed_at : (w : Where) → st.stands ≡ w → max 1 (kexinits (wrote log)) ≤ epochs_ended (kept_in log) → st.stands ≡ Outside
  closed_at Silent e l = absurd (let o = tally.own in let n = silent e in let c : open_count st.stands ≡ 0 = ap open_count e in let m = (max_one (kexinits (wrote log))).1 (omega (arith, o, n, c)) in omega (arith, l, ended, n, m))
  closed_at Outside e l = e
  closed_at (Inside stage) e l = absurd (let o = tally.own in let c : open_count st.stands ≡ 1 = ap open_count e in let m = (max_one (kexinits (wrote log))).0 (omega (arith, o, c)) in omega (arith, l, ended, o, c, m))

  closed : max 1 (kexinits (wrote log)) ≤ epochs_ended (kept_in log) → st.stands ≡ Outside
  closed l = closed_at st.stands refl l

  none_true : {A : Type 0} (x : Option A) → x ≡ None → is_some x ≡ true → ⊥
  none_true None e f = cc
  none_true (Some y) e f = cc

  some_begun : (w : Where) → st.stands ≡ w → (st.stands ≡ Silent → ⊥) → 0 < kexinits (wrote log)
  some_begun Silent e n = absurd (n e)
  some_begun Outside e n = (let o = tally.own in let s = tally.some e in omega (arith, o, s))
  some_begun (Inside stage) e n = (let o = tally.own in let c : open_count st.stands ≡ 1 = ap open_count e in omega (arith, o, c))

  some_none : {A : Type 0} (x : Option A) (y : A) → x ≡ Some y → x ≡ None → ⊥
  some_none x y e f = (let g : Some y ≡ None = sym e ∙ f in cc)

  heard_is : (x : Option (List ℕ)) → st.heard ≡ x → (0 < kexinits (wrote log)) ↔ (is_some st.heard ≡ true)
  heard_is None e = (λ l. absurd (let s = tally.unheard e in let n = silent s in let o = tally.own in let c : open_count st.stands ≡ 0 = ap open_count s in omega (arith, l, o, n, c)), λ f. absurd (none_true st.heard e f))
  heard_is (Some id) e = (λ l. ap is_some e, λ f. some_begun st.stands refl (λ s. some_none st.heard id e (quiet.silent s)))

  answered : (k : ℕ) → k ≡ begun st → kexinits (kept_in log) ≡ length st.records + read_open st.stands → kexinits (kept_in log) ≤ max 1 k
  answered zero e f = (let r = read_below st.stands in omega (arith, e, f, r))
  answered (suc k) e f = (let r = read_below st.stands in let x = (max_one (suc k)).0 (omega arith) in omega (arith, e, f, r, x))

  inside : is_outside st.stands ≡ false → (w : Where) → st.stands ≡ w → epochs_ended (kept_in log) < max 1 (kexinits (wrote log))
  inside o Silent e = (let n = silent e in let b = tally.own in let c : open_count st.stands ≡ 0 = ap open_count e in let m = (max_one (kexinits (wrote log))).1 (omega (arith, b, n, c)) in omega (arith, ended, n, m))
  inside o Outside e = absurd (let f : true ≡ false = sym (ap is_outside e) ∙ o in cc)
  inside o (Inside stage) e = (let b = tally.own in let c : open_count st.stands ≡ 1 = ap open_count e in let m = (max_one (kexinits (wrote log))).0 (omega (arith, b, c)) in omega (arith, ended, b, c, m))

  kind_at : ℕ → Bool
  kind_at n = kind_in (block_names side config (still_strict (recorded log)) (exchange_block n (kept_in log)))

  at_block : (n : ℕ) → kexinits (wrote log) - 1 ≡ n → length (exchange_block n (wrote log)) ≡ due side (kind_at n) (length (exchange_block n (kept_in log))) → length (exchange_block (kexinits (wrote log) - 1) (wrote log)) ≡ due side (kind_at (kexinits (wrote log) - 1)) (length (exchange_block (kexinits (wrote log) - 1) (kept_in log)))
  at_block n e f = subst (λ k. length (exchange_block k (wrote log)) ≡ due side (kind_at k) (length (exchange_block k (kept_in log)))) (sym e) f

  prompt_at : 0 < kexinits (wrote log) → (w : Where) → st.stands ≡ w → length (exchange_block (kexinits (wrote log) - 1) (wrote log)) ≡ due side (kind_at (kexinits (wrote log) - 1)) (length (exchange_block (kexinits (wrote log) - 1) (kept_in log)))
  prompt_at some Silent s = absurd (let o = tally.own in let n = silent s in let c : open_count st.stands ≡ 0 = ap open_count s in omega (arith, some, o, n, c))
  prompt_at some Outside s =
      let o = tally.own in let c : open_count st.stands ≡ 0 = ap open_count s in let n = tally.some s in
      let last = get_at (length st.records - 1) st.records (omega (arith, n)) in
      let m = kept.accounts.each (length st.records - 1) last.0 last.1 in
      let first = subst (λ q. ReadFirst side q (exchange_block (length st.records - 1) (kept_in log)) last.0.names) (config_is side config own_id (record first_state { heard = st.heard; records = take (length st.records - 1) st.records }))
      (record_first side says (setting_at side config own_id st.heard (take (length st.records - 1) st.records)) _ _ m.exchange last.0 m.host m.made) in
      at_block (length st.records - 1) (omega (arith, o, c))
      (full_made side says (setting_at side config own_id st.heard (take (length st.records - 1) st.records)) _ _ m.exchange last.0 m.host (kind_at (length st.records - 1)) (sym (kind_of_read side config (still_strict (recorded log)) (exchange_block (length st.records - 1) (kept_in log)) last.0.names first)) m.made).due_is
  prompt_at some (Inside stage) s =
      let o = tally.own in let c : open_count st.stands ≡ 1 = ap open_count s in
      let known : KindIs (kind_at (length st.records)) (names_now st.stands) = subst (λ r. KindIs (kind_read side config (λ k. still_strict (recorded log)) r (length st.records)) (names_now st.stands)) (append-nil (kept_in log)) (known_here says side config own_id (λ k. still_strict (recorded log)) (wrote log) (kept_in log) [] st (trace_of no_trace log) kept) in
      let q = prompt_inside says side config own_id st (trace_of no_trace log) stage (kind_at (length st.records)) kept.tidy.fits s quiet.owes known in
      at_block (length st.records) (omega (arith, o, c)) (ap length kept.accounts.own.block_is ∙ (q ∙ ap (λ d. due side (kind_at (length st.records)) (length d)) (sym kept.accounts.theirs.block_is)))
