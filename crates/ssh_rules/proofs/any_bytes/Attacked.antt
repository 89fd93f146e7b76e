-- What the report of an attacked run says of a side, of any run of its machine.
use Rattle.std.proofs.Common.{◌≡◌, ℕ, ◌+◌, List, [], ◌++◌, length, take, slice_get, refl, sym, ◌∙◌, ap, subst, arith, Some, Bool, true, false, if◌then◌else◌, append-nil}
use Rattle.ssh_wire.specs.Lines.{id_line, id_text}
use Rattle.ssh_wire.specs.declared.side.Side.{Side}
use Rattle.ssh_wire.specs.declared.side.Side.TheVariants.{Client}
use Rattle.ssh_rules.specs.Parts.{Accepting, Secrets, Trusting}
use Rattle.ssh_kex.specs.Setting.{Says}
use Rattle.ssh_kex.specs.declared.config.Config.{Config}
use Rattle.ssh_kex.specs.declared.exchange.FinishedExchange.{FinishedExchange}
use Rattle.ssh_rules.specs.Attacked.{IsNamed, IsKeyed, kind_in, host_in, still_strict}
use Rattle.ssh_rules.specs.Guess.{BeforeKexinit, without_guesses}
use Rattle.ssh_rules.specs.AnyParts.{IsSigned}
use Rattle.ssh_rules.proofs.side.Ledgers.{setting_at}
use Rattle.ssh_rules.specs.Log.{wrote, handled, kept_in, recorded, sent_bytes, submitted_in}
use Rattle.ssh_rules.specs.Machine.{SideState, Event, Steps, first_state, names_now}
use Rattle.ssh_rules.specs.Made.{IsRecorded}
use Rattle.ssh_rules.specs.Wire.{IsWire, HasForm, exchange_block, epochs_ended}
use Rattle.ssh_rules.proofs.side.Accounts.{kept_run}
use Rattle.ssh_rules.proofs.side.Discharged.{kept_is}
use Rattle.ssh_rules.proofs.side.Formed.{names_at, forms}
use Rattle.ssh_rules.specs.Valid.{HasSizes}
use Rattle.ssh_rules.proofs.side.Known.{known_here, wrote_in_blocks}
use Rattle.ssh_rules.proofs.side.LedgerSteps.{tidy_first}
use Rattle.ssh_rules.proofs.side.Padded.{written_padded}
use Rattle.ssh_rules.proofs.side.Payloads.{submits}
use Rattle.ssh_rules.proofs.side.Places.{written_reads}
use Rattle.ssh_rules.specs.Snapshots.{KindIs}
use Rattle.ssh_rules.proofs.side.Ran.{recorded_is}
use Rattle.ssh_rules.proofs.headline.Reported.{named, keyed, signed, TellsAgreement, Answered}

-- each exchange that a run recorded was made of its two blocks, the other's without dropped guesses
recorded_each : (says : Says) (side : Side) (config : Config) (own_id : List ℕ) (log : List Event) (st : SideState) → Steps says side config own_id first_state log st → (k : ℕ) (x : FinishedExchange) → slice_get (recorded log) k ≡ Some x
    → IsRecorded side says (setting_at side config own_id st.heard (take k (recorded log))) (exchange_block k (wrote log)) (exchange_block k (without_guesses side config BeforeKexinit (handled log))) x
recorded_each says side config own_id log st h k x e =
    let kept = kept_run says side config own_id log st h in
    let records : st.records ≡ recorded log = recorded_is says side config own_id log first_state st h in
    subst (λ b. IsRecorded side says (setting_at side config own_id st.heard (take k (recorded log))) (exchange_block k (wrote log)) (exchange_block k b) x) (sym (kept_is says side config own_id log st h))
    (subst (λ q. IsRecorded side says (setting_at side config own_id st.heard (take k q)) (exchange_block k (wrote log)) (exchange_block k (kept_in log)) x) records
    (kept.accounts.each k x (subst (λ q. slice_get q k ≡ Some x) (sym records) e)))

pub run_named : (says : Says) (side : Side) (config : Config) (own_id : List ℕ) (log : List Event) (st : SideState) → Steps says side config own_id first_state log st → (k : ℕ) (x : FinishedExchange) → slice_get (recorded log) k ≡ Some x → IsNamed side config (take k (recorded log)) (exchange_block k (without_guesses side config BeforeKexinit (handled log))) x
run_named says side config own_id log st h k x e = named side says config own_id st.heard (take k (recorded log)) _ _ x (recorded_each says side config own_id log st h k x e)

pub run_keyed : (says : Says) (agrees : Secrets) (side : Side) (config : Config) (log : List Event) (st : SideState) (heard : List ℕ) → TellsAgreement says agrees → st.heard ≡ Some heard → Steps says side config (id_text config.id) first_state log st
    → (k : ℕ) (x : FinishedExchange) → slice_get (recorded log) k ≡ Some x → IsKeyed agrees side config heard (exchange_block k (wrote log)) (exchange_block k (without_guesses side config BeforeKexinit (handled log))) x
run_keyed says agrees side config log st heard tells text h k x e =
    keyed side says agrees config heard (take k (recorded log)) _ _ x tells
    (subst (λ q. IsRecorded side says (setting_at side config (id_text config.id) q (take k (recorded log))) (exchange_block k (wrote log)) (exchange_block k (without_guesses side config BeforeKexinit (handled log))) x) text (recorded_each says side config (id_text config.id) log st h k x e))

pub run_signed : (says : Says) (accepts : Accepting) (trusts : Trusting) (config : Config) (own_id : List ℕ) (log : List Event) (st : SideState) → Answered says accepts trusts → Steps says Client config own_id first_state log st
    → (k : ℕ) (x : FinishedExchange) → slice_get (recorded log) k ≡ Some x → IsSigned accepts trusts (exchange_block k (without_guesses Client config BeforeKexinit (handled log))) x
run_signed says accepts trusts config own_id log st a h k x e = signed says accepts trusts config own_id st.heard (take k (recorded log)) _ _ x a (recorded_each says Client config own_id log st h k x e)

no_more : (b : Bool) (n m : ℕ) → b ≡ false → m ≡ n + (if b then 1 else 0) → n ≡ m
no_more true n m f e = cc
no_more false n m f e = omega (arith, e)

pub run_counted : (says : Says) (side : Side) (config : Config) (own_id : List ℕ) (log : List Event) (st : SideState) → Steps says side config own_id first_state log st → length (recorded log) ≡ epochs_ended (without_guesses side config BeforeKexinit (handled log))
run_counted says side config own_id log st h =
    let kept = kept_run says side config own_id log st h in
    ap length (sym (recorded_is says side config own_id log first_state st h)) ∙ (no_more _ (length st.records) (epochs_ended (kept_in log)) kept.tidy.theirs_open kept.accounts.theirs.ends_is ∙ ap epochs_ended (sym (kept_is says side config own_id log st h)))

-- the wire of any run
pub run_wire : (says : Says) (side : Side) (config : Config) (own_id : List ℕ) (log : List Event) (st : SideState) → HasSizes config → Steps says side config own_id first_state log st
    → IsWire side config (λ k. kind_in (names_at side config (recorded log) (without_guesses side config BeforeKexinit (handled log)) k)) (λ k. host_in side config (names_at side config (recorded log) (without_guesses side config BeforeKexinit (handled log)) k)) (submitted_in log) (recorded log) (id_line config.id ++ sent_bytes side first_state.writing log) (wrote log)
run_wire says side config own_id log st sizes h =
    let records : st.records ≡ recorded log = recorded_is says side config own_id log first_state st h in
    let kept = kept_run says side config own_id log st h in
    let same = kept_is says side config own_id log st h in
    let known : KindIs (kind_in (names_at side config st.records (kept_in log) (length st.records))) (names_now st.stands) =
    subst (λ r. KindIs (kind_in (names_at side config st.records r (length st.records))) (names_now st.stands)) (append-nil (kept_in log)) (known_here says side config own_id (λ k. still_strict (take k st.records)) (wrote log) (kept_in log) [] st _ kept) in
    record {
      reads = (sent_bytes side first_state.writing log, refl, written_reads says side config own_id log first_state st tt tt h);
      padded = written_padded says side config own_id log first_state st tt tt h;
      payloads = (st.held, submits says side config own_id log first_state st _ (tidy_first says side config own_id) h);
      blocks = subst (λ r. Rattle.ssh_rules.specs.Wire.InBlocks side (λ k. kind_in (names_at side config (recorded log) r k)) 1 (Rattle.ssh_rules.specs.MessageTypes.order side (kind_in (names_at side config (recorded log) r 0))) (wrote log)) (sym same)
          (wrote_in_blocks says side config own_id (λ k. still_strict (take k (recorded log))) log st h);
      forms = λ k. subst (λ r. HasForm side config (kind_in (names_at side config (recorded log) r k)) (host_in side config (names_at side config (recorded log) r k)) (exchange_block k (wrote log))) (sym same)
          (subst (λ q. HasForm side config (kind_in (names_at side config q (kept_in log) k)) (host_in side config (names_at side config q (kept_in log) k)) (exchange_block k (wrote log))) records
          (forms says side config own_id (wrote log) (kept_in log) st _ (λ j. kind_in (names_at side config st.records (kept_in log) j)) (λ j. host_in side config (names_at side config st.records (kept_in log) j)) sizes (λ j n e. (ap kind_in e, ap (host_in side config) e)) known kept k));
    }
