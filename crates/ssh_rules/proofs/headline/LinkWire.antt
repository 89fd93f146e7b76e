-- In an honest link a side's wire is as the headline has it: all blocks are of the kind that both configurations
-- choose.
use Rattle.std.proofs.Common.{◌≡◌, ℕ, List, [], ◌∷◌, ◌++◌, length, take, refl, sym, ◌∙◌, ap, subst, Option, Some, None, Bool, Ok, Err, Result, append_assoc}
use Rattle.ssh_packet.specs.Sealing.{Item}
use Rattle.ssh_wire.specs.Lines.{id_line, id_text}
use Rattle.ssh_wire.specs.Sides.{other_side}
use Rattle.ssh_wire.specs.declared.error.AlgorithmKind.{AlgorithmKind}
use Rattle.ssh_wire.specs.declared.side.Side.{Side}
use Rattle.ssh_wire.specs.declared.side.Side.TheVariants.{Client, Server}
use Rattle.ssh_negotiate.proofs.Lemmas.{names_agree}
use Rattle.ssh_negotiate.specs.Advertised.{Offers, kexinit}
use Rattle.ssh_negotiate.specs.Chosen.{chosen_names}
use Rattle.ssh_negotiate.specs.Laws.{IsWithin, side_answer, kept_strict}
use Rattle.ssh_negotiate.specs.Reading.{KexinitFault, names_read}
use Rattle.ssh_negotiate.specs.declared.negotiation.Names.{Names}
use Rattle.ssh_kex.specs.Messages.{is_gex}
use Rattle.ssh_kex.specs.Setting.{Says, offers_of}
use Rattle.ssh_kex.specs.declared.config.Config.{Config}
use Rattle.ssh_rules.specs.Attacked.{block_names, known_names, host_in, still_strict}
use Rattle.ssh_rules.proofs.side.StageFits.{Trace, trace_after, FitsStage, FitsWhere}
use Rattle.ssh_rules.specs.Headline.{chosen_by, kind_by, host_by}
use Rattle.ssh_rules.specs.Log.{wrote, handled, kept_in, recorded, submitted_in}
use Rattle.ssh_rules.specs.Machine.{Where, Silent, Outside, Inside, SideState, setting, Event, Steps, first_state, names_now}
use Rattle.ssh_rules.specs.Turns.{LinkEnd, talkers}
use Rattle.ssh_rules.specs.Wire.{IsWire, HasFront, exchange_block}
use Rattle.ssh_rules.proofs.side.Accounts.{Kept, kept_run, kept_first, kept_on, more_wrote, more_kept, accounts_step}
use Rattle.ssh_rules.proofs.side.StageSteps.{setting_side}
use Rattle.ssh_rules.proofs.side.Formed.{names_at, forms, AreOf}
use Rattle.ssh_rules.specs.Valid.{HasSizes}
use Rattle.ssh_rules.proofs.side.Grammar.{Along, KindKnown, grammar}
use Rattle.ssh_rules.proofs.side.Known.{ReadFirst, stage_first}
use Rattle.ssh_rules.proofs.side.LedgerSteps.{tidy_step, tidy_first}
use Rattle.ssh_rules.proofs.pair.NoGuess.{block_head, first_kexinit, config_is}
use Rattle.ssh_rules.proofs.side.Padded.{written_padded}
use Rattle.ssh_rules.proofs.side.Payloads.{submits}
use Rattle.ssh_rules.proofs.side.Places.{written_reads}
use Rattle.ssh_rules.specs.Snapshots.{KindIs, RunsInLink, kind_chosen}
use Rattle.ssh_rules.proofs.side.Ran.{recorded_is, kept_all}

-- ---- what is read is what is chosen

told_shape : (still : Bool) (own peer : Offers) (r : Result Names AlgorithmKind) (n : Names) → side_answer still own peer r ≡ Ok n → (m : Names) × (r ≡ Ok m) × (n ≡ kept_strict still m)
told_shape still own peer (Ok k) n e = (k, refl, (let f : kept_strict still k ≡ n = cc in sym f))
told_shape still own peer (Err kind) n e = cc

abbrev Chooses : (Side → Config) → Bool → Names → Type 0
Chooses config strict n = (m : Names) × (chosen_by (config Client) (config Server) ≡ Ok m) × (n ≡ kept_strict strict m)

pub read_chosen : (side : Side) (config : Side → Config) (strict : Bool) (cookie : List ℕ) (n : Names) → IsWithin (offers_of Client (config Client)) → IsWithin (offers_of Server (config Server)) → length cookie ≡ 16 → names_read side (offers_of side (config side)) strict (kexinit (offers_of (other_side side) (config (other_side side))) cookie) ≡ Ok n → Chooses config strict n
read_chosen Client config strict cookie n wc ws l e = let c = offers_of Client (config Client) in let s = offers_of Server (config Server) in told_shape strict c s (chosen_names c s) n (sym ((names_agree c s strict cookie wc ws l).0) ∙ e)
read_chosen Server config strict cookie n wc ws l e = let c = offers_of Client (config Client) in let s = offers_of Server (config Server) in told_shape strict s c (chosen_names c s) n (sym ((names_agree c s strict cookie wc ws l).1) ∙ e)

-- each first message is a KEXINIT of the other's configuration
abbrev pub HeadsAre : Side → (Side → Config) → List Item → Type 0
HeadsAre side config r = (k : ℕ) (p : List ℕ) (ms : List (List ℕ)) → exchange_block k r ≡ p ∷ ms → (cookie : List ℕ) × (length cookie ≡ 16) × (p ≡ kexinit (offers_of (other_side side) (config (other_side side))) cookie)

ok_of : (r : Result Names KexinitFault) (n : Names) → known_names r ≡ Some n → r ≡ Ok n
ok_of (Ok m) n e = (let q : Some m ≡ Some n = e in cc)
ok_of (Err f) n e = absurd (let q : None ≡ Some n = e in cc)

first_chosen : (side : Side) (config : Side → Config) (strict : Bool) (b : List (List ℕ)) (n : Names) → IsWithin (offers_of Client (config Client)) → IsWithin (offers_of Server (config Server)) → ((p : List ℕ) (ms : List (List ℕ)) → b ≡ p ∷ ms → (cookie : List ℕ) × (length cookie ≡ 16) × (p ≡ kexinit (offers_of (other_side side) (config (other_side side))) cookie)) → block_names side (config side) strict b ≡ Some n → Chooses config strict n
first_chosen side config strict [] n wc ws head e = absurd (let q : None ≡ Some n = e in cc)
first_chosen side config strict (p ∷ ms) n wc ws head e =
    let c = head p ms refl in
    read_chosen side config strict c.0 n wc ws c.1 (ap (names_read side (offers_of side (config side)) strict) (sym c.2) ∙ ok_of (names_read side (offers_of side (config side)) strict p) n e)

-- a client shows no host
abbrev pub host_chosen : Side → (Side → Config) → Option (List ℕ)
host_chosen Client config = None
host_chosen Server config = host_by (config Server) (chosen_by (config Client) (config Server))

pub kind_is : (config : Side → Config) (strict : Bool) (n : Names) → Chooses config strict n → kind_chosen config ≡ is_gex n.kex
kind_is config strict n c = ap kind_by c.1 ∙ ap (λ (m : Names). is_gex m.kex) (sym c.2)

host_is : (side : Side) (config : Side → Config) (strict : Bool) (n : Names) → Chooses config strict n → host_chosen side config ≡ host_in side (config side) (Some n)
host_is Client config strict n c = refl
host_is Server config strict n c = ap (host_by (config Server)) c.1 ∙ ap (λ (m : Names). host_in Server (config Server) (Some m)) (sym c.2)

-- ---- along a run

-- the name of the key exchange that an open exchange holds is the one that both configurations choose
pub record HoldsChosen (config : Side → Config) (n : Names) : Type 0 where
  pub names : Names
  pub chosen : chosen_by (config Client) (config Server) ≡ Ok names
  pub kex : names.kex ≡ n.kex

at_stage_names : (stage : Rattle.ssh_kex.specs.Stages.Stage) (s : Where) (n : Names) → s ≡ Inside stage → names_now s ≡ Some n → names_now (Inside stage) ≡ Some n
at_stage_names stage s n q e = ap names_now (sym q) ∙ e

read_at : (side : Side) (o : Offers) (strict : Bool) (p q : List ℕ) (n : Names) → p ≡ q → names_read side o strict p ≡ Ok n → names_read side o strict q ≡ Ok n
read_at side o strict p q n e f = ap (names_read side o strict) (sym e) ∙ f

one_kex : (m read n : Names) (strict : Bool) → read ≡ kept_strict strict m → read.kex ≡ n.kex → m.kex ≡ n.kex
one_kex m read n strict e f = ap (λ (x : Names). x.kex) (sym e) ∙ f

pub names_here : (says : Says) (side : Side) (config : Side → Config) (own_id : List ℕ) (w r : List Item) (st : SideState) (t : Trace) → IsWithin (offers_of Client (config Client)) → IsWithin (offers_of Server (config Server)) → HeadsAre side config r → Kept says side (config side) own_id w r st t → (n : Names) → names_now st.stands ≡ Some n → HoldsChosen config n
names_here says side config own_id w r st t wc ws heads kept n e = by st.stands refl where
  by : (s : Where) → st.stands ≡ s → HoldsChosen config n
  by Silent q = absurd (let z : None ≡ Some n = ap names_now (sym q) ∙ e in cc)
  by Outside q = absurd (let z : None ≡ Some n = ap names_now (sym q) ∙ e in cc)
  by (Inside stage) q =
      let g : FitsStage says (setting side (config side) own_id st) stage (t.own ++ st.owed) t.theirs = subst (λ x. FitsWhere says (setting side (config side) own_id st) x (t.own ++ st.owed) t.theirs) q kept.tidy.fits in
      let f : ReadFirst side (config side) t.theirs n = subst (λ c. ReadFirst side c t.theirs n) (config_is side (config side) own_id st) (subst (λ d. ReadFirst d (setting side (config side) own_id st).config t.theirs n) (setting_side side (config side) own_id st) (stage_first says (setting side (config side) own_id st) stage (t.own ++ st.owed) t.theirs n (at_stage_names stage st.stands n q e) g)) in
      let c = heads (length st.records) f.payload f.more (kept.accounts.theirs.block_is ∙ f.first) in
      let m = read_chosen side config f.strict c.0 f.read_names wc ws c.1 (read_at side (offers_of side (config side)) f.strict f.payload (kexinit (offers_of (other_side side) (config (other_side side))) c.0) f.read_names c.2 f.read) in
      record { names = m.0; chosen = m.1; kex = one_kex m.0 f.read_names n f.strict m.2 f.kex }

pub known_here : (says : Says) (side : Side) (config : Side → Config) (own_id : List ℕ) (w r : List Item) (st : SideState) (t : Trace) → IsWithin (offers_of Client (config Client)) → IsWithin (offers_of Server (config Server)) → HeadsAre side config r → Kept says side (config side) own_id w r st t → KindIs (kind_chosen config) (names_now st.stands)
known_here says side config own_id w r st t wc ws heads kept = by (names_now st.stands) refl where
  by : (names : Option Names) → names_now st.stands ≡ names → KindIs (kind_chosen config) names
  by None e = tt
  by (Some n) e = (let c = names_here says side config own_id w r st t wc ws heads kept n e in ap is_gex (sym c.kex) ∙ sym (ap kind_by c.chosen))

-- what stands before a front is one
cut_front : (pw r more all : List Item) → r ++ more ≡ all → HasFront pw all → HasFront pw r
cut_front pw r more all e f = (more ++ f.0, sym (append_assoc r more f.0) ∙ (ap (λ x. x ++ f.0) e ∙ f.1))

known_along : (says : Says) (side : Side) (config : Side → Config) (own_id : List ℕ) (pw : List Item) → IsWithin (offers_of Client (config Client)) → IsWithin (offers_of Server (config Server)) → ((r : List Item) → HasFront pw r → HeadsAre side config r)
    → (log : List Event) (w r all : List Item) (st st' : SideState) (t : Trace) → HasFront pw all → Kept says side (config side) own_id w r st t → (h : Steps says side (config side) own_id st log st') → r ++ kept_in log ≡ all → Along (KindKnown (λ k. kind_chosen config)) says side (config side) own_id log st st' h
known_along says side config own_id pw wc ws heads [] w r all st st' t f k h e = known_here says side config own_id w r st t wc ws (heads r (cut_front pw r [] all e f)) k
known_along says side config own_id pw wc ws heads (ev ∷ es) w r all st st' t f k h e = (
  known_here says side config own_id w r st t wc ws (heads r (cut_front pw r (kept_in (ev ∷ es)) all e f)) k,
  known_along says side config own_id pw wc ws heads es (more_wrote w ev) (more_kept r ev) all h.0 st' (trace_after t ev) f
      (record { tidy = tidy_step says side (config side) own_id st ev h.0 t k.tidy h.1; accounts = accounts_step says side (config side) own_id w r st ev h.0 t k.tidy k.accounts h.1 })
      h.2 (kept_on r ev es ∙ e),
)

-- ---- the headline's clause

pub link_wire : (says : Side → Says) (config : Side → Config) (side : Side) (log plog : List Event) (h peer : LinkEnd) → ((s : Side) → HasSizes (config s)) → IsWithin (offers_of Client (config Client)) → IsWithin (offers_of Server (config Server)) → RunsInLink (talkers says config) side log h → RunsInLink (talkers says config) (other_side side) plog peer → HasFront (wrote plog) (handled log)
    → IsWire side (config side) (λ k. kind_chosen config) (λ k. host_chosen side config) (submitted_in log) (recorded log) (id_line (config side).id ++ h.sent) (wrote log)
link_wire says config side log plog h peer sizes wc ws run prun front =
    let o = other_side side in
    let own_id = id_text (config side).id in
    let steps = run.ran.steps in
    let pkept = kept_run (says o) o (config o) (id_text (config o).id) plog peer.state prun.ran.steps in
    let kept = kept_run (says side) side (config side) own_id log h.state steps in
    let records : h.state.records ≡ recorded log = recorded_is (says side) side (config side) own_id log first_state h.state steps in
    let heads : (r : List Item) → HasFront (wrote plog) r → HeadsAre side config r =
    λ r f k p ms e. (let b = block_head k r f.0 p ms e in first_kexinit (says o) o (config o) (id_text (config o).id) (wrote plog) (kept_in plog) peer.state _ k p b.0 (sizes o) pkept (ap (exchange_block k) (sym f.1) ∙ b.1)) in
    let kept_front : HasFront (wrote plog) (kept_in log) = subst (HasFront (wrote plog)) (sym (kept_all log run.guesses)) front in
    let are : (k : ℕ) → AreOf side (config side) (kind_chosen config) (host_chosen side config) (names_at side (config side) h.state.records (kept_in log) k) =
    λ k n e. (let c = first_chosen side config (still_strict (take k h.state.records)) (exchange_block k (kept_in log)) n wc ws (λ p ms q. heads (kept_in log) kept_front k p ms q) e in
    (kind_is config _ n c, host_is side config _ n c)) in
    record {
      reads = (h.sent, refl, subst (λ v. Rattle.ssh_packet.specs.Stream.Reads (Some (Rattle.ssh_packet.specs.Stream.first_place (Rattle.std.specs.Prelude.map (Rattle.ssh_kex.specs.Exchange.outgoing side) (recorded log)))) (wrote log) v []) (sym run.ran.sent_is) (written_reads (says side) side (config side) own_id log first_state h.state tt tt steps));
      padded = written_padded (says side) side (config side) own_id log first_state h.state tt tt steps;
      payloads = (h.state.held, submits (says side) side (config side) own_id log first_state h.state _ (tidy_first (says side) side (config side) own_id) steps);
      blocks = grammar (says side) side (config side) own_id (λ k. kind_chosen config) log h.state steps
          (known_along (says side) side config own_id (wrote plog) wc ws heads log [] [] (kept_in log) first_state h.state _ kept_front (kept_first (says side) side (config side) own_id) steps refl);
      forms = forms (says side) side (config side) own_id (wrote log) (kept_in log) h.state _ (λ k. kind_chosen config) (λ k. host_chosen side config) (sizes side) are (known_here (says side) side config own_id (wrote log) (kept_in log) h.state _ wc ws (heads (kept_in log) kept_front) kept) kept;
    }
