-- What the report of an attacked side says, from how it stands at the end.
use Rattle.std.proofs.Common.{◌≡◌, ℕ, ◌-◌, List, [], ◌∷◌, ◌++◌, length, take, slice_get, refl, sym, ◌∙◌, ap, subst, Bool, Option, Some, None, is_some, inl, inr}
use Rattle.ssh_packet.specs.Front as front
use Rattle.ssh_packet.specs.Front.{Fault}
use Rattle.ssh_packet.specs.Errors.{error_of, open_error}
use Rattle.ssh_packet.specs.Sealing.{Item}
use Rattle.ssh_wire.specs.Lines.{IdFound, Id, id_line, id_text}
use Rattle.ssh_wire.specs.declared.error.Error.{Error}
use Rattle.ssh_wire.specs.declared.error.Error.TheVariants as errors
use Rattle.ssh_wire.specs.declared.side.Side.{Side}
use Rattle.ssh_wire.specs.declared.side.Side.TheVariants.{Client, Server}
use Rattle.ssh_wire.proofs.Lemmas.{AreBytes-drop}
use Rattle.ssh_wire.specs.Forms.{AreBytes}
use Rattle.ssh_kex.specs.Refusals.{Denies, RefusesMessage}
use Rattle.ssh_kex.specs.Setting.{Says, Setting}
use Rattle.ssh_kex.specs.Stages.{Stage}
use Rattle.ssh_kex.specs.declared.config.Config.{Config}
use Rattle.ssh_kex.specs.declared.exchange.FinishedExchange.{FinishedExchange}
use Rattle.ssh_kex.specs.declared.exchange.ServerHost.{ServerHost}
use Rattle.ssh_rules.specs.AnyParts.{IsSigned}
use Rattle.ssh_rules.specs.Attacked.{EndsAsAnswered, Handed, IsAttackedSide, IsOrdered, IsPrompt, until_end, block_names, host_in, kind_in, still_strict}
use Rattle.ssh_rules.specs.Guess.{BeforeKexinit, ends_epoch, without_guesses}
use Rattle.ssh_rules.specs.Handled.{AllRead, AtFault, AtPacket, Ending, Handled, heard_in, id_text_in, packets_in}
use Rattle.ssh_rules.specs.Log.{delivered_in, handled, read_bytes, recorded, sent_bytes, submitted_in, wrote}
use Rattle.ssh_rules.specs.Machine.{Event, SideState, Steps, first_state}
use Rattle.ssh_rules.specs.Marks.{kexinits}
use Rattle.ssh_rules.specs.Parts.{Accepting, Secrets, Trusting}
use Rattle.ssh_rules.specs.Refusing.{AnswersCause}
use Rattle.ssh_rules.specs.RunLaws.{RunSays}
use Rattle.ssh_rules.specs.Standing.{OfFault, OfMemory, OfPacket, OfVersion, RefusalCause, Standing}
use Rattle.ssh_rules.specs.Valid.{HasSizes, config_fault}
use Rattle.ssh_rules.specs.Wire.{IsWire, carried_payloads, exchange_block}
use Rattle.ssh_rules.specs.declared.link.SideReport.{SideReport}
use Rattle.ssh_rules.proofs.side.Accounts.{kept_run}
use Rattle.ssh_rules.proofs.any_bytes.AllOpened.{run_refused}
use Rattle.ssh_rules.proofs.any_bytes.Attacked.{run_keyed, run_signed}
use Rattle.ssh_rules.proofs.side.Discharged.{none_early}
use Rattle.ssh_rules.proofs.side.Numbers.{few_run}
use Rattle.ssh_rules.proofs.pair.Prefix.{AreFew, keyed}
use Rattle.ssh_rules.proofs.side.Valid.{write_limit}
use Rattle.ssh_rules.proofs.any_bytes.FedSides.{FailedSide, LiveSide, RefusedNext}
use Rattle.ssh_rules.proofs.side.Ran.{recorded_is}
use Rattle.ssh_rules.proofs.headline.Reported.{Answered, TellsAgreement}
use Rattle.ssh_rules.proofs.any_bytes.RunHandled.{run_faulted, run_handled}
use Rattle.ssh_rules.proofs.side.RunSays.{rest_says, run_says}
use Rattle.ssh_rules.proofs.side.Tallied.{tally_run}

-- what the sides' parts say, of one side
pub record Told (says : Says) (agrees : Secrets) (lawful : Type 0) (accepts : Accepting) (trusts : Trusting) (side : Side) (config : Config) : Type 0 where
  pub valid : config_fault side config ≡ None
  pub sizes : HasSizes config
  pub tells : lawful → TellsAgreement says agrees
  pub answered : side ≡ Client → Answered says accepts trusts

-- a run, as a report shows it
pub record ShownRun (side : Side) (config : Config) (log : List Event) (st : SideState) (handed : Handed) (r : SideReport) : Type 0 where
  pub heard : st.heard ≡ id_text_in (heard_in side handed.fed)
  pub submitted : submitted_in log ≡ handed.accepted
  pub taken : r.taken ≡ length handed.fed
  pub wire : r.wire ≡ id_line config.id ++ sent_bytes side first_state.writing log
  pub delivered : r.delivered ≡ delivered_in log
  pub exchanges : r.exchanges ≡ recorded log

-- a side that recorded an exchange has heard the other's id
none_recorded : (says : Says) (side : Side) (config : Config) (own_id : List ℕ) (log : List Event) (st : SideState) → Steps says side config own_id first_state log st → st.heard ≡ None → recorded log ≡ []
none_recorded says side config own_id log st h e =
    let t = tally_run says side config own_id log st h in
    let k = kept_run says side config own_id log st h in
    sym (recorded_is says side config own_id log first_state st h) ∙ k.accounts.silent (t.unheard e)

heard_some : (x : Option (List ℕ)) (none : x ≡ None → ⊥) → (heard : List ℕ) × (x ≡ Some heard)
heard_some None none = absurd (none refl)
heard_some (Some h) none = (h, refl)

no_get : (k : ℕ) (x : FinishedExchange) (xs : List FinishedExchange) → slice_get xs k ≡ Some x → xs ≡ [] → ⊥
no_get k x [] g e = cc
no_get k x (y ∷ ys) g e = cc

signed_by : (says : Says) (accepts : Accepting) (trusts : Trusting) (side : Side) (config : Config) (log : List Event) (st : SideState) → Answered says accepts trusts → Steps says side config (id_text config.id) first_state log st → side ≡ Client → (k : ℕ) (x : FinishedExchange) → slice_get (recorded log) k ≡ Some x
    → IsSigned accepts trusts (exchange_block k (without_guesses side config BeforeKexinit (handled log))) x
signed_by says accepts trusts Client config log st a h e k x g = run_signed says accepts trusts config (id_text config.id) log st a h k x g
signed_by says accepts trusts Server config log st a h e k x g = absurd (let z : Server ≡ Client = e in cc)

-- What a report says of a side, and of the same packets what the order and the prefix theorem rest on.
pub record SideShown (agrees : Secrets) (lawful : Type 0) (accepts : Accepting) (trusts : Trusting) (side : Side) (config : Config) (log : List Event) (ends : Ending) (handed : Handed) (r : SideReport) : Type 0 where
  pub says_it : IsAttackedSide agrees lawful accepts trusts side config handed r
  pub own_is : says_it.own ≡ wrote log
  pub handled_is : says_it.handled ≡ Rattle.ssh_rules.specs.Log.handled log
  pub exchanges_is : r.exchanges ≡ recorded log
  pub ending_is : says_it.ending ≡ ends
  pub ordered : IsOrdered side config r.exchanges says_it.handled
  pub few : AreFew (keyed 0 0 says_it.own)
  pub quiet : carried_payloads (until_end (ends_epoch side config) [] says_it.handled) ≡ []

pub says_side : (says : Says) (agrees : Secrets) (lawful : Type 0) (accepts : Accepting) (trusts : Trusting) (side : Side) (config : Config) (log : List Event) (st : SideState) (handed : Handed) (r : SideReport) (ending : Ending) → Told says agrees lawful accepts trusts side config → Steps says side config (id_text config.id) first_state log st → ShownRun side config log st handed r
    → Handled side config (recorded log) (packets_in (heard_in side handed.fed) handed.fed) (handled log) ending → EndsAsAnswered handed.refusal (heard_in side handed.fed) ending
    → (handed.refusal ≡ None → IsPrompt side config (kind_in (block_names side config (still_strict (recorded log)) (exchange_block (kexinits (wrote log) - 1) (without_guesses side config BeforeKexinit (handled log))))) (submitted_in log) (wrote log) (without_guesses side config BeforeKexinit (handled log)) (is_some st.heard) handed.asked)
    → SideShown agrees lawful accepts trusts side config log ending handed r
says_side says agrees lawful accepts trusts side config log st handed r ending t h v reads ended prompt = record {
  says_it = record {
    handled = handled log;
    own = wrote log;
    ending = ending;
    kept = kept;
    kept_is = refl;
    taken = v.taken;
    reads = subst (λ xs. Handled side config xs (packets_in (heard_in side handed.fed) handed.fed) (handled log) ending) (sym v.exchanges) reads;
    ended = ended;
    delivered = v.delivered ∙ facts.delivered;
    wire = subst (λ xs. IsWire side config (λ k. kind_in (block_names side config (still_strict (take k xs)) (exchange_block k kept))) (λ k. host_in side config (block_names side config (still_strict (take k xs)) (exchange_block k kept))) handed.accepted xs r.wire (wrote log)) (sym v.exchanges)
        (subst (λ w. IsWire side config (λ k. kind_in (block_names side config (still_strict (take k (recorded log))) (exchange_block k kept))) (λ k. host_in side config (block_names side config (still_strict (take k (recorded log))) (exchange_block k kept))) handed.accepted (recorded log) w (wrote log)) (sym v.wire)
        (subst (λ a. IsWire side config (λ k. kind_in (block_names side config (still_strict (take k (recorded log))) (exchange_block k kept))) (λ k. host_in side config (block_names side config (still_strict (take k (recorded log))) (exchange_block k kept))) a (recorded log) (id_line config.id ++ sent_bytes side first_state.writing log) (wrote log)) v.submitted facts.wire));
    recorded = ap length v.exchanges ∙ facts.recorded_all;
    named = λ k x g. subst (λ xs. Rattle.ssh_rules.specs.Attacked.IsNamed side config (take k xs) (exchange_block k kept) x) (sym v.exchanges) (facts.named k x (subst (λ xs. slice_get xs k ≡ Some x) v.exchanges g));
    keyed = λ l k x g.
        let e : slice_get (recorded log) k ≡ Some x = subst (λ xs. slice_get xs k ≡ Some x) v.exchanges g in
        let s = heard_some st.heard (λ n. no_get k x (recorded log) e (none_recorded says side config (id_text config.id) log st h n)) in
        (s.0, sym v.heard ∙ s.1, run_keyed says agrees side config log st s.0 (t.tells l) s.1 h k x e);
    signed = λ c k x g. signed_by says accepts trusts side config log st (t.answered c) h c k x (subst (λ xs. slice_get xs k ≡ Some x) v.exchanges g);
    prompt = λ n.
        subst (λ xs. IsPrompt side config (kind_in (block_names side config (still_strict xs) (exchange_block (kexinits (wrote log) - 1) kept))) handed.accepted (wrote log) kept (is_some (id_text_in (heard_in side handed.fed))) handed.asked) (sym v.exchanges)
        (subst (λ q. IsPrompt side config (kind_in (block_names side config (still_strict (recorded log)) (exchange_block (kexinits (wrote log) - 1) kept))) handed.accepted (wrote log) kept (is_some q) handed.asked) v.heard
        (subst (λ a. IsPrompt side config (kind_in (block_names side config (still_strict (recorded log)) (exchange_block (kexinits (wrote log) - 1) kept))) a (wrote log) kept (is_some st.heard) handed.asked) v.submitted (prompt n)));
  };
  own_is = refl;
  handled_is = refl;
  exchanges_is = v.exchanges;
  ending_is = refl;
  ordered = subst (λ xs. IsOrdered side config xs (handled log)) (sym v.exchanges) facts.ordered;
  few = few_run says side config (id_text config.id) log st (write_limit side config t.valid) h;
  quiet = none_early says side config (id_text config.id) log st h;
} where
  kept : List Item
  kept = without_guesses side config BeforeKexinit (handled log)

  facts : RunSays side config log
  facts = run_says says side config (id_text config.id) log st t.valid t.sizes h

-- what is reported of a side
abbrev pub shown_side : Standing → List ℕ → List (List ℕ) → SideReport
shown_side t fed delivered = record { wire = t.output; taken = length fed; delivered = delivered; exchanges = t.state.records }

abbrev pub handed_as : List ℕ → List (List ℕ) → Option Error → Bool → Handed
handed_as fed accepted refusal asked = record { fed = fed; accepted = accepted; refusal = refusal; asked = asked }

-- ---- a side that refused nothing

pub live_says : (says : Says) (agrees : Secrets) (lawful : Type 0) (accepts : Accepting) (trusts : Trusting) (side : Side) (config : Config) (log : List Event) (t : Standing) (fed : List ℕ) (accepted delivered : List (List ℕ)) (asked : Bool) → Told says agrees lawful accepts trusts side config → LiveSide says side config log t fed accepted delivered asked
    → SideShown agrees lawful accepts trusts side config log AllRead (handed_as fed accepted None asked) (shown_side t fed delivered)
live_says says agrees lawful accepts trusts side config log t fed accepted delivered asked told s =
    let rest = rest_says says side config (id_text config.id) log t.state (packets_in (heard_in side fed) fed) t.waiting asked told.valid s.steps s.quiet s.line.read s.part s.rekeyed in
    says_side says agrees lawful accepts trusts side config log t.state (handed_as fed accepted None asked) (shown_side t fed delivered) AllRead told s.steps
    (record { heard = s.line.heard_as; submitted = s.submitted; taken = refl; wire = s.output; delivered = s.delivered_is; exchanges = recorded_is says side config (id_text config.id) log first_state t.state s.steps })
    rest.reads refl (λ n. rest.prompt)

-- ---- a side that was refused

abbrev pub ending_of : RefusalCause → Ending
ending_of (OfFault fault) = AtFault fault
ending_of (OfPacket i) = AtPacket i
ending_of OfVersion = AllRead
ending_of OfMemory = AllRead

taken_ends : (says : Says) (denies : Denies) (s : Setting) (stage : Stage) (seqn : ℕ) (payload : List ℕ) (found : IdFound) (i : Item) (e : Error) → RefusesMessage says denies s stage seqn payload e → (e ≡ errors.Memory → ⊥) → EndsAsAnswered (Some e) found (AtPacket i)
taken_ends says denies s stage seqn payload found i errors.KexInit r not = (i, refl)
taken_ends says denies s stage seqn payload found i errors.UnknownAlgo r not = (i, refl)
taken_ends says denies s stage seqn payload found i (errors.NoCommonAlgo kind ours theirs) r not = (i, refl)
taken_ends says denies s stage seqn payload found i errors.Version r not = absurd r
taken_ends says denies s stage seqn payload found i errors.Kex r not = (i, refl)
taken_ends says denies s stage seqn payload found i errors.PacketAuth r not = absurd r
taken_ends says denies s stage seqn payload found i errors.Inconsistent r not = (i, refl)
taken_ends says denies s stage seqn payload found i errors.IndexOutOfBounds r not = absurd r
taken_ends says denies s stage seqn payload found i errors.UnknownKey r not = (i, refl)
taken_ends says denies s stage seqn payload found i errors.WrongServerSig r not = (i, refl)
taken_ends says denies s stage seqn payload found i (errors.PacketSize n) r not = inr (i, refl)
taken_ends says denies s stage seqn payload found i errors.Disconnect r not = (i, refl)
taken_ends says denies s stage seqn payload found i errors.DecryptionError r not = absurd r
taken_ends says denies s stage seqn payload found i errors.IO r not = absurd r
taken_ends says denies s stage seqn payload found i (errors.StrictKeyExchangeViolation type place) r not = (i, refl)
taken_ends says denies s stage seqn payload found i errors.Signature r not = (i, refl)
taken_ends says denies s stage seqn payload found i (errors.SshEncoding fault) r not = (i, refl)
taken_ends says denies s stage seqn payload found i (errors.InvalidConfig fault) r not = absurd r
taken_ends says denies s stage seqn payload found i errors.Memory r not = absurd (not refl)

at_error : (found : IdFound) (ending : Ending) (e f : Error) → e ≡ f → EndsAsAnswered (Some f) found ending → EndsAsAnswered (Some e) found ending
at_error found ending e f s h = subst (λ x. EndsAsAnswered (Some x) found ending) (sym s) h

fault_ending : (found : IdFound) (fault : Fault) → EndsAsAnswered (Some (error_of (open_error fault))) found (AtFault fault)
fault_ending found (front.PacketSize n) = inl refl
fault_ending found front.PacketAuth = refl
fault_ending found front.DecryptionError = refl
fault_ending found front.IndexOutOfBounds = refl

pub ends_as : (says : Says) (denies : Denies) (untrusted : ServerHost → Type 0) (side : Side) (config : Config) (fed left : List ℕ) (cause : RefusalCause) (at : SideState) (e : Error) → AnswersCause says denies untrusted side config cause at e → (e ≡ errors.Memory → ⊥) → RefusedNext cause side fed at left → EndsAsAnswered (Some e) (heard_in side fed) (ending_of cause)
ends_as says denies untrusted side config fed left (OfFault fault) at e a not n = at_error (heard_in side fed) (AtFault fault) e _ a (fault_ending (heard_in side fed) fault)
ends_as says denies untrusted side config fed left (OfPacket i) at e a not n = elim a [
  | inl d ↦ at_error (heard_in side fed) (AtPacket i) e _ d.error_is (i, refl)
  | inr a ↦ elim a [
    | inl o ↦ at_error (heard_in side fed) (AtPacket i) e _ o.error_is (i, refl)
    | inr a ↦ elim a [
      | inl t ↦ taken_ends says denies _ t.stage _ i.payload (heard_in side fed) i e t.refuses not
      | inr a ↦ elim a [ inl u ↦ at_error (heard_in side fed) (AtPacket i) e _ u.error_is (i, refl) | inr p ↦ at_error (heard_in side fed) (AtPacket i) e _ p.error_is (i, refl) ]
    ]
  ]
]
ends_as says denies untrusted side config fed left OfVersion at e a not n = at_error (heard_in side fed) AllRead e _ a (n.0, refl)
ends_as says denies untrusted side config fed left OfMemory at e a not n = absurd n

left_bytes : (side : Side) (fed done left : List ℕ) (text : List ℕ) (end : ℕ) → heard_in side fed ≡ Id text end → packets_in (heard_in side fed) fed ≡ done ++ left → AreBytes fed → AreBytes left
left_bytes side fed done left text end h r b =
    subst (λ (q : List ℕ). AreBytes q) (Rattle.ssh_rules.proofs.pair.IdLines.drop_line done left) (AreBytes-drop (length done) (done ++ left) (subst (λ (q : List ℕ). AreBytes q) (ap (λ f. packets_in f fed) (sym h) ∙ r) (AreBytes-drop end fed b)))

pub handled_by_cause : (says : Says) (side : Side) (config : Config) (log : List Event) (at : SideState) (cause : RefusalCause) (fed left : List ℕ) → Steps says side config (id_text config.id) first_state log at → packets_in (heard_in side fed) fed ≡ read_bytes side first_state.reading log ++ left → AreBytes fed → RefusedNext cause side fed at left
    → Handled side config (recorded log) (packets_in (heard_in side fed) fed) (handled log) (ending_of cause)
handled_by_cause says side config log at (OfFault fault) fed left h r b n = run_faulted says side config (id_text config.id) log at (packets_in (heard_in side fed) fed) left fault h r n.1
handled_by_cause says side config log at (OfPacket i) fed left h r b n = run_refused says side config (id_text config.id) log at (packets_in (heard_in side fed) fed) left n.1.0 i (left_bytes side fed (read_bytes side first_state.reading log) left n.0.0 n.0.1 n.0.2 r b) h r n.1.1
handled_by_cause says side config log at OfVersion fed left h r b n = run_handled says side config (id_text config.id) log at (packets_in (heard_in side fed) fed) left h r n.1
handled_by_cause says side config log at OfMemory fed left h r b n = absurd n

no_refusal : (e : Error) → Some e ≡ None → ⊥
no_refusal e h = cc

pub failed_says : (says : Says) (denies : Denies) (untrusted : ServerHost → Type 0) (agrees : Secrets) (lawful : Type 0) (accepts : Accepting) (trusts : Trusting) (side : Side) (config : Config) (log : List Event) (at : SideState) (cause : RefusalCause) (t : Standing) (fed : List ℕ) (accepted delivered : List (List ℕ)) (asked : Bool) (e : Error) → Told says agrees lawful accepts trusts side config → FailedSide says side config log at cause t fed accepted delivered → AnswersCause says denies untrusted side config cause at e → (e ≡ errors.Memory → ⊥)
    → SideShown agrees lawful accepts trusts side config log (ending_of cause) (handed_as fed accepted (Some e) asked) (shown_side t fed delivered)
failed_says says denies untrusted agrees lawful accepts trusts side config log at cause t fed accepted delivered asked e told f a not =
    says_side says agrees lawful accepts trusts side config log at (handed_as fed accepted (Some e) asked) (shown_side t fed delivered) (ending_of cause) told f.steps
    (record { heard = f.heard; submitted = f.submitted; taken = refl; wire = f.output; delivered = f.delivered_is; exchanges = f.records ∙ recorded_is says side config (id_text config.id) log first_state at f.steps })
    (handled_by_cause says side config log at cause fed f.left f.steps f.read f.bytes f.next)
    (ends_as says denies untrusted side config fed f.left cause at e a not f.next)
    (λ n. absurd (no_refusal e n))
