-- Runs of a side: the facts that the joint theorem uses, and runs that go on.
use Rattle.std.proofs.Common.{◌≡◌, ℕ, ◌+◌, ◌≤◌, List, [], ◌∷◌, ◌++◌, length, map, take, slice_get, refl, sym, ◌∙◌, ap, subst, arith, Option, Some, Bool, true, false, if◌then◌else◌, append_assoc, append-nil}
use Rattle.ssh_packet.specs.Stream.{first_place, Reads}
use Rattle.ssh_packet.proofs.Lemmas.{reads_more}
use Rattle.ssh_wire.specs.declared.side.Side.{Side}
use Rattle.ssh_kex.specs.declared.config.Config.{Config}
use Rattle.ssh_kex.specs.declared.exchange.FinishedExchange.{FinishedExchange}
use Rattle.ssh_kex.specs.Exchange.{outgoing}
use Rattle.ssh_wire.specs.Sides.{other_side}
use Rattle.ssh_kex.specs.Setting.{Says}
use Rattle.ssh_rules.specs.Wire.{exchange_block, epochs_ended}
use Rattle.ssh_rules.specs.Machine.{SideState, Event, IdHeard, PayloadSubmitted, ExchangeBegun, AnswerSent, PayloadSent, MessageTaken, GuessDropped, PayloadDelivered, PacketDropped, ExchangeFinished, Steps, first_state}
use Rattle.ssh_rules.specs.Made.{IsRecorded}
use Rattle.ssh_rules.proofs.side.Ledgers.{setting_at}
use Rattle.ssh_rules.specs.Log.{wrote, handled, kept_in, recorded, sent_bytes, read_bytes}
use Rattle.ssh_rules.proofs.pair.Facts.{MadeFrom, SideFacts}
use Rattle.ssh_rules.specs.Snapshots.{HasRun, NoGuesses}
use Rattle.ssh_rules.proofs.side.Places.{written_reads, handled_reads, PlainGuesses}
use Rattle.ssh_rules.proofs.side.Accounts.{kept_run}

pub steps_join : (says : Says) (side : Side) (config : Config) (own_id : List ℕ) (a b : List Event) (st mid st' : SideState) → Steps says side config own_id st a mid → Steps says side config own_id mid b st' → Steps says side config own_id st (a ++ b) st'
steps_join says side config own_id [] b st mid st' h k = subst (λ m. Steps says side config own_id m b st') h k
steps_join says side config own_id (e ∷ a) b st mid st' h k = (h.0, h.1, steps_join says side config own_id a b h.0 mid st' h.2 k)

behind : (x y z w : List ℕ) → y ≡ z ++ w → x ++ y ≡ (x ++ z) ++ w
behind x y z w e = ap (λ t. x ++ t) e ∙ sym (append_assoc x z w)

-- what is sent by events and then by more is both, the second from where the first lead
pub sent_join : (says : Says) (side : Side) (config : Config) (own_id : List ℕ) (a b : List Event) (st mid : SideState) → Steps says side config own_id st a mid → sent_bytes side st.writing (a ++ b) ≡ sent_bytes side st.writing a ++ sent_bytes side mid.writing b
sent_join says side config own_id [] b st mid h = ap (λ (s : SideState). sent_bytes side s.writing b) (sym h)
sent_join says side config own_id (IdHeard id ∷ a) b st mid h = subst (λ (s : SideState). sent_bytes side s.writing (a ++ b) ≡ sent_bytes side s.writing a ++ sent_bytes side mid.writing b) h.1.becomes (sent_join says side config own_id a b h.0 mid h.2)
sent_join says side config own_id (PayloadSubmitted p ∷ a) b st mid h = subst (λ (s : SideState). sent_bytes side s.writing (a ++ b) ≡ sent_bytes side s.writing a ++ sent_bytes side mid.writing b) h.1.becomes (sent_join says side config own_id a b h.0 mid h.2)
sent_join says side config own_id (ExchangeBegun cause i ∷ a) b st mid h = behind _ _ _ _ (subst (λ (s : SideState). sent_bytes side s.writing (a ++ b) ≡ sent_bytes side s.writing a ++ sent_bytes side mid.writing b) h.1.becomes (sent_join says side config own_id a b h.0 mid h.2))
sent_join says side config own_id (AnswerSent i q ∷ a) b st mid h = behind _ _ _ _ (subst (λ (s : SideState). sent_bytes side s.writing (a ++ b) ≡ sent_bytes side s.writing a ++ sent_bytes side mid.writing b) h.1.becomes (sent_join says side config own_id a b h.0 mid h.2))
sent_join says side config own_id (PayloadSent i ∷ a) b st mid h = behind _ _ _ _ (subst (λ (s : SideState). sent_bytes side s.writing (a ++ b) ≡ sent_bytes side s.writing a ++ sent_bytes side mid.writing b) h.1.becomes (sent_join says side config own_id a b h.0 mid h.2))
sent_join says side config own_id (MessageTaken i ∷ a) b st mid h = subst (λ (s : SideState). sent_bytes side s.writing (a ++ b) ≡ sent_bytes side s.writing a ++ sent_bytes side mid.writing b) h.1.becomes (sent_join says side config own_id a b h.0 mid h.2)
sent_join says side config own_id (GuessDropped i ∷ a) b st mid h = subst (λ (s : SideState). sent_bytes side s.writing (a ++ b) ≡ sent_bytes side s.writing a ++ sent_bytes side mid.writing b) h.1.becomes (sent_join says side config own_id a b h.0 mid h.2)
sent_join says side config own_id (PayloadDelivered i ∷ a) b st mid h = subst (λ (s : SideState). sent_bytes side s.writing (a ++ b) ≡ sent_bytes side s.writing a ++ sent_bytes side mid.writing b) h.1.becomes (sent_join says side config own_id a b h.0 mid h.2)
sent_join says side config own_id (PacketDropped i ∷ a) b st mid h = subst (λ (s : SideState). sent_bytes side s.writing (a ++ b) ≡ sent_bytes side s.writing a ++ sent_bytes side mid.writing b) h.1.becomes (sent_join says side config own_id a b h.0 mid h.2)
sent_join says side config own_id (ExchangeFinished i x ∷ a) b st mid h = subst (λ (s : SideState). sent_bytes side s.writing (a ++ b) ≡ sent_bytes side s.writing a ++ sent_bytes side mid.writing b) h.1.becomes (sent_join says side config own_id a b h.0 mid h.2)

pub read_join : (says : Says) (side : Side) (config : Config) (own_id : List ℕ) (a b : List Event) (st mid : SideState) → Steps says side config own_id st a mid → read_bytes side st.reading (a ++ b) ≡ read_bytes side st.reading a ++ read_bytes side mid.reading b
read_join says side config own_id [] b st mid h = ap (λ (s : SideState). read_bytes side s.reading b) (sym h)
read_join says side config own_id (IdHeard id ∷ a) b st mid h = subst (λ (s : SideState). read_bytes side s.reading (a ++ b) ≡ read_bytes side s.reading a ++ read_bytes side mid.reading b) h.1.becomes (read_join says side config own_id a b h.0 mid h.2)
read_join says side config own_id (PayloadSubmitted p ∷ a) b st mid h = subst (λ (s : SideState). read_bytes side s.reading (a ++ b) ≡ read_bytes side s.reading a ++ read_bytes side mid.reading b) h.1.becomes (read_join says side config own_id a b h.0 mid h.2)
read_join says side config own_id (ExchangeBegun cause i ∷ a) b st mid h = subst (λ (s : SideState). read_bytes side s.reading (a ++ b) ≡ read_bytes side s.reading a ++ read_bytes side mid.reading b) h.1.becomes (read_join says side config own_id a b h.0 mid h.2)
read_join says side config own_id (AnswerSent i q ∷ a) b st mid h = subst (λ (s : SideState). read_bytes side s.reading (a ++ b) ≡ read_bytes side s.reading a ++ read_bytes side mid.reading b) h.1.becomes (read_join says side config own_id a b h.0 mid h.2)
read_join says side config own_id (PayloadSent i ∷ a) b st mid h = subst (λ (s : SideState). read_bytes side s.reading (a ++ b) ≡ read_bytes side s.reading a ++ read_bytes side mid.reading b) h.1.becomes (read_join says side config own_id a b h.0 mid h.2)
read_join says side config own_id (MessageTaken i ∷ a) b st mid h = behind _ _ _ _ (subst (λ (s : SideState). read_bytes side s.reading (a ++ b) ≡ read_bytes side s.reading a ++ read_bytes side mid.reading b) h.1.becomes (read_join says side config own_id a b h.0 mid h.2))
read_join says side config own_id (GuessDropped i ∷ a) b st mid h = behind _ _ _ _ (subst (λ (s : SideState). read_bytes side s.reading (a ++ b) ≡ read_bytes side s.reading a ++ read_bytes side mid.reading b) h.1.becomes (read_join says side config own_id a b h.0 mid h.2))
read_join says side config own_id (PayloadDelivered i ∷ a) b st mid h = behind _ _ _ _ (subst (λ (s : SideState). read_bytes side s.reading (a ++ b) ≡ read_bytes side s.reading a ++ read_bytes side mid.reading b) h.1.becomes (read_join says side config own_id a b h.0 mid h.2))
read_join says side config own_id (PacketDropped i ∷ a) b st mid h = behind _ _ _ _ (subst (λ (s : SideState). read_bytes side s.reading (a ++ b) ≡ read_bytes side s.reading a ++ read_bytes side mid.reading b) h.1.becomes (read_join says side config own_id a b h.0 mid h.2))
read_join says side config own_id (ExchangeFinished i x ∷ a) b st mid h = behind _ _ _ _ (subst (λ (s : SideState). read_bytes side s.reading (a ++ b) ≡ read_bytes side s.reading a ++ read_bytes side mid.reading b) h.1.becomes (read_join says side config own_id a b h.0 mid h.2))

pub recorded_is : (says : Says) (side : Side) (config : Config) (own_id : List ℕ) (log : List Event) (st st' : SideState) → Steps says side config own_id st log st' → st'.records ≡ st.records ++ recorded log
recorded_is says side config own_id [] st st' h = ap (λ (s : SideState). s.records) h ∙ sym (append-nil st.records)
recorded_is says side config own_id (IdHeard id ∷ es) st st' h = recorded_is says side config own_id es h.0 st' h.2 ∙ ap (λ (s : SideState). s.records ++ recorded es) h.1.becomes
recorded_is says side config own_id (PayloadSubmitted p ∷ es) st st' h = recorded_is says side config own_id es h.0 st' h.2 ∙ ap (λ (s : SideState). s.records ++ recorded es) h.1.becomes
recorded_is says side config own_id (ExchangeBegun cause i ∷ es) st st' h = recorded_is says side config own_id es h.0 st' h.2 ∙ ap (λ (s : SideState). s.records ++ recorded es) h.1.becomes
recorded_is says side config own_id (AnswerSent i q ∷ es) st st' h = recorded_is says side config own_id es h.0 st' h.2 ∙ ap (λ (s : SideState). s.records ++ recorded es) h.1.becomes
recorded_is says side config own_id (PayloadSent i ∷ es) st st' h = recorded_is says side config own_id es h.0 st' h.2 ∙ ap (λ (s : SideState). s.records ++ recorded es) h.1.becomes
recorded_is says side config own_id (MessageTaken i ∷ es) st st' h = recorded_is says side config own_id es h.0 st' h.2 ∙ ap (λ (s : SideState). s.records ++ recorded es) h.1.becomes
recorded_is says side config own_id (GuessDropped i ∷ es) st st' h = recorded_is says side config own_id es h.0 st' h.2 ∙ ap (λ (s : SideState). s.records ++ recorded es) h.1.becomes
recorded_is says side config own_id (PayloadDelivered i ∷ es) st st' h = recorded_is says side config own_id es h.0 st' h.2 ∙ ap (λ (s : SideState). s.records ++ recorded es) h.1.becomes
recorded_is says side config own_id (PacketDropped i ∷ es) st st' h = recorded_is says side config own_id es h.0 st' h.2 ∙ ap (λ (s : SideState). s.records ++ recorded es) h.1.becomes
recorded_is says side config own_id (ExchangeFinished i x ∷ es) st st' h = recorded_is says side config own_id es h.0 st' h.2 ∙ (ap (λ (s : SideState). s.records ++ recorded es) h.1.becomes ∙ append_assoc st.records (x ∷ []) (recorded es))

pub plain_guesses : (log : List Event) → NoGuesses log → PlainGuesses log
plain_guesses [] h = tt
plain_guesses (IdHeard id ∷ es) h = plain_guesses es h
plain_guesses (PayloadSubmitted p ∷ es) h = plain_guesses es h
plain_guesses (ExchangeBegun cause i ∷ es) h = plain_guesses es h
plain_guesses (AnswerSent i q ∷ es) h = plain_guesses es h
plain_guesses (PayloadSent i ∷ es) h = plain_guesses es h
plain_guesses (MessageTaken i ∷ es) h = plain_guesses es h
plain_guesses (GuessDropped i ∷ es) h = absurd h
plain_guesses (PayloadDelivered i ∷ es) h = plain_guesses es h
plain_guesses (PacketDropped i ∷ es) h = plain_guesses es h
plain_guesses (ExchangeFinished i x ∷ es) h = plain_guesses es h

pub kept_all : (log : List Event) → NoGuesses log → kept_in log ≡ handled log
kept_all [] h = refl
kept_all (IdHeard id ∷ es) h = kept_all es h
kept_all (PayloadSubmitted p ∷ es) h = kept_all es h
kept_all (ExchangeBegun cause i ∷ es) h = kept_all es h
kept_all (AnswerSent i q ∷ es) h = kept_all es h
kept_all (PayloadSent i ∷ es) h = kept_all es h
kept_all (MessageTaken i ∷ es) h = ap (λ x. i ∷ x) (kept_all es h)
kept_all (GuessDropped i ∷ es) h = absurd h
kept_all (PayloadDelivered i ∷ es) h = ap (λ x. i ∷ x) (kept_all es h)
kept_all (PacketDropped i ∷ es) h = ap (λ x. i ∷ x) (kept_all es h)
kept_all (ExchangeFinished i z ∷ es) h = ap (λ x. i ∷ x) (kept_all es h)

-- what an exchange is made of, with the ids that both know
abbrev pub made_by : (side_says : Side → Says) (config : Side → Config) (own_id : Side → List ℕ) (heard : Side → Option (List ℕ)) → MadeFrom
made_by says config own_id heard side own theirs before x = IsRecorded side (says side) (setting_at side (config side) (own_id side) (heard side) before) own theirs x

few_ends : (b : Bool) (n m : ℕ) → m ≡ n + (if b then 1 else 0) → n ≤ m
few_ends true n m e = omega (arith, e)
few_ends false n m e = omega (arith, e)

-- a run that drops no guess has the facts of the joint theorem
pub run_has_facts : (says : Side → Says) (config : Side → Config) (own_id : Side → List ℕ) (heard : Side → Option (List ℕ)) (side : Side) (log : List Event) (st : SideState) (sent fed unfinished : List ℕ) → NoGuesses log → ((n : ℕ) (x : FinishedExchange) → slice_get (recorded log) n ≡ Some x → st.heard ≡ heard side) → HasRun (says side) side (config side) (own_id side) log st sent fed unfinished → SideFacts (made_by says config own_id heard) side (wrote log) (handled log) (recorded log) sent fed unfinished
run_has_facts says config own_id heard side log st sent fed unfinished g e r =
    let k = kept_run (says side) side (config side) (own_id side) log st r.steps in
    let records : st.records ≡ recorded log = recorded_is (says side) side (config side) (own_id side) log first_state st r.steps in
    let kept = kept_all log g in
    record {
      writes = subst (λ v. Reads (Some (first_place (map (outgoing side) (recorded log)))) (wrote log) v []) (sym r.sent_is) (written_reads (says side) side (config side) (own_id side) log first_state st tt tt r.steps);
      reads = subst (λ v. Reads (Some (first_place (map (outgoing (other_side side)) (recorded log)))) (handled log) v unfinished) (sym r.fed_is) (reads_more _ _ _ _ unfinished (handled_reads (says side) side (config side) (own_id side) log first_state st (plain_guesses log g) r.steps));
      each = λ n x h. subst (λ b. IsRecorded side (says side) (setting_at side (config side) (own_id side) (heard side) (take n (recorded log))) (exchange_block n (wrote log)) (exchange_block n b) x) kept
          (subst (λ q. IsRecorded side (says side) (setting_at side (config side) (own_id side) q (take n (recorded log))) (exchange_block n (wrote log)) (exchange_block n (kept_in log)) x) (e n x h)
          (subst (λ q. IsRecorded side (says side) (setting_at side (config side) (own_id side) st.heard (take n q)) (exchange_block n (wrote log)) (exchange_block n (kept_in log)) x) records
          (k.accounts.each n x (subst (λ q. slice_get q n ≡ Some x) (sym records) h))));
      ended = subst (λ b. length (recorded log) ≤ epochs_ended b) kept (subst (λ q. length q ≤ epochs_ended (kept_in log)) records (few_ends _ _ _ k.accounts.theirs.ends_is));
    }
