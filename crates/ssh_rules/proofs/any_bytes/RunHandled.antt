-- What a run handled are the packets that can be opened, up to where its reading ends.
use Rattle.std.proofs.Common.{◌≡◌, ℕ, List, [], ◌∷◌, ◌++◌, map, refl, sym, ◌∙◌, ap, subst, Option, Some, None, Bool}
use Rattle.ssh_packet.specs.Sealing.{Item, next_number}
use Rattle.ssh_packet.specs.Stream.{Place, ReadsBy, IsEnd, place_by, is_newkeys}
use Rattle.ssh_packet.specs.Front.{Unfinished, Fault, Refused, front_of}
use Rattle.ssh_wire.specs.declared.side.Side.{Side}
use Rattle.ssh_kex.specs.declared.config.Config.{Config}
use Rattle.ssh_kex.specs.Exchange.{outgoing}
use Rattle.ssh_wire.specs.Sides.{other_side}
use Rattle.ssh_kex.specs.Setting.{Says}
use Rattle.ssh_kex.specs.Stages.{AwaitsNewkeys}
use Rattle.ssh_rules.specs.MessageTypes.{type_of}
use Rattle.ssh_rules.specs.Guess.{BeforeKexinit, guess_behind, ends_epoch}
use Rattle.ssh_rules.specs.Machine.{SideState, setting, Event, IdHeard, PayloadSubmitted, ExchangeBegun, AnswerSent, PayloadSent, MessageTaken, GuessDropped, PayloadDelivered, PacketDropped, ExchangeFinished, Steps}
use Rattle.ssh_rules.specs.Log.{handled, recorded, read_bytes}
use Rattle.ssh_rules.proofs.side.Places.{place_of}
use Rattle.ssh_rules.proofs.side.LedgerSteps.{takes_kex, payload_not_kex, drop_not_kex}
use Rattle.ssh_packet.specs.Stream.{ReadsBy, place_behind_by, first_place}
use Rattle.ssh_rules.specs.Handled.{AllRead, AtFault, Handled}
use Rattle.ssh_rules.specs.Machine.{first_state}
use Rattle.ssh_rules.proofs.side.Discharged.{reads_alike}
use Rattle.ssh_rules.proofs.any_bytes.Guessing.{GuessAt, ReadsAlike, guess_step, guess_snoc, read_by_guesses, part_ends, fault_ends, and_not, and_is, and_no, stays, finishes_guess, not_kex_types}
use Rattle.std.proofs.Common.{append_assoc}

-- bytes behind change nothing of what is read
pub reads_by_more : (E : List Item → Item → Bool) (before : List Item) (at : Option Place) (items : List Item) (bytes x rest : List ℕ) → ReadsBy E before at items bytes x → ReadsBy E before at items (bytes ++ rest) (x ++ rest)
reads_by_more E before at [] bytes x rest h = ap (λ q. q ++ rest) h
reads_by_more E before None (i ∷ items) bytes x rest h = absurd h
reads_by_more E before (Some at) (i ∷ items) bytes x rest h = (h.0 ++ rest, h.1, ap (λ q. q ++ rest) h.2 ∙ append_assoc _ h.0 rest, reads_by_more E (before ++ i ∷ []) (place_by (E before i) at i) items h.0 x rest h.3)

-- ---- where a reader stands behind what it handled

abbrev BehindOn : Side → Config → List Item → List Event → SideState → SideState → Type 0
BehindOn side config before es st' m = place_behind_by (ends_epoch side config) before (Some (place_of m.reading (map (outgoing (other_side side)) (recorded es)))) (handled es) ≡ Some (place_of st'.reading [])

behind_one : (side : Side) (config : Config) (before : List Item) (at : Place) (i : Item) (items : List Item) (p q : Option Place) → place_by (ends_epoch side config before i) at i ≡ p → place_behind_by (ends_epoch side config) (before ++ i ∷ []) p items ≡ q → place_behind_by (ends_epoch side config) before (Some at) (i ∷ items) ≡ q
behind_one side config before at i items p q e f = ap (λ x. place_behind_by (ends_epoch side config) (before ++ i ∷ []) x items) e ∙ f

pub behind_handled : (says : Says) (side : Side) (config : Config) (own_id : List ℕ) (es : List Event) (before : List Item) (st st' : SideState) → ReadsAlike side config → GuessAt st.stands (guess_behind side config BeforeKexinit before) → Steps says side config own_id st es st' → BehindOn side config before es st' st
behind_handled says side config own_id [] before st st' al at h = ap (λ (m : SideState). Some (place_of m.reading [])) (sym h)
behind_handled says side config own_id (IdHeard id ∷ es) before st st' al at h =
    let g = guess_step says side config own_id (guess_behind side config BeforeKexinit before) st (IdHeard id) h.0 al at h.1 in
    subst (BehindOn side config before es st') h.1.becomes (behind_handled says side config own_id es before h.0 st' al g.0 h.2)
behind_handled says side config own_id (PayloadSubmitted p ∷ es) before st st' al at h =
    let g = guess_step says side config own_id (guess_behind side config BeforeKexinit before) st (PayloadSubmitted p) h.0 al at h.1 in
    subst (BehindOn side config before es st') h.1.becomes (behind_handled says side config own_id es before h.0 st' al g.0 h.2)
behind_handled says side config own_id (ExchangeBegun cause i ∷ es) before st st' al at h =
    let g = guess_step says side config own_id (guess_behind side config BeforeKexinit before) st (ExchangeBegun cause i) h.0 al at h.1 in
    subst (BehindOn side config before es st') h.1.becomes (behind_handled says side config own_id es before h.0 st' al g.0 h.2)
behind_handled says side config own_id (AnswerSent i q ∷ es) before st st' al at h =
    let g = guess_step says side config own_id (guess_behind side config BeforeKexinit before) st (AnswerSent i q) h.0 al at h.1 in
    subst (BehindOn side config before es st') h.1.becomes (behind_handled says side config own_id es before h.0 st' al g.0 h.2)
behind_handled says side config own_id (PayloadSent i ∷ es) before st st' al at h =
    let g = guess_step says side config own_id (guess_behind side config BeforeKexinit before) st (PayloadSent i) h.0 al at h.1 in
    subst (BehindOn side config before es st') h.1.becomes (behind_handled says side config own_id es before h.0 st' al g.0 h.2)
behind_handled says side config own_id (MessageTaken i ∷ es) before st st' al at h =
    let g = guess_step says side config own_id (guess_behind side config BeforeKexinit before) st (MessageTaken i) h.0 al at h.1 in
    behind_one side config before (place_of st.reading (map (outgoing (other_side side)) (recorded es))) i (handled es) _ _ (stays side config before st.reading _ i (and_no (is_newkeys i) _ (takes_kex says (setting side config own_id st) h.1.stage (next_number st.reading.number) i.payload h.1.answers h.1.next h.1.takes).1))
    (subst (BehindOn side config (before ++ i ∷ []) es st') h.1.becomes (behind_handled says side config own_id es (before ++ i ∷ []) h.0 st' al (subst (GuessAt h.0.stands) (sym (guess_snoc side config BeforeKexinit before i)) g.0) h.2))
behind_handled says side config own_id (GuessDropped i ∷ es) before st st' al at h =
    let g = guess_step says side config own_id (guess_behind side config BeforeKexinit before) st (GuessDropped i) h.0 al at h.1 in
    behind_one side config before (place_of st.reading (map (outgoing (other_side side)) (recorded es))) i (handled es) _ _ (stays side config before st.reading _ i (and_not (is_newkeys i) _ g.1))
    (subst (BehindOn side config (before ++ i ∷ []) es st') h.1.becomes (behind_handled says side config own_id es (before ++ i ∷ []) h.0 st' al (subst (GuessAt h.0.stands) (sym (guess_snoc side config BeforeKexinit before i)) g.0) h.2))
behind_handled says side config own_id (PayloadDelivered i ∷ es) before st st' al at h =
    let g = guess_step says side config own_id (guess_behind side config BeforeKexinit before) st (PayloadDelivered i) h.0 al at h.1 in
    behind_one side config before (place_of st.reading (map (outgoing (other_side side)) (recorded es))) i (handled es) _ _ (stays side config before st.reading _ i (and_no (is_newkeys i) _ (not_kex_types (type_of i) (payload_not_kex (type_of i) h.1.allowed)).1))
    (subst (BehindOn side config (before ++ i ∷ []) es st') h.1.becomes (behind_handled says side config own_id es (before ++ i ∷ []) h.0 st' al (subst (GuessAt h.0.stands) (sym (guess_snoc side config BeforeKexinit before i)) g.0) h.2))
behind_handled says side config own_id (PacketDropped i ∷ es) before st st' al at h =
    let g = guess_step says side config own_id (guess_behind side config BeforeKexinit before) st (PacketDropped i) h.0 al at h.1 in
    behind_one side config before (place_of st.reading (map (outgoing (other_side side)) (recorded es))) i (handled es) _ _ (stays side config before st.reading _ i (and_no (is_newkeys i) _ (not_kex_types (type_of i) (drop_not_kex (type_of i) h.1.idle)).1))
    (subst (BehindOn side config (before ++ i ∷ []) es st') h.1.becomes (behind_handled says side config own_id es (before ++ i ∷ []) h.0 st' al (subst (GuessAt h.0.stands) (sym (guess_snoc side config BeforeKexinit before i)) g.0) h.2))
behind_handled says side config own_id (ExchangeFinished i x ∷ es) before st st' al at h =
    let g = guess_step says side config own_id (guess_behind side config BeforeKexinit before) st (ExchangeFinished i x) h.0 al at h.1 in
    let t = finishes_guess says side config (AwaitsNewkeys h.1.exchange x h.1.host) i x (guess_behind side config BeforeKexinit before) (subst (λ w. GuessAt w (guess_behind side config BeforeKexinit before)) h.1.inside at) (h.1.payload_is, refl, h.1.trusted) in
    behind_one side config before (place_of st.reading (map (outgoing (other_side side)) (recorded (ExchangeFinished i x ∷ es)))) i (handled es) _ _ (ap (λ b. place_by b (place_of st.reading (map (outgoing (other_side side)) (recorded (ExchangeFinished i x ∷ es)))) i) (and_is (is_newkeys i) _ t.2 t.1))
    (subst (BehindOn side config (before ++ i ∷ []) es st') h.1.becomes (behind_handled says side config own_id es (before ++ i ∷ []) h.0 st' al (subst (GuessAt h.0.stands) (sym (guess_snoc side config BeforeKexinit before i)) g.0) h.2))

-- ---- of any run

pub handled_place : (says : Says) (side : Side) (config : Config) (own_id : List ℕ) (log : List Event) (st : SideState) → Steps says side config own_id first_state log st → place_behind_by (ends_epoch side config) [] (Some (first_place (map (outgoing (other_side side)) (recorded log)))) (handled log) ≡ Some (place_of st.reading [])
handled_place says side config own_id log st h = behind_handled says side config own_id log [] first_state st (reads_alike side config) refl h

pub handled_by : (says : Says) (side : Side) (config : Config) (own_id : List ℕ) (log : List Event) (st : SideState) (bytes rest : List ℕ) → Steps says side config own_id first_state log st → bytes ≡ read_bytes side first_state.reading log ++ rest → ReadsBy (ends_epoch side config) [] (Some (first_place (map (outgoing (other_side side)) (recorded log)))) (handled log) bytes rest
handled_by says side config own_id log st bytes rest h e = subst (λ b. ReadsBy (ends_epoch side config) [] (Some (first_place (map (outgoing (other_side side)) (recorded log)))) (handled log) b rest) (sym e)
    (reads_by_more (ends_epoch side config) [] _ (handled log) (read_bytes side first_state.reading log) [] rest (read_by_guesses says side config own_id log [] first_state st (reads_alike side config) refl h).0)

-- where nothing whole is left, all that can be opened was handled
pub run_handled : (says : Says) (side : Side) (config : Config) (own_id : List ℕ) (log : List Event) (st : SideState) (bytes rest : List ℕ) → Steps says side config own_id first_state log st → bytes ≡ read_bytes side first_state.reading log ++ rest → front_of st.reading.sealing st.reading.number rest ≡ Unfinished → Handled side config (recorded log) bytes (handled log) AllRead
run_handled says side config own_id log st bytes rest h e part =
    let at = handled_place says side config own_id log st h in
    record {
      opened = handled log;
      rest = rest;
      entries = record { reads = handled_by says side config own_id log st bytes rest h e; no_more = subst (λ p. IsEnd p rest) (sym at) (part_ends (place_of st.reading []) rest part) };
      ending_is = (refl, subst (λ p. Rattle.ssh_rules.specs.Handled.EndsInPart p rest) (sym at) part);
    }

-- and where a fault stands next, all up to it
pub run_faulted : (says : Says) (side : Side) (config : Config) (own_id : List ℕ) (log : List Event) (st : SideState) (bytes rest : List ℕ) (fault : Fault) → Steps says side config own_id first_state log st → bytes ≡ read_bytes side first_state.reading log ++ rest → front_of st.reading.sealing st.reading.number rest ≡ Refused fault → Handled side config (recorded log) bytes (handled log) (AtFault fault)
run_faulted says side config own_id log st bytes rest fault h e next =
    let at = handled_place says side config own_id log st h in
    record {
      opened = handled log;
      rest = rest;
      entries = record { reads = handled_by says side config own_id log st bytes rest h e; no_more = subst (λ p. IsEnd p rest) (sym at) (fault_ends (place_of st.reading []) rest fault next) };
      ending_is = (refl, subst (λ p. Rattle.ssh_rules.specs.Handled.IsFault p rest fault) (sym at) next);
    }
