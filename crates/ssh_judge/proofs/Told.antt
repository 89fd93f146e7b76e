-- What a report tells as delivered lies whole in what was taken.
use Rattle.std.proofs.Common.{◌≡◌, ℕ, zero, suc, ◌<◌, List, [], ◌∷◌, length, take, drop, map, slice_get, refl, sym, ◌∙◌, ap, subst, arith, Some, None}
use Rattle.std.proofs.lemmas.List.{length-take-le, take-append-drop}
use Rattle.std.proofs.Math.Seq.{drop-append_seam, take-append_seam}
use Rattle.ssh_wire.specs.Lines.{id_line}
use Rattle.ssh_wire.specs.declared.side.Side.{Side}
use Rattle.ssh_wire.specs.declared.side.Side.TheVariants.{Client, Server}
use Rattle.ssh_packet.specs.Sealing.{Item}
use Rattle.ssh_packet.specs.Stream.{first_place}
use Rattle.ssh_kex.specs.Exchange.{outgoing}
use Rattle.ssh_kex.specs.Messages.{is_gex}
use Rattle.ssh_kex.specs.declared.exchange.FinishedExchange.{FinishedExchange}
use Rattle.ssh_rules.proofs.Lemmas.{payloads_join}
use Rattle.ssh_rules.specs.Headline.{submitted_by}
use Rattle.ssh_rules.specs.Run.{IsMoment, Moment}
use Rattle.ssh_rules.specs.Wire.{HasFront, LiesWhole, carried_payloads}
use Rattle.ssh_rules.specs.declared.link.Mark.{Mark}
use Rattle.ssh_record.proofs.Lemmas.{effects_length, front_join, front_drop, moment_at, reads_within}
use Rattle.ssh_record.specs.Answers.{AreDelivered}
use Rattle.ssh_record.specs.Packets.{IsGoodWire}
use Rattle.ssh_record.specs.Recordings.{JudgedRecord, config_in, wire_in}
use Rattle.ssh_record.specs.Runs.{RunsBy, half_recorded}

take_front : (n : ℕ) (bytes : List ℕ) → HasFront bytes (take n bytes)
take_front n bytes = (drop n bytes, take-append-drop n bytes)

-- the packets that lie whole in a front of a good wire are its first
first_items : (side : Side) (j : JudgedRecord) (xs : List FinishedExchange) (w : IsGoodWire side j xs) (n : ℕ) (items : List Item) → LiesWhole side (config_in side j) xs (wire_in side j) n items → HasFront w.0 items
first_items side j xs w n items lies =
    let f = front_drop (length (id_line (config_in side j).id)) (wire_in side j) (take n (wire_in side j)) (take_front n (wire_in side j)) in
    let behind : drop (length (id_line (config_in side j).id)) (wire_in side j) ≡ w.1.reads.0 =
    ap (λ t. drop (length (id_line (config_in side j).id)) t) w.1.reads.1 ∙ drop-append_seam (id_line (config_in side j).id) w.1.reads.0 in
    reads_within (Some (first_place (map (outgoing side) xs))) items w.0 (drop (length (id_line (config_in side j).id)) (take n (wire_in side j))) lies.0 w.1.reads.0 f.0
    lies.1.reads w.1.reads.2 (f.1 ∙ behind)

payloads_front : (all items : List Item) → HasFront all items → HasFront (carried_payloads all) (carried_payloads items)
payloads_front all items f = (carried_payloads f.0, sym (payloads_join items f.0) ∙ ap carried_payloads f.1)

-- as many of a list as stand in a front of it
take_of_front : (all front : List (List ℕ)) → HasFront all front → take (length front) all ≡ front
take_of_front all front f = ap (λ t. take (length front) t) (sym f.1) ∙ take-append_seam front f.0

pub delivered_told : (side : Side) (j : JudgedRecord) (xs : List FinishedExchange) → IsGoodWire side j xs → (taken delivered : ℕ) (theirs : List Item) (told : List (List ℕ))
    → LiesWhole side (config_in side j) xs (wire_in side j) taken theirs → delivered ≡ length (carried_payloads theirs) → told ≡ take delivered (submitted_by side j.recording.steps) → AreDelivered side j xs taken told
delivered_told side j xs w taken delivered theirs told lies d t =
    let front = front_join (submitted_by side j.recording.steps) (carried_payloads w.0) (carried_payloads theirs) w.1.payloads (payloads_front w.0 theirs (first_items side j xs w taken theirs lies)) in
    (theirs, lies, t ∙ (ap (λ n. take n (submitted_by side j.recording.steps)) d ∙ take_of_front (submitted_by side j.recording.steps) (carried_payloads theirs) front))

-- ---- at the last mark

get_moment : (moments : List Moment) (marks : List Mark) (k : ℕ) (last : Mark) → map (λ (m : Moment). m.mark) moments ≡ marks → slice_get marks k ≡ Some last → (m : Moment) × (slice_get moments k ≡ Some m) × (m.mark ≡ last)
get_moment moments marks k last e g = by moments k (ap (λ l. slice_get l k) e ∙ g) where
  by : (moments : List Moment) (k : ℕ) → slice_get (map (λ (m : Moment). m.mark) moments) k ≡ Some last → (m : Moment) × (slice_get moments k ≡ Some m) × (m.mark ≡ last)
  by [] k h = absurd (let p : None ≡ Some last = h in cc)
  by (m ∷ moments) zero h = (m, refl, (let p : Some m.mark ≡ Some last = h in cc))
  by (m ∷ moments) (suc k) h = by moments k h

get_some : {A : Type 0} (xs : List A) (k : ℕ) → k < length xs → (x : A) × (slice_get xs k ≡ Some x)
get_some [] k l = absurd (omega (arith, l))
get_some (x ∷ xs) zero l = (x, refl)
get_some (x ∷ xs) (suc k) l = get_some xs k (omega (arith, l))

-- the last mark of a whole run, and what was delivered there
pub record IsTold (j : JudgedRecord) (xs : List FinishedExchange) (marks : List Mark) (client_delivered server_delivered : List (List ℕ)) : Type 0 where
  pub last : Mark
  pub last_is : slice_get marks (length j.recording.steps) ≡ Some last
  pub to_client : AreDelivered Server j xs last.client.taken client_delivered
  pub to_server : AreDelivered Client j xs last.server.taken server_delivered

-- where the first payloads that were submitted are told, as many as the last mark says
abbrev pub TellsFirst : (Mark → ℕ) → Side → JudgedRecord → List Mark → List (List ℕ) → Type 0
TellsFirst many side j marks told = (k : ℕ) (last : Mark) → suc k ≡ length marks → slice_get marks k ≡ Some last → told ≡ take (many last) (submitted_by side j.recording.steps)

pub told : (j : JudgedRecord) (xs : List FinishedExchange) (marks : List Mark) (client_delivered server_delivered : List (List ℕ)) → RunsBy j xs (length j.recording.steps) marks → IsGoodWire Client j xs → IsGoodWire Server j xs
    → TellsFirst (λ m. m.client.delivered) Server j marks client_delivered → TellsFirst (λ m. m.server.delivered) Client j marks server_delivered → IsTold j xs marks client_delivered server_delivered
told j xs marks client_delivered server_delivered runs client server cd sd =
    let many : length marks ≡ suc (length j.recording.steps) = effects_length (take (length j.recording.steps) j.recording.steps) None None marks runs.run.effects
    ∙ ap suc (length-take-le (length j.recording.steps) j.recording.steps (omega arith)) in
    let last = get_some marks (length j.recording.steps) (omega (arith, many)) in
    let at = get_moment runs.run.moments marks (length j.recording.steps) last.0 runs.run.marks_are last.1 in
    let m : IsMoment (is_gex j.names.kex) (half_recorded Client j xs) (half_recorded Server j xs) at.0 =
    moment_at (is_gex j.names.kex) (half_recorded Client j xs) (half_recorded Server j xs) runs.run.moments (length j.recording.steps) at.0 runs.run.each at.1 in
    record {
      last = last.0;
      last_is = last.1;
      to_client = subst (λ (x : Mark). AreDelivered Server j xs x.client.taken client_delivered) at.2
          (delivered_told Server j xs server (at.0).mark.client.taken (at.0).mark.client.delivered (at.0).client_theirs client_delivered m.at_client.taken_whole m.at_client.delivered
          (cd (length j.recording.steps) last.0 (sym many) last.1 ∙ ap (λ (x : Mark). take x.client.delivered (submitted_by Server j.recording.steps)) (sym at.2)));
      to_server = subst (λ (x : Mark). AreDelivered Client j xs x.server.taken server_delivered) at.2
          (delivered_told Client j xs client (at.0).mark.server.taken (at.0).mark.server.delivered (at.0).server_theirs server_delivered m.at_server.taken_whole m.at_server.delivered
          (sd (length j.recording.steps) last.0 (sym many) last.1 ∙ ap (λ (x : Mark). take x.server.delivered (submitted_by Client j.recording.steps)) (sym at.2)));
    }
