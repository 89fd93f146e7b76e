-- A wire and a run under the exchanges that one side recorded are such under all exchanges of the record.
use Rattle.std.proofs.Common.{◌≡◌, ℕ, List, [], ◌∷◌, ◌++◌, length, take, drop, map, refl, ◌∙◌, ap, Option, Some, Bool}
use Rattle.std.proofs.Math.Seq.{drop-append_seam}
use Rattle.std.proofs.lemmas.List.{take-append-drop}
use Rattle.ssh_packet.specs.Sealing.{Item}
use Rattle.ssh_packet.specs.Stream.{first_place, Reads}
use Rattle.ssh_wire.specs.Lines.{id_line}
use Rattle.ssh_wire.specs.declared.side.Side.{Side}
use Rattle.ssh_kex.specs.Exchange.{outgoing}
use Rattle.ssh_kex.specs.declared.config.Config.{Config}
use Rattle.ssh_kex.specs.declared.exchange.FinishedExchange.{FinishedExchange}
use Rattle.ssh_rules.specs.Marks.{Half, IsMarked}
use Rattle.ssh_rules.specs.Run.{AllMoments, IsRun, Moment}
use Rattle.ssh_rules.specs.Wire.{HasFront, IsWire, LiesWhole}
use Rattle.ssh_rules.specs.declared.link.Mark.{Mark}
use Rattle.ssh_rules.specs.declared.link.SideMark.{SideMark}
use Rattle.ssh_rules.specs.declared.link.Step.{Step}
use Rattle.ssh_record.proofs.Readings.{Wider, begins_outgoing, entries_wider, padded_wider, reads_wider}
use Rattle.ssh_record.proofs.RunFronts.{front_drop}

wide : (side : Side) (xs ys : List FinishedExchange) → HasFront xs ys → Wider (first_place (map (outgoing side) ys)) (first_place (map (outgoing side) xs))
wide side xs ys f = record { sealing = refl; number = refl; openings = begins_outgoing side ys xs f }

pub wire_wider : (side : Side) (config : Config) (kind : ℕ → Bool) (host : ℕ → Option (List ℕ)) (submitted : List (List ℕ)) (xs ys : List FinishedExchange) (bytes : List ℕ) (items : List Item) → HasFront xs ys → IsWire side config kind host submitted ys bytes items → IsWire side config kind host submitted xs bytes items
wire_wider side config kind host submitted xs ys bytes items f w = record {
  reads = (w.reads.0, w.reads.1, reads_wider (Some (first_place (map (outgoing side) ys))) (Some (first_place (map (outgoing side) xs))) items w.reads.0 [] (wide side xs ys f) w.reads.2);
  padded = padded_wider (Some (first_place (map (outgoing side) ys))) (Some (first_place (map (outgoing side) xs))) items (wide side xs ys f) w.padded;
  payloads = w.payloads;
  blocks = w.blocks;
  forms = w.forms;
}

-- a half's wire, whole
pub record IsReadHalf (h : Half) : Type 0 where
  pub items : List Item
  pub packets : List ℕ
  pub line : h.wire ≡ id_line h.config.id ++ packets
  pub reads : Reads (Some (first_place (map (outgoing h.side) h.exchanges))) items packets []

abbrev pub with_exchanges : Half → List FinishedExchange → Half
with_exchanges h xs = record h { exchanges = xs }

pub marked_wider : (kind : Bool) (h o : Half) (xs : List FinishedExchange) (m other : SideMark) (own theirs : List Item) → HasFront xs h.exchanges → HasFront xs o.exchanges → IsReadHalf o → IsMarked kind h o m other own theirs → IsMarked kind (with_exchanges h xs) (with_exchanges o xs) m other own theirs
marked_wider kind h o xs m other own theirs f g r k =
    let line = length (id_line o.config.id) in
    let fed = drop line (take m.taken o.wire) in
    let front : HasFront (drop line o.wire) fed = front_drop line o.wire (take m.taken o.wire) (drop m.taken o.wire, take-append-drop m.taken o.wire) in
    let behind : drop line o.wire ≡ r.packets = ap (drop line) r.line ∙ drop-append_seam (id_line o.config.id) r.packets in
    record {
      sent = reads_wider (Some (first_place (map (outgoing h.side) h.exchanges))) (Some (first_place (map (outgoing h.side) xs))) own _ [] (wide h.side xs h.exchanges f) k.sent;
      reaches = k.reaches;
      within = k.within;
      taken = k.taken;
      taken_whole = (k.taken_whole.0, entries_wider (map (outgoing o.side) o.exchanges) (map (outgoing o.side) xs) theirs r.items fed k.taken_whole.0 front.0 r.packets (begins_outgoing o.side o.exchanges xs g) k.taken_whole.1 r.reads (front.1 ∙ behind));
      delivered = k.delivered;
      finished = k.finished;
      inside = k.inside;
      outside_sent = k.outside_sent;
      outside_written = k.outside_written;
      outside_read = k.outside_read;
      starts = k.starts;
      answers = k.answers;
      prompt = k.prompt;
    }

moments_wider : (kind : Bool) (client server : Half) (xs : List FinishedExchange) (moments : List Moment) → HasFront xs client.exchanges → HasFront xs server.exchanges → IsReadHalf client → IsReadHalf server → AllMoments kind client server moments → AllMoments kind (with_exchanges client xs) (with_exchanges server xs) moments
moments_wider kind client server xs [] f g r s h = tt
moments_wider kind client server xs (m ∷ moments) f g r s h = (
  record {
    at_client = marked_wider kind client server xs m.mark.client m.mark.server m.client_own m.client_theirs f g s h.0.at_client;
    at_server = marked_wider kind server client xs m.mark.server m.mark.client m.server_own m.server_theirs g f r h.0.at_server;
  },
  moments_wider kind client server xs moments f g r s h.1,
)

pub run_wider : (kind : Bool) (client server : Half) (xs : List FinishedExchange) (steps : List Step) (marks : List Mark) → HasFront xs client.exchanges → HasFront xs server.exchanges → IsReadHalf client → IsReadHalf server → IsRun kind client server steps marks → IsRun kind (with_exchanges client xs) (with_exchanges server xs) steps marks
run_wider kind client server xs steps marks f g r s run = record {
  moments = run.moments;
  marks_are = run.marks_are;
  each = moments_wider kind client server xs run.moments f g r s run.each;
  first = (run.first.0, run.first.1, record { of_client = run.first.2.of_client; of_server = run.first.2.of_server });
  effects = run.effects;
  begins_one = run.begins_one;
  client_causes = run.client_causes;
  server_causes = run.server_causes;
}

-- what lies whole in the first bytes
pub lies_wider : (side : Side) (config : Config) (xs ys : List FinishedExchange) (wire : List ℕ) (n : ℕ) (all items : List Item) (packets : List ℕ) → HasFront xs ys → wire ≡ id_line config.id ++ packets → Reads (Some (first_place (map (outgoing side) ys))) all packets [] → LiesWhole side config ys wire n items → LiesWhole side config xs wire n items
lies_wider side config xs ys wire n all items packets f line reads w =
    let k = length (id_line config.id) in
    let front : HasFront (drop k wire) (drop k (take n wire)) = front_drop k wire (take n wire) (drop n wire, take-append-drop n wire) in
    let behind : drop k wire ≡ packets = ap (drop k) line ∙ drop-append_seam (id_line config.id) packets in
    (w.0, entries_wider (map (outgoing side) ys) (map (outgoing side) xs) items all (drop k (take n wire)) w.0 front.0 packets (begins_outgoing side ys xs f) w.1 reads (front.1 ∙ behind))
