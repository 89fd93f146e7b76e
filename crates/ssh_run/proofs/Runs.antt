-- A clear link between its steps.
use Rattle.std.proofs.Common.{◌≡◌, ℕ, ◌+◌, ◌-◌, ◌<◌, ◌≤◌, List, [], ◌∷◌, ◌++◌, length, take, min, refl, sym, ◌∙◌, ap, subst, arith, true, false, Some, append_assoc, append-nil, length-append, if◌then◌else◌, inl, inr}
use Rattle.ssh_wire.specs.Lines.{id_line, id_of, Id}
use Rattle.ssh_wire.specs.Reading.{IdReading}
use Rattle.ssh_packet.specs.Reading.{Reader}
use Rattle.ssh_packet.specs.Writing.{Writer}
use Rattle.ssh_wire.specs.Sides.{same_side, other_side}
use Rattle.ssh_wire.specs.declared.error.Error.{Error}
use Rattle.ssh_wire.specs.declared.side.Side.{Side}
use Rattle.ssh_wire.specs.declared.side.Side.TheVariants.{Client, Server}
use Rattle.ssh_wire.specs.declared.ssh_id.SshId.{SshId}
use Rattle.ssh_packet.specs.Sealing.{Clear, sealed_packet, next_number}
use Rattle.ssh_run.specs.ClearLink.{IsFresh, Submits, CannotSubmit, Delivers, CannotDeliver, next_piece, StepsOn, CannotStep, TakesWithin}
use Rattle.ssh_run.specs.ClearRun.{IsWholeLine, clear_item, packet_size, clear_wire, submitted_payloads, taken_in, whole_in, first_refused, IsClearSide, IsClearRun, IsRefusedRun}
use Rattle.ssh_rules.specs.Valid.{is_bad_size}
use Rattle.ssh_run.specs.declared.clear_link.ClearEnd.{ClearEnd}
use Rattle.ssh_run.specs.declared.clear_link.ClearLink.{ClearLink}
use Rattle.ssh_run.specs.declared.receiver.Receiver.{Receiver}
use Rattle.ssh_script.specs.declared.report.ClearReport.{ClearReport}
use Rattle.ssh_script.specs.declared.report.ClearSide.{ClearSide}
use Rattle.ssh_script.specs.declared.step.ClearStep.{ClearStep}
use Rattle.ssh_script.specs.declared.step.ClearStep.TheVariants.{Submit, Deliver}
use Rattle.ssh_run.proofs.Sent.{AreSent, length_packet}
use Rattle.ssh_run.proofs.Carried.{HasReadOf, HasReadBy, IsPiece, takes_piece, takes_all}
use Rattle.ssh_run.proofs.Growing.{number_behind, number_behind-push, are_sent_push, clear_wire-push, reads_push, reads_whole}

-- one side, with the payloads it has sent: what it sent, what is sent from here on, and what it takes
pub record Stands (own other : SshId) (side : Side) (all left : List ClearStep) (sent theirs : List (List ℕ)) (now : ClearEnd) : Type 0 where
  pub steps : submitted_payloads side all ≡ sent ++ submitted_payloads side left
  pub output : now.writer.output ≡ clear_wire own sent
  pub number : now.writer.number ≡ number_behind 0 sent
  pub sealing : now.writer.sealing ≡ Clear
  pub admissible : AreSent sent
  pub within : now.taken ≤ length (clear_wire other theirs)
  pub takes : taken_in side (length (id_line other)) all ≡ now.taken + taken_in side (length (clear_wire other theirs) - now.taken) left
  pub reads : HasReadOf other theirs now.taken now.receiver

-- a link with these steps to come
pub record IsUnderWay (client_id server_id : SshId) (all left : List ClearStep) (link : ClearLink) : Type 0 where
  pub client_sent : List (List ℕ)
  pub server_sent : List (List ℕ)
  pub client : Stands client_id server_id Client all left client_sent server_sent link.client
  pub server : Stands server_id client_id Server all left server_sent client_sent link.server
  pub refused : first_refused all ≡ first_refused left

pub within : (client_id server_id : SshId) (all left : List ClearStep) (link : ClearLink) → IsUnderWay client_id server_id all left link → TakesWithin link
within client_id server_id all left link r = record {
  client = subst (λ w. link.client.taken ≤ length w) (sym r.server.output) r.client.within;
  server = subst (λ w. link.server.taken ≤ length w) (sym r.client.output) r.server.within;
  client_sealing = r.client.sealing;
  server_sealing = r.server.sealing;
}

wire_of_none : (id : SshId) → clear_wire id [] ≡ id_line id
wire_of_none id = append-nil (id_line id)

-- at the start
fresh : (own other : SshId) (side : Side) (all : List ClearStep) (now : ClearEnd) → 0 < length (id_line other) → IsFresh own now → Stands own other side all all [] [] now
fresh own other side all now some f = record {
  steps = refl;
  output = f.output ∙ sym (wire_of_none own);
  number = f.number;
  sealing = f.sealing;
  admissible = tt;
  within = omega (arith, f.taken);
  takes =
      let place : length (clear_wire other []) - now.taken ≡ length (id_line other) = omega (arith, f.taken, ap length (wire_of_none other)) in
      sym (ap (λ n. now.taken + taken_in side n all) place ∙ (ap (λ n. n + taken_in side (length (id_line other)) all) f.taken ∙ (let z : 0 + taken_in side (length (id_line other)) all ≡ taken_in side (length (id_line other)) all = omega arith in z)));
  reads =
      let N : IdReading → Type 0 = λ i. HasReadBy i other [] now.taken now.receiver in
      subst N (sym f.line) (record {
        short = omega (arith, f.taken, some);
        waits = sym (ap (λ n. take n (id_line other)) f.taken);
        number = ap (λ (r : Reader). r.number) f.reader;
        empty = ap (λ (r : Reader). r.waiting) f.reader;
        live = ap (λ (r : Reader). r.failed) f.reader;
        none = f.delivered;
      });
}

some_line : (line text : List ℕ) → id_of 0 line ≡ Id text (length line) → 0 < length line
some_line [] text h = absurd (let bad : ⊥ = cc in bad)
some_line (b ∷ line) text h = omega arith

pub starts : (client_id server_id : SshId) (all : List ClearStep) (link : ClearLink) → IsWholeLine client_id → IsWholeLine server_id → IsFresh client_id link.client → IsFresh server_id link.server → IsUnderWay client_id server_id all all link
starts client_id server_id all link hc hs fc fs = record {
  client_sent = [];
  server_sent = [];
  client = fresh client_id server_id Client all link.client (some_line _ _ hs) fc;
  server = fresh server_id client_id Server all link.server (some_line _ _ hc) fs;
  refused = refl;
}

-- the side that submits
submits : (own other : SshId) (side s : Side) (all left : List ClearStep) (sent theirs : List (List ℕ)) (payload : List ℕ) (now next : ClearEnd) → same_side s side ≡ true
    → Stands own other side all (Submit s payload ∷ left) sent theirs now → Submits now payload next → Stands own other side all left (sent ++ payload ∷ []) theirs next
submits own other side s all left sent theirs payload now next same h d = record {
  steps = h.steps ∙ (ap (λ b. sent ++ (if b then payload ∷ submitted_payloads side left else submitted_payloads side left)) same ∙ sym (append_assoc sent (payload ∷ []) (submitted_payloads side left)));
  output = d.output ∙ (ap (λ o. o ++ sealed_packet Clear now.writer.number (clear_item payload)) h.output ∙ (ap (λ n. clear_wire own sent ++ sealed_packet Clear n (clear_item payload)) h.number ∙ sym (clear_wire-push own sent payload)));
  number = d.number ∙ (ap next_number h.number ∙ sym (number_behind-push 0 sent payload));
  sealing = d.sealing;
  admissible = are_sent_push sent payload h.admissible d.admissible;
  within = subst (λ t. t ≤ length (clear_wire other theirs)) (sym d.taken) h.within;
  takes = h.takes
      ∙ (ap (λ b. now.taken + (if b then taken_in side (length (clear_wire other theirs) - now.taken) left else taken_in side (length (clear_wire other theirs) - now.taken + packet_size payload) left)) same
      ∙ ap (λ t. t + taken_in side (length (clear_wire other theirs) - t) left) (sym d.taken));
  reads =
      let P : Receiver → Type 0 = λ r. HasReadOf other theirs next.taken r in
      let T : ℕ → Type 0 = λ t. HasReadOf other theirs t now.receiver in
      subst P (sym d.receiver) (subst T (sym d.taken) h.reads);
}

-- the side that may take more
offered : (own other : SshId) (side s : Side) (all left : List ClearStep) (sent theirs : List (List ℕ)) (payload : List ℕ) (now : ClearEnd) → same_side s side ≡ false
    → Stands own other side all (Submit s payload ∷ left) sent theirs now → Stands own other side all left sent (theirs ++ payload ∷ []) now
offered own other side s all left sent theirs payload now same h =
    let longer : length (clear_wire other (theirs ++ payload ∷ [])) ≡ length (clear_wire other theirs) + packet_size payload =
    ap length (clear_wire-push other theirs payload) ∙ (length-append (clear_wire other theirs) _ ∙ ap (λ n. length (clear_wire other theirs) + n) (length_packet (number_behind 0 theirs) payload)) in
    let waits : length (clear_wire other theirs) - now.taken + packet_size payload ≡ length (clear_wire other (theirs ++ payload ∷ [])) - now.taken = omega (arith, longer, h.within) in
    record {
      steps = h.steps ∙ ap (λ b. sent ++ (if b then payload ∷ submitted_payloads side left else submitted_payloads side left)) same;
      output = h.output;
      number = h.number;
      sealing = h.sealing;
      admissible = h.admissible;
      within = omega (arith, longer, h.within);
      takes = h.takes
          ∙ (ap (λ b. now.taken + (if b then taken_in side (length (clear_wire other theirs) - now.taken) left else taken_in side (length (clear_wire other theirs) - now.taken + packet_size payload) left)) same
          ∙ ap (λ n. now.taken + taken_in side n left) waits);
      reads = reads_push now.receiver.id other theirs payload now.taken now.receiver h.within h.reads;
    }

piece_of : (wire : List ℕ) (taken n : ℕ) → taken ≤ length wire → IsPiece wire taken (min n (length wire - taken)) (next_piece wire taken n)
piece_of wire taken n h = record { piece_is = refl; within = omega arith }

-- the side that takes
delivers : (own other : SshId) (side s : Side) (all left : List ClearStep) (sent theirs : List (List ℕ)) (n : ℕ) (now next : ClearEnd) → same_side s side ≡ true → IsWholeLine other → AreSent theirs
    → Stands own other side all (Deliver s n ∷ left) sent theirs now → Delivers now (clear_wire other theirs) n next → Stands own other side all left sent theirs next
delivers own other side s all left sent theirs n now next same whole ok h d =
    let wire : List ℕ = clear_wire other theirs in
    let k = min n (length (clear_wire other theirs) - now.taken) in
    let place : length (clear_wire other theirs) - now.taken - min n (length (clear_wire other theirs) - now.taken) ≡ length (clear_wire other theirs) - next.taken = omega (arith, d.taken) in
    record {
      steps = h.steps;
      output = ap (λ (w : Writer). w.output) d.writer ∙ h.output;
      number = ap (λ (w : Writer). w.number) d.writer ∙ h.number;
      sealing = ap (λ (w : Writer). w.sealing) d.writer ∙ h.sealing;
      admissible = h.admissible;
      within = omega (arith, d.taken, h.within);
      takes = h.takes
          ∙ (ap (λ b. now.taken + (if b then min n (length (clear_wire other theirs) - now.taken) + taken_in side (length (clear_wire other theirs) - now.taken - min n (length (clear_wire other theirs) - now.taken)) left else taken_in side (length (clear_wire other theirs) - now.taken) left)) same
          ∙ (ap (λ m. now.taken + (min n (length (clear_wire other theirs) - now.taken) + taken_in side m left)) place
          ∙ omega (arith, d.taken)));
      reads =
          let T : ℕ → Type 0 = λ t. HasReadOf other theirs t next.receiver in
          subst T (sym d.taken) (takes_piece now.receiver.id other theirs now.taken _ _ now.receiver next.receiver whole ok h.reads (piece_of (clear_wire other theirs) now.taken n h.within) d.receiver);
    }

-- the side that another's delivery leaves as it is
left_alone : (own other : SshId) (side s : Side) (all left : List ClearStep) (sent theirs : List (List ℕ)) (n : ℕ) (now : ClearEnd) → same_side s side ≡ false
    → Stands own other side all (Deliver s n ∷ left) sent theirs now → Stands own other side all left sent theirs now
left_alone own other side s all left sent theirs n now same h = record {
  steps = h.steps;
  output = h.output;
  number = h.number;
  sealing = h.sealing;
  admissible = h.admissible;
  within = h.within;
  takes = h.takes ∙ ap (λ b. now.taken + (if b then min n (length (clear_wire other theirs) - now.taken) + taken_in side (length (clear_wire other theirs) - now.taken - min n (length (clear_wire other theirs) - now.taken)) left else taken_in side (length (clear_wire other theirs) - now.taken) left)) same;
  reads = h.reads;
}

good_size : (payload : List ℕ) (s : Side) (left : List ClearStep) → is_bad_size (length payload) ≡ false → first_refused (Submit s payload ∷ left) ≡ first_refused left
good_size payload s left h = ap (λ b. if b then Some (length payload) else first_refused left) h

-- one step
pub goes_on : (client_id server_id : SshId) (all left : List ClearStep) (step : ClearStep) (link next : ClearLink) → IsWholeLine client_id → IsWholeLine server_id → IsUnderWay client_id server_id all (step ∷ left) link → StepsOn link step next → IsUnderWay client_id server_id all left next
goes_on client_id server_id all left (Submit Client payload) link next hc hs r d =
    let P : ClearEnd → Type 0 = λ e. Stands server_id client_id Server all left r.server_sent (r.client_sent ++ payload ∷ []) e in
    record {
      client_sent = r.client_sent ++ payload ∷ [];
      server_sent = r.server_sent;
      client = submits client_id server_id Client Client all left r.client_sent r.server_sent payload link.client next.client refl r.client d.0;
      server = subst P (sym d.1) (offered server_id client_id Server Client all left r.server_sent r.client_sent payload link.server refl r.server);
      refused = r.refused ∙ good_size payload Client left d.0.size;
    }
goes_on client_id server_id all left (Submit Server payload) link next hc hs r d =
    let P : ClearEnd → Type 0 = λ e. Stands client_id server_id Client all left r.client_sent (r.server_sent ++ payload ∷ []) e in
    record {
      client_sent = r.client_sent;
      server_sent = r.server_sent ++ payload ∷ [];
      client = subst P (sym d.1) (offered client_id server_id Client Server all left r.client_sent r.server_sent payload link.client refl r.client);
      server = submits server_id client_id Server Server all left r.server_sent r.client_sent payload link.server next.server refl r.server d.0;
      refused = r.refused ∙ good_size payload Server left d.0.size;
    }
goes_on client_id server_id all left (Deliver Client n) link next hc hs r d =
    let P : ClearEnd → Type 0 = λ e. Stands server_id client_id Server all left r.server_sent r.client_sent e in
    let W : List ℕ → Type 0 = λ w. Delivers link.client w n next.client in
    record {
      client_sent = r.client_sent;
      server_sent = r.server_sent;
      client = delivers client_id server_id Client Client all left r.client_sent r.server_sent n link.client next.client refl hs r.server.admissible r.client (subst W r.server.output d.0);
      server = subst P (sym d.1) (left_alone server_id client_id Server Client all left r.server_sent r.client_sent n link.server refl r.server);
      refused = r.refused;
    }
goes_on client_id server_id all left (Deliver Server n) link next hc hs r d =
    let P : ClearEnd → Type 0 = λ e. Stands client_id server_id Client all left r.client_sent r.server_sent e in
    let W : List ℕ → Type 0 = λ w. Delivers link.server w n next.server in
    record {
      client_sent = r.client_sent;
      server_sent = r.server_sent;
      client = subst P (sym d.1) (left_alone client_id server_id Client Server all left r.client_sent r.server_sent n link.client refl r.client);
      server = delivers server_id client_id Server Server all left r.server_sent r.client_sent n link.server next.server refl hc r.client.admissible r.server (subst W r.client.output d.0);
      refused = r.refused;
    }

-- a payload that isn't sent is the first of its kind
bad_size : (all left : List ClearStep) (s : Side) (payload : List ℕ) (error : Error) → first_refused all ≡ first_refused (Submit s payload ∷ left) → CannotSubmit payload error → IsRefusedRun all error
bad_size all left s payload error h (inl bad) = inr (length payload, h ∙ ap (λ b. if b then Some (length payload) else first_refused left) bad.0, bad.1)
bad_size all left s payload error h (inr memory) = inl memory

-- nothing that was sent is refused
no_fault : (own other : SshId) (side : Side) (all left : List ClearStep) (sent theirs : List (List ℕ)) (n : ℕ) (now : ClearEnd) (error : Error) → IsWholeLine other → AreSent theirs
    → Stands own other side all left sent theirs now → CannotDeliver now (clear_wire other theirs) n error → IsRefusedRun all error
no_fault own other side all left sent theirs n now error whole ok h (inl memory) = inl memory
no_fault own other side all left sent theirs n now error whole ok h (inr fault) =
    absurd (takes_all now.receiver.id other theirs now.taken _ _ now.receiver whole ok h.reads (piece_of (clear_wire other theirs) now.taken n h.within) fault)

pub stops : (client_id server_id : SshId) (all left : List ClearStep) (step : ClearStep) (link : ClearLink) (error : Error) → IsWholeLine client_id → IsWholeLine server_id → IsUnderWay client_id server_id all (step ∷ left) link → CannotStep link step error → IsRefusedRun all error
stops client_id server_id all left (Submit Client payload) link error hc hs r d = bad_size all left Client payload error r.refused d
stops client_id server_id all left (Submit Server payload) link error hc hs r d = bad_size all left Server payload error r.refused d
stops client_id server_id all left (Deliver Client n) link error hc hs r d =
    let W : List ℕ → Type 0 = λ w. CannotDeliver link.client w n error in
    no_fault client_id server_id Client all _ r.client_sent r.server_sent n link.client error hs r.server.admissible r.client (subst W r.server.output d)
stops client_id server_id all left (Deliver Server n) link error hc hs r d =
    let W : List ℕ → Type 0 = λ w. CannotDeliver link.server w n error in
    no_fault server_id client_id Server all _ r.server_sent r.client_sent n link.server error hc r.client.admissible r.server (subst W r.client.output d)

-- a side's part of the report is what it wrote, took and delivered
pub record Reports (now : ClearEnd) (report : ClearSide) : Type 0 where
  pub wire : report.wire ≡ now.writer.output
  pub taken : report.taken ≡ now.taken
  pub delivered : report.delivered ≡ now.receiver.delivered.items

ends : (own other : SshId) (side : Side) (all : List ClearStep) (sent theirs : List (List ℕ)) (now : ClearEnd) (report : ClearSide) → submitted_payloads (other_side side) all ≡ theirs → Stands own other side all [] sent theirs now → Reports now report → IsClearSide own other side all report
ends own other side all sent theirs now report whose h d =
    let all_sent : submitted_payloads side all ≡ sent = h.steps ∙ append-nil sent in
    record {
      wire = d.wire ∙ (h.output ∙ ap (clear_wire own) (sym all_sent));
      taken = d.taken ∙ sym (h.takes ∙ omega arith);
      delivered = d.delivered ∙ (reads_whole now.receiver.id other theirs now.taken now.receiver h.reads ∙ (ap (λ t. whole_in (t - length (id_line other)) theirs) (sym d.taken) ∙ ap (whole_in (report.taken - length (id_line other))) (sym whose)));
    }

pub finishes : (client_id server_id : SshId) (all : List ClearStep) (link : ClearLink) (report : ClearReport) → IsUnderWay client_id server_id all [] link → Reports link.client report.client → Reports link.server report.server → IsClearRun client_id server_id all report
finishes client_id server_id all link report r dc ds = record {
  client = ends client_id server_id Client all r.client_sent r.server_sent link.client report.client (r.server.steps ∙ append-nil r.server_sent) r.client dc;
  server = ends server_id client_id Server all r.server_sent r.client_sent link.server report.server (r.client.steps ∙ append-nil r.client_sent) r.server ds;
}
