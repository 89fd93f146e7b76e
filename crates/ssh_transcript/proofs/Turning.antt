-- What the steps of a reader of one wire do.
use Rattle.std.proofs.Common.{◌≡◌, inl, inr, ℕ, ◌+◌, ◌-◌, ◌<◌, ◌≤◌, List, [], ◌∷◌, ◌++◌, length, map, take, drop, Bool, true, false, Option, Some, None, refl, sym, ◌∙◌, ap, subst, arith}
use Rattle.std.proofs.Math.Dec.{eqb}
use Rattle.std.proofs.lemmas.Bool.Decides.{Decides-eqb}
use Rattle.std.proofs.lemmas.Slice.Eq.{starts_is}
use Rattle.std.specs.List.{starts_with}
use Rattle.std.specs.declared.alloc.AllocError.{AllocError}
use Rattle.std.specs.Prelude.{Result, Ok, Err, IfOk, IsTrue, ◌↔◌, ◌^◌}
use Rattle.ssh_packet.specs.Keys.{opening_of, sealing_of}
use Rattle.ssh_packet.specs.Reading.{EndsAt, LeavesNext, Reader, RefusesNext}
use Rattle.ssh_packet.specs.Sealing.{Clear, IsPadded, Sealing, sealed_packet}
use Rattle.ssh_packet.specs.Stream.{first_place}
use Rattle.ssh_packet.specs.declared.error.OpenError.{OpenError}
use Rattle.ssh_packet.specs.declared.error.OpenError.TheVariants as errors
use Rattle.ssh_packet.specs.declared.reader.Incoming.{Incoming}
use Rattle.ssh_packet.specs.Sealing.{Item}
use Rattle.ssh_wire.specs.Lines.{id_line}
use Rattle.ssh_wire.specs.declared.side.Side.{Side}
use Rattle.ssh_wire.specs.declared.ssh_id.SshId.{SshId}
use Rattle.ssh_kex.specs.Messages.{is_gex}
use Rattle.ssh_kex.specs.declared.config.Config.{Config}
use Rattle.ssh_kex.specs.declared.exchange.FinishedExchange.{FinishedExchange}
use Rattle.ssh_rules.specs.MessageTypes.{order, type_of}
use Rattle.ssh_rules.specs.declared.link.Step.{Step}
use Rattle.ssh_record.specs.Exchanges.{IsWholeBlock, block_items, block_messages, epoch_items}
use Rattle.ssh_record.specs.Packets.{host_recorded}
use Rattle.ssh_record.specs.Recordings.{JudgedRecord, config_in, wire_in}
use Rattle.ssh_blocks.specs.Blocks.{HasSeen, block_in, payloads_of}
use Rattle.ssh_blocks.specs.Judging.{HasTaken, IsRulesOf}
use Rattle.ssh_blocks.specs.declared.block.OpenBlock.{OpenBlock}
use Rattle.ssh_blocks.specs.declared.rules.WireRules.{WireRules}
use Rattle.ssh_transcript.specs.Reading.{AreGoodSoFar, AreJudged, FromOpen, HasEnded, IsOver, IsRead, HasOpened, IsFed, IsFedBehind, IsOpen, IsPartOf, OpensFront, OpensNothing, first_of, is_later, packet_of}
use Rattle.ssh_transcript.specs.declared.packet.Packet.{Packet}
use Rattle.ssh_transcript.specs.declared.wire.WireReader.{WireReader}
use Rattle.ssh_transcript.specs.Alike.{AreAlike}
use Rattle.ssh_transcript.proofs.Standings.{opened_bytes, opened_within}
use Rattle.ssh_transcript.proofs.WholeWires.{ended_read, over_read}

-- ---- opening

pub hands_out : (old new : Reader) (key key' : Sealing) (incoming : Incoming) (r : Result (Option Incoming) OpenError) → r ≡ Ok (Some incoming) → LeavesNext old key key' r new → (i : Item) × OpensFront old key i new key'
hands_out old new key key' incoming r e h =
    let x = subst (λ t. LeavesNext old key key' t new) e h in
    (x.0, record { admissible = x.1.admissible; bytes = x.1.bytes; handed = x.1.handed; number = x.1.number; live = x.1.failed; moved = x.1.moved; shorter = x.1.shorter })

pub waits_still : (old new : Reader) (key key' : Sealing) (r : Result (Option Incoming) OpenError) → r ≡ Ok None → LeavesNext old key key' r new → OpensNothing old key new
waits_still old new key key' r e h =
    let x = subst (λ t. LeavesNext old key key' t new) e h in
    record { waits = ap (λ (t : Reader). length t.waiting) x.2; none = inr (inl x.1) }

refused_by : (old new : Reader) (key key' : Sealing) (e : OpenError) → RefusesNext old key e → EndsAt old key key' e new → OpensNothing old key new
refused_by old new key key' (errors.PacketSize n) r d = record { waits = d.0.waiting; none = inr (inr (_, r.1)) }
refused_by old new key key' errors.IndexOutOfBounds r d = record { waits = d.0.waiting; none = inr (inr (_, r.1)) }
refused_by old new key key' errors.PacketAuth r d = record { waits = d.0.waiting; none = inr (inr (_, r.1)) }
refused_by old new key key' errors.DecryptionError r d = record { waits = d.0.waiting; none = inr (inr (_, r.1)) }
refused_by old new key key' errors.Disconnect r d = record { waits = ap (λ (t : Reader). length t.waiting) d.0; none = inl r }

pub is_refused : (old new : Reader) (key key' : Sealing) (error : OpenError) (r : Result (Option Incoming) OpenError) → r ≡ Err error → LeavesNext old key key' r new → OpensNothing old key new
is_refused old new key key' error r e h =
    let x = subst (λ t. LeavesNext old key key' t new) e h in
    refused_by old new key key' error x.0 x.1

-- ---- the start

pub starts : (side : Side) (j : JudgedRecord) (id : SshId) (wire : List ℕ) (steps : List Step) (rules : WireRules) (r : WireReader) → IsFedBehind (id_line id) wire r.line r.reader.waiting
    → r.wire.now ≡ wire → r.side ≡ rules.side → r.kind ≡ rules.kind → r.reader.number ≡ 0 → r.reader.failed ≡ false → opening_of r.direction.opening ≡ Clear → sealing_of r.direction.sealing ≡ Clear → r.packets.items ≡ [] → r.bad ≡ None
    → ((side : Side) (config : Config) (kind : Bool) (host : Option (List ℕ)) → IsRulesOf side config kind host rules → HasTaken side config kind host steps [] r.judge)
    → HasSeen rules.side rules.kind false [] r.block → IsPartOf side j id wire steps rules → IsOpen side j [] r
starts side j id wire steps rules r fed w s k n live opening sealing none bad taken seen p =
    let own : IsFed side j r.line r.reader.waiting = subst (λ i. IsFedBehind (id_line i) (wire_in side j) r.line r.reader.waiting) p.id_is (subst (λ t. IsFedBehind (id_line id) t r.line r.reader.waiting) p.wire_is fed) in
    let good : AreGoodSoFar side j [] [] r.judge = record { padded = tt; taken = subst (λ t. HasTaken side (config_in side j) (is_gex j.names.kex) (host_recorded side j) t [] r.judge) p.steps_are (taken side (config_in side j) (is_gex j.names.kex) (host_recorded side j) p.rules_are) } in
    record {
      items = [];
      is_of = record { wire_is = w ∙ p.wire_is; side_is = s ∙ p.rules_are.side_is; kind_is = k ∙ p.rules_are.kind_is };
      read = record {
        fed = r.reader.waiting;
        fed_is = own;
        reads = refl;
        waits = refl;
        kept = subst (λ t. Rattle.ssh_transcript.specs.Reading.AreKeptOf side j [] [] t) (sym none) tt;
        judged = subst (AreJudged side j [] [] r.judge) (sym bad) good;
      };
      place = first_place [];
      at = refl;
      stands = record {
        opening = sym opening;
        alike = subst (Rattle.ssh_transcript.specs.Alike.AreAlike Clear) (sym sealing) tt;
        number = sym n;
        last = refl;
        live = live;
      };
      many = refl;
      seen = subst (λ q. HasSeen side q false [] r.block) p.rules_are.kind_is (subst (λ q. HasSeen q rules.kind false [] r.block) p.rules_are.side_is seen);
    }

-- ---- the block of an epoch that ended

block_is : (xs : List FinishedExchange) (items : List Item) → block_items (length xs) items ≡ block_in (is_later xs) (epoch_items (length xs) items)
block_is [] items = refl
block_is (x ∷ xs) items = refl

-- what a whole block says
abbrev pub IsWholeOf : List (List ℕ) → OpenBlock → Type 0
IsWholeOf messages b = (side : Side) (kind later : Bool) (items : List Item) → HasSeen side kind later items b → (map type_of (block_in later items) ≡ order side kind) × (messages ≡ payloads_of (block_in later items))

pub whole_is : (side : Side) (j : JudgedRecord) (xs : List FinishedExchange) (r : WireReader) (messages : List (List ℕ)) → IsWholeOf messages r.block → (e : HasEnded side j xs r) → IsWholeBlock side (is_gex j.names.kex) (length xs) e.items × (messages ≡ block_messages (length xs) e.items)
whole_is side j xs r messages w e =
    let h = w side (is_gex j.names.kex) (is_later xs) (epoch_items (length xs) e.items) e.seen in
    let same = sym (block_is xs e.items) in
    (ap (map type_of) (sym same) ∙ h.0, h.1 ∙ ap payloads_of same)

pub not_whole : (side : Side) (j : JudgedRecord) (xs : List FinishedExchange) (r : WireReader) → ((side : Side) (kind later : Bool) (items : List Item) → HasSeen side kind later items r.block → map type_of (block_in later items) ≡ order side kind → ⊥) → (e : HasEnded side j xs r) → IsWholeBlock side (is_gex j.names.kex) (length xs) e.items → ⊥
not_whole side j xs r w e h = w side (is_gex j.names.kex) (is_later xs) (epoch_items (length xs) e.items) e.seen (ap (map type_of) (sym (block_is xs e.items)) ∙ h)

-- ---- judging

-- the test of the padding says what it has to
pub tested : (side : Side) (j : JudgedRecord) (xs : List FinishedExchange) (start : ℕ) (r : WireReader) (result : Bool) (packet payload : List ℕ) → (o : HasOpened side j xs start r)
    → ((s : Sealing) (number : ℕ) (i : Item) → AreAlike s (sealing_of r.direction.sealing) → i.payload ≡ payload → packet ≡ sealed_packet s number i → IsTrue result ↔ IsPadded s i)
    → payload ≡ r.reader.handed → (start + length r.reader.waiting ≤ length r.wire.now → packet ≡ take (length r.wire.now - length r.reader.waiting - start) (drop start r.wire.now)) → IsTrue result ↔ IsPadded o.place.sealing o.item
tested side j xs start r result packet payload o exact p b =
    exact o.place.sealing o.place.number o.item o.alike (sym (p ∙ o.handed)) (b (opened_within side j xs start r o) ∙ opened_bytes side j xs start r o)

pub payload_short : (side : Side) (j : JudgedRecord) (xs : List FinishedExchange) (start : ℕ) (r : WireReader) (payload : List ℕ) → (o : HasOpened side j xs start r) → payload ≡ r.reader.handed → length payload < 2 ^ 32
payload_short side j xs start r payload o p = let l = o.admissible.short in omega (arith, l, ap length p, ap length o.handed)

-- ---- keeping

pub listed : (old mid new : WireReader) (p : Packet) (payload : List ℕ) (place : ℕ) → mid ≡ record old { judge = mid.judge; bad = mid.bad } → new.packets.items ≡ mid.packets.items ++ p ∷ []
    → p ≡ packet_of payload place → payload ≡ mid.reader.handed → place ≡ length mid.wire.now - length mid.reader.waiting → new.packets.items ≡ old.packets.items ++ packet_of old.reader.handed (length old.wire.now - length old.reader.waiting) ∷ []
listed old mid new p payload place same push kept h at =
    let handed : payload ≡ old.reader.handed = h ∙ ap (λ (r : WireReader). r.reader.handed) same in
    let here : place ≡ length old.wire.now - length old.reader.waiting = at ∙ ap (λ (r : WireReader). length r.wire.now - length r.reader.waiting) same in
    push ∙ (ap (λ (r : WireReader). r.packets.items ++ p ∷ []) same ∙ ap (λ x. old.packets.items ++ x ∷ []) (kept ∙ (ap (λ q. packet_of q place) handed ∙ ap (packet_of old.reader.handed) here)))

-- ---- the version line

pub line_told : (wire text : List ℕ) (r : Bool) → r ≡ starts_with eqb wire text → (r ≡ true → wire ≡ text ++ drop (length text) wire) × (r ≡ false → (packets : List ℕ) → wire ≡ text ++ packets → ⊥)
line_told wire text r e =
    let told = starts_is {E = eqb} Decides-eqb wire text r e in
    (told.0, λ f packets h. let z = sym f ∙ told.1 packets h in cc)

-- ---- both wires

-- whatever an epoch's reading brought, all that is whole is read
pub either_read : (side : Side) (j : JudgedRecord) (xs : List FinishedExchange) (old new : WireReader) (result : Result Bool AllocError) (b : Bool) → result ≡ Ok b → IfOk result (λ e. IsTrue e → FromOpen old (λ s k ys. HasEnded s k ys new)) → (result ≡ Ok false → FromOpen old (λ s k ys. IsOver s k ys new)) → IsOpen side j xs old → IsRead side j xs new
either_read side j xs old new result true e h k o = ended_read side j xs new (subst (λ r. IfOk r (λ t. IsTrue t → FromOpen old (λ s k ys. HasEnded s k ys new))) e h refl side j xs o)
either_read side j xs old new result false e h k o = over_read side j xs new (k e side j xs o)
