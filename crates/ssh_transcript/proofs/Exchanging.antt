-- The exchanges that stand whole on both wires: the next one, and that there is none.
use Rattle.std.proofs.Common.{◌≡◌, ◌⊎◌, inl, inr, ℕ, zero, suc, ◌+◌, ◌<◌, ◌≤◌, ◌==◌, ◌||◌, List, [], ◌∷◌, ◌++◌, length, map, take, slice_get, Bool, true, false, Option, Some, None, if◌then◌else◌, refl, sym, ◌∙◌, ap, subst, arith, length-append}
use Rattle.std.proofs.Math.Seq.{take-append_seam}
use Rattle.std.proofs.lemmas.List.{take-append-le}
use Rattle.std.proofs.lemmas.Option.{slice_get_within}
use Rattle.ssh_packet.specs.Sealing.{Item}
use Rattle.ssh_packet.specs.Stream.{IsEnd, Place, Reads, is_newkeys, place_after, place_behind}
use Rattle.ssh_wire.specs.Lines.{id_line}
use Rattle.ssh_wire.specs.declared.side.Side.{Side}
use Rattle.ssh_wire.specs.declared.side.Side.TheVariants.{Client, Server}
use Rattle.ssh_kex.specs.Messages.{is_gex}
use Rattle.ssh_kex.specs.declared.config.Config.{Config}
use Rattle.ssh_kex.specs.declared.exchange.Exchange.{Exchange}
use Rattle.ssh_kex.specs.declared.exchange.FinishedExchange.{FinishedExchange}
use Rattle.ssh_rules.specs.Headline.{first_hash, keys_for}
use Rattle.ssh_rules.specs.MessageTypes.{is_kex_type, order, type_of}
use Rattle.ssh_rules.specs.Wire.{epochs_ended}
use Rattle.ssh_record.proofs.Lemmas.{get_more, reads_one}
use Rattle.ssh_record.specs.Answers.{HaveSecrets, LacksSecret}
use Rattle.ssh_record.specs.Exchanges.{AreNext, BlocksHold, HasBlocks, IsNext, IsWholeBlock, ReadsWire, block_items, block_messages, epoch_items, from_exchange, kept_of_values}
use Rattle.std.specs.Option.{IfSome}
use Rattle.ssh_record.specs.Packets.{IsBadBehind}
use Rattle.ssh_record.specs.Recordings.{JudgedRecord, Recording, config_in, wire_in}
use Rattle.ssh_record.specs.declared.report.AuditEnd.{AuditEnd}
use Rattle.ssh_record.specs.declared.report.AuditFault.{AuditFault}
use Rattle.ssh_record.specs.declared.report.AuditFault.TheVariants as fault
use Rattle.ssh_blocks.specs.Blocks.{AreShort, exchange_in, payloads_of}
use Rattle.ssh_blocks.specs.declared.values.BlockValues.{BlockValues}
use Rattle.ssh_transcript.specs.Ends.{IsLaterEnd}
use Rattle.ssh_transcript.specs.Making.{IsHashed, hash_between, session_or}
use Rattle.ssh_transcript.specs.Reading.{AreOpen, AreRead, AreWhole, FromRead, HasEnded, HaveEnded, HaveNone, IsFed, IsKeptWire, IsMadeNext, IsOneMore, IsOpen, IsOver, IsPacketFault, IsRead, IsReadingEnd, first_of, judged_under}
use Rattle.ssh_transcript.specs.declared.exchange.Made.{Made}
use Rattle.ssh_transcript.specs.declared.reading.ReadWires.{ReadWires}
use Rattle.ssh_transcript.specs.declared.setting.Setting.{Setting}
use Rattle.ssh_transcript.specs.declared.wire.WireReader.{WireReader}
use Rattle.ssh_transcript.proofs.Places.{reads_nothing}
use Rattle.ssh_transcript.proofs.WholeWires.{ended_read, over_read}
use Rattle.std.specs.declared.vec.Vec.{Vec}
use Rattle.std.specs.Global.{Global}

choice : (b : Bool) → (b ≡ true) ⊎ (b ≡ false)
choice true = inl refl
choice false = inr refl

-- ---- an epoch that is open has no whole block

any_end : List ℕ → Bool
any_end [] = false
any_end (t ∷ types) = (t == 21) || any_end types

order_ends : (side : Side) (kind : Bool) → any_end (order side kind) ≡ true
unfolding any_end
order_ends Client false = refl
order_ends Client true = refl
order_ends Server false = refl
order_ends Server true = refl

ends_true : (i : Item) (items : List Item) → is_newkeys i ≡ true → epochs_ended (i ∷ items) ≡ 1 + epochs_ended items
ends_true i items e = ap (λ b. if b then 1 + epochs_ended items else epochs_ended items) e

ends_false : (i : Item) (items : List Item) → is_newkeys i ≡ false → epochs_ended (i ∷ items) ≡ epochs_ended items
ends_false i items e = ap (λ b. if b then 1 + epochs_ended items else epochs_ended items) e

none_ends : (k : ℕ) (items : List Item) → epochs_ended items ≡ k → any_end (map type_of (epoch_items k items)) ≡ false
unfolding any_end
none_ends zero [] e = refl
none_ends (suc k) [] e = refl
none_ends zero (i ∷ items) e = elim (choice (is_newkeys i)) [
  | inl t ↦ absurd (omega (arith, e, ends_true i items t))
  | inr f ↦ ap (λ b. any_end (map type_of (if b then i ∷ [] else i ∷ epoch_items zero items))) f ∙ (ap (λ b. b || any_end (map type_of (epoch_items zero items))) f ∙ none_ends zero items (sym (ends_false i items f) ∙ e))
]
none_ends (suc k) (i ∷ items) e = elim (choice (is_newkeys i)) [
  | inl t ↦ let m : epochs_ended items ≡ k = omega (arith, e, ends_true i items t) in ap (λ b. any_end (map type_of (if b then epoch_items k items else epoch_items (suc k) items))) t ∙ none_ends k items m
  | inr f ↦ ap (λ b. any_end (map type_of (if b then epoch_items k items else epoch_items (suc k) items))) f ∙ none_ends (suc k) items (sym (ends_false i items f) ∙ e)
]

or_none : (a b : Bool) → (a || b) ≡ false → b ≡ false
or_none true b e = absurd (let z : true ≡ false = e in cc)
or_none false b e = e

none_from : (items : List Item) → any_end (map type_of items) ≡ false → any_end (map type_of (from_exchange items)) ≡ false
unfolding any_end
none_from [] e = refl
none_from (i ∷ items) e = elim (choice (is_kex_type (type_of i))) [
  | inl t ↦ ap (λ b. any_end (map type_of (if b then i ∷ items else from_exchange items))) t ∙ e
  | inr f ↦ ap (λ b. any_end (map type_of (if b then i ∷ items else from_exchange items))) f ∙ none_from items (or_none (type_of i == 21) (any_end (map type_of items)) e)
]

none_block : (k : ℕ) (items : List Item) → epochs_ended items ≡ k → any_end (map type_of (block_items k items)) ≡ false
none_block zero items e = none_ends zero items e
none_block (suc k) items e = none_from (epoch_items (suc k) items) (none_ends (suc k) items e)

no_whole : (side : Side) (kind : Bool) (k : ℕ) (items : List Item) → epochs_ended items ≡ k → IsWholeBlock side kind k items → ⊥
no_whole side kind k items e w = let z : true ≡ false = sym (order_ends side kind) ∙ (ap any_end (sym w) ∙ none_block k items e) in cc

-- ---- readings of one wire

entries_of : (side : Side) (j : JudgedRecord) (xs : List FinishedExchange) (fed rest : List ℕ) (items : List Item) → wire_in side j ≡ id_line (config_in side j).id ++ fed → Reads (first_of side xs) items fed rest → IsEnd (place_behind (first_of side xs) items) rest → ReadsWire side (config_in side j) xs (wire_in side j) items
entries_of side j xs fed rest items l r e = record { packets = fed; rest = rest; line = l; entries = record { reads = r; no_more = e } }

over_by : (side : Side) (j : JudgedRecord) (xs : List FinishedExchange) (line : Option ℕ) (fed rest : List ℕ) (items all : List Item) → IsFed side j line fed → Reads (first_of side xs) items fed rest → IsEnd (place_behind (first_of side xs) items) rest → epochs_ended items ≡ length xs
    → ReadsWire side (config_in side j) xs (wire_in side j) all → IsWholeBlock side (is_gex j.names.kex) (length xs) all → ⊥
over_by side j xs None fed rest items all f r e m reads whole = f.1 reads.packets reads.line
over_by side j xs (Some line) fed rest items all f r e m reads whole =
    let same = reads_one side (config_in side j) xs (wire_in side j) all items reads (entries_of side j xs fed rest items f r e) in
    no_whole side (is_gex j.names.kex) (length xs) items m (subst (IsWholeBlock side (is_gex j.names.kex) (length xs)) same whole)

-- no block is whole in a wire that is over
over_none : (side : Side) (j : JudgedRecord) (xs : List FinishedExchange) (r : WireReader) → IsOver side j xs r → (all : List Item) → ReadsWire side (config_in side j) xs (wire_in side j) all → IsWholeBlock side (is_gex j.names.kex) (length xs) all → ⊥
over_none side j xs r o all reads whole = over_by side j xs r.line o.read.fed o.rest o.items all o.read.fed_is o.read.reads o.ends o.many reads whole

pub client_over : (j : JudgedRecord) (xs : List FinishedExchange) (r : WireReader) → IsOver Client j xs r → HaveNone j xs
client_over j xs r o = λ e host b. over_none Client j xs r o b.client_items b.client_reads b.client_whole

pub server_over : (j : JudgedRecord) (xs : List FinishedExchange) (r : WireReader) → IsOver Server j xs r → HaveNone j xs
server_over j xs r o = λ e host b. over_none Server j xs r o b.server_items b.server_reads b.server_whole

line_by : (side : Side) (j : JudgedRecord) (xs : List FinishedExchange) (line : Option ℕ) (fed rest : List ℕ) (items : List Item) → IsFed side j line fed → Reads (first_of side xs) items fed rest → epochs_ended items ≡ suc (length xs) → wire_in side j ≡ id_line (config_in side j).id ++ fed
line_by side j xs None fed rest items f r m =
    let none : items ≡ [] = reads_nothing (first_of side xs) items rest (subst (λ t. Reads (first_of side xs) items t rest) f.0 r) in
    absurd (omega (arith, m, ap epochs_ended none))
line_by side j xs (Some line) fed rest items f r m = f

-- what a reader read whose epoch ended
pub ended_reads : (side : Side) (j : JudgedRecord) (xs : List FinishedExchange) (r : WireReader) → (e : HasEnded side j xs r) → ReadsWire side (config_in side j) xs (wire_in side j) e.items
ended_reads side j xs r e = entries_of side j xs e.read.fed r.reader.waiting e.items (line_by side j xs r.line e.read.fed r.reader.waiting e.items e.read.fed_is e.read.reads e.many) e.read.reads (subst (λ q. IsEnd q r.reader.waiting) (sym e.ended) tt)

pub client_not_whole : (j : JudgedRecord) (xs : List FinishedExchange) (r : WireReader) → (e : HasEnded Client j xs r) → (IsWholeBlock Client (is_gex j.names.kex) (length xs) e.items → ⊥) → HaveNone j xs
client_not_whole j xs r e n = λ x host b. n (subst (IsWholeBlock Client (is_gex j.names.kex) (length xs)) (reads_one Client j.client xs j.recording.client b.client_items e.items b.client_reads (ended_reads Client j xs r e)) b.client_whole)

pub server_not_whole : (j : JudgedRecord) (xs : List FinishedExchange) (r : WireReader) → (e : HasEnded Server j xs r) → (IsWholeBlock Server (is_gex j.names.kex) (length xs) e.items → ⊥) → HaveNone j xs
server_not_whole j xs r e n = λ x host b. n (subst (IsWholeBlock Server (is_gex j.names.kex) (length xs)) (reads_one Server j.server xs j.recording.server b.server_items e.items b.server_reads (ended_reads Server j xs r e)) b.server_whole)

-- where the values of both blocks can't be read
pub no_values : (j : JudgedRecord) (xs : List FinishedExchange) (c s : WireReader) (own other : List (List ℕ)) → (e : HasEnded Client j xs c) → (f : HasEnded Server j xs s) → own ≡ block_messages (length xs) e.items → other ≡ block_messages (length xs) f.items
    → ((x : Exchange) (host : List ℕ) → BlocksHold j.client j.server (is_gex j.names.kex) own other x host → ⊥) → HaveNone j xs
no_values j xs c s own other e f p q n = λ x host b.
    let client = reads_one Client j.client xs j.recording.client b.client_items e.items b.client_reads (ended_reads Client j xs c e) in
    let server = reads_one Server j.server xs j.recording.server b.server_items f.items b.server_reads (ended_reads Server j xs s f) in
    n x host (subst (λ t. BlocksHold j.client j.server (is_gex j.names.kex) t other x host) (ap (block_messages (length xs)) client ∙ sym p)
    (subst (λ t. BlocksHold j.client j.server (is_gex j.names.kex) (block_messages (length xs) b.client_items) t x host) (ap (block_messages (length xs)) server ∙ sym q) b.hold))

-- and where they can
pub has_blocks : (j : JudgedRecord) (xs : List FinishedExchange) (c s : WireReader) (own other : List (List ℕ)) (x : Exchange) (host : List ℕ) → (e : HasEnded Client j xs c) → (f : HasEnded Server j xs s) → IsWholeBlock Client (is_gex j.names.kex) (length xs) e.items → IsWholeBlock Server (is_gex j.names.kex) (length xs) f.items
    → own ≡ block_messages (length xs) e.items → other ≡ block_messages (length xs) f.items → BlocksHold j.client j.server (is_gex j.names.kex) own other x host → HasBlocks j xs x host
has_blocks j xs c s own other x host e f w v p q h = record {
  client_items = e.items;
  server_items = f.items;
  client_reads = ended_reads Client j xs c e;
  server_reads = ended_reads Server j xs s f;
  client_whole = w;
  server_whole = v;
  hold = subst (λ t. BlocksHold j.client j.server (is_gex j.names.kex) t (block_messages (length xs) f.items) x host) p (subst (λ t. BlocksHold j.client j.server (is_gex j.names.kex) own t x host) q h);
}

-- ---- messages are short

short_read : (at : Option Place) (items : List Item) (bytes rest : List ℕ) → Reads at items bytes rest → AreShort (payloads_of items)
short_read at [] bytes rest r = tt
short_read None (i ∷ items) bytes rest r = absurd r
short_read (Some at) (i ∷ items) bytes rest r = ((let l = r.1.short in omega (arith, l)), short_read (place_after at i) items r.0 rest r.3)

short_epoch : (k : ℕ) (items : List Item) → AreShort (payloads_of items) → AreShort (payloads_of (epoch_items k items))
short_epoch zero [] h = tt
short_epoch (suc k) [] h = tt
short_epoch zero (i ∷ items) h = elim (choice (is_newkeys i)) [
  | inl t ↦ subst (λ b. AreShort (payloads_of (if b then i ∷ [] else i ∷ epoch_items zero items))) (sym t) (h.0, tt)
  | inr f ↦ subst (λ b. AreShort (payloads_of (if b then i ∷ [] else i ∷ epoch_items zero items))) (sym f) (h.0, short_epoch zero items h.1)
]
short_epoch (suc k) (i ∷ items) h = elim (choice (is_newkeys i)) [
  | inl t ↦ subst (λ b. AreShort (payloads_of (if b then epoch_items k items else epoch_items (suc k) items))) (sym t) (short_epoch k items h.1)
  | inr f ↦ subst (λ b. AreShort (payloads_of (if b then epoch_items k items else epoch_items (suc k) items))) (sym f) (short_epoch (suc k) items h.1)
]

short_from : (items : List Item) → AreShort (payloads_of items) → AreShort (payloads_of (from_exchange items))
short_from [] h = tt
short_from (i ∷ items) h = elim (choice (is_kex_type (type_of i))) [
  | inl t ↦ subst (λ b. AreShort (payloads_of (if b then i ∷ items else from_exchange items))) (sym t) h
  | inr f ↦ subst (λ b. AreShort (payloads_of (if b then i ∷ items else from_exchange items))) (sym f) (short_from items h.1)
]

short_block : (k : ℕ) (items : List Item) → AreShort (payloads_of items) → AreShort (block_messages k items)
short_block zero items h = short_epoch zero items h
short_block (suc k) items h = short_from (epoch_items (suc k) items) (short_epoch (suc k) items h)

pub short_messages : (side : Side) (j : JudgedRecord) (xs : List FinishedExchange) (r : WireReader) (messages : List (List ℕ)) → (e : HasEnded side j xs r) → messages ≡ block_messages (length xs) e.items → AreShort messages
short_messages side j xs r messages e p = subst AreShort (sym p) (short_block (length xs) e.items (short_read (first_of side xs) e.items e.read.fed r.reader.waiting e.read.reads))

-- ---- the next exchange

kept_as : (s : Setting) (xs : List FinishedExchange) (v : BlockValues) (secret : List ℕ) (first : Option (List ℕ)) (x : FinishedExchange) → ((hash : List ℕ) → session_or first hash ≡ first_hash xs hash) → IsHashed s v secret first x → x ≡ kept_of_values s.names xs (exchange_in s.client.now s.server.now v) v.reply.host.now secret
kept_as s xs v secret first x f h =
    let hash = hash_between s v secret in
    h ∙ ap (λ t. record { names = s.names; hash = hash; session_id = t; keys = keys_for s.names secret hash t }) (f hash)

pub is_next : (s : Setting) (r : Recording) (xs : List FinishedExchange) (v : BlockValues) (secret : List ℕ) (first : Option (List ℕ)) (x : FinishedExchange) → HasBlocks (judged_under s r) xs (exchange_in s.client.now s.server.now v) v.reply.host.now → slice_get r.secrets (length xs) ≡ Some secret
    → ((hash : List ℕ) → session_or first hash ≡ first_hash xs hash) → IsHashed s v secret first x → IsNext (judged_under s r) xs x
is_next s r xs v secret first x b g f h = record {
  exchange = exchange_in s.client.now s.server.now v;
  host = v.reply.host.now;
  secret = secret;
  blocks = b;
  given = g;
  kept = kept_as s xs v secret first x f h;
}

-- ---- all exchanges

pub none_more : (j : JudgedRecord) (xs : List FinishedExchange) → AreNext j xs → HaveNone j xs → HaveSecrets j xs
none_more j xs n h = record { exchanges = record { each = n; all = λ e host b. absurd (h e host b) }; enough = h }

none_within : (secrets : List (List ℕ)) (k : ℕ) → slice_get secrets k ≡ None → length secrets ≤ k
none_within [] k e = omega arith
none_within (s ∷ secrets) zero e = absurd (let z : Some s ≡ None = e in cc)
none_within (s ∷ secrets) (suc k) e = omega (arith, none_within secrets k e)

-- one exchange more stands whole than secrets are given
pub lacks : (j : JudgedRecord) (xs : List FinishedExchange) (blocks : ℕ) (x : Exchange) (host : List ℕ) → AreNext j xs → slice_get j.recording.secrets (length xs) ≡ None → blocks ≡ suc (length xs) → HasBlocks j xs x host → LacksSecret j blocks
lacks j xs blocks x host n g c b = record {
  exchanges = xs;
  are = record { each = n; all = λ e h k. none_within j.recording.secrets (length xs) g };
  exchange = x;
  host = host;
  more = b;
  blocks_is = c;
}

pub both_next : (j : JudgedRecord) (xs : List FinishedExchange) (x : FinishedExchange) → AreNext j xs → IsNext j xs x → AreNext j (xs ++ x ∷ [])
both_next j xs x h n k y e = by (get_more xs x k y e) where
  by : ((k < length xs) × (slice_get xs k ≡ Some y)) ⊎ ((k ≡ length xs) × (x ≡ y)) → IsNext j (take k (xs ++ x ∷ [])) y
  by (inl p) = subst (λ t. IsNext j t y) (sym (take-append-le k xs (x ∷ []) (omega (arith, p.0)))) (h k y p.1)
  by (inr p) = subst (λ m. IsNext j (take m (xs ++ x ∷ [])) y) (sym p.0) (subst (λ t. IsNext j t y) (sym (take-append_seam xs (x ∷ []))) (subst (IsNext j xs) p.1 n))

-- one exchange more is given no more than there are secrets
pub given_more : (j : JudgedRecord) (xs : List FinishedExchange) (x : FinishedExchange) → IsNext j xs x → length (xs ++ x ∷ []) ≤ length j.recording.secrets
given_more j xs x n = omega (arith, length-append xs (x ∷ []), slice_get_within j.recording.secrets (length xs) n.secret n.given)

-- ---- ends of a reading

pub later_end : (j : JudgedRecord) (e : AuditEnd) → IsReadingEnd j e → IsLaterEnd e
later_end j e (inl m) = subst IsLaterEnd (sym m) tt
later_end j e (inr h) = subst IsLaterEnd (sym h.1) tt

-- ---- where both readers stand

abbrev pub wires : WireReader → WireReader → Vec FinishedExchange Global → ReadWires
wires c s v = record { client = c; server = s; exchanges = v }

pub start_open : (s : Setting) (r : Recording) (client server : WireReader) (v : Vec FinishedExchange Global) → v.items ≡ [] → IsOpen Client (judged_under s r) [] client → IsOpen Server (judged_under s r) [] server → AreOpen (judged_under s r) (wires client server v)
start_open s r client server v e c d = record {
  client = subst (λ xs. IsOpen Client (judged_under s r) xs client) (sym e) c;
  server = subst (λ xs. IsOpen Server (judged_under s r) xs server) (sym e) d;
  each = subst (AreNext (judged_under s r)) (sym e) none_yet;
  given = omega (arith, ap length e);
}
  where
    none_yet : AreNext (judged_under s r) []
    none_yet k x h = absurd (let z : None ≡ Some x = h in cc)

pub client_stops : (j : JudgedRecord) (v : Vec FinishedExchange Global) (c s : WireReader) → AreNext j v.items → IsOver Client j v.items c → IsRead Server j v.items s → AreRead j (wires c s v)
client_stops j v c s n o r = record { client = over_read Client j v.items c o; server = r; secrets = none_more j v.items n (client_over j v.items c o) }

pub server_stops : (j : JudgedRecord) (v : Vec FinishedExchange Global) (c s : WireReader) → AreNext j v.items → IsRead Client j v.items c → IsOver Server j v.items s → AreRead j (wires c s v)
server_stops j v c s n r o = record { client = r; server = over_read Server j v.items s o; secrets = none_more j v.items n (server_over j v.items s o) }

pub both_stop : (j : JudgedRecord) (w : ReadWires) → HaveEnded j w → HaveNone j w.exchanges.items → AreRead j w
both_stop j w h n = record { client = ended_read Client j w.exchanges.items w.client h.client; server = ended_read Server j w.exchanges.items w.server h.server; secrets = none_more j w.exchanges.items h.each n }

-- one exchange more
pub one_more : (j : JudgedRecord) (old new : ReadWires) (m : Made) → HaveEnded j old → IsMadeNext j old.exchanges.items m → new.exchanges.items ≡ old.exchanges.items ++ m.exchange ∷ []
    → IsOpen Client j (old.exchanges.items ++ m.exchange ∷ []) new.client → IsOpen Server j (old.exchanges.items ++ m.exchange ∷ []) new.server → IsOneMore j old new
one_more j old new m h n e c s = (
  record {
    client = subst (λ xs. IsOpen Client j xs new.client) (sym e) c;
    server = subst (λ xs. IsOpen Server j xs new.server) (sym e) s;
    each = subst (AreNext j) (sym e) (both_next j old.exchanges.items m.exchange h.each n.next);
    given = subst (λ xs. length xs ≤ length j.recording.secrets) (sym e) (given_more j old.exchanges.items m.exchange n.next);
  },
  omega (arith, ap length e, length-append old.exchanges.items (m.exchange ∷ [])),
)

-- ---- the first bad packet

pub none_bad : (client server : Option ℕ) (result : Option AuditFault) → ((p : ℕ) → client ≡ Some p → result ≡ Some (fault.Packet Client p)) → ((p : ℕ) → client ≡ None → server ≡ Some p → result ≡ Some (fault.Packet Server p)) → result ≡ None → (client ≡ None) × (server ≡ None)
none_bad (Some p) server result c s e = absurd (let z : None ≡ Some (fault.Packet Client p) = sym e ∙ c p refl in cc)
none_bad None (Some p) result c s e = absurd (let z : None ≡ Some (fault.Packet Server p) = sym e ∙ s p refl refl in cc)
none_bad None None result c s e = (refl, refl)

pub fault_told : (w : ReadWires) (client server : Option ℕ) (result : Option AuditFault) → ((p : ℕ) → client ≡ Some p → result ≡ Some (fault.Packet Client p)) → ((p : ℕ) → client ≡ None → server ≡ Some p → result ≡ Some (fault.Packet Server p)) → (client ≡ None → server ≡ None → result ≡ None)
    → (client ≡ None → FromRead w.client (λ side j xs. IsKeptWire side j xs w.client.packets.items)) → IfSome client (λ p. FromRead w.client (λ side j xs. IsBadBehind side j xs p)) → IfSome server (λ p. FromRead w.server (λ side j xs. IsBadBehind side j xs p)) → IfSome result (λ f. (j : JudgedRecord) → AreRead j w → IsPacketFault j f)
fault_told w (Some p) server result c s n g h k = subst (λ t. IfSome t (λ f. (j : JudgedRecord) → AreRead j w → IsPacketFault j f)) (sym (c p refl))
    (λ j r. (Client, p, refl, record { exchanges = w.exchanges.items; secrets = r.secrets; client_good = λ e. absurd (let z : Client ≡ Server = e in cc); bad = h Client j w.exchanges.items r.client }))
fault_told w None (Some p) result c s n g h k = subst (λ t. IfSome t (λ f. (j : JudgedRecord) → AreRead j w → IsPacketFault j f)) (sym (s p refl refl))
    (λ j r. (Server, p, refl, record { exchanges = w.exchanges.items; secrets = r.secrets; client_good = λ e. (let q = g refl Client j w.exchanges.items r.client in (q.items, q.good)); bad = k Server j w.exchanges.items r.server }))
fault_told w None None result c s n g h k = subst (λ t. IfSome t (λ f. (j : JudgedRecord) → AreRead j w → IsPacketFault j f)) (sym (n refl refl)) tt

-- ---- two whole blocks

pub whole_blocks : (s : Setting) (r : Recording) (w : ReadWires) (own other : List (List ℕ)) (v : BlockValues) (kind : Bool) → kind ≡ is_gex s.names.kex → AreWhole (judged_under s r) w own other
    → ((c d : Config) → AreShort own → AreShort other → BlocksHold c d kind own other (exchange_in c d v) v.reply.host.now) → HasBlocks (judged_under s r) w.exchanges.items (exchange_in s.client.now s.server.now v) v.reply.host.now
whole_blocks s r w own other v kind k h held =
    let j = judged_under s r in
    let xs = w.exchanges.items in
    let x = exchange_in s.client.now s.server.now v in
    has_blocks j xs w.client w.server own other x v.reply.host.now h.ended.client h.ended.server h.client_whole h.server_whole h.client_is h.server_is
    (subst (λ b. BlocksHold s.client.now s.server.now b own other x v.reply.host.now) k
    (held s.client.now s.server.now (short_messages Client j xs w.client own h.ended.client h.client_is) (short_messages Server j xs w.server other h.ended.server h.server_is)))

pub whole_none : (s : Setting) (r : Recording) (w : ReadWires) (own other : List (List ℕ)) (kind : Bool) → kind ≡ is_gex s.names.kex → AreWhole (judged_under s r) w own other
    → ((c d : Config) (x : Exchange) (host : List ℕ) → BlocksHold c d kind own other x host → ⊥) → HaveNone (judged_under s r) w.exchanges.items
whole_none s r w own other kind k h none =
    no_values (judged_under s r) w.exchanges.items w.client w.server own other h.ended.client h.ended.server h.client_is h.server_is
    (λ x host b. none s.client.now s.server.now x host (subst (λ q. BlocksHold s.client.now s.server.now q own other x host) (sym k) b))
