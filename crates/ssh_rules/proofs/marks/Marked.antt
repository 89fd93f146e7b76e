-- At each moment of a link that plays by turns the marks of both sides say what they have to.
use Rattle.std.proofs.Common.{◌≡◌, ℕ, zero, suc, ◌+◌, ◌-◌, ◌<◌, ◌≤◌, ◌^◌, ◌↔◌, List, [], ◌∷◌, ◌++◌, length, map, take, drop, refl, sym, ◌∙◌, ap, subst, arith, Option, Some, None, Bool, true, false, not, IsTrue, inl, inr, length-append, append_assoc, max}
use Rattle.ssh_packet.specs.Stream.{first_place, Reads, Entries}
use Rattle.ssh_wire.specs.Lines.{id_line}
use Rattle.ssh_wire.specs.declared.side.Side.{Side}
use Rattle.ssh_wire.specs.declared.side.Side.TheVariants.{Client, Server}
use Rattle.ssh_kex.specs.Exchange.{outgoing}
use Rattle.ssh_wire.specs.Sides.{other_side}
use Rattle.ssh_kex.specs.Stages.{Stage, Created, AwaitsGroup, AwaitsReply, AwaitsRequest, AwaitsValue, AwaitsNewkeys}
use Rattle.ssh_rules.specs.declared.link.SideMark.{SideMark}
use Rattle.ssh_rules.specs.Wire.{HasFront, exchange_block, epochs_ended, carried_payloads}
use Rattle.ssh_rules.specs.Machine.{Where, Silent, Outside, Inside, SideState, Event, Steps, first_state}
use Rattle.ssh_rules.specs.Log.{wrote, handled, kept_in, recorded, submitted_in, sent_bytes}
use Rattle.ssh_rules.specs.Counting.{begun, open_count}
use Rattle.ssh_rules.proofs.side.StageFits.{no_trace}
use Rattle.ssh_rules.specs.Marks.{IsMarked, due, epoch, payload_bytes, kexinits}
use Rattle.ssh_rules.specs.Standing.{is_outside}
use Rattle.ssh_rules.specs.Turns.{LinkEnd, Talkers}
use Rattle.ssh_rules.proofs.side.Accounts.{Kept, trace_of}
use Rattle.ssh_rules.proofs.side.ReasonSteps.{capped, ends_open}
use Rattle.ssh_rules.proofs.turns.LinkBounded.{kept_of}
use Rattle.ssh_rules.proofs.side.LedgerSteps.{tidy_first}
use Rattle.ssh_rules.proofs.side.Payloads.{delivers, submits}
use Rattle.ssh_rules.specs.Snapshots.{half_in, TookBytes, IsMarkOf, IsAtRest, IsOfKind}
use Rattle.ssh_rules.proofs.side.Prompt.{prompt_inside}
use Rattle.ssh_rules.proofs.side.Ran.{kept_all, sent_join}
use Rattle.ssh_rules.proofs.pair.Settled.{Quiet, quiet_of, whole}
use Rattle.ssh_rules.proofs.side.Tallied.{Tally, tally_run, read_open}
use Rattle.ssh_rules.proofs.turns.Turns.{AreFit}
use Rattle.ssh_rules.proofs.pair.Whole.{Later, whole_is_handled, written_so_far}

-- ---- lists

take_front : (a b : List ℕ) → take (length a) (a ++ b) ≡ a
take_front [] b = refl
take_front (x ∷ a) b = ap (λ q. x ∷ q) (take_front a b)

cut_front : (line a b : List ℕ) (n : ℕ) → n ≡ length line + length a → drop (length line) (take n (line ++ (a ++ b))) ≡ a
cut_front [] a b n e = ap (λ k. take k (a ++ b)) (let f : n ≡ length a = omega (arith, e) in f) ∙ take_front a b
cut_front (c ∷ line) a b zero e = absurd (omega (arith, e))
cut_front (c ∷ line) a b (suc n) e = cut_front line a b n (omega (arith, e))

cut_early : (line s : List ℕ) (n : ℕ) → n < length line → drop (length line) (take n (line ++ s)) ≡ []
cut_early [] s n l = absurd (omega (arith, l))
cut_early (c ∷ line) s zero l = refl
cut_early (c ∷ line) s (suc n) l = cut_early line s n (omega (arith, l))

through : (a b c : List ℕ) → HasFront a b → HasFront b c → HasFront a c
through a b c s r = (r.0 ++ s.0, sym (append_assoc c r.0 s.0) ∙ (ap (λ q. q ++ s.0) r.1 ∙ s.1))

shorter : (a b : List ℕ) → HasFront a b → length b ≤ length a
shorter a b s = let e = length-append b s.0 in let f : length (b ++ s.0) ≡ length a = ap length s.1 in omega (arith, e, f)

-- what a side sends only grows
pub sent_grows : (t : Talkers) (side : Side) (log more : List Event) (h h' : LinkEnd) → Later t side log more h h' → HasFront h'.sent h.sent
sent_grows t side log more h h' l =
    (sent_bytes side h.state.writing more, ap (λ q. q ++ sent_bytes side h.state.writing more) l.now.ran.sent_is ∙ (sym (sent_join (t.says side) side (t.config side) (t.own_id side) log more first_state h.state l.now.ran.steps) ∙ sym l.later.ran.sent_is))

-- the bytes behind the id line, of those that were taken
taken_cut : (line fed wire : List ℕ) (st : SideState) (taken : ℕ) → TookBytes line fed st taken → HasFront wire fed → drop (length line) (take taken (line ++ wire)) ≡ fed
taken_cut line fed wire st taken (inl h) s = cut_early line wire taken h.2 ∙ sym h.1
taken_cut line fed wire st taken (inr h) s = ap (λ w. drop (length line) (take taken (line ++ w))) (sym s.1) ∙ cut_front line fed s.0 taken h.2

taken_few : (line fed sent : List ℕ) (st : SideState) (taken : ℕ) → TookBytes line fed st taken → HasFront sent fed → taken ≤ length line + length sent
taken_few line fed sent st taken (inl h) s = let l = h.2 in omega (arith, l)
taken_few line fed sent st taken (inr h) s = let l = shorter sent fed s in let e = h.2 in omega (arith, l, e)

-- ---- by where a side stands

pub read_below : (w : Where) → read_open w ≤ open_count w
read_below Silent = omega arith
read_below Outside = omega arith
read_below (Inside (Created own)) = omega arith
read_below (Inside (AwaitsGroup o)) = omega arith
read_below (Inside (AwaitsReply o g l p)) = omega arith
read_below (Inside (AwaitsRequest o)) = omega arith
read_below (Inside (AwaitsValue o g)) = omega arith
read_below (Inside (AwaitsNewkeys exchange made host)) = omega arith

differ : false ≡ true → ⊥
differ e = cc

out_silent : Outside ≡ Silent → ⊥
out_silent e = cc

in_silent : (stage : Stage) → Inside stage ≡ Silent → ⊥
in_silent stage e = cc

pub max_one : (n : ℕ) → (1 ≤ n → max 1 n ≡ n) × (n ≡ 0 → max 1 n ≡ 1)
max_one zero = (λ l. absurd (omega (arith, l)), λ e. refl)
max_one (suc n) = (λ l. omega arith, λ e. absurd (omega (arith, e)))

inside_is : (w : Where) (n k : ℕ) → k ≡ n + open_count w → (w ≡ Silent → n ≡ 0) → (w ≡ Outside → 1 ≤ n) → (b : Bool) → b ≡ not (is_outside w) → IsTrue b ↔ (n < max 1 k)
inside_is Silent n k e z o b i = let zz = z refl in let m = (max_one k).1 (omega (arith, e, zz)) in (λ t. omega (arith, m, zz), λ l. i)
inside_is Outside n k e z o b i = let oo = o refl in let m = (max_one k).0 (omega (arith, e, oo)) in (λ t. absurd (differ (sym i ∙ t)), λ l. absurd (omega (arith, m, l, e)))
inside_is (Inside stage) n k e z o b i = let m = (max_one k).0 (omega (arith, e)) in (λ t. omega (arith, m, e), λ l. i)

-- not inside is outside
pub outside_is : (w : Where) (b : Bool) → b ≡ not (is_outside w) → b ≡ false → w ≡ Outside
outside_is Silent b e f = absurd (differ (sym f ∙ e))
outside_is Outside b e f = refl
outside_is (Inside stage) b e f = absurd (differ (sym f ∙ e))

due_whole : (side : Side) (kind : Bool) (n : ℕ) → n ≡ whole kind → whole kind ≡ due side kind n
due_whole Client true n e = ap (due Client true) (sym e)
due_whole Client false n e = ap (due Client false) (sym e)
due_whole Server true n e = ap (due Server true) (sym e)
due_whole Server false n e = ap (due Server false) (sym e)

none_some : {A : Type 0} (x : Option A) (y : A) → x ≡ None → x ≡ Some y → ⊥
none_some x y e f = let g : None ≡ Some y = sym e ∙ f in cc

-- an exchange is begun once the other's id line is read
starts_is : (line fed : List ℕ) (st : SideState) (taken k : ℕ) → TookBytes line fed st taken → k ≡ begun st → (st.stands ≡ Silent → st.heard ≡ None) → (st.heard ≡ None → st.stands ≡ Silent) → (st.stands ≡ Silent → length st.records ≡ 0) → (st.stands ≡ Outside → 1 ≤ length st.records) → (0 < k) ↔ (length line ≤ taken)
starts_is line fed st taken k (inl h) e q u z o =
    let s = u h.0 in let n = z s in let c : open_count st.stands ≡ 0 = ap open_count s in let l = h.2 in
    (λ a. absurd (omega (arith, a, e, n, c)), λ b. absurd (omega (arith, b, l)))
starts_is line fed st taken k (inr h) e q u z o =
    let f = h.2 in (λ a. omega (arith, f), λ b. some st.stands refl)
  where
    some : (w : Where) → st.stands ≡ w → 0 < k
    some Silent s = absurd (none_some st.heard h.0 (q s) h.1)
    some Outside s = let n = o s in omega (arith, e, n)
    some (Inside stage) s = let c : open_count st.stands ≡ 1 = ap open_count s in omega (arith, e, c)

pub below_cap : (n c limit : ℕ) → c ≡ capped n → c < limit → limit ≤ 2 ^ 30 → n < limit
below_cap n c limit e l s = omega (arith, e, l, s)

-- ---- a side at a moment

pub marked : (t : Talkers) (side : Side) (kind : Bool) (log more plog pmore : List Event) (h h' peer peer' : LinkEnd) (m pm : SideMark) (submitted other : List (List ℕ)) → AreFit t
    → Later t side log more h h' → Later t (other_side side) plog pmore peer peer'
    → HasFront h'.sent peer'.fed → HasFront peer'.sent h'.fed → HasFront peer.sent h.fed
    → IsAtRest (t.config side) h → IsOfKind kind h.state
    → (t.config side).limits.rekey_write_limit ≤ 2 ^ 30 → (t.config side).limits.rekey_read_limit ≤ 2 ^ 30
    → IsMarkOf t side log h m → pm.sent ≡ length (id_line (t.config (other_side side)).id) + length peer.sent
    → IsMarked kind (half_in t side (log ++ more) h' submitted) (half_in t (other_side side) (plog ++ pmore) peer' other) m pm (wrote log) (handled log)
marked t side kind log more plog pmore h h' peer peer' m pm submitted other fit l p a b c rests kinds small_write small_read mark psent = record {
  sent = subst (λ q. Reads (Some (first_place (map (outgoing side) (recorded (log ++ more))))) (wrote log) q []) (sym own_cut) (written_so_far t side log more h h' l);
  reaches = (let e = mark.sent in omega (arith, e));
  within = (let e = mark.sent in let f = length-append (id_line (t.config side).id) h'.sent in let g = shorter h'.sent h.sent grows in omega (arith, e, f, g));
  taken = (let e = taken_few (id_line (t.config (other_side side)).id) h.fed peer.sent h.state m.taken mark.taken c in omega (arith, e, psent));
  taken_whole = (h.unfinished, subst (λ q. Entries (map (outgoing (other_side side)) (recorded (plog ++ pmore))) q (handled log) h.unfinished) (sym (taken_cut (id_line (t.config (other_side side)).id) h.fed peer'.sent h.state m.taken mark.taken (through peer'.sent peer.sent h.fed pgrows c))) (whole_is_handled t side log more (plog ++ pmore) h h' peer' fit l p.later a b rests.part));
  delivered = mark.delivered ∙ ap length (delivers (t.says side) side (t.config side) (t.own_id side) log first_state h.state steps);
  finished = mark.finished ∙ sym ended;
  inside = subst (λ n. IsTrue m.inside ↔ (n < max 1 (kexinits (wrote log)))) (sym mark.finished) (inside_is h.state.stands (length h.state.records) (kexinits (wrote log)) tally.own silent tally.some m.inside mark.inside);
  outside_sent = λ e. (let s = payloads in let z : length h.state.held ≡ 0 = ap length (rests.quiet.sent (outside e)) in let n = mark.submitted in let f : length (carried_payloads (wrote log) ++ h.state.held) ≡ length (submitted_in log) = ap length s in let g = length-append (carried_payloads (wrote log)) h.state.held in omega (arith, n, f, g, z));
  outside_written = λ e. below_cap (payload_bytes (epoch (wrote log))) h.state.written _ (tally.written (outside e)) (rests.quiet.below_write (outside e)) small_write;
  outside_read = λ e. below_cap (payload_bytes (epoch (handled log))) h.state.read _ (tally.read (outside e)) (rests.quiet.below_read (outside e)) small_read;
  starts = starts_is (id_line (t.config (other_side side)).id) h.fed h.state m.taken (kexinits (wrote log)) mark.taken tally.own rests.quiet.silent tally.unheard silent tally.some;
  answers = answered (kexinits (wrote log)) tally.own tally.theirs;
  prompt = λ some. prompt_at some h.state.stands refl;
} where
  steps : Steps (t.says side) side (t.config side) (t.own_id side) first_state log h.state
  steps = l.now.ran.steps

  all : kept_in log ≡ handled log
  all = kept_all log l.now.guesses

  tally : Tally (wrote log) (handled log) h.state
  tally = subst (λ r. Tally (wrote log) r h.state) all (tally_run (t.says side) side (t.config side) (t.own_id side) log h.state steps)

  kept : Kept (t.says side) side (t.config side) (t.own_id side) (wrote log) (handled log) h.state (trace_of no_trace log)
  kept = subst (λ r. Kept (t.says side) side (t.config side) (t.own_id side) (wrote log) r h.state (trace_of no_trace log)) all (kept_of t side log h l.now)

  grows : HasFront h'.sent h.sent
  grows = sent_grows t side log more h h' l

  pgrows : HasFront peer'.sent peer.sent
  pgrows = sent_grows t (other_side side) plog pmore peer peer' p

  own_cut : drop (length (id_line (t.config side).id)) (take m.sent (id_line (t.config side).id ++ h'.sent)) ≡ h.sent
  own_cut = ap (λ w. drop (length (id_line (t.config side).id)) (take m.sent (id_line (t.config side).id ++ w))) (sym grows.1) ∙ cut_front (id_line (t.config side).id) h.sent grows.0 m.sent mark.sent

  ended : epochs_ended (handled log) ≡ length h.state.records
  ended = ends_open (length h.state.records) (trace_of no_trace log).theirs (handled log) kept.accounts.theirs kept.tidy.theirs_open

  silent : h.state.stands ≡ Silent → length h.state.records ≡ 0
  silent e = ap length (kept.accounts.silent e)

  outside : m.inside ≡ false → h.state.stands ≡ Outside
  outside e = outside_is h.state.stands m.inside mark.inside e

  payloads : carried_payloads (wrote log) ++ h.state.held ≡ submitted_in log
  payloads = submits (t.says side) side (t.config side) (t.own_id side) log first_state h.state no_trace (tidy_first (t.says side) side (t.config side) (t.own_id side)) steps

  answered : (k : ℕ) → k ≡ begun h.state → kexinits (handled log) ≡ length h.state.records + read_open h.state.stands → kexinits (handled log) ≤ max 1 k
  answered zero e f = (let r = read_below h.state.stands in omega (arith, e, f, r))
  answered (suc k) e f = (let r = read_below h.state.stands in let x = (max_one (suc k)).0 (omega arith) in omega (arith, e, f, r, x))

  still : Quiet side kind (length h.state.records) (wrote log) (handled log)
  still = quiet_of (t.says side) side (t.config side) (t.own_id side) (wrote log) (handled log) h.state (trace_of no_trace log) kind kept rests.quiet.owes kinds.now kinds.each

  at_block : (n : ℕ) → kexinits (wrote log) - 1 ≡ n → length (exchange_block n (wrote log)) ≡ due side kind (length (exchange_block n (handled log))) → length (exchange_block (kexinits (wrote log) - 1) (wrote log)) ≡ due side kind (length (exchange_block (kexinits (wrote log) - 1) (handled log)))
  at_block n e f = subst (λ k. length (exchange_block k (wrote log)) ≡ due side kind (length (exchange_block k (handled log)))) (sym e) f

  prompt_at : 0 < kexinits (wrote log) → (w : Where) → h.state.stands ≡ w → length (exchange_block (kexinits (wrote log) - 1) (wrote log)) ≡ due side kind (length (exchange_block (kexinits (wrote log) - 1) (handled log)))
  prompt_at some Silent s = absurd (let o = tally.own in let n = silent s in let c : open_count h.state.stands ≡ 0 = ap open_count s in omega (arith, some, o, n, c))
  prompt_at some Outside s =
      let o = tally.own in let c : open_count h.state.stands ≡ 0 = ap open_count s in let n = tally.some s in
      at_block (length h.state.records - 1) (omega (arith, o, c)) (still.own (length h.state.records - 1) (omega (arith, n)) ∙ due_whole side kind _ (still.theirs (length h.state.records - 1) (omega (arith, n))))
  prompt_at some (Inside stage) s =
      let o = tally.own in let c : open_count h.state.stands ≡ 1 = ap open_count s in
      let q = prompt_inside (t.says side) side (t.config side) (t.own_id side) h.state (trace_of no_trace log) stage kind kept.tidy.fits s rests.quiet.owes kinds.now in
      at_block (length h.state.records) (omega (arith, o, c)) (ap length kept.accounts.own.block_is ∙ (q ∙ ap (λ d. due side kind (length d)) (sym kept.accounts.theirs.block_is)))
