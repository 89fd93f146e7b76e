-- In a link the packet that stands whole at the front of what a side hasn't handled is the next that the other wrote,
-- and no fault stands there.
use Rattle.std.proofs.Common.{◌≡◌, ℕ, List, [], ◌∷◌, ◌++◌, map, slice_get, refl, sym, ◌∙◌, ap, subst, Option, Some, None, ◌⊎◌, inl, inr}
use Rattle.std.proofs.lemmas.List.{append_cancel_left}
use Rattle.ssh_packet.proofs.Lemmas.{front_stays_refused, front_stays_whole, front_whole, reads_more, reads_split}
use Rattle.ssh_packet.specs.Front.{Fault, Refused, Unfinished, Whole, front_of}
use Rattle.ssh_packet.specs.Sealing.{Item, Sealing, Clear, Block, Gcm, sealed_packet}
use Rattle.ssh_packet.specs.Stream.{Place, Reads, first_place, packet_at, place_after, place_behind}
use Rattle.ssh_wire.specs.Sides.{other_side}
use Rattle.ssh_wire.specs.declared.side.Side.{Side}
use Rattle.ssh_kex.specs.Exchange.{outgoing}
use Rattle.ssh_kex.specs.declared.exchange.FinishedExchange.{FinishedExchange}
use Rattle.ssh_rules.specs.Log.{handled, recorded, wrote}
use Rattle.ssh_rules.specs.Machine.{Event, first_state}
use Rattle.ssh_rules.specs.Snapshots.{HasRun, NoGuesses, RunsInLink}
use Rattle.ssh_rules.specs.Turns.{LinkEnd, Talkers}
use Rattle.ssh_rules.specs.Wire.{HasFront}
use Rattle.ssh_rules.proofs.side.Places.{handled_reads, place_of, written_reads}
use Rattle.ssh_rules.proofs.side.Ran.{plain_guesses}
use Rattle.ssh_rules.proofs.pair.Whole.{At, at_behind, first_at, handled_behind, reads_moved}

-- packets leave one rest
one_rest : (at : Option Place) (a : List Item) (bytes x y : List ℕ) → Reads at a bytes x → Reads at a bytes y → x ≡ y
one_rest at [] bytes x y h k = sym h ∙ k
one_rest None (i ∷ a) bytes x y h k = absurd h
one_rest (Some at) (i ∷ a) bytes x y h k = one_rest (place_after at i) a h.0 x y h.3 (subst (λ z. Reads (place_after at i) a z y) (append_cancel_left (packet_at at i) k.0 h.0 (sym k.2 ∙ h.2)) k.3)

-- no packet stands in no bytes
pub nothing_whole : (sealing : Sealing) (number : ℕ) (item : Item) (rest : List ℕ) → front_of sealing number [] ≡ Whole item rest → ⊥
unfolding front_of
nothing_whole Clear number item rest e = (let q : Unfinished ≡ Whole item rest = e in cc)
nothing_whole (Block running mac) number item rest e = (let q : Unfinished ≡ Whole item rest = e in cc)
nothing_whole (Gcm key nonce) number item rest e = (let q : Unfinished ≡ Whole item rest = e in cc)

nil_front : (a b : List ℕ) → a ++ b ≡ [] → a ≡ []
nil_front [] b e = refl
nil_front (x ∷ a) b e = cc

-- and no fault
pub nothing_refused : (sealing : Sealing) (number : ℕ) (fault : Fault) → front_of sealing number [] ≡ Refused fault → ⊥
unfolding front_of
nothing_refused Clear number fault e = (let q : Unfinished ≡ Refused fault = e in cc)
nothing_refused (Block running mac) number fault e = (let q : Unfinished ≡ Refused fault = e in cc)
nothing_refused (Gcm key nonce) number fault e = (let q : Unfinished ≡ Refused fault = e in cc)

get_none : (xs : List FinishedExchange) (k : ℕ) (x : FinishedExchange) → xs ≡ [] → slice_get xs k ≡ Some x → ⊥
get_none [] k x e h = cc
get_none (y ∷ xs) k x e h = cc

whole_item : (i j : Item) (x y : List ℕ) → Whole i x ≡ Whole j y → i ≡ j
whole_item i j x y e = cc

abbrev pub WritesNext : List Item → List Item → Item → Type 0
WritesNext written read item = (more : List Item) × (written ≡ read ++ item ∷ more)

-- what stands at the front of what the other sent behind the packets that were handled: the next that it wrote
pub record ComesNext (sealing : Sealing) (number : ℕ) (bytes : List ℕ) (written read : List Item) : Type 0 where
  pub item : Item
  pub next : WritesNext written read item
  pub rest : List ℕ
  pub whole : front_of sealing number bytes ≡ Whole item rest

-- Nothing more was sent, or the next packet stands there.
pub next_front : (t : Talkers) (side : Side) (log plog : List Event) (h peer : LinkEnd) → HasRun (t.says side) side (t.config side) (t.own_id side) log h.state h.sent h.fed h.unfinished → NoGuesses log → HasRun (t.says (other_side side)) (other_side side) (t.config (other_side side)) (t.own_id (other_side side)) plog peer.state peer.sent peer.fed peer.unfinished → (fed : HasFront peer.sent h.fed) → HasFront (wrote plog) (handled log)
    → ((k : ℕ) (x y : FinishedExchange) → slice_get (recorded log) k ≡ Some x → slice_get (recorded plog) k ≡ Some y → x ≡ y)
    → (h.unfinished ++ fed.0 ≡ []) ⊎ ComesNext h.state.reading.sealing h.state.reading.number (h.unfinished ++ fed.0) (wrote plog) (handled log)
next_front t side log plog h peer r g p fed front agree = by front.0 front.1 where
  start : Option Place
  start = Some (first_place (map (outgoing (other_side side)) (recorded plog)))

  sends : Reads start (wrote plog) peer.sent []
  sends = subst (λ v. Reads start (wrote plog) v []) (sym p.sent_is) (written_reads (t.says (other_side side)) (other_side side) (t.config (other_side side)) (t.own_id (other_side side)) plog first_state peer.state tt tt p.steps)

  mine : Reads (Some (first_place (map (outgoing (other_side side)) (recorded log)))) (handled log) h.fed h.unfinished
  mine = subst (λ v. Reads (Some (first_place (map (outgoing (other_side side)) (recorded log)))) (handled log) v h.unfinished) (sym r.fed_is) (reads_more _ _ _ _ h.unfinished (handled_reads (t.says side) side (t.config side) (t.own_id side) log first_state h.state (plain_guesses log g) r.steps))

  places : At (Some (first_place (map (outgoing (other_side side)) (recorded log)))) start
  places = first_at (other_side side) (recorded log) (recorded plog) agree

  behind : At (Some (place_of h.state.reading [])) (place_behind start (handled log))
  behind = subst (λ q. At q (place_behind start (handled log))) (handled_behind (t.says side) side (t.config side) (t.own_id side) log first_state h.state g r.steps) (at_behind _ start (handled log) places)

  by : (more : List Item) → handled log ++ more ≡ wrote plog → (h.unfinished ++ fed.0 ≡ []) ⊎ ComesNext h.state.reading.sealing h.state.reading.number (h.unfinished ++ fed.0) (wrote plog) (handled log)
  by more e = next more e left where
    split : (y : List ℕ) × Reads start (handled log) peer.sent y × Reads (place_behind start (handled log)) more y []
    split = reads_split start (handled log) more peer.sent [] (subst (λ q. Reads start q peer.sent []) (sym e) sends)

    moved : Reads start (handled log) h.fed h.unfinished
    moved = reads_moved _ start (handled log) h.fed h.unfinished peer.sent split.0 places mine split.1

    -- what waits is a front of what was sent behind them
    same : split.0 ≡ h.unfinished ++ fed.0
    same = one_rest start (handled log) peer.sent split.0 (h.unfinished ++ fed.0) split.1 (subst (λ z. Reads start (handled log) z (h.unfinished ++ fed.0)) fed.1 (reads_more start (handled log) h.fed h.unfinished fed.0 moved))

    left : Reads (place_behind start (handled log)) more (h.unfinished ++ fed.0) []
    left = subst (λ z. Reads (place_behind start (handled log)) more z []) same split.2

    at_place : (q : Option Place) (j : Item) (more : List Item) → Reads q (j ∷ more) (h.unfinished ++ fed.0) [] → At (Some (place_of h.state.reading [])) q → (rest : List ℕ) × (front_of h.state.reading.sealing h.state.reading.number (h.unfinished ++ fed.0) ≡ Whole j rest)
    at_place None j more l b = absurd l
    at_place (Some q) j more l b =
        let bytes : h.unfinished ++ fed.0 ≡ sealed_packet q.sealing q.number j ++ l.0 = l.2 in
        let found : front_of q.sealing q.number (h.unfinished ++ fed.0) ≡ Whole j l.0 = ap (front_of q.sealing q.number) bytes ∙ front_whole q.sealing q.number j l.0 l.1 in
        (l.0, ap (λ s. front_of s h.state.reading.number (h.unfinished ++ fed.0)) b.sealing ∙ (ap (λ n. front_of q.sealing n (h.unfinished ++ fed.0)) b.number ∙ found))

    next : (more : List Item) → handled log ++ more ≡ wrote plog → Reads (place_behind start (handled log)) more (h.unfinished ++ fed.0) [] → (h.unfinished ++ fed.0 ≡ []) ⊎ ComesNext h.state.reading.sealing h.state.reading.number (h.unfinished ++ fed.0) (wrote plog) (handled log)
    next [] e l = inl l
    next (j ∷ more) e l = let w = at_place (place_behind start (handled log)) j more l behind in inr (record { item = j; next = (more, sym e); rest = w.0; whole = w.1 })

-- a packet that stands whole is the next
whole_next : (sealing : Sealing) (number : ℕ) (waits more : List ℕ) (written read : List Item) (item : Item) (rest : List ℕ) → (waits ++ more ≡ []) ⊎ ComesNext sealing number (waits ++ more) written read → front_of sealing number waits ≡ Whole item rest → WritesNext written read item
whole_next sealing number waits more written read item rest (inl e) stands = absurd (nothing_whole sealing number item rest (ap (front_of sealing number) (sym (nil_front waits more e)) ∙ stands))
whole_next sealing number waits more written read item rest (inr n) stands = subst (WritesNext written read) (whole_item n.item item n.rest (rest ++ more) (sym n.whole ∙ front_stays_whole sealing number waits more rest item stands)) n.next

-- and a fault never stands there
no_fault_next : (sealing : Sealing) (number : ℕ) (waits more : List ℕ) (written read : List Item) (fault : Fault) → (waits ++ more ≡ []) ⊎ ComesNext sealing number (waits ++ more) written read → front_of sealing number waits ≡ Refused fault → ⊥
no_fault_next sealing number waits more written read fault (inl e) stands = nothing_refused sealing number fault (ap (front_of sealing number) (sym (nil_front waits more e)) ∙ stands)
no_fault_next sealing number waits more written read fault (inr n) stands = (let q : Whole n.item n.rest ≡ Refused fault = sym n.whole ∙ front_stays_refused sealing number waits more fault stands in cc)

pub next_whole : (t : Talkers) (side : Side) (log plog : List Event) (h peer : LinkEnd) (item : Item) (rest : List ℕ) → RunsInLink t side log h → RunsInLink t (other_side side) plog peer → HasFront peer.sent h.fed → HasFront (wrote plog) (handled log)
    → ((k : ℕ) (x y : FinishedExchange) → slice_get (recorded log) k ≡ Some x → slice_get (recorded plog) k ≡ Some y → x ≡ y)
    → front_of h.state.reading.sealing h.state.reading.number h.unfinished ≡ Whole item rest → WritesNext (wrote plog) (handled log) item
next_whole t side log plog h peer item rest r p fed front agree stands = whole_next h.state.reading.sealing h.state.reading.number h.unfinished fed.0 (wrote plog) (handled log) item rest (next_front t side log plog h peer r.ran r.guesses p.ran fed front agree) stands

-- In a link nothing is left that can't be opened.
pub next_opens : (t : Talkers) (side : Side) (log plog : List Event) (h peer : LinkEnd) (fault : Fault) → RunsInLink t side log h → RunsInLink t (other_side side) plog peer → HasFront peer.sent h.fed → HasFront (wrote plog) (handled log)
    → ((k : ℕ) (x y : FinishedExchange) → slice_get (recorded log) k ≡ Some x → slice_get (recorded plog) k ≡ Some y → x ≡ y)
    → front_of h.state.reading.sealing h.state.reading.number h.unfinished ≡ Refused fault → ⊥
next_opens t side log plog h peer fault r p fed front agree stands = no_fault_next h.state.reading.sealing h.state.reading.number h.unfinished fed.0 (wrote plog) (handled log) fault (next_front t side log plog h peer r.ran r.guesses p.ran fed front agree) stands

-- nor is it of a reader without a record, whatever the parts are
pub early_whole : (t : Talkers) (side : Side) (log plog : List Event) (h peer : LinkEnd) (item : Item) (rest : List ℕ) → HasRun (t.says side) side (t.config side) (t.own_id side) log h.state h.sent h.fed h.unfinished → NoGuesses log → HasRun (t.says (other_side side)) (other_side side) (t.config (other_side side)) (t.own_id (other_side side)) plog peer.state peer.sent peer.fed peer.unfinished → HasFront peer.sent h.fed → HasFront (wrote plog) (handled log) → recorded log ≡ []
    → front_of h.state.reading.sealing h.state.reading.number h.unfinished ≡ Whole item rest → WritesNext (wrote plog) (handled log) item
early_whole t side log plog h peer item rest r g p fed front none stands = whole_next h.state.reading.sealing h.state.reading.number h.unfinished fed.0 (wrote plog) (handled log) item rest (next_front t side log plog h peer r g p fed front (λ k x y e f. absurd (get_none (recorded log) k x none e))) stands
