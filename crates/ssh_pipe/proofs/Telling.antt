-- What is told beside a talk, line by line, and how the exchanges of a side grow.
use Rattle.std.proofs.Common.{Global, Vec, ◌≡◌, ◌≤◌, ℕ, ◌+◌, arith, List, [], ◌∷◌, ◌++◌, length, drop, slice_get, Some, None, Result, Ok, Err, OnOk, OnErr, IfOk, refl, sym, ap, ◌∙◌, subst, zero, suc, append_assoc, append-nil, length-append, ◌⊎◌, inl, inr}
use Rattle.std.proofs.lemmas.List.{drop_all}
use Rattle.ssh_wire.specs.Lines.{id_text}
use Rattle.ssh_packet.specs.Sealing.{Item}
use Rattle.ssh_kex.specs.Setting.{Says}
use Rattle.ssh_kex.specs.declared.exchange.FinishedExchange.{FinishedExchange}
use Rattle.ssh_rules.specs.Log.{handled, recorded}
use Rattle.ssh_rules.specs.Machine.{AnswerSent, Event, ExchangeBegun, ExchangeFinished, GuessDropped, IdHeard, MessageTaken, PacketDropped, PayloadDelivered, PayloadSent, PayloadSubmitted}
use Rattle.ssh_rules.specs.Standing.{Standing, Submitted}
use Rattle.ssh_rules.proofs.Lemmas.{recorded_is}
use Rattle.ssh_pipe.specs.Notes.{IsTold, Noted, TellsLines, exchange_note, exchange_notes}
use Rattle.ssh_pipe.specs.Talks.{Fed, FedLast, Follows, Handed, Move}

-- ---- lines

-- a line that may have found no memory
pub told_or_none : {E : Type 0} (made : Result (Vec ℕ Global) E) (line : List ℕ) (before now : Noted) → IfOk made (λ text. text.items ≡ line)
    → IfOk made (λ text. IsTold text.items before now) → OnErr made (now ≡ before) → IsTold line before now ⊎ (now ≡ before)
told_or_none (Ok text) line before now is told none = inl (subst (λ (l : List ℕ). IsTold l before now) is told)
told_or_none (Err e) line before now is told none = inr none

pub tells_join : (a b : List (List ℕ)) (before mid now : Noted) → TellsLines a before mid → TellsLines b mid now → TellsLines (a ++ b) before now
tells_join [] b before mid now h k = subst (λ (m : Noted). TellsLines b m now) h k
tells_join (line ∷ a) b before mid now h k = (h.0, h.1, tells_join a b h.0 mid now h.2 k)

-- ---- the lines of exchanges

notes_join : (k : ℕ) (xs ys : List FinishedExchange) → exchange_notes k (xs ++ ys) ≡ exchange_notes k xs ++ exchange_notes (k + length xs) ys
notes_join k [] ys =
    let none : k ≡ k + 0 = omega arith in
    ap (λ (n : ℕ). exchange_notes n ys) none
notes_join k (x ∷ xs) ys =
    let more : (k + 1) + length xs ≡ k + length (x ∷ xs) = omega arith in
    ap (λ (l : List (List ℕ)). exchange_note k x ∷ l) (notes_join (k + 1) xs ys ∙ ap (λ (n : ℕ). exchange_notes (k + 1) xs ++ exchange_notes n ys) more)

drop_front : (xs ys : List FinishedExchange) → drop (length xs) (xs ++ ys) ≡ ys
drop_front [] ys = refl
drop_front (x ∷ xs) ys = drop_front xs ys

-- what was told of some exchanges, and then of those behind them
pub tells_more : (xs more ys : List FinishedExchange) (told : ℕ) (before mid now : Noted) → told ≡ length xs → ys ≡ xs ++ more → TellsLines (exchange_notes 1 xs) before mid → TellsLines (exchange_notes (told + 1) (drop told ys)) mid now → TellsLines (exchange_notes 1 ys) before now
tells_more xs more ys told before mid now is split h k =
    let place : told + 1 ≡ 1 + length xs = omega (arith, is) in
    let rest : drop told ys ≡ more = ap (λ (n : ℕ). drop n ys) is ∙ (ap (λ (l : List FinishedExchange). drop (length xs) l) split ∙ drop_front xs more) in
    let lines : exchange_notes (told + 1) (drop told ys) ≡ exchange_notes (1 + length xs) more = ap (λ (n : ℕ). exchange_notes n (drop told ys)) place ∙ ap (λ (l : List FinishedExchange). exchange_notes (1 + length xs) l) rest in
    subst (λ (l : List (List ℕ)). TellsLines l before now) (sym (ap (λ (l : List FinishedExchange). exchange_notes 1 l) split ∙ notes_join 1 xs more))
    (tells_join (exchange_notes 1 xs) (exchange_notes (1 + length xs) more) before mid now h (subst (λ (l : List (List ℕ)). TellsLines l mid now) lines k))

-- no fewer are told than were
pub tells_within : (xs more ys : List FinishedExchange) (told : ℕ) → told ≡ length xs → ys ≡ xs ++ more → told ≤ length ys
tells_within xs more ys told is split =
    let all : length ys ≡ length xs + length more = ap (λ (l : List FinishedExchange). length l) split ∙ length-append xs more in
    omega (arith, is, all)

-- the next of some exchanges
next_at : (xs : List FinishedExchange) (k : ℕ) (x : FinishedExchange) → slice_get xs k ≡ Some x → drop k xs ≡ x ∷ drop (suc k) xs
next_at [] k x e = absurd (none_some x e) where
  none_some : (x : FinishedExchange) → None ≡ Some x → ⊥
  none_some x e = cc
next_at (y ∷ xs) zero x e = ap (λ (z : FinishedExchange). z ∷ xs) (some_same y x e) where
  some_same : (y x : FinishedExchange) → Some y ≡ Some x → y ≡ x
  some_same y x e = cc
next_at (y ∷ xs) (suc k) x e = next_at xs k x e

next_of : (xs : List FinishedExchange) (k : ℕ) (x : FinishedExchange) → slice_get xs k ≡ Some x → drop k xs ≡ x ∷ drop (k + 1) xs
next_of xs k x e =
    let next : suc k ≡ k + 1 = omega arith in
    next_at xs k x e ∙ ap (λ (n : ℕ). x ∷ drop n xs) next

-- the line of the next, and then the lines of those behind it
pub tells_next : (xs : List FinishedExchange) (k : ℕ) (x : FinishedExchange) (before mid now : Noted) → slice_get xs k ≡ Some x → IsTold (exchange_note (k + 1) x) before mid ⊎ (mid ≡ before) → TellsLines (exchange_notes ((k + 1) + 1) (drop (k + 1) xs)) mid now → TellsLines (exchange_notes (k + 1) (drop k xs)) before now
tells_next xs k x before mid now is told rest =
    subst (λ (l : List FinishedExchange). TellsLines (exchange_notes (k + 1) l) before now) (sym (next_of xs k x is)) (mid, told, rest)

-- no exchange is left
pub tells_none : (xs : List FinishedExchange) (k : ℕ) (at : Noted) → length xs ≤ k → TellsLines (exchange_notes (k + 1) (drop k xs)) at at
tells_none xs k at h = subst (λ (l : List FinishedExchange). TellsLines (exchange_notes (k + 1) l) at at) (sym (drop_all k xs h)) refl

-- ---- the exchanges of a side

cons_nil : (i : Item) (l : List Item) → i ∷ l ≡ [] → ⊥
cons_nil i l e = cc

none_recorded : (es : List Event) → handled es ≡ [] → recorded es ≡ []
none_recorded [] e = refl
none_recorded (IdHeard id ∷ es) e = none_recorded es e
none_recorded (PayloadSubmitted p ∷ es) e = none_recorded es e
none_recorded (ExchangeBegun cause i ∷ es) e = none_recorded es e
none_recorded (AnswerSent i r ∷ es) e = none_recorded es e
none_recorded (PayloadSent i ∷ es) e = none_recorded es e
none_recorded (MessageTaken i ∷ es) e = absurd (cons_nil i (handled es) e)
none_recorded (GuessDropped i ∷ es) e = absurd (cons_nil i (handled es) e)
none_recorded (PayloadDelivered i ∷ es) e = absurd (cons_nil i (handled es) e)
none_recorded (PacketDropped i ∷ es) e = absurd (cons_nil i (handled es) e)
none_recorded (ExchangeFinished i x ∷ es) e = absurd (cons_nil i (handled es) e)

-- a payload that is submitted finishes none
pub submitted_none : (says : Says) (old : Standing) (payload : List ℕ) (new : Standing) → Submitted says old payload new → new.state.records ≡ old.state.records
submitted_none says old payload new h =
    recorded_is says old.side old.config (id_text old.config.id) h.events old.state new.state h.acts.steps
    ∙ (ap (λ (l : List FinishedExchange). old.state.records ++ l) (none_recorded h.events h.none_read) ∙ append-nil old.state.records)

-- nor does one for which memory is wanting
pub submit_none : {A E : Type 0} (X : Type 0) (r : Result A E) (says : Says) (old : Standing) (payload : List ℕ) (new : Standing) → OnOk r (Submitted says old payload new) → OnErr r ((new.state.records ≡ old.state.records) × X) → new.state.records ≡ old.state.records
submit_none X (Ok a) says old payload new sent left = submitted_none says old payload new sent
submit_none X (Err e) says old payload new sent left = left.0

-- exchanges that were finished stay
pub record Grows (old new : Standing) : Type 0 where
  pub more : List FinishedExchange
  pub all : new.state.records ≡ old.state.records ++ more

grows_none : (old new : Standing) → new.state.records ≡ old.state.records → Grows old new
grows_none old new h = record { more = []; all = h ∙ sym (append-nil old.state.records) }

grows_join : (old mid new : Standing) → Grows old mid → Grows mid new → Grows old new
grows_join old mid new h k = record {
  more = h.more ++ k.more;
  all = k.all ∙ (ap (λ (l : List FinishedExchange). l ++ k.more) h.all ∙ append_assoc old.state.records h.more k.more);
}

pub grown : (says : Says) (ms : List Move) (old new : Standing) → Follows says old ms new → Grows old new
grown says [] old new h = grows_none old new (ap (λ (t : Standing). t.state.records) h)
grown says (Fed piece ∷ ms) old new h =
    let takes = h.1.1 in
    grows_join old h.0 new (record {
      more = recorded takes.events;
      all = recorded_is says old.side old.config (id_text old.config.id) takes.events old.state h.0.state takes.acts.steps;
    }) (grown says ms h.0 new h.2)
grown says (FedLast piece ∷ ms) old new h =
    let refuses = h.1.1.1 in
    grows_join old h.0 new (record {
      more = recorded refuses.events;
      all = refuses.records ∙ recorded_is says old.side old.config (id_text old.config.id) refuses.events old.state refuses.at refuses.steps;
    }) (grown says ms h.0 new h.2)
grown says (Handed payload ∷ ms) old new h =
    grows_join old h.0 new (grows_none old h.0 (submitted_none says old payload h.0 h.1.1.1)) (grown says ms h.0 new h.2)
