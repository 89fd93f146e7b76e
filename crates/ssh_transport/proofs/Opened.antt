-- What holds of the machine of an exchange.
use Rattle.std.proofs.Common.{◌≡◌, ℕ, Bool, true, false, List, [], ◌∷◌, Some, None, Result, Ok, Err, OnOk, refl, sym, ap, ◌∙◌, subst}
use Rattle.ssh_wire.specs.Reading.{IdReading, Waiting, Heard, Failed, Feeds, IsShort}
use Rattle.ssh_wire.specs.declared.error.Error.{Error}
use Rattle.ssh_wire.specs.declared.read_id.IdProgress.{IdProgress}
use Rattle.ssh_wire.specs.declared.read_id.IdProgress.TheVariants as progress
use Rattle.ssh_wire.specs.declared.side.Side.{Side}
use Rattle.ssh_kex.specs.Setting.{Setting}
use Rattle.ssh_kex.specs.Stages.{Machine, Stage, names_in_stage}
use Rattle.ssh_kex.specs.declared.config.Config.{Config}
use Rattle.ssh_kex.specs.declared.exchange.FinishedExchange.{FinishedExchange}
use Rattle.ssh_kex.specs.declared.session_state.SessionKexState.{SessionKexState}
use Rattle.ssh_kex.specs.declared.session_state.SessionKexState.TheVariants.{Idle, InProgress, Taken}
use Rattle.ssh_rules.specs.Machine.{Inside, Outside, Silent, Where}
use Rattle.ssh_transport.specs.Handling.{IsBegun, IsFlagged, IsHeard, IsOpen, IsOpenBy}
use Rattle.ssh_transport.specs.Kept.{IsLive}
use Rattle.ssh_transport.specs.Saying.{Begins, setting_of}
use Rattle.ssh_transport.specs.States.{CanBegin, IsFresh, WaitsBehind, heard_of, is_silent, stands_of}
use Rattle.ssh_transport.specs.declared.connection.Connection.{Connection}
use Rattle.ssh_transport.specs.declared.session.Session.{Session}
use Rattle.ssh_transport.proofs.Hearing.{settled_begun}

-- packets may wait behind it
pub heard_line : (line : IdReading) → ((waiting : List ℕ) → WaitsBehind line waiting) → IsHeard line
heard_line (Waiting bytes others) h = absurd (let e : 0 ∷ [] ≡ [] = h (0 ∷ []) in cc)
heard_line (Heard text) h = (text, refl)
heard_line Failed h = absurd (let e : 0 ∷ [] ≡ [] = h (0 ∷ []) in cc)

pub begun_heard : (s : Session) → IsHeard s.line → (stands_of s.finished.items s.kex ≡ Silent → heard_of s.line ≡ None)
    → IsBegun s
begun_heard s h q e = let n : None ≡ Some h.0 = sym (q e) ∙ ap heard_of h.1 in cc

fresh_by : (s : Session) (kex : SessionKexState Machine) (records : List FinishedExchange) → s.kex ≡ kex
    → s.finished.items ≡ records → kex ≡ Idle → records ≡ [] → IsOpen s
fresh_by s kex records a b c d = record {
  machine = subst (λ (k : SessionKexState Machine). IsOpenBy (setting_of s) k) (sym (a ∙ c)) tt;
  heard = λ n. absurd (n (ap (λ (k : SessionKexState Machine). stands_of s.finished.items k) (a ∙ c)
      ∙ ap (λ (xs : List FinishedExchange). stands_of xs Idle) (b ∙ d)));
}

pub open_fresh : (side : Side) (config : Config) (s : Session) → IsFresh side config s → IsOpen s
open_fresh side config s f = fresh_by s s.kex s.finished.items refl refl f.kex_is f.finished_is

pub open_begun : (s s' : Session) → IsHeard s.line → Begins s s' → IsOpen s'
open_begun s s' h b = subst IsOpen (sym b.becomes) (record {
  machine = record {
    setting_is = b.setting_is;
    flagged = subst
        (λ (x : Stage). IsFlagged b.machine.setting (names_in_stage x)) (sym b.stage_is) tt;
  };
  heard = λ n. h;
})

-- ---- a piece of the version line

not_yet : (allow : Bool) (text : List ℕ) (piece : List ℕ) (new : IdReading)
    → Feeds allow (Heard text) piece (Ok progress.NotYet) new → ⊥
not_yet allow text piece new h = let e = h.0 in cc

unheard_open : (s : Session) (line : IdReading) (kex : SessionKexState Machine) (b : Setting)
    → IsOpenBy (setting_of s) kex → (IsHeard s.line → ⊥) →
    ((stands_of s.finished.items kex ≡ Silent → ⊥) → IsHeard s.line) → IsOpenBy b kex
unheard_open s line Idle b m n h = tt
unheard_open s line (InProgress k) b m n h = absurd (n (h (λ e. let f : Inside k.stage ≡ Silent = e in cc)))
unheard_open s line Taken b m n h = absurd m

pub open_not_yet : (allow : Bool) (s s' : Session) (line : IdReading) (piece : List ℕ) (got : IdProgress)
    → Feeds allow s.line piece (Ok got) line → got ≡ progress.NotYet → s' ≡ record s { line = line } → IsOpen s
    → IsOpen s'
open_not_yet allow s s' line piece got h g e o = subst IsOpen (sym e) (record {
  machine = unheard_open s line s.kex (setting_of (record s { line = line })) o.machine no o.heard;
  heard = λ n. absurd (no (o.heard n));
}) where
  fed : Feeds allow s.line piece (Ok progress.NotYet) line
  fed = subst (λ (x : IdProgress). Feeds allow s.line piece (Ok x) line) g h

  no : IsHeard s.line → ⊥
  no i = not_yet allow i.0 piece line (subst (λ (x : IdReading). Feeds allow x piece (Ok progress.NotYet) line) i.1 fed)

heard_stays : (allow : Bool) (text : List ℕ) (piece : List ℕ) (answer : Result IdProgress Error) (new : IdReading)
    → Feeds allow (Heard text) piece answer new → new ≡ Heard text
heard_stays allow text piece answer new h = h.1

pub open_late : (allow : Bool) (s s' : Session) (line : IdReading) (piece : List ℕ) (answer : Result IdProgress Error)
    (due : Bool) → Feeds allow s.line piece answer line → due ≡ is_silent (stands_of s.finished.items s.kex)
    → due ≡ false → s' ≡ record s { line = line } → IsOpen s → IsOpen s'
open_late allow s s' line piece answer due h d f e o = subst IsOpen (sym e)
    (subst (λ (l : IdReading). IsOpen (record s { line = l })) (sym same)
    (record { machine = o.machine; heard = o.heard }))
  where
    begun : IsBegun s
    begun x = let g : true ≡ false = sym (ap is_silent x) ∙ sym d ∙ f in cc

    was : IsHeard s.line
    was = o.heard begun

    same : line ≡ s.line
    same = heard_stays allow was.0 piece answer line (subst (λ (x : IdReading). Feeds allow x piece answer line) was.1
        h) ∙ sym was.1

pub on_both : {T : Type 0} (answer : Result T Error) (P Q R : Type 0) → (P → Q → R) → OnOk answer P → OnOk answer Q
    → OnOk answer R
on_both (Ok x) P Q R f h k = f h k
on_both (Err e) P Q R f h k = tt

outside_begun : (w : Where) → w ≡ Outside → w ≡ Silent → ⊥
outside_begun w o e = let f : Outside ≡ Silent = sym o ∙ e in cc

pub heard_outside : (s : Session) → stands_of s.finished.items s.kex ≡ Outside → IsOpen s → IsHeard s.line
heard_outside s e o = o.heard (outside_begun (stands_of s.finished.items s.kex) e)

-- an exchange that was begun outside one
pub live_begun : (c : Connection) (s' : Session) → IsLive c → stands_of c.session.finished.items c.session.kex ≡ Outside
    → Begins c.session s' → CanBegin s' → IsLive (record c { session = s' })
live_begun c s' l o b k = record {
  begins = k;
  settled = settled_begun c.session s' c.reader.count b;
  good = subst Rattle.ssh_transport.specs.Saying.AreGood (sym (ap (λ (x : Session). x.held.items) b.becomes)) l.good;
  opened = open_begun c.session s' (heard_outside c.session o l.opened) b;
  numbered = l.numbered;
  short = subst IsShort (sym (ap (λ (x : Session). x.line) b.becomes)) l.short;
  heeds = subst (λ (x : IdReading). x ≡ Failed → ⊥) (sym (ap (λ (x : Session). x.line) b.becomes)) l.heeds;
  unbroken = l.unbroken;
  windowed = l.windowed;
}

-- a line that was read is no longer held
pub short_heard : (line : IdReading) → IsHeard line → IsShort line
short_heard line h = subst IsShort (sym h.1) tt

short_fresh_line : (line : IdReading) → line ≡ Waiting [] 0 → IsShort line
short_fresh_line line e = subst IsShort (sym e) (
  omega Rattle.std.proofs.Common.arith,
  refl,
  omega
      Rattle.std.proofs.Common.arith,
)

pub short_fresh : (side : Side) (config : Config) (s : Session) → IsFresh side config s → IsShort s.line
short_fresh side config s f = short_fresh_line s.line f.line_is

fresh_line_heeds : (line : IdReading) → line ≡ Waiting [] 0 → line ≡ Failed → ⊥
fresh_line_heeds line e f = let g : Waiting [] 0 ≡ Failed = sym e ∙ f in cc

pub heeds_fresh : (side : Side) (config : Config) (s : Session) → IsFresh side config s → s.line ≡ Failed → ⊥
heeds_fresh side config s f = fresh_line_heeds s.line f.line_is

pub heeds_heard : (line : IdReading) → IsHeard line → line ≡ Failed → ⊥
heeds_heard line h f = let g : Heard h.0 ≡ Failed = sym h.1 ∙ f in cc
