-- What a refused packet has written stands behind the output.
use Rattle.std.proofs.Common.{◌≡◌, ℕ, List, [], ◌∷◌, ◌++◌, length, take, Result, Ok, Err, OnErr, refl, sym, ap, ◌∙◌, append_assoc, append-nil, inl, inr}
use Rattle.std.proofs.Math.Seq.{take-append_seam}
use Rattle.ssh_packet.specs.Sealing.{item_of, sealed_packet}
use Rattle.ssh_packet.specs.Writing.{SameButRoom, Writer}
use Rattle.ssh_packet.specs.declared.reader.Incoming.{Incoming}
use Rattle.ssh_kex.specs.Stages.{Machine}
use Rattle.ssh_kex.specs.Stepping.{IsDone, Puts, PutsAll}
use Rattle.ssh_kex.specs.declared.exchange.NewKeys.{NewKeys}
use Rattle.ssh_kex.specs.declared.exchange.ServerHost.{ServerHost}
use Rattle.ssh_transport.specs.Handling.{IsFor}
use Rattle.ssh_transport.specs.Stopping.{Appends, IsAsBefore}
use Rattle.ssh_transport.specs.declared.session.Session.{Session}
use Rattle.ssh_transport.proofs.Answering.{moved}

-- a writer's output behind another's
abbrev pub Behind : Writer → Writer → Type 0
Behind old new = (more : List ℕ) × (new.output ≡ old.output ++ more)

same_behind : (old new : Writer) → SameButRoom old new → Behind old new
same_behind old new e = ([], ap (λ (w : Writer). w.output) e ∙ sym (append-nil old.output))

put_behind : (old new : Writer) (payload : List ℕ) → Puts old payload new → Behind old new
put_behind old new payload h = (
  sealed_packet old.sealing old.number (item_of old.sealing payload h.stream),
  ap
      (λ (w : Writer). w.output) (moved old new payload h),
)

then_behind : (a b c : Writer) → Behind a b → Behind b c → Behind a c
then_behind a b c h k = (h.0 ++ k.0, k.1 ∙ ap (λ (t : List ℕ). t ++ k.0) h.1 ∙ append_assoc a.output h.0 k.0)

all_behind : (old new : Writer) (payloads : List (List ℕ)) → PutsAll old payloads new → Behind old new
all_behind old new [] h = same_behind old new h
all_behind old new (p ∷ payloads) h = then_behind old h.0 new (put_behind old h.0 p h.1)
    (all_behind h.0 new payloads h.2)

appends_by : (s s' : Session) → Behind s.writer s'.writer → s'.finished.items ≡ s.finished.items → Appends s s'
appends_by s s' b e = record { more = b.0; output = b.1; records = e }

pub appends_same : (s s' : Session) → IsAsBefore s s' → Appends s s'
appends_same s s' h = record { more = []; output = h.output ∙ sym (append-nil s.writer.output); records = h.records }

pub appends_join : (a b c : Session) → Appends a b → Appends b c → Appends a c
appends_join a b c h k = record {
  more = h.more ++ k.more;
  output = k.output ∙ ap (λ (t : List ℕ). t ++ k.more) h.output
      ∙ append_assoc a.writer.output h.more k.more;
  records = k.records ∙ h.records;
}

pub appends_none : (s : Session) (w : Writer) → SameButRoom s.writer w → Appends s (record s { writer = w })
appends_none s w h = appends_by s (record s { writer = w }) (same_behind s.writer w h) refl

pub appends_done : (s : Session) (m : Machine) (i : Incoming) (host : Rattle.std.proofs.Common.Option ServerHost)
    (k : NewKeys) (w : Writer) → IsDone m i s.writer host k w → Appends s (record s { writer = w })
appends_done s m i host k w h = appends_by s (record s { writer = w }) (all_behind s.writer w h.written h.puts) refl

appends_for : (s s1 : Session) (m : Machine) → IsFor s m s1 → Appends s s1
appends_for s s1 m (inl f) = record {
  more = sealed_packet s.writer.sealing s.writer.number (f.0).item;
  output = ap
      (λ (w : Writer). w.output) (f.0).sends.written;
  records = ap (λ (x : Session). x.finished.items) (f.0).becomes;
}
appends_for s s1 m (inr f) = record {
  more = [];
  output = ap (λ (x : Session). x.writer.output) f.1
      ∙ sym (append-nil s.writer.output);
  records = ap (λ (x : Session). x.finished.items) f.1;
}

pub appends_taken : {T : Type 0} (s s1 s' : Session) (m : Machine)
    (answer : Result T Rattle.ssh_wire.specs.declared.error.Error.Error) → IsFor s m s1 → OnErr answer (Appends s1 s')
    → OnErr answer (Appends s s')
appends_taken s s1 s' m (Ok x) f h = tt
appends_taken s s1 s' m (Err e) f h = appends_join s s1 s' (appends_for s s1 m f) h

-- what was appended is dropped
pub cut_back : (old new more : List ℕ) (n : ℕ) → n ≡ length old → new ≡ old ++ more → take n new ≡ old
cut_back old new more n e f = ap (λ (x : List ℕ). take n x) f ∙ ap (λ (k : ℕ). take k (old ++ more)) e
    ∙ take-append_seam old more

pub appends_still : {T : Type 0} (s s1 s' : Session) (answer : Result T
    Rattle.ssh_wire.specs.declared.error.Error.Error) → Appends s s1 → OnErr answer (IsAsBefore s1 s')
    → OnErr answer (Appends s s')
appends_still s s1 s' (Ok x) h k = tt
appends_still s s1 s' (Err e) h k = appends_join s s1 s' h (appends_same s1 s' k)
