-- What a side sends of itself is padded, and its cookie drawn, by what the generator gives next.
use Rattle.std.proofs.Common.{◌≡◌, ℕ, ◌<◌, ◌++◌, List, append_assoc, None, Some, length, true, false, Result, Ok, Err, IsOk, OnOk, OnErr, is_ok, refl, sym, ap, ◌∙◌, subst, inl, inr}
use Rattle.rand_core.specs.Stream.{Stream}
use Rattle.ssh_wire.specs.Reading.{IdReading}
use Rattle.ssh_wire.specs.declared.error.Error.{Error}
use Rattle.ssh_packet.specs.Reading.{Reader}
use Rattle.ssh_packet.specs.Writing.{Sends, Writer}
use Rattle.ssh_rules.specs.Log.{sent_bytes}
use Rattle.ssh_rules.specs.Standing.{Standing}
use Rattle.ssh_transport.specs.Drawing.{AtMostNext, DrawsFirst, GoesNext, OpensDrawn, packet_with, writing_at}
use Rattle.ssh_transport.specs.Saying.{GoesOn, IsUnsaid}
use Rattle.ssh_transport.specs.Handling.{IsHeard}
use Rattle.ssh_transport.specs.Kept.{IsLive}
use Rattle.ssh_transport.specs.States.{heard_of, is_silent, reading_spot, standing_of, stands_of}
use Rattle.ssh_transport.specs.Stopping.{IsAsBefore, WantsKeys}
use Rattle.ssh_transport.specs.Submitting.{Breaks, HoldsAlone}
use Rattle.ssh_transport.specs.declared.connection.Connection.{Connection}
use Rattle.ssh_transport.specs.declared.session.Session.{Session}
use Rattle.ssh_transport.proofs.Heard.{silent_is}
use Rattle.ssh_transport.proofs.Kexinits.{sends_item}

-- a payload that isn't empty goes behind the output
pub sent_next : (w w' : Writer) (payload : List ℕ) (stream : Stream) → 0 < length payload → Sends w payload stream w'
    → w'.output ≡ w.output ++ packet_with (writing_at w) payload stream
sent_next w w' payload stream l h = ap (λ (x : Writer). x.output) (sends_item w w' payload stream l h)

-- ---- a payload

pub sealed_next : (s s1 s' : Session) (read : ℕ) (p : List ℕ) (stream : Stream) → 0 < length p
    → Sends s.writer p stream s1.writer → GoesOn s1 read s'
    → GoesNext s.writer.output (packet_with (writing_at s.writer) p stream) s'.writer.output
sealed_next s s1 s' read p stream l h g = (
  sent_bytes s1.side
      (record { sealing = s1.writer.sealing; number = s1.writer.number }) g.events,
  g.writes.output
      ∙ ap (λ (t : List ℕ). t ++ sent_bytes s1.side (record { sealing = s1.writer.sealing; number = s1.writer.number })
      g.events) (sent_next s.writer s1.writer p stream l h),
)

-- outside an exchange nothing is held, so all that memory was wanting for is the exchange that a limit begins
pub sealed_alone : (s s1 s' : Session) (read : ℕ) (p : List ℕ) (stream : Stream) → 0 < length p
    → Sends s.writer p stream s1.writer → s1 ≡ record s { writer = s1.writer } → WantsKeys s1 read s'
    → (s'.finished.items ≡ s.finished.items) × AtMostNext s.writer.output (packet_with (writing_at s.writer) p stream)
    s'.writer.output
sealed_alone s s1 s' read p stream l h e w = (
  w.still.records
      ∙ ap (λ (x : Session). x.finished.items) e,
  inr (w.still.output ∙ sent_next s.writer s1.writer p stream l h),
)

-- nothing was said
pub unsaid_left : (s s' : Session) → IsUnsaid s s' → (s'.finished.items ≡ s.finished.items)
    × (s'.writer.output ≡ s.writer.output)
unsaid_left s s' e = (ap (λ (x : Session). x.finished.items) e, ap (λ (x : Session). x.writer.output) e)

pub on_refusal : {T : Type 0} (answer : Result T Error) (P Q : Type 0) → (P → Q) → OnErr answer P → OnErr answer Q
on_refusal {T} (Ok x) P Q f h = tt
on_refusal {T} (Err e) P Q f h = f h

-- ---- as contracts see it

-- what a call left of the session is left of the connection
pub left_answer : {T : Type 0} (c c' : Connection) (s' : Session) (P : List ℕ → List ℕ → Type 0)
    (answer done : Result T Error) → done ≡ answer → OnErr answer (IsAsBefore s' c'.session)
    → OnErr answer ((s'.finished.items ≡ c.session.finished.items) × P c.session.writer.output s'.writer.output)
    → OnErr done (((standing_of c').state.records ≡ (standing_of c).state.records)
    × P (standing_of c).output (standing_of c').output)
left_answer {T} c c' s' P (Ok u) done d r h = subst (λ (y : Result T Error). OnErr y
    (((standing_of c').state.records ≡ (standing_of c).state.records)
    × P (standing_of c).output (standing_of c').output)) (sym d) tt
left_answer {T} c c' s' P (Err x) done d r h = subst (λ (y : Result T Error). OnErr y
    (((standing_of c').state.records ≡ (standing_of c).state.records)
    × P (standing_of c).output (standing_of c').output)) (sym d)
    (r.records ∙ h.0, subst (λ (o : List ℕ). P c.session.writer.output o) (sym r.output) h.1)

pub drawn_answer : {T : Type 0} (c c' : Connection) (s' : Session) (P : List ℕ → Type 0) (answer done : Result T Error)
    → done ≡ answer → OnOk answer (c' ≡ record c { session = s' }) → OnOk answer (P s'.writer.output)
    → OnOk done (P (standing_of c').output)
drawn_answer {T} c c' s' P (Ok u) done d e h = subst (λ (y : Result T Error). OnOk y (P (standing_of c').output))
    (sym d) (subst (λ (x : Connection). P x.session.writer.output) (sym e) h)
drawn_answer {T} c c' s' P (Err x) done d e h = subst (λ (y : Result T Error). OnOk y (P (standing_of c').output))
    (sym d) tt

-- ---- the first KEXINIT of a side, which its call began

-- what goes behind it leaves it there
pub first_goes : (done : Type 0) (c heard c' : Connection) (stream stream' : Stream) (sent : List ℕ)
    → OpensDrawn c.session heard.session stream → c'.session.writer.output ≡ heard.session.writer.output ++ sent
    → DrawsFirst done (standing_of c) (standing_of c') stream stream'
first_goes done c heard c' stream stream' sent h e = λ silent. inr (sent, e ∙ ap (λ (o : List ℕ). o ++ sent) (h silent))

-- by what a connection whose input was kept stands for
pub first_kept : (done : Type 0) (c : Connection) (r : Reader) (t : Standing) (stream left : Stream)
    → DrawsFirst done (standing_of (record c { reader = r })) t stream left
    → DrawsFirst done (standing_of c) t stream left
first_kept done c r t stream left h = λ silent. elim (h silent) [
  | inl k ↦ inl (record { output = k.output; silent = k.silent; writing = k.writing; undrawn = k.undrawn })
  | inr k ↦ inr k
]

-- behind the line it was begun, and more goes behind it
pub first_behind : (done : Type 0) (c mid c' : Connection) (stream left left' : Stream) (sent : List ℕ)
    → DrawsFirst (true ≡ true) (standing_of c) (standing_of mid) stream left → IsLive mid → IsHeard mid.session.line
    → c'.session.writer.output ≡ mid.session.writer.output ++ sent
    → DrawsFirst done (standing_of c) (standing_of c') stream left'
first_behind done c mid c' stream left left' sent h live i e = λ silent. elim (h silent) [
  | inl k ↦ absurd (begun (k.silent refl))
  | inr k ↦ inr (k.0 ++ sent, e ∙ ap (λ (o : List ℕ). o ++ sent) k.1 ∙ append_assoc _ k.0 sent)
] where
  begun : is_silent (stands_of mid.session.finished.items mid.session.kex) ≡ true → ⊥
  begun s = (let n : None ≡ Some i.0 = sym ((live.settled (reading_spot mid)).silent
      (silent_is (stands_of mid.session.finished.items mid.session.kex) s)) ∙ ap heard_of i.1 in cc)

-- before the end of the other's version line none is begun
pub first_awaited : (done : Type 0) (c kept heard : Connection) (stream stream' : Stream)
    → kept ≡ record c { reader = kept.reader } → heard.session ≡ record kept.session { line = heard.session.line }
    → stream' ≡ stream → DrawsFirst done (standing_of c) (standing_of heard) stream stream'
first_awaited done c kept heard stream stream' e s r = λ silent. inl (record {
  output = same (λ (x : Session). x.writer.output) (λ x l. refl);
  silent = λ d. same (λ (x : Session). is_silent (stands_of x.finished.items x.kex)) (λ x l. refl) ∙ silent;
  writing = λ d. same (λ (x : Session). writing_at x.writer) (λ x l. refl);
  undrawn = λ d. r;
}) where
  same : {T : Type 0} (f : Session → T) → ((x : Session) (l : IdReading) → f (record x { line = l }) ≡ f x)
      → f heard.session ≡ f c.session
  same {T} f k = ap f s ∙ k kept.session heard.session.line ∙ ap (λ (x : Connection). f x.session) e

-- a line that isn't heard, or behind which there was no memory, leaves all unsaid
pub first_unheard : {T : Type 0} (answer : Result T Error) (error : Error) (c kept heard : Connection)
    (stream stream' : Stream) → answer ≡ Err error → kept ≡ record c { reader = kept.reader }
    → IsAsBefore kept.session heard.session → DrawsFirst (IsOk answer) (standing_of c) (standing_of heard) stream
    stream'
first_unheard {T} answer error c kept heard stream stream' a e s = λ silent. inl (record {
  output = s.output ∙ ap (λ (x : Connection). x.session.writer.output) e;
  silent = λ d. absurd (none d);
  writing = λ d. absurd (none d);
  undrawn = λ d. absurd (none d);
}) where
  none : IsOk answer → ⊥
  none d = (let f : true ≡ false = sym d ∙ ap (λ (x : Result T Error). is_ok x) a in cc)

-- a call on a transport that is dead
pub first_still : (done : Type 0) (t : Standing) (stream : Stream) → DrawsFirst done t t stream stream
first_still done t stream = λ silent. inl (record {
  output = refl;
  silent = λ d. silent;
  writing = λ d. refl;
  undrawn =
      λ d. refl;
})

-- a refusal is the end of a transport
pub first_answer : {T : Type 0} (c taken c' : Connection) (stream stream' : Stream) (answer : Result T Error)
    → OnOk answer (c' ≡ taken) → OnErr answer (IsAsBefore taken.session c'.session)
    → OnErr answer (Breaks (standing_of taken) (standing_of c'))
    → DrawsFirst (IsOk answer) (standing_of c) (standing_of taken) stream stream'
    → DrawsFirst (c'.failed ≡ false) (standing_of c) (standing_of c') stream stream'
first_answer {T} c taken c' stream stream' (Ok u) e r b h = λ silent. elim (h silent) [
  | inl k ↦ inl (record {
    output = ap (λ (x : Connection). x.session.writer.output) e ∙ k.output;
    silent = λ d. ap (λ (x : Connection). is_silent (stands_of x.session.finished.items x.session.kex)) e
        ∙ k.silent refl;
    writing = λ d. ap (λ (x : Connection). writing_at x.session.writer) e ∙ k.writing refl;
    undrawn = λ d. k.undrawn refl;
  })
  | inr k ↦ inr (k.0, ap (λ (x : Connection). x.session.writer.output) e ∙ k.1)
]
first_answer {T} c taken c' stream stream' (Err x) e r b h = λ silent. elim (h silent) [
  | inl k ↦ inl (record {
    output = r.output ∙ k.output;
    silent = λ d. absurd (dead d);
    writing = λ d. absurd (dead d);
    undrawn = λ d. absurd (dead d);
  })
  | inr k ↦ inr (k.0, r.output ∙ k.1)
] where
  dead : c'.failed ≡ false → ⊥
  dead d = (let f : true ≡ false = sym b.failed ∙ d in cc)

-- ---- a payload that is held

pub on_done : {T : Type 0} (answer done : Result T Error) (P : Type 0) → done ≡ answer → OnOk answer P → OnOk done P
on_done {T} answer done P d h = subst (λ (y : Result T Error). OnOk y P) (sym d) h

-- it is all that changes
pub held_answer : (c c' : Connection) (s' : Session) (answer done : Result (Unit {0}) Error) → done ≡ answer
    → OnOk answer (c' ≡ record c { session = s' }) → OnErr answer (IsAsBefore s' c'.session)
    → s' ≡ record c.session { held = s'.held }
    → HoldsAlone done (standing_of c) (standing_of c')
held_answer c c' s' (Ok u) done d e r h =
    let same : standing_of c' ≡ record (standing_of c) {
      state = record (standing_of c).state
          { held = (standing_of c').state.held };
    } =
    subst (λ (x : Connection). standing_of x ≡ record (standing_of c)
    { state = record (standing_of c).state { held = (standing_of x).state.held } }) (sym e)
    (subst (λ (x : Session). standing_of (record c { session = x }) ≡ record (standing_of c)
    { state = record (standing_of c).state { held = x.held.items } }) (sym h) refl) in
    (ap (λ (t : Standing). t.output) same, on_done (let r : Result (Unit {0}) Error = Ok u in r) done _ d same)
held_answer c c' s' (Err x) done d e r h = (
  r.output ∙ ap (λ (x : Session). x.writer.output) h,
  on_done
      (let r : Result (Unit {0}) Error = Err x in r) done _ d tt,
)
