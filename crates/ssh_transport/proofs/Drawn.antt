-- From a transport's start on its first KEXINIT is drawn from the generator that its caller hands in.
use Rattle.std.proofs.Common.{◌≡◌, ℕ, List, [], ◌∷◌, ◌++◌, length, append_assoc, Bool, true, false, Result, Ok, Err, IfErr, OnErr, OnOk, IsTrue, refl, sym, ap, ◌∙◌, subst, inl, inr}
use Rattle.rand_core.specs.Stream.{Stream}
use Rattle.ssh_wire.specs.Lines.{id_line}
use Rattle.ssh_wire.specs.declared.error.Error.{Error}
use Rattle.ssh_wire.specs.declared.error.Error.TheVariants.{Memory}
use Rattle.ssh_wire.specs.declared.side.Side.{Side}
use Rattle.ssh_packet.specs.Stream.{message_type}
use Rattle.ssh_kex.specs.Refusals.{Denies}
use Rattle.ssh_kex.specs.Setting.{Says}
use Rattle.ssh_kex.specs.declared.config.Config.{Config}
use Rattle.ssh_kex.specs.declared.exchange.ServerHost.{ServerHost}
use Rattle.ssh_rules.specs.Asking.{PartCalls}
use Rattle.ssh_rules.specs.Log.{sent_bytes}
use Rattle.ssh_rules.specs.Machine.{Asked, ExchangeBegun, Inside, Outside, Silent, Spot, Where, first_state}
use Rattle.ssh_rules.specs.MessageTypes.{is_payload_type}
use Rattle.ssh_rules.specs.Refusing.{RefusesPieceAsking}
use Rattle.ssh_rules.specs.Standing.{IsNew, Rekeyed, RekeyedFrom, Standing, Submitted, TakesInput, is_outside}
use Rattle.ssh_rules.specs.Valid.{is_bad_size, is_good_payload}
use Rattle.ssh_transport.specs.Drawing.{BeginsDrawn, DrawsFirst, IsDrawn, StaysDrawn, kexinit_packet}
use Rattle.ssh_transport.specs.States.{is_silent}

-- a new transport
pub drawn_new : (side : Side) (config : Config) (first : Stream) (t : Standing) → IsNew side config t
    → IsDrawn side config first t first
drawn_new side config first t e = subst (λ (x : Standing). IsDrawn side config first x first) (sym e) (record {
  side_is = refl;
  config_is = refl;
  drawn = inl (record { output = refl; silent = λ f. refl; writing = λ f. refl; undrawn = λ f. refl });
})

-- what it sent
pub drawn_wire : (side : Side) (config : Config) (first stream : Stream) (t : Standing)
    → IsDrawn side config first t stream → BeginsDrawn side config first t.output
drawn_wire side config first stream t d = elim d.drawn [
  | inl w ↦ inl w.output
  | inr g ↦ inr g
]

pub drawn_join : (a b c : Standing) (s t u : Stream) → StaysDrawn a b s t → StaysDrawn b c t u → StaysDrawn a c s u
drawn_join a b c s t u p q = λ side config first d. q side config first (p side config first d)

-- nothing was done
pub drawn_same : (t : Standing) (stream : Stream) → StaysDrawn t t stream stream
drawn_same t stream = λ side config first d. d

pub drawn_still : (old new : Standing) (stream stream' : Stream) → new ≡ old → stream' ≡ stream
    → StaysDrawn old new stream stream'
drawn_still old new stream stream' e f = λ side config first d. subst
    (λ (t : Standing). IsDrawn side config first t stream') (sym e)
    (subst (λ (s : Stream). IsDrawn side config first old s) (sym f) d)

-- what was delivered is taken over
pub drawn_taken : (old mid new : Standing) (stream stream' : Stream) → new ≡ record mid { delivered = [] }
    → StaysDrawn old mid stream stream' → StaysDrawn old new stream stream'
drawn_taken old mid new stream stream' e h = λ side config first d. subst
    (λ (t : Standing). IsDrawn side config first t stream') (sym e) (let m = h side config first d in record {
      side_is = m.side_is;
      config_is = m.config_is;
      drawn = elim m.drawn [
        | inl w ↦ inl (record { output = w.output; silent = w.silent; writing = w.writing; undrawn = w.undrawn })
        | inr g ↦ inr g
      ];
    })

-- the packet of a side that waits is the first one
first_packet : (side : Side) (config : Config) (first stream : Stream) (t : Standing) → t.side ≡ side
    → t.config ≡ config → t.state.writing ≡ first_state.writing → stream ≡ first
    → kexinit_packet t.side t.config t.state.writing stream ≡ kexinit_packet side config first_state.writing first
first_packet side config first stream t a b c d =
    ap (λ (x : Side). kexinit_packet x t.config t.state.writing stream) a
    ∙ ap (λ (x : Config). kexinit_packet side x t.state.writing stream) b
    ∙ ap (λ (x : Spot). kexinit_packet side config x stream) c
    ∙ ap (λ (x : Stream). kexinit_packet side config first_state.writing x) d

-- a call on one that wasn't refused
drawn_live : (old new : Standing) (stream stream' : Stream) (more : List ℕ) → old.failed ≡ false
    → (new.side ≡ old.side) × (new.config ≡ old.config) → new.output ≡ old.output ++ more
    → DrawsFirst (new.failed ≡ false) old new stream stream' → StaysDrawn old new stream stream'
drawn_live old new stream stream' more live stays grows h = λ side config first d. record {
  side_is = stays.0 ∙ d.side_is;
  config_is = stays.1 ∙ d.config_is;
  drawn = elim d.drawn [
    | inl w ↦ (elim (h (w.silent live)) [
      | inl u ↦ inl (record {
        output = u.output ∙ w.output;
        silent = u.silent;
        writing = λ f. u.writing f ∙ w.writing live;
        undrawn = λ f. u.undrawn f ∙ w.undrawn live;
      })
      | inr g ↦ inr (
        g.0,
        g.1 ∙ ap (λ (x : List ℕ). x ++ g.0) (ap (λ (x : List ℕ). x ++ kexinit_packet old.side old.config
            old.state.writing stream) w.output
            ∙ ap (λ (x : List ℕ). id_line config.id ++ x) (first_packet side config first stream old d.side_is
            d.config_is (w.writing live) (w.undrawn live))),
      )
    ])
    | inr g ↦ inr (
      g.0 ++ more,
      grows ∙ ap (λ (x : List ℕ). x ++ more) g.1
          ∙ append_assoc (id_line config.id ++ kexinit_packet side config first_state.writing first) g.0 more,
    )
  ];
}

-- a piece was fed, whatever was answered
pub drawn_fed : (says : Says) (denies : Denies) (untrusted : ServerHost → Type 0) (old new : Standing) (piece : List ℕ)
    (stream stream' : Stream) (n n' : PartCalls) (answer : Result (Unit {0}) Error)
    → (old.failed ≡ true → (new ≡ old) × (stream' ≡ stream)) → (new.side ≡ old.side) × (new.config ≡ old.config)
    → OnOk answer (TakesInput says old piece new) → (old.failed ≡ false
    → IfErr answer (λ e. RefusesPieceAsking says denies untrusted old piece e new n n'))
    → DrawsFirst (new.failed ≡ false) old new stream stream' → StaysDrawn old new stream stream'
drawn_fed says denies untrusted old new piece stream stream' n n' answer dead stays fed refused drawn = by old.failed
    refl answer fed refused where
      by : (b : Bool) → old.failed ≡ b → (a : Result (Unit {0}) Error) → OnOk a (TakesInput says old piece new)
          → (old.failed ≡ false → IfErr a (λ e. RefusesPieceAsking says denies untrusted old piece e new n n'))
          → StaysDrawn old new stream stream'
      by true f a h r = drawn_still old new stream stream' (dead f).0 (dead f).1
      by false f (Ok u) h r = drawn_live old new stream stream' (sent_bytes old.side old.state.writing h.events) f stays
          h.acts.output drawn
      by false f (Err e) h r = drawn_live old new stream stream'
          (sent_bytes old.side old.state.writing (r f).refused.refuses.events) f stays (r f).refused.refuses.output drawn

-- one that is silent isn't outside
silent_inside : (stands : Where) → is_silent stands ≡ true → is_outside stands ≡ false
silent_inside Silent e = refl
silent_inside Outside e = absurd (let f : false ≡ true = e in cc)
silent_inside (Inside stage) e = refl

-- a payload was submitted, or it was refused for what it is
pub drawn_submitted : (says : Says) (old new : Standing) (payload : List ℕ) (stream stream' : Stream)
    (answer : Result (Unit {0}) Error) → (answer ≡ Err Memory → ⊥)
    → (old.failed ≡ true → (new ≡ old) × (stream' ≡ stream))
    → (old.failed ≡ false → IsTrue (is_bad_size (length payload)) → (new ≡ old) × (stream' ≡ stream))
    → (old.failed ≡ false → is_bad_size (length payload) ≡ false → is_payload_type (message_type payload) ≡ false
    → (new ≡ old) × (stream' ≡ stream))
    → OnOk answer (Submitted says old payload new) → (is_outside old.state.stands ≡ false
    → (stream' ≡ stream) × OnOk answer (new ≡ record old { state = record old.state { held = new.state.held } }))
    → (old.failed ≡ false → is_good_payload payload ≡ true → OnErr answer (answer ≡ Err Memory))
    → StaysDrawn old new stream stream'
drawn_submitted says old new payload stream stream' (Ok u) ample dead size type sent held memory = by old.failed refl
  where
    by : (f : Bool) → old.failed ≡ f → StaysDrawn old new stream stream'
    by true f = drawn_still old new stream stream' (dead f).0 (dead f).1
    by false f = drawn_live old new stream stream' (sent_bytes old.side old.state.writing sent.events) f
        (sent.acts.side, sent.acts.config) sent.acts.output (λ s. let k = held (silent_inside old.state.stands s) in inl
        (record {
          output = ap (λ (t : Standing). t.output) k.1;
          silent = λ d. ap (λ (t : Standing). is_silent t.state.stands) k.1 ∙ s;
          writing = λ d. ap (λ (t : Standing). t.state.writing) k.1;
          undrawn = λ d. k.0;
        }))
drawn_submitted says old new payload stream stream' (Err e) ample dead size type sent held memory = by old.failed
    (is_bad_size (length payload)) (is_payload_type (message_type payload)) refl refl refl where
      by : (f b k : Bool) → old.failed ≡ f → is_bad_size (length payload) ≡ b → is_payload_type (message_type payload) ≡ k
          → StaysDrawn old new stream stream'
      by true b k f g h = drawn_still old new stream stream' (dead f).0 (dead f).1
      by false true k f g h = (let s = size f g in drawn_still old new stream stream' s.0 s.1)
      by false false false f g h = (let s = type f g h in drawn_still old new stream stream' s.0 s.1)
      by false false true f g h = absurd (ample (memory f (rw (g, h) refl)))

-- an exchange was asked for
pub drawn_rekeyed : (says : Says) (old new : Standing) (stream stream' : Stream) (answer : Result (Unit {0}) Error)
    → (answer ≡ Err Memory → ⊥) → (old.failed ≡ true → (new ≡ old) × (stream' ≡ stream))
    → OnOk answer (Rekeyed says old new)
    → (old.failed ≡ false → is_outside old.state.stands ≡ false → (new ≡ old) × (stream' ≡ stream))
    → (old.failed ≡ false → OnErr answer (answer ≡ Err Memory)) → StaysDrawn old new stream stream'
drawn_rekeyed says old new stream stream' answer ample dead begun inside memory = by old.failed
    (is_outside old.state.stands) refl refl answer ample begun memory where
      by : (f o : Bool) → old.failed ≡ f → is_outside old.state.stands ≡ o → (a : Result (Unit {0}) Error)
          → (a ≡ Err Memory → ⊥) → OnOk a (RekeyedFrom (is_outside old.state.stands) says old new)
          → (old.failed ≡ false → OnErr a (a ≡ Err Memory)) → StaysDrawn old new stream stream'
      by true o f g a m h k = drawn_still old new stream stream' (dead f).0 (dead f).1
      by false false f g a m h k = (let s = inside f g in drawn_still old new stream stream' s.0 s.1)
      by false true f g (Err e) m h k = absurd (m (k f))
      by false true f g (Ok u) m h k =
          let b = subst (λ (x : Bool). RekeyedFrom x says old new) g h in
          drawn_live old new stream stream' (sent_bytes old.side old.state.writing (ExchangeBegun Asked b.item ∷ [])) f
          (b.acts.side, b.acts.config) b.acts.output
          (λ s. absurd (let e : true ≡ false = sym g ∙ silent_inside old.state.stands s in cc))
