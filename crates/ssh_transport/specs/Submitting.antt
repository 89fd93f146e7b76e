-- A payload that is submitted, and what is left of a transport that broke.
use Rattle.std.specs.Prelude.{◌≡◌, ℕ, true, List, [], ◌∷◌, ◌++◌, Result, OnOk}
use Rattle.ssh_wire.specs.declared.error.Error.{Error}
use Rattle.ssh_wire.specs.Lines.{id_text}
use Rattle.ssh_kex.specs.declared.parts.Parts.{Parts}
use Rattle.ssh_rules.specs.Log.{sent_bytes}
use Rattle.ssh_rules.specs.Machine.{Event, PayloadSubmitted, Spot, Steps}
use Rattle.ssh_rules.specs.Standing.{Standing, unfinished, nothing_said}
use Rattle.ssh_transport.specs.Saying.{AreGood, IsSettled, OnlyWrites}
use Rattle.ssh_transport.specs.States.{state_at}
use Rattle.ssh_transport.specs.declared.session.Session.{Session}

-- a payload was taken, and what could be written was
pub record Submits (s : Session) (read : ℕ) (payload : List ℕ) (s' : Session) : Type 0 where
  pub side : s'.side ≡ s.side
  pub config : s'.config ≡ s.config
  pub line : s'.line ≡ s.line
  pub rest : List Event
  pub only : OnlyWrites rest
  pub steps : (at : Spot) → Steps nothing_said s.side s.config.now (id_text s.config.now.id) (state_at s at read)
      (PayloadSubmitted payload ∷ rest) (state_at s' at read)
  pub output : s'.writer.output ≡ s.writer.output
      ++ sent_bytes s.side (record { sealing = s.writer.sealing; number = s.writer.number }) rest
  pub settled : IsSettled s' read
  pub good : AreGood s'.held.items

-- A transport broke: what was delivered stays, and nothing is kept of the input.
pub record Breaks (old new : Standing) : Type 0 where
  pub side : new.side ≡ old.side
  pub config : new.config ≡ old.config
  pub delivered : new.delivered ≡ old.delivered
  pub failed : new.failed ≡ true
  pub nothing : unfinished new ≡ []

-- a call answered this, and nothing changed
abbrev pub AnswersAlone : {T A P : Type 0} → (answer result : Result T Error) → (old new : A) → (parts parts' : P)
    → Type 0
AnswersAlone answer result old new parts parts' = (result ≡ answer) × (new ≡ old) × (parts' ≡ parts)

-- Nothing was written. In Ok what is held is all that changed.
abbrev pub HoldsAlone : {T : Type 0} → Result T Error → Standing → Standing → Type 0
HoldsAlone result old new = (new.output ≡ old.output)
    × OnOk result (new ≡ record old { state = record old.state { held = new.state.held } })

-- no part was asked: they changed by what was drawn alone
abbrev pub DrawsAlone : {A H G R : Type 0} → Parts A H G R → Parts A H G R → Type 0
DrawsAlone parts parts' = (parts'.agreement ≡ parts.agreement) × (parts'.hosts ≡ parts.hosts)
    × (parts'.groups ≡ parts.groups)
