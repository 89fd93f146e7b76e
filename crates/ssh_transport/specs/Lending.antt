-- What a transport is once the payload that it lends is given back.
use Rattle.std.specs.Prelude.{◌≡◌, true, false, ℕ, List, [], Option, Some, None, Result, Ok, Err, IfErr, IfOk, OnErr, OnOk}
use Rattle.std.specs.Borrow.{Bor, Fml, MutBor}
use Rattle.std.specs.Io.BufRead.{Rests}
use mir.Syntax.{named}
use Rattle.rand_core.specs.Stream.{Stream}
use Rattle.ssh_wire.specs.declared.error.Error.{Error}
use Rattle.ssh_wire.specs.declared.side.Side.{Side}
use Rattle.ssh_wire.specs.declared.error.Error.TheVariants.{Disconnect}
use Rattle.ssh_kex.specs.Refusals.{Denies}
use Rattle.ssh_kex.specs.Setting.{Says}
use Rattle.ssh_kex.specs.declared.exchange.ServerHost.{ServerHost}
use Rattle.ssh_rules.specs.Polling.{Polls}
use Rattle.ssh_rules.specs.Refusing.{RefusesPieceAsking}
use Rattle.ssh_rules.specs.Standing.{Standing, unfinished}
use Rattle.ssh_transport.specs.Asking.{PartTally}
use Rattle.ssh_transport.specs.Drawing.{DrawsFirst}
use Rattle.ssh_transport.specs.Sending.{ServesCall}
use Rattle.ssh_transport.specs.contracts.transport.Transport.{the_row}

-- the payload that is lent
abbrev pub payload_in : Option (Bor (List ℕ)) → Option (List ℕ)
payload_in None = None
payload_in (Some payload) = Some payload.now

-- a refusal that is lent
abbrev pub IsRefusedWith : {A : Type 0} → Result A (Bor Error) → Error → Type 0
IsRefusedWith {A} (Ok x) error = ⊥
IsRefusedWith {A} (Err e) error = e.now ≡ error

-- What a call that lends the next payload leaves, when the loan is over. The parts had been asked and had answered so
-- often before and so often behind it, and its generator was at one stream and then at the other.
pub record PollsAs (says : Says) (denies : Denies) (untrusted : ServerHost → Type 0) (n n' : PartTally)
    (Made : Side → Stream → Stream → Type 0) (stream stream' : Stream) (old : Standing)
    (result : Result (Option (Bor (List ℕ))) (Bor Error)) (new : Standing) : Type 0 where
  pub dead : old.failed ≡ true → IsRefusedWith result Disconnect × (new ≡ old)
  pub stays : (new.side ≡ old.side) × (new.config ≡ old.config)
  pub lives : old.failed ≡ false → OnOk result (new.failed ≡ false)
  pub ends : old.failed ≡ false → OnErr result ((new.failed ≡ true) × (unfinished new ≡ []))
  pub unqueued : new.delivered ≡ old.delivered
  pub polled : IfOk result (λ lent. Polls says old (payload_in lent) new)
  pub refused : old.failed ≡ false → IfErr result (λ e. RefusesPieceAsking says denies untrusted old [] e.now new
      n.calls n'.calls)
  pub serves : OnOk result (ServesCall Made old new n n' stream stream')
  pub drawn : DrawsFirst (new.failed ≡ false) old new stream stream'

abbrev pub LendsPoll : Says → Denies → (ServerHost → Type 0) → (n n' : PartTally)
    → (Made : Side → Stream → Stream → Type 0)
    → (stream stream' : Stream)
    → MutBor Standing → Result (Option (Bor (List ℕ))) (Bor Error) → Fml
LendsPoll says denies untrusted n n' Made stream stream' s result = Rests (the_row (record { mir = named 1; lft = [] }))
    s
    (PollsAs says denies untrusted n n' Made stream stream' s.now result)
