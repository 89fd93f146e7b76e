-- What the calls of an attacked run do on one side.
use Rattle.ssh_kex.specs.Stepping.{denies_of, says_of}
use Rattle.ssh_kex.specs.declared.config.Config.{Config}
use Rattle.ssh_rules.specs.Refusing.{untrusted_of}
use Rattle.std.specs.Prelude.{◌≡◌, ℕ, ◌+◌, Bool, true, false, List, [], ◌∷◌, ◌++◌, length, Result, Ok, Err}
use Rattle.ssh_wire.specs.Forms.{AreBytes}
use Rattle.ssh_wire.specs.Sides.{same_side}
use Rattle.ssh_wire.specs.declared.error.Error.{Error}
use Rattle.ssh_wire.specs.declared.error.Error.TheVariants as errors
use Rattle.ssh_wire.specs.declared.side.Side.{Side}
use Rattle.ssh_kex.specs.Refusals.{Denies}
use Rattle.ssh_kex.specs.Setting.{Says}
use Rattle.ssh_kex.specs.declared.exchange.ServerHost.{ServerHost}
use Rattle.ssh_rules.specs.Attacked.{submit_answer}
use Rattle.ssh_rules.specs.Asking.{AsksAtMost, PartCalls, counted_by, kex_count}
use Rattle.ssh_rules.specs.Log.{handled}
use Rattle.ssh_rules.specs.Refusing.{RefusesPieceAsking}
use Rattle.ssh_rules.specs.Standing.{Rekeyed, Standing, Submitted, TakesInput}
use Rattle.ssh_rules.specs.Valid.{is_good_payload}
use Rattle.ssh_rules.specs.declared.link.AttackStep.{AttackStep}
use Rattle.ssh_rules.specs.declared.link.SideReport.{SideReport}
use Rattle.ssh_rules.specs.declared.link.AttackStep.TheVariants.{Submit, Feed, Rekey}
use Rattle.ssh_kex.specs.Members.{AgreementMembers, GroupLookupMembers, HostKeysMembers}

-- One side: its transport, how many bytes it was fed, what it delivered, how often its parts were asked.
pub record AttackedEnd : Type 0 where
  pub transport : Standing
  pub taken : ℕ
  pub delivered : List (List ℕ)
  pub calls : PartCalls

-- what the side's parts say and deny, and how often they had been asked before
pub record Tells : Type 1 where
  pub says : Says
  pub denies : Denies
  pub untrusted : ServerHost → Type 0
  pub calls : PartCalls

-- from the members of their traits, between the states before and behind
abbrev pub tells_by : {A H G : Type 0} (ma : AgreementMembers A) (mh : HostKeysMembers H) (mg : GroupLookupMembers G)
    → Config → A → A → H → H → G → G → Tells
tells_by ma mh mg config a a' h h' g g' = record {
  says = says_of ma mh mg config a h g;
  denies = denies_of ma mh mg a a' h h' g g';
  untrusted = untrusted_of mh h h';
  calls = counted_by ma mh mg a h g;
}

-- what was delivered was taken over
pub record TakesOver (old : AttackedEnd) (mid : Standing) (new : AttackedEnd) : Type 0 where
  pub transport : new.transport ≡ record mid { delivered = [] }
  pub delivered : new.delivered ≡ old.delivered ++ mid.delivered

-- bytes were fed, by whether the transport had failed and by the answer; want of memory ends the run
abbrev pub FeedsBy : Bool → Tells → AttackedEnd → List ℕ → Result (Unit {0}) Error → AttackedEnd → Type 0
FeedsBy true t old bytes answer new = (answer ≡ Err errors.Disconnect) × (new.transport ≡ old.transport) × (new.delivered ≡ old.delivered)
    × (new.calls ≡ old.calls)
FeedsBy false t old bytes (Ok u) new = (mid : Standing)
    × (input : TakesInput t.says old.transport bytes mid) × TakesOver old mid new
    × AsksAtMost (kex_count (handled input.events)) old.calls new.calls
FeedsBy false t old bytes (Err e) new = (mid : Standing)
    × RefusesPieceAsking t.says t.denies t.untrusted old.transport bytes e mid old.calls new.calls
    × TakesOver old mid new × (e ≡ errors.Memory → ⊥)

pub record FeedsEnd (t : Tells) (old : AttackedEnd) (bytes : List ℕ) (answer : Result (Unit {0}) Error) (new : AttackedEnd) : Type 0 where
  pub bytes_are : AreBytes bytes
  pub taken : new.taken ≡ old.taken + length bytes
  pub does : FeedsBy old.transport.failed t old bytes answer new

-- a payload was submitted and accepted
pub record Accepts (t : Tells) (old : AttackedEnd) (payload : List ℕ) (new : AttackedEnd) : Type 0 where
  pub good : is_good_payload payload ≡ true
  pub call : Submitted t.says old.transport payload new.transport
  pub taken : new.taken ≡ old.taken
  pub delivered : new.delivered ≡ old.delivered
  pub calls : new.calls ≡ old.calls

abbrev pub SubmitsBy : Bool → Tells → AttackedEnd → List ℕ → Result (Unit {0}) Error → AttackedEnd → Type 0
SubmitsBy true t old payload answer new = (answer ≡ Err errors.Disconnect) × (new ≡ old)
SubmitsBy false t old payload (Ok u) new = Accepts t old payload new
SubmitsBy false t old payload (Err e) new = (is_good_payload payload ≡ false) × (Err e ≡ submit_answer payload) × (new ≡ old)

-- an exchange was asked for
pub record Begins (t : Tells) (old new : AttackedEnd) : Type 0 where
  pub call : Rekeyed t.says old.transport new.transport
  pub taken : new.taken ≡ old.taken
  pub delivered : new.delivered ≡ old.delivered
  pub calls : new.calls ≡ old.calls

abbrev pub RekeysBy : Bool → Tells → AttackedEnd → Result (Unit {0}) Error → AttackedEnd → Type 0
RekeysBy true t old answer new = (answer ≡ Err errors.Disconnect) × (new ≡ old)
RekeysBy false t old (Ok u) new = Begins t old new
RekeysBy false t old (Err e) new = ⊥

-- a step of the side, or of the other
abbrev pub OwnStep : Bool → (own other : Type 0) → Type 0
OwnStep true own other = own
OwnStep false own other = other

abbrev pub AttacksEnd : Tells → Side → AttackStep → Result (Unit {0}) Error → AttackedEnd → AttackedEnd → Type 0
AttacksEnd t side (Submit s payload) answer old new = OwnStep (same_side s side) (SubmitsBy old.transport.failed t old payload answer new) (new ≡ old)
AttacksEnd t side (Feed s bytes) answer old new = OwnStep (same_side s side) (FeedsEnd t old bytes answer new) (new ≡ old)
AttacksEnd t side (Rekey s) answer old new = OwnStep (same_side s side) (RekeysBy old.transport.failed t old answer new) (new ≡ old)

-- all steps, each with its answer
abbrev pub AttacksSide : Tells → Side → List AttackStep → List (Result (Unit {0}) Error) → AttackedEnd → AttackedEnd → Type 0
AttacksSide t side [] [] old new = new ≡ old
AttacksSide t side [] (a ∷ answers) old new = ⊥
AttacksSide t side (step ∷ steps) [] old new = ⊥
AttacksSide t side (step ∷ steps) (a ∷ answers) old new = (mid : AttackedEnd) × AttacksEnd t side step a old mid × AttacksSide t side steps answers mid new

-- what is reported of a side
abbrev pub attacked_report : AttackedEnd → SideReport
attacked_report e = record { wire = e.transport.output; taken = e.taken; delivered = e.delivered; exchanges = e.transport.state.records }
