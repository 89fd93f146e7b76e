-- What is true of two attacked runs.
use Rattle.std.specs.Prelude.{◌≡◌, ℕ, Bool, List}
use Rattle.ssh_wire.specs.declared.side.Side.{Side}
use Rattle.ssh_kex.specs.Parts.{Setup}
use Rattle.ssh_kex.specs.declared.config.Config.{Config}
use Rattle.ssh_kex.specs.declared.exchange.ServerHost.{ServerHost}
use Rattle.ssh_rules.specs.Attacked.{AtSomePacket, Handed, IsAttackedSide}
use Rattle.ssh_rules.specs.Parts.{Secrets}
use Rattle.ssh_rules.specs.declared.link.SideReport.{SideReport}

-- Two sides of one configuration that were fed the same bytes, in whatever pieces, and recorded the same exchanges
-- deliver the same, where neither refused a packet that it could open.
abbrev pub SameDelivered : {A H : Type 0} → (A → Setup → Type 0) → Secrets
    → (H → ServerHost → List ℕ → List ℕ → Bool) → (H → ServerHost → Bool) → Type 0
SameDelivered {A} {H} lawful agrees accepts trusts =
    (side : Side) (config : Config) (a b : A) (setup other_setup : Setup) (h i : H) (handed other_handed : Handed)
    (report other_report : SideReport)
    → (one : IsAttackedSide agrees (lawful a setup) (accepts h) (trusts h) side config handed report)
    → (other : IsAttackedSide agrees (lawful b other_setup) (accepts i) (trusts i) side config other_handed other_report)
    → handed.fed ≡ other_handed.fed → report.exchanges ≡ other_report.exchanges
    → (AtSomePacket one.ending → ⊥) → (AtSomePacket other.ending → ⊥) → report.delivered ≡ other_report.delivered
