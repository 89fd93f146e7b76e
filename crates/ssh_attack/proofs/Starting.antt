-- A side's trace from its new transport on.
use Rattle.std.proofs.Common.{◌≡◌, ℕ, List, [], Option, Some, None, refl, ap, subst, sym}
use Rattle.std.specs.Prelude.{Result}
use Rattle.rand_core.specs.Stream.{Stream}
use Rattle.ssh_wire.specs.declared.error.ConfigFault.{ConfigFault}
use Rattle.ssh_wire.specs.declared.error.Error.{Error}
use Rattle.ssh_wire.specs.declared.side.Side.{Side}
use Rattle.ssh_kex.specs.declared.config.Config.{Config}
use Rattle.ssh_rules.specs.Asking.{PartCalls}
use Rattle.ssh_rules.specs.Attacking.{AttackedEnd, AttacksSide, Tells}
use Rattle.ssh_rules.specs.Standing.{Standing}
use Rattle.ssh_rules.specs.Valid.{first_config_fault}
use Rattle.ssh_rules.specs.declared.link.AttackStep.{AttackStep}
use Rattle.ssh_transport.specs.Drawing.{BeginsDrawn, StaysDrawn}
use Rattle.ssh_transport.proofs.Lemmas.{drawn_new, drawn_wire}
use Rattle.ssh_attack.specs.AttackEnds.{IsFirstEnd, attacked_end}
use Rattle.ssh_attack.specs.declared.attack_end.AttackEnd.{AttackEnd}
use Rattle.ssh_rules.proofs.Lemmas.{first_end}

pub side_started : (T : Config → Tells) (side : Side) (config : Config) (steps : List AttackStep) (answers : List (Result (Unit {0}) Error)) (old : AttackEnd) (calls : PartCalls) (new : AttackedEnd)
    → IsFirstEnd side config old → AttacksSide (T old.transport.config) side steps answers (attacked_end old calls) new → AttacksSide (T config) side steps answers (first_end calls old.transport) new
side_started T side config steps answers old calls new n h =
    let configured : old.transport.config ≡ config = ap (λ (x : Standing). x.config) n.new in
    subst (λ (m : ℕ). AttacksSide (T config) side steps answers (record { transport = old.transport; taken = m; delivered = []; calls = calls }) new) n.taken
    (subst (λ (l : List (List ℕ)). AttacksSide (T config) side steps answers (record { transport = old.transport; taken = old.taken; delivered = l; calls = calls }) new) n.delivered
    (subst (λ (q : Config). AttacksSide (T q) side steps answers (attacked_end old calls) new) configured h))

-- where no configuration is refused, both passed
pub none_first : (client server : Option ConfigFault) → first_config_fault client server ≡ None → (client ≡ None) × (server ≡ None)
none_first None None e = (refl, refl)
none_first None (Some f) e = cc
none_first (Some f) server e = cc

-- its first KEXINIT is drawn from the generator at the start
pub side_drawn : (side : Side) (config : Config) (old : AttackEnd) (new : Standing) (stream stream' : Stream) (wire : List ℕ) → IsFirstEnd side config old → StaysDrawn old.transport new stream stream' → wire ≡ new.output → BeginsDrawn side config stream wire
side_drawn side config old new stream stream' wire n h w =
    subst (BeginsDrawn side config stream) (sym w) (drawn_wire side config stream stream' new (h side config stream (drawn_new side config stream old.transport n.new)))
