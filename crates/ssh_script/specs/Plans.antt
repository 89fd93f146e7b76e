-- What a script asks for, as its readers see it.
use Rattle.std.specs.Prelude.{◌≤◌, List}
use Rattle.ssh_rules.specs.declared.link.AttackStep.{AttackStep}
use Rattle.ssh_rules.specs.declared.link.Step.{Step}
use Rattle.ssh_script.specs.declared.setup.SideSetup.{SideSetup}

-- how both sides are set up, and what they do: over an honest carrier, or fed any bytes
pub record Plan : Type 0 where
  pub client : SideSetup
  pub server : SideSetup
  pub steps : List Step
  pub attack : List AttackStep

-- the sizes of a side, in bits: of the group that it prefers, and of the one that is looked up
pub record HasSmallSizes (s : SideSetup) : Type 0 where
  pub preferred : s.config.gex.preferred_group_size ≤ 65536
  pub group : s.group_bits ≤ 65536

-- no line sets a greater size
pub record HasSmallGroups (p : Plan) : Type 0 where
  pub client : HasSmallSizes p.client
  pub server : HasSmallSizes p.server
