-- Both sides of a script's run, and its link.
use Rattle.ssh_negotiate.specs.declared.preferred.HostKey.{HostKey}
use Rattle.ssh_kex.specs.declared.config.Config.{Config}
use Rattle.ssh_rules.specs.Headline.{IsLink}
use Rattle.ssh_vectors.specs.Agreement.{Agrees, ClientMakes, ServerMakes}
use Rattle.ssh_vectors.specs.declared.hosts.TrustedHost.{TrustedHost}
use Rattle.ssh_script.specs.Plans.{Plan}
use Rattle.ssh_script.specs.RunScript.{first_plan, with_default_key}
use Rattle.ssh_mux.specs.declared.report.MuxReport.{MuxReport}

-- both sides as they are where a script says nothing of them
abbrev pub default_plan : Plan
default_plan = with_default_key first_plan

abbrev pub default_client : Config
default_client = default_plan.client.config

abbrev pub default_server : Config
default_server = default_plan.server.config

-- a key is trusted as its own
abbrev pub trusted_key : HostKey → TrustedHost
trusted_key key = record { blob = key.blob; key_blob = key.blob }

-- The link of a report is one between these two sides. Their key agreements are test agreements.
abbrev pub IsDefaultLink : MuxReport → Type 0
IsDefaultLink report = IsLink ClientMakes ServerMakes Agrees default_client default_server report.steps.items report.link
