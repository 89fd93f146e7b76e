use Rattle.std.proofs.Common.{subst, sym}
use Rattle.ssh_kex.specs.Messages.{is_gex}
use Rattle.ssh_record.specs.Packets.{host_recorded}
use Rattle.ssh_record.specs.Recordings.{config_in}
use Rattle.ssh_blocks.specs.Judging.{IsRulesOf}
use Rattle.ssh_transcript.specs.Reading.{judged_under}
use Rattle.ssh_transcript.proofs.setting.Setting.rules.Goals as goal

pub returns-in-Client : goal.returns-in-Client
returns-in-Client c = λ r. subst (λ d. IsRulesOf d (config_in d (judged_under c.args.self.now r)) (is_gex c.args.self.now.names.kex) (host_recorded d (judged_under c.args.self.now r)) c.client_rules.result) (sym c.in-Client.is) c.client_rules.ensures

pub returns-in-Server : goal.returns-in-Server
returns-in-Server c = λ r. subst (λ d. IsRulesOf d (config_in d (judged_under c.args.self.now r)) (is_gex c.args.self.now.names.kex) (host_recorded d (judged_under c.args.self.now r)) c.server_rules.result) (sym c.in-Server.is) c.server_rules.ensures
