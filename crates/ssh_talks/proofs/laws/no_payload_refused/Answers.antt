use Rattle.ssh_talks.proofs.Reading.{no_payload_refused}
use Rattle.ssh_talks.proofs.laws.no_payload_refused.Goals as goal

pub returns : goal.returns
returns c = no_payload_refused
