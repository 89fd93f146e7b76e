-- Both ends under the same keys.
use Rattle.std.proofs.Common.{sym, ◌∙◌}
use Rattle.ssh_kex.specs.Laws.{CiphersMeet}

pub ciphers_meet : CiphersMeet
ciphers_meet n k client server c s = record { to_server = s.opens ∙ sym c.seals; to_client = c.opens ∙ sym s.seals }
