-- The states of the key, and the tag that they make.
use Rattle.ssh_mac.proofs.hmac.hmac_of.Goals as goal

pub returns : goal.returns
returns c = c.tag.ensures c.args.kind c.args.key.now c.new.ensures
