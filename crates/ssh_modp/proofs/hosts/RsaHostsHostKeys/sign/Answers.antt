use Rattle.ssh_modp.proofs.Blobs.{made_by, never_by}
use Rattle.ssh_modp.proofs.hosts.RsaHostsHostKeys.sign.Goals as goal

pub returns-clause-made : goal.returns-clause-made
returns-clause-made c = λ s host signs shown.
    made_by c.args.self.now.key s.server host c.args.key.now c.args.algorithm c.args.hash.now c.sign_hash.result signs shown
    c.sign_hash.ensures.right c.sign_hash.ensures.form

pub returns-clause-never : goal.returns-clause-never
returns-clause-never c = λ s host signs shown refused.
    never_by c.args.self.now.key s.server host c.args.key.now c.args.algorithm c.args.hash.now signs shown
    (c.sign_hash.ensures.refused refused)
