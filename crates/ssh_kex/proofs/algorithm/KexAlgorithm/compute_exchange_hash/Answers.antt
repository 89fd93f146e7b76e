use Rattle.std.proofs.Common.{◌∙◌, sym}
use Rattle.ssh_kex.proofs.Secrets.{hash_skipped, hash_held}
use Rattle.ssh_kex.proofs.algorithm.KexAlgorithm.compute_exchange_hash.Goals as goal

pub returns-then-skip_exchange : goal.returns-then-skip_exchange
returns-then-skip_exchange c = c.empty.ensures ∙ sym (hash_skipped _ _ _ _ (sym c.if-skip_exchange.ensures))

pub returns : goal.returns
returns c =
    hash_held _ _ _ _ _ _ _ _ _ _ c.hash_of.ensures c.as_ref.ensures.value c.shape.ensures c.self.invariant (sym c.self.view_is) (sym c.if-skip_exchange.ensures)
