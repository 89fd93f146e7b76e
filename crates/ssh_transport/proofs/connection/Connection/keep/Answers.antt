use Rattle.ssh_transport.proofs.Kept.{kept_taken}
use Rattle.ssh_transport.proofs.connection.Connection.keep.Goals as goal

pub returns-clause-kept : goal.returns-clause-kept
returns-clause-kept c = kept_taken c.args.self.now c.take.new.self c.args.piece.now _ _ c.take.result _ c.requires.kept
    c.unfinished.ensures c.min-n.ensures c.take.ensures.taken
