use Rattle.std.proofs.lemmas.Option.{IfSome_then}
use Rattle.ssh_transcript.proofs.Turning.{not_whole, whole_is}
use Rattle.ssh_transcript.proofs.wire.WireReader.whole_block.Goals as goal

pub returns-clause-some : goal.returns-clause-some
returns-clause-some c = IfSome_then c.whole.result c.whole.ensures.some (λ m w side j xs e. whole_is side j xs c.args.self.now m.now w e)

pub returns-clause-none : goal.returns-clause-none
returns-clause-none c = λ n side j xs e h. not_whole side j xs c.args.self.now (c.whole.ensures.none n) e h
