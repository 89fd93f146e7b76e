use Rattle.ssh_transcript.proofs.Keeping.{hashed_kept}
use Rattle.ssh_transcript.proofs.Naming.{never_skips_here}
use Rattle.ssh_transcript.proofs.exchange.exchange_made.Goals as goal

pub returns-clause-hashed : goal.returns-clause-hashed
returns-clause-hashed c =
    let skip = never_skips_here c.args.setting.now c.requires in
    let name = c.in_ok-algorithm.ensures.name skip in
    let secret = c.in_ok-algorithm.ensures.secret skip in
    hashed_kept c.args.setting.now c.args.values.now c.args.secret.now c.args.session_id c.in_ok-algorithm.algorithm.name c.in_ok-algorithm.algorithm.secret
    c.in_ok-hash.hash c.session_or-session.result c.kept.result.exchange name secret c.in_ok-hash.ensures c.session_or-session.ensures (c.kept.ensures.kept c.args.secret.now secret name)
