use Rattle.std.proofs.Common.{ℕ, Vec, Global}
use Rattle.ssh_script.proofs.GivenBlobs.{blob_added}
use Rattle.ssh_script.proofs.given_blobs.GivenBlobs.insert.Goals as goal

pub returns-clause-given : goal.returns-clause-given
returns-clause-given c = λ q. blob_added (λ (k : Vec ℕ Global). k.items) c.args.self.now.blobs c.insert.new.self c.args.blob.items q c.in_ok-insert.ensures.updates
