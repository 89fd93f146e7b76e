-- What a side that is fed bytes does, by what its transport did with them.
use Rattle.std.proofs.Common.{◌≡◌, ℕ, ◌+◌, List, [], ◌++◌, length, false, IfErr, OnOk, ap, sym, subst}
use Rattle.std.specs.Prelude.{Result, Ok, Err}
use Rattle.rand_core.specs.Stream.{Stream}
use Rattle.ssh_wire.specs.Forms.{AreBytes}
use Rattle.ssh_wire.specs.declared.error.Error.{Error}
use Rattle.ssh_wire.specs.declared.error.Error.TheVariants as errors
use Rattle.ssh_wire.specs.declared.side.Side.{Side}
use Rattle.ssh_rules.specs.Answering.{PartTests}
use Rattle.ssh_rules.specs.Attacking.{AttackedEnd, FeedsBy, FeedsEnd, Tells}
use Rattle.ssh_rules.specs.Refusing.{RefusesPieceAsking}
use Rattle.ssh_rules.specs.Standing.{Standing, TakesInput}
use Rattle.ssh_rules.proofs.Lemmas.{input_few}
use Rattle.ssh_transport.specs.Asking.{tally}
use Rattle.ssh_transport.specs.Sending.{ServesCall}

-- where the transport had not failed, and what it delivered was taken over
pub fed_live : (t : Tells) (old new : AttackedEnd) (mid : Standing) (bytes : List ℕ) (answer : Result (Unit {0}) Error) (Made : Side → Stream → Stream → Type 0) (n n' : PartTests) (s s' : Stream) → (answer ≡ Err errors.Memory → ⊥) → old.transport.failed ≡ false → AreBytes bytes → new.taken ≡ old.taken + length bytes → new.transport ≡ record mid { delivered = [] } → new.delivered ≡ old.delivered ++ mid.delivered → OnOk answer (TakesInput t.says old.transport bytes mid) → OnOk answer (ServesCall Made old.transport mid (tally old.calls n) (tally new.calls n') s s') → (old.transport.failed ≡ false → IfErr answer (λ e. RefusesPieceAsking t.says t.denies t.untrusted old.transport bytes e mid old.calls new.calls)) → FeedsEnd t old bytes answer new
fed_live t old new mid bytes (Ok u) Made n n' s s' m f b k l d input serves refused = record {
  bytes_are = b;
  taken = k;
  does = subst (λ x. FeedsBy x t old bytes (Ok u) new) (sym f) (mid, input, record { transport = l; delivered = d }, input_few t.says old.transport mid old.calls new.calls serves.asks input.events input.acts);
}
fed_live t old new mid bytes (Err e) Made n n' s s' m f b k l d input serves refused = record {
  bytes_are = b;
  taken = k;
  does = subst (λ x. FeedsBy x t old bytes (Err e) new) (sym f) (mid, refused f, record { transport = l; delivered = d }, λ x. m (ap (λ (y : Error). (let z : Result (Unit {0}) Error = Err y in z)) x));
}
