use Rattle.std.proofs.Common.{◌≡◌, ℕ, List, true, inl}
use Rattle.ssh_wire.specs.Outside.{Rose}
use Rattle.ssh_kex.specs.Parts.{Setup}
use Rattle.ssh_client_kex.proofs.Agreed.{read_whole}
use Rattle.ssh_client_kex.proofs.Replied.{refuses_signature, reply_short, whole_reply}
use Rattle.ssh_client_kex.specs.ClientViews.{local_of}
use Rattle.ssh_client_kex.proofs.client_reply.take_reply.Goals as goal

pub returns-in-Err-clause-err : goal.returns-in-Err-clause-err
returns-in-Err-clause-err g c = inl c.in-Err.ensures.err

pub accept_reply-requires-clause-whole : goal.accept_reply-requires-clause-whole
accept_reply-requires-clause-whole g c =
    whole_reply _ _ _ _ _ _ _ _ _ c.requires.short c.requires.sides c.requires.value c.in-Ok.ensures.ok

pub accept_reply-requires-clause-signature : goal.accept_reply-requires-clause-signature
accept_reply-requires-clause-signature g c = (reply_short _ _ _ _ _ _ _ c.requires.short c.in-Ok.ensures.ok).2

pub returns-clause-err : goal.returns-clause-err
returns-clause-err g c = refuses_signature _ _ _
    (λ host hash signature. Rose (g.H.HostKeys.refused_verify c.args.parts.now.hosts) (g.H.HostKeys.refused_verify c.accept_reply.new.hosts) × ((s : Setup) → g.H.HostKeys.judges c.args.parts.now.hosts c.accept_reply.new.hosts s → g.H.HostKeys.accepts c.args.parts.now.hosts host hash signature ≡ true → ⊥))
    c.args.base.cause c.args.base.exchange c.args.names _ _ _ _ _ _ c.in-Ok.ensures.ok c.accept_reply.ensures.err

pub returns-clause-agreed : goal.returns-clause-agreed
returns-clause-agreed g c =
    read_whole _ (λ v x. (s : Setup) (public : List ℕ) → g.A.Agreement.lawful c.args.parts.now.agreement s → g.A.Agreement.client_makes c.args.algorithm.name c.args.algorithm.group (local_of c.args.algorithm.local) public → g.A.Agreement.agrees c.args.algorithm.name c.args.algorithm.group public v x)
    c.args.payload.now c.accept_reply.result c.accept_reply.ensures.err
