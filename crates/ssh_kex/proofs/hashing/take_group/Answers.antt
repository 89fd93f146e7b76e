-- The forms of a group one after the other.
use Rattle.ssh_wire.specs.Forms.{mpint}
use Rattle.ssh_kex.proofs.Taking.{takes_both, takes_form}
use Rattle.ssh_kex.proofs.hashing.take_group.Goals as goal

pub returns-in-Some : goal.returns-in-Some
returns-in-Some c =
    rw (c.in-Some.is)
    (takes_both _ _ _ _ _ c.take_u32.ensures
    (takes_both _ _ _ _ _ c.take_u32-in-Some.ensures
    (takes_both _ _ _ _ _ c.take_u32-in-Some-2.ensures
    (takes_both _ _ _ _ _
    (takes_form mpint _ _ _ _ c.as_slice.ensures c.take_mpint.ensures)
    (takes_form mpint _ _ _ _ c.as_slice-in-Some.ensures c.take_mpint-in-Some.ensures)))))
