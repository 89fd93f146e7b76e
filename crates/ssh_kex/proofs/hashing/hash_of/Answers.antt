-- The pieces one after the other.
use Rattle.std.proofs.Common.{[]}
use Rattle.ssh_wire.specs.Forms.{string}
use Rattle.ssh_kex.specs.Exchange.{group_text, hashed_text}
use Rattle.ssh_kex.proofs.Taking.{takes_both, takes_form}
use Rattle.ssh_kex.proofs.hashing.hash_of.Goals as goal

pub returns : goal.returns
unfolding hashed_text
returns c =
    c.finalize.ensures c.args.digest _
    (takes_both _ _ _ _ _ (takes_form string _ _ _ _ c.as_slice.ensures c.take_string.ensures)
    (takes_both _ _ _ _ _ (takes_form string _ _ _ _ c.as_slice-2.ensures c.take_string-2.ensures)
    (takes_both _ _ _ _ _ (takes_form string _ _ _ _ c.as_slice-3.ensures c.take_string-3.ensures)
    (takes_both _ _ _ _ _ (takes_form string _ _ _ _ c.as_slice-4.ensures c.take_string-4.ensures)
    (takes_both _ _ _ _ _ c.take_string-5.ensures
    (takes_both _ _ _ _ _ (takes_form group_text _ _ _ _ c.as_ref.ensures.value c.take_group.ensures)
    (takes_both _ _ _ _ _ (takes_form string _ _ _ _ c.as_slice-5.ensures c.take_string-6.ensures)
    (takes_both _ _ _ _ _ (takes_form string _ _ _ _ c.as_slice-6.ensures c.take_string-7.ensures)
    c.take_secret.ensures)))))))
    c.args.digest [] c.new-text.ensures)
