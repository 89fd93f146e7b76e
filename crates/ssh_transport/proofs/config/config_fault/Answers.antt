use Rattle.std.proofs.Common.{Bool, sym, ap, ◌∙◌, Some, None, if◌then◌else◌}
use Rattle.ssh_wire.specs.declared.error.ConfigFault.TheVariants as faults
use Rattle.ssh_transport.proofs.Configs.{last_fault}
use Rattle.ssh_transport.proofs.config.config_fault.Goals as goal

pub returns-then-has_long_blob : goal.returns-then-has_long_blob
returns-then-has_long_blob c = sym (ap (λ (x : Bool). if x then Some faults.HostBlob else None) c.if-has_long_blob.true)
    ∙ last_fault c.args.side c.args.config.now c.is_good_id.result c.are_good_limits.result c.are_rising.result
    c.offers_none.result c.are_good_lists.result c.has_long_blob.result c.is_good_id.ensures c.if-not-is_good_id.false
    c.are_good_limits.ensures c.if-not-are_good_limits.false c.are_rising.ensures c.if-not-are_rising.false
    c.offers_none.ensures c.if-offers_none.false c.are_good_lists.ensures c.if-not-are_good_lists.false
    c.has_long_blob.ensures

pub returns : goal.returns
returns c = sym (ap (λ (x : Bool). if x then Some faults.HostBlob else None) c.if-has_long_blob.false)
    ∙ last_fault c.args.side c.args.config.now c.is_good_id.result c.are_good_limits.result c.are_rising.result
    c.offers_none.result c.are_good_lists.result c.has_long_blob.result c.is_good_id.ensures c.if-not-is_good_id.false
    c.are_good_limits.ensures c.if-not-are_good_limits.false c.are_rising.ensures c.if-not-are_rising.false
    c.offers_none.ensures c.if-offers_none.false c.are_good_lists.ensures c.if-not-are_good_lists.false
    c.has_long_blob.ensures
