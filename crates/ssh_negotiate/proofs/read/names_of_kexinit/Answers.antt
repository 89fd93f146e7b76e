use Rattle.std.proofs.Common.{◌∙◌, ◌-◌, not, ap, sym, refl, length, take, drop}
use Rattle.std.specs.Prelude.{filter}
use Rattle.ssh_negotiate.specs.Advertised.{is_foreign, offers_with}
use Rattle.ssh_negotiate.specs.Reading.{slice_list, read_fields}
use Rattle.ssh_negotiate.proofs.Parts.{behind, given, front_short, front_long, lists_are}
use Rattle.ssh_negotiate.proofs.read.names_of_kexinit.Goals as goal

pub returns-then-payload-lt-FRONT_LEN : goal.returns-then-payload-lt-FRONT_LEN
returns-then-payload-lt-FRONT_LEN c = front_short _ _ _ c.args.payload.now c.if-payload-lt-FRONT_LEN.true

pub returns : goal.returns
returns c =
    let offered = offers_with c.args.side c.args.pref.now (slice_list c.args.keys) (slice_list c.args.certificates) in
    let kex = filter (λ n. not (is_foreign c.args.side n)) c.args.pref.now.kex in
    given _ _ c.names_of_fields.result
    (ap (λ o. read_fields c.args.side o c.args.still_strict (take (length c.args.payload.now - 17) (drop 17 c.args.payload.now))) (lists_are c.args.side c.args.pref.now (slice_list c.args.keys) (slice_list c.args.certificates) kex c.as_slice.result.now refl (c.as_slice.ensures.value ∙ c.in_ok-hosts.ensures.ok))
    ∙ (ap (λ b. read_fields c.args.side offered c.args.still_strict b) (behind 17 c.args.payload.now)
    ∙ sym (front_long c.args.side offered c.args.still_strict c.args.payload.now c.if-payload-lt-FRONT_LEN.false)))
    c.names_of_fields.ensures
