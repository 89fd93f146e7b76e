use Rattle.std.proofs.Common.{◌≡◌, ◌∙◌, ◌||◌, not, ap, sym, subst, rules, Bool, Ok, List}
use Rattle.std.specs.Prelude.{filter}
use Rattle.std.proofs.lemmas.Result.{err_from_is_err_and}
use Rattle.ssh_wire.specs.Names.{names_at}
use Rattle.ssh_wire.specs.declared.error.AlgorithmKind.TheVariants.{Kex}
use Rattle.ssh_negotiate.specs.Advertised.{is_foreign}
use Rattle.ssh_negotiate.specs.Chosen.{without_extensions}
use Rattle.ssh_negotiate.specs.Parts.{RefusesReading, hosts_part, with_lists}
use Rattle.ssh_negotiate.specs.Reading.{both_strict, compared_kex, read_fields, select}
use Rattle.ssh_negotiate.specs.Tables.{kex_text}
use Rattle.ssh_negotiate.specs.declared.kex.Name as kexes
use Rattle.ssh_negotiate.proofs.Parts.{gives_err, given, no_list, no_choice, fields_read}
use Rattle.ssh_negotiate.proofs.read.names_of_fields.Goals as goal

pub returns-in_err-peer : goal.returns-in_err-peer
returns-in_err-peer c =
    let kex = filter (λ n. not (is_foreign c.args.side n)) c.args.pref.now.kex in
    let p = err_from_is_err_and c.from_residual.result c.from_residual.ensures.1 in
    gives_err (read_fields c.args.side (with_lists c.args.pref.now kex c.args.hosts.now) c.args.still_strict c.args.bytes.now) c.from_residual.result p.0 c.in_err-peer.field-0.0 p.1 p.2
    (subst (λ b. RefusesReading (read_fields c.args.side (with_lists c.args.pref.now kex c.args.hosts.now) c.args.still_strict b) c.in_err-peer.field-0.0) c.new-reader.ensures
    (no_list c.args.side c.args.pref.now kex c.args.hosts.now c.args.still_strict c.new-reader.result c.in_err-peer.field-0.0 c.in_err-peer.ensures.exact.0))

pub returns-in_err-kex : goal.returns-in_err-kex
returns-in_err-kex c =
    let kex = filter (λ n. not (is_foreign c.args.side n)) c.args.pref.now.kex in
    let own : c.as_slice-3.result.now ≡ c.args.pref.now.kex = search rules in
    let p = err_from_is_err_and c.from_residual-in_err-kex.result c.from_residual-in_err-kex.ensures.1 in
    gives_err (read_fields c.args.side (with_lists c.args.pref.now kex c.args.hosts.now) c.args.still_strict c.args.bytes.now) c.from_residual-in_err-kex.result p.0 c.in_err-kex.field-0.0 p.1 p.2
    (no_choice c.args.side c.args.pref.now kex c.args.hosts.now c.args.still_strict c.args.bytes.now c.in_ok-peer.peer.0.items c.decode.new.r c.in_err-kex.field-0.0
    (ap names_at (sym c.new-reader.ensures) ∙ c.in_ok-peer.ensures.exact)
    (subst (λ (l : List kexes.Name). RefusesReading (select kex_text c.args.side Kex (without_extensions (filter (λ n. not (is_foreign c.args.side n)) l)) (compared_kex c.in_ok-peer.peer.0.items)) c.in_err-kex.field-0.0) own c.in_err-kex.ensures))

pub returns : goal.returns
returns c =
    let kex = filter (λ n. not (is_foreign c.args.side n)) c.args.pref.now.kex in
    let first : c.as_slice.result.now ≡ c.args.pref.now.kex = search rules in
    let own : c.as_slice-3.result.now ≡ c.args.pref.now.kex = search rules in
    given _ _ c.names_behind_kex.result
    (sym (fields_read c.args.side c.args.pref.now kex c.args.hosts.now c.args.still_strict c.args.bytes.now c.in_ok-peer.peer.0.items c.decode.new.r c.in_ok-kex.kex
    (ap names_at (sym c.new-reader.ensures) ∙ c.in_ok-peer.ensures.exact)
    (subst (λ (l : List kexes.Name). select kex_text c.args.side Kex (without_extensions (filter (λ n. not (is_foreign c.args.side n)) l)) (compared_kex c.in_ok-peer.peer.0.items) ≡ Ok c.in_ok-kex.kex) own c.in_ok-kex.ensures)
    ∙ ap (λ (b : Bool). hosts_part c.args.side c.args.pref.now c.args.hosts.now c.in_ok-kex.kex b c.decode.new.r)
    (sym (c.is_strict-strict.ensures
    ∙ (ap (λ (l : List kexes.Name). c.args.still_strict || both_strict c.args.side (with_lists c.args.pref.now (filter (λ n. not (is_foreign c.args.side n)) l) c.args.hosts.now) c.as_slice-2.result.now) first
    ∙ ap (λ l. c.args.still_strict || both_strict c.args.side (with_lists c.args.pref.now kex c.args.hosts.now) l) c.as_slice-2.ensures.value)))))
    c.names_behind_kex.ensures
