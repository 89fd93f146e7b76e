use Rattle.std.proofs.Common.{◌≡◌, ◌∙◌, ◌&&◌, ap, sym, subst, rules, false, Bool, Ok}
use Rattle.std.proofs.lemmas.Result.{err_from_is_err_and}
use Rattle.ssh_wire.specs.Names.{names_at}
use Rattle.ssh_negotiate.specs.Chosen.{names_with}
use Rattle.ssh_negotiate.specs.Parts.{RefusesReading, compressions_part, with_guess, macs_part, front_taken, with_rest}
use Rattle.ssh_negotiate.specs.Reading.{select_mac}
use Rattle.ssh_negotiate.specs.declared.negotiation.Names.{Names}
use Rattle.ssh_negotiate.proofs.Parts.{gives_err, given, refused, refused_too, taken}
use Rattle.ssh_negotiate.proofs.read.names_behind_cipher.Goals as goal

pub returns-in_err-client_mac : goal.returns-in_err-client_mac
returns-in_err-client_mac c =
    let own : c.as_slice.result.now ≡ c.args.pref.now.mac = search rules in
    let p = err_from_is_err_and c.from_residual.result c.from_residual.ensures.1 in
    gives_err (macs_part c.args.side c.args.pref.now c.args.choices.0 c.args.choices.1 c.args.cipher c.args.strict c.args.r.now) c.from_residual.result p.0 c.in_err-client_mac.field-0.0 p.1 p.2
    (refused (names_at c.args.r.now) (select_mac c.args.side c.args.cipher c.args.pref.now.mac)
    (λ client_mac r. front_taken (names_at r) (select_mac c.args.side c.args.cipher c.args.pref.now.mac) λ server_mac s. compressions_part c.args.side c.args.pref.now (with_guess (names_with c.args.choices.0.1 c.args.choices.1.1 c.args.cipher client_mac server_mac false c.args.strict) (c.args.choices.0.0 && c.args.choices.1.0)) s)
    c.in_err-client_mac.field-0.0
    (subst (λ l. RefusesReading (front_taken (names_at c.args.r.now) (select_mac c.args.side c.args.cipher l) with_rest) c.in_err-client_mac.field-0.0) own c.in_err-client_mac.ensures))

pub returns-in_err-server_mac : goal.returns-in_err-server_mac
returns-in_err-server_mac c =
    let own : c.as_slice.result.now ≡ c.args.pref.now.mac = search rules in
    let same : c.as_slice-2.result.now ≡ c.args.pref.now.mac = search rules in
    let p = err_from_is_err_and c.from_residual-in_err-server_mac.result c.from_residual-in_err-server_mac.ensures.1 in
    gives_err (macs_part c.args.side c.args.pref.now c.args.choices.0 c.args.choices.1 c.args.cipher c.args.strict c.args.r.now) c.from_residual-in_err-server_mac.result p.0 c.in_err-server_mac.field-0.0 p.1 p.2
    (refused_too _ _ c.in_err-server_mac.field-0.0
    (taken (names_at c.args.r.now) (select_mac c.args.side c.args.cipher c.args.pref.now.mac)
    (λ client_mac r. front_taken (names_at r) (select_mac c.args.side c.args.cipher c.args.pref.now.mac) λ server_mac s. compressions_part c.args.side c.args.pref.now (with_guess (names_with c.args.choices.0.1 c.args.choices.1.1 c.args.cipher client_mac server_mac false c.args.strict) (c.args.choices.0.0 && c.args.choices.1.0)) s)
    c.in_ok-client_mac.client_mac c.mac_at.new.r
    (subst (λ l. front_taken (names_at c.args.r.now) (select_mac c.args.side c.args.cipher l) with_rest ≡ Ok (c.in_ok-client_mac.client_mac, c.mac_at.new.r)) own c.in_ok-client_mac.ensures))
    (refused (names_at c.mac_at.new.r) (select_mac c.args.side c.args.cipher c.args.pref.now.mac)
    (λ server_mac s. compressions_part c.args.side c.args.pref.now (with_guess (names_with c.args.choices.0.1 c.args.choices.1.1 c.args.cipher c.in_ok-client_mac.client_mac server_mac false c.args.strict) (c.args.choices.0.0 && c.args.choices.1.0)) s)
    c.in_err-server_mac.field-0.0
    (subst (λ l. RefusesReading (front_taken (names_at c.mac_at.new.r) (select_mac c.args.side c.args.cipher l) with_rest) c.in_err-server_mac.field-0.0) same c.in_err-server_mac.ensures)))

pub returns : goal.returns
returns c =
    let own : c.as_slice.result.now ≡ c.args.pref.now.mac = search rules in
    let same : c.as_slice-2.result.now ≡ c.args.pref.now.mac = search rules in
    given _ _ c.names_behind_macs.result
    (sym (taken (names_at c.args.r.now) (select_mac c.args.side c.args.cipher c.args.pref.now.mac)
    (λ client_mac r. front_taken (names_at r) (select_mac c.args.side c.args.cipher c.args.pref.now.mac) λ server_mac s. compressions_part c.args.side c.args.pref.now (with_guess (names_with c.args.choices.0.1 c.args.choices.1.1 c.args.cipher client_mac server_mac false c.args.strict) (c.args.choices.0.0 && c.args.choices.1.0)) s)
    c.in_ok-client_mac.client_mac c.mac_at.new.r
    (subst (λ l. front_taken (names_at c.args.r.now) (select_mac c.args.side c.args.cipher l) with_rest ≡ Ok (c.in_ok-client_mac.client_mac, c.mac_at.new.r)) own c.in_ok-client_mac.ensures)
    ∙ (taken (names_at c.mac_at.new.r) (select_mac c.args.side c.args.cipher c.args.pref.now.mac)
    (λ server_mac s. compressions_part c.args.side c.args.pref.now (with_guess (names_with c.args.choices.0.1 c.args.choices.1.1 c.args.cipher c.in_ok-client_mac.client_mac server_mac false c.args.strict) (c.args.choices.0.0 && c.args.choices.1.0)) s)
    c.in_ok-server_mac.server_mac c.mac_at-2.new.r
    (subst (λ l. front_taken (names_at c.mac_at.new.r) (select_mac c.args.side c.args.cipher l) with_rest ≡ Ok (c.in_ok-server_mac.server_mac, c.mac_at-2.new.r)) same c.in_ok-server_mac.ensures)
    ∙ (ap (λ (n : Names). compressions_part c.args.side c.args.pref.now (with_guess n (c.args.choices.0.0 && c.args.choices.1.0)) c.mac_at-2.new.r) (sym c.names_of_choices-names.ensures)
    ∙ ap (λ (b : Bool). compressions_part c.args.side c.args.pref.now (with_guess c.names_of_choices-names.result b) c.mac_at-2.new.r) (sym c.are_both-both_first.ensures)))))
    c.names_behind_macs.ensures
