use Rattle.std.proofs.Common.{◌≡◌, ◌∙◌, sym, subst, rules, Ok}
use Rattle.std.proofs.lemmas.Result.{err_from_is_err_and}
use Rattle.ssh_wire.specs.Fields.{text_at}
use Rattle.ssh_wire.specs.Names.{names_at}
use Rattle.ssh_wire.specs.declared.error.AlgorithmKind.TheVariants.{Cipher}
use Rattle.ssh_negotiate.specs.Advertised.{cipher_text}
use Rattle.ssh_negotiate.specs.Parts.{RefusesReading, ciphers_part, macs_part, front_taken, with_rest}
use Rattle.ssh_negotiate.specs.Reading.{field, select}
use Rattle.ssh_negotiate.proofs.Parts.{field_found, field_refused, gives_err, given, refused, refused_too, taken}
use Rattle.ssh_negotiate.proofs.read.names_behind_host.Goals as goal

pub returns-in_err-cipher : goal.returns-in_err-cipher
returns-in_err-cipher c =
    let own : c.as_slice.result.now ≡ c.args.pref.now.cipher = search rules in
    let p = err_from_is_err_and c.from_residual.result c.from_residual.ensures.1 in
    gives_err (ciphers_part c.args.side c.args.pref.now c.args.kex c.args.host c.args.strict c.args.r.now) c.from_residual.result p.0 c.in_err-cipher.field-0.0 p.1 p.2
    (refused (names_at c.args.r.now) (select cipher_text c.args.side Cipher c.args.pref.now.cipher) (λ cipher r. field (text_at r) λ _ s. macs_part c.args.side c.args.pref.now c.args.kex c.args.host cipher.1 c.args.strict s) c.in_err-cipher.field-0.0
    (subst (λ l. RefusesReading (front_taken (names_at c.args.r.now) (select cipher_text c.args.side Cipher l) with_rest) c.in_err-cipher.field-0.0) own c.in_err-cipher.ensures))

pub returns-in_err-read_text : goal.returns-in_err-read_text
returns-in_err-read_text c =
    let own : c.as_slice.result.now ≡ c.args.pref.now.cipher = search rules in
    let p = err_from_is_err_and c.from_residual-in_err-read_text.result c.from_residual-in_err-read_text.ensures.1 in
    gives_err (ciphers_part c.args.side c.args.pref.now c.args.kex c.args.host c.args.strict c.args.r.now) c.from_residual-in_err-read_text.result p.0 c.in_err-read_text.field-0.0 p.1 p.2
    (refused_too _ _ c.in_err-read_text.field-0.0
    (taken (names_at c.args.r.now) (select cipher_text c.args.side Cipher c.args.pref.now.cipher) (λ cipher r. field (text_at r) λ _ s. macs_part c.args.side c.args.pref.now c.args.kex c.args.host cipher.1 c.args.strict s) c.in_ok-cipher.cipher c.choice_at.new.r
    (subst (λ l. front_taken (names_at c.args.r.now) (select cipher_text c.args.side Cipher l) with_rest ≡ Ok (c.in_ok-cipher.cipher, c.choice_at.new.r)) own c.in_ok-cipher.ensures))
    (field_refused (text_at c.choice_at.new.r) (λ _ s. macs_part c.args.side c.args.pref.now c.args.kex c.args.host c.in_ok-cipher.cipher.1 c.args.strict s) c.in_err-read_text.field-0.0 c.in_err-read_text.ensures.exact.0))

pub returns : goal.returns
returns c =
    let own : c.as_slice.result.now ≡ c.args.pref.now.cipher = search rules in
    given _ _ c.names_behind_cipher.result
    (sym (taken (names_at c.args.r.now) (select cipher_text c.args.side Cipher c.args.pref.now.cipher) (λ cipher r. field (text_at r) λ _ s. macs_part c.args.side c.args.pref.now c.args.kex c.args.host cipher.1 c.args.strict s) c.in_ok-cipher.cipher c.choice_at.new.r
    (subst (λ l. front_taken (names_at c.args.r.now) (select cipher_text c.args.side Cipher l) with_rest ≡ Ok (c.in_ok-cipher.cipher, c.choice_at.new.r)) own c.in_ok-cipher.ensures)
    ∙ field_found (text_at c.choice_at.new.r) (λ _ s. macs_part c.args.side c.args.pref.now c.args.kex c.args.host c.in_ok-cipher.cipher.1 c.args.strict s) c.in_ok-read_text.field-0.now c.read_text.new.self c.in_ok-read_text.ensures.exact))
    c.names_behind_cipher.ensures
