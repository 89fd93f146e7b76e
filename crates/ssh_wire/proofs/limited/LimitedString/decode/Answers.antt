use Rattle.std.proofs.Common.{◌≡◌, ◌≤◌, ◌++◌, ◌∙◌, sym, ap, true, List, ℕ, length, Ok}
use Rattle.std.specs.Str.{is_utf8}
use Rattle.std.specs.String.{string_bytes}
use Rattle.ssh_wire.specs.Forms.{AreBytes, string}
use Rattle.ssh_wire.specs.Fields.{limited_at}
use Rattle.ssh_wire.proofs.FieldLaws.{limited_takes, limited_again, read_once, never_refused}
use Rattle.ssh_wire.proofs.limited.LimitedString.decode.Goals as goal

found : (most : ℕ) (bytes old text kept rest new : List ℕ) → AreBytes old → bytes ≡ old → limited_at most bytes ≡ Ok (text, rest) → kept ≡ text → new ≡ rest → (old ≡ string kept ++ new) × (length kept ≤ most) × (is_utf8 kept ≡ true)
found most bytes old text kept rest new fit same read e k =
    let l = limited_takes most old text rest fit (ap (limited_at most) (sym same) ∙ read) in
    rw (e, k) ((l.0).0, l.1, l.2)

pub returns-in_err-text-clause-again : goal.returns-in_err-text-clause-again
returns-in_err-text-clause-again g c = λ s rest small short utf8 e.
    let same : c.rest.result.now ≡ string s ++ rest = c.rest.ensures.value ∙ e in
    absurd (never_refused (limited_at g.row.N) c.rest.result.now (string s ++ rest) c.in_err-text.field-0.0 (s, rest) same c.in_err-text.ensures (limited_again g.row.N s rest small short utf8))

pub invariant_of-result : goal.invariant_of-result
invariant_of-result g c =
    (found g.row.N c.rest.result.now c.args.r.now c.in_ok-text.text.now (string_bytes c.in_ok-text-2.text) c.in_ok-text.rest.now c.new.result c.rest.ensures.bytes c.rest.ensures.value c.in_ok-text.ensures c.in_ok-text-2.ensures.ok c.new.ensures).1

pub returns-clause-spelled : goal.returns-clause-spelled
returns-clause-spelled g c =
    found g.row.N c.rest.result.now c.args.r.now c.in_ok-text.text.now (string_bytes c.in_ok-text-2.text) c.in_ok-text.rest.now c.new.result c.rest.ensures.bytes c.rest.ensures.value c.in_ok-text.ensures c.in_ok-text-2.ensures.ok c.new.ensures

pub returns-clause-again : goal.returns-clause-again
returns-clause-again g c = λ s rest small short utf8 e.
    let same : c.rest.result.now ≡ string s ++ rest = c.rest.ensures.value ∙ e in
    let once = read_once (limited_at g.row.N) c.rest.result.now (string s ++ rest) (c.in_ok-text.text.now, c.in_ok-text.rest.now) (s, rest) same c.in_ok-text.ensures (limited_again g.row.N s rest small short utf8) in
    (c.in_ok-text-2.ensures.ok ∙ once.0, c.new.ensures ∙ once.1)
