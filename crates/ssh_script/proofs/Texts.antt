-- Bytes that were read as a text, or weren't.
use Rattle.std.proofs.Common.{◌≡◌, ℕ, List, Bool, true, false, Some, None, refl, sym, ◌∙◌, ap, subst, if◌then◌else◌}
use Rattle.std.specs.Global.{Global}
use Rattle.std.specs.Str.{IsUtf8, is_utf8}
use Rattle.std.specs.String.{string_bytes, string_vec}
use Rattle.std.specs.declared.string.String.{String}
use Rattle.std.specs.declared.vec.Vec.{Vec}
use Rattle.std.proofs.lemmas.Str.{IsUtf8-string_bytes, IsUtf8-from_is_utf8, is_utf8-from_IsUtf8}
use Rattle.ssh_script.specs.RunScript.{utf8_of}

pub text_read : (bytes : Vec ℕ Global) (text : String Global) (seen : List ℕ) → string_vec text ≡ bytes → seen ≡ string_bytes text → utf8_of bytes.items ≡ Some seen
text_read bytes text seen h s =
    let e : string_bytes text ≡ bytes.items = ap (λ (v : Vec ℕ Global). v.items) h in
    let u : is_utf8 bytes.items ≡ true = is_utf8-from_IsUtf8 bytes.items (subst IsUtf8 e (IsUtf8-string_bytes text)) in
    ap (λ t. if t then Some bytes.items else None) u ∙ ap Some (sym e ∙ sym s)

by_test : (bytes : List ℕ) (b : Bool) → is_utf8 bytes ≡ b → ¬ (IsUtf8 bytes) → utf8_of bytes ≡ None
by_test bytes true e n = absurd (n (IsUtf8-from_is_utf8 bytes e))
by_test bytes false e n = ap (λ t. if t then Some bytes else None) e

pub text_refused : (bytes : List ℕ) → ¬ (IsUtf8 bytes) → utf8_of bytes ≡ None
text_refused bytes n = by_test bytes (is_utf8 bytes) refl n
