use Rattle.std.proofs.Common.{◌≡◌, ℕ, List, Result, Ok, Err, false, codes, refl, sym, ap, ◌∙◌, arith}
use Rattle.std.specs.List.{list_any}
use Rattle.std.specs.Str.{bytes_eq}
use Rattle.std.proofs.lemmas.List.{drop_all}
use Rattle.ssh_wire.specs.Fields.{answer_of, limited_at, string_at, u32_at}
use Rattle.ssh_wire.specs.Names.{names_at}
use Rattle.ssh_wire.specs.declared.error.EncodingFault.{EncodingFault}
use Rattle.ssh_wire.specs.declared.error.Error.{Error}
use Rattle.ssh_negotiate.specs.Reading.{is_held, names_extension_info}
use Rattle.ssh_negotiate.specs.Tables.{kex_text}
use Rattle.ssh_negotiate.proofs.Parts.{behind}
use Rattle.ssh_negotiate.proofs.read.names_extension_info.Goals as goal

refused : (text : List ℕ) (read : Result (List (List ℕ) × List ℕ) EncodingFault) (e : Error) → answer_of read ≡ Err e → false ≡ is_held text read
refused text (Ok x) e h = cc
refused text (Err fault) e h = refl

pub returns-then-payload-lt-FRONT_LEN : goal.returns-then-payload-lt-FRONT_LEN
unfolding names_extension_info names_at limited_at string_at u32_at
returns-then-payload-lt-FRONT_LEN c = sym (ap (λ l. is_held (codes "ext-info-c") (names_at l)) (drop_all 17 c.args.payload.now (omega arith)))

pub returns-in-Ok : goal.returns-in-Ok
unfolding names_extension_info kex_text
returns-in-Ok c = c.holds.ensures ∙ (ap (λ t. list_any (bytes_eq t) c.in-Ok.names) c.as_str.ensures ∙ sym (ap (is_held (codes "ext-info-c")) (ap names_at (sym (c.new-reader.ensures ∙ behind 17 c.args.payload.now)) ∙ c.in-Ok.ensures)))

pub returns-in-Err : goal.returns-in-Err
unfolding names_extension_info
returns-in-Err c = refused (codes "ext-info-c") _ c.in-Err._error (ap (λ l. answer_of (names_at l)) (sym (c.new-reader.ensures ∙ behind 17 c.args.payload.now)) ∙ c.in-Err.ensures.0)
