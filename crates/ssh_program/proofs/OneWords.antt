-- The arguments have one list of words.
use Rattle.std.proofs.Common.{◌≡◌, ◌∙◌, ℕ, List, Result, Ok, Err, sym}
use Rattle.std.specs.Global.{Global}
use Rattle.std.specs.declared.string.String.{String}
use Rattle.std.specs.declared.vec.IntoIter.{IntoIter}
use Rattle.ssh_program.specs.Programs.{AreWords}

pub one_words : {E : Type 0} (arguments : Result (IntoIter (String Global) Global) E) (a b : List (List ℕ)) → AreWords arguments a → AreWords arguments b → a ≡ b
one_words (Ok arguments) a b h k = h ∙ sym k
one_words (Err e) a b h k = h ∙ sym k
