-- What a reason code means that has no name.
use Rattle.std.specs.Prelude.{ℕ, List, ◌++◌, codes}
use Rattle.std.specs.Fmt.{decimal}

abbrev pub unknown_text : ℕ → List ℕ
unknown_text code = codes "Unknown code " ++ decimal code
