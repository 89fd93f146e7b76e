-- The text of a generated run.
use Rattle.std.specs.Prelude.{◌≡◌, ℕ, ◌+◌, ◌-◌, ◌^◌, min, List, [], ◌∷◌, ◌++◌, length, codes, refl}
use Rattle.std.specs.Fmt.{decimal, digits}
use Rattle.ssh_wire.specs.declared.side.Side.{Side}
use Rattle.ssh_wire.specs.declared.side.Side.TheVariants.{Client, Server}
use Rattle.ssh_rules.specs.declared.link.SideReport.{SideReport}
use Rattle.ssh_rules.specs.declared.link.LinkReport.{LinkReport}
use Rattle.ssh_lines.specs.Printed.{side_name}

-- how many bytes the payloads have together
abbrev pub bytes_together : List (List ℕ) → ℕ
bytes_together [] = 0
bytes_together (payload ∷ payloads) = length payload + bytes_together payloads

-- the largest number that is printed
abbrev pub largest : ℕ
largest = 2 ^ 64 - 1

-- SIDE sent N finished N delivered N bytes N
abbrev pub side_summary : Side → SideReport → List ℕ
side_summary side report =
    side_name side ++ (codes " sent " ++ decimal (length report.wire)) ++ (codes " finished " ++ decimal (length report.exchanges))
    ++ (codes " delivered " ++ decimal (length report.delivered)) ++ (codes " bytes " ++ decimal (min (bytes_together report.delivered) largest))
    ++ 10 ∷ []

-- `steps N`, then a line for each side: there is one mark more than steps
abbrev pub summary_text : LinkReport → List ℕ
summary_text report =
    (codes "steps " ++ decimal (length report.marks - 1)) ++ 10 ∷ side_summary Client report.client ++ side_summary Server report.server

side-example : side_summary Server (record { wire = 171 ∷ []; taken = 12; delivered = (1 ∷ 2 ∷ []) ∷ []; exchanges = [] })
    ≡ codes "server sent 1 finished 0 delivered 1 bytes 2\n"
unfolding digits
side-example = refl
