-- The sum of lengths, and the words of a summary's line, appended one after the other.
use Rattle.std.proofs.Common.{◌≡◌, ℕ, ◌+◌, ◌<◌, ◌≤◌, min, List, [], ◌∷◌, ◌++◌, codes, decimal, length, sym, ◌∙◌, arith, append_assoc}
use Rattle.std.proofs.lemmas.Bool.Decides.{nat_tests}
use Rattle.ssh_wire.specs.declared.side.Side.{Side}
use Rattle.ssh_rules.specs.declared.link.SideReport.{SideReport}
use Rattle.ssh_lines.specs.Printed.{side_name}
use Rattle.ssh_script.specs.Summary.{bytes_together, largest, side_summary}

min_small : (a b : ℕ) → a ≤ b → min (a + 0) b ≡ a
min_small a b h = grind (arith, nat_tests)

-- where no payload is left, the sum is that of all
pub sum_whole : (sum : ℕ) (rest all : List (List ℕ)) → length rest < 1 → sum ≤ largest
    → min (sum + bytes_together rest) largest ≡ min (bytes_together all) largest → sum ≡ min (bytes_together all) largest
sum_whole sum [] all none small e = sym (min_small sum largest small) ∙ e
sum_whole sum (payload ∷ rest) all none small e = absurd (omega (arith, none))

appended : (n6 n5 n4 n3 n2 n1 out name a b c d : List ℕ)
    → n6 ≡ n5 ++ 10 ∷ [] → n5 ≡ n4 ++ d → n4 ≡ n3 ++ c → n3 ≡ n2 ++ b → n2 ≡ n1 ++ a → n1 ≡ out ++ name
    → n6 ≡ out ++ (name ++ a ++ b ++ c ++ d ++ 10 ∷ [])
appended n6 n5 n4 n3 n2 n1 out name a b c d h6 h5 h4 h3 h2 h1 = rw (h6, h5, h4, h3, h2, h1) (simp (append_assoc))

pub summary_behind : (n6 n5 n4 n3 n2 n1 out : List ℕ) (side : Side) (report : SideReport)
    → n6 ≡ n5 ++ 10 ∷ [] → n5 ≡ n4 ++ (codes " bytes " ++ decimal (min (bytes_together report.delivered) largest))
    → n4 ≡ n3 ++ (codes " delivered " ++ decimal (length report.delivered))
    → n3 ≡ n2 ++ (codes " finished " ++ decimal (length report.exchanges))
    → n2 ≡ n1 ++ (codes " sent " ++ decimal (length report.wire)) → n1 ≡ out ++ side_name side
    → n6 ≡ out ++ side_summary side report
summary_behind n6 n5 n4 n3 n2 n1 out side report h6 h5 h4 h3 h2 h1 =
    appended n6 n5 n4 n3 n2 n1 out (side_name side) (codes " sent " ++ decimal (length report.wire))
    (codes " finished " ++ decimal (length report.exchanges)) (codes " delivered " ++ decimal (length report.delivered))
    (codes " bytes " ++ decimal (min (bytes_together report.delivered) largest)) h6 h5 h4 h3 h2 h1
