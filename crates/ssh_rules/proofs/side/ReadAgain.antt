-- The messages of an exchange, read again by their fields.
use Rattle.std.proofs.Common.{◌≡◌, ℕ, ◌-◌, ◌<◌, ◌^◌, List, [], ◌++◌, length, Ok, sym, ◌∙◌, ap, append-nil}
use Rattle.ssh_wire.proofs.Lemmas.{mpint_again, string_again, u32_again}
use Rattle.ssh_wire.specs.Fields.{◌>>=◌, mpint_at, string_at, u32_at}
use Rattle.ssh_wire.specs.Forms.{magnitude, mpint, string, u32be}
use Rattle.ssh_kex.specs.Fields.{value_at_end, group_in, reply_front, sizes_front, sizes_in, value_in}
use Rattle.ssh_kex.specs.declared.group.DhGroup.{DhGroup}
use Rattle.ssh_kex.specs.declared.group.GexParams.{GexParams}

string_alone : (s : List ℕ) → length s < 2 ^ 32 → string_at (string s) ≡ Ok (s, [])
string_alone s small = ap string_at (sym (append-nil (string s))) ∙ string_again s [] small

mpint_alone : (s : List ℕ) → length s < 2 ^ 32 - 1 → mpint_at (mpint s) ≡ Ok (magnitude s, [])
mpint_alone s small = ap mpint_at (sym (append-nil (mpint s))) ∙ mpint_again s [] small

u32_alone : (n : ℕ) → n < 2 ^ 32 → u32_at (u32be n) ≡ Ok (n, [])
u32_alone n small = ap u32_at (sym (append-nil (u32be n))) ∙ u32_again n [] small

-- ---- messages

pub value_again : (v : List ℕ) → length v < 2 ^ 32 → value_in (string v) ≡ Ok v
unfolding value_in
value_again v small = ap (λ r. r >>= (λ x. value_at_end x.0 x.1)) (string_alone v small)

pub group_again : (g : DhGroup) → length g.prime < 2 ^ 32 - 1 → length g.generator < 2 ^ 32 - 1 → group_in (mpint g.prime ++ mpint g.generator) ≡ Ok (record { prime = magnitude g.prime; generator = magnitude g.generator })
unfolding group_in
group_again g p q =
    ap (λ r. r >>= (λ a. mpint_at a.1 >>= (λ b. value_at_end (record { prime = a.0; generator = b.0 }) b.1))) (mpint_again g.prime (mpint g.generator) p)
    ∙ ap (λ r. r >>= (λ b. value_at_end (record { prime = magnitude g.prime; generator = b.0 }) b.1)) (mpint_alone g.generator q)

pub sizes_again : (g : GexParams) → g.min_group_size < 2 ^ 32 → g.preferred_group_size < 2 ^ 32 → g.max_group_size < 2 ^ 32 → sizes_in (u32be g.min_group_size ++ (u32be g.preferred_group_size ++ u32be g.max_group_size)) ≡ Ok g
unfolding sizes_in sizes_front
sizes_again g a b c = ap (λ r. r >>= (λ x. value_at_end x.0 x.1)) front where
  front : sizes_front (u32be g.min_group_size ++ (u32be g.preferred_group_size ++ u32be g.max_group_size)) ≡ Ok (g, [])
  front =
      ap (λ r. r >>= (λ x. u32_at x.1 >>= (λ y. u32_at y.1 >>= (λ z. Ok (record { min_group_size = x.0; preferred_group_size = y.0; max_group_size = z.0 }, z.1))))) (u32_again g.min_group_size (u32be g.preferred_group_size ++ u32be g.max_group_size) a)
      ∙ (ap (λ r. r >>= (λ y. u32_at y.1 >>= (λ z. Ok (record { min_group_size = g.min_group_size; preferred_group_size = y.0; max_group_size = z.0 }, z.1)))) (u32_again g.preferred_group_size (u32be g.max_group_size) b)
      ∙ ap (λ r. r >>= (λ z. Ok (record { min_group_size = g.min_group_size; preferred_group_size = g.preferred_group_size; max_group_size = z.0 }, z.1))) (u32_alone g.max_group_size c))

pub front_again : (h v s : List ℕ) → length h < 2 ^ 32 → length v < 2 ^ 32 → reply_front (string h ++ (string v ++ s)) ≡ Ok (record { host = h; value = v; behind = s })
unfolding reply_front
front_again h v s a b =
    ap (λ r. r >>= (λ x. string_at x.1 >>= (λ y. Ok (record { host = x.0; value = y.0; behind = y.1 })))) (string_again h (string v ++ s) a)
    ∙ ap (λ r. r >>= (λ y. Ok (record { host = h; value = y.0; behind = y.1 }))) (string_again v s b)
