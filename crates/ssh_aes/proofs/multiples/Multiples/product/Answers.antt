use Rattle.std.proofs.Common.{◌≡◌, ℕ, ◌-◌, ◌*◌, ◌+◌, ◌^◌, drop, slice_index, refl, sym, ap, ◌∙◌, arith}
use Rattle.std.specs.Prelude.{bit_xor}
use Rattle.std.proofs.lemmas.Simd.{length-zip2, length-swz_l, swz_l, get_or-chunk}
use Rattle.std.specs.Int.{w8}
use Rattle.ssh_aes.specs.Field.{polynomial_product}
use Rattle.ssh_aes.specs.Halves.{number_of}
use Rattle.ssh_aes.proofs.Lanes.{octets-sum}
use Rattle.ssh_aes.proofs.Products.{product-nothing}
use Rattle.ssh_aes.proofs.Shifted.{IsRow, halves_within, shifted_high-bytes, shifted_low-bytes, row_at-bytes}
use Rattle.ssh_aes.proofs.Steps.{step-value, read, none_left, zeros_are, shifted_low}
use Rattle.ssh_aes.proofs.multiples.Multiples.product.Goals as goal

pub swizzle : goal.swizzle
swizzle c = halves_within c.args.halves c.requires

pub loop-i-init : goal.loop-i-init
unfolding number_of
loop-i-init c =
    let x = number_of c.args.halves in
    let k = c.self.inside.halves in
    record {
      value = sym (ap (polynomial_product 128 x) (none_left k c.self.invariant.fit) ∙ product-nothing 128 x);
      long_high = refl;
      long_low = refl;
      octets_high = zeros_are;
      octets_low = zeros_are;
    }

pub loop-i-preserved : goal.loop-i-preserved
loop-i-preserved c =
    let i = c.loop-i.i in
    let low = c.loop-i.low in
    let high = c.loop-i.high in
    let v = c.loop-i.invariant in
    let hs = c.args.halves in
    let ks = c.self.inside.halves in
    let fit = c.self.invariant.fit in
    let t = c.row_at-row.result in
    let r : IsRow (slice_index ks (15 - i)) t = record {
      entry = λ x l.
          let e : 240 - 16 * i + x ≡ 16 * (15 - i) + x = omega arith in
          ap (λ s. slice_index s x) c.row_at-row.ensures ∙ get_or-chunk (240 - 16 * i) 16 c.self.inside.rows x 0 l ∙ ap (λ (n : ℕ). slice_index c.self.inside.rows n) e ∙ c.self.invariant.entries (15 - i) x (omega arith) l;
    } in
    let s = swz_l w8 16 t 0 hs in
    let lb = shifted_low-bytes low v.octets_low in
    record {
      value = step-value low high hs ks t i (omega arith) r c.requires fit v.long_low v.long_high v.octets_low v.octets_high v.value;
      long_high = refl;
      long_low = length-zip2 bit_xor (shifted_low low) s (sym (length-swz_l w8 16 t 0 hs ∙ c.requires.sixteen));
      octets_high = shifted_high-bytes low high v.octets_low v.octets_high;
      octets_low = octets-sum (shifted_low low) s lb (row_at-bytes (slice_index ks (15 - i)) t hs (fit.small (15 - i)) r c.requires);
    }

pub returns : goal.returns
returns c =
    let e : 16 - c.loop-i.i ≡ 0 = omega arith in
    let x = number_of c.args.halves in
    ap (λ n. n * 2 ^ 128 + c.from_le_bytes-2.result) (c.from_le_bytes.ensures ∙ read c.loop-i.high c.loop-i.invariant.long_high)
    ∙ ap (λ n. number_of c.loop-i.high * 2 ^ 128 + n) (c.from_le_bytes-2.ensures ∙ read c.loop-i.low c.loop-i.invariant.long_low)
    ∙ c.loop-i.invariant.value
    ∙ ap (λ (n : _). polynomial_product 128 x (number_of (drop n c.self.inside.halves))) e
    ∙ ap (polynomial_product 128 x) c.self.view_is
