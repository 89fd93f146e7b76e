use Rattle.std.proofs.Common.{◌≡◌, ℕ, ◌-◌, ◌*◌, ◌+◌, ◌^◌, ◌<◌, List, drop, slice_index, refl, sym, ap, ◌∙◌, arith}
use Rattle.std.specs.Prelude.{bit_xor}
use lib.Lanes.{zip2}
use Rattle.ssh_aes.specs.Field.{polynomial_product}
use Rattle.ssh_aes.specs.Halves.{AreHalves, number_of}
use Rattle.ssh_aes.proofs.Products.{product-nothing}
use Rattle.ssh_aes.proofs.Shifted.{halves_within, shifted_high-bytes, shifted_low-bytes}
use Rattle.ssh_aes.proofs.Steps.{read, none_left, zeros_are, shifted_low, row_for}
use Rattle.ssh_aes.proofs.Pairs.{AreLanes, row-lanes, lanes-sum, two-value, sum-same, loaded_row}
use Rattle.ssh_aes.proofs.multiples.sum_of_products.Goals as goal

pub swizzle : goal.swizzle
swizzle c = halves_within c.args.at.0 c.requires.first

pub swizzle-in-loop-i : goal.swizzle-in-loop-i
swizzle-in-loop-i c = halves_within c.args.at.1 c.requires.second

pub loop-i-init : goal.loop-i-init
unfolding number_of
loop-i-init c =
    let none = λ (hs ks : List ℕ) (fit : AreHalves ks). ap (polynomial_product 128 (number_of hs)) (none_left ks fit) ∙ product-nothing 128 (number_of hs) in
    record {
      value = sym (sum-same _ _ 0 0 (none c.args.at.0 c.a.inside.halves c.a.invariant.fit) (none c.args.at.1 c.b.inside.halves c.b.invariant.fit));
      lanes_high = record { sixteen = refl; octets = zeros_are };
      lanes_low = record { sixteen = refl; octets = zeros_are };
    }

pub loop-i-preserved : goal.loop-i-preserved
loop-i-preserved c =
    let i = c.loop-i.i in
    let low = c.loop-i.low in
    let high = c.loop-i.high in
    let v = c.loop-i.invariant in
    let l : i < 16 = omega arith in
    let ra = loaded_row c.a.inside.halves c.a.inside.rows c.row_at.result i l c.a.invariant c.row_at.ensures in
    let sa = row_for c.args.at.0 c.row_at.result in
    let pa = row-lanes (slice_index c.a.inside.halves (15 - i)) c.row_at.result c.args.at.0 (c.a.invariant.fit.small (15 - i)) ra c.requires.first in
    let rb = loaded_row c.b.inside.halves c.b.inside.rows c.row_at-in-loop-i.result i l c.b.invariant c.row_at-in-loop-i.ensures in
    let sb = row_for c.args.at.1 c.row_at-in-loop-i.result in
    let pb = row-lanes (slice_index c.b.inside.halves (15 - i)) c.row_at-in-loop-i.result c.args.at.1 (c.b.invariant.fit.small (15 - i)) rb c.requires.second in
    let p : AreLanes (shifted_low low) = record { sixteen = refl; octets = shifted_low-bytes low v.lanes_low.octets } in
    let p1 = lanes-sum (shifted_low low) sa p pa in
    record {
      value = two-value low high c.args.at.0 c.args.at.1 c.a.inside.halves c.b.inside.halves c.row_at.result c.row_at-in-loop-i.result i l ra rb
          c.requires.first c.requires.second c.a.invariant.fit c.b.invariant.fit v.lanes_low v.lanes_high v.value;
      lanes_high = record { sixteen = refl; octets = shifted_high-bytes low high v.lanes_low.octets v.lanes_high.octets };
      lanes_low = lanes-sum (zip2 bit_xor (shifted_low low) sa) sb p1 pb;
    }

pub returns : goal.returns
returns c =
    let e : 16 - c.loop-i.i ≡ 0 = omega arith in
    let all = λ (hs ks : List ℕ). ap (λ (n : ℕ). polynomial_product 128 (number_of hs) (number_of (drop n ks))) e in
    ap (λ n. n * 2 ^ 128 + c.from_le_bytes-2.result) (c.from_le_bytes.ensures ∙ read c.loop-i.high c.loop-i.invariant.lanes_high.sixteen)
    ∙ ap (λ n. number_of c.loop-i.high * 2 ^ 128 + n) (c.from_le_bytes-2.ensures ∙ read c.loop-i.low c.loop-i.invariant.lanes_low.sixteen)
    ∙ c.loop-i.invariant.value
    ∙ sum-same _ _ _ _
    (all c.args.at.0 c.a.inside.halves ∙ ap (polynomial_product 128 (number_of c.args.at.0)) c.a.view_is)
    (all c.args.at.1 c.b.inside.halves ∙ ap (polynomial_product 128 (number_of c.args.at.1)) c.b.view_is)
