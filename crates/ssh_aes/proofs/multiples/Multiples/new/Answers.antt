use Rattle.std.proofs.Common.{◌≡◌, ℕ, ◌+◌, ◌*◌, ◌/◌, ◌%◌, slice_index, arith, sym, ap, ◌∙◌, length}
use Rattle.ssh_aes.specs.Field.{polynomial_product}
use Rattle.ssh_aes.proofs.Written.{IsWritten-none}
use Rattle.ssh_aes.proofs.RowsWritten.{IsWritten-chunk}
use Rattle.ssh_aes.proofs.Schedules.{bytes_by-at}
use Rattle.ssh_aes.proofs.multiples.Multiples.new.Goals as goal

pub loop-i-init : goal.loop-i-init
loop-i-init c = IsWritten-none _ _

pub loop-i-preserved : goal.loop-i-preserved
loop-i-preserved c =
    let i = c.loop-i.i in
    let hs = c.args.halves in
    let h = slice_index hs i in
    let f = λ (k : ℕ). polynomial_product 8 (k % 16) (slice_index hs (k / 16)) in
    let m : 16 * (i + 1) ≡ 16 * i + 16 = omega arith in
    let e = c.row.ensures in
    let w = IsWritten-chunk f c.loop-i.rows _ c.row.result (16 * i) (omega arith) (ap length e)
    (λ j l.
    let q : (16 * i + j) / 16 ≡ i = omega arith in
    let r : (16 * i + j) % 16 ≡ j = omega arith in
    ap (λ s. slice_index s j) e ∙ bytes_by-at 16 (λ x. polynomial_product 8 x h) j l
    ∙ sym (ap (λ (n : ℕ). polynomial_product 8 n (slice_index hs ((16 * i + j) / 16))) r ∙ ap (λ (n : ℕ). polynomial_product 8 j (slice_index hs n)) q)) c.loop-i.invariant in
    rw (c.put_row.ensures, m) w

pub invariant_of-result : goal.invariant_of-result
invariant_of-result c =
    let e : 16 * c.loop-i.i ≡ 256 = omega arith in
    record {
      fit = c.requires;
      entries = λ i j h l.
          let q : (16 * i + j) / 16 ≡ i = omega arith in
          let m : (16 * i + j) % 16 ≡ j = omega arith in
          c.loop-i.invariant.done (16 * i + j) (omega arith) ∙ ap (λ (n : ℕ). polynomial_product 8 n (slice_index c.args.halves ((16 * i + j) / 16))) m ∙ ap (λ (n : ℕ). polynomial_product 8 j (slice_index c.args.halves n)) q;
    }
