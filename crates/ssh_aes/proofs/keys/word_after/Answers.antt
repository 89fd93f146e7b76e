use Rattle.std.proofs.Common.{◌≡◌, ◌≢◌, ◌-◌, ◌/◌, ◌%◌, refl}
use Rattle.std.proofs.Math.Nat.{add-zero}
use Rattle.ssh_aes.proofs.Entries.{constants_is}
use Rattle.ssh_aes.proofs.Schedules.{next_word-first, next_word-middle, next_word-plain, constant_index}
use Rattle.ssh_aes.proofs.keys.word_after.Goals as goal
use Rattle.ssh_aes.proofs.keys.word_after.Goals.{else-words-eq8-via-then-words-eq8+else-i-eq4, else-words-eq8-via-else-words-eq8}

pub returns-then-i-words-eq0 : goal.returns-then-i-words-eq0
returns-then-i-words-eq0 c =
    let e = next_word-first c.args.words c.args.keys.now c.args.i c.if-i-words-eq0.true in
    let k = constants_is (c.args.i / c.args.words - 1) (constant_index c.args.words c.args.i c.requires.words c.requires.high) in
    rw (c.sum_with_word.ensures, e, c.substituted.ensures) (simp (add-zero, k) refl)

pub returns-then-i-eq4 : goal.returns-then-i-eq4
returns-then-i-eq4 c =
    let e = next_word-middle c.args.words c.args.keys.now c.args.i c.if-i-words-eq0.false c.if-words-eq8.true c.if-i-eq4.true in
    rw (c.sum_with_word-then-i-eq4.ensures, e, c.substituted-then-i-eq4.ensures) (simp add-zero refl)

pub returns : goal.returns
returns c =
    let other : c.args.words ≡ 8 → c.args.i % 8 ≢ 4 = elim c.else-words-eq8.branch [
      | else-words-eq8-via-then-words-eq8+else-i-eq4 w ↦ λ h. w.if-i-eq4.false
      | else-words-eq8-via-else-words-eq8 w ↦ λ h. absurd (w.if-words-eq8.false h)
    ] in
    let e = next_word-plain c.args.words c.args.keys.now c.args.i c.if-i-words-eq0.false other in
    rw (c.sum_with_word-2.ensures, e) (simp add-zero refl)
