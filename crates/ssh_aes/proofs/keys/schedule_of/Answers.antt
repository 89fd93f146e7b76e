use Rattle.std.proofs.Common.{◌++◌, ◌≡◌, ◌+◌, ◌-◌, ◌*◌, ◌/◌, length, take, arith, rules, refl, sym, ap, ◌∙◌}
use Rattle.std.proofs.lemmas.Slice.{take-put_mid}
use borrow.Rule.Slice.PartMut.{same_len_mid}
use Rattle.ssh_aes.specs.Aes.{schedule}
use Rattle.ssh_aes.proofs.Schedules.{schedule-more, next_word-take, length-next_word, whole_words, bytes_of-same, expanded-made, some_words}
use Rattle.ssh_aes.proofs.keys.schedule_of.Goals as goal

pub loop-i-init : goal.loop-i-init
unfolding schedule
loop-i-init c =
    let e = whole_words (length c.args.key.now) c.requires in
    let z : length c.args.key.now / 4 - length c.args.key.now / 4 ≡ 0 = omega arith in
    record {
      len = search rules;
      made = rw (e, c.with_key_first-keys.ensures, z) (sym (bytes_of-same _ c.args.key.now (sym e) (λ k. omega (arith, c.type_inv.key k))));
    }

pub loop-i-preserved : goal.loop-i-preserved
loop-i-preserved c =
    let i = c.loop-i.i in
    let n = length c.args.key.now / 4 in
    let f = length-next_word n c.loop-i.keys i in
    let v = c.copy_from_slice.ensures.after ∙ c.word_after-word.ensures in
    let l : length c.copy_from_slice.new.self ≡ 4 = ap length v ∙ f in
    let e : 4 * (i + 1) ≡ 4 * i + length c.copy_from_slice.new.self = omega arith in
    let t = take-put_mid (4 * i) (4 * i + 4 - 4 * i) c.loop-i.keys c.copy_from_slice.new.self (4 * (i + 1)) e (omega arith) in
    let w = whole_words (length c.args.key.now) c.requires in
    let s = schedule-more n c.args.key.now i (take (4 * i) c.loop-i.keys) (omega arith) c.loop-i.invariant.made in
    let g = next_word-take n c.loop-i.keys i (omega (arith, some_words (length c.args.key.now) c.requires)) (omega arith) in
    record {
      len = same_len_mid (4 * i) (4 * i + 4 - 4 * i) c.loop-i.keys c.copy_from_slice.new.self c.copy_from_slice.ensures.len ∙ c.loop-i.invariant.len;
      made = t ∙ ap (λ x. take (4 * i) c.loop-i.keys ++ x) (v ∙ sym g) ∙ s;
    }

pub returns-clause-front : goal.returns-clause-front
returns-clause-front c =
    let e : c.loop-i.i ≡ 4 * (length c.args.key.now / 4 + 7) = omega arith in
    let p = expanded-made (length c.args.key.now) c.args.key.now c.loop-i.keys c.requires refl (λ k. omega (arith, c.type_inv.key k)) (rw e at c.loop-i.invariant.made) in
    p.0

pub returns-clause-whole : goal.returns-clause-whole
returns-clause-whole c =
    let e : c.loop-i.i ≡ 4 * (length c.args.key.now / 4 + 7) = omega arith in
    let p = expanded-made (length c.args.key.now) c.args.key.now c.loop-i.keys c.requires refl (λ k. omega (arith, c.type_inv.key k)) (rw e at c.loop-i.invariant.made) in
    p.1
