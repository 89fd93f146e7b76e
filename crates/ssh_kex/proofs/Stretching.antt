-- A key that is stretched block by block, cut to what is needed.
use Rattle.std.proofs.Common.{◌≡◌, ℕ, ◌+◌, ◌-◌, ◌≤◌, List, [], ◌∷◌, ◌++◌, length, take, sym, ap, ◌∙◌, arith, zero, suc, length-take-le}
use Rattle.std.specs.Prelude.{min}
use Rattle.std.proofs.lemmas.List.{take_all}
use Rattle.ssh_kex.specs.declared.exchange.Keys.{Keys}

-- no more than there is
take_least : (need n : ℕ) (bytes : List ℕ) → n ≡ min need (length bytes) → take n bytes ≡ take need bytes
take_least need n [] e = take_all n [] (omega arith) ∙ sym (take_all need [] (omega arith))
take_least zero n (b ∷ bytes) e = let none : n ≡ 0 = omega (arith, e) in ap (λ k. take k (b ∷ bytes)) none
take_least (suc need) zero (b ∷ bytes) e = absurd (omega (arith, e))
take_least (suc need) (suc n) (b ∷ bytes) e = ap (λ x. b ∷ x) (take_least need n bytes (omega (arith, e)))

-- behind a whole front only so much is taken as is missing
taken_behind : (need n : ℕ) (front behind : List ℕ) → length front ≤ need → n ≡ min (need - length front) (length behind) → front ++ take n behind ≡ take need (front ++ behind)
taken_behind need n [] behind h e = take_least need n behind (omega (arith, e))
taken_behind zero n (b ∷ front) behind h e = absurd (omega (arith, h))
taken_behind (suc need) n (b ∷ front) behind h e = ap (λ x. b ∷ x) (taken_behind need n front behind (omega (arith, h)) (omega (arith, e)))

-- two pieces that were written one behind the other
pub appended_is : (need n : ℕ) (front behind one two : List ℕ) → length front ≤ need → n ≡ min (need - length front) (length behind)
    → take (0 + length front) one ≡ front → take (length front + length (take n behind)) two ≡ take (length front) one ++ take n behind
    → take (length front + n) two ≡ take need (front ++ behind)
appended_is need n front behind one two h e f g =
    let whole : length (take n behind) ≡ n = length-take-le n behind (omega (arith, e)) in
    let size : length front ≡ 0 + length front = omega arith in
    ap (λ k. take (length front + k) two) (sym whole)
    ∙ (g ∙ (ap (λ k. take k one ++ take n behind) size ∙ (ap (λ x. x ++ take n behind) f ∙ taken_behind need n front behind h e)))

-- six keys, each equal to another
pub same_keys : {a b c d e f a' b' c' d' e' f' : List ℕ} → a ≡ a' → b ≡ b' → c ≡ c' → d ≡ d' → e ≡ e' → f ≡ f'
    → ◌≡◌ {A = Keys} (record { iv_c2s = a; iv_s2c = b; key_c2s = c; key_s2c = d; mac_c2s = e; mac_s2c = f }) (record { iv_c2s = a'; iv_s2c = b'; key_c2s = c'; key_s2c = d'; mac_c2s = e'; mac_s2c = f' })
same_keys p q r s t u = cc
