-- Causes that are kept, one exchange after the other.
use Rattle.std.proofs.Common.{◌≡◌, ◌⊎◌, ◌↔◌, inl, inr, ℕ, zero, suc, ◌+◌, ◌<◌, ◌≤◌, List, [], ◌∷◌, ◌++◌, length, slice_get, refl, sym, ◌∙◌, ap, subst, arith, Some, Bool, true, IsTrue, length-append}
use Rattle.std.proofs.lemmas.Bool.{cases_lt}
use Rattle.ssh_rules.specs.declared.link.Step.{Step}
use Rattle.ssh_record.proofs.Lemmas.{get_last}
use Rattle.ssh_judge.specs.Effects.{asks_side}
use Rattle.ssh_judge.specs.Tallies.{counted_in}
use Rattle.ssh_judge.specs.Standing.{HasOwnCause, HaveCausesFrom, KeepsCauses}
use Rattle.ssh_judge.specs.declared.side.SideFacts.{SideFacts}
use Rattle.ssh_judge.specs.declared.side.SideState.{SideState}
use Rattle.ssh_judge.specs.declared.tally.Tally.{Tally}

pub get_before : {A : Type 0} (xs : List A) (y : A) (i : ℕ) → i < length xs → slice_get (xs ++ y ∷ []) i ≡ slice_get xs i
get_before [] y i l = absurd (omega (arith, l))
get_before (x ∷ xs) y zero l = refl
get_before (x ∷ xs) y (suc i) l = get_before xs y i (omega (arith, l))

abbrev CauseBy : SideFacts → Tally → Tally → Step → ℕ → Type 0
CauseBy facts own theirs step k = (k ≡ 0) ⊎ (asks_side step facts.side ≡ true) ⊎ (facts.write_limit ≤ counted_in k own) ⊎ (facts.read_limit ≤ counted_in k theirs)

-- the causes that were kept up to this exchange
pub record SeenTo (step : Step) (half half' : SideState) (k : ℕ) : Type 0 where
  pub facts : half'.facts ≡ half.facts
  pub own : half'.own ≡ half.own
  pub theirs : half'.theirs ≡ half.theirs
  pub mark : half'.mark ≡ half.mark
  pub rekeyed : half'.rekeyed ≡ half.rekeyed
  pub from : length half.causes.items ≤ k
  pub many : length half'.causes.items ≡ k
  pub before : (m : ℕ) → m < length half.causes.items → slice_get half'.causes.items m ≡ slice_get half.causes.items m
  pub now : (m : ℕ) → length half.causes.items ≤ m → m < k → (slice_get half'.causes.items m ≡ Some true) ↔ HasOwnCause half step m

pub seen_none : (step : Step) (half : SideState) (k : ℕ) → k ≡ length half.causes.items → SeenTo step half half k
seen_none step half k e = record {
  facts = refl;
  own = refl;
  theirs = refl;
  mark = refl;
  rekeyed = refl;
  from = omega (arith, e);
  many = sym e;
  before = λ m l. refl;
  now = λ m a b. absurd (omega (arith, a, b, e));
}

true_is : (b : Bool) → Some b ≡ Some true → b ≡ true
true_is b e = cc

pub seen_more : (step : Step) (half mid new : SideState) (k : ℕ) (b : Bool) → SeenTo step half mid k → IsTrue b ↔ HasOwnCause mid step k → new.facts ≡ mid.facts → new.own ≡ mid.own → new.theirs ≡ mid.theirs → new.mark ≡ mid.mark → new.rekeyed ≡ mid.rekeyed → new.causes.items ≡ mid.causes.items ++ b ∷ [] → SeenTo step half new (k + 1)
seen_more step half mid new k b h is f o t m r c = record {
  facts = f ∙ h.facts;
  own = o ∙ h.own;
  theirs = t ∙ h.theirs;
  mark = m ∙ h.mark;
  rekeyed = r ∙ h.rekeyed;
  from = (let l = h.from in omega (arith, l));
  many = (let l = h.many in omega (arith, ap length c, length-append mid.causes.items (b ∷ []), l));
  before = λ n l. (let below : n < length mid.causes.items = (let x = h.from in let y = h.many in omega (arith, l, x, y)) in
      ap (λ xs. slice_get xs n) c ∙ (get_before mid.causes.items b n below ∙ h.before n l));
  now = λ n l u. elim (cases_lt n k) [
    | inl below ↦ (let less : n < length mid.causes.items = (let y = h.many in omega (arith, below, y)) in
        subst (λ z. (z ≡ Some true) ↔ HasOwnCause half step n) (sym (ap (λ xs. slice_get xs n) c ∙ get_before mid.causes.items b n less)) (h.now n l below))
    | inr past ↦ here n (omega (arith, past, u))
  ];
} where
  moved : IsTrue b ↔ HasOwnCause half step k
  moved = subst (λ x. IsTrue b ↔ CauseBy x half.own half.theirs step k) h.facts (subst (λ x. IsTrue b ↔ CauseBy mid.facts x half.theirs step k) h.own (subst (λ x. IsTrue b ↔ CauseBy mid.facts mid.own x step k) h.theirs is))

  at : slice_get new.causes.items k ≡ Some b
  at = ap (λ xs. slice_get xs k) c ∙ (ap (λ n. slice_get (mid.causes.items ++ b ∷ []) n) (sym h.many) ∙ get_last mid.causes.items b)

  here : (n : ℕ) → n ≡ k → (slice_get new.causes.items n ≡ Some true) ↔ HasOwnCause half step n
  here n e = subst (λ x. (slice_get new.causes.items x ≡ Some true) ↔ HasOwnCause half step x) (sym e) (λ g. moved.0 (true_is b (sym at ∙ g)), λ g. at ∙ ap Some (moved.1 g))

pub seen_all : (step : Step) (half new : SideState) (k : ℕ) → SeenTo step half new k → half.own.kexinits ≤ k → (length half.causes.items ≤ half.own.kexinits → k ≤ half.own.kexinits) → (half.own.kexinits ≤ length half.causes.items → k ≤ length half.causes.items) → KeepsCauses step half new
seen_all step half new k h l u v = record {
  facts = h.facts;
  own = h.own;
  theirs = h.theirs;
  mark = h.mark;
  rekeyed = h.rekeyed;
  before = h.before;
  now = λ m a b. h.now m a (omega (arith, b, l));
  many = (let x = h.from in let y = h.many in elim (cases_lt half.own.kexinits (length half.causes.items)) [
    | inl less ↦ (let z = v (omega (arith, less)) in omega (arith, x, y, l, z, less))
    | inr le ↦ (let z = u le in omega (arith, x, y, l, z, le))
  ]);
}

-- ---- causes of exchanges up to one

abbrev pub IsCausedAt : SideState → SideState → ℕ → Type 0
IsCausedAt half other k = (slice_get half.causes.items k ≡ Some true) ⊎ ((k < half.theirs.kexinits) × (slice_get other.causes.items k ≡ Some true))

abbrev pub AreCausedTo : SideState → SideState → ℕ → ℕ → Type 0
AreCausedTo half other from k = (m : ℕ) → from ≤ m → m < k → IsCausedAt half other m

pub caused_none : (half other : SideState) (from k : ℕ) → k ≡ from → AreCausedTo half other from k
caused_none half other from k e = λ m a b. absurd (omega (arith, a, b, e))

pub caused_more : (half other : SideState) (from k : ℕ) → AreCausedTo half other from k → IsCausedAt half other k → AreCausedTo half other from (k + 1)
caused_more half other from k h n = λ m a b. elim (cases_lt m k) [
  | inl below ↦ h m a below
  | inr past ↦ subst (λ x. IsCausedAt half other x) (let e : k ≡ m = omega (arith, past, b) in e) n
]

pub caused_all : (half other : SideState) (from k : ℕ) → AreCausedTo half other from k → half.own.kexinits ≤ k → HaveCausesFrom half other from
caused_all half other from k h l = λ m a b. h m a (omega (arith, b, l))
