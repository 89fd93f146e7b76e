-- What holds of each direction of a channel at every moment.
use Rattle.std.proofs.Common.{◌≡◌, ℕ, zero, suc, ◌+◌, ◌-◌, ◌≤◌, ◌<◌, ◌^◌, min, nat_le, nat_lt, ◌&&◌, ◌||◌, Bool, true, false, not, if◌then◌else◌, List, [], ◌∷◌, ◌++◌, length, map, take, drop, Option, Some, None, ◌⊎◌, inl, inr, refl, sym, ap, ◌∙◌, subst, append_assoc, append-nil, length-append, arith}
use Rattle.std.proofs.Math.Seq.{take-add}
use Rattle.std.proofs.lemmas.List.{length-take-le, take-append-le, take_all}
use Rattle.std.proofs.lemmas.Bool.{and_parts}
use Rattle.std.proofs.lemmas.Bool.Decides.{nat_tests}
use Rattle.ssh_channels.specs.Phases.{Message, Open, Confirmation, Failure, Adjust, Data, Eof, Close, Phase, Silent, Talking, Ended, Shut, Failed, behind, data_in, data_of, first, grant_of, grants_in, has_told, is_live, may_send, next, next_of, when_ended, while_talking}
use Rattle.ssh_channels.specs.Ends.{ArePieces, Call, CallClose, CallEof, Calls, End, IsTooMuch, Read, Receives, Sends, Write, all_gone, can_send, goes, has_ended, is_open, is_there, joined, taken, tells}
use Rattle.ssh_channels.proofs.Sending.{Each, IsSmall, IsTelling, Same, Sent, behind_more, behind_none, data_more, each_more, grants_more, sent_is}

-- what an end has told the other that it may send
abbrev pub told_by : End → ℕ
told_by e = if has_told e.said then e.window + e.told else 0

-- the largest packet that is known behind what was heard
abbrev pub known : Phase → ℕ → ℕ
known p most = if has_told p then most else 0

-- One direction, from s to r: what is on the way to r, and what is on the way back. `answers`: whether s answers the
-- opening.
pub record Way (answers : Bool) (s r : End) (sr rs : List Message) : Type 0 where
  pub bytes : r.received ++ data_in sr ≡ take s.gone s.written
  pub within : s.gone ≤ length s.written
  pub passed : s.gone ≤ s.granted
  pub grants : s.granted + grants_in rs ≡ told_by r
  pub phase : behind answers (Some r.heard) sr ≡ Some s.said
  pub small : Each (IsSmall r.most) sr
  pub telling : Each (IsTelling r.most) rs
  pub largest : s.largest ≡ known s.heard r.most
  pub told : r.told ≤ r.read
  pub read : r.read ≤ length r.received
  pub silent : has_told s.heard ≡ false → s.granted ≡ 0

-- what goes out stays within what may
goes_within : (e : End) → e.gone ≤ length e.written → goes e ≤ length e.written
goes_within e h = step (can_send e && nat_lt 0 e.largest) refl
  where
    step : (t : Bool) → (can_send e && nat_lt 0 e.largest) ≡ t → (if t then min (length e.written) e.granted else e.gone) ≤ length e.written
    step true q = omega arith
    step false q = h

goes_passed : (e : End) → e.gone ≤ e.granted → goes e ≤ e.granted
goes_passed e h = step (can_send e && nat_lt 0 e.largest) refl
  where
    step : (t : Bool) → (can_send e && nat_lt 0 e.largest) ≡ t → (if t then min (length e.written) e.granted else e.gone) ≤ e.granted
    step true q = omega arith
    step false q = h

goes_later : (e : End) → e.gone ≤ length e.written → e.gone ≤ e.granted → e.gone ≤ goes e
goes_later e h k = step (can_send e && nat_lt 0 e.largest) refl
  where
    step : (t : Bool) → (can_send e && nat_lt 0 e.largest) ≡ t → e.gone ≤ (if t then min (length e.written) e.granted else e.gone)
    step true q = omega arith
    step false q = omega arith

known_small : (p : Phase) (most : ℕ) → known p most ≤ most
known_small p most = step (has_told p)
  where
    step : (t : Bool) → (if t then most else 0) ≤ most
    step true = omega arith
    step false = omega arith

-- s sends
pub way_sends : (answers : Bool) (s r : End) (sr rs messages : List Message) (s' : End) → Way answers s r sr rs → Sends s messages s' → Way answers s' r (sr ++ messages) rs
way_sends answers s r sr rs messages s' w sends =
    let f = sent_is s messages s' sends in
    let later : s.gone ≤ goes s = goes_later s w.within w.passed in
    let sum : s.gone + (goes s - s.gone) ≡ goes s = omega arith in
    record {
      bytes = ap (λ l. r.received ++ l) (data_more sr messages)
          ∙ (sym (append_assoc r.received (data_in sr) (data_in messages))
          ∙ (ap (λ l. l ++ data_in messages) w.bytes
          ∙ (ap (λ l. take s.gone s.written ++ l) f.data_is
          ∙ (sym (take-add s.gone (goes s - s.gone) s.written)
          ∙ (ap (λ n. take n s.written) (sum ∙ sym f.gone) ∙ ap (take s'.gone) (sym f.same.written))))));
      within = (let a = goes_within s w.within in let b = f.gone in let c = ap length f.same.written in omega arith);
      passed = (let a = goes_passed s w.passed in let b = f.gone in let c = f.same.granted in omega arith);
      grants = ap (λ n. n + grants_in rs) f.same.granted ∙ w.grants;
      phase = behind_more answers (Some r.heard) sr messages ∙ (ap (λ p. behind answers p messages) w.phase ∙ f.said answers);
      small = each_more (IsSmall r.most) sr messages w.small (f.small r.most (let a = known_small s.heard r.most in let b = w.largest in omega arith));
      telling = w.telling;
      largest = f.same.largest ∙ (w.largest ∙ ap (λ p. known p r.most) (sym f.same.heard));
      told = w.told;
      read = w.read;
      silent = λ h. f.same.granted ∙ w.silent (ap has_told (sym f.same.heard) ∙ h);
    }

-- and r sends, on the way back
pub way_back : (answers : Bool) (s r : End) (sr rs messages : List Message) (r' : End) → Way answers s r sr rs → Sends r messages r' → Way answers s r' sr (rs ++ messages)
way_back answers s r sr rs messages r' w sends =
    let f = sent_is r messages r' sends in
    let same_told : told_by r' ≡ told_by r =
    ap (λ t. if t then r'.window + r'.told else 0) f.told ∙ (ap (λ n. if has_told r.said then n + r'.told else 0) f.same.window ∙ ap (λ n. if has_told r.said then r.window + n else 0) f.same.told) in
    record {
      bytes = ap (λ l. l ++ data_in sr) f.same.received ∙ w.bytes;
      within = w.within;
      passed = w.passed;
      grants = (let a = grants_more rs messages in let b = f.grants in let c = w.grants in let d = same_told in omega arith);
      phase = ap (λ p. behind answers (Some p) sr) f.same.heard ∙ w.phase;
      small = subst (λ n. Each (IsSmall n) sr) (sym f.same.most) w.small;
      telling = each_more (IsTelling r'.most) rs messages (subst (λ n. Each (IsTelling n) rs) (sym f.same.most) w.telling) (f.tells r'.most);
      largest = w.largest ∙ ap (known s.heard) (sym f.same.most);
      told = (let a = w.told in let b = f.same.told in let c = f.same.read in omega arith);
      read = (let a = w.read in let b = f.same.read in let c = ap length f.same.received in omega arith);
      silent = w.silent;
    }

-- the first message that is on the way is due
next_due : (answers : Bool) (p q : Phase) (m : Message) (rest : List Message) → behind answers (Some p) (m ∷ rest) ≡ Some q → (p' : Phase) × (next answers p m ≡ Some p') × (behind answers (Some p') rest ≡ Some q)
next_due answers p q m rest h = step (next answers p m) refl h
  where
    step : (o : Option Phase) → next answers p m ≡ o → behind answers o rest ≡ Some q → (p' : Phase) × (next answers p m ≡ Some p') × (behind answers (Some p') rest ≡ Some q)
    step None e k = let both : None ≡ Some q = sym (behind_none answers rest) ∙ k in cc
    step (Some p') e k = (p', e, k)

pub due : (answers : Bool) (s r : End) (m : Message) (rest rs : List Message) → Way answers s r (m ∷ rest) rs → (p' : Phase) × (next answers r.heard m ≡ Some p') × (behind answers (Some p') rest ≡ Some s.said)
due answers s r m rest rs w = next_due answers r.heard s.said m rest w.phase

-- s calls
pub writes : (answers : Bool) (s r : End) (sr rs : List Message) (bytes : List ℕ) → Way answers s r sr rs → Way answers (record s { written = s.written ++ bytes }) r sr rs
writes answers s r sr rs bytes w = record {
  bytes = w.bytes ∙ sym (take-append-le s.gone s.written bytes w.within);
  within = (let a = w.within in let b = length-append s.written bytes in omega arith);
  passed = w.passed;
  grants = w.grants;
  phase = w.phase;
  small = w.small;
  telling = w.telling;
  largest = w.largest;
  told = w.told;
  read = w.read;
  silent = w.silent;
}
