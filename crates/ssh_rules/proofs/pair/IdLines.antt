-- An id line that an honest peer sends is read as its text, wherever it is cut.
use Rattle.std.proofs.Common.{◌≡◌, ℕ, zero, suc, ◌+◌, ◌<◌, List, [], ◌∷◌, ◌++◌, length, take, drop, refl, sym, ◌∙◌, ap, arith, Option, Some, None, Bool, true, false, if◌then◌else◌, nat_lt, ◌⊎◌, inl, inr}
use Rattle.ssh_wire.proofs.Lemmas.{id_stays, less_than_a_line}
use Rattle.ssh_wire.specs.Lines as lines
use Rattle.ssh_wire.specs.Lines.{IdFound, NotYet, Id, Version, Unfinished, IdLine, OtherLine, TooLong, found_behind, found_by_line, id_of, is_id_text, line_end, line_of, line_text, line_to, longest_line}
use Rattle.ssh_wire.specs.Reading.{Waiting, by_end, reading_left}
use Rattle.ssh_rules.specs.Wire.{HasFront}

-- ---- other lines that may come make no difference at an id line

by_id : (other other' : ℕ → IdFound) (line : lines.Line) (text : List ℕ) (end : ℕ) → ((n : ℕ) → other n ≡ Version) → found_by_line other line ≡ Id text end → found_by_line other' line ≡ Id text end
by_id other other' Unfinished text end v h = cc
by_id other other' (IdLine x n) text end v h = h
by_id other other' (OtherLine n) text end v h = absurd (let g : Version ≡ Id text end = sym (v n) ∙ h in cc)
by_id other other' TooLong text end v h = cc

by_none : (other other' : ℕ → IdFound) (line : lines.Line) → ((n : ℕ) → other n ≡ Version) → found_by_line other line ≡ NotYet → found_by_line other' line ≡ NotYet
by_none other other' Unfinished v h = refl
by_none other other' (IdLine x n) v h = cc
by_none other other' (OtherLine n) v h = absurd (let g : Version ≡ NotYet = sym (v n) ∙ h in cc)
by_none other other' TooLong v h = cc

pub any_id : (others : ℕ) (bytes text : List ℕ) (end : ℕ) → id_of 0 bytes ≡ Id text end → id_of others bytes ≡ Id text end
any_id zero bytes text end h = h
any_id (suc others) bytes text end h = by_id (λ n. Version) (λ n. found_behind n (id_of others (drop n bytes))) (line_of bytes) text end (λ n. refl) h

pub any_none : (others : ℕ) (bytes : List ℕ) → id_of 0 bytes ≡ NotYet → id_of others bytes ≡ NotYet
any_none zero bytes h = h
any_none (suc others) bytes h = by_none (λ n. Version) (λ n. found_behind n (id_of others (drop n bytes))) (line_of bytes) (λ n. refl) h

no_end : (bytes : List ℕ) (end : Option ℕ) → found_by_line (λ n. Version) (line_to bytes end) ≡ NotYet → end ≡ None
no_end bytes None h = refl
no_end bytes (Some n) h = absurd (step (nat_lt longest_line n) (is_id_text (line_text (take n bytes))) h) where
  step : (t u : Bool) → found_by_line (λ m. Version) (if t then TooLong else if u then IdLine (line_text (take n bytes)) n else OtherLine n) ≡ NotYet → ⊥
  step true u h = cc
  step false true h = cc
  step false false h = cc

-- what is left of such bytes waits whole
pub all_left : (others : ℕ) (bytes : List ℕ) (n : ℕ) → id_of 0 bytes ≡ NotYet → reading_left others bytes n ≡ Waiting bytes n
all_left zero bytes n h = refl
all_left (suc others) bytes n h = ap (by_end (Waiting bytes n) (λ k. reading_left others (drop k bytes) (n + 1))) (no_end bytes (line_end bytes) h)

-- bytes that are a front of a line and more are a part of the line, or the line and a front of what is behind
pub record InLine (line bytes : List ℕ) : Type 0 where
  pub few : length bytes < length line
  pub part : bytes ≡ take (length bytes) line

pub record BehindLine (line sent bytes : List ℕ) : Type 0 where
  pub rest : List ℕ
  pub whole : bytes ≡ line ++ rest
  pub front : HasFront sent rest

head_one : (x y : ℕ) (a b : List ℕ) → x ∷ a ≡ y ∷ b → (x ≡ y) × (a ≡ b)
head_one x y a b e = (let p : x ≡ y = cc in p, let q : a ≡ b = cc in q)

cons_nil : (x : ℕ) (a : List ℕ) → x ∷ a ≡ [] → ⊥
cons_nil x a e = cc

pub cut_line : (line sent bytes more : List ℕ) → bytes ++ more ≡ line ++ sent → InLine line bytes ⊎ BehindLine line sent bytes
cut_line [] sent bytes more e = inr (record { rest = bytes; whole = refl; front = (more, e) })
cut_line (x ∷ line) sent [] more e = inl (record { few = omega arith; part = refl })
cut_line (x ∷ line) sent (y ∷ bytes) more e =
    let h = head_one y x (bytes ++ more) (line ++ sent) e in
    elim (cut_line line sent bytes more h.1) [
      | inl p ↦ inl (record { few = (let f = p.few in omega (arith, f)); part = ap (λ q. q ∷ bytes) h.0 ∙ ap (λ q. x ∷ q) p.part })
      | inr p ↦ inr (record { rest = p.rest; whole = ap (λ q. q ∷ bytes) h.0 ∙ ap (λ q. x ∷ q) p.whole; front = p.front })
    ]

-- ---- what is read of them

-- a part of an id line is not yet one
pub part_is_none : (line text bytes : List ℕ) (others : ℕ) → id_of 0 line ≡ Id text (length line) → InLine line bytes → id_of others bytes ≡ NotYet
part_is_none line text bytes others h p = any_none others bytes (ap (id_of 0) p.part ∙ less_than_a_line line text (length bytes) h p.few)

-- the line with what is behind it is one
pub whole_is_id : (line text sent bytes : List ℕ) (others : ℕ) → id_of 0 line ≡ Id text (length line) → (p : BehindLine line sent bytes) → id_of others bytes ≡ Id text (length line)
whole_is_id line text sent bytes others h p = any_id others bytes text (length line) (ap (id_of 0) p.whole ∙ id_stays line p.rest text (length line) h)

pub drop_line : (line rest : List ℕ) → drop (length line) (line ++ rest) ≡ rest
drop_line [] rest = refl
drop_line (x ∷ line) rest = drop_line line rest
