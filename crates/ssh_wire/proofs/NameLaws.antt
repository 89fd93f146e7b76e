-- Names taken from a text and joined again.
use Rattle.std.proofs.Common.{◌≡◌, ℕ, zero, suc, ◌+◌, ◌-◌, ◌&&◌, ◌<◌, ◌≤◌, Bool, true, false, nat_lt, nat_le, List, [], ◌∷◌, ◌++◌, length, take, drop, slice_index, get_or, Option, Some, None, Result, Ok, Err, ◌⊎◌, All, if◌then◌else◌, refl, sym, ap, ◌∙◌, inl, inr, append_assoc, arith}
use Rattle.std.specs.List.{slice_split, list_all, position_or_len}
use Rattle.std.specs.Prelude.{position}
use Rattle.std.specs.Str.{IsAscii, is_utf8}
use Rattle.std.proofs.lemmas.Bool.{and_parts, and_right}
use Rattle.std.proofs.lemmas.Bool.Decides.{nat_tests}
use Rattle.std.proofs.lemmas.Grind.{take_at_read}
use Rattle.std.proofs.lemmas.List.{length-append, get_or-append_right}
use Rattle.std.proofs.lemmas.List.Elements.{All-get_or, All-from_get_or, All-head, All-tail}
use Rattle.std.proofs.lemmas.List.Splits.{slice_split_first, slice_split_none, slice_split_at, join_with_byte-slice_split}
use Rattle.std.proofs.lemmas.List.Sums.{fails_before_first, list_all-from_AllPass}
use Rattle.std.proofs.lemmas.List.Folds.{list_all-append}
use Rattle.std.proofs.lemmas.Str.{IsUtf8-from_ascii, is_utf8-from_IsUtf8}
use Rattle.std.proofs.lemmas.Str.Ascii.{IsAscii-nil, IsAscii-cons}
use Rattle.ssh_wire.specs.Forms.{AreBytes, joined_names, string, name_list}
use Rattle.ssh_wire.specs.Fields.{◌>>=◌, limited_at, answer_of, Gives, IsMadeInMemory}
use Rattle.ssh_wire.specs.Names.{is_comma, is_name, fault_of, or_later, first_fault, unless_faulty, names_or_fault, names_of, without_last_comma, names_at, name_limit, name_list_limit, IsName, AreNames}
use Rattle.ssh_wire.specs.Naming.{behind_comma, Spelled}
use Rattle.ssh_wire.proofs.FieldLaws.{bind_ok, same_pair, limited_takes, limited_again}
use Rattle.ssh_wire.specs.declared.error.EncodingFault.{EncodingFault}
use Rattle.ssh_wire.specs.declared.error.Error.{Error}
use Rattle.ssh_wire.specs.declared.error.Error.TheVariants.{Memory}

joined_snoc : (x y : List ℕ) (xs : List (List ℕ)) → joined_names ((x ∷ xs) ++ y ∷ []) ≡ joined_names (x ∷ xs) ++ 44 ∷ y
joined_snoc x y [] = refl
joined_snoc x y (z ∷ xs) = ap (λ l. x ++ 44 ∷ l) (joined_snoc z y xs) ∙ sym (append_assoc x (44 ∷ joined_names (z ∷ xs)) (44 ∷ y))

-- one name more
pub joined_more : (xs : List (List ℕ)) (i : ℕ) (d : List ℕ) → i < length xs → joined_names (take (i + 1) xs) ≡ joined_names (take i xs) ++ behind_comma (nat_lt 0 i) (get_or xs i d)
joined_more [] i d h = absurd (omega arith)
joined_more (x ∷ xs) zero d h = refl
joined_more (x ∷ xs) (suc j) d h =
    let behind : nat_lt 0 (suc j) ≡ true = grind (arith, nat_tests) in
    ap joined_names (take_at_read (x ∷ xs) (suc j) d h).1
    ∙ (joined_snoc x (get_or (x ∷ xs) (suc j) d) (take j xs)
    ∙ ap (λ t. joined_names (x ∷ take j xs) ++ behind_comma t (get_or (x ∷ xs) (suc j) d)) (sym behind))

-- a name behind those that were joined
pub joined_text : (xs : List (List ℕ)) (i : ℕ) (d name front old new : List ℕ) → i < length xs → name ≡ get_or xs i d → old ≡ front ++ joined_names (take i xs) → new ≡ old ++ behind_comma (nat_lt 0 i) name → new ≡ front ++ joined_names (take (i + 1) xs)
joined_text xs i d name front old new h n o e =
    e ∙ (ap (λ l. l ++ behind_comma (nat_lt 0 i) name) o
    ∙ (append_assoc front (joined_names (take i xs)) (behind_comma (nat_lt 0 i) name)
    ∙ ap (λ l. front ++ l) (ap (λ m. joined_names (take i xs) ++ behind_comma (nat_lt 0 i) m) n ∙ sym (joined_more xs i d h))))

pub joined_size : (xs : List (List ℕ)) (i : ℕ) (d name : List ℕ) (size more : ℕ) → i < length xs → name ≡ get_or xs i d → size ≡ length (joined_names (take i xs)) → more ≡ length (behind_comma (nat_lt 0 i) name) → size + more ≡ length (joined_names (take (i + 1) xs))
joined_size xs i d name size more h n s m =
    let shown : joined_names (take i xs) ++ behind_comma (nat_lt 0 i) name ≡ joined_names (take (i + 1) xs) = ap (λ x. joined_names (take i xs) ++ behind_comma (nat_lt 0 i) x) n ∙ sym (joined_more xs i d h) in
    let sum : length (joined_names (take i xs)) + length (behind_comma (nat_lt 0 i) name) ≡ length (joined_names (take (i + 1) xs)) = sym (length-append (joined_names (take i xs)) (behind_comma (nat_lt 0 i) name)) ∙ ap length shown in
    omega arith

take_nothing : (i : ℕ) → take {A = List ℕ} i [] ≡ []
take_nothing zero = refl
take_nothing (suc i) = refl

-- fewer names are no longer
pub joined_front : (xs : List (List ℕ)) (i : ℕ) → length (joined_names (take i xs)) ≤ length (joined_names xs)
joined_front xs zero = omega arith
joined_front [] (suc i) = omega arith
joined_front (x ∷ []) (suc i) = rw (take_nothing i) (omega arith)
joined_front (x ∷ y ∷ xs) (suc zero) = omega (arith, length-append x (44 ∷ joined_names (y ∷ xs)))
joined_front (x ∷ y ∷ xs) (suc (suc i)) =
    let behind = joined_front (y ∷ xs) (suc i) in
    omega (arith, length-append x (44 ∷ joined_names (y ∷ take i xs)), length-append x (44 ∷ joined_names (y ∷ xs)))

-- the parts of a text, from its first comma
first_none : (text : List ℕ) → length text ≤ position_or_len is_comma text → slice_split is_comma text ≡ text ∷ []
first_none text h =
    slice_split_none is_comma text (All-from_get_or (λ b. is_comma b ≡ false) text 0 (λ i small. fails_before_first is_comma text i 0 (omega arith)))

pub split_at_comma : (text : List ℕ) (at : ℕ) → position is_comma text ≡ Some at → slice_split is_comma text ≡ take at text ∷ slice_split is_comma (drop (at + 1) text)
split_at_comma text at h = step (nat_lt (position_or_len is_comma text) (length text)) refl h
  where
    step : (t : Bool) → nat_lt (position_or_len is_comma text) (length text) ≡ t → (if t then Some (position_or_len is_comma text) else None) ≡ Some at → slice_split is_comma text ≡ take at text ∷ slice_split is_comma (drop (at + 1) text)
    step false e q = cc
    step true e q =
        let same : position_or_len is_comma text ≡ at = cc in
        let within : position_or_len is_comma text < length text = grind (arith, nat_tests) in
        slice_split_first is_comma text 0 within ∙ ap (λ n. take n text ∷ slice_split is_comma (drop (n + 1) text)) same

pub split_no_comma : (text : List ℕ) → position is_comma text ≡ None → slice_split is_comma text ≡ text ∷ []
split_no_comma text h = step (nat_lt (position_or_len is_comma text) (length text)) refl h
  where
    step : (t : Bool) → nat_lt (position_or_len is_comma text) (length text) ≡ t → (if t then Some (position_or_len is_comma text) else None) ≡ None → slice_split is_comma text ≡ text ∷ []
    step true e q = cc
    step false e q = first_none text (grind (arith, nat_tests))

-- a name is UTF-8
ascii_from_all : (bytes : List ℕ) → list_all (λ b. nat_lt b 128) bytes ≡ true → IsAscii bytes
ascii_from_all [] h = IsAscii-nil
ascii_from_all (b ∷ bytes) h = step (nat_lt b 128) refl (ascii_from_all bytes) h
  where
    step : (t : Bool) → nat_lt b 128 ≡ t → (list_all (λ b. nat_lt b 128) bytes ≡ true → IsAscii bytes) → (t && list_all (λ b. nat_lt b 128) bytes) ≡ true → IsAscii (b ∷ bytes)
    step false e more q = cc
    step true e more q = IsAscii-cons b bytes (grind (arith, nat_tests)) (more q)

pub name_utf8 : (name : List ℕ) → is_name name ≡ true → is_utf8 name ≡ true
name_utf8 name h =
    let both = and_parts (nat_lt 0 (length name)) (list_all (λ b. nat_lt b 128) name) h in
    is_utf8-from_IsUtf8 name (IsUtf8-from_ascii name (ascii_from_all name both.1))

pub names_of_some : (text : List ℕ) → 0 < length text → names_of text ≡ names_or_fault (slice_split is_comma (without_last_comma text))
names_of_some [] h = absurd (omega arith)
names_of_some (b ∷ text) h = refl

-- names that were joined
no_last_comma : (text : List ℕ) → is_comma (slice_index text (length text - 1)) ≡ false → without_last_comma text ≡ text
no_last_comma text h = ap (λ t. if t then take (length text - 1) text else text) (and_right (nat_lt 1 (length text)) (is_comma (slice_index text (length text - 1))) h)

joined_some : (name : List ℕ) (names : List (List ℕ)) → 0 < length name → 0 < length (joined_names (name ∷ names))
joined_some name [] h = h
joined_some name (y ∷ names) h = omega (arith, length-append name (44 ∷ joined_names (y ∷ names)))

ends_clear : (name : List ℕ) (names : List (List ℕ)) → All IsName (name ∷ names) → is_comma (slice_index (joined_names (name ∷ names)) (length (joined_names (name ∷ names)) - 1)) ≡ false
ends_clear name [] each =
    let is : IsName name = All-head IsName name [] each in
    let some : 0 < length name = is.some in
    All-get_or (λ b. is_comma b ≡ false) name (length name - 1) 0 (omega arith) is.no_comma
ends_clear name (y ∷ names) each =
    let tail : All IsName (y ∷ names) = All-tail IsName name (y ∷ names) each in
    let is : IsName y = All-head IsName y names tail in
    let some : 0 < length (joined_names (y ∷ names)) = joined_some y names is.some in
    let size : length (name ++ 44 ∷ joined_names (y ∷ names)) - 1 ≡ length name + length (joined_names (y ∷ names)) = omega (arith, length-append name (44 ∷ joined_names (y ∷ names))) in
    let at : get_or (name ++ 44 ∷ joined_names (y ∷ names)) (length name + length (joined_names (y ∷ names))) 0 ≡ get_or (44 ∷ joined_names (y ∷ names)) (length name + length (joined_names (y ∷ names)) - length name) 0 = get_or-append_right name (44 ∷ joined_names (y ∷ names)) (length name) _ 0 refl (omega arith) in
    let place : length name + length (joined_names (y ∷ names)) - length name ≡ suc (length (joined_names (y ∷ names)) - 1) = omega arith in
    ap (λ n. is_comma (get_or (name ++ 44 ∷ joined_names (y ∷ names)) n 0)) size
    ∙ (ap is_comma at ∙ (ap (λ n. is_comma (get_or (44 ∷ joined_names (y ∷ names)) n 0)) place ∙ ends_clear y names tail))

split_joined : (name : List ℕ) (names : List (List ℕ)) → All IsName (name ∷ names) → slice_split is_comma (joined_names (name ∷ names)) ≡ name ∷ names
split_joined name [] each = let is : IsName name = All-head IsName name [] each in slice_split_none is_comma name is.no_comma
split_joined name (y ∷ names) each =
    let is : IsName name = All-head IsName name (y ∷ names) each in
    slice_split_at is_comma name 44 (joined_names (y ∷ names)) is.no_comma refl ∙ ap (λ l. name ∷ l) (split_joined y names (All-tail IsName name (y ∷ names) each))

name_passes : (before : ℕ) (name : List ℕ) → IsName name → before < name_limit → fault_of before name ≡ None
name_passes before name is below =
    let some : 0 < length name = is.some in
    let first : nat_lt 0 (length name) ≡ true = grind (arith, nat_tests) in
    let ascii : list_all (λ b. nat_lt b 128) name ≡ true = list_all-from_AllPass (λ b. nat_lt b 128) name is.ascii in
    let within : nat_le name_limit before ≡ false = grind (arith, nat_tests) in
    rw (first, ascii, within) refl

no_faults : (before : ℕ) (names : List (List ℕ)) → All IsName names → before + length names ≤ name_limit → first_fault before names ≡ None
no_faults before [] each fits = refl
no_faults before (name ∷ names) each fits =
    ap (λ f. or_later f (first_fault (before + 1) names)) (name_passes before name (All-head IsName name names each) (omega arith))
    ∙ no_faults (before + 1) names (All-tail IsName name names each) (omega arith)

pub joined_read : (names : List (List ℕ)) → AreNames names → names_of (joined_names names) ≡ Ok names
joined_read [] are = refl
joined_read (name ∷ names) are =
    let is : IsName name = All-head IsName name names are.each in
    let none : first_fault 0 (name ∷ names) ≡ None = no_faults 0 (name ∷ names) are.each (let most = are.count in omega arith) in
    names_of_some (joined_names (name ∷ names)) (joined_some name names is.some)
    ∙ (ap (λ t. names_or_fault (slice_split is_comma t)) (no_last_comma (joined_names (name ∷ names)) (ends_clear name names are.each))
    ∙ (ap names_or_fault (split_joined name names are.each)
    ∙ ap (λ f. unless_faulty f (name ∷ names)) none))

-- what was read is spelled so
checked_is : (all names : List (List ℕ)) (f : Option EncodingFault) → unless_faulty f all ≡ Ok names → all ≡ names
checked_is all names None h = cc
checked_is all names (Some f) h = cc

pub read_spelled : (text : List ℕ) (names : List (List ℕ)) → names_of text ≡ Ok names → joined_names names ≡ without_last_comma text
read_spelled [] [] h = refl
read_spelled [] (n ∷ names) h = cc
read_spelled (b ∷ text) names h =
    let same : slice_split is_comma (without_last_comma (b ∷ text)) ≡ names = checked_is _ names (first_fault 0 (slice_split is_comma (without_last_comma (b ∷ text)))) h in
    ap joined_names (sym same) ∙ join_with_byte-slice_split 44 (without_last_comma (b ∷ text))

pub only_memory : {Y : Type 0} (read : Result Y EncodingFault) (e : Error) (y : Y) → ((e ≡ Memory) ⊎ (answer_of read ≡ Err e)) → read ≡ Ok y → e ≡ Memory
only_memory read e y h k = elim h [
  | inl m ↦ m
  | inr q ↦ absurd (differ y e (sym (ap answer_of k) ∙ q))
]
  where
    differ : {A B : Type 0} (y : A) (d : B) → Ok y ≡ Err d → ⊥
    differ y d q = cc

pub made_again : {X Y : Type 0} (view : X → Y) (read : Result Y EncodingFault) (r : Result X Error) (y : Y) → Gives view read r → read ≡ Ok y → IsMadeInMemory view y r
made_again view read (Ok x) y h e = let same : Ok (view x) ≡ Ok y = sym h ∙ e in cc
made_again view read (Err d) y h e = only_memory read d y h e

-- names that were joined are ASCII
joined_ascii : (names : List (List ℕ)) → All IsName names → list_all (λ b. nat_lt b 128) (joined_names names) ≡ true
joined_ascii [] each = refl
joined_ascii (name ∷ []) each =
    let is : IsName name = All-head IsName name [] each in
    list_all-from_AllPass (λ b. nat_lt b 128) name is.ascii
joined_ascii (name ∷ y ∷ names) each =
    let is : IsName name = All-head IsName name (y ∷ names) each in
    let first = list_all-from_AllPass (λ b. nat_lt b 128) name is.ascii in
    let behind = joined_ascii (y ∷ names) (All-tail IsName name (y ∷ names) each) in
    list_all-append (λ b. nat_lt b 128) name (44 ∷ joined_names (y ∷ names)) ∙ rw (first, behind) refl

-- names that were joined are UTF-8
pub joined_utf8 : (names : List (List ℕ)) → AreNames names → is_utf8 (joined_names names) ≡ true
joined_utf8 names are = is_utf8-from_IsUtf8 (joined_names names) (IsUtf8-from_ascii (joined_names names) (ascii_from_all (joined_names names) (joined_ascii names are.each)))

-- the list at the front of bytes
pub names_again : (names : List (List ℕ)) (rest : List ℕ) → AreNames names → length (joined_names names) ≤ name_list_limit → names_at (name_list names ++ rest) ≡ Ok (names, rest)
unfolding names_at
names_again names rest are short =
    ap (λ r. r >>= (λ text. names_of text.0 >>= (λ l. Ok (l, text.1)))) (limited_again name_list_limit (joined_names names) rest (omega arith) short (joined_utf8 names are))
    ∙ ap (λ r. r >>= (λ l. Ok (l, rest))) (joined_read names are)

pub names_taken : (bytes rest : List ℕ) (names : List (List ℕ)) → AreBytes bytes → names_at bytes ≡ Ok (names, rest) → Spelled names bytes rest
unfolding names_at
names_taken bytes rest names fit h =
    let a = bind_ok (limited_at name_list_limit bytes) (λ text. names_of text.0 >>= (λ l. Ok (l, text.1))) (names, rest) h in
    let b = bind_ok (names_of (a.0).0) (λ l. Ok (l, (a.0).1)) (names, rest) a.2 in
    let pair = same_pair (b.0, (a.0).1) (names, rest) (Ok (b.0, (a.0).1)) refl b.2 in
    let list : b.0 ≡ names = ap (λ p. p.0) pair in
    let behind : (a.0).1 ≡ rest = ap (λ p. p.1) pair in
    let taken = limited_takes name_list_limit bytes (a.0).0 (a.0).1 fit a.1 in
    let read : names_of (a.0).0 ≡ Ok names = b.1 ∙ ap (λ l. Ok l) list in
    ((a.0).0, (taken.0).0 ∙ ap (λ r. string (a.0).0 ++ r) behind, read, read_spelled (a.0).0 names read)
