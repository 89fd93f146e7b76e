-- The first line of a key's file, and its words.
use Rattle.std.proofs.Common.{inl, inr, ◌≡◌, ◌⊎◌, ℕ, List, [], ◌∷◌, Option, Some, None, MatchOption, Result, Ok, Err, IfErr, Bor, codes, sym, ap, subst, ◌∙◌}
use Rattle.ssh_wire.specs.declared.error.Error.{Error}
use Rattle.ssh_wire.specs.declared.error.Error.TheVariants.{Memory}
use Rattle.ssh_lines.specs.Lines.{pieces, words_of}
use Rattle.ssh_modp.specs.KeyFiles.{NamesNone, base64_bytes}

-- the first line of a text, and those behind it
pub first_line : (text line : List ℕ) (o : Option (Bor (List ℕ))) → MatchOption o (pieces 10 text ≡ line ∷ []) (λ rest. pieces 10 text ≡ line ∷ pieces 10 rest.now) → (lines : List (List ℕ)) × (pieces 10 text ≡ line ∷ lines)
first_line text line None h = ([], h)
first_line text line (Some rest) h = (pieces 10 rest.now, h)

-- its words, by one word after the other
pub three_words : (words left rest : List (List ℕ)) (line kind first key : List ℕ) → words ≡ words_of line → words ≡ kind ∷ left → kind ≡ first → left ≡ key ∷ rest → words_of line ≡ first ∷ key ∷ rest
three_words words left rest line kind first key of one is two = sym of ∙ (one ∙ (ap (λ k. k ∷ left) is ∙ ap (λ l. first ∷ l) two))

-- ---- a line whose second word isn't base64 names no host

abbrev first_piece : List (List ℕ) → List ℕ
first_piece [] = []
first_piece (piece ∷ pieces) = piece

abbrev second_piece : List (List ℕ) → List ℕ
second_piece [] = []
second_piece (piece ∷ pieces) = first_piece pieces

abbrev IsNothing : Option (List ℕ) → Type 0
IsNothing None = Unit {0}
IsNothing (Some bytes) = ⊥

pub no_host : (text line key : List ℕ) (lines comment : List (List ℕ)) → pieces 10 text ≡ line ∷ lines → words_of line ≡ codes "ssh-rsa" ∷ key ∷ comment → base64_bytes key ≡ None → NamesNone text
no_host text line key lines comment cut words none = λ blob host.
    let same_line = ap first_piece (sym cut ∙ host.text_is) in
    let same_key = ap second_piece (sym words ∙ (ap words_of same_line ∙ host.words_are)) in
    subst IsNothing (sym none ∙ (ap base64_bytes same_key ∙ host.key_is)) tt

on_second : {P Q R : Type 0} → (Q → R) → (P ⊎ Q) → (P ⊎ R)
on_second f (inl p) = inl p
on_second f (inr q) = inr (f q)

pub no_host_or_memory : {A : Type 0} (r : Result A Error) (text key : List ℕ) → (base64_bytes key ≡ None → NamesNone text) → IfErr r (λ e. (e ≡ Memory) ⊎ (base64_bytes key ≡ None)) → IfErr r (λ e. (e ≡ Memory) ⊎ NamesNone text)
no_host_or_memory (Ok x) text key none h = tt
no_host_or_memory (Err e) text key none h = on_second none h
