-- What a side selects, from what it finds.
use Rattle.std.proofs.Common.{◌≡◌, ℕ, List, [], ◌∷◌, map, Bool, true, false, ◌||◌, if◌then◌else◌, Option, Some, None, is_some, refl, sym, ap, ◌∙◌, Ok, Err, inl, inr}
use Rattle.std.specs.Prelude.{find}
use Rattle.std.specs.List.{list_any}
use Rattle.std.specs.Str.{bytes_eq}
use Rattle.ssh_wire.specs.declared.error.AlgorithmKind.{AlgorithmKind}
use Rattle.ssh_wire.specs.declared.error.Error.{Error}
use Rattle.ssh_wire.specs.declared.side.Side.{Side}
use Rattle.ssh_wire.specs.declared.side.Side.TheVariants.{Server}
use Rattle.ssh_negotiate.specs.Chosen.{◌>>=◌, or_err}
use Rattle.ssh_negotiate.specs.Reading.{NoCommon, AnswersReading, IsKindRefusal, common, own_with, same_first, select}
use Rattle.ssh_negotiate.proofs.Choices.{server_common, text_of_found}

pub some_selected : {A : Type 0} (text : A → List ℕ) (side : Side) (kind : AlgorithmKind) (own : List A) (peer : List (List ℕ)) (a : A) (flag : Bool) → Some a ≡ common text side own peer → flag ≡ same_first (map text own) peer → select text side kind own peer ≡ Ok (flag, a)
unfolding select or_err ◌>>=◌
some_selected text side kind own peer a flag found same =
    ap (λ o. or_err (NoCommon kind (map text own) peer) o >>= λ x. Ok (same_first (map text own) peer, x)) (sym found)
    ∙ ap (λ f. Ok (f, a)) (sym same)

none_selected : {A : Type 0} (text : A → List ℕ) (side : Side) (kind : AlgorithmKind) (own : List A) (peer : List (List ℕ)) → None ≡ common text side own peer → select text side kind own peer ≡ Err (NoCommon kind (map text own) peer)
unfolding select or_err ◌>>=◌
none_selected text side kind own peer found =
    ap (λ o. or_err (NoCommon kind (map text own) peer) o >>= λ x. Ok (same_first (map text own) peer, x)) (sym found)

pub refused_selected : {A : Type 0} (text : A → List ℕ) (side : Side) (kind : AlgorithmKind) (own : List A) (peer : List (List ℕ)) (error : Error) → None ≡ common text side own peer → IsKindRefusal kind (map text own) peer error → AnswersReading (select text side kind own peer) (Err error)
refused_selected text side kind own peer error found (inl memory) = inl memory
refused_selected text side kind own peer error found (inr answer) = inr (NoCommon kind (map text own) peer, none_selected text side kind own peer found, answer)

-- what a server finds by a name of the client's list
pub server_found : {A B : Type 0} (text : A → List ℕ) (other : B → List ℕ) (server : List A) (client : List B) (b : B) (r : Option A) → Some b ≡ find (λ c. list_any (λ a. bytes_eq (other c) (text a)) server) client → r ≡ find (λ a. bytes_eq (other b) (text a)) server → r ≡ common text Server server (map other client)
server_found text other server client b r found own =
    own ∙ (ap (λ o. own_with text server (text_of_found other o)) found ∙ sym (server_common text other server client))

pub server_none : {A B : Type 0} (text : A → List ℕ) (other : B → List ℕ) (server : List A) (client : List B) → None ≡ find (λ c. list_any (λ a. bytes_eq (other c) (text a)) server) client → None ≡ common text Server server (map other client)
server_none text other server client found =
    ap (λ o. own_with text server (text_of_found other o)) found ∙ sym (server_common text other server client)

-- ---- a server that goes through the names of the client's list

any_found : {A : Type 0} (p : A → Bool) (xs : List A) → list_any p xs ≡ is_some (find p xs)
any_found p [] = refl
any_found p (x ∷ xs) = step (p x) (any_found p xs) where
  step : (b : Bool) → list_any p xs ≡ is_some (find p xs) → (b || list_any p xs) ≡ is_some (if b then Some x else find p xs)
  step true h = refl
  step false h = h

module _ {A : Type 0} (text : A → List ℕ) (own : List A) (t : List ℕ) (more : List (List ℕ)) (found : Option A) (is : found ≡ find (λ a. bytes_eq t (text a)) own) where
  holds : (b : Bool) → is_some found ≡ b → list_any (λ a. bytes_eq t (text a)) own ≡ b
  holds b h = any_found (λ a. bytes_eq t (text a)) own ∙ (ap is_some (sym is) ∙ h)

  -- the first name is one of its own
  pub server_here : is_some found ≡ true → found ≡ common text Server own (t ∷ more)
  unfolding common
  server_here h = is ∙ sym (ap (λ b. own_with text own (if b then Some t else find (λ s. list_any (λ a. bytes_eq s (text a)) own) more)) (holds true h))

  -- the first name is none of its own
  pub server_past : is_some found ≡ false → common text Server own (t ∷ more) ≡ common text Server own more
  unfolding common
  server_past h = ap (λ b. own_with text own (if b then Some t else find (λ s. list_any (λ a. bytes_eq s (text a)) own) more)) (holds false h)

pub server_end : {A : Type 0} (text : A → List ℕ) (own : List A) → None ≡ common text Server own []
unfolding common
server_end text own = refl
