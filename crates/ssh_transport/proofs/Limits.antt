-- Memory that is wanting where nothing is held.
use Rattle.std.proofs.Common.{◌≡◌, ℕ, ◌≤◌, ◌||◌, Bool, true, false, nat_le, List, [], ◌∷◌, ◌++◌, Result, Ok, Err, OnErr, sym, ap, ◌∙◌, subst, arith, ◌⊎◌, inl, inr}
use Rattle.std.proofs.lemmas.Bool.Decides.{nat_tests}
use Rattle.ssh_wire.specs.declared.error.Error.{Error}
use Rattle.ssh_rules.specs.Machine.{Outside}
use Rattle.ssh_transport.specs.Saying.{IsUnsaid}
use Rattle.ssh_transport.specs.States.{stands_of}
use Rattle.ssh_transport.specs.Stopping.{WantsKeys}
use Rattle.ssh_transport.specs.declared.session.Session.{Session}

-- nothing is held that could be taken
abbrev pub HoldsNoneOutside : Session → Type 0
HoldsNoneOutside s = stands_of s.finished.items s.kex ≡ Outside → s.held.items ≡ []

reached_by : (a b : Bool) (m n k l : ℕ) → a ≡ nat_le m n → b ≡ nat_le k l → (a || b) ≡ true → (m ≤ n) ⊎ (k ≤ l)
reached_by true b m n k l e f h = inl (grind (arith, nat_tests))
reached_by false true m n k l e f h = inr (grind (arith, nat_tests))
reached_by false false m n k l e f h = cc

reached : (s : Session) (read : ℕ) (limit : Bool) → limit ≡
    (nat_le s.config.now.limits.rekey_write_limit s.writer.count || nat_le s.config.now.limits.rekey_read_limit read)
    → limit ≡ true → (s.config.now.limits.rekey_write_limit ≤ s.writer.count)
    ⊎ (s.config.now.limits.rekey_read_limit ≤ read)
reached s read limit e t = reached_by (nat_le s.config.now.limits.rekey_write_limit s.writer.count)
    (nat_le s.config.now.limits.rekey_read_limit read) s.config.now.limits.rekey_write_limit s.writer.count
    s.config.now.limits.rekey_read_limit read Rattle.std.proofs.Common.refl Rattle.std.proofs.Common.refl (sym e ∙ t)

pub wants_keys : (s mid s' : Session) (read : ℕ) (answer : Result (Unit {0}) Error) (limit : Bool)
    → (HoldsNoneOutside s → mid ≡ s) → stands_of mid.finished.items mid.kex ≡ Outside
    → limit ≡ (nat_le mid.config.now.limits.rekey_write_limit mid.writer.count || nat_le
    mid.config.now.limits.rekey_read_limit read) → limit ≡ true → OnErr answer (IsUnsaid mid s') → HoldsNoneOutside s
    → OnErr answer (WantsKeys s read s')
wants_keys s mid s' read (Ok u) limit same out e t h n = tt
wants_keys s mid s' read (Err x) limit same out e t h n = subst (λ (y : Session). WantsKeys y read s') (same n)
    (record {
      still = record {
        output = ap (λ (y : Session). y.writer.output) h;
        records = ap
            (λ (y : Session). y.finished.items) h;
      };
      outside = out;
      reached = reached mid read limit e t;
    })

some_held : (p : List ℕ) (rest : List (List ℕ)) → p ∷ rest ≡ [] → ⊥
some_held p rest e = cc

-- outside, with nothing held, there is nothing to take
pub none_taken : (s mid : Session) (p : List ℕ) (rest : List (List ℕ)) → (HoldsNoneOutside s → mid ≡ s)
    → stands_of mid.finished.items mid.kex ≡ Outside → mid.held.items ≡ p ∷ rest → HoldsNoneOutside s → ⊥
none_taken s mid p rest same out held n =
    let e = same n in
    some_held p rest (sym held ∙ ap (λ (y : Session). y.held.items) e
    ∙ n (sym (ap (λ (y : Session). stands_of y.finished.items y.kex) e) ∙ out))
