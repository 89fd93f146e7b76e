-- What follows of fields that are read or written one after the other.
use Rattle.std.proofs.Common.{◌≡◌, List, ◌++◌, Result, Ok, Err, ◌⊎◌, inl, inr, ap, ◌∙◌, append_assoc}
use Rattle.ssh_wire.specs.Fields.{◌>>=◌, answer_of}
use Rattle.ssh_wire.specs.Messages.{Grows}
use Rattle.ssh_wire.specs.declared.error.EncodingFault.{EncodingFault}
use Rattle.ssh_wire.specs.declared.error.Error.{Error}
use Rattle.ssh_wire.specs.declared.error.Error.TheVariants.{Memory, SshEncoding}

-- a fault of what is read first is the fault of both reads
pub bind_refused : {A B : Type 0} (r : Result A EncodingFault) (f : A → Result B EncodingFault) (e : Error) → answer_of r ≡ Err e → answer_of (r >>= f) ≡ Err e
bind_refused (Ok x) f e h = cc
bind_refused (Err d) f e h = let q : SshEncoding d ≡ e = cc in ap (λ x. Err x) q

-- the same, if there may have been no memory
pub later : {A B : Type 0} (r : Result A EncodingFault) (f : A → Result B EncodingFault) (e : Error) → (e ≡ Memory) ⊎ (answer_of r ≡ Err e) → (e ≡ Memory) ⊎ (answer_of (r >>= f) ≡ Err e)
later r f e h = elim h [
  | inl m ↦ inl m
  | inr q ↦ inr (bind_refused r f e q)
]

-- the second read decides, once the first found a value
pub bind_found : {A B : Type 0} (r : Result A EncodingFault) (f : A → Result B EncodingFault) (x : A) → r ≡ Ok x → (r >>= f) ≡ f x
bind_found r f x h = ap (λ s. s >>= f) h

-- what is appended in two turns
pub grows_on : {A : Type 0} (old mid new more : List A) → mid ≡ old ++ more → Grows mid new → Grows old new
grows_on old mid new more h g = (more ++ g.0, g.1 ∙ (ap (λ l. l ++ g.0) h ∙ append_assoc old more g.0))
