-- What is read of a message's fields.
use Rattle.std.proofs.Common.{◌≡◌, ◌∙◌, ap, refl, sym, subst, Result, Ok, Err, List, ℕ, [], ◌∷◌, ◌++◌, ◌<◌, length, append-nil, arith}
use Rattle.ssh_wire.specs.Fields.{◌>>=◌, answer_of, mpint_at, string_at}
use Rattle.ssh_wire.specs.Forms.{magnitude, mpint, string}
use Rattle.ssh_wire.specs.declared.error.EncodingFault.TheVariants.{TrailingData}
use Rattle.ssh_client_kex.specs.Reading.{ReadsGroup}
use Rattle.ssh_kex.specs.Fields.{value_at_end, group_in, reply_front, value_in}
use Rattle.ssh_kex.specs.declared.group.DhGroup.{DhGroup}
use Rattle.ssh_wire.specs.declared.error.EncodingFault.{EncodingFault}
use Rattle.ssh_wire.specs.declared.error.Error.{Error}
use Rattle.ssh_wire.specs.declared.error.Error.TheVariants.{SshEncoding}

-- the error of an answer
abbrev error_in : {A : Type 0} → Error → Result A Error → Error
error_in d (Ok x) = d
error_in d (Err e) = e

-- a fault of the first part is that of the whole
pub fault_stays : {A B : Type 0} (r : Result A EncodingFault) (f : A → Result B EncodingFault) (e : Error) → answer_of r ≡ Err e → answer_of (r >>= f) ≡ Err e
fault_stays (Ok x) f e h = cc
fault_stays (Err fault) f e h = ap Err (ap (error_in e) h)

-- a part that is read is handed on
pub goes_on : {A B : Type 0} (r : Result A EncodingFault) (f : A → Result B EncodingFault) (x : A) → r ≡ Ok x → (r >>= f) ≡ f x
goes_on r f x h = ap (λ q. q >>= f) h

-- what is answered is a fault of the fields
pub fault_of : {A : Type 0} (r : Result A EncodingFault) (e : Error) → answer_of r ≡ Err e → (fault : EncodingFault) × (r ≡ Err fault) × (e ≡ SshEncoding fault)
fault_of (Ok x) e h = cc
fault_of (Err fault) e h = (fault, refl, sym (ap (error_in e) h))

-- the same at equal bytes
pub at_answer : {A : Type 0} (read : List ℕ → Result A EncodingFault) (a b : List ℕ) (e : Error) → a ≡ b → answer_of (read a) ≡ Err e → answer_of (read b) ≡ Err e
at_answer read a b e h k = subst (λ x. answer_of (read x) ≡ Err e) h k

-- ---- one string

pub no_value : (bytes : List ℕ) (e : Error) → answer_of (string_at bytes) ≡ Err e → answer_of (value_in bytes) ≡ Err e
unfolding value_in
no_value bytes e h = fault_stays (string_at bytes) (λ v. value_at_end v.0 v.1) e h

pub value_read : (bytes v rest : List ℕ) → string_at bytes ≡ Ok (v, rest) → rest ≡ [] → value_in bytes ≡ Ok v
unfolding value_in
value_read bytes v rest h e = goes_on (string_at bytes) (λ x. value_at_end x.0 x.1) (v, rest) h ∙ ap (value_at_end v) e

pub value_spelled : (bytes v rest : List ℕ) → bytes ≡ string v ++ rest → rest ≡ [] → bytes ≡ string v
value_spelled bytes v rest h e = h ∙ (ap (λ r. string v ++ r) e ∙ append-nil (string v))

more_left : {A : Type 0} (x : A) (rest : List ℕ) (e : Error) → (e ≡ SshEncoding TrailingData) × (0 < length rest) → answer_of (value_at_end x rest) ≡ Err e
more_left x [] e h = absurd (omega (arith, h.1))
more_left x (b ∷ rest) e h = ap Err (sym h.0)

pub value_behind : (bytes v rest : List ℕ) (e : Error) → string_at bytes ≡ Ok (v, rest) → (e ≡ SshEncoding TrailingData) × (0 < length rest) → answer_of (value_in bytes) ≡ Err e
unfolding value_in
value_behind bytes v rest e h k = ap answer_of (goes_on (string_at bytes) (λ x. value_at_end x.0 x.1) (v, rest) h) ∙ more_left v rest e k

-- ---- the front of a reply

pub no_host : (bytes : List ℕ) (e : Error) → answer_of (string_at bytes) ≡ Err e → answer_of (reply_front bytes) ≡ Err e
unfolding reply_front
no_host bytes e h = fault_stays (string_at bytes) (λ x. string_at x.1 >>= λ v. Ok (record { host = x.0; value = v.0; behind = v.1 })) e h

pub no_server_value : (bytes host rest : List ℕ) (e : Error) → string_at bytes ≡ Ok (host, rest) → answer_of (string_at rest) ≡ Err e → answer_of (reply_front bytes) ≡ Err e
unfolding reply_front
no_server_value bytes host rest e h k =
    ap answer_of (goes_on (string_at bytes) (λ x. string_at x.1 >>= λ v. Ok (record { host = x.0; value = v.0; behind = v.1 })) (host, rest) h)
    ∙ fault_stays (string_at rest) (λ v. Ok (record { host = host; value = v.0; behind = v.1 })) e k

pub front_read : (bytes host rest value behind : List ℕ) → string_at bytes ≡ Ok (host, rest) → string_at rest ≡ Ok (value, behind) → reply_front bytes ≡ Ok (record { host = host; value = value; behind = behind })
unfolding reply_front
front_read bytes host rest value behind h k =
    goes_on (string_at bytes) (λ x. string_at x.1 >>= λ v. Ok (record { host = x.0; value = v.0; behind = v.1 })) (host, rest) h
    ∙ goes_on (string_at rest) (λ v. Ok (record { host = host; value = v.0; behind = v.1 })) (value, behind) k

pub front_spelled : (bytes host rest value behind : List ℕ) → bytes ≡ string host ++ rest → rest ≡ string value ++ behind → bytes ≡ string host ++ (string value ++ behind)
front_spelled bytes host rest value behind h k = h ∙ ap (λ r. string host ++ r) k

-- ---- a group

same_group : (g : DhGroup) (prime generator : List ℕ) → g.prime ≡ prime → g.generator ≡ generator → g ≡ record { prime = prime; generator = generator }
same_group g prime generator p q = ap (λ x. record g { prime = x }) p ∙ ap (λ x. record { prime = prime; generator = x }) q

pub no_prime : (bytes : List ℕ) (e : Error) → answer_of (mpint_at bytes) ≡ Err e → answer_of (group_in bytes) ≡ Err e
unfolding group_in
no_prime bytes e h = fault_stays (mpint_at bytes) (λ p. mpint_at p.1 >>= λ g. value_at_end (record { prime = p.0; generator = g.0 }) g.1) e h

pub no_generator : (bytes prime rest : List ℕ) (e : Error) → mpint_at bytes ≡ Ok (prime, rest) → answer_of (mpint_at rest) ≡ Err e → answer_of (group_in bytes) ≡ Err e
unfolding group_in
no_generator bytes prime rest e h k =
    ap answer_of (goes_on (mpint_at bytes) (λ p. mpint_at p.1 >>= λ g. value_at_end (record { prime = p.0; generator = g.0 }) g.1) (prime, rest) h)
    ∙ fault_stays (mpint_at rest) (λ g. value_at_end (record { prime = prime; generator = g.0 }) g.1) e k

pub group_at : (bytes prime rest generator behind : List ℕ) → mpint_at bytes ≡ Ok (prime, rest) → mpint_at rest ≡ Ok (generator, behind) → group_in bytes ≡ value_at_end (record { prime = prime; generator = generator }) behind
unfolding group_in
group_at bytes prime rest generator behind h k =
    goes_on (mpint_at bytes) (λ p. mpint_at p.1 >>= λ g. value_at_end (record { prime = p.0; generator = g.0 }) g.1) (prime, rest) h
    ∙ goes_on (mpint_at rest) (λ g. value_at_end (record { prime = prime; generator = g.0 }) g.1) (generator, behind) k

pub group_behind : (bytes prime rest generator behind : List ℕ) (e : Error) → mpint_at bytes ≡ Ok (prime, rest) → mpint_at rest ≡ Ok (generator, behind) → (e ≡ SshEncoding TrailingData) × (0 < length behind) → answer_of (group_in bytes) ≡ Err e
group_behind bytes prime rest generator behind e h k l = ap answer_of (group_at bytes prime rest generator behind h k) ∙ more_left (record { prime = prime; generator = generator }) behind e l

pub group_read : (bytes prime rest generator behind : List ℕ) (g : DhGroup) → mpint_at bytes ≡ Ok (prime, rest) → mpint_at rest ≡ Ok (generator, behind) → (bytes ≡ mpint prime ++ rest) × (magnitude prime ≡ prime) → (rest ≡ mpint generator ++ behind) × (magnitude generator ≡ generator) → behind ≡ [] → g.prime ≡ prime → g.generator ≡ generator → ReadsGroup bytes g
group_read bytes prime rest generator behind g h k a b e p q =
    record {
      read = group_at bytes prime rest generator behind h k ∙ (ap (value_at_end (record { prime = prime; generator = generator })) e ∙ ap Ok (sym (same_group g prime generator p q)));
      spelled = a.0 ∙ (ap (λ r. mpint prime ++ r) (b.0 ∙ (ap (λ r. mpint generator ++ r) e ∙ append-nil (mpint generator)))
          ∙ (ap (λ x. mpint x ++ mpint generator) (sym p) ∙ ap (λ x. mpint g.prime ++ mpint x) (sym q)));
      canonical = record { prime = ap magnitude p ∙ (a.1 ∙ sym p); generator = ap magnitude q ∙ (b.1 ∙ sym q) };
    }
