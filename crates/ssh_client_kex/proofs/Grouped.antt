-- A group that is answered.
use Rattle.std.proofs.Common.{◌≡◌, ◌∙◌, ap, sym, List, ℕ, [], ◌∷◌, ◌++◌, ◌+◌, ◌≤◌, ◌<◌, ◌^◌, ◌==◌, Bool, true, false, if◌then◌else◌, nat_lt, length, Result, Ok, Err, drop, append-nil, arith}
use Rattle.std.proofs.lemmas.Bool.Decides.{nat_tests}
use Rattle.std.proofs.lemmas.List.{length-append, length-drop}
use Rattle.std.specs.Prelude.{IfOk}
use Rattle.ssh_negotiate.specs.declared.kex.KexCause.{KexCause}
use Rattle.ssh_negotiate.specs.declared.negotiation.Names.{Names}
use Rattle.ssh_packet.specs.Stream.{message_type}
use Rattle.ssh_packet.specs.Writing.{Writer}
use Rattle.ssh_wire.specs.Forms.{magnitude, mpint, u32be, unsigned}
use Rattle.ssh_wire.specs.declared.error.Error.{Error}
use Rattle.ssh_client_kex.specs.ClientRows.{AnswersGroup, SendsOfGroup}
use Rattle.ssh_client_kex.specs.Reading.{ReadsGroup}
use Rattle.ssh_kex.specs.Fields.{IsInside}
use Rattle.ssh_kex.specs.Stages.{Machine}
use Rattle.ssh_kex.specs.declared.config.Config.{Config}
use Rattle.ssh_kex.specs.declared.exchange.Exchange.{Exchange}
use Rattle.ssh_kex.specs.declared.group.DhGroup.{DhGroup}
use Rattle.ssh_kex.specs.declared.progress.KexProgress.{KexProgress}

-- a message is its type and what is behind it
pub typed : (payload : List ℕ) (t : ℕ) → 0 < t → message_type payload ≡ t → payload ≡ t ∷ drop 1 payload
typed [] t pos e = absurd (omega (arith, pos, e))
typed (b ∷ rest) t pos e = ap (λ x. x ∷ rest) e

-- the type that was tested
pub is_type : (t k : ℕ) → (t == k) ≡ true → t ≡ k
is_type t k e = grind (arith, nat_tests)

unsigned_least : (m : List ℕ) → length m ≤ length (unsigned m)
unsigned_least [] = omega arith
unsigned_least (b ∷ m) = step (nat_lt b 128)
  where
    step : (t : Bool) → length (b ∷ m) ≤ length (if t then b ∷ m else 0 ∷ b ∷ m)
    step true = omega arith
    step false = omega arith

-- a number's form is no shorter than its bytes
behind_mpint : (m rest : List ℕ) → magnitude m ≡ m → length m + length rest ≤ length (mpint m ++ rest)
behind_mpint m rest e =
    let a = length-append (mpint m) rest in
    let b = length-append (u32be (length (unsigned (magnitude m)))) (unsigned (magnitude m)) in
    let c = unsigned_least (magnitude m) in
    let d = ap length e in omega (arith, a, b, c, d)

pub group_short : (payload fs : List ℕ) (g : DhGroup) → length payload < 2 ^ 31 → fs ≡ drop 1 payload → ReadsGroup fs g → (length g.prime < 2 ^ 31) × (length g.generator < 2 ^ 31)
group_short payload fs g short e reads =
    let d = length-drop 1 payload in
    let f = ap length e in
    let a = ap length reads.spelled in
    let b = behind_mpint g.prime (mpint g.generator) reads.canonical.prime in
    let c = behind_mpint g.generator [] reads.canonical.generator in
    let h = ap length (append-nil (mpint g.generator)) in
    (omega (arith, short, d, f, a, b), omega (arith, short, d, f, a, b, c, h))

pub group_answers : (makes : DhGroup → List ℕ → List ℕ → Type 0) (config : Config) (cause : KexCause) (x : Exchange) (n : Names) (payload : List ℕ) (r : Result (KexProgress Machine) Error) (w w' : Writer) (fs : List ℕ) (g : DhGroup) → length g.prime < 2 ^ 31 → length g.generator < 2 ^ 31 → message_type payload ≡ 31 → fs ≡ drop 1 payload → ReadsGroup fs g → IsInside config.gex g → IfOk r (λ p. SendsOfGroup (makes g) config cause x n g p w w') → IfOk r (λ p. AnswersGroup makes config cause x n payload p w w')
group_answers makes config cause x n payload (Err d) w w' fs g prime generator t e reads inside sends = tt
group_answers makes config cause x n payload (Ok p) w w' fs g prime generator t e reads inside sends =
    record {
      group = g;
      payload_is = typed payload 31 (omega arith) t ∙ ap (λ f. 31 ∷ f) (sym e ∙ reads.spelled);
      canonical = reads.canonical;
      prime = prime;
      generator = generator;
      inside = inside;
      sends = sends;
    }
