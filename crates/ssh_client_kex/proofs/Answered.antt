-- How often a client's step asks its agreement, where it takes the message.
use Rattle.std.proofs.Common.{◌≡◌, ℕ, Bool, true, ap, ◌∙◌, subst, arith, Result, Ok, Err, IfOk, OnOk}
use Rattle.ssh_packet.specs.Writing.{Writer}
use Rattle.ssh_negotiate.specs.declared.kex.KexCause.{KexCause}
use Rattle.ssh_negotiate.specs.declared.negotiation.Names.{Names}
use Rattle.ssh_wire.specs.declared.error.Error.{Error}
use Rattle.ssh_wire.specs.declared.side.Side.TheVariants.{Client}
use Rattle.ssh_kex.specs.Parts.{Answers}
use Rattle.ssh_kex.specs.Stages.{Machine}
use Rattle.ssh_kex.specs.Stepping.{kexinit_answers, next_of}
use Rattle.ssh_kex.specs.Views.{EndsAtOnce}
use Rattle.ssh_kex.specs.declared.exchange.Exchange.{Exchange}
use Rattle.ssh_kex.specs.declared.progress.KexProgress.{KexProgress}

none_asked : {A : Type 0} (answered : A → ℕ → ℕ → Bool) (a : A) (p : KexProgress Machine) → kexinit_answers Client (next_of (Ok p)) ≡ 0 → Answers answered (kexinit_answers Client (next_of (Ok p))) a a
none_asked answered a p e = λ known n h. subst (λ k. answered a known k ≡ true) (omega (arith, e)) h

-- where no exchange of values was chosen
pub ended_once : {A : Type 0} (answered : A → ℕ → ℕ → Bool) (a : A) (cause : KexCause) (x : Exchange) (n : Names) (w w' : Writer) (answer : Result (KexProgress Machine) Error) → IfOk answer (λ p. EndsAtOnce Client cause x n p w w') → OnOk answer (Answers answered (kexinit_answers Client (next_of answer)) a a)
ended_once answered a cause x n w w' (Ok p) h = none_asked answered a p (ap (λ (q : KexProgress Machine). kexinit_answers Client (next_of (Ok q))) h.done)
ended_once answered a cause x n w w' (Err e) h = tt

-- where a group is asked for
pub asked_group : {A : Type 0} (answered : A → ℕ → ℕ → Bool) (a : A) (q : KexProgress Machine) (Q : Type 0) (answer : Result (KexProgress Machine) Error) → kexinit_answers Client (next_of (Ok q)) ≡ 0 → IfOk answer (λ p. (p ≡ q) × Q) → OnOk answer (Answers answered (kexinit_answers Client (next_of answer)) a a)
asked_group answered a q Q (Ok p) e h = none_asked answered a p (ap (λ (k : KexProgress Machine). kexinit_answers Client (next_of (Ok k))) h.0 ∙ e)
asked_group answered a q Q (Err x) e h = tt
