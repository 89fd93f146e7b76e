-- What is kept of an exchange that a key exchange of the names hashed.
use Rattle.std.proofs.Common.{◌≡◌, ℕ, List, Option, Some, ap, subst, ◌∙◌}
use Rattle.ssh_negotiate.specs.declared.kex.Name as kexes
use Rattle.ssh_kex.specs.Exchange.{exchange_hash}
use Rattle.ssh_kex.specs.declared.exchange.FinishedExchange.{FinishedExchange}
use Rattle.ssh_blocks.specs.declared.values.BlockValues.{BlockValues}
use Rattle.ssh_transcript.specs.Making.{IsHashed, IsKeptWith, exchange_between, session_or}
use Rattle.ssh_transcript.specs.declared.setting.Setting.{Setting}

pub hashed_kept : (s : Setting) (v : BlockValues) (secret : List ℕ) (first : Option (List ℕ)) (name : kexes.Name) (held : Option (List ℕ)) (hash session : List ℕ) (x : FinishedExchange)
    → name ≡ s.names.kex → held ≡ Some secret → hash ≡ exchange_hash name (exchange_between s v) v.reply.host.now held
    → session ≡ session_or first hash → IsKeptWith s.names secret hash session x → IsHashed s v secret first x
hashed_kept s v secret first name held hash session x n e h i kept =
    subst (λ y. IsKeptWith s.names secret y (session_or first y) x)
    (h ∙ (ap (λ m. exchange_hash m (exchange_between s v) v.reply.host.now held) n ∙ ap (λ y. exchange_hash s.names.kex (exchange_between s v) v.reply.host.now y) e))
    (subst (λ t. IsKeptWith s.names secret hash t x) i kept)
