-- The hash over the secret that is held.
use Rattle.std.proofs.Common.{◌≡◌, ℕ, List, [], refl, sym, ap, ◌∙◌, Option, Some, None, true, false, if◌then◌else◌}
use Rattle.ssh_mac.specs.Digests.{digest_of}
use Rattle.ssh_negotiate.specs.Tables.{shape_of}
use Rattle.ssh_negotiate.specs.declared.kex.Name as kexes
use Rattle.ssh_kex.specs.Agreeing.{Agreeing, HoldsSecret, held_secret}
use Rattle.ssh_negotiate.specs.declared.kex.KexShape.{KexShape}
use Rattle.ssh_kex.specs.Exchange.{exchange_hash, hashed_text, secret_of, secret_text}
use Rattle.ssh_kex.specs.declared.exchange.Exchange.{Exchange}
use Rattle.ssh_kex.specs.declared.exchange.SharedSecret.{SharedSecret}
use Rattle.ssh_kex.specs.declared.group.DhGroup.{DhGroup}

-- the secret of the bytes that are held is what is held
pub same_secret : (name : kexes.Name) (s : Option SharedSecret) → HoldsSecret name s → secret_of name (held_secret s) ≡ s
same_secret name None h = refl
same_secret name (Some s) h = ap Some (sym h.0)

pub hash_skipped : (name : kexes.Name) (x : Exchange) (host : List ℕ) (secret : Option (List ℕ)) → (shape_of name).skip ≡ true → exchange_hash name x host secret ≡ []
unfolding exchange_hash
hash_skipped name x host secret e = ap (λ b. if b then [] else digest_of (shape_of name).digest (hashed_text x host (secret_text (secret_of name secret)))) e

pub hash_made : (name : kexes.Name) (x : Exchange) (host : List ℕ) (secret : Option (List ℕ)) → (shape_of name).skip ≡ false → exchange_hash name x host secret ≡ digest_of (shape_of name).digest (hashed_text x host (secret_text (secret_of name secret)))
unfolding exchange_hash
hash_made name x host secret e = ap (λ b. if b then [] else digest_of (shape_of name).digest (hashed_text x host (secret_text (secret_of name secret)))) e

-- the hash that is computed over what is held
pub hash_held : (result : List ℕ) (k : Agreeing) (name : kexes.Name) (held asked : Option SharedSecret) (shape : KexShape) (x : Exchange) (host : List ℕ) (group : Option DhGroup) (local : Option (List ℕ)) → result ≡ digest_of shape.digest (hashed_text x host (secret_text asked))
    → asked ≡ held → shape ≡ shape_of name → HoldsSecret name held → k ≡ record { name = name; group = group; local = local; secret = held_secret held } → (shape_of k.name).skip ≡ false → result ≡ exchange_hash k.name x host k.secret
hash_held result k name held asked shape x host group local made same form holds is skip =
    made
    ∙ (ap (λ s. digest_of shape.digest (hashed_text x host (secret_text s))) (same ∙ sym (same_secret name held holds))
    ∙ (ap (λ (q : KexShape). digest_of q.digest (hashed_text x host (secret_text (secret_of name (held_secret held))))) form
    ∙ (sym (hash_made name x host (held_secret held) (ap (λ (v : Agreeing). (shape_of v.name).skip) (sym is) ∙ skip))
    ∙ ap (λ (v : Agreeing). exchange_hash v.name x host v.secret) (sym is))))
