-- Each epoch that an exchange begins starts well: a nonce of bytes, or a counter at place 0.
use Rattle.std.proofs.Common.{◌≡◌, ℕ, suc, List, [], ◌∷◌, map, slice_get, refl, sym, subst, arith, Option, Some}
use Rattle.ssh_mac.specs.Tags.{MacOf}
use Rattle.ssh_packet.specs.Names.{sealing_named}
use Rattle.ssh_packet.specs.declared.cipher.Name as ciphers
use Rattle.ssh_packet.specs.declared.cipher.Name.TheVariants.{Clear, NoCipher, Aes128Ctr, Aes192Ctr, Aes256Ctr, Aes128Gcm, Aes256Gcm, Aes128Cbc, Aes192Cbc, Aes256Cbc}
use Rattle.ssh_wire.specs.Forms.{AreBytes}
use Rattle.ssh_wire.specs.declared.side.Side.{Side}
use Rattle.ssh_wire.specs.declared.side.Side.TheVariants.{Client, Server}
use Rattle.ssh_negotiate.specs.declared.kex.KexCause.{KexCause}
use Rattle.ssh_negotiate.specs.declared.negotiation.Names.{Names}
use Rattle.ssh_kex.specs.Exchange.{keys_of, outgoing, sealing_after}
use Rattle.ssh_kex.specs.Setting.{Says, Setting, made_of}
use Rattle.ssh_kex.specs.declared.config.Config.{Config}
use Rattle.ssh_kex.specs.declared.exchange.Exchange.{Exchange}
use Rattle.ssh_kex.specs.declared.exchange.FinishedExchange.{FinishedExchange}
use Rattle.ssh_kex.specs.declared.exchange.Keys.{Keys}
use Rattle.ssh_kex.specs.declared.exchange.ServerHost.{ServerHost}
use Rattle.ssh_rules.specs.Log.{recorded}
use Rattle.ssh_rules.specs.Made.{MadeBy}
use Rattle.ssh_rules.specs.Machine.{SideState, Event, Steps, first_state}
use Rattle.ssh_rules.proofs.side.Accounts.{kept_run}
use Rattle.ssh_rules.proofs.side.Apart.{IsWell, StartWell}
use Rattle.ssh_kex.proofs.Lemmas.{key_bytes}
use Rattle.ssh_rules.proofs.side.Worth.{worth_small}
use Rattle.ssh_rules.proofs.side.Ran.{recorded_is}

-- at its first packet a direction starts well where its nonce is bytes
named_well : (name : ciphers.Name) (key nonce : List ℕ) (mac : MacOf) → AreBytes nonce → IsWell (sealing_named name key nonce mac) 0
named_well Clear key nonce mac h = tt
named_well NoCipher key nonce mac h = tt
named_well Aes128Ctr key nonce mac h = (refl, omega arith)
named_well Aes192Ctr key nonce mac h = (refl, omega arith)
named_well Aes256Ctr key nonce mac h = (refl, omega arith)
named_well Aes128Gcm key nonce mac h = worth_small nonce h
named_well Aes256Gcm key nonce mac h = worth_small nonce h
named_well Aes128Cbc key nonce mac h = tt
named_well Aes192Cbc key nonce mac h = tt
named_well Aes256Cbc key nonce mac h = tt

-- first nonces that are bytes
record FirstBytes (k : Keys) : Type 0 where
  pub to_server : AreBytes k.iv_c2s
  pub to_client : AreBytes k.iv_s2c

keys_first : (digest : Rattle.ssh_mac.specs.declared.digest.DigestKind.DigestKind) (secret hash session : List ℕ) (n : Names) → FirstBytes (keys_of digest secret hash session n)
unfolding keys_of
keys_first digest secret hash session n = record { to_server = key_bytes digest secret hash session 65 _; to_client = key_bytes digest secret hash session 66 _ }

after_well : (side : Side) (n : Names) (k : Keys) → FirstBytes k → IsWell (sealing_after side n k) 0
unfolding sealing_after
after_well Client n k h = named_well n.cipher _ k.iv_c2s _ h.to_server
after_well Server n k h = named_well n.cipher _ k.iv_s2c _ h.to_client

made_well : (side : Side) (cause : KexCause) (n : Names) (e : Exchange) (host : List ℕ) (secret : Option (List ℕ)) → IsWell (outgoing side (made_of cause n e host secret)).sealing 0
made_well side cause n e host secret = after_well side n _ (keys_first _ _ _ _ n)

record_well : (side maker : Side) (says : Says) (s : Setting) (own theirs : List (List ℕ)) (e : Exchange) (x : FinishedExchange) (h : Option ServerHost) → MadeBy maker says s own theirs e x h → IsWell (outgoing side x).sealing 0
record_well side Client says s own theirs e x h m = subst (λ y. IsWell (outgoing side y).sealing 0) (sym m.made) (made_well side s.cause m.names e m.host (Some m.secret))
record_well side Server says s own theirs e x h m = subst (λ y. IsWell (outgoing side y).sealing 0) (sym m.made) (made_well side s.cause m.names e m.shown.blob (Some m.secret))

all_well : (side : Side) (xs : List FinishedExchange) → ((k : ℕ) (x : FinishedExchange) → slice_get xs k ≡ Some x → IsWell (outgoing side x).sealing 0) → StartWell (map (outgoing side) xs)
all_well side [] h = tt
all_well side (x ∷ xs) h = (h 0 x refl, all_well side xs (λ k y e. h (suc k) y e))

-- of any run
pub run_starts_well : (says : Says) (side maker : Side) (config : Config) (own_id : List ℕ) (log : List Event) (st : SideState) → Steps says maker config own_id first_state log st → StartWell (map (outgoing side) (recorded log))
run_starts_well says side maker config own_id log st h = subst (λ r. StartWell (map (outgoing side) r)) (recorded_is says maker config own_id log first_state st h)
    (all_well side st.records (λ k x e. (let m = (kept_run says maker config own_id log st h).accounts.each k x e in record_well side maker says _ _ _ m.exchange x m.host m.made)))
