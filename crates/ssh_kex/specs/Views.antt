-- What a machine holds, and how an exchange ends.
use Rattle.std.specs.Prelude.{◌≡◌, ◌⊎◌, ◌<◌, ◌^◌, ℕ, List, [], length, drop, Option, None, Result, Ok, Err}
use Rattle.std.specs.Global.{Box}
use Rattle.ssh_packet.specs.Keys.{sealing_of, opening_of}
use Rattle.ssh_packet.specs.Stream.{message_type}
use Rattle.ssh_packet.specs.Writing.{Writer}
use Rattle.ssh_packet.specs.declared.keys.CipherPair.{CipherPair}
use Rattle.ssh_wire.specs.Sides.{other_side}
use Rattle.ssh_wire.specs.declared.side.Side.{Side}
use Rattle.ssh_wire.specs.declared.error.EncodingFault.TheVariants.{TrailingData}
use Rattle.ssh_wire.specs.declared.error.Error.{Error}
use Rattle.ssh_wire.specs.declared.error.Error.TheVariants as errors
use Rattle.ssh_negotiate.specs.declared.kex.KexCause.{KexCause}
use Rattle.ssh_negotiate.specs.declared.negotiation.Names.{Names}
use Rattle.ssh_kex.specs.Exchange.{sealing_after}
use Rattle.ssh_kex.specs.Messages.{newkeys}
use Rattle.ssh_kex.specs.Setting.{kept_of}
use Rattle.ssh_kex.specs.Stepping.{Puts}
use Rattle.ssh_kex.specs.declared.exchange.Exchange.{Exchange}
use Rattle.ssh_kex.specs.declared.exchange.FinishedExchange.{FinishedExchange}
use Rattle.ssh_kex.specs.declared.exchange.ServerHost.{ServerHost}
use Rattle.ssh_kex.specs.declared.progress.KexProgress.{KexProgress}
use Rattle.ssh_kex.specs.declared.progress.KexProgress.TheVariants.{Done}

-- the keys of a machine that waits for NEWKEYS seal and open as its record says
pub record HasKeys (side : Side) (made : FinishedExchange) (cipher : Box CipherPair) : Type 0 where
  pub seals : sealing_of cipher.value.local_to_remote ≡ sealing_after side made.names made.keys
  pub opens : opening_of cipher.value.remote_to_local ≡ sealing_after (other_side side) made.names made.keys

-- the id texts and the KEXINITs can be hashed
pub record HasShortSides (x : Exchange) : Type 0 where
  pub client_id : length x.client_id < 2 ^ 31
  pub server_id : length x.server_id < 2 ^ 31
  pub client_kex_init : length x.client_kex_init < 2 ^ 31
  pub server_kex_init : length x.server_kex_init < 2 ^ 31

-- the last message, with what the machine hands out
pub record HandsOut {K : Type 0} (x : Exchange) (host : Option ServerHost) (made : FinishedExchange) (cipher : Box CipherPair) (payload : List ℕ) (p : KexProgress K) : Type 0 where
  pub payload_is : payload ≡ newkeys
  pub done : p ≡ Done host (record { exchange = x; names = made.names; hash = made.hash; session_id = made.session_id; keys = made.keys; cipher = cipher })

-- what is answered where NEWKEYS is due
abbrev pub Lasts : {K : Type 0} → Exchange → Option ServerHost → FinishedExchange → Box CipherPair → List ℕ
    → Result (KexProgress K) Error → Type 0
Lasts x host made cipher payload (Ok p) = HandsOut x host made cipher payload p
Lasts x host made cipher payload (Err error) = ((message_type payload ≡ 21 → ⊥) × (error ≡ errors.Kex))
    ⊎ ((message_type payload ≡ 21) × (0 < length (drop 1 payload)) × (error ≡ errors.SshEncoding TrailingData))

-- ---- the end at once

-- NEWKEYS is written, and the exchange is at its end with an empty hash
pub record EndsAtOnce {K : Type 0} (side : Side) (cause : KexCause) (x : Exchange) (n : Names) (p : KexProgress K) (w w' : Writer) : Type 0 where
  pub cipher : Box CipherPair
  pub keys : HasKeys side (kept_of cause n None []) cipher
  pub done : p ≡ Done None (record {
    exchange = x;
    names = n;
    hash = (kept_of cause n None []).hash;
    session_id = (kept_of cause n None []).session_id;
    keys = (kept_of cause n None []).keys;
    cipher = cipher;
  })
  pub puts : Puts w newkeys w'
