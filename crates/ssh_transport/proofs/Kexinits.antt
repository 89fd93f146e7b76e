-- A KEXINIT that is written is the side's.
use Rattle.std.proofs.Common.{◌≡◌, ℕ, ◌<◌, List, [], ◌∷◌, length, Some, None, Result, Ok, Err, OnOk, refl, sym, subst, arith}
use Rattle.rand_core.specs.Stream.{Stream}
use Rattle.ssh_wire.specs.declared.side.Side.TheVariants.{Client, Server}
use Rattle.ssh_negotiate.specs.Advertised as advertised
use Rattle.ssh_negotiate.specs.Reading.{behind_cookie, cookie_from, kexinit_drawn}
use Rattle.ssh_packet.specs.Sealing.{Item, IsAdmissible, IsPadded, item_of}
use Rattle.ssh_packet.specs.Writing.{Writer, Sends, with_item}
use Rattle.ssh_wire.specs.declared.error.Error.{Error}
use Rattle.ssh_wire.specs.declared.side.Side.{Side}
use Rattle.ssh_negotiate.specs.declared.kex.KexCause.{KexCause}
use Rattle.ssh_kex.specs.Stages.{Machine, Created}
use Rattle.ssh_kex.specs.declared.config.Config.{Config}
use Rattle.ssh_transport.specs.Kexinits.{SendsKexinit, setting_between}

-- a payload that isn't empty is one packet
pub sends_item : (w w' : Writer) (payload : List ℕ) (stream : Stream) → 0 < length payload → Sends w payload stream w'
    → w' ≡ record (with_item w (item_of w.sealing payload stream)) { room = w'.room }
sends_item w w' [] stream l h = absurd (omega (arith, l))
sends_item w w' (b ∷ rest) stream l h = h

-- whose setting it is
pub between_side : (side : Side) (config : Config) (peer : List ℕ) (cause : KexCause)
    → (setting_between side config peer cause).side ≡ side
between_side Client config peer cause = refl
between_side Server config peer cause = refl

pub between_config : (side : Side) (config : Config) (peer : List ℕ) (cause : KexCause)
    → (setting_between side config peer cause).config ≡ config
between_config Client config peer cause = refl
between_config Server config peer cause = refl

pub client_sends : (config : Config) (w w' : Writer) (stream : Stream) → length (cookie_from stream) ≡ 16
    → IsAdmissible w.sealing (item_of w.sealing (kexinit_drawn config.preferred None stream) (behind_cookie stream))
    → IsPadded w.sealing (item_of w.sealing (kexinit_drawn config.preferred None stream) (behind_cookie stream))
    → Sends w (kexinit_drawn config.preferred None stream) (behind_cookie stream) w'
    → SendsKexinit Client config w (item_of w.sealing (kexinit_drawn config.preferred None stream)
    (behind_cookie stream)) w'
unfolding advertised.offers_with
client_sends config w w' stream l a p h = record {
  cookie = cookie_from stream;
  cookie_length = l;
  payload_is = refl;
  admissible = a;
  padded = p;
  written = sends_item w w' (kexinit_drawn config.preferred None stream) (behind_cookie stream) a.payload h;
}

pub server_sends : (config : Config) (w w' : Writer) (stream : Stream) → length (cookie_from stream) ≡ 16
    → IsAdmissible w.sealing (item_of w.sealing (kexinit_drawn config.preferred (Some config.host) stream)
    (behind_cookie stream)) → IsPadded w.sealing (item_of w.sealing
    (kexinit_drawn config.preferred (Some config.host) stream) (behind_cookie stream))
    → Sends w (kexinit_drawn config.preferred (Some config.host) stream) (behind_cookie stream) w'
    → SendsKexinit Server config w (item_of w.sealing (kexinit_drawn config.preferred (Some config.host) stream)
    (behind_cookie stream)) w'
server_sends config w w' stream l a p h = record {
  cookie = cookie_from stream;
  cookie_length = l;
  payload_is = refl;
  admissible = a;
  padded = p;
  written = sends_item w w' (kexinit_drawn config.preferred (Some config.host) stream) (behind_cookie stream) a.payload
      h;
}

-- ---- what a machine's call answers

pub client_sent : (m m' : Machine) (w w' : Writer) (stream : Stream) (answer : Result (Unit {0}) Error)
    → m.setting.side ≡ Client
    → OnOk answer (m' ≡ record m { stage = Created (kexinit_drawn m.setting.config.preferred None stream) })
    → OnOk answer (Sends w (kexinit_drawn m.setting.config.preferred None stream) (behind_cookie stream) w')
    → OnOk answer (IsAdmissible w.sealing (item_of w.sealing (kexinit_drawn m.setting.config.preferred None stream)
    (behind_cookie stream)))
    → OnOk answer (IsPadded w.sealing (item_of w.sealing (kexinit_drawn m.setting.config.preferred None stream)
    (behind_cookie stream)))
    → OnOk answer (length (cookie_from stream) ≡ 16)
    → OnOk answer ((x : Item) × SendsKexinit m.setting.side m.setting.config w x w'
    × (m' ≡ record m { stage = Created x.payload }))
client_sent m m' w w' stream (Ok u) e k h a p l = (
  item_of w.sealing
      (kexinit_drawn m.setting.config.preferred None stream) (behind_cookie stream),
  subst
      (λ (x : Side). SendsKexinit x m.setting.config w (item_of w.sealing
      (kexinit_drawn m.setting.config.preferred None stream) (behind_cookie stream)) w') (sym e)
      (client_sends m.setting.config w w' stream l a p h),
  k,
)
client_sent m m' w w' stream (Err x) e k h a p l = tt

pub server_sent : (m m' : Machine) (w w' : Writer) (stream : Stream) (answer : Result (Unit {0}) Error)
    → m.setting.side ≡ Server
    → OnOk answer (m' ≡ record m {
      stage = Created (kexinit_drawn m.setting.config.preferred
          (Some m.setting.config.host) stream);
    })
    → OnOk answer (Sends w (kexinit_drawn m.setting.config.preferred (Some m.setting.config.host) stream)
    (behind_cookie stream) w')
    → OnOk answer (IsAdmissible w.sealing (item_of w.sealing
    (kexinit_drawn m.setting.config.preferred (Some m.setting.config.host) stream) (behind_cookie stream)))
    → OnOk answer (IsPadded w.sealing (item_of w.sealing (kexinit_drawn m.setting.config.preferred
    (Some m.setting.config.host) stream) (behind_cookie stream)))
    → OnOk answer (length (cookie_from stream) ≡ 16)
    → OnOk answer ((x : Item) × SendsKexinit m.setting.side m.setting.config w x w'
    × (m' ≡ record m { stage = Created x.payload }))
server_sent m m' w w' stream (Ok u) e k h a p l = (
  item_of w.sealing
      (kexinit_drawn m.setting.config.preferred (Some m.setting.config.host) stream) (behind_cookie stream),
  subst
      (λ (x : Side). SendsKexinit x m.setting.config w (item_of w.sealing
      (kexinit_drawn m.setting.config.preferred (Some m.setting.config.host) stream) (behind_cookie stream)) w') (sym e)
      (server_sends m.setting.config w w' stream l a p h),
  k,
)
server_sent m m' w w' stream (Err x) e k h a p l = tt
