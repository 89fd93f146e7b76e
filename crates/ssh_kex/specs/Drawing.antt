-- What is drawn from the generator that is handed in.
use Rattle.std.specs.Prelude.{◌≡◌, ◌==◌, ℕ, Bool, true, false, List, [], ◌∷◌, Option, Some, None}
use Rattle.rand_core.specs.Stream.{Stream}
use Rattle.ssh_negotiate.specs.declared.kex.Name as kexes
use Rattle.ssh_packet.specs.Sealing.{stream_after}
use Rattle.ssh_packet.specs.Stream.{message_type}
use Rattle.ssh_packet.specs.Writing.{SameButRoom, Sends, Writer}
use Rattle.ssh_kex.specs.Exchange.{exchange_hash}
use Rattle.ssh_kex.specs.Setting.{group_of}
use Rattle.ssh_kex.specs.Stages.{Stage, Created, AwaitsGroup, AwaitsReply, AwaitsRequest, AwaitsValue, AwaitsNewkeys}
use Rattle.ssh_kex.specs.declared.exchange.Exchange.{Exchange}
use Rattle.ssh_kex.specs.declared.exchange.FinishedExchange.{FinishedExchange}
use Rattle.ssh_kex.specs.declared.group.DhGroup.{DhGroup}

-- where values are exchanged, a local value and its public one are drawn, from the stream before to what is left of it
abbrev pub DrawsLocal : Bool → (Stream → List ℕ → List ℕ → Stream → Type 0) → Stream → Option (List ℕ) → List ℕ → Stream
    → Type 0
DrawsLocal true Draws before held public behind = behind ≡ before
DrawsLocal false Draws before held public behind = (local : List ℕ) × (held ≡ Some local)
    × Draws before local public behind

-- so are a server's value and the secret
abbrev pub DrawsSecret : Bool → (Stream → List ℕ → List ℕ → Stream → Type 0) → Stream → Option (List ℕ) → List ℕ → Stream
    → Type 0
DrawsSecret true Draws before held public behind = behind ≡ before
DrawsSecret false Draws before held public behind = (secret : List ℕ) × (held ≡ Some secret)
    × Draws before public secret behind

-- ---- packets

-- a KEXINIT has a cookie, which is drawn too
abbrev pub is_kexinit : List ℕ → Bool
is_kexinit payload = message_type payload == 20

-- Payloads that aren't a KEXINIT went behind the output, a packet each. They are padded from this stream, up to what is
-- left of it (RFC 4253 section 6).
abbrev pub SendsAll : Writer → List (List ℕ) → Stream → Writer → Stream → Type 0
SendsAll old [] before new left = SameButRoom old new × (left ≡ before)
SendsAll old (p ∷ payloads) before new left = (is_kexinit p ≡ false) × (mid : Writer) × Sends old p before mid
    × SendsAll mid payloads (stream_after old.sealing p before) new left

-- A step draws a value, where it makes one, and behind it the padding of what it sends.
pub record StepDraws (Values : Stream → Type 0) (old new : Writer) (left : Stream) : Type 0 where
  pub behind : Stream
  pub values : Values behind
  pub written : List (List ℕ)
  pub sends : SendsAll old written behind new left

-- ---- in a step of a machine

-- a client's value, and what it keeps of it, come from this stream
pub record ValueDrawn (Draws : Stream → List ℕ → List ℕ → Stream → Type 0) (before : Stream) (held : Option (List ℕ))
    (public : List ℕ) (behind : Stream) : Type 0 where
  pub local : List ℕ
  pub held_is : held ≡ Some local
  pub drawn : Draws before local public behind

-- so does the value of a client that awaits the reply; before it nothing is drawn
abbrev pub StartsFrom : (Draws : kexes.Name → Option DhGroup → Stream → List ℕ → List ℕ → Stream → Type 0) → Stream
    → Option Stage → Stream → Type 0
StartsFrom Draws before None behind = behind ≡ before
StartsFrom Draws before (Some (Created own)) behind = behind ≡ before
StartsFrom Draws before (Some (AwaitsGroup o)) behind = behind ≡ before
StartsFrom Draws before (Some (AwaitsReply o gex local public)) behind =
    ValueDrawn (Draws o.names.kex (group_of gex)) before (Some local) public behind
StartsFrom Draws before (Some (AwaitsRequest o)) behind = behind ≡ before
StartsFrom Draws before (Some (AwaitsValue o gex)) behind = behind ≡ before
StartsFrom Draws before (Some (AwaitsNewkeys exchange made host)) behind = behind ≡ before

-- where a client's value is made: by the server's KEXINIT, or by its group
abbrev pub DrawnByClient : (Draws : kexes.Name → Option DhGroup → Stream → List ℕ → List ℕ → Stream → Type 0) → Stream
    → Stage → Option Stage → Stream → Type 0
DrawnByClient Draws before (Created own) next behind = StartsFrom Draws before next behind
DrawnByClient Draws before (AwaitsGroup o) next behind = StartsFrom Draws before next behind
DrawnByClient Draws before (AwaitsReply o gex local public) next behind = behind ≡ before
DrawnByClient Draws before (AwaitsRequest o) next behind = behind ≡ before
DrawnByClient Draws before (AwaitsValue o gex) next behind = behind ≡ before
DrawnByClient Draws before (AwaitsNewkeys exchange made host) next behind = behind ≡ before

-- a server's value and the secret come from this stream
pub record SecretDrawn (Draws : Stream → List ℕ → List ℕ → Stream → Type 0) (before : Stream) (held : Option (List ℕ))
    (public : List ℕ) (behind : Stream) : Type 0 where
  pub secret : List ℕ
  pub held_is : held ≡ Some secret
  pub drawn : Draws before public secret behind

-- A server's value comes from this stream, for the client's, and the secret that the exchange's hash is made of.
pub record AnswerDrawn (Draws : List ℕ → Stream → List ℕ → List ℕ → Stream → Type 0) (before : Stream)
    (exchange : Exchange) (made : FinishedExchange) (behind : Stream) : Type 0 where
  pub secret : List ℕ
  pub host : List ℕ
  pub drawn : Draws exchange.client_ephemeral before exchange.server_ephemeral secret behind
  pub hashed : made.hash ≡ exchange_hash made.names.kex exchange host (Some secret)

-- so of a server that has sent its reply; before it nothing is drawn
abbrev pub AnswersFrom : (Draws : kexes.Name → Option DhGroup → List ℕ → Stream → List ℕ → List ℕ → Stream → Type 0)
    → Stream → Option Stage → Stream → Type 0
AnswersFrom Draws before None behind = behind ≡ before
AnswersFrom Draws before (Some (Created own)) behind = behind ≡ before
AnswersFrom Draws before (Some (AwaitsGroup o)) behind = behind ≡ before
AnswersFrom Draws before (Some (AwaitsReply o gex local public)) behind = behind ≡ before
AnswersFrom Draws before (Some (AwaitsRequest o)) behind = behind ≡ before
AnswersFrom Draws before (Some (AwaitsValue o gex)) behind = behind ≡ before
AnswersFrom Draws before (Some (AwaitsNewkeys exchange made host)) behind =
    AnswerDrawn (Draws made.names.kex (group_of exchange.gex)) before exchange made behind

-- where a server's value is made: by the client's
abbrev pub DrawnByServer : (Draws : kexes.Name → Option DhGroup → List ℕ → Stream → List ℕ → List ℕ → Stream → Type 0)
    → Stream → Stage → Option Stage → Stream → Type 0
DrawnByServer Draws before (Created own) next behind = behind ≡ before
DrawnByServer Draws before (AwaitsGroup o) next behind = behind ≡ before
DrawnByServer Draws before (AwaitsReply o gex local public) next behind = behind ≡ before
DrawnByServer Draws before (AwaitsRequest o) next behind = behind ≡ before
DrawnByServer Draws before (AwaitsValue o gex) next behind = AnswersFrom Draws before next behind
DrawnByServer Draws before (AwaitsNewkeys exchange made host) next behind = behind ≡ before
