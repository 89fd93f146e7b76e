-- What a side sends is drawn from the generator that it was handed, one thing after the other.
use Rattle.std.proofs.Common.{◌≡◌, ◌∙◌, ◌<◌, ℕ, Bool, true, false, List, [], ◌∷◌, ◌++◌, length, refl, sym, ap, arith, subst, Option, Some, None, Result, Ok, Err, OnOk, ◌⊎◌, inl, inr}
use Rattle.rand_core.specs.Stream.{Stream}
use Rattle.std.proofs.lemmas.Bool.Decides.{nat_tests}
use Rattle.std.specs.Borrow.{Bor}
use Rattle.ssh_wire.specs.declared.error.Error.{Error}
use Rattle.ssh_wire.specs.declared.side.Side.{Side}
use Rattle.ssh_wire.specs.declared.side.Side.TheVariants.{Client, Server}
use Rattle.ssh_negotiate.specs.Advertised.{kexinit}
use Rattle.ssh_negotiate.specs.Preferences.{Hosts, Preferences}
use Rattle.ssh_negotiate.specs.Reading.{behind_cookie, kexinit_drawn}
use Rattle.ssh_negotiate.specs.declared.kex.KexCause.{KexCause}
use Rattle.ssh_packet.specs.Sealing.{stream_after}
use Rattle.ssh_packet.specs.Writing.{Sends, Writer}
use Rattle.ssh_kex.specs.Drawing.{AnswersFrom, SendsAll, StartsFrom, StepDraws, is_kexinit}
use Rattle.ssh_kex.specs.Stages.{AwaitsGroup, AwaitsNewkeys, AwaitsReply, AwaitsRequest, AwaitsValue, Created, Machine, Stage}
use Rattle.ssh_kex.specs.declared.config.Config.{Config}
use Rattle.ssh_kex.specs.declared.exchange.FinishedExchange.{FinishedExchange}
use Rattle.ssh_rules.specs.Valid.{is_good_payload}
use Rattle.ssh_transport.specs.Drawing.{kexinit_packet, kexinit_with, writing_at}
use Rattle.ssh_transport.specs.Kexinits.{setting_between}
use Rattle.ssh_transport.specs.Saying.{AreGood, IsFixed}
use Rattle.ssh_transport.specs.Sending.{ClientRelation, DrawnBySide, MadeBy, NoneMade, OfKexinit, OfKeys, OfNumbers, OfPayload, OfValue, OpensWith, PutsKexinit, Sender, SendsDrawn, SendsOn, Sent, ServerRelation, WritesDrawn, sender_at, sender_of, sent_next, with_packet}
use Rattle.ssh_transport.specs.declared.session.Session.{Session}
use Rattle.ssh_transport.proofs.Drawing.{sent_next as packet_next}
use Rattle.ssh_transport.proofs.Kexinits.{between_config, between_side}

-- ---- one thing after the other

pub sends_still : (Made : Stream → Stream → Type 0) (side : Side) (config : Config) (w : Sender)
    → SendsDrawn Made side config w w
sends_still Made side config w = ([], refl)

pub sends_same : (Made : Stream → Stream → Type 0) (side : Side) (config : Config) (w w' : Sender) → w' ≡ w
    → SendsDrawn Made side config w w'
sends_same Made side config w w' e = ([], e)

join_on : (Made : Stream → Stream → Type 0) (side : Side) (config : Config) (sent more : List Sent) (a b c : Sender)
    → SendsOn Made side config a sent b → SendsOn Made side config b more c
    → SendsOn Made side config a (sent ++ more) c
join_on Made side config [] more a b c h k = subst (λ (x : Sender). SendsOn Made side config x more c) h k
join_on Made side config (x ∷ sent) more a b c h k = (
  h.0,
  join_on Made side config sent more
      (sent_next side config a x) b c h.1 k,
)

pub sends_join : (Made : Stream → Stream → Type 0) (side : Side) (config : Config) (a b c : Sender)
    → SendsDrawn Made side config a b → SendsDrawn Made side config b c → SendsDrawn Made side config a c
sends_join Made side config a b c h k = (h.0 ++ k.0, join_on Made side config h.0 k.0 a b c h.1 k.1)

weaker_on : (Made More : Stream → Stream → Type 0) → ((s t : Stream) → Made s t → More s t)
    → (side : Side) (config : Config) (sent : List Sent) (a b : Sender) → SendsOn Made side config a sent b
    → SendsOn More side config a sent b
weaker_on Made More f side config [] a b h = h
weaker_on Made More f side config (OfKexinit ∷ sent) a b h = (tt, weaker_on Made More f side config sent _ b h.1)
weaker_on Made More f side config (OfPayload p ∷ sent) a b h = (h.0, weaker_on Made More f side config sent _ b h.1)
weaker_on Made More f side config (OfValue left ∷ sent) a b h =
    (f a.stream left h.0, weaker_on Made More f side config sent _ b h.1)
weaker_on Made More f side config (OfKeys made ∷ sent) a b h = (tt, weaker_on Made More f side config sent _ b h.1)
weaker_on Made More f side config (OfNumbers ∷ sent) a b h = (tt, weaker_on Made More f side config sent _ b h.1)

-- what draws no value draws as any agreement's side does
pub sends_weaker : (Made : Stream → Stream → Type 0) (side : Side) (config : Config) (a b : Sender)
    → SendsDrawn (NoneMade side) side config a b → SendsDrawn Made side config a b
sends_weaker Made side config a b h = (h.0, weaker_on (NoneMade side) Made (λ s t n. absurd n) side config h.0 a b h.1)

-- ---- packets

-- one that a writer sent
packet_sent : (old new : Writer) (records : List FinishedExchange) (payload : List ℕ) (before stream left : Stream)
    → Sends old payload stream new → left ≡ stream_after old.sealing payload stream
    → sender_at new records left ≡ with_packet (sender_at old records before) payload stream
packet_sent old new records [] before stream left h l = ap (λ (w : Writer). sender_at w records left) h
    ∙ ap (λ (s : Stream). sender_at old records s) l
packet_sent old new records (b ∷ rest) before stream left h l = ap (λ (w : Writer). sender_at w records left) h
    ∙ ap (λ (s : Stream). record (with_packet (sender_at old records before) (b ∷ rest) stream) { stream = s }) l

pub payload_sent : (Made : Stream → Stream → Type 0) (side : Side) (config : Config) (old new : Writer)
    (records : List FinishedExchange) (payload : List ℕ) (stream left : Stream) → is_kexinit payload ≡ false
    → Sends old payload stream new → left ≡ stream_after old.sealing payload stream
    → SendsDrawn Made side config (sender_at old records stream) (sender_at new records left)
payload_sent Made side config old new records payload stream left k h l =
    (OfPayload payload ∷ [], (k, packet_sent old new records payload stream stream left h l))

-- those of a machine
written_sent : (Made : Stream → Stream → Type 0) (side : Side) (config : Config) (written : List (List ℕ))
    (old new : Writer) (records : List FinishedExchange) (before left : Stream) → SendsAll old written before new left
    → SendsDrawn Made side config (sender_at old records before) (sender_at new records left)
written_sent Made side config [] old new records before left h =
    ([], ap (λ (w : Writer). sender_at w records left) h.0 ∙ ap (λ (s : Stream). sender_at old records s) h.1)
written_sent Made side config (p ∷ payloads) old new records before left h =
    let between = stream_after old.sealing p before in
    sends_join Made side config (sender_at old records before) (sender_at h.1 records between)
    (sender_at new records left)
    (payload_sent Made side config old h.1 records p before between h.0 h.2 refl)
    (written_sent Made side config payloads h.1 new records between left h.3)

-- ---- values

-- the value that a step made, or none
started : (by_client : ClientRelation) (by_server : ServerRelation) (before behind : Stream) (next : Option Stage)
    → StartsFrom by_client before next behind → (behind ≡ before) ⊎ MadeBy by_client by_server Client before behind
started by_client by_server before behind None h = inl h
started by_client by_server before behind (Some (Created own)) h = inl h
started by_client by_server before behind (Some (AwaitsGroup o)) h = inl h
started by_client by_server before behind (Some (AwaitsReply o gex local public)) h = inr
    (o.names.kex, Rattle.ssh_kex.specs.Setting.group_of gex, h.local, public, h.drawn)
started by_client by_server before behind (Some (AwaitsRequest o)) h = inl h
started by_client by_server before behind (Some (AwaitsValue o gex)) h = inl h
started by_client by_server before behind (Some (AwaitsNewkeys exchange made host)) h = inl h

answered : (by_client : ClientRelation) (by_server : ServerRelation) (before behind : Stream) (next : Option Stage)
    → AnswersFrom by_server before next behind → (behind ≡ before) ⊎ MadeBy by_client by_server Server before behind
answered by_client by_server before behind None h = inl h
answered by_client by_server before behind (Some (Created own)) h = inl h
answered by_client by_server before behind (Some (AwaitsGroup o)) h = inl h
answered by_client by_server before behind (Some (AwaitsReply o gex local public)) h = inl h
answered by_client by_server before behind (Some (AwaitsRequest o)) h = inl h
answered by_client by_server before behind (Some (AwaitsValue o gex)) h = inl h
answered by_client by_server before behind (Some (AwaitsNewkeys exchange made host)) h = inr (
  made.names.kex,
  Rattle.ssh_kex.specs.Setting.group_of exchange.gex,
  exchange.client_ephemeral,
  exchange.server_ephemeral,
  h.secret,
  h.drawn,
)

made_in : (by_client : ClientRelation) (by_server : ServerRelation) (side : Side) (before behind : Stream)
    (stage : Stage) (next : Option Stage) → DrawnBySide by_client by_server side before stage next behind
    → (behind ≡ before) ⊎ MadeBy by_client by_server side before behind
made_in by_client by_server Client before behind (Created own) next h = started by_client by_server before behind next h
made_in by_client by_server Client before behind (AwaitsGroup o) next h = started by_client by_server before behind next
    h
made_in by_client by_server Client before behind (AwaitsReply o gex local public) next h = inl h
made_in by_client by_server Client before behind (AwaitsRequest o) next h = inl h
made_in by_client by_server Client before behind (AwaitsValue o gex) next h = inl h
made_in by_client by_server Client before behind (AwaitsNewkeys exchange made host) next h = inl h
made_in by_client by_server Server before behind (Created own) next h = inl h
made_in by_client by_server Server before behind (AwaitsGroup o) next h = inl h
made_in by_client by_server Server before behind (AwaitsReply o gex local public) next h = inl h
made_in by_client by_server Server before behind (AwaitsRequest o) next h = inl h
made_in by_client by_server Server before behind (AwaitsValue o gex) next h = answered by_client by_server before behind
    next h
made_in by_client by_server Server before behind (AwaitsNewkeys exchange made host) next h = inl h

-- ---- a machine's step

pub step_sent : (by_client : ClientRelation) (by_server : ServerRelation) (side : Side) (config : Config)
    (old new : Writer) (records : List FinishedExchange) (before left : Stream) (stage : Stage) (next : Option Stage)
    → StepDraws (DrawnBySide by_client by_server side before stage next) old new left
    → SendsDrawn (MadeBy by_client by_server side) side config (sender_at old records before)
    (sender_at new records left)
step_sent by_client by_server side config old new records before left stage next h = elim
    (made_in by_client by_server side before h.behind stage next h.values) [
      | inl e ↦ written_sent (MadeBy by_client by_server side) side config h.written old new records before left
          (subst (λ (s : Stream). SendsAll old h.written s new left) e h.sends)
      | inr m ↦ sends_join (MadeBy by_client by_server side) side config (sender_at old records before)
          (sender_at old records h.behind) (sender_at new records left)
          (OfValue h.behind ∷ [], (m, refl)) (written_sent (MadeBy by_client by_server side) side config h.written old new
          records h.behind left h.sends)
    ]

-- the numbers behind it
pub numbers_sent : (Made : Stream → Stream → Type 0) (side : Side) (config : Config) (reset : Bool) (old new : Writer)
    (records : List FinishedExchange) (stream : Stream) → new ≡ record old
    { number = Rattle.ssh_packet.specs.Stream.kept_number reset old.number }
    → SendsDrawn Made side config (sender_at old records stream) (sender_at new records stream)
numbers_sent Made side config true old new records stream e =
    (OfNumbers ∷ [], (tt, ap (λ (w : Writer). sender_at w records stream) e))
numbers_sent Made side config false old new records stream e = ([], ap (λ (w : Writer). sender_at w records stream) e)

-- ---- a KEXINIT

-- it has some bytes
drawn_some : (preferred : Preferences) (hosts : Option Hosts) (stream : Stream)
    → 0 < length (kexinit_drawn preferred hosts stream)
unfolding kexinit
drawn_some preferred hosts stream = omega arith

kexinit_wrote : (side : Side) (config : Config) (old new : Writer) (records : List FinishedExchange)
    (stream left : Stream) → Sends old (kexinit_with side config stream) (behind_cookie stream) new
    → left ≡ stream_after old.sealing (kexinit_with side config stream) (behind_cookie stream)
    → SendsDrawn (NoneMade side) side config (sender_at old records stream) (sender_at new records left)
kexinit_wrote side config old new records stream left h l = (
  OfKexinit ∷ [],
  (
    tt,
    packet_sent old new records (kexinit_with side config stream) stream (behind_cookie stream)
        left h l,
  ),
)

pub client_wrote : (side : Side) (config : Config) (old new : Writer) (stream left : Stream)
    (answer : Result (Unit {0}) Error) → side ≡ Client → OnOk answer
    (Sends old (kexinit_drawn config.preferred None stream) (behind_cookie stream) new)
    → OnOk answer (left ≡ stream_after old.sealing (kexinit_drawn config.preferred None stream) (behind_cookie stream))
    → OnOk answer (PutsKexinit side config old stream new left)
client_wrote side config old new stream left (Ok u) e h l = subst
    (λ (x : Side). PutsKexinit x config old stream new left) (sym e) (h, l)
client_wrote side config old new stream left (Err x) e h l = tt

pub server_wrote : (side : Side) (config : Config) (old new : Writer) (stream left : Stream)
    (answer : Result (Unit {0}) Error) → side ≡ Server → OnOk answer
    (Sends old (kexinit_drawn config.preferred (Some config.host) stream) (behind_cookie stream) new)
    → OnOk answer (left ≡ stream_after old.sealing (kexinit_drawn config.preferred (Some config.host) stream)
    (behind_cookie stream))
    → OnOk answer (PutsKexinit side config old stream new left)
server_wrote side config old new stream left (Ok u) e h l = subst
    (λ (x : Side). PutsKexinit x config old stream new left) (sym e) (h, l)
server_wrote side config old new stream left (Err x) e h l = tt

-- it went behind the output, as a packet
puts_output : (side : Side) (config : Config) (old new : Writer) (stream left : Stream)
    → PutsKexinit side config old stream new left → new.output ≡ old.output ++ kexinit_packet side config
    (writing_at old) stream
puts_output Client config old new stream left h = packet_next old new (kexinit_drawn config.preferred None stream)
    (behind_cookie stream) (drawn_some config.preferred None stream) h.0
puts_output Server config old new stream left h = packet_next old new
    (kexinit_drawn config.preferred (Some config.host) stream) (behind_cookie stream)
    (drawn_some config.preferred (Some config.host) stream) h.0

-- that of the machine which a side makes
pub opens_with : (s : Session) (m : Machine) (new : Writer) (cause : KexCause) (peer : List ℕ) (stream left : Stream)
    → m.setting ≡ setting_between s.side s.config.now peer cause
    → PutsKexinit m.setting.side m.setting.config s.writer stream new left
    → OpensWith s (record s { writer = new }) stream left
opens_with s m new cause peer stream left e h =
    let k : PutsKexinit s.side s.config.now s.writer stream new left =
    subst (λ (x : Config). PutsKexinit s.side x s.writer stream new left)
    (ap (λ x. x.config) e ∙ between_config s.side s.config.now peer cause)
    (subst (λ (x : Side). PutsKexinit x m.setting.config s.writer stream new left)
    (ap (λ x. x.side) e ∙ between_side s.side s.config.now peer cause) h) in
    record {
      first = puts_output s.side s.config.now s.writer new stream left k;
      wrote = kexinit_wrote s.side s.config.now s.writer new s.finished.items stream left k.0 k.1;
    }

-- ---- of itself

pub wrote_join : (a b c : Session) (s t u : Stream) → IsFixed a b → WritesDrawn a b s t → WritesDrawn b c t u
    → WritesDrawn a c s u
wrote_join a b c s t u f h k = sends_join (NoneMade a.side) a.side a.config.now (sender_of a s) (sender_of b t)
    (sender_of c u) h
    (subst (λ (x : Side). SendsDrawn (NoneMade x) x a.config.now (sender_of b t) (sender_of c u)) f.0
    (subst (λ (x : Bor Config). SendsDrawn (NoneMade b.side) b.side x.now (sender_of b t) (sender_of c u)) f.1 k))

-- a payload that may be submitted isn't a KEXINIT
pub good_plain : (payload : List ℕ) → is_good_payload payload ≡ true → is_kexinit payload ≡ false
good_plain [] g = cc
good_plain (b ∷ rest) g = grind (arith, nat_tests)

pub wrote_payload : (s : Session) (new : Writer) (payload : List ℕ) (stream left : Stream)
    → is_good_payload payload ≡ true → Sends s.writer payload stream new
    → left ≡ stream_after s.writer.sealing payload stream → WritesDrawn s (record s { writer = new }) stream left
wrote_payload s new payload stream left g h l = payload_sent (NoneMade s.side) s.side s.config.now s.writer new
    s.finished.items payload stream left (good_plain payload g) h l

pub wrote_nothing : (s : Session) (stream : Stream) → WritesDrawn s s stream stream
wrote_nothing s stream = sends_still (NoneMade s.side) s.side s.config.now (sender_of s stream)

-- the first payload that is held
pub popped_good : (s : Session) (payload bytes : List ℕ) (rest : List (List ℕ)) → AreGood s.held.items
    → s.held.items ≡ payload ∷ rest → bytes ≡ payload → is_good_payload bytes ≡ true
popped_good s payload bytes rest good e b =
    let all : AreGood (payload ∷ rest) = subst AreGood e good in
    subst (λ (x : List ℕ). is_good_payload x ≡ true) (sym b) all.0
