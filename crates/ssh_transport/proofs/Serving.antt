-- What is asked of the parts between two sessions, and what is drawn meanwhile.
use Rattle.std.proofs.Common.{◌≡◌, ◌∙◌, ℕ, List, [], ◌∷◌, ◌++◌, sym, ap, subst, Option, None, Result, Ok, Err, OnOk}
use Rattle.std.specs.Borrow.{Bor}
use Rattle.rand_core.specs.Stream.{Stream}
use Rattle.ssh_wire.specs.declared.error.Error.{Error}
use Rattle.ssh_wire.specs.declared.side.Side.{Side}
use Rattle.ssh_negotiate.specs.declared.negotiation.Names.{Names}
use Rattle.ssh_packet.specs.Keys.{sealing_of}
use Rattle.ssh_packet.specs.Sealing.{Sealing}
use Rattle.ssh_packet.specs.Writing.{Writer}
use Rattle.ssh_packet.specs.declared.reader.Incoming.{Incoming}
use Rattle.ssh_kex.specs.Exchange.{outgoing, sealing_after}
use Rattle.ssh_kex.specs.Setting.{Says, Setting}
use Rattle.ssh_kex.specs.Stages.{Machine}
use Rattle.ssh_kex.specs.Stepping.{IsDone}
use Rattle.ssh_kex.specs.declared.config.Config.{Config}
use Rattle.ssh_kex.specs.declared.exchange.FinishedExchange.{FinishedExchange}
use Rattle.ssh_kex.specs.declared.exchange.Keys.{Keys}
use Rattle.ssh_kex.specs.declared.exchange.NewKeys.{NewKeys}
use Rattle.ssh_kex.specs.declared.exchange.ServerHost.{ServerHost}
use Rattle.ssh_rules.specs.Valid.{config_fault}
use Rattle.ssh_transport.specs.Asking.{AsksBetween, PartTally}
use Rattle.ssh_transport.specs.Handling.{Installs, IsFor, IsOpen, Moves}
use Rattle.ssh_transport.specs.Saying.{GoesOn, IsFixed}
use Rattle.ssh_transport.specs.Sending.{MoveServes, NoneMade, OfKeys, Sender, SendsBetween, SendsDrawn, ServesBetween, ServesCall, WritesDrawn, sender_at, sender_of}
use Rattle.ssh_transport.specs.States.{standing_of}
use Rattle.ssh_transport.specs.Taking.{TakesUp}
use Rattle.ssh_transport.specs.declared.connection.Connection.{Connection}
use Rattle.ssh_transport.specs.declared.session.Disposition.{Disposition}
use Rattle.ssh_transport.specs.Handling.{GivesKeys, GivesNothing, GivesPayload, Outcome}
use Rattle.ssh_transport.specs.declared.session.Session.{Session}
use Rattle.ssh_transport.proofs.Asking.{asks_on, between_join, between_same, message_asks}
use Rattle.ssh_transport.proofs.Kexinits.{between_side}
use Rattle.ssh_transport.proofs.Refusing.{set_for}
use Rattle.ssh_transport.proofs.Sending.{sends_join, sends_still, sends_weaker}

-- ---- one after the other

pub serves_same : (Made : Side → Stream → Stream → Type 0) (s s' : Session) (n : PartTally) (stream : Stream) → s' ≡ s
    → ServesBetween Made s s' n n stream stream
serves_same Made s s' n stream e = record {
  asks = between_same s s' n e;
  drawn = subst (λ (x : Session). SendsDrawn (Made s.side) s.side s.config.now (sender_of s stream)
      (sender_of x stream)) (sym e) (sends_still (Made s.side) s.side s.config.now (sender_of s stream));
}

-- of the same side
sends_fixed : (Made : Side → Stream → Stream → Type 0) (a b : Session) (w w' : Sender) → IsFixed a b
    → SendsDrawn (Made b.side) b.side b.config.now w w' → SendsDrawn (Made a.side) a.side a.config.now w w'
sends_fixed Made a b w w' f h = subst (λ (x : Side). SendsDrawn (Made x) x a.config.now w w') f.0
    (subst (λ (x : Bor Config). SendsDrawn (Made b.side) b.side x.now w w') f.1 h)

pub serves_join : (Made : Side → Stream → Stream → Type 0) (a b c : Session) (n m k : PartTally) (s t u : Stream)
    → IsFixed a b → ServesBetween Made a b n m s t → ServesBetween Made b c m k t u → ServesBetween Made a c n k s u
serves_join Made a b c n m k s t u f p q = record {
  asks = between_join a b c n m k f.0 p.asks q.asks;
  drawn = sends_join (Made a.side) a.side a.config.now (sender_of a s) (sender_of b t) (sender_of c u) p.drawn
      (sends_fixed Made a b (sender_of b t) (sender_of c u) f q.drawn);
}

-- what a side writes of itself asks nobody
pub serves_wrote : (Made : Side → Stream → Stream → Type 0) (s s' : Session) (n n' : PartTally)
    (stream stream' : Stream) → AsksBetween s s' n n' → WritesDrawn s s' stream stream'
    → ServesBetween Made s s' n n' stream stream'
serves_wrote Made s s' n n' stream stream' a w = record
    { asks = a; drawn = sends_weaker (Made s.side) s.side s.config.now (sender_of s stream) (sender_of s' stream') w }

-- where only what is read changed before
pub wrote_from : (a b c : Session) (stream stream' : Stream) → b ≡ a → WritesDrawn b c stream stream'
    → WritesDrawn a c stream stream'
wrote_from a b c stream stream' e h = subst (λ (x : Session). WritesDrawn x c stream stream') e h

pub serves_on : (Made : Side → Stream → Stream → Type 0) (c c1 c2 : Connection) (answer : Disposition) (s' : Session)
    (read : ℕ) (n n' : PartTally) (s t u : Stream) → IsFixed c.session c1.session
    → ServesBetween Made c.session c1.session n n' s t → TakesUp answer c1 c2 → GoesOn c2.session read s'
    → WritesDrawn c2.session s' t u → ServesBetween Made c.session s' n n' s u
serves_on Made c c1 c2 answer s' read n n' s t u f a up g w = record {
  asks = asks_on c c1 c2 answer s' read n n' f a.asks up g;
  drawn = sends_join (Made c.session.side) c.session.side c.session.config.now (sender_of c.session s)
      (sender_of c1.session t) (sender_of s' u) a.drawn
      (sends_fixed Made c.session c1.session (sender_of c1.session t) (sender_of s' u) f
      (sends_weaker (Made c1.session.side) c1.session.side c1.session.config.now (sender_of c1.session t)
      (sender_of s' u) (wrote_from c1.session c2.session s' t u (ap (λ (x : Connection). x.session) up.rest) w)));
}

-- ---- a message

pub message_serves : (Made : Side → Stream → Stream → Type 0) (says : Says) (s s1 s' : Session) (m : Machine)
    (i : Incoming) (answer : Outcome) (n n' : PartTally) (before between left : Stream)
    → config_fault s.side s.config.now ≡ None → IsOpen s → IsFor s m s1 → IsFixed s s1 → WritesDrawn s s1 before between
    → Moves says s1 m i answer s' → MoveServes Made m s1 s' n n' between left → ServesBetween Made s s' n n' before left
message_serves Made says s s1 s' m i answer n n' before between left v o f x w h a =
    let side : m.setting.side ≡ s.side = ap (λ (q : Setting). q.side) (set_for s s1 m o f)
    ∙ between_side s.side s.config.now _ _ in
    record {
      asks = message_asks says s s1 s' m i answer n n' v o f h a.asks;
      drawn = sends_join (Made s.side) s.side s.config.now (sender_of s before) (sender_of s1 between)
          (sender_of s' left)
          (sends_weaker (Made s.side) s.side s.config.now (sender_of s before) (sender_of s1 between) w)
          (subst (λ (q : Side). SendsDrawn (Made q) q s.config.now (sender_of s1 between) (sender_of s' left)) side
          (subst (λ (q : Bor Config). SendsDrawn (Made m.setting.side) m.setting.side q.now (sender_of s1 between)
          (sender_of s' left)) x.1 a.drawn));
    }

-- the keys of an exchange that ended
pub installs_sent : (Made : Stream → Stream → Type 0) (m : Machine) (i : Incoming) (old new : Writer)
    (host : Option ServerHost) (k : NewKeys) (s s' : Session) (config : Config) (answer : Outcome) (stream : Stream)
    → IsDone m i old host k new → Installs s k answer s' → SendsDrawn Made m.setting.side config (sender_of s stream)
    (sender_of s' stream)
installs_sent Made m i old new host k s s' config GivesPayload stream d h = absurd h
installs_sent Made m i old new host k s s' config GivesNothing stream d h = absurd h
installs_sent Made m i old new host k s s' config (GivesKeys opening again) stream d h =
    let kept : FinishedExchange = record { names = k.names; hash = k.hash; session_id = k.session_id; keys = k.keys } in
    let seals : sealing_of k.cipher.value.local_to_remote ≡ (outgoing m.setting.side kept).sealing =
    d.newkeys.seals ∙ sym (ap (λ (n : Names). sealing_after m.setting.side n d.made.keys) d.newkeys.names_is)
    ∙ sym (ap (λ (q : Keys). sealing_after m.setting.side k.names q) d.newkeys.keys_is) in (
      OfKeys kept ∷ [],
      (
        tt,
        ap (λ (x : Session). sender_at x.writer s'.finished.items stream) h.3
            ∙ ap (λ (r : List FinishedExchange). sender_at (record s.writer
            { sealing = sealing_of k.cipher.value.local_to_remote; count = 0 }) r stream) h.2
            ∙ ap (λ (q : Sealing). sender_at (record s.writer { sealing = q; count = 0 })
            (s.finished.items ++ kept ∷ []) stream) seals,
      ),
    )

-- ---- as contracts see it

pub serves_answer : {T : Type 0} (Made : Side → Stream → Stream → Type 0) (n n' : PartTally) (s s' : Stream)
    (c mid c' : Connection) (answer done : Result T Error) → done ≡ answer → OnOk answer (c' ≡ mid)
    → OnOk answer (ServesBetween Made c.session mid.session n n' s s')
    → OnOk done (ServesCall Made (standing_of c) (standing_of c') n n' s s')
serves_answer {T} Made n n' s s' c mid c' (Ok u) done d e h = subst
    (λ (y : Result T Error). OnOk y (ServesCall Made (standing_of c) (standing_of c') n n' s s')) (sym d)
    (subst (λ (x : Connection). ServesCall Made (standing_of c) (standing_of x) n n' s s') (sym e) (record {
      asks = record {
        agreement = (h.asks.within).agreement;
        hosts = (h.asks.within).hosts;
        lookups =
            (h.asks.within).lookups;
        groups = (h.asks.within).groups;
      };
      answers = record {
        agreement = (h.asks.answers).agreement;
        hosts = (h.asks.answers).hosts;
        lookups =
            (h.asks.answers).lookups;
      };
      sends = h.drawn;
    }))
serves_answer {T} Made n n' s s' c mid c' (Err x) done d e h = subst
    (λ (y : Result T Error). OnOk y (ServesCall Made (standing_of c) (standing_of c') n n' s s')) (sym d) tt

-- of a call that wrote of itself
pub wrote_answer : {T : Type 0} (s s' : Stream) (c c' : Connection) (mid : Session) (answer done : Result T Error)
    → done ≡ answer → OnOk answer (c' ≡ record c { session = mid }) → OnOk answer (WritesDrawn c.session mid s s')
    → OnOk done (SendsBetween NoneMade (standing_of c) (standing_of c') s s')
wrote_answer {T} s s' c c' mid (Ok u) done d e h = subst
    (λ (y : Result T Error). OnOk y (SendsBetween NoneMade (standing_of c) (standing_of c') s s')) (sym d)
    (subst (λ (x : Connection). SendsBetween NoneMade (standing_of c) (standing_of x) s s') (sym e) h)
wrote_answer {T} s s' c c' mid (Err x) done d e h = subst
    (λ (y : Result T Error). OnOk y (SendsBetween NoneMade (standing_of c) (standing_of c') s s')) (sym d) tt
