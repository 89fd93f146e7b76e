-- Behind a turn there is a snapshot again, and what a loop keeps of its steps follows.
use Rattle.std.proofs.Common.{◌≡◌, ℕ, zero, suc, ◌+◌, ◌<◌, ◌≤◌, List, [], ◌∷◌, ◌++◌, length, refl, sym, ◌∙◌, ap, subst, arith, Option, Some, None, Bool, append-nil, append_assoc, inl}
use Rattle.ssh_wire.specs.Lines.{id_line}
use Rattle.ssh_wire.specs.Sides.{other_side}
use Rattle.ssh_wire.specs.declared.side.Side.{Side}
use Rattle.ssh_wire.specs.declared.side.Side.TheVariants.{Client, Server}
use Rattle.ssh_kex.specs.Setting.{Says}
use Rattle.ssh_kex.specs.declared.config.Config.{Config}
use Rattle.ssh_rules.specs.Log.{sent_bytes, submitted_in, causes_in, asked_in}
use Rattle.ssh_rules.specs.Machine.{Event, Steps}
use Rattle.ssh_rules.specs.Laws.{OneSecret, FindsCanonical}
use Rattle.ssh_rules.specs.Snapshots.{HasCome, IsAtRest, IsMarkOf, IsSnapshot, LeadsOn, OneSideTurns, ReadsAll, Snapshot, StandsAs, client_behind, client_log, if_client, if_server, kind_chosen, server_behind, server_log}
use Rattle.ssh_rules.specs.Standing.{IsNew, Standing}
use Rattle.ssh_rules.specs.Turns.{LinkEnd, PlaysTurn, Plays, TakesTurn, Talkers, Turn, World, first_end, talkers}
use Rattle.ssh_rules.specs.Valid.{HasSizes, config_fault}
use Rattle.ssh_rules.specs.declared.link.SideMark.{SideMark}
use Rattle.ssh_rules.specs.declared.link.Step as link
use Rattle.ssh_rules.specs.declared.link.Step.TheVariants.{Rekey}
use Rattle.ssh_rules.proofs.turns.LinkBounded.{causes_more, front_of_held}
use Rattle.ssh_rules.proofs.headline.LinkIs.{asked_more}
use Rattle.ssh_rules.proofs.pair.KindRead.{reads_kind}
use Rattle.ssh_rules.proofs.pair.OneKind.{ReadsKind, of_kind}
use Rattle.ssh_rules.proofs.side.Ran.{steps_join, sent_join}
use Rattle.ssh_rules.proofs.marks.Trail.{plays_join, client_join, server_join}
use Rattle.ssh_rules.proofs.turns.Turns.{AreFit, client_held, server_held}
use Rattle.ssh_rules.proofs.side.Valid.{are_fit, is_within}

-- ---- what is known of a link

pub record IsKnown (t : Talkers) (kind : Bool) : Type 0 where
  pub fit : AreFit t
  pub sizes : (side : Side) → HasSizes (t.config side)
  pub reads : (side : Side) → ReadsKind side (t.config side) (t.config (other_side side)) kind

pub is_known : (says : Side → Says) (config : Side → Config) → ((side : Side) → config_fault side (config side) ≡ None) → ((side : Side) → HasSizes (config side)) → OneSecret (says Client) (says Server) → FindsCanonical (says Server) → IsKnown (talkers says config) (kind_chosen config)
is_known says config valid sizes secret canonical = record {
  fit = are_fit says config valid sizes secret canonical;
  sizes = sizes;
  reads = reads_kind config (is_within Client (config Client) (valid Client)) (is_within Server (config Server) (valid Server));
}

-- a new transport is a side at the start
pub new_stands : (says : Side → Says) (config : Side → Config) (side : Side) (s : Standing) → 0 < length (id_line (config (other_side side)).id) → IsNew side (config side) s → StandsAs (talkers says config) side [] s first_end
new_stands says config side s l e = record {
  side_is = ap (λ (x : Standing). x.side) e;
  config_is = ap (λ (x : Standing). x.config) e;
  state_is = ap (λ (x : Standing). x.state) e;
  live = ap (λ (x : Standing). x.failed) e;
  come = subst (λ (x : Standing). HasCome (id_line (config (other_side side)).id) [] x.line x.waiting first_end) (sym e) (inl (record { reading_is = refl; few = l; unheard = refl; fed = refl; unfinished = refl; waiting_is = refl }));
}

-- ---- a turn of the client

pub client_snapshot : (t : Talkers) (kind : Bool) (s : Snapshot) (piece : List ℕ) (events : List Event) (h : LinkEnd) (m : SideMark) → IsKnown t kind → IsSnapshot t kind s → TakesTurn t Client s.world.client piece events s.world.server h → IsAtRest (t.config Client) h → IsMarkOf t Client (s.cl ++ events) h m → IsSnapshot t kind (client_behind s events h m)
client_snapshot t kind s piece events h m k i turn rests mark =
    let held = client_held t s.world s.cl s.sl piece events (record s.world { client = h }) k.fit i.held (turn, refl) in
    let front = front_of_held t (record s.world { client = h }) (s.cl ++ events) s.sl k.fit held in
    record {
      held = held;
      client_rests = rests;
      server_rests = i.server_rests;
      client_kinds = of_kind t Client kind (s.cl ++ events) s.sl h s.world.server (k.sizes Server) (k.reads Client) held.client held.server front.0;
      server_kinds = i.server_kinds;
      client_mark = mark;
      server_mark = i.server_mark;
    }

pub client_turned : (t : Talkers) (kind : Bool) (s : Snapshot) (piece : List ℕ) (events : List Event) (h : LinkEnd) (m : SideMark) → IsSnapshot t kind s → TakesTurn t Client s.world.client piece events s.world.server h → IsMarkOf t Client (s.cl ++ events) h m → OneSideTurns t Client events s (client_behind s events h m)
client_turned t kind s piece events h m i turn mark = record {
  turned = record { steps = turn.steps; sends = turn.sends; before = i.client_mark; behind = mark };
  stays = refl;
  other = refl;
  log = refl;
  other_log = refl;
}

none_asked : (step : Option link.Step) (side : Side) → 1 ≤ asked_in (causes_in []) → step ≡ Some (Rekey side)
none_asked step side l = absurd (omega (arith, l))

pub client_leads : (t : Talkers) (step : Option link.Step) (s : Snapshot) (piece : List ℕ) (events : List Event) (h : LinkEnd) (m : SideMark) → TakesTurn t Client s.world.client piece events s.world.server h → (1 ≤ asked_in (causes_in events) → step ≡ Some (Rekey Client)) → LeadsOn t step s (client_behind s events h m)
client_leads t step s piece events h m turn asked = record {
  turns = record { side = Client; piece = piece; events = events } ∷ [];
  plays = (record s.world { client = h }, (turn, refl), refl);
  cl = ap (λ q. s.cl ++ q) (sym (append-nil events));
  sl = sym (append-nil s.sl);
  client_asked = subst (λ q. 1 ≤ asked_in (causes_in q) → step ≡ Some (Rekey Client)) (sym (append-nil events)) asked;
  server_asked = none_asked step Server;
}

-- ---- a turn of the server

pub server_snapshot : (t : Talkers) (kind : Bool) (s : Snapshot) (piece : List ℕ) (events : List Event) (h : LinkEnd) (m : SideMark) → IsKnown t kind → IsSnapshot t kind s → TakesTurn t Server s.world.server piece events s.world.client h → IsAtRest (t.config Server) h → IsMarkOf t Server (s.sl ++ events) h m → IsSnapshot t kind (server_behind s events h m)
server_snapshot t kind s piece events h m k i turn rests mark =
    let held = server_held t s.world s.cl s.sl piece events (record s.world { server = h }) k.fit i.held (turn, refl) in
    let front = front_of_held t (record s.world { server = h }) s.cl (s.sl ++ events) k.fit held in
    record {
      held = held;
      client_rests = i.client_rests;
      server_rests = rests;
      client_kinds = i.client_kinds;
      server_kinds = of_kind t Server kind (s.sl ++ events) s.cl h s.world.client (k.sizes Client) (k.reads Server) held.server held.client front.1;
      client_mark = i.client_mark;
      server_mark = mark;
    }

pub server_turned : (t : Talkers) (kind : Bool) (s : Snapshot) (piece : List ℕ) (events : List Event) (h : LinkEnd) (m : SideMark) → IsSnapshot t kind s → TakesTurn t Server s.world.server piece events s.world.client h → IsMarkOf t Server (s.sl ++ events) h m → OneSideTurns t Server events s (server_behind s events h m)
server_turned t kind s piece events h m i turn mark = record {
  turned = record { steps = turn.steps; sends = turn.sends; before = i.server_mark; behind = mark };
  stays = refl;
  other = refl;
  log = refl;
  other_log = refl;
}

pub server_leads : (t : Talkers) (step : Option link.Step) (s : Snapshot) (piece : List ℕ) (events : List Event) (h : LinkEnd) (m : SideMark) → TakesTurn t Server s.world.server piece events s.world.client h → (1 ≤ asked_in (causes_in events) → step ≡ Some (Rekey Server)) → LeadsOn t step s (server_behind s events h m)
server_leads t step s piece events h m turn asked = record {
  turns = record { side = Server; piece = piece; events = events } ∷ [];
  plays = (record s.world { server = h }, (turn, refl), refl);
  cl = sym (append-nil s.cl);
  sl = ap (λ q. s.sl ++ q) (sym (append-nil events));
  client_asked = none_asked step Client;
  server_asked = subst (λ q. 1 ≤ asked_in (causes_in q) → step ≡ Some (Rekey Server)) (sym (append-nil events)) asked;
}

-- ---- turns of one step, one after the other

-- no turn at all
pub leads_stay : (t : Talkers) (step : Option link.Step) (s : Snapshot) → LeadsOn t step s s
leads_stay t step s = record { turns = []; plays = refl; cl = sym (append-nil s.cl); sl = sym (append-nil s.sl); client_asked = none_asked step Client; server_asked = none_asked step Server }

joined : (x y z a b c : List Event) → y ≡ x ++ a → z ≡ y ++ b → c ≡ a ++ b → z ≡ x ++ c
joined x y z a b c e f g = f ∙ (ap (λ q. q ++ b) e ∙ (append_assoc x a b ∙ ap (λ q. x ++ q) (sym g)))

asked_either : (step : Option link.Step) (side : Side) (a b c : List Event) → c ≡ a ++ b → (1 ≤ asked_in (causes_in a) → step ≡ Some (Rekey side)) → (1 ≤ asked_in (causes_in b) → step ≡ Some (Rekey side)) → 1 ≤ asked_in (causes_in c) → step ≡ Some (Rekey side)
asked_either step side a b c e f g l = by (asked_in (causes_in a)) refl where
  both : asked_in (causes_in c) ≡ asked_in (causes_in a) + asked_in (causes_in b)
  both = ap (λ q. asked_in (causes_in q)) e ∙ (ap asked_in (causes_more a b) ∙ asked_more (causes_in a) (causes_in b))

  by : (n : ℕ) → asked_in (causes_in a) ≡ n → step ≡ Some (Rekey side)
  by zero z = g (let k = both in omega (arith, k, z, l))
  by (suc n) z = f (omega (arith, z))

pub leads_join : (t : Talkers) (step : Option link.Step) (a b c : Snapshot) → LeadsOn t step a b → LeadsOn t step b c → LeadsOn t step a c
leads_join t step a b c p q = record {
  turns = p.turns ++ q.turns;
  plays = plays_join t p.turns q.turns a.world b.world c.world p.plays q.plays;
  cl = joined a.cl b.cl c.cl (client_log p.turns) (client_log q.turns) (client_log (p.turns ++ q.turns)) p.cl q.cl (client_join p.turns q.turns);
  sl = joined a.sl b.sl c.sl (server_log p.turns) (server_log q.turns) (server_log (p.turns ++ q.turns)) p.sl q.sl (server_join p.turns q.turns);
  client_asked = asked_either step Client (client_log p.turns) (client_log q.turns) (client_log (p.turns ++ q.turns)) (client_join p.turns q.turns) p.client_asked q.client_asked;
  server_asked = asked_either step Server (server_log p.turns) (server_log q.turns) (server_log (p.turns ++ q.turns)) (server_join p.turns q.turns) p.server_asked q.server_asked;
}

-- ---- a settle

-- what turns did on one side
pub record HasGone (t : Talkers) (side : Side) (events : List Event) (h h' : LinkEnd) : Type 0 where
  pub steps : Steps (t.says side) side (t.config side) (t.own_id side) h.state events h'.state
  pub sends : h'.sent ≡ h.sent ++ sent_bytes side h.state.writing events

gone_none : (t : Talkers) (side : Side) (h h' : LinkEnd) → h' ≡ h → HasGone t side [] h h'
gone_none t side h h' e = record { steps = ap (λ (x : LinkEnd). x.state) e; sends = ap (λ (x : LinkEnd). x.sent) e ∙ sym (append-nil h.sent) }

gone_more : (t : Talkers) (side : Side) (a b : List Event) (h m h' : LinkEnd) → HasGone t side a h m → HasGone t side b m h' → HasGone t side (a ++ b) h h'
gone_more t side a b h m h' p q = record {
  steps = steps_join (t.says side) side (t.config side) (t.own_id side) a b h.state m.state h'.state p.steps q.steps;
  sends = q.sends ∙ (ap (λ z. z ++ sent_bytes side m.state.writing b) p.sends ∙ (append_assoc h.sent (sent_bytes side h.state.writing a) (sent_bytes side m.state.writing b) ∙ ap (λ z. h.sent ++ z) (sym (sent_join (t.says side) side (t.config side) (t.own_id side) a b h.state m.state p.steps))));
}

client_gone : (t : Talkers) (turns : List Turn) (w w' : World) → Plays t w turns w' → HasGone t Client (client_log turns) w.client w'.client
client_gone t [] w w' p = gone_none t Client w.client w'.client (ap (λ (v : World). v.client) p)
client_gone t (u ∷ turns) w w' p = by u.side p.1 (client_gone t turns p.0 w' p.2) where
  by : (sd : Side) → PlaysTurn t w sd u.piece u.events p.0 → HasGone t Client (client_log turns) p.0.client w'.client → HasGone t Client (if_client sd u.events (client_log turns)) w.client w'.client
  by Client q r = gone_more t Client u.events (client_log turns) w.client p.0.client w'.client (record { steps = q.0.steps; sends = q.0.sends }) r
  by Server q r = subst (λ x. HasGone t Client (client_log turns) x w'.client) q.1 r

server_gone : (t : Talkers) (turns : List Turn) (w w' : World) → Plays t w turns w' → HasGone t Server (server_log turns) w.server w'.server
server_gone t [] w w' p = gone_none t Server w.server w'.server (ap (λ (v : World). v.server) p)
server_gone t (u ∷ turns) w w' p = by u.side p.1 (server_gone t turns p.0 w' p.2) where
  by : (sd : Side) → PlaysTurn t w sd u.piece u.events p.0 → HasGone t Server (server_log turns) p.0.server w'.server → HasGone t Server (if_server sd u.events (server_log turns)) w.server w'.server
  by Server q r = gone_more t Server u.events (server_log turns) w.server p.0.server w'.server (record { steps = q.0.steps; sends = q.0.sends }) r
  by Client q r = subst (λ x. HasGone t Server (server_log turns) x w'.server) q.1 r

-- Turns of both that submit nothing, till all is taken, are a settle.
pub settle_turns : (t : Talkers) (kind : Bool) (step : Option link.Step) (s s' : Snapshot) → IsSnapshot t kind s → IsSnapshot t kind s' → (l : LeadsOn t step s s') → submitted_in (client_log l.turns) ≡ [] → submitted_in (server_log l.turns) ≡ [] → s'.mark.client.taken ≡ s'.mark.server.sent → s'.mark.server.taken ≡ s'.mark.client.sent → ReadsAll t s s'
settle_turns t kind step s s' i i' l cn sn to_c to_s =
    let c = client_gone t l.turns s.world s'.world l.plays in
    let v = server_gone t l.turns s.world s'.world l.plays in
    record {
      client_events = client_log l.turns;
      server_events = server_log l.turns;
      client = record { steps = c.steps; sends = c.sends; before = i.client_mark; behind = subst (λ q. IsMarkOf t Client q s'.world.client s'.mark.client) l.cl i'.client_mark };
      server = record { steps = v.steps; sends = v.sends; before = i.server_mark; behind = subst (λ q. IsMarkOf t Server q s'.world.server s'.mark.server) l.sl i'.server_mark };
      client_log = l.cl;
      server_log = l.sl;
      client_none = cn;
      server_none = sn;
      to_client = to_c;
      to_server = to_s;
    }
