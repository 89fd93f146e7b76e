-- What each step of a carried link leads to: a snapshot again, by turns of one side or of both.
use Rattle.std.proofs.Common.{◌≡◌, ℕ, zero, suc, ◌+◌, ◌-◌, ◌<◌, ◌≤◌, ◌^◌, List, [], ◌∷◌, ◌++◌, length, map, min, refl, sym, ◌∙◌, ap, subst, arith, Bool, true, false, not, Option, Some, inl, inr}
use Rattle.ssh_wire.specs.declared.side.Side.{Side}
use Rattle.ssh_wire.specs.declared.side.Side.TheVariants.{Client, Server}
use Rattle.ssh_kex.specs.Setting.{Says}
use Rattle.ssh_kex.specs.declared.config.Config.{Config}
use Rattle.ssh_rules.specs.Log.{sent_bytes, submitted_in}
use Rattle.ssh_rules.specs.Machine.{Asked, Event, ExchangeBegun}
use Rattle.ssh_rules.specs.Snapshots.{DoesStep, DoesSteps, IsSnapshot, IsWholeId, LeadsOn, OneSideTurns, Snapshot, TurnsLeadOn, client_behind, client_log, last_snapshot, server_behind, server_log}
use Rattle.ssh_rules.specs.Standing.{RekeyedFrom, is_outside}
use Rattle.ssh_rules.specs.Turns.{talkers}
use Rattle.ssh_rules.specs.declared.link.Mark.{Mark}
use Rattle.ssh_rules.specs.declared.link.Step as link
use Rattle.ssh_rules.specs.declared.link.Step.TheVariants.{Submit, Deliver, Rekey, Settle}
use Rattle.ssh_rules.specs.declared.link.SideMark.{SideMark}
use Rattle.ssh_rules.proofs.Lemmas.{IsKnown, client_leads, client_snapshot, client_turned, leads_join, leads_stay, server_leads, server_snapshot, server_turned, settle_turns, submitted_more}
use Rattle.ssh_run.specs.Carrying.{AsksKeys, CarriedEnd, CarriedLink, CarriesTo, RepeatsTurns, SettlesAll, StepsLink, StepsLinks, SubmitsOne, both_marks, last_link, side_mark}
use Rattle.ssh_run.proofs.SideTurns.{IsSide, SideGoes, begin_goes, carry_goes, is_mark, peer_sends, submit_goes}

-- A snapshot is that of a carried link.
pub record IsTied (says : Side → Says) (config : Side → Config) (kind : Bool) (s : Snapshot) (l : CarriedLink) : Type 0 where
  pub of_client : IsSide says config Client s.cl s.world.client s.world.server l.client
  pub of_server : IsSide says config Server s.sl s.world.server s.world.client l.server
  pub client_mark : s.mark.client ≡ side_mark l.client
  pub server_mark : s.mark.server ≡ side_mark l.server
  pub known : IsKnown (talkers says config) kind → IsSnapshot (talkers says config) kind s

-- a step leads to a snapshot of the link behind it
pub record StepsTo (says : Side → Says) (config : Side → Config) (kind : Bool) (step : link.Step) (s : Snapshot) (l' : CarriedLink) : Type 0 where
  pub next : Snapshot
  pub tied : IsTied says config kind next l'
  pub does : IsKnown (talkers says config) kind → DoesStep (talkers says config) step s next
  pub leads : LeadsOn (talkers says config) (Some step) s next

-- bytes carried to a side lead to one
pub record CarriesOn (says : Side → Says) (config : Side → Config) (kind : Bool) (side : Side) (s : Snapshot) (l' : CarriedLink) : Type 0 where
  pub events : List Event
  pub next : Snapshot
  pub tied : IsTied says config kind next l'
  pub one : IsKnown (talkers says config) kind → OneSideTurns (talkers says config) side events s next
  pub leads : (step : Option link.Step) → LeadsOn (talkers says config) step s next
  pub none : submitted_in events ≡ []
  pub cl : submitted_in next.cl ≡ submitted_in s.cl
  pub sl : submitted_in next.sl ≡ submitted_in s.sl

-- two records of the same fields
same_end : (a b : CarriedEnd) → a.transport ≡ b.transport → a.taken ≡ b.taken → a.delivered ≡ b.delivered → a.submitted ≡ b.submitted → a ≡ b
same_end a b e f g h =
    let p : a ≡ record a { transport = b.transport } = ap (λ q. record a { transport = q }) e in
    let q : record a { transport = b.transport } ≡ record a { transport = b.transport; taken = b.taken } = ap (λ (x : ℕ). record a { transport = b.transport; taken = x }) f in
    let r : record a { transport = b.transport; taken = b.taken } ≡ record a { transport = b.transport; taken = b.taken; delivered = b.delivered } = ap (λ (x : List (List ℕ)). record a { transport = b.transport; taken = b.taken; delivered = x }) g in
    let s : record a { transport = b.transport; taken = b.taken; delivered = b.delivered } ≡ b = ap (λ (x : ℕ). record b { submitted = x }) h in
    p ∙ (q ∙ (r ∙ s))

same_link : (a b : CarriedLink) → a.client ≡ b.client → a.server ≡ b.server → a ≡ b
same_link a b e f =
    let p : a ≡ record a { client = b.client } = ap (λ q. record a { client = q }) e in
    let q : record a { client = b.client } ≡ b = ap (λ q. record b { server = q }) f in
    p ∙ q

none_more : (a b : List Event) → submitted_in b ≡ [] → submitted_in (a ++ b) ≡ submitted_in a
none_more a b e = submitted_more a b ∙ (ap (λ q. submitted_in a ++ q) e ∙ nil_right (submitted_in a)) where
  nil_right : (xs : List (List ℕ)) → xs ++ [] ≡ xs
  nil_right [] = refl
  nil_right (x ∷ xs) = ap (λ q. x ∷ q) (nil_right xs)

-- ---- turns of the client

client_tied : (says : Side → Says) (config : Side → Config) (kind : Bool) (s : Snapshot) (l l' : CarriedLink) (events : List Event) → IsTied says config kind s l → (g : SideGoes says config Client s.cl events s.world.client s.world.server l'.client) → l'.server ≡ l.server → IsTied says config kind (client_behind s events g.behind (side_mark l'.client)) l'
client_tied says config kind s l l' events i g same = record {
  of_client = g.now;
  of_server = subst (λ e. IsSide says config Server s.sl s.world.server g.behind e) (sym same) (peer_sends says config Server s.sl s.world.server s.world.client g.behind l.server (sent_bytes Client s.world.client.state.writing events) g.turn.sends i.of_server);
  client_mark = refl;
  server_mark = i.server_mark ∙ ap side_mark (sym same);
  known = λ k. client_snapshot (talkers says config) kind s g.piece events g.behind (side_mark l'.client) k (i.known k) g.turn g.now.rests (is_mark says config Client (s.cl ++ events) g.behind s.world.server l'.client g.now);
}

client_one : (says : Side → Says) (config : Side → Config) (kind : Bool) (s : Snapshot) (l : CarriedLink) (e' : CarriedEnd) (events : List Event) → IsTied says config kind s l → (g : SideGoes says config Client s.cl events s.world.client s.world.server e') → IsKnown (talkers says config) kind → OneSideTurns (talkers says config) Client events s (client_behind s events g.behind (side_mark e'))
client_one says config kind s l e' events i g k = client_turned (talkers says config) kind s g.piece events g.behind (side_mark e') (i.known k) g.turn (is_mark says config Client (s.cl ++ events) g.behind s.world.server e' g.now)

client_submit : (says : Side → Says) (config : Side → Config) (kind : Bool) (s : Snapshot) (l l' : CarriedLink) (p : List ℕ) → l.client.submitted + 1 < 2 ^ 64 → IsTied says config kind s l → SubmitsOne (says Client) l.client p l'.client → l'.server ≡ l.server → StepsTo says config kind (Submit Client p) s l'
client_submit says config kind s l l' p room i d same =
    let g = submit_goes says config Client s.cl s.world.client s.world.server p l.client l'.client room i.of_client d in
    record {
      next = client_behind s d.call.events g.behind (side_mark l'.client);
      tied = client_tied says config kind s l l' d.call.events i g same;
      does = λ k. (d.call.events, client_one says config kind s l l'.client d.call.events i g k, d.call.one, d.call.none_read, d.taken ∙ sym (ap (λ (m : SideMark). m.taken) i.client_mark));
      leads = client_leads (talkers says config) (Some (Submit Client p)) s g.piece d.call.events g.behind (side_mark l'.client) g.turn (λ q. absurd (let z = d.call.unasked in omega (arith, q, z)));
    }

client_ask : (says : Side → Says) (config : Side → Config) (kind : Bool) (s : Snapshot) (l l' : CarriedLink) → IsTied says config kind s l → AsksKeys (says Client) l.client l'.client → l'.server ≡ l.server → StepsTo says config kind (Rekey Client) s l'
client_ask says config kind s l l' i d same = by (is_outside l.client.transport.state.stands) refl d.call where
  inside_is : (b : Bool) → is_outside l.client.transport.state.stands ≡ b → s.mark.client.inside ≡ not b
  inside_is b o = ap (λ (m : SideMark). m.inside) i.client_mark ∙ ap not o

  by : (b : Bool) → is_outside l.client.transport.state.stands ≡ b → RekeyedFrom b (says Client) l.client.transport l'.client.transport → StepsTo says config kind (Rekey Client) s l'
  by true o b =
      let g = begin_goes says config Client s.cl s.world.client s.world.server l.client l'.client i.of_client b d.taken d.delivered d.submitted in
      record {
        next = client_behind s (ExchangeBegun Asked b.item ∷ []) g.behind (side_mark l'.client);
        tied = client_tied says config kind s l l' (ExchangeBegun Asked b.item ∷ []) i g same;
        does = λ k. inr (b.item, inside_is true o, client_one says config kind s l l'.client (ExchangeBegun Asked b.item ∷ []) i g k, d.taken ∙ sym (ap (λ (m : SideMark). m.taken) i.client_mark));
        leads = client_leads (talkers says config) (Some (Rekey Client)) s g.piece (ExchangeBegun Asked b.item ∷ []) g.behind (side_mark l'.client) g.turn (λ q. refl);
      }
  by false o b = record {
    next = s;
    tied = subst (λ q. IsTied says config kind s q) (sym (same_link l' l (same_end l'.client l.client b d.taken d.delivered d.submitted) same)) i;
    does = λ k. inl (inside_is false o, record { mark = refl; client = refl; server = refl; client_log = refl; server_log = refl });
    leads = leads_stay (talkers says config) (Some (Rekey Client)) s;
  }

pub client_carry : (says : Side → Says) (config : Side → Config) (kind : Bool) (s : Snapshot) (l l' : CarriedLink) (n : ℕ) → IsWholeId (config Server) → IsTied says config kind s l → CarriesTo (says Client) l.client l.server.transport.output n l'.client → l'.server ≡ l.server → CarriesOn says config kind Client s l'
client_carry says config kind s l l' n whole i carried same =
    let d = subst (λ w. CarriesTo (says Client) l.client w n l'.client) i.of_server.output carried in
    let g = carry_goes says config Client s.cl s.world.client s.world.server n l.client l'.client whole i.of_client d in
    record {
      events = d.call.events;
      next = client_behind s d.call.events g.behind (side_mark l'.client);
      tied = client_tied says config kind s l l' d.call.events i g same;
      one = client_one says config kind s l l'.client d.call.events i g;
      leads = λ step. client_leads (talkers says config) step s g.piece d.call.events g.behind (side_mark l'.client) g.turn (λ q. absurd (let z = d.call.input.1 in omega (arith, q, z)));
      none = d.call.input.0;
      cl = none_more s.cl d.call.events d.call.input.0;
      sl = refl;
    }

client_deliver : (says : Side → Says) (config : Side → Config) (kind : Bool) (s : Snapshot) (l l' : CarriedLink) (n : ℕ) → IsWholeId (config Server) → IsTied says config kind s l → CarriesTo (says Client) l.client l.server.transport.output n l'.client → l'.server ≡ l.server → StepsTo says config kind (Deliver Client n) s l'
client_deliver says config kind s l l' n whole i d same =
    let c = client_carry says config kind s l l' n whole i d same in
    let now : s.mark.client.taken ≡ l.client.taken = ap (λ (m : SideMark). m.taken) i.client_mark in
    let sent : s.mark.server.sent ≡ length l.server.transport.output = ap (λ (m : SideMark). m.sent) i.server_mark in
    let next : c.next.mark.client.taken ≡ l'.client.taken = ap (λ (m : SideMark). m.taken) c.tied.client_mark in
    record {
      next = c.next;
      tied = c.tied;
      does = λ k. (c.events, c.one k, c.none, next ∙ (d.taken ∙ (ap (λ x. x + min n (length l.server.transport.output - x)) (sym now) ∙ ap (λ y. s.mark.client.taken + min n (y - s.mark.client.taken)) (sym sent))));
      leads = c.leads (Some (Deliver Client n));
    }

-- ---- turns of the server

server_tied : (says : Side → Says) (config : Side → Config) (kind : Bool) (s : Snapshot) (l l' : CarriedLink) (events : List Event) → IsTied says config kind s l → (g : SideGoes says config Server s.sl events s.world.server s.world.client l'.server) → l'.client ≡ l.client → IsTied says config kind (server_behind s events g.behind (side_mark l'.server)) l'
server_tied says config kind s l l' events i g same = record {
  of_server = g.now;
  of_client = subst (λ e. IsSide says config Client s.cl s.world.client g.behind e) (sym same) (peer_sends says config Client s.cl s.world.client s.world.server g.behind l.client (sent_bytes Server s.world.server.state.writing events) g.turn.sends i.of_client);
  server_mark = refl;
  client_mark = i.client_mark ∙ ap side_mark (sym same);
  known = λ k. server_snapshot (talkers says config) kind s g.piece events g.behind (side_mark l'.server) k (i.known k) g.turn g.now.rests (is_mark says config Server (s.sl ++ events) g.behind s.world.client l'.server g.now);
}

server_one : (says : Side → Says) (config : Side → Config) (kind : Bool) (s : Snapshot) (l : CarriedLink) (e' : CarriedEnd) (events : List Event) → IsTied says config kind s l → (g : SideGoes says config Server s.sl events s.world.server s.world.client e') → IsKnown (talkers says config) kind → OneSideTurns (talkers says config) Server events s (server_behind s events g.behind (side_mark e'))
server_one says config kind s l e' events i g k = server_turned (talkers says config) kind s g.piece events g.behind (side_mark e') (i.known k) g.turn (is_mark says config Server (s.sl ++ events) g.behind s.world.client e' g.now)

server_submit : (says : Side → Says) (config : Side → Config) (kind : Bool) (s : Snapshot) (l l' : CarriedLink) (p : List ℕ) → l.server.submitted + 1 < 2 ^ 64 → IsTied says config kind s l → SubmitsOne (says Server) l.server p l'.server → l'.client ≡ l.client → StepsTo says config kind (Submit Server p) s l'
server_submit says config kind s l l' p room i d same =
    let g = submit_goes says config Server s.sl s.world.server s.world.client p l.server l'.server room i.of_server d in
    record {
      next = server_behind s d.call.events g.behind (side_mark l'.server);
      tied = server_tied says config kind s l l' d.call.events i g same;
      does = λ k. (d.call.events, server_one says config kind s l l'.server d.call.events i g k, d.call.one, d.call.none_read, d.taken ∙ sym (ap (λ (m : SideMark). m.taken) i.server_mark));
      leads = server_leads (talkers says config) (Some (Submit Server p)) s g.piece d.call.events g.behind (side_mark l'.server) g.turn (λ q. absurd (let z = d.call.unasked in omega (arith, q, z)));
    }

server_ask : (says : Side → Says) (config : Side → Config) (kind : Bool) (s : Snapshot) (l l' : CarriedLink) → IsTied says config kind s l → AsksKeys (says Server) l.server l'.server → l'.client ≡ l.client → StepsTo says config kind (Rekey Server) s l'
server_ask says config kind s l l' i d same = by (is_outside l.server.transport.state.stands) refl d.call where
  inside_is : (b : Bool) → is_outside l.server.transport.state.stands ≡ b → s.mark.server.inside ≡ not b
  inside_is b o = ap (λ (m : SideMark). m.inside) i.server_mark ∙ ap not o

  by : (b : Bool) → is_outside l.server.transport.state.stands ≡ b → RekeyedFrom b (says Server) l.server.transport l'.server.transport → StepsTo says config kind (Rekey Server) s l'
  by true o b =
      let g = begin_goes says config Server s.sl s.world.server s.world.client l.server l'.server i.of_server b d.taken d.delivered d.submitted in
      record {
        next = server_behind s (ExchangeBegun Asked b.item ∷ []) g.behind (side_mark l'.server);
        tied = server_tied says config kind s l l' (ExchangeBegun Asked b.item ∷ []) i g same;
        does = λ k. inr (b.item, inside_is true o, server_one says config kind s l l'.server (ExchangeBegun Asked b.item ∷ []) i g k, d.taken ∙ sym (ap (λ (m : SideMark). m.taken) i.server_mark));
        leads = server_leads (talkers says config) (Some (Rekey Server)) s g.piece (ExchangeBegun Asked b.item ∷ []) g.behind (side_mark l'.server) g.turn (λ q. refl);
      }
  by false o b = record {
    next = s;
    tied = subst (λ q. IsTied says config kind s q) (sym (same_link l' l same (same_end l'.server l.server b d.taken d.delivered d.submitted))) i;
    does = λ k. inl (inside_is false o, record { mark = refl; server = refl; client = refl; server_log = refl; client_log = refl });
    leads = leads_stay (talkers says config) (Some (Rekey Server)) s;
  }

pub server_carry : (says : Side → Says) (config : Side → Config) (kind : Bool) (s : Snapshot) (l l' : CarriedLink) (n : ℕ) → IsWholeId (config Client) → IsTied says config kind s l → CarriesTo (says Server) l.server l.client.transport.output n l'.server → l'.client ≡ l.client → CarriesOn says config kind Server s l'
server_carry says config kind s l l' n whole i carried same =
    let d = subst (λ w. CarriesTo (says Server) l.server w n l'.server) i.of_client.output carried in
    let g = carry_goes says config Server s.sl s.world.server s.world.client n l.server l'.server whole i.of_server d in
    record {
      events = d.call.events;
      next = server_behind s d.call.events g.behind (side_mark l'.server);
      tied = server_tied says config kind s l l' d.call.events i g same;
      one = server_one says config kind s l l'.server d.call.events i g;
      leads = λ step. server_leads (talkers says config) step s g.piece d.call.events g.behind (side_mark l'.server) g.turn (λ q. absurd (let z = d.call.input.1 in omega (arith, q, z)));
      none = d.call.input.0;
      cl = refl;
      sl = none_more s.sl d.call.events d.call.input.0;
    }

server_deliver : (says : Side → Says) (config : Side → Config) (kind : Bool) (s : Snapshot) (l l' : CarriedLink) (n : ℕ) → IsWholeId (config Client) → IsTied says config kind s l → CarriesTo (says Server) l.server l.client.transport.output n l'.server → l'.client ≡ l.client → StepsTo says config kind (Deliver Server n) s l'
server_deliver says config kind s l l' n whole i d same =
    let c = server_carry says config kind s l l' n whole i d same in
    let now : s.mark.server.taken ≡ l.server.taken = ap (λ (m : SideMark). m.taken) i.server_mark in
    let sent : s.mark.client.sent ≡ length l.client.transport.output = ap (λ (m : SideMark). m.sent) i.client_mark in
    let next : c.next.mark.server.taken ≡ l'.server.taken = ap (λ (m : SideMark). m.taken) c.tied.server_mark in
    record {
      next = c.next;
      tied = c.tied;
      does = λ k. (c.events, c.one k, c.none, next ∙ (d.taken ∙ (ap (λ x. x + min n (length l.client.transport.output - x)) (sym now) ∙ ap (λ y. s.mark.server.taken + min n (y - s.mark.server.taken)) (sym sent))));
      leads = c.leads (Some (Deliver Server n));
    }

-- ---- a settle

-- turns till all is taken
pub record Settles (says : Side → Says) (config : Side → Config) (kind : Bool) (s : Snapshot) (l' : CarriedLink) : Type 0 where
  pub next : Snapshot
  pub tied : IsTied says config kind next l'
  pub leads : LeadsOn (talkers says config) (Some Settle) s next
  pub cl : submitted_in next.cl ≡ submitted_in s.cl
  pub sl : submitted_in next.sl ≡ submitted_in s.sl

pub repeated : (says : Side → Says) (config : Side → Config) (kind : Bool) (n : ℕ) (s : Snapshot) (l l' : CarriedLink) → ((side : Side) → IsWholeId (config side)) → IsTied says config kind s l → RepeatsTurns (says Client) (says Server) n l l' → Settles says config kind s l'
repeated says config kind zero s l l' whole i e = record { next = s; tied = subst (λ q. IsTied says config kind s q) (sym e) i; leads = leads_stay (talkers says config) (Some Settle) s; cl = refl; sl = refl }
repeated says config kind (suc n) s l l' whole i r =
    let a = repeated says config kind n s l r.0 whole i r.1 in
    let b = server_carry says config kind a.next r.0 (record { client = r.0.client; server = l'.server }) _ (whole Client) a.tied r.2.to_server refl in
    let c = client_carry says config kind b.next (record { client = r.0.client; server = l'.server }) l' _ (whole Server) b.tied r.2.to_client refl in
    record {
      next = c.next;
      tied = c.tied;
      leads = leads_join (talkers says config) (Some Settle) s a.next c.next a.leads (leads_join (talkers says config) (Some Settle) a.next b.next c.next (b.leads (Some Settle)) (c.leads (Some Settle)));
      cl = c.cl ∙ (b.cl ∙ a.cl);
      sl = c.sl ∙ (b.sl ∙ a.sl);
    }

nil_more : (xs ys : List (List ℕ)) → xs ++ ys ≡ xs → ys ≡ []
nil_more [] ys e = e
nil_more (x ∷ xs) ys e = nil_more xs ys (let f : xs ++ ys ≡ xs = cc in f)

none_in : (a b c : List Event) → c ≡ a ++ b → submitted_in c ≡ submitted_in a → submitted_in b ≡ []
none_in a b c e f = nil_more (submitted_in a) (submitted_in b) (sym (submitted_more a b) ∙ (ap submitted_in (sym e) ∙ f))

settle_to : (says : Side → Says) (config : Side → Config) (kind : Bool) (s : Snapshot) (l l' : CarriedLink) → ((side : Side) → IsWholeId (config side)) → IsTied says config kind s l → SettlesAll (says Client) (says Server) l l' → StepsTo says config kind Settle s l'
settle_to says config kind s l l' whole i d =
    let r = repeated says config kind d.times s l l' whole i d.turns in
    record {
      next = r.next;
      tied = r.tied;
      does = λ k. settle_turns (talkers says config) kind (Some Settle) s r.next (i.known k) (r.tied.known k) r.leads (none_in s.cl (client_log r.leads.turns) r.next.cl r.leads.cl r.cl) (none_in s.sl (server_log r.leads.turns) r.next.sl r.leads.sl r.sl)
          (let a = ap (λ (m : SideMark). m.taken) r.tied.client_mark in let b = ap (λ (m : SideMark). m.sent) r.tied.server_mark in let w = r.tied.of_client.within in let o = ap length r.tied.of_server.output in let t = d.to_client in omega (arith, a, b, w, o, t))
          (let a = ap (λ (m : SideMark). m.taken) r.tied.server_mark in let b = ap (λ (m : SideMark). m.sent) r.tied.client_mark in let w = r.tied.of_server.within in let o = ap length r.tied.of_client.output in let t = d.to_server in omega (arith, a, b, w, o, t));
      leads = r.leads;
    }

-- ---- any step

pub step_to : (says : Side → Says) (config : Side → Config) (kind : Bool) (step : link.Step) (s : Snapshot) (l l' : CarriedLink) → ((side : Side) → IsWholeId (config side)) → l.client.submitted + l.server.submitted + 1 < 2 ^ 64 → IsTied says config kind s l → StepsLink (says Client) (says Server) step l l' → StepsTo says config kind step s l'
step_to says config kind (Submit Client p) s l l' whole room i d = client_submit says config kind s l l' p (omega (arith, room)) i d.0 d.1
step_to says config kind (Submit Server p) s l l' whole room i d = server_submit says config kind s l l' p (omega (arith, room)) i d.0 d.1
step_to says config kind (Deliver Client n) s l l' whole room i d = client_deliver says config kind s l l' n (whole Server) i d.0 d.1
step_to says config kind (Deliver Server n) s l l' whole room i d = server_deliver says config kind s l l' n (whole Client) i d.0 d.1
step_to says config kind (Rekey Client) s l l' whole room i d = client_ask says config kind s l l' i d.0 d.1
step_to says config kind (Rekey Server) s l l' whole room i d = server_ask says config kind s l l' i d.0 d.1
step_to says config kind Settle s l l' whole room i d = settle_to says config kind s l l' whole i d

-- at most one payload more is submitted
abbrev pub all_submitted : CarriedLink → ℕ
all_submitted l = l.client.submitted + l.server.submitted

few_repeated : (client server : Says) (n : ℕ) (l l' : CarriedLink) → RepeatsTurns client server n l l' → all_submitted l' ≡ all_submitted l
few_repeated client server zero l l' e = ap all_submitted e
few_repeated client server (suc n) l l' r = let a = r.2.to_server.submitted in let b = r.2.to_client.submitted in let c = few_repeated client server n l r.0 r.1 in omega (arith, a, b, c)

few_more : (client server : Says) (step : link.Step) (l l' : CarriedLink) → StepsLink client server step l l' → all_submitted l' ≤ all_submitted l + 1
few_more client server (Submit Client p) l l' d = let a = d.0.submitted in let b = ap (λ (e : CarriedEnd). e.submitted) d.1 in omega (arith, a, b)
few_more client server (Submit Server p) l l' d = let a = d.0.submitted in let b = ap (λ (e : CarriedEnd). e.submitted) d.1 in omega (arith, a, b)
few_more client server (Deliver Client n) l l' d = let a = d.0.submitted in let b = ap (λ (e : CarriedEnd). e.submitted) d.1 in omega (arith, a, b)
few_more client server (Deliver Server n) l l' d = let a = d.0.submitted in let b = ap (λ (e : CarriedEnd). e.submitted) d.1 in omega (arith, a, b)
few_more client server (Rekey Client) l l' d = let a = d.0.submitted in let b = ap (λ (e : CarriedEnd). e.submitted) d.1 in omega (arith, a, b)
few_more client server (Rekey Server) l l' d = let a = d.0.submitted in let b = ap (λ (e : CarriedEnd). e.submitted) d.1 in omega (arith, a, b)
few_more client server Settle l l' d = let a = few_repeated client server d.times l l' d.turns in omega (arith, a)

-- ---- all steps

-- snapshots of all links
pub record Follows (says : Side → Says) (config : Side → Config) (kind : Bool) (steps : List link.Step) (s : Snapshot) (l : CarriedLink) (links : List CarriedLink) : Type 0 where
  pub snapshots : List Snapshot
  pub does : IsKnown (talkers says config) kind → DoesSteps (talkers says config) kind steps s snapshots
  pub leads : TurnsLeadOn (talkers says config) steps s snapshots
  pub last : IsTied says config kind (last_snapshot s snapshots) (last_link l links)
  pub marks : map (λ (x : Snapshot). x.mark) (s ∷ snapshots) ≡ map both_marks (l ∷ links)

same_mark : (says : Side → Says) (config : Side → Config) (kind : Bool) (s : Snapshot) (l : CarriedLink) → IsTied says config kind s l → s.mark ≡ both_marks l
same_mark says config kind s l i =
    let p : s.mark ≡ record s.mark { client = side_mark l.client } = ap (λ (q : SideMark). record s.mark { client = q }) i.client_mark in
    let q : record s.mark { client = side_mark l.client } ≡ both_marks l = ap (λ (x : SideMark). record (both_marks l) { server = x }) i.server_mark in
    p ∙ q

pub follows : (says : Side → Says) (config : Side → Config) (kind : Bool) (steps : List link.Step) (s : Snapshot) (l : CarriedLink) (links : List CarriedLink) → ((side : Side) → IsWholeId (config side)) → all_submitted l + length steps < 2 ^ 64 → IsTied says config kind s l → StepsLinks (says Client) (says Server) steps l links → Follows says config kind steps s l links
follows says config kind [] s l [] whole room i d = record { snapshots = []; does = λ k. i.known k; leads = tt; last = i; marks = ap (λ (m : Mark). m ∷ []) (same_mark says config kind s l i) }
follows says config kind [] s l (l' ∷ links) whole room i d = absurd d
follows says config kind (step ∷ steps) s l [] whole room i d = absurd d
follows says config kind (step ∷ steps) s l (l' ∷ links) whole room i d =
    let a = step_to says config kind step s l l' whole (omega (arith, room)) i d.0 in
    let few = few_more (says Client) (says Server) step l l' d.0 in
    let r = follows says config kind steps a.next l' links whole (omega (arith, room, few)) a.tied d.1 in
    record {
      snapshots = a.next ∷ r.snapshots;
      does = λ k. (i.known k, a.does k, r.does k);
      leads = (a.leads, r.leads);
      last = r.last;
      marks = ap (λ (m : Mark). m ∷ map (λ (x : Snapshot). x.mark) (a.next ∷ r.snapshots)) (same_mark says config kind s l i) ∙ ap (λ (q : List Mark). both_marks l ∷ q) r.marks;
    }
