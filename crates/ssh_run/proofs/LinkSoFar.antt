-- What the calls of a link leave: the same configurations, and parts that say of themselves as they were what they say
-- now.
use Rattle.std.proofs.Common.{◌≡◌, ℕ, zero, suc, ◌+◌, ◌*◌, ◌<◌, ◌≤◌, ◌^◌, Bool, true, false, List, [], ◌∷◌, ◌++◌, length, map, take, drop, append_assoc, Some, None, Result, Ok, Err, IfOk, OnOk, inl, inr, refl, sym, ap, ◌∙◌, subst, arith}
use Rattle.std.proofs.lemmas.List.{take-append-drop}
use Rattle.ssh_wire.specs.Lines.{id_text}
use Rattle.ssh_wire.specs.declared.side.Side.{Side}
use Rattle.ssh_wire.specs.declared.side.Side.TheVariants.{Client, Server}
use Rattle.ssh_kex.specs.Setting.{Says}
use Rattle.ssh_kex.specs.declared.config.Config.{Config}
use Rattle.ssh_kex.specs.declared.exchange.ServerHost.{ServerHost}
use Rattle.ssh_rules.specs.Headline.{bound_of}
use Rattle.ssh_rules.specs.Machine.{Event}
use Rattle.ssh_rules.specs.Standing.{Acts, RekeyedFrom, Standing, is_outside}
use Rattle.ssh_rules.specs.declared.link.LinkReport.{LinkReport}
use Rattle.ssh_rules.specs.declared.link.Mark.{Mark}
use Rattle.ssh_rules.specs.declared.link.Step.{Step}
use Rattle.ssh_rules.specs.declared.link.Step.TheVariants.{Submit, Deliver, Rekey, Settle}
use Rattle.ssh_transport.proofs.Lemmas.{Denying, Weaker, kept_denying, kept_untrusting, kept_weaker, piece_still, steps_weaker}
use Rattle.ssh_run.specs.Carrying.{AsksKeys, CarriedEnd, CarriedLink, CarriesTo, FewBegun, FewBehind, HasWaiting, IsCarried, IsNewLink, RepeatsTurns, Rests, RunsOn, SettlesAll, StepsLink, StepsLinks, SubmitsOne, TakesTurns, begun_by, both_marks, bound_after, bound_behind, last_link, reported_link}
use Rattle.ssh_run.specs.RefusedCarrying.{BeginTooMany, HasNoEnd, IsConfigFault, IsRestless, RefusesCarrying, RefusesLink, RefusesLinkStep, RefusesRun, RefusesSettle, RefusesTurn, Telling, settle_turns, telling_of}
use Rattle.ssh_wire.specs.declared.error.ConfigFault.{ConfigFault}
use Rattle.ssh_wire.specs.declared.error.Error.{Error}
use Rattle.ssh_rules.specs.Valid.{config_fault, first_config_fault}
use Rattle.ssh_wire.specs.declared.error.Error.TheVariants as errors
use Rattle.ssh_kex.specs.Members.{AgreementKept, AgreementMembers, GroupLookupMembers, GroupsKept, HostKeysMembers, HostsKept}
use Rattle.ssh_kex.specs.Stepping.{says_of}

pub later_weaker : {A H G : Type 0} (ma : AgreementMembers A) (mh : HostKeysMembers H) (mg : GroupLookupMembers G) (config config' : Config) (a a' : A) (h h' : H) (g g' : G)
    → config' ≡ config
    → AgreementKept ma a a'
    → HostsKept mh h h'
    → GroupsKept mg g g'
    → Weaker (says_of ma mh mg config' a' h' g')
    (says_of ma mh mg config a h g)
later_weaker ma mh mg config config' a a' h h' g g' e ka kh kg =
    subst (λ q. Weaker (says_of ma mh mg q a' h' g') (says_of ma mh mg config a h g)) (sym e)
    (kept_weaker ma mh mg config a a' h h' g g' ka kh kg)

acts_weaker : (a b : Says) → Weaker a b → (old : Standing) (events : List Event) (new : Standing) → Acts a old events new → Acts b old events new
acts_weaker a b w old events new h = record { side = h.side; config = h.config; steps = steps_weaker a b w old.side old.config (id_text old.config.id) events old.state new.state h.steps; output = h.output; delivered = h.delivered; quiet = h.quiet; live = h.live }

submits_weaker : (a b : Says) → Weaker a b → (old : CarriedEnd) (payload : List ℕ) (new : CarriedEnd) → SubmitsOne a old payload new → SubmitsOne b old payload new
submits_weaker a b w old payload new h = record {
  good = h.good;
  call = record { events = h.call.events; acts = acts_weaker a b w old.transport h.call.events new.transport h.call.acts; one = h.call.one; none_read = h.call.none_read; unasked = h.call.unasked; silent = h.call.silent; line = h.call.line; waiting = h.call.waiting };
  taken = h.taken;
  delivered = h.delivered;
  submitted = h.submitted;
}

rekeys_weaker : (a b : Says) → Weaker a b → (outside : Bool) (old new : Standing) → RekeyedFrom outside a old new → RekeyedFrom outside b old new
rekeys_weaker a b w true old new h = record { item = h.item; acts = acts_weaker a b w old _ new h.acts; line = h.line; waiting = h.waiting }
rekeys_weaker a b w false old new h = h

asks_weaker : (a b : Says) → Weaker a b → (old new : CarriedEnd) → AsksKeys a old new → AsksKeys b old new
asks_weaker a b w old new h = record { call = rekeys_weaker a b w (is_outside old.transport.state.stands) old.transport new.transport h.call; taken = h.taken; delivered = h.delivered; submitted = h.submitted }

pub carries_weaker : (a b : Says) → Weaker a b → (old : CarriedEnd) (wire : List ℕ) (n : ℕ) (new : CarriedEnd) → CarriesTo a old wire n new → CarriesTo b old wire n new
carries_weaker a b w old wire n new h = record {
  fed = h.fed;
  call = record { events = h.call.events; acts = acts_weaker a b w old.transport h.call.events h.fed h.call.acts; input = h.call.input; behind = h.call.behind; line = h.call.line; read = h.call.read; part = h.call.part; small = h.call.small };
  transport = h.transport;
  taken = h.taken;
  delivered = h.delivered;
  submitted = h.submitted;
}

turns_weaker : (c c' s s' : Says) → Weaker c c' → Weaker s s' → (old new : CarriedLink) → TakesTurns c s old new → TakesTurns c' s' old new
turns_weaker c c' s s' v w old new h = record { to_server = carries_weaker s s' w old.server old.client.transport.output _ new.server h.to_server; all_to_server = h.all_to_server; to_client = carries_weaker c c' v old.client new.server.transport.output _ new.client h.to_client; all_to_client = h.all_to_client }

pub repeats_weaker : (c c' s s' : Says) → Weaker c c' → Weaker s s' → (n : ℕ) (old new : CarriedLink) → RepeatsTurns c s n old new → RepeatsTurns c' s' n old new
repeats_weaker c c' s s' v w zero old new h = h
repeats_weaker c c' s s' v w (suc n) old new h = (h.0, repeats_weaker c c' s s' v w n old h.0 h.1, turns_weaker c c' s s' v w h.0 new h.2, h.3)

step_weaker : (c c' s s' : Says) → Weaker c c' → Weaker s s' → (step : Step) (old new : CarriedLink) → StepsLink c s step old new → StepsLink c' s' step old new
step_weaker c c' s s' v w (Submit Client p) old new h = (submits_weaker c c' v old.client p new.client h.0, h.1)
step_weaker c c' s s' v w (Submit Server p) old new h = (submits_weaker s s' w old.server p new.server h.0, h.1)
step_weaker c c' s s' v w (Deliver Client n) old new h = (carries_weaker c c' v old.client old.server.transport.output n new.client h.0, h.1)
step_weaker c c' s s' v w (Deliver Server n) old new h = (carries_weaker s s' w old.server old.client.transport.output n new.server h.0, h.1)
step_weaker c c' s s' v w (Rekey Client) old new h = (asks_weaker c c' v old.client new.client h.0, h.1)
step_weaker c c' s s' v w (Rekey Server) old new h = (asks_weaker s s' w old.server new.server h.0, h.1)
step_weaker c c' s s' v w Settle old new h = record { times = h.times; turns = repeats_weaker c c' s s' v w h.times old new h.turns; to_client = h.to_client; to_server = h.to_server; client_rests = h.client_rests; server_rests = h.server_rests }

-- ---- configurations

abbrev SameConfig : CarriedEnd → CarriedEnd → Type 0
SameConfig old new = new.transport.config ≡ old.transport.config

-- both sides' configurations stay
pub record KeepConfigs (old new : CarriedLink) : Type 0 where
  pub of_client : SameConfig old.client new.client
  pub of_server : SameConfig old.server new.server

carries_config : (says : Says) (old : CarriedEnd) (wire : List ℕ) (n : ℕ) (new : CarriedEnd) → CarriesTo says old wire n new → SameConfig old new
carries_config says old wire n new h = ap (λ (t : Standing). t.config) h.transport ∙ h.call.acts.config

rekeys_config : (says : Says) (outside : Bool) (old new : Standing) → RekeyedFrom outside says old new → new.config ≡ old.config
rekeys_config says true old new h = h.acts.config
rekeys_config says false old new h = ap (λ (t : Standing). t.config) h

same_config : (old new : CarriedEnd) → new ≡ old → SameConfig old new
same_config old new e = ap (λ (x : CarriedEnd). x.transport.config) e

configs_join : (a b c : CarriedLink) → KeepConfigs a b → KeepConfigs b c → KeepConfigs a c
configs_join a b c p q = record { of_client = q.of_client ∙ p.of_client; of_server = q.of_server ∙ p.of_server }

turns_config : (c s : Says) (old new : CarriedLink) → TakesTurns c s old new → KeepConfigs old new
turns_config c s old new h = record { of_client = carries_config c old.client new.server.transport.output _ new.client h.to_client; of_server = carries_config s old.server old.client.transport.output _ new.server h.to_server }

repeats_config : (c s : Says) (n : ℕ) (old new : CarriedLink) → RepeatsTurns c s n old new → KeepConfigs old new
repeats_config c s zero old new h = record { of_client = ap (λ (l : CarriedLink). l.client.transport.config) h; of_server = ap (λ (l : CarriedLink). l.server.transport.config) h }
repeats_config c s (suc n) old new h = configs_join old h.0 new (repeats_config c s n old h.0 h.1) (turns_config c s h.0 new h.2)

step_config : (c s : Says) (step : Step) (old new : CarriedLink) → StepsLink c s step old new → KeepConfigs old new
step_config c s (Submit Client p) old new h = record { of_client = h.0.call.acts.config; of_server = same_config old.server new.server h.1 }
step_config c s (Submit Server p) old new h = record { of_client = same_config old.client new.client h.1; of_server = h.0.call.acts.config }
step_config c s (Deliver Client n) old new h = record { of_client = carries_config c old.client old.server.transport.output n new.client h.0; of_server = same_config old.server new.server h.1 }
step_config c s (Deliver Server n) old new h = record { of_client = same_config old.client new.client h.1; of_server = carries_config s old.server old.client.transport.output n new.server h.0 }
step_config c s (Rekey Client) old new h = record { of_client = rekeys_config c (is_outside old.client.transport.state.stands) old.client.transport new.client.transport h.0.call; of_server = same_config old.server new.server h.1 }
step_config c s (Rekey Server) old new h = record { of_client = same_config old.client new.client h.1; of_server = rekeys_config s (is_outside old.server.transport.state.stands) old.server.transport new.server.transport h.0.call }
step_config c s Settle old new h = repeats_config c s h.times old new h.turns

-- ---- a settle so far

-- behind so many turns
pub record TurnsSoFar (c s : Says) (times : ℕ) (old new : CarriedLink) : Type 0 where
  pub turns : RepeatsTurns c s times old new
  pub configs : KeepConfigs old new

pub none_turned : (c s : Says) (l : CarriedLink) → TurnsSoFar c s 0 l l
none_turned c s l = record { turns = refl; configs = record { of_client = refl; of_server = refl } }

pub no_turns : (c s : Says) (times : ℕ) (l : CarriedLink) → times ≡ 0 → TurnsSoFar c s times l l
no_turns c s times l e = subst (λ n. TurnsSoFar c s n l l) (sym e) (none_turned c s l)

pub turned_more : (c c' s s' : Says) (times times' : ℕ) (old mid new : CarriedLink) → times' ≡ suc times → Weaker c' c → Weaker s' s → TurnsSoFar c s times old mid → HasWaiting mid → TakesTurns c' s' mid new → TurnsSoFar c s times' old new
turned_more c c' s s' times times' old mid new e v w h waits t = subst (λ n. TurnsSoFar c s n old new) (sym e) (record { turns = (mid, h.turns, turns_weaker c' c s' s v w mid new t, waits); configs = configs_join old mid new h.configs (turns_config c' s' mid new t) })

pub all_settled : (c s : Says) (times : ℕ) (old new : CarriedLink) → TurnsSoFar c s times old new → length new.server.transport.output ≤ new.client.taken → length new.client.transport.output ≤ new.server.taken → Rests new.client → Rests new.server → SettlesAll c s old new
all_settled c s times old new h p q x y = record { times = times; turns = h.turns; to_client = p; to_server = q; client_rests = x; server_rests = y }

-- ---- how many exchanges are begun behind a step

pub few_settled : {A E : Type 0} (r : Result A E) (bound : ℕ) (step : Step) (l : CarriedLink) → step ≡ Settle → OnOk r (begun_by l.client ≤ bound) → OnOk r (begun_by l.server ≤ bound) → OnOk r (FewBehind bound step l)
few_settled (Ok x) bound step l e p q = subst (λ s. FewBehind bound s l) (sym e) (p, q)
few_settled (Err x) bound step l e p q = tt

pub few_submitted : {A E : Type 0} (r : Result A E) (bound : ℕ) (step : Step) (l : CarriedLink) (side : Side) (p : List ℕ) → step ≡ Submit side p → OnOk r (FewBehind bound step l)
few_submitted (Ok x) bound step l side p e = subst (λ s. FewBehind bound s l) (sym e) tt
few_submitted (Err x) bound step l side p e = tt

pub few_delivered : {A E : Type 0} (r : Result A E) (bound : ℕ) (step : Step) (l : CarriedLink) (side : Side) (n : ℕ) → step ≡ Deliver side n → OnOk r (FewBehind bound step l)
few_delivered (Ok x) bound step l side n e = subst (λ s. FewBehind bound s l) (sym e) tt
few_delivered (Err x) bound step l side n e = tt

pub few_rekeyed : {A E : Type 0} (r : Result A E) (bound : ℕ) (step : Step) (l : CarriedLink) (side : Side) → step ≡ Rekey side → OnOk r (FewBehind bound step l)
few_rekeyed (Ok x) bound step l side e = subst (λ s. FewBehind bound s l) (sym e) tt
few_rekeyed (Err x) bound step l side e = tt

-- ---- a run so far

pub record RunsSoFar (c s : Says) (first : ℕ) (done : List Step) (old new : CarriedLink) (marks : List Mark) : Type 0 where
  pub on : RunsOn c s first done old new marks
  pub configs : KeepConfigs old new

pub none_run : (c s : Says) (first : ℕ) (l : CarriedLink) (marks : List Mark) → marks ≡ both_marks l ∷ [] → RunsSoFar c s first [] l l marks
none_run c s first l marks e = record { on = record { links = []; each = tt; few = tt; last = refl; marks_are = e }; configs = record { of_client = refl; of_server = refl } }

each_more : (c s : Says) (done : List Step) (step : Step) (first : CarriedLink) (links : List CarriedLink) (l' : CarriedLink) → StepsLinks c s done first links → StepsLink c s step (last_link first links) l' → StepsLinks c s (done ++ step ∷ []) first (links ++ l' ∷ [])
each_more c s [] step first [] l' h d = (d, tt)
each_more c s [] step first (l ∷ links) l' h d = absurd h
each_more c s (x ∷ done) step first [] l' h d = absurd h
each_more c s (x ∷ done) step first (l ∷ links) l' h d = (h.0, each_more c s done step l links l' h.1 d)

last_more : (first : CarriedLink) (links : List CarriedLink) (l' : CarriedLink) → last_link first (links ++ l' ∷ []) ≡ l'
last_more first [] l' = refl
last_more first (l ∷ links) l' = last_more l links l'

marks_more : (first : CarriedLink) (links : List CarriedLink) (l' : CarriedLink) → map both_marks (first ∷ links) ++ both_marks l' ∷ [] ≡ map both_marks (first ∷ (links ++ l' ∷ []))
marks_more first [] l' = refl
marks_more first (l ∷ links) l' = ap (λ q. both_marks first ∷ q) (marks_more l links l')

few_more : (bound : ℕ) (done : List Step) (step : Step) (links : List CarriedLink) (l' : CarriedLink) → length links ≡ length done → FewBegun bound done links → FewBehind (bound_after bound done) step l' → FewBegun bound (done ++ step ∷ []) (links ++ l' ∷ [])
few_more bound [] step [] l' n h d = (d, tt)
few_more bound [] step (l ∷ links) l' n h d = cc
few_more bound (x ∷ done) step [] l' n h d = cc
few_more bound (x ∷ done) step (l ∷ links) l' n h d = (h.0, few_more (bound_behind x bound) done step links l' (let e = n in omega (arith, e)) h.1 d)

pub as_many : (c s : Says) (steps : List Step) (l : CarriedLink) (links : List CarriedLink) → StepsLinks c s steps l links → length links ≡ length steps
as_many c s [] l [] h = refl
as_many c s [] l (x ∷ links) h = absurd h
as_many c s (step ∷ steps) l [] h = absurd h
as_many c s (step ∷ steps) l (x ∷ links) h = ap suc (as_many c s steps x links h.1)

after_more : (bound : ℕ) (done : List Step) (step : Step) → bound_after bound (done ++ step ∷ []) ≡ bound_behind step (bound_after bound done)
after_more bound [] step = refl
after_more bound (x ∷ done) step = after_more (bound_behind x bound) done step

-- how many exchanges may be begun behind one step more
pub bound_next : (first bound bound' : ℕ) (done done' : List Step) (step : Step) → done' ≡ done ++ step ∷ [] → bound ≡ bound_after first done → bound' ≡ bound_behind step bound → bound' ≡ bound_after first done'
bound_next first bound bound' done done' step f e g = g ∙ (ap (bound_behind step) e ∙ (sym (after_more first done step) ∙ ap (bound_after first) (sym f)))

pub runs_more : (c c' s s' : Says) (first bound : ℕ) (done done' : List Step) (step : Step) (old mid new : CarriedLink) (marks marks' : List Mark) → done' ≡ done ++ step ∷ [] → bound ≡ bound_after first done → Weaker c' c → Weaker s' s → RunsSoFar c s first done old mid marks → StepsLink c' s' step mid new → FewBehind bound step new → marks' ≡ marks ++ both_marks new ∷ [] → RunsSoFar c s first done' old new marks'
runs_more c c' s s' first bound done done' step old mid new marks marks' f b v w h d k e = record {
  on = record {
    links = h.on.links ++ new ∷ [];
    each = subst (λ q. StepsLinks c s q old (h.on.links ++ new ∷ [])) (sym f) (each_more c s done step old h.on.links new h.on.each (subst (λ q. StepsLink c s step q new) (sym h.on.last) (step_weaker c' c s' s v w step mid new d)));
    few = subst (λ q. FewBegun first q (h.on.links ++ new ∷ [])) (sym f) (few_more first done step h.on.links new (as_many c s done old h.on.links h.on.each) h.on.few (subst (λ n. FewBehind n step new) b k));
    last = last_more old h.on.links new;
    marks_are = e ∙ (ap (λ q. q ++ both_marks new ∷ []) h.on.marks_are ∙ marks_more old h.on.links new);
  };
  configs = configs_join old mid new h.configs (step_config c' s' step mid new d);
}

pub all_run : (c s : Config → Says) (client server : Config) (bound : ℕ) (steps : List Step) (old new : CarriedLink) (marks : List Mark) (report : LinkReport) → IsNewLink client server old → bound ≡ 1 → RunsOn (c old.client.transport.config) (s old.server.transport.config) bound steps old new marks → report ≡ record (reported_link new []) { marks = marks } → IsCarried (c client) (s server) client server steps report
all_run c s client server bound steps old new marks report n b h e =
    let p : old.client.transport.config ≡ client = ap (λ (x : CarriedEnd). x.transport.config) n.of_client.2 ∙ ap (λ (t : Standing). t.config) n.of_client.1 in
    let q : old.server.transport.config ≡ server = ap (λ (x : CarriedEnd). x.transport.config) n.of_server.2 ∙ ap (λ (t : Standing). t.config) n.of_server.1 in
    record {
      first = old;
      links = h.links;
      new = n;
      each = subst (λ x. StepsLinks (c x) (s server) steps old h.links) p (subst (λ x. StepsLinks (c old.client.transport.config) (s x) steps old h.links) q h.each);
      few = subst (λ n. FewBegun n steps h.links) b h.few;
      report_is = e ∙ (ap (λ x. record (reported_link x []) { marks = marks }) (sym h.last) ∙ ap (λ x. record (reported_link (last_link old h.links) []) { marks = x }) h.marks_are);
    }

-- ---- what later refusals say of earlier parts

-- what the first tells the second tells too
pub record TellsLater (a b : Telling) : Type 0 where
  pub denying : Denying a.says b.says a.denies b.denies
  pub trusting : (host : ServerHost) → a.untrusted host → b.untrusted host

pub later_tells : {A H G : Type 0} (ma : AgreementMembers A) (mh : HostKeysMembers H) (mg : GroupLookupMembers G) (config config' : Config) (a a' a'' : A) (h h' h'' : H) (g g' g'' : G)
    → config' ≡ config
    → AgreementKept ma a a'
    → HostsKept mh h h'
    → GroupsKept mg g g'
    → TellsLater (telling_of ma mh mg config' a' a'' h' h'' g' g'')
    (telling_of ma mh mg config a a'' h h'' g g'')
later_tells ma mh mg config config' a a' a'' h h' h'' g g' g'' e ka kh kg =
    subst (λ q. TellsLater (telling_of ma mh mg q a' a'' h' h'' g' g'') (telling_of ma mh mg config a a'' h h'' g g'')) (sym e) (record {
      denying = kept_denying ma mh mg config a a' a'' h h' h'' g g' g'' ka kh kg;
      trusting = λ host u. kept_untrusting mh h h' h'' host kh u;
    })

carrying_later : (a b : Telling) → TellsLater a b → (old : CarriedEnd) (wire : List ℕ) (n : ℕ) (e : Error) → RefusesCarrying a old wire n e → RefusesCarrying b old wire n e
carrying_later a b w old wire n e (inl m) = inl m
carrying_later a b w old wire n e (inr r) = inr (record { left = r.left; call = piece_still a.says b.says a.denies b.denies a.untrusted b.untrusted w.denying w.trusting old.transport _ e r.left r.call })

turn_later : (c c' s s' : Telling) → TellsLater c' c → TellsLater s' s → (l : CarriedLink) (e : Error) → RefusesTurn c' s' l e → RefusesTurn c s l e
turn_later c c' s s' v w l e (inl r) = inl (carrying_later s' s w l.server l.client.transport.output _ e r)
turn_later c c' s s' v w l e (inr r) = inr (record { mid = r.mid; taken = carries_weaker s'.says s.says w.denying.weaker l.server l.client.transport.output _ r.mid r.taken; refused = carrying_later c' c v l.client r.mid.transport.output _ e r.refused })

settle_later : (c c' s s' : Telling) → TellsLater c' c → TellsLater s' s → (bound : ℕ) (l : CarriedLink) (e : Error) → RefusesSettle c' s' bound l e → RefusesSettle c s bound l e
settle_later c c' s s' v w bound l e r = record {
  times = r.times;
  mid = r.mid;
  turns = repeats_weaker c'.says c.says s'.says s.says v.denying.weaker w.denying.weaker r.times l r.mid r.turns;
  refused = elim r.refused [ inl t ↦ inl (turn_later c c' s s' v w r.mid e t) | inr d ↦ inr d ];
}

step_later : (c c' s s' : Telling) → TellsLater c' c → TellsLater s' s → (bound : ℕ) (step : Step) (l : CarriedLink) (e : Error) → RefusesLinkStep c' s' bound step l e → RefusesLinkStep c s bound step l e
step_later c c' s s' v w bound (Submit side p) l e h = h
step_later c c' s s' v w bound (Deliver Client n) l e h = carrying_later c' c v l.client l.server.transport.output n e h
step_later c c' s s' v w bound (Deliver Server n) l e h = carrying_later s' s w l.server l.client.transport.output n e h
step_later c c' s s' v w bound (Rekey side) l e h = h
step_later c c' s s' v w bound Settle l e h = settle_later c c' s s' v w bound l e h

-- ---- transports that live

pub record BothLive (l : CarriedLink) : Type 0 where
  pub of_client : l.client.transport.failed ≡ false
  pub of_server : l.server.transport.failed ≡ false

carries_live : (says : Says) (old : CarriedEnd) (wire : List ℕ) (n : ℕ) (new : CarriedEnd) → CarriesTo says old wire n new → new.transport.failed ≡ false
carries_live says old wire n new h = ap (λ (t : Standing). t.failed) h.transport ∙ h.call.acts.live

rekeys_live : (says : Says) (outside : Bool) (old new : Standing) → RekeyedFrom outside says old new → old.failed ≡ false → new.failed ≡ false
rekeys_live says true old new h l = h.acts.live
rekeys_live says false old new h l = ap (λ (t : Standing). t.failed) h ∙ l

end_live : (old new : CarriedEnd) → new ≡ old → old.transport.failed ≡ false → new.transport.failed ≡ false
end_live old new e l = ap (λ (x : CarriedEnd). x.transport.failed) e ∙ l

pub repeats_live : (c s : Says) (n : ℕ) (old new : CarriedLink) → RepeatsTurns c s n old new → BothLive old → BothLive new
repeats_live c s zero old new h l = subst BothLive (sym h) l
repeats_live c s (suc n) old new h l = record { of_client = carries_live c h.0.client new.server.transport.output _ new.client h.2.to_client; of_server = carries_live s h.0.server h.0.client.transport.output _ new.server h.2.to_server }

step_live : (c s : Says) (step : Step) (old new : CarriedLink) → StepsLink c s step old new → BothLive old → BothLive new
step_live c s (Submit Client p) old new h l = record { of_client = h.0.call.acts.live; of_server = end_live old.server new.server h.1 l.of_server }
step_live c s (Submit Server p) old new h l = record { of_client = end_live old.client new.client h.1 l.of_client; of_server = h.0.call.acts.live }
step_live c s (Deliver Client n) old new h l = record { of_client = carries_live c old.client old.server.transport.output n new.client h.0; of_server = end_live old.server new.server h.1 l.of_server }
step_live c s (Deliver Server n) old new h l = record { of_client = end_live old.client new.client h.1 l.of_client; of_server = carries_live s old.server old.client.transport.output n new.server h.0 }
step_live c s (Rekey Client) old new h l = record { of_client = rekeys_live c (is_outside old.client.transport.state.stands) old.client.transport new.client.transport h.0.call l.of_client; of_server = end_live old.server new.server h.1 l.of_server }
step_live c s (Rekey Server) old new h l = record { of_client = end_live old.client new.client h.1 l.of_client; of_server = rekeys_live s (is_outside old.server.transport.state.stands) old.server.transport new.server.transport h.0.call l.of_server }
step_live c s Settle old new h l = repeats_live c s h.times old new h.turns l

pub steps_live : (c s : Says) (steps : List Step) (l : CarriedLink) (links : List CarriedLink) → StepsLinks c s steps l links → BothLive l → BothLive (last_link l links)
steps_live c s [] l [] h b = b
steps_live c s [] l (x ∷ links) h b = absurd h
steps_live c s (step ∷ steps) l [] h b = absurd h
steps_live c s (step ∷ steps) l (x ∷ links) h b = steps_live c s steps x links h.1 (step_live c s step l x h.0 b)

-- a new link lives
pub new_live : (client server : Config) (l : CarriedLink) → IsNewLink client server l → BothLive l
new_live client server l n = record {
  of_client = ap (λ (e : CarriedEnd). e.transport.failed) n.of_client.2 ∙ ap (λ (t : Standing). t.failed) n.of_client.1;
  of_server = ap (λ (e : CarriedEnd). e.transport.failed) n.of_server.2 ∙ ap (λ (t : Standing). t.failed) n.of_server.1;
}

-- ---- a settle and a run that are refused

-- by a turn
pub settle_refused : (c c' s s' : Telling) (bound times : ℕ) (old mid : CarriedLink) (e : Error) → TellsLater c' c → TellsLater s' s → TurnsSoFar c.says s.says times old mid → (mid.client.transport.failed ≡ false → mid.server.transport.failed ≡ false → RefusesTurn c' s' mid e) → old.client.transport.failed ≡ false → old.server.transport.failed ≡ false → RefusesSettle c s bound old e
settle_refused c c' s s' bound times old mid e v w h t lc ls =
    let l = repeats_live c.says s.says times old mid h.turns (record { of_client = lc; of_server = ls }) in
    record { times = times; mid = mid; turns = h.turns; refused = inl (turn_later c c' s s' v w mid e (t l.of_client l.of_server)) }

-- since it comes to no end
never_settled : (c s : Telling) (bound times : ℕ) (old mid : CarriedLink) (e : Error) → e ≡ errors.Disconnect → TurnsSoFar c.says s.says times old mid → HasNoEnd bound times mid → RefusesSettle c s bound old e
never_settled c s bound times old mid e d h n = record { times = times; mid = mid; turns = h.turns; refused = inr (d, n) }

-- all its turns are taken
pub turns_ended : (c s : Telling) (bound times : ℕ) (old mid : CarriedLink) (e : Error) → e ≡ errors.Disconnect → TurnsSoFar c.says s.says times old mid → times ≡ settle_turns bound → HasWaiting mid → RefusesSettle c s bound old e
turns_ended c s bound times old mid e d h n w = never_settled c s bound times old mid e d h (inl (n, w))

-- too many exchanges are begun
pub begun_beyond : (c s : Telling) (bound times : ℕ) (old mid : CarriedLink) (e : Error) → e ≡ errors.Disconnect → TurnsSoFar c.says s.says times old mid → BeginTooMany bound mid → RefusesSettle c s bound old e
begun_beyond c s bound times old mid e d h b = never_settled c s bound times old mid e d h (inr (inl b))

-- a side does not rest
pub client_restless : (c s : Telling) (bound times : ℕ) (old mid : CarriedLink) (e : Error) → e ≡ errors.Disconnect → TurnsSoFar c.says s.says times old mid → length mid.server.transport.output ≤ mid.client.taken → length mid.client.transport.output ≤ mid.server.taken → IsRestless mid.client → RefusesSettle c s bound old e
client_restless c s bound times old mid e d h p q r = never_settled c s bound times old mid e d h (inr (inr (record { to_client = p; to_server = q; restless = inl r })))

pub server_restless : (c s : Telling) (bound times : ℕ) (old mid : CarriedLink) (e : Error) → e ≡ errors.Disconnect → TurnsSoFar c.says s.says times old mid → length mid.server.transport.output ≤ mid.client.taken → length mid.client.transport.output ≤ mid.server.taken → IsRestless mid.server → RefusesSettle c s bound old e
server_restless c s bound times old mid e d h p q r = never_settled c s bound times old mid e d h (inr (inr (record { to_client = p; to_server = q; restless = inr r })))

-- ---- how many exchanges may be begun

bound_more : (done : List Step) (step : Step) (bound : ℕ) → bound ≡ bound_of done → bound + 2 < 2 ^ 128 → bound_behind step bound ≡ bound_of (done ++ step ∷ [])
bound_more done step bound e room = by step where
  bound_join : (done : List Step) (step : Step) → bound_of (done ++ step ∷ []) + 1 ≡ bound_of done + bound_of (step ∷ [])
  bound_join [] step = omega arith
  bound_join (Submit side p ∷ done) step = let r = bound_join done step in omega (arith, r)
  bound_join (Deliver side n ∷ done) step = bound_join done step
  bound_join (Rekey side ∷ done) step = let r = bound_join done step in omega (arith, r)
  bound_join (Settle ∷ done) step = bound_join done step

  by : (step : Step) → bound_behind step bound ≡ bound_of (done ++ step ∷ [])
  by (Submit side p) = let r = bound_join done (Submit side p) in omega (arith, r, e, room)
  by (Deliver side n) = let r = bound_join done (Deliver side n) in omega (arith, r, e)
  by (Rekey side) = let r = bound_join done (Rekey side) in omega (arith, r, e, room)
  by Settle = let r = bound_join done Settle in omega (arith, r, e)

-- twice as many as there are steps, and one
pub few_bound : (steps : List Step) → bound_of steps ≤ 1 + 2 * length steps
few_bound [] = omega arith
few_bound (Submit side p ∷ steps) = let r = few_bound steps in omega (arith, r)
few_bound (Deliver side n ∷ steps) = let r = few_bound steps in omega (arith, r)
few_bound (Rekey side ∷ steps) = let r = few_bound steps in omega (arith, r)
few_bound (Settle ∷ steps) = let r = few_bound steps in omega (arith, r)

pub bound_on : (done done' : List Step) (step : Step) (bound : ℕ) → done' ≡ done ++ step ∷ [] → length done < 2 ^ 64 → bound ≡ bound_of done → bound_behind step bound ≡ bound_of done'
bound_on done done' step bound f few e = bound_more done step bound e (let r = few_bound done in omega (arith, r, e, few)) ∙ ap bound_of (sym f)

-- the steps behind those that are done
pub steps_split : (steps done : List Step) (step : Step) (n : ℕ) → take n steps ≡ done ++ step ∷ [] → steps ≡ done ++ step ∷ drop n steps
steps_split steps done step n e = sym (take-append-drop n steps) ∙ (ap (λ q. q ++ drop n steps) e ∙ append_assoc done (step ∷ []) (drop n steps))

-- by a step
pub run_refused : (c c' s s' : Telling) (first : ℕ) (steps done : List Step) (step : Step) (more : List Step) (bound : ℕ) (old mid : CarriedLink) (marks : List Mark) (e : Error) → steps ≡ done ++ step ∷ more → bound ≡ bound_of done → TellsLater c' c → TellsLater s' s → RunsSoFar c.says s.says first done old mid marks → (mid.client.transport.failed ≡ false → mid.server.transport.failed ≡ false → RefusesLinkStep c' s' bound step mid e) → old.client.transport.failed ≡ false → old.server.transport.failed ≡ false → RefusesRun c s steps old e
run_refused c c' s s' first steps done step more bound old mid marks e at b v w h t lc ls =
    let l = subst BothLive h.on.last (steps_live c.says s.says done old h.on.links h.on.each (record { of_client = lc; of_server = ls })) in
    inr (record { done = done; step = step; more = more; steps_are = at; links = h.on.links; each = h.on.each; refused = subst (λ x. RefusesLinkStep c s (bound_of done) step x e) (sym h.on.last) (subst (λ n. RefusesLinkStep c s n step mid e) b (step_later c c' s s' v w bound step mid e (t l.of_client l.of_server))) })

-- ---- what is told of an answer

pub if_told : {A E C D F : Type 0} {P : A → Type 0} (Q : A → Type 0) (r : Result A E) → OnOk r C → OnOk r D → OnOk r F → IfOk r P → ((x : A) → C → D → F → P x → Q x) → IfOk r Q
if_told Q (Ok x) c d e p f = f x c d e p
if_told Q (Err e) c d g p f = tt

-- of both sides
pub of_sides : (P : Side → Type 0) → P Client → P Server → (side : Side) → P side
of_sides P c s Client = c
of_sides P c s Server = s

-- ---- refusals of a link

pub client_fault : (client server : Config) (f : ConfigFault) (e : Error) → config_fault Client client ≡ Some f → e ≡ errors.InvalidConfig f → IsConfigFault client server e
client_fault client server f e h q = record { fault = f; first = ap (λ z. first_config_fault z (config_fault Server server)) h; error_is = q }

pub server_fault : (client server : Config) (f : ConfigFault) (e : Error) → config_fault Client client ≡ None → config_fault Server server ≡ Some f → e ≡ errors.InvalidConfig f → IsConfigFault client server e
server_fault client server f e n h q = record { fault = f; first = ap (λ z. first_config_fault z (config_fault Server server)) n ∙ h; error_is = q }

pub all_refused : (c s : Config → Telling) (client server : Config) (steps : List Step) (old : CarriedLink) (bound : ℕ) (e : Error) → config_fault Client client ≡ None → config_fault Server server ≡ None → length steps < 2 ^ 64 → IsNewLink client server old → bound ≡ 1 → (bound ≡ 1 → old.client.transport.failed ≡ false → old.server.transport.failed ≡ false → RefusesRun (c old.client.transport.config) (s old.server.transport.config) steps old e) → RefusesLink (c client) (s server) client server steps e
all_refused c s client server steps old bound e vc vs few n b h =
    let p : old.client.transport.config ≡ client = ap (λ (x : CarriedEnd). x.transport.config) n.of_client.2 ∙ ap (λ (t : Standing). t.config) n.of_client.1 in
    let q : old.server.transport.config ≡ server = ap (λ (x : CarriedEnd). x.transport.config) n.of_server.2 ∙ ap (λ (t : Standing). t.config) n.of_server.1 in
    let l = new_live client server old n in
    inr (inr (record {
      of_client = vc;
      of_server = vs;
      few = few;
      first = old;
      new = n;
      refused = subst (λ x. RefusesRun (c client) (s x) steps old e) q (subst (λ x. RefusesRun (c x) (s old.server.transport.config) steps old e) p (h b l.of_client l.of_server));
    }))
