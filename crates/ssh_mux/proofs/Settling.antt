-- Behind a run whose last step is a settle nothing is on the way.
use Rattle.std.proofs.lemmas.List.{drop_all}
use Rattle.std.proofs.Common.{◌≡◌, ℕ, suc, ◌≤◌, true, false, List, [], ◌∷◌, ◌++◌, length, take, drop, map, slice_get, Option, Some, None, refl, sym, ap, ◌∙◌, subst, append-nil, length-append, arith}
use Rattle.ssh_wire.specs.Sides.{other_side}
use Rattle.ssh_wire.specs.declared.side.Side.{Side}
use Rattle.ssh_wire.specs.declared.side.Side.TheVariants.{Client, Server}
use Rattle.ssh_kex.specs.declared.config.Config.{Config}
use Rattle.ssh_rules.specs.Headline.{IsLink, submitted_by}
use Rattle.ssh_rules.specs.Parts.{ClientPairs, Secrets, ServerValues}
use Rattle.ssh_rules.specs.Run.{Effects}
use Rattle.ssh_rules.specs.declared.link.Mark.{Mark}
use Rattle.ssh_rules.specs.declared.link.SideMark.{SideMark}
use Rattle.ssh_rules.specs.declared.link.Step.{Step}
use Rattle.ssh_rules.specs.declared.link.Step.TheVariants as steps
use Rattle.ssh_run.specs.Stepping.{LinkState, report_so_far}
use Rattle.ssh_channels.specs.Formats.{packet_text}
use Rattle.ssh_channels.specs.Muxes.{Channel, Mux, Packet}
use Rattle.ssh_talks.specs.Talks.{CameAll, IsQuietPair}
use Rattle.ssh_talks.proofs.Lemmas.{channels_come}
use Rattle.ssh_mux.specs.Honesty.{IsPairAt, RunsSettle}
use Rattle.ssh_mux.specs.Pairs.{are_within}
use Rattle.ssh_mux.specs.Running.{LeavesNone, PairOnLink, state_at}
use Rattle.ssh_mux.specs.declared.pair.PairConfig.{PairConfig}
use Rattle.ssh_mux.proofs.Honesty.{runs_are_talks, settings}
use Rattle.ssh_mux.proofs.OnTime.{submitted_at}

-- ---- what a settled link delivered

-- all that was submitted so far was delivered
record DeliveredAll (m : Mark) : Type 0 where
  pub to_client : m.client.delivered ≡ m.server.submitted
  pub to_server : m.server.delivered ≡ m.client.submitted

at_settle : (before : List Step) (cb sb : Option ℕ) (first : Mark) (marks : List Mark) (m : Mark) → Effects (before ++ steps.Settle ∷ []) cb sb (first ∷ marks) → slice_get marks (length before) ≡ Some m → DeliveredAll m
at_settle [] cb sb first [] m h e = absurd h
at_settle [] cb sb first (next ∷ marks) m h e =
    let same : next ≡ m = (let p : Some next ≡ Some m = e in cc) in
    subst DeliveredAll same (record { to_client = h.0.0.client_delivered; to_server = h.0.0.server_delivered })
at_settle (step ∷ before) cb sb first [] m h e = absurd h
at_settle (step ∷ before) cb sb first (next ∷ marks) m h e = at_settle before _ _ next marks m h.1 e

last_settled : (before all : List Step) (marks : List Mark) (m : Mark) → all ≡ before ++ steps.Settle ∷ [] → Effects all None None marks → slice_get marks (length all) ≡ Some m → DeliveredAll m
last_settled before all [] m is h e = absurd (let p : None ≡ Some m = e in cc)
last_settled before all (first ∷ marks) m is h e =
    let n : length all ≡ suc (length before) = (let a = ap length is in let b = length-append before (steps.Settle ∷ []) in omega (arith, a, b)) in
    at_settle before None None first marks m (subst (λ l. Effects l None None (first ∷ marks)) is h) (subst (λ k. slice_get (first ∷ marks) k ≡ Some m) n e)

take_all : {A : Type 0} (l : List A) → take (length l) l ≡ l
take_all [] = refl
take_all (x ∷ l) = ap (λ k. x ∷ k) (take_all l)

-- Each side's delivered payloads are as many as the other submitted.
record IsDelivered (l : LinkState) : Type 0 where
  pub to_client : length l.carried.client.delivered ≡ length (submitted_by Server l.steps)
  pub to_server : length l.carried.server.delivered ≡ length (submitted_by Client l.steps)

settled_delivers : (cm : ClientPairs) (sm : ServerValues) (ag : Secrets) (client server : Config) (l : LinkState) (before : List Step) → l.steps ≡ before ++ steps.Settle ∷ [] → IsLink cm sm ag client server l.steps (report_so_far l) → IsDelivered l
settled_delivers cm sm ag client server l before is link =
    let m = link.last.0 in
    let all = last_settled before l.steps l.marks m is link.run.effects link.last.1 in
    let by_client = submitted_at Client l.steps l.marks link.run.first.0 (length l.steps) m link.run.effects link.run.first.1 (ap (λ (x : SideMark). x.submitted) link.run.first.2.of_client) link.last.1 in
    let by_server = submitted_at Server l.steps l.marks link.run.first.0 (length l.steps) m link.run.effects link.run.first.1 (ap (λ (x : SideMark). x.submitted) link.run.first.2.of_server) link.last.1 in
    let whole_client = ap (λ s. length (submitted_by Client s)) (take_all l.steps) in
    let whole_server = ap (λ s. length (submitted_by Server s)) (take_all l.steps) in
    let told_client = link.last.2.delivered_is in
    let told_server = link.last.3.delivered_is in
    let to_client = all.to_client in
    let to_server = all.to_server in
    record {
      to_client = omega (arith, by_server, whole_server, told_client, to_client);
      to_server = omega (arith, by_client, whole_client, told_server, to_server);
    }

-- ---- what is on the way

none_of_none : {A B : Type 0} (f : A → B) (l : List A) → map f l ≡ [] → l ≡ []
none_of_none f [] e = refl
none_of_none f (x ∷ l) e = absurd (let z : f x ∷ map f l ≡ [] = e in cc)

none_on_way : (way : List Packet) (received : ℕ) (submitted made : List (List ℕ)) → map (λ p. packet_text p) way ≡ drop received (submitted ++ made) → made ≡ [] → length submitted ≤ received → way ≡ []
none_on_way way received submitted made is none all =
    let e : submitted ++ made ≡ submitted = ap (λ l. submitted ++ l) none ∙ append-nil submitted in
    none_of_none (λ p. packet_text p) way (is ∙ (ap (drop received) e ∙ drop_all received submitted all))

is_quiet : (config : PairConfig) (s : PairOnLink) (p : IsPairAt config s) → LeavesNone s → IsDelivered s.link → IsQuietPair p.pair
is_quiet config s p none all = (
  none_on_way p.pair.to_client s.both.client.received (submitted_by Server s.link.steps) (state_at Server s.both).made p.to_client none.server_made (let a = all.to_client in let b = none.to_client in omega (arith, a, b)),
  none_on_way p.pair.to_server s.both.server.received (submitted_by Client s.link.steps) (state_at Client s.both).made p.to_server none.client_made (let a = all.to_server in let b = none.to_server in omega (arith, a, b)),
)

come_at : (config : PairConfig) → are_within config ≡ true → (s : PairOnLink) (p : IsPairAt config s) → IsQuietPair p.pair → (side : Side) (n : ℕ) (c : Channel) → slice_get (state_at side s.both).side.channels n ≡ Some c → c.started ≡ false → c.end.close_called ≡ false
    → (d : Channel) × (slice_get (state_at (other_side side) s.both).side.channels c.peer ≡ Some d) × (d.started ≡ true) × (d.end.close_called ≡ false → CameAll d.end c.end × CameAll c.end d.end)
come_at config within s p quiet Client n c is started unshut =
    let f = channels_come config.client.window config.client.largest config.server.window config.server.largest (settings config within) p.mids p.pair p.happens quiet Client n c (subst (λ (x : Mux). slice_get x.channels n ≡ Some c) (sym p.client) is) started unshut in
    (f.0, subst (λ (x : Mux). slice_get x.channels c.peer ≡ Some f.0) p.server f.1, f.2, f.3)
come_at config within s p quiet Server n c is started unshut =
    let f = channels_come config.client.window config.client.largest config.server.window config.server.largest (settings config within) p.mids p.pair p.happens quiet Server n c (subst (λ (x : Mux). slice_get x.channels n ≡ Some c) (sym p.server) is) started unshut in
    (f.0, subst (λ (x : Mux). slice_get x.channels c.peer ≡ Some f.0) p.client f.1, f.2, f.3)

pub runs_settle : (cm : ClientPairs) (sm : ServerValues) (ag : Secrets) → RunsSettle cm sm ag
runs_settle cm sm ag config client server steps report within run link before last_is =
    let none = run.settled before last_is in
    let p = runs_are_talks cm sm ag config client server steps report within run link in
    let of_last : IsLink cm sm ag client server run.last.link.steps (report_so_far run.last.link) =
    subst (λ r. IsLink cm sm ag client server run.last.link.steps r) run.tells.link (subst (λ s. IsLink cm sm ag client server s report.link) run.tells.steps link) in
    let quiet = is_quiet config run.last p none (settled_delivers cm sm ag client server run.last.link none.settled.0 none.settled.1 of_last) in
    record { moment = p; quiet = quiet; came = come_at config within run.last p quiet }
