-- The report of an attacked run is what such a report says: of both sides together, of the same packets.
use Rattle.std.proofs.Common.{◌≡◌, ℕ, List, [], ◌∷◌, ◌++◌, length, take, slice_get, refl, sym, ◌∙◌, ap, subst, Bool, true, false, Option, Some, None, arith, append-nil}
use Rattle.std.specs.Prelude.{Result, Ok, Err}
use Rattle.ssh_packet.specs.Sealing.{Item}
use Rattle.ssh_wire.specs.declared.error.Error.{Error}
use Rattle.ssh_wire.specs.declared.side.Side.{Side}
use Rattle.ssh_wire.specs.Sides.{same_side}
use Rattle.ssh_wire.specs.declared.side.Side.TheVariants.{Client, Server}
use Rattle.ssh_kex.specs.declared.config.Config.{Config}
use Rattle.ssh_rules.specs.Attacked.{AnswersFeed, AnswersFeedBy, AreAnswers, CarriesPrefix, FedAnswer, FedSide, IfOwn, Judged, IsAttackedLink, IsAttackedSide, accepted_of, ends_asked, fed_to, first_refusal, handed_to}
use Rattle.ssh_rules.specs.Attacking.{AttackedEnd, AttacksSide, Tells, attacked_report}
use Rattle.ssh_rules.specs.Asking.{AsksAtMost, PartCalls, kex_count, refused_packet}
use Rattle.ssh_rules.specs.AttackCauses.{refused_packet_at}
use Rattle.ssh_rules.specs.Handled.{AllRead, Ending, heard_in, id_text_in}
use Rattle.ssh_rules.specs.Log.{handled, recorded, wrote}
use Rattle.ssh_rules.specs.Machine.{Event}
use Rattle.ssh_rules.specs.Parts.{Accepting, Secrets, Trusting}
use Rattle.ssh_rules.specs.Standing.{IsNew, OfFault, OfMemory, OfPacket, OfVersion, RefusalCause, Standing}
use Rattle.ssh_rules.specs.Wire.{carried_payloads, exchange_block}
use Rattle.ssh_rules.specs.declared.link.AttackReport.{AttackReport}
use Rattle.ssh_rules.specs.declared.link.AttackStep.{AttackStep}
use Rattle.ssh_rules.specs.declared.link.AttackStep.TheVariants.{Feed, Rekey, Submit}
use Rattle.ssh_rules.specs.declared.link.SideReport.{SideReport}
use Rattle.ssh_rules.proofs.any_bytes.AttackedRuns.{EndsSide, StandsBy, ends_side}
use Rattle.ssh_rules.proofs.any_bytes.FedReports.{SideShown, ending_of, Told, failed_says, handed_as, live_says, shown_side}
use Rattle.ssh_rules.proofs.any_bytes.FedSides.{live_first}
use Rattle.ssh_rules.proofs.side.Tags.{prefix_of_sides}
use Rattle.ssh_rules.proofs.side.Valid.{is_within}

-- ---- one side

-- how its reading ended
abbrev pub ending_by : (t : Tells) (side : Side) (config : Config) (log : List Event) (fed : List ℕ) (accepted : List (List ℕ)) (refusal : Option Error) (asked : Bool) (e : AttackedEnd) → StandsBy t side config log fed accepted refusal asked e → Ending
ending_by t side config log fed accepted None asked e s = AllRead
ending_by t side config log fed accepted (Some error) asked e s = ending_of s.cause

-- how often its parts were asked
packets_of : (cause : RefusalCause) → refused_packet cause ≡ refused_packet_at (ending_of cause)
packets_of (OfFault fault) = refl
packets_of (OfPacket i) = refl
packets_of OfVersion = refl
packets_of OfMemory = refl

asks_by : (t : Tells) (side : Side) (config : Config) (log : List Event) (fed : List ℕ) (accepted : List (List ℕ)) (refusal : Option Error) (asked : Bool) (e : AttackedEnd) → (s : StandsBy t side config log fed accepted refusal asked e) → AsksAtMost (kex_count (handled log ++ refused_packet_at (ending_by t side config log fed accepted refusal asked e s))) t.calls e.calls
asks_by t side config log fed accepted None asked e s = subst (λ q. AsksAtMost (kex_count q) t.calls e.calls) (sym (append-nil (handled log))) s.1
asks_by t side config log fed accepted (Some error) asked e s = subst (λ q. AsksAtMost (kex_count (handled log ++ q)) t.calls e.calls) (packets_of s.cause) s.asks

-- of a whole run
abbrev pub run_ending : (t : Tells) (side : Side) (config : Config) (steps : List AttackStep) (answers : List (Result (Unit {0}) Error)) (new : AttackedEnd) → EndsSide t side config [] [] [] false steps answers new → Ending
run_ending t side config steps answers new r = ending_by t side config r.more (fed_to side steps) (accepted_of side steps answers) (first_refusal side steps answers) (ends_asked false side steps answers) new r.stands

pub run_asks : (t : Tells) (side : Side) (config : Config) (steps : List AttackStep) (answers : List (Result (Unit {0}) Error)) (new : AttackedEnd) → (r : EndsSide t side config [] [] [] false steps answers new) → AsksAtMost (kex_count (handled r.more ++ refused_packet_at (run_ending t side config steps answers new r))) t.calls new.calls
run_asks t side config steps answers new r = asks_by t side config r.more (fed_to side steps) (accepted_of side steps answers) (first_refusal side steps answers) (ends_asked false side steps answers) new r.stands

shown_by : (t : Tells) (agrees : Secrets) (lawful : Type 0) (accepts : Accepting) (trusts : Trusting) (side : Side) (config : Config) (log : List Event) (fed : List ℕ) (accepted : List (List ℕ)) (refusal : Option Error) (asked : Bool) (e : AttackedEnd) → Told t.says agrees lawful accepts trusts side config → (s : StandsBy t side config log fed accepted refusal asked e)
    → SideShown agrees lawful accepts trusts side config log (ending_by t side config log fed accepted refusal asked e s) (handed_as fed accepted refusal asked) (shown_side e.transport fed e.delivered)
shown_by t agrees lawful accepts trusts side config log fed accepted None asked e told s = live_says t.says agrees lawful accepts trusts side config log e.transport fed accepted e.delivered asked told s.0
shown_by t agrees lawful accepts trusts side config log fed accepted (Some error) asked e told s = failed_says t.says t.denies t.untrusted agrees lawful accepts trusts side config log s.at s.cause e.transport fed accepted e.delivered asked error told s.stands s.answers s.memory

abbrev pub first_end : PartCalls → Standing → AttackedEnd
first_end calls t = record { transport = t; taken = 0; delivered = []; calls = calls }

no_calls : (c : PartCalls) → AsksAtMost 0 c c
no_calls c = record { agreement = omega arith; hosts = omega arith; lookups = omega arith }

pub run_ends : (t : Tells) (side : Side) (config : Config) (steps : List AttackStep) (answers : List (Result (Unit {0}) Error)) (first : Standing) (new : AttackedEnd) → IsNew side config first → AttacksSide t side steps answers (first_end t.calls first) new → EndsSide t side config [] [] [] false steps answers new
run_ends t side config steps answers first new n h = ends_side t side config [] [] [] false steps answers (first_end t.calls first) new (live_first t.says side config first n) (record { taken = refl; asks = no_calls t.calls }) h

pub side_shown : (t : Tells) (agrees : Secrets) (lawful : Type 0) (accepts : Accepting) (trusts : Trusting) (side : Side) (config : Config) (steps : List AttackStep) (answers : List (Result (Unit {0}) Error)) (first : Standing) (new : AttackedEnd) → Told t.says agrees lawful accepts trusts side config → (n : IsNew side config first) → (h : AttacksSide t side steps answers (first_end t.calls first) new)
    → SideShown agrees lawful accepts trusts side config (run_ends t side config steps answers first new n h).more (run_ending t side config steps answers new (run_ends t side config steps answers first new n h)) (handed_to side steps answers) (attacked_report new)
side_shown t agrees lawful accepts trusts side config steps answers first new told n h =
    let r = run_ends t side config steps answers first new n h in
    let s = shown_by t agrees lawful accepts trusts side config r.more (fed_to side steps) (accepted_of side steps answers) (first_refusal side steps answers) (ends_asked false side steps answers) new told r.stands in
    subst (λ k. SideShown agrees lawful accepts trusts side config r.more (run_ending t side config steps answers new r) (handed_to side steps answers) (record { wire = new.transport.output; taken = k; delivered = new.delivered; exchanges = new.transport.state.records })) (sym r.taken) s

-- ---- both sides

each_one : (t : Tells) (side : Side) (steps : List AttackStep) (answers : List (Result (Unit {0}) Error)) (old new : AttackedEnd) → AttacksSide t side steps answers old new → length answers ≡ length steps
each_one t side [] [] old new h = refl
each_one t side [] (a ∷ answers) old new h = absurd h
each_one t side (step ∷ steps) [] old new h = absurd h
each_one t side (step ∷ steps) (a ∷ answers) old new h = ap (λ n. Rattle.std.proofs.Common.suc n) (each_one t side steps answers h.0 new h.2)

-- both, with the logs of both sides
pub record LinkShown (agrees : Secrets) (client_lawful server_lawful : Type 0) (accepts : Accepting) (trusts : Trusting) (client server : Config) (steps : List AttackStep) (report : AttackReport) (client_log server_log : List Event) (client_ends server_ends : Ending) : Type 0 where
  pub link : IsAttackedLink agrees client_lawful server_lawful accepts trusts client server steps report
  pub client_own : link.of_client.own ≡ wrote client_log
  pub client_ending : link.of_client.ending ≡ client_ends
  pub client_handled : link.of_client.handled ≡ handled client_log
  pub client_recorded : report.client.exchanges ≡ recorded client_log
  pub server_own : link.of_server.own ≡ wrote server_log
  pub server_ending : link.of_server.ending ≡ server_ends
  pub server_handled : link.of_server.handled ≡ handled server_log
  pub server_recorded : report.server.exchanges ≡ recorded server_log

pub shown_link : (client_tells server_tells : Tells) (agrees : Secrets) (client_lawful server_lawful : Type 0) (accepts : Accepting) (trusts : Trusting) (client server : Config) (steps : List AttackStep) (answers : List (Result (Unit {0}) Error)) (c s : Standing) (cn sn : AttackedEnd)
    → Told client_tells.says agrees client_lawful accepts trusts Client client → Told server_tells.says agrees server_lawful accepts trusts Server server
    → (nc : IsNew Client client c) → (ns : IsNew Server server s) → (hc : AttacksSide client_tells Client steps answers (first_end client_tells.calls c) cn) → (hs : AttacksSide server_tells Server steps answers (first_end server_tells.calls s) sn)
    → LinkShown agrees client_lawful server_lawful accepts trusts client server steps (record { client = attacked_report cn; server = attacked_report sn; answers = answers }) (run_ends client_tells Client client steps answers c cn nc hc).more (run_ends server_tells Server server steps answers s sn ns hs).more (run_ending client_tells Client client steps answers cn (run_ends client_tells Client client steps answers c cn nc hc)) (run_ending server_tells Server server steps answers sn (run_ends server_tells Server server steps answers s sn ns hs))
shown_link ct st agrees cl sl accepts trusts client server steps answers c s cn sn tc ts nc ns hc hs =
    let pc = side_shown ct agrees cl accepts trusts Client client steps answers c cn tc nc hc in
    let ps = side_shown st agrees sl accepts trusts Server server steps answers s sn ts ns hs in
    let C = pc.says_it in
    let S = ps.says_it in
    record {
      link = record {
        each_answered = each_one ct Client steps answers (first_end ct.calls c) cn hc;
        of_client = pc.says_it;
        of_server = ps.says_it;
        client_ordered = pc.ordered;
        server_ordered = ps.ordered;
        to_client = subst (λ d. CarriesPrefix Client client cn.transport.state.records sn.transport.state.records C.handled S.own d (accepted_of Server steps answers)) (sym C.delivered)
            (prefix_of_sides Client client server cn.transport.state.records sn.transport.state.records _ C.handled C.ending (λ k. exchange_block k C.kept) (λ k. exchange_block k S.kept) _ _ (accepted_of Server steps answers) sn.transport.output S.own (is_within Server server ts.valid) C.reads C.named S.named S.wire ps.few pc.quiet);
        to_server = subst (λ d. CarriesPrefix Server server sn.transport.state.records cn.transport.state.records S.handled C.own d (accepted_of Client steps answers)) (sym S.delivered)
            (prefix_of_sides Server server client sn.transport.state.records cn.transport.state.records _ S.handled S.ending (λ k. exchange_block k S.kept) (λ k. exchange_block k C.kept) _ _ (accepted_of Client steps answers) cn.transport.output C.own (is_within Client client tc.valid) S.reads S.named C.named C.wire pc.few ps.quiet);
      };
      client_ending = pc.ending_is;
      client_own = pc.own_is;
      client_handled = pc.handled_is;
      client_recorded = pc.exchanges_is;
      server_ending = ps.ending_is;
      server_own = ps.own_is;
      server_handled = ps.handled_is;
      server_recorded = ps.exchanges_is;
    }

pub attacked_link : (client_tells server_tells : Tells) (agrees : Secrets) (client_lawful server_lawful : Type 0) (accepts : Accepting) (trusts : Trusting) (client server : Config) (steps : List AttackStep) (answers : List (Result (Unit {0}) Error)) (c s : Standing) (cn sn : AttackedEnd)
    → Told client_tells.says agrees client_lawful accepts trusts Client client → Told server_tells.says agrees server_lawful accepts trusts Server server
    → IsNew Client client c → IsNew Server server s → AttacksSide client_tells Client steps answers (first_end client_tells.calls c) cn → AttacksSide server_tells Server steps answers (first_end server_tells.calls s) sn
    → IsAttackedLink agrees client_lawful server_lawful accepts trusts client server steps (record { client = attacked_report cn; server = attacked_report sn; answers = answers })
attacked_link ct st agrees cl sl accepts trusts client server steps answers c s cn sn tc ts nc ns hc hs = (shown_link ct st agrees cl sl accepts trusts client server steps answers c s cn sn tc ts nc ns hc hs).link

-- ---- two runs

-- Two sides of one configuration that were fed the same bytes, in whatever pieces, recorded the same exchanges, and
-- were refused for no packet or by the reader alone, delivered the same.
handled_all : (side : Side) (config : Config) (xs : List Rattle.ssh_kex.specs.declared.exchange.FinishedExchange.FinishedExchange) (bytes : List ℕ) (items : List Item) (ending : Rattle.ssh_rules.specs.Handled.Ending) → Rattle.ssh_rules.specs.Handled.Handled side config xs bytes items ending → ((i : Item) → ending ≡ Rattle.ssh_rules.specs.Handled.AtPacket i → ⊥) → (rest : List ℕ) × Rattle.ssh_packet.specs.Stream.EntriesBy (Rattle.ssh_rules.specs.Guess.ends_epoch side config) (Rattle.std.specs.Prelude.map (Rattle.ssh_kex.specs.Exchange.outgoing (Rattle.ssh_wire.specs.Sides.other_side side)) xs) bytes items rest
handled_all side config xs bytes items Rattle.ssh_rules.specs.Handled.AllRead h not = (h.rest, subst (λ l. Rattle.ssh_packet.specs.Stream.EntriesBy (Rattle.ssh_rules.specs.Guess.ends_epoch side config) (Rattle.std.specs.Prelude.map (Rattle.ssh_kex.specs.Exchange.outgoing (Rattle.ssh_wire.specs.Sides.other_side side)) xs) bytes l h.rest) (sym h.ending_is.0) h.entries)
handled_all side config xs bytes items (Rattle.ssh_rules.specs.Handled.AtFault f) h not = (h.rest, subst (λ l. Rattle.ssh_packet.specs.Stream.EntriesBy (Rattle.ssh_rules.specs.Guess.ends_epoch side config) (Rattle.std.specs.Prelude.map (Rattle.ssh_kex.specs.Exchange.outgoing (Rattle.ssh_wire.specs.Sides.other_side side)) xs) bytes l h.rest) (sym h.ending_is.0) h.entries)
handled_all side config xs bytes items (Rattle.ssh_rules.specs.Handled.AtPacket i) h not = absurd (not i refl)

pub same_delivered : (agrees agrees' : Secrets) (lawful lawful' : Type 0) (accepts accepts' : Accepting) (trusts trusts' : Trusting) (side : Side) (config : Config) (h h' : Rattle.ssh_rules.specs.Attacked.Handed) (r r' : SideReport) (a : IsAttackedSide agrees lawful accepts trusts side config h r) (b : IsAttackedSide agrees' lawful' accepts' trusts' side config h' r') → h.fed ≡ h'.fed → r.exchanges ≡ r'.exchanges → ((i : Item) → a.ending ≡ Rattle.ssh_rules.specs.Handled.AtPacket i → ⊥) → ((i : Item) → b.ending ≡ Rattle.ssh_rules.specs.Handled.AtPacket i → ⊥) → r.delivered ≡ r'.delivered
same_delivered agrees agrees' lawful lawful' accepts accepts' trusts trusts' side config h h' r r' a b fed xs na nb =
    let p = handled_all side config r.exchanges (Rattle.ssh_rules.specs.Handled.packets_in (heard_in side h.fed) h.fed) a.handled a.ending a.reads na in
    let q = handled_all side config r'.exchanges (Rattle.ssh_rules.specs.Handled.packets_in (heard_in side h'.fed) h'.fed) b.handled b.ending b.reads nb in
    let same = subst (λ x. Rattle.ssh_packet.specs.Stream.EntriesBy (Rattle.ssh_rules.specs.Guess.ends_epoch side config) (Rattle.std.specs.Prelude.map (Rattle.ssh_kex.specs.Exchange.outgoing (Rattle.ssh_wire.specs.Sides.other_side side)) x) (Rattle.ssh_rules.specs.Handled.packets_in (heard_in side h.fed) h.fed) b.handled q.0) (sym xs)
    (subst (λ f. Rattle.ssh_packet.specs.Stream.EntriesBy (Rattle.ssh_rules.specs.Guess.ends_epoch side config) (Rattle.std.specs.Prelude.map (Rattle.ssh_kex.specs.Exchange.outgoing (Rattle.ssh_wire.specs.Sides.other_side side)) r'.exchanges) (Rattle.ssh_rules.specs.Handled.packets_in (heard_in side f) f) b.handled q.0) (sym fed) q.1) in
    let one = Rattle.ssh_packet.proofs.Lemmas.one_reading_by (Rattle.ssh_rules.specs.Guess.ends_epoch side config) [] _ a.handled b.handled _ p.0 q.0 p.1.reads same.reads p.1.no_more same.no_more in
    a.delivered ∙ (ap carried_payloads one.0 ∙ sym b.delivered)

-- ---- answers

pub answers_weaker : (R S : Judged) (side : Side) (t : FedSide) (steps : List AttackStep) (answers : List (Result (Unit {0}) Error)) → ((items : List Item) → R.takes items → S.takes items) → ((items : List Item) (i : Item) (e : Error) → R.refuses items i e → S.refuses items i e) → AreAnswers R side t steps answers → AreAnswers S side t steps answers
answers_weaker R S side t [] [] v w h = tt
answers_weaker R S side t [] (a ∷ answers) v w h = h
answers_weaker R S side t (step ∷ steps) [] v w h = h
answers_weaker R S side t (Submit s p ∷ steps) (a ∷ answers) v w h = (h.0, answers_weaker R S side t steps answers v w h.1)
answers_weaker R S side t (Rekey s ∷ steps) (a ∷ answers) v w h = (h.0, answers_weaker R S side t steps answers v w h.1)
answers_weaker R S side t (Feed s bytes ∷ steps) (a ∷ answers) v w h = (own (same_side s side) h.0, answers_weaker R S side _ steps answers v w h.1) where
  by_answer : (a : Result (Unit {0}) Error) → FedAnswer R side t.config t.exchanges (t.fed ++ bytes) a → FedAnswer S side t.config t.exchanges (t.fed ++ bytes) a
  by_answer (Ok u) f = (f.0, f.1, f.2, v f.0 f.3, f.4)
  by_answer (Err e) f = (f.0, f.1, f.2, v f.0 f.3, (f.4.0, λ i k. w f.0 i e (f.4.1 i k)))

  by_failed : (b : Bool) → AnswersFeedBy b R side t bytes a → AnswersFeedBy b S side t bytes a
  by_failed true f = f
  by_failed false f = by_answer a f

  own : (b : Bool) → IfOwn b (AnswersFeed R side t bytes a) → IfOwn b (AnswersFeed S side t bytes a)
  own true f = by_failed t.failed f
  own false f = f
