-- One step of a run, by the counts of both sides.
use Rattle.std.proofs.Common.{◌≡◌, ◌↔◌, ℕ, suc, ◌+◌, ◌<◌, ◌≤◌, ◌^◌, max, List, [], ◌∷◌, ◌++◌, length, take, map, refl, sym, ◌∙◌, ap, subst, arith, Option, Some, None, Bor, Bool, true, false, IsTrue, length-append}
use Rattle.std.specs.Option.{option_copied}
use Rattle.ssh_packet.specs.Sealing.{Item}
use Rattle.ssh_wire.specs.declared.side.Side.{Side}
use Rattle.ssh_wire.specs.declared.side.Side.TheVariants.{Client, Server}
use Rattle.ssh_rules.specs.Wire.{carried_payloads, epochs_ended}
use Rattle.ssh_rules.specs.Marks.{Half, IsMarked, kexinits}
use Rattle.ssh_rules.specs.Run.{Effect, IsMoment, Moment, finished_at_rekey, mark_of, own_of, theirs_of}
use Rattle.ssh_rules.specs.declared.link.Mark.{Mark}
use Rattle.ssh_rules.specs.declared.link.SideMark.{SideMark}
use Rattle.ssh_rules.specs.declared.link.Step.{Step}
use Rattle.ssh_rules.specs.declared.link.Step.TheVariants.{Submit, Deliver, Rekey, Settle}
use Rattle.ssh_record.specs.Growing.{CausesAt, RunGoesOn, rekeyed}
use Rattle.ssh_record.specs.Runs.{sent_at}
use Rattle.ssh_record.specs.declared.recording.SentPair.{SentPair}
use Rattle.ssh_record.proofs.Lemmas.{front_take, kexinits_front, whole_one}
use Rattle.ssh_transcript.specs.declared.packet.Packet.{Packet}
use Rattle.ssh_judge.specs.Effects.{asks_side, rekeyed_behind, sent_of, submitted_after, taken_after}
use Rattle.ssh_judge.specs.Tallies.{IsKeptHalf}
use Rattle.ssh_judge.specs.Standing.{AreFactsOf, AreFlags, AreWires, BeginsOneMore, ComesBoth, ComesSide, CountsOn, CountsWhole, GoesOnTo, HaveBothCauses, HaveCausesFrom, KeepsBothCauses, KeepsCauses, ShowsRun, ShowsSide, StandBehind, StandsAtLast, StandsMarked, StopsAt, Wires, marks_at, moment_at}
use Rattle.ssh_judge.specs.declared.run.RunState.{RunState}
use Rattle.ssh_judge.specs.declared.side.SideState.{SideState}
use Rattle.ssh_judge.specs.declared.tally.Tally.{Tally}
use Rattle.ssh_judge.proofs.Changing.{one_mark}
use Rattle.ssh_judge.proofs.Flags.{FlagsGrow, asks_is, causes_by, causes_so, flags_more, is_asked}
use Rattle.ssh_judge.proofs.Fronts.{sent_whole}
use Rattle.ssh_judge.proofs.SideMarks.{marked_by, marked_so}
use Rattle.ssh_judge.proofs.Stepping.{Moves, came, changed_grows, effect_by, effect_grows, effect_so, effect_submitted, effect_taken, same_taken, submitted_few, taken_grows}

-- ---- both sides come to where so much is sent

come_shows : (w : Wires) (step : Step) (sent : SentPair) (run run1 : RunState) → AreWires w → ShowsRun w run → IsMoment w.kind w.client w.server (moment_at w run) → ComesBoth step sent run run1 → run.client.mark.sent ≤ sent.client → run.server.mark.sent ≤ sent.server → ShowsRun w run1
come_shows w step sent run run1 ws h m c a b = record {
  kind_is = c.kind_is ∙ h.kind_is;
  client = came w.kind step Client (marks_at run) sent w.client w.server w.client_items w.server_items w.client_kept w.server_kept run.client run1.client ws.client ws.server h.client
      (subst (λ k. ComesSide step Client (marks_at run) sent k run.client run1.client) h.server.facts.packets_are c.client)
      (subst (λ n. run.client.mark.sent ≤ n) (sym c.client.sent_is) a)
      (subst (λ n. run.client.mark.taken ≤ n) (sym c.client.taken_is) (taken_grows step Client (marks_at run) sent (let t = m.at_client.taken in omega (arith, t, b))));
  server = came w.kind step Server (marks_at run) sent w.server w.client w.server_items w.client_items w.server_kept w.client_kept run.server run1.server ws.server ws.client h.server
      (subst (λ k. ComesSide step Server (marks_at run) sent k run.server run1.server) h.client.facts.packets_are c.server)
      (subst (λ n. run.server.mark.sent ≤ n) (sym c.server.sent_is) b)
      (subst (λ n. run.server.mark.taken ≤ n) (sym c.server.taken_is) (taken_grows step Server (marks_at run) sent (let t = m.at_server.taken in omega (arith, t, a))));
}

moves_client : (w : Wires) (step : Step) (sent : SentPair) (run run1 : RunState) → ShowsRun w run → ShowsRun w run1 → ComesBoth step sent run run1 → run.client.mark.submitted + 1 < 2 ^ 64 → Moves step Client (marks_at run) sent run1.client.mark
moves_client w step sent run run1 h h1 c few = record {
  sent_is = c.client.sent_is;
  taken_is = c.client.taken_is;
  submitted_is = c.client.submitted_is few;
  delivered_stays = λ e. (same_taken w.client w.server w.client_items w.server_items w.client_kept w.server_kept run.client run1.client h.client h1.client e).0;
  finished_stays = λ e. (same_taken w.client w.server w.client_items w.server_items w.client_kept w.server_kept run.client run1.client h.client h1.client e).1;
}

moves_server : (w : Wires) (step : Step) (sent : SentPair) (run run1 : RunState) → ShowsRun w run → ShowsRun w run1 → ComesBoth step sent run run1 → run.server.mark.submitted + 1 < 2 ^ 64 → Moves step Server (marks_at run) sent run1.server.mark
moves_server w step sent run run1 h h1 c few = record {
  sent_is = c.server.sent_is;
  taken_is = c.server.taken_is;
  submitted_is = c.server.submitted_is few;
  delivered_stays = λ e. (same_taken w.server w.client w.server_items w.client_items w.server_kept w.client_kept run.server run1.server h.server h1.server e).0;
  finished_stays = λ e. (same_taken w.server w.client w.server_items w.client_items w.server_kept w.client_kept run.server run1.server h.server h1.server e).1;
}

-- how many exchanges were finished at the last rekey
rekey_is : (step : Step) (side : Side) (m : Mark) (before : Option ℕ) → rekeyed_behind step side (mark_of side m).finished before ≡ finished_at_rekey side step m before
rekey_is (Submit s p) side m before = refl
rekey_is (Deliver s n) side m before = refl
rekey_is (Rekey s) side m before = refl
rekey_is Settle side m before = refl

client_rekey : (w : Wires) (step : Step) (sent : SentPair) (steps : List Step) (front : List Moment) (marks : List Mark) (run run1 : RunState) → StandsAtLast w steps front marks run → ComesBoth step sent run run1 → run1.client.rekeyed ≡ finished_at_rekey Client step (marks_at run) (rekeyed Client None steps marks)
client_rekey w step sent steps front marks run run1 s c =
    let side : run.client.facts.side ≡ Client = s.shows.client.facts.side_is ∙ s.wires.client_is in
    c.client.rekeyed ∙ (ap (λ x. rekeyed_behind step x run.client.mark.finished run.client.rekeyed) side ∙ (ap (rekeyed_behind step Client run.client.mark.finished) s.client_rekeyed ∙ rekey_is step Client (marks_at run) (rekeyed Client None steps marks)))

server_rekey : (w : Wires) (step : Step) (sent : SentPair) (steps : List Step) (front : List Moment) (marks : List Mark) (run run1 : RunState) → StandsAtLast w steps front marks run → ComesBoth step sent run run1 → run1.server.rekeyed ≡ finished_at_rekey Server step (marks_at run) (rekeyed Server None steps marks)
server_rekey w step sent steps front marks run run1 s c =
    let side : run.server.facts.side ≡ Server = s.shows.server.facts.side_is ∙ s.wires.server_is in
    c.server.rekeyed ∙ (ap (λ x. rekeyed_behind step x run.server.mark.finished run.server.rekeyed) side ∙ (ap (rekeyed_behind step Server run.server.mark.finished) s.server_rekeyed ∙ rekey_is step Server (marks_at run) (rekeyed Server None steps marks)))

-- ---- a moment that the record leads to is the one that was computed

same_bool : (a b : Bool) → (IsTrue a → IsTrue b) → (IsTrue b → IsTrue a) → a ≡ b
same_bool true true f g = refl
same_bool false false f g = refl
same_bool true false f g = absurd (let z : false ≡ true = f refl in cc)
same_bool false true f g = absurd (let z : false ≡ true = g refl in cc)

same_inside : (a b : Bool) (m n k l : ℕ) → m ≡ n → k ≡ l → (IsTrue a ↔ (m < max 1 k)) → (IsTrue b ↔ (n < max 1 l)) → a ≡ b
same_inside a b m n k l e f h g =
    let moved : IsTrue b ↔ (m < max 1 k) = subst (λ x. IsTrue b ↔ (x < max 1 k)) (sym e) (subst (λ y. IsTrue b ↔ (n < max 1 y)) (sym f) g) in
    same_bool a b (λ t. moved.1 (h.0 t)) (λ t. h.1 (moved.0 t))

-- a side's mark, and its packets
pub record SameSide (half other : Half) (own theirs : List Item) (s : SideState) (m : SideMark) (xs ys : List Item) : Type 0 where
  pub mark : m ≡ s.mark
  pub own_is : xs ≡ take s.own.packets own
  pub theirs_is : ys ≡ take s.theirs.packets theirs

pub same_as : (kind : Bool) (half other : Half) (own theirs : List Item) (own_kept their_kept : List Packet) (s : SideState) (m om : SideMark) (xs ys : List Item) → IsMarked kind half other m om xs ys → ShowsSide half other own theirs own_kept their_kept s → m.sent ≡ s.mark.sent → m.taken ≡ s.mark.taken → m.submitted ≡ s.mark.submitted → SameSide half other own theirs s m xs ys
same_as kind half other own theirs own_kept their_kept s m om xs ys h v e f g =
    let mine : xs ≡ take s.own.packets own = whole_one half m.sent s.mark.sent xs (take s.own.packets own) e (sent_whole half m.sent xs h.sent) v.counts_own.whole in
    let yours : ys ≡ take s.theirs.packets theirs = whole_one other m.taken s.mark.taken ys (take s.theirs.packets theirs) f h.taken_whole v.counts_theirs.whole in
    let co = v.counts_own.front.counts in
    let ct = v.counts_theirs.front.counts in
    let finished : m.finished ≡ s.mark.finished = h.finished ∙ (ap epochs_ended yours ∙ (sym ct.ended ∙ sym v.finished)) in
    record {
      mark = one_mark m s.mark e f (h.delivered ∙ (ap (λ t. length (carried_payloads t)) yours ∙ (sym ct.carried ∙ sym v.delivered))) finished
          (same_inside m.inside s.mark.inside m.finished s.mark.finished (kexinits xs) s.own.kexinits finished (ap kexinits mine ∙ sym co.begun) h.inside v.inside) g;
      own_is = mine;
      theirs_is = yours;
    }

abbrev pub moment_with : SideMark → SideMark → List Item → List Item → List Item → List Item → Moment
moment_with m n a b c d = record { mark = record { client = m; server = n }; client_own = a; client_theirs = b; server_own = c; server_theirs = d }

pub same_moment : (x : Moment) (m n : SideMark) (a b c d : List Item) → x.mark.client ≡ m → x.mark.server ≡ n → x.client_own ≡ a → x.client_theirs ≡ b → x.server_own ≡ c → x.server_theirs ≡ d → x ≡ moment_with m n a b c d
same_moment x m n a b c d p q r s t u =
    ap (λ v. moment_with v x.mark.server x.client_own x.client_theirs x.server_own x.server_theirs) p ∙ (ap (λ v. moment_with m v x.client_own x.client_theirs x.server_own x.server_theirs) q
    ∙ (ap (λ v. moment_with m n v x.client_theirs x.server_own x.server_theirs) r ∙ (ap (λ v. moment_with m n a v x.server_own x.server_theirs) s
    ∙ (ap (λ v. moment_with m n a b v x.server_theirs) t ∙ ap (moment_with m n a b c) u))))

same_as_computed : (w : Wires) (step : Step) (sent : SentPair) (cb sb : Option ℕ) (run run1 : RunState) (after : Moment) → ShowsRun w run1 → Moves step Client (marks_at run) sent run1.client.mark → Moves step Server (marks_at run) sent run1.server.mark
    → IsMoment w.kind w.client w.server after → Effect step cb sb (marks_at run) after.mark → sent_at after.mark ≡ sent → after ≡ moment_at w run1
same_as_computed w step sent cb sb run run1 after h mc ms im ef e =
    let taken_c : after.mark.client.taken ≡ run1.client.mark.taken = effect_taken step cb sb (marks_at run) after.mark Client ef ∙ (ap (taken_after step Client (marks_at run)) e ∙ sym mc.taken_is) in
    let taken_s : after.mark.server.taken ≡ run1.server.mark.taken = effect_taken step cb sb (marks_at run) after.mark Server ef ∙ (ap (taken_after step Server (marks_at run)) e ∙ sym ms.taken_is) in
    let c = same_as w.kind w.client w.server w.client_items w.server_items w.client_kept w.server_kept run1.client after.mark.client after.mark.server after.client_own after.client_theirs im.at_client h.client
    (ap (λ (p : SentPair). p.client) e ∙ sym mc.sent_is) taken_c (effect_submitted step cb sb (marks_at run) after.mark Client ef ∙ sym mc.submitted_is) in
    let s = same_as w.kind w.server w.client w.server_items w.client_items w.server_kept w.client_kept run1.server after.mark.server after.mark.client after.server_own after.server_theirs im.at_server h.server
    (ap (λ (p : SentPair). p.server) e ∙ sym ms.sent_is) taken_s (effect_submitted step cb sb (marks_at run) after.mark Server ef ∙ sym ms.submitted_is) in
    same_moment after run1.client.mark run1.server.mark _ _ _ _ c.mark s.mark c.own_is c.theirs_is s.own_is s.theirs_is

-- ---- causes

more_packets : (kind : Bool) (step : Step) (side : Side) (m : Mark) (sent : SentPair) (half other : Half) (own theirs : List Item) (own_kept their_kept : List Packet) (s s' : SideState) → IsKeptHalf kind half own own_kept → ShowsSide half other own theirs own_kept their_kept s → ComesSide step side m sent their_kept s s' → s.own.packets ≤ s'.own.packets
more_packets kind step side m sent half other own theirs own_kept their_kept s s' w h c =
    (subst (λ k. CountsOn k (sent_of side sent) s.own s'.own) h.facts.packets_are c.own kind half own w h.counts_own.front).more

begun_grows : (items : List Item) (m n : ℕ) → m ≤ n → kexinits (take m items) ≤ kexinits (take n items)
begun_grows items m n l = kexinits_front (take n items) (take m items) (front_take m n items l)

client_grow : (w : Wires) (step : Step) (sent : SentPair) (steps : List Step) (front : List Moment) (marks : List Mark) (run run1 run2 : RunState) → StandsAtLast w steps front marks run → ComesBoth step sent run run1 → ShowsRun w run1 → KeepsBothCauses step run1 run2
    → FlagsGrow steps step front (moment_at w run) (moment_at w run1) w.client run1.client run2.client (take run1.client.own.packets w.client_items) (take run1.client.theirs.packets w.server_items)
client_grow w step sent steps front marks run run1 run2 s c h k = record {
  many = s.many;
  flags = subst (λ (v : List Bool). AreFlags steps (front ++ moment_at w run ∷ []) (moment_at w run) w.client v) (sym (ap (λ x. x.items) c.client.causes)) s.client_causes;
  keeps = k.client;
  side_is = h.client.facts.side_is;
  write_is = h.client.facts.write_is;
  read_is = h.client.facts.read_is;
  own_is = ap (λ x. own_of x (moment_at w run1)) s.wires.client_is;
  theirs_is = ap (λ x. theirs_of x (moment_at w run1)) s.wires.client_is;
  counts_own = h.client.counts_own.front.counts;
  counts_theirs = h.client.counts_theirs.front.counts;
  grows = subst (λ x. kexinits (own_of x (moment_at w run)) ≤ kexinits (own_of x (moment_at w run1))) (sym s.wires.client_is) (begun_grows w.client_items run.client.own.packets run1.client.own.packets
      (more_packets w.kind step Client (marks_at run) sent w.client w.server w.client_items w.server_items w.client_kept w.server_kept run.client run1.client s.wires.client s.shows.client (subst (λ x. ComesSide step Client (marks_at run) sent x run.client run1.client) s.shows.server.facts.packets_are c.client)));
}

server_grow : (w : Wires) (step : Step) (sent : SentPair) (steps : List Step) (front : List Moment) (marks : List Mark) (run run1 run2 : RunState) → StandsAtLast w steps front marks run → ComesBoth step sent run run1 → ShowsRun w run1 → KeepsBothCauses step run1 run2
    → FlagsGrow steps step front (moment_at w run) (moment_at w run1) w.server run1.server run2.server (take run1.server.own.packets w.server_items) (take run1.server.theirs.packets w.client_items)
server_grow w step sent steps front marks run run1 run2 s c h k = record {
  many = s.many;
  flags = subst (λ (v : List Bool). AreFlags steps (front ++ moment_at w run ∷ []) (moment_at w run) w.server v) (sym (ap (λ x. x.items) c.server.causes)) s.server_causes;
  keeps = k.server;
  side_is = h.server.facts.side_is;
  write_is = h.server.facts.write_is;
  read_is = h.server.facts.read_is;
  own_is = ap (λ x. own_of x (moment_at w run1)) s.wires.server_is;
  theirs_is = ap (λ x. theirs_of x (moment_at w run1)) s.wires.server_is;
  counts_own = h.server.counts_own.front.counts;
  counts_theirs = h.server.counts_theirs.front.counts;
  grows = subst (λ x. kexinits (own_of x (moment_at w run)) ≤ kexinits (own_of x (moment_at w run1))) (sym s.wires.server_is) (begun_grows w.server_items run.server.own.packets run1.server.own.packets
      (more_packets w.kind step Server (marks_at run) sent w.server w.client w.server_items w.client_items w.server_kept w.client_kept run.server run1.server s.wires.server s.shows.server (subst (λ x. ComesSide step Server (marks_at run) sent x run.server run1.server) s.shows.client.facts.packets_are c.server)));
}

-- ---- behind a step

begins_told : (step : Step) (side : Side) (m : SideMark) (s : SideState) (old new : ℕ) → s.facts.side ≡ side → s.own.kexinits ≡ new → length s.causes.items ≡ old → (step ≡ Rekey side → m.inside ≡ false → new ≡ old + 1) → BeginsOneMore step m s
begins_told step side m s old new e n o h = record { one = λ a i. (let r = h (asks_is step side (ap (asks_side step) (sym e) ∙ a)) i in omega (arith, r, n, o)) }

begins_by : (step : Step) (side : Side) (m : SideMark) (s : SideState) (old new : ℕ) → s.facts.side ≡ side → s.own.kexinits ≡ new → length s.causes.items ≡ old → BeginsOneMore step m s → step ≡ Rekey side → m.inside ≡ false → new ≡ old + 1
begins_by step side m s old new e n o h a i = (let r = h.one (ap (asks_side step) e ∙ is_asked step side a) i in omega (arith, r, n, o))

client_begun : (w : Wires) (step : Step) (sent : SentPair) (steps : List Step) (front : List Moment) (marks : List Mark) (run run1 : RunState) → StandsAtLast w steps front marks run → ComesBoth step sent run run1 → length run1.client.causes.items ≡ kexinits (take run.client.own.packets w.client_items)
client_begun w step sent steps front marks run run1 s c = ap (λ x. length x.items) c.client.causes ∙ (s.client_causes.many ∙ ap (λ x. kexinits (own_of x (moment_at w run))) s.wires.client_is)

server_begun : (w : Wires) (step : Step) (sent : SentPair) (steps : List Step) (front : List Moment) (marks : List Mark) (run run1 : RunState) → StandsAtLast w steps front marks run → ComesBoth step sent run run1 → length run1.server.causes.items ≡ kexinits (take run.server.own.packets w.server_items)
server_begun w step sent steps front marks run run1 s c = ap (λ x. length x.items) c.server.causes ∙ (s.server_causes.many ∙ ap (λ x. kexinits (own_of x (moment_at w run))) s.wires.server_is)

-- a moment that goes on passes the tests
pub record Passes (w : Wires) (step : Step) (sent : SentPair) (run run1 : RunState) : Type 0 where
  pub behind : StandBehind step (marks_at run) run1
  pub causes : (run2 : RunState) → KeepsBothCauses step run1 run2 → HaveCausesFrom run2.client run2.server (length run1.client.causes.items) × HaveCausesFrom run2.server run2.client (length run1.server.causes.items)

few_more : (n k : ℕ) → n ≤ k → k + 1 < 2 ^ 64 → n + 1 < 2 ^ 64
few_more n k a b = omega (arith, a, b)

pub passes : (w : Wires) (step : Step) (sent : SentPair) (steps : List Step) (front : List Moment) (marks : List Mark) (run run1 : RunState) (after : Moment) → StandsAtLast w steps front marks run → length steps + 1 < 2 ^ 64 → ComesBoth step sent run run1
    → RunGoesOn w.kind w.client w.server steps front (moment_at w run) marks step after → sent_at after.mark ≡ sent → Passes w step sent run run1
passes w step sent steps front marks run run1 after s few c g e = record {
  behind = record {
    changed = effect_so step (marks_at run) run1.client run1.server
        (subst (λ x. Effect step x run1.server.rekeyed (marks_at run) (marks_at run1)) (sym (client_rekey w step sent steps front marks run run1 s c))
        (subst (λ x. Effect step (finished_at_rekey Client step (marks_at run) (rekeyed Client None steps marks)) x (marks_at run) (marks_at run1)) (sym (server_rekey w step sent steps front marks run run1 s c))
        (subst (λ (x : Moment). Effect step (finished_at_rekey Client step (marks_at run) (rekeyed Client None steps marks)) (finished_at_rekey Server step (marks_at run) (rekeyed Server None steps marks)) (marks_at run) x.mark) same g.effect)));
    client = subst (λ k. StandsMarked run1.client run1.server k) (sym shows.kind_is) (marked_so w.kind w.client w.server w.client_items w.server_items w.client_kept w.server_kept run1.client run1.server s.wires.client s.wires.server shows.client shows.server.facts.line_is now.at_client);
    server = subst (λ k. StandsMarked run1.server run1.client k) (sym shows.kind_is) (marked_so w.kind w.server w.client w.server_items w.client_items w.server_kept w.client_kept run1.server run1.client s.wires.server s.wires.client shows.server shows.client.facts.line_is now.at_server);
    client_begins = begins_told step Client run.client.mark run1.client _ _ (shows.client.facts.side_is ∙ s.wires.client_is) shows.client.counts_own.front.counts.begun (client_begun w step sent steps front marks run run1 s c)
        (λ a i. subst (λ (x : Moment). kexinits x.client_own ≡ kexinits (take run.client.own.packets w.client_items) + 1) same (g.begins Client a i));
    server_begins = begins_told step Server run.server.mark run1.server _ _ (shows.server.facts.side_is ∙ s.wires.server_is) shows.server.counts_own.front.counts.begun (server_begun w step sent steps front marks run run1 s c)
        (λ a i. subst (λ (x : Moment). kexinits x.server_own ≡ kexinits (take run.server.own.packets w.server_items) + 1) same (g.begins Server a i));
  };
  causes = λ run2 k. (let gc = client_grow w step sent steps front marks run run1 run2 s c shows k in let gs = server_grow w step sent steps front marks run run1 run2 s c shows k in (
    causes_so steps step front (moment_at w run) (moment_at w run1) w.client w.server run1.client run2.client run2.server _ _ gc (flags_more steps step front (moment_at w run) (moment_at w run1) w.server run1.server run2.server _ _ gs)
        (subst (λ x. CausesAt (steps ++ step ∷ []) ((front ++ moment_at w run ∷ []) ++ x ∷ []) w.client w.server (length steps)) same g.client_causes),
    causes_so steps step front (moment_at w run) (moment_at w run1) w.server w.client run1.server run2.server run2.client _ _ gs (flags_more steps step front (moment_at w run) (moment_at w run1) w.client run1.client run2.client _ _ gc)
        (subst (λ x. CausesAt (steps ++ step ∷ []) ((front ++ moment_at w run ∷ []) ++ x ∷ []) w.server w.client (length steps)) same g.server_causes),
  ));
} where
  more : (s : Side) → (mark_of s (marks_at run)).sent ≤ (mark_of s after.mark).sent
  more s = effect_grows step _ _ (marks_at run) after.mark s g.effect

  shows : ShowsRun w run1
  shows = come_shows w step sent run run1 s.wires s.shows s.moment c (let a = more Client in omega (arith, a, ap (λ (p : SentPair). p.client) e)) (let a = more Server in omega (arith, a, ap (λ (p : SentPair). p.server) e))

  same : after ≡ moment_at w run1
  same = same_as_computed w step sent _ _ run run1 after shows (moves_client w step sent run run1 s.shows shows c (few_more run.client.mark.submitted (length steps) s.client_submitted few)) (moves_server w step sent run run1 s.shows shows c (few_more run.server.mark.submitted (length steps) s.server_submitted few)) g.moment g.effect e

  now : IsMoment w.kind w.client w.server (moment_at w run1)
  now = subst (IsMoment w.kind w.client w.server) same g.moment

-- ---- where the tests pass the run goes on

map_more : {A B : Type 0} (f : A → B) (xs : List A) (y : A) → map f (xs ++ y ∷ []) ≡ map f xs ++ f y ∷ []
map_more f [] y = refl
map_more f (x ∷ xs) y = ap (λ t. f x ∷ t) (map_more f xs y)

count_map : {A B : Type 0} (f : A → B) (xs : List A) → length (map f xs) ≡ length xs
count_map f [] = refl
count_map f (x ∷ xs) = ap suc (count_map f xs)

rekeyed_more : (side : Side) (before : Option ℕ) (steps : List Step) (step : Step) (front : List Mark) (m m' : Mark) → length front ≡ length steps → rekeyed side before (steps ++ step ∷ []) ((front ++ m ∷ []) ++ m' ∷ []) ≡ finished_at_rekey side step m (rekeyed side before steps (front ++ m ∷ []))
rekeyed_more side before [] step [] m m' e = refl
rekeyed_more side before [] step (x ∷ front) m m' e = absurd (omega (arith, e))
rekeyed_more side before (s ∷ steps) step [] m m' e = absurd (omega (arith, e))
rekeyed_more side before (s ∷ steps) step (x ∷ front) m m' e = rekeyed_more side (finished_at_rekey side s x before) steps step front m m' (omega (arith, e))

shows_kept : (step : Step) (half other : Half) (own theirs : List Item) (own_kept their_kept : List Packet) (s s' : SideState) → KeepsCauses step s s' → ShowsSide half other own theirs own_kept their_kept s → ShowsSide half other own theirs own_kept their_kept s'
shows_kept step half other own theirs own_kept their_kept s s' k h = record {
  facts = subst (λ f. AreFactsOf half own_kept f) (sym k.facts) h.facts;
  counts_own = subst (λ t. CountsWhole half own own_kept s'.mark.sent t) (sym k.own) (subst (λ (m : SideMark). CountsWhole half own own_kept m.sent s.own) (sym k.mark) h.counts_own);
  counts_theirs = subst (λ t. CountsWhole other theirs their_kept s'.mark.taken t) (sym k.theirs) (subst (λ (m : SideMark). CountsWhole other theirs their_kept m.taken s.theirs) (sym k.mark) h.counts_theirs);
  delivered = ap (λ (m : SideMark). m.delivered) k.mark ∙ (h.delivered ∙ sym (ap (λ (t : Tally). t.carried) k.theirs));
  finished = ap (λ (m : SideMark). m.finished) k.mark ∙ (h.finished ∙ sym (ap (λ (t : Tally). length t.ended.items) k.theirs));
  inside = subst (λ (t : Tally). IsTrue s'.mark.inside ↔ (s'.mark.finished < max 1 t.kexinits)) (sym k.own) (subst (λ (m : SideMark). IsTrue m.inside ↔ (m.finished < max 1 s.own.kexinits)) (sym k.mark) h.inside);
}

moment_kept : (w : Wires) (step : Step) (run run' : RunState) → KeepsBothCauses step run run' → moment_at w run' ≡ moment_at w run
moment_kept w step run run' k =
    same_moment (moment_at w run') run.client.mark run.server.mark _ _ _ _ k.client.mark k.server.mark
    (ap (λ (t : Tally). take t.packets w.client_items) k.client.own) (ap (λ (t : Tally). take t.packets w.server_items) k.client.theirs)
    (ap (λ (t : Tally). take t.packets w.server_items) k.server.own) (ap (λ (t : Tally). take t.packets w.client_items) k.server.theirs)

-- what a run's state is behind the step
pub record Goes (w : Wires) (steps : List Step) (step : Step) (front : List Moment) (marks : List Mark) (run run2 : RunState) : Type 0 where
  pub on : RunGoesOn w.kind w.client w.server steps front (moment_at w run) marks step (moment_at w run2)
  pub stands : StandsAtLast w (steps ++ step ∷ []) (front ++ moment_at w run ∷ []) (marks ++ marks_at run2 ∷ []) run2

pub goes : (w : Wires) (step : Step) (sent : SentPair) (steps : List Step) (front : List Moment) (marks : List Mark) (run run1 run2 : RunState) → StandsAtLast w steps front marks run → length steps + 1 < 2 ^ 64 → ComesBoth step sent run run1 → StandBehind step (marks_at run) run1
    → KeepsBothCauses step run1 run2 → HaveCausesFrom run2.client run2.server (length run1.client.causes.items) → HaveCausesFrom run2.server run2.client (length run1.server.causes.items) → Goes w steps step front marks run run2
goes w step sent steps front marks run run1 run2 s few c b k hc hs = record {
  on = subst (λ x. RunGoesOn w.kind w.client w.server steps front (moment_at w run) marks step x) (sym kept) on;
  stands = record {
    wires = s.wires;
    shows = record {
      kind_is = k.kind_is ∙ shows.kind_is;
      client = shows_kept step w.client w.server w.client_items w.server_items w.client_kept w.server_kept run1.client run2.client k.client shows.client;
      server = shows_kept step w.server w.client w.server_items w.client_items w.server_kept w.client_kept run1.server run2.server k.server shows.server;
    };
    moment = subst (IsMoment w.kind w.client w.server) (sym kept) now;
    many = omega (arith, length-append front (moment_at w run ∷ []), length-append steps (step ∷ []), many);
    marks_are = ap (λ t. t ++ marks_at run2 ∷ []) s.marks_are ∙ sym (map_more (λ (m : Moment). m.mark) (front ++ moment_at w run ∷ []) (moment_at w run2));
    client_rekeyed = k.client.rekeyed ∙ (client_rekey w step sent steps front marks run run1 s c ∙ sym (later Client));
    server_rekeyed = k.server.rekeyed ∙ (server_rekey w step sent steps front marks run run1 s c ∙ sym (later Server));
    client_causes = subst (λ x. AreFlags (steps ++ step ∷ []) ((front ++ moment_at w run ∷ []) ++ x ∷ []) x w.client run2.client.causes.items) (sym kept) client_flags;
    server_causes = subst (λ x. AreFlags (steps ++ step ∷ []) ((front ++ moment_at w run ∷ []) ++ x ∷ []) x w.server run2.server.causes.items) (sym kept) server_flags;
    client_submitted = fewer Client run2.client.mark.submitted run.client.mark.submitted s.client_submitted (ap (λ (m : SideMark). m.submitted) k.client.mark ∙ mc.submitted_is);
    server_submitted = fewer Server run2.server.mark.submitted run.server.mark.submitted s.server_submitted (ap (λ (m : SideMark). m.submitted) k.server.mark ∙ ms.submitted_is);
  };
} where
  many : length front ≡ length steps
  many = s.many

  grow : (run.client.mark.sent ≤ run1.client.mark.sent) × (run.server.mark.sent ≤ run1.server.mark.sent)
  grow = changed_grows step (marks_at run) run1.client run1.server b.changed

  shows : ShowsRun w run1
  shows = come_shows w step sent run run1 s.wires s.shows s.moment c (subst (λ n. run.client.mark.sent ≤ n) c.client.sent_is grow.0) (subst (λ n. run.server.mark.sent ≤ n) c.server.sent_is grow.1)

  mc : Moves step Client (marks_at run) sent run1.client.mark
  mc = moves_client w step sent run run1 s.shows shows c (few_more run.client.mark.submitted (length steps) s.client_submitted few)

  ms : Moves step Server (marks_at run) sent run1.server.mark
  ms = moves_server w step sent run run1 s.shows shows c (few_more run.server.mark.submitted (length steps) s.server_submitted few)

  kept : moment_at w run2 ≡ moment_at w run1
  kept = moment_kept w step run1 run2 k

  now : IsMoment w.kind w.client w.server (moment_at w run1)
  now = record {
    at_client = marked_by w.kind w.client w.server w.client_items w.server_items w.client_kept w.server_kept run1.client run1.server s.wires.client s.wires.server shows.client shows.server.facts.line_is (subst (λ x. StandsMarked run1.client run1.server x) shows.kind_is b.client);
    at_server = marked_by w.kind w.server w.client w.server_items w.client_items w.server_kept w.client_kept run1.server run1.client s.wires.server s.wires.client shows.server shows.client.facts.line_is (subst (λ x. StandsMarked run1.server run1.client x) shows.kind_is b.server);
  }

  gc : FlagsGrow steps step front (moment_at w run) (moment_at w run1) w.client run1.client run2.client (take run1.client.own.packets w.client_items) (take run1.client.theirs.packets w.server_items)
  gc = client_grow w step sent steps front marks run run1 run2 s c shows k

  gs : FlagsGrow steps step front (moment_at w run) (moment_at w run1) w.server run1.server run2.server (take run1.server.own.packets w.server_items) (take run1.server.theirs.packets w.client_items)
  gs = server_grow w step sent steps front marks run run1 run2 s c shows k

  client_flags : AreFlags (steps ++ step ∷ []) ((front ++ moment_at w run ∷ []) ++ moment_at w run1 ∷ []) (moment_at w run1) w.client run2.client.causes.items
  client_flags = flags_more steps step front (moment_at w run) (moment_at w run1) w.client run1.client run2.client _ _ gc

  server_flags : AreFlags (steps ++ step ∷ []) ((front ++ moment_at w run ∷ []) ++ moment_at w run1 ∷ []) (moment_at w run1) w.server run2.server.causes.items
  server_flags = flags_more steps step front (moment_at w run) (moment_at w run1) w.server run1.server run2.server _ _ gs

  begun : (s' : Side) → step ≡ Rekey s' → (mark_of s' (marks_at run)).inside ≡ false → kexinits (own_of s' (moment_at w run1)) ≡ kexinits (own_of s' (moment_at w run)) + 1
  begun Client a i = begins_by step Client run.client.mark run1.client _ _ (shows.client.facts.side_is ∙ s.wires.client_is) shows.client.counts_own.front.counts.begun (client_begun w step sent steps front marks run run1 s c) b.client_begins a i
  begun Server a i = begins_by step Server run.server.mark run1.server _ _ (shows.server.facts.side_is ∙ s.wires.server_is) shows.server.counts_own.front.counts.begun (server_begun w step sent steps front marks run run1 s c) b.server_begins a i

  on : RunGoesOn w.kind w.client w.server steps front (moment_at w run) marks step (moment_at w run1)
  on = record {
    moment = now;
    effect = subst (λ x. Effect step x (finished_at_rekey Server step (marks_at run) (rekeyed Server None steps marks)) (marks_at run) (marks_at run1)) (client_rekey w step sent steps front marks run run1 s c)
        (subst (λ x. Effect step run1.client.rekeyed x (marks_at run) (marks_at run1)) (server_rekey w step sent steps front marks run run1 s c) (effect_by step (marks_at run) sent run1.client run1.server mc ms b.changed));
    begins = begun;
    client_causes = causes_by steps step front (moment_at w run) (moment_at w run1) w.client w.server run1.client run2.client run2.server _ _ gc server_flags hc;
    server_causes = causes_by steps step front (moment_at w run) (moment_at w run1) w.server w.client run1.server run2.server run2.client _ _ gs client_flags hs;
  }

  later : (side : Side) → rekeyed side None (steps ++ step ∷ []) (marks ++ marks_at run2 ∷ []) ≡ finished_at_rekey side step (marks_at run) (rekeyed side None steps marks)
  later side =
      let split : marks ≡ map (λ (m : Moment). m.mark) front ++ marks_at run ∷ [] = s.marks_are ∙ map_more (λ (m : Moment). m.mark) front (moment_at w run) in
      subst (λ t. rekeyed side None (steps ++ step ∷ []) (t ++ marks_at run2 ∷ []) ≡ finished_at_rekey side step (marks_at run) (rekeyed side None steps t)) (sym split)
      (rekeyed_more side None steps step (map (λ (m : Moment). m.mark) front) (marks_at run) (marks_at run2) (count_map (λ (m : Moment). m.mark) front ∙ s.many))

  fewer : (side : Side) (n old : ℕ) → old ≤ length steps → n ≡ submitted_after step side old → n ≤ length (steps ++ step ∷ [])
  fewer side n old l e = omega (arith, l, e, submitted_few step side old, length-append steps (step ∷ []))

-- ---- what a step is answered

pub goes_on_to : (step : Step) (sent : SentPair) (run run1 run2 : RunState) (m : Mark) (all : Bool) → ComesBoth step sent run run1 → StandBehind step (marks_at run) run1 → KeepsBothCauses step run1 run2 → (IsTrue all ↔ HaveBothCauses run1 run2) → all ≡ true → m ≡ marks_at run1 → GoesOnTo step run m run2
goes_on_to step sent run run1 run2 m all c b k told t e = λ w steps front marks s few.
    let h = told.0 t in
    let g = goes w step sent steps front marks run run1 run2 s few c b k h.0 h.1 in
    let same : m ≡ marks_at run2 = e ∙ sym (both_same (marks_at run2) run1.client.mark run1.server.mark k.client.mark k.server.mark) in
    (g.on, subst (λ x. StandsAtLast w (steps ++ step ∷ []) (front ++ moment_at w run ∷ []) (marks ++ x ∷ []) run2) (sym same) g.stands, same)
  where
    both_same : (x : Mark) (a b : SideMark) → x.client ≡ a → x.server ≡ b → x ≡ record { client = a; server = b }
    both_same x a b p q = ap (λ v. let t : Mark = record { client = v; server = x.server } in t) p ∙ ap (λ v. let t : Mark = record { client = a; server = v } in t) q

pub stops_tests : (step : Step) (sent : SentPair) (run run1 : RunState) → ComesBoth step sent run run1 → (StandBehind step (marks_at run) run1 → ⊥) → StopsAt step sent run
stops_tests step sent run run1 c n = λ w steps front marks s few after e g. n (passes w step sent steps front marks run run1 after s few c g e).behind

pub stops_causes : (step : Step) (sent : SentPair) (run run1 run2 : RunState) → ComesBoth step sent run run1 → KeepsBothCauses step run1 run2 → (HaveBothCauses run1 run2 → ⊥) → StopsAt step sent run
stops_causes step sent run run1 run2 c k n = λ w steps front marks s few after e g. n ((passes w step sent steps front marks run run1 after s few c g e).causes run2 k)

false_not : (b : Bool) (P : Type 0) → (IsTrue b ↔ P) → b ≡ false → P → ⊥
false_not b P h e p = (let z : false ≡ true = sym e ∙ h.1 p in cc)

pub tests_fail : (step : Step) (sent : SentPair) (run run1 : RunState) (b : Bool) → ComesBoth step sent run run1 → (IsTrue b ↔ StandBehind step (marks_at run) run1) → b ≡ false → StopsAt step sent run
tests_fail step sent run run1 b c h e = stops_tests step sent run run1 c (false_not b _ h e)

pub causes_fail : (step : Step) (sent : SentPair) (run run1 run2 : RunState) (b : Bool) → ComesBoth step sent run run1 → KeepsBothCauses step run1 run2 → (IsTrue b ↔ HaveBothCauses run1 run2) → b ≡ false → StopsAt step sent run
causes_fail step sent run run1 run2 b c k h e = stops_causes step sent run run1 run2 c k (false_not b _ h e)

-- both sides come there
pub comes_both : (step : Step) (sent : SentPair) (run run1 : RunState) → run1.kind ≡ run.kind → ComesSide step Client (marks_at run) sent run.server.facts.packets.now run.client run1.client → ComesSide step Server (marks_at run) sent run1.client.facts.packets.now run.server run1.server → ComesBoth step sent run run1
comes_both step sent run run1 e c s = record {
  kind_is = e;
  client = c;
  server = subst (λ f. ComesSide step Server (marks_at run) sent f.packets.now run.server run1.server) c.facts s;
}

-- a lent pair of lengths
pub lent_is : (o : Option (Bor SentPair)) (b : Bor SentPair) (p : SentPair) → o ≡ Some b → option_copied o ≡ Some p → b.now ≡ p
lent_is o b p e f = same_some (ap option_copied (sym e) ∙ f) where
  same_some : Some b.now ≡ Some p → b.now ≡ p
  same_some e = cc
