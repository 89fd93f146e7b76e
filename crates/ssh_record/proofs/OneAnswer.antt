-- A record has one answer.
use Rattle.std.proofs.Common.{◌≡◌, inl, inr, ℕ, suc, ◌≤◌, List, length, take, slice_get, refl, sym, ◌∙◌, ap, subst, arith, Some, Ok, Result}
use Rattle.std.proofs.lemmas.Bool.{cases_lt}
use Rattle.ssh_wire.specs.declared.error.AlgorithmKind.{AlgorithmKind}
use Rattle.ssh_wire.specs.declared.side.Side.{Side}
use Rattle.ssh_wire.specs.declared.side.Side.TheVariants.{Client, Server}
use Rattle.ssh_negotiate.specs.declared.negotiation.Names.{Names}
use Rattle.ssh_kex.specs.Messages.{is_gex}
use Rattle.ssh_kex.specs.declared.config.Config.{Config}
use Rattle.ssh_kex.specs.declared.exchange.FinishedExchange.{FinishedExchange}
use Rattle.ssh_rules.specs.Run.{IsRun}
use Rattle.ssh_rules.specs.Wire.{carried_payloads}
use Rattle.ssh_rules.specs.declared.link.Mark.{Mark}
use Rattle.ssh_record.specs.Answers.{AreDelivered, HasBadMark, HasBadPacket, HaveNames, HaveSecrets, IsAcceptedRecord, IsAuditFault, LacksSecret, judged_record}
use Rattle.ssh_record.specs.Exchanges.{HasBlocks}
use Rattle.ssh_record.specs.Packets.{IsBadBehind, IsGoodWire}
use Rattle.ssh_record.specs.Laws.{EachHasOneAnswer}
use Rattle.ssh_record.specs.Recordings.{JudgedRecord, Recording, config_in, wire_in}
use Rattle.ssh_record.specs.Runs.{BreaksRunAt, Runs, RunsBy, half_recorded, sent_at}
use Rattle.ssh_record.specs.declared.report.AuditFault.{AuditFault}
use Rattle.ssh_record.specs.declared.report.AuditFault.TheVariants as fault
use Rattle.ssh_record.specs.declared.report.AuditReport.{AuditReport}
use Rattle.ssh_record.proofs.Good.{bad_one, bad_not_good}
use Rattle.ssh_record.proofs.OneList.{exchanges_one}
use Rattle.ssh_record.proofs.OneMarks.{lies_one, runs_one}
use Rattle.ssh_record.proofs.RunFronts.{map_take, run_front, take_less}

-- ---- stage by stage

pub one_ok : (n m : Names) (r : Result Names AlgorithmKind) → r ≡ Ok n → r ≡ Ok m → n ≡ m
one_ok n m r e f = let p : (let q : Result Names AlgorithmKind = Ok n in q) ≡ Ok m = sym e ∙ f in cc

pub names_one : (client server : Config) (n m : Names) → HaveNames client server n → HaveNames client server m → n ≡ m
names_one client server n m h k = one_ok n m _ h.chosen k.chosen

pub secrets_one : (j : JudgedRecord) (xs ys : List FinishedExchange) → HaveSecrets j xs → HaveSecrets j ys → xs ≡ ys
secrets_one j xs ys h k = exchanges_one j xs ys h.exchanges k.exchanges

lacks_one : (j : JudgedRecord) (a b : ℕ) → LacksSecret j a → LacksSecret j b → a ≡ b
lacks_one j a b h k = h.blocks_is ∙ (ap (λ (t : List FinishedExchange). suc (length t)) (exchanges_one j h.exchanges k.exchanges h.are k.are) ∙ sym k.blocks_is)

lacks_not : (j : JudgedRecord) (n : ℕ) (xs : List FinishedExchange) → LacksSecret j n → HaveSecrets j xs → ⊥
lacks_not j n xs h k = k.enough h.exchange h.host (subst (λ t. HasBlocks j t h.exchange h.host) (exchanges_one j h.exchanges xs h.are k.exchanges) h.more)

same_packet : (s t : Side) (p q : ℕ) → s ≡ t → p ≡ q → fault.Packet s p ≡ fault.Packet t q
same_packet s t p q e f = cc

packet_one : (j : JudgedRecord) (s t : Side) (p q : ℕ) → HasBadPacket j s p → HasBadPacket j t q → fault.Packet s p ≡ fault.Packet t q
packet_one j Client Client p q h k = ap (fault.Packet Client) (bad_one Client j h.exchanges p q h.bad (subst (λ x. IsBadBehind Client j x q) (secrets_one j k.exchanges h.exchanges k.secrets h.secrets) k.bad))
packet_one j Server Server p q h k = ap (fault.Packet Server) (bad_one Server j h.exchanges p q h.bad (subst (λ x. IsBadBehind Server j x q) (secrets_one j k.exchanges h.exchanges k.secrets h.secrets) k.bad))
packet_one j Client Server p q h k = absurd (bad_not_good Client j h.exchanges p h.bad (subst (λ x. IsGoodWire Client j x) (secrets_one j k.exchanges h.exchanges k.secrets h.secrets) (k.client_good refl)))
packet_one j Server Client p q h k = absurd (bad_not_good Client j k.exchanges q k.bad (subst (λ x. IsGoodWire Client j x) (secrets_one j h.exchanges k.exchanges h.secrets k.secrets) (h.client_good refl)))

packet_not : (j : JudgedRecord) (s : Side) (p : ℕ) (xs : List FinishedExchange) → HasBadPacket j s p → HaveSecrets j xs → IsGoodWire Client j xs → IsGoodWire Server j xs → ⊥
packet_not j Client p xs h k c s = bad_not_good Client j h.exchanges p h.bad (subst (λ x. IsGoodWire Client j x) (secrets_one j xs h.exchanges k h.secrets) c)
packet_not j Server p xs h k c s = bad_not_good Server j h.exchanges p h.bad (subst (λ x. IsGoodWire Server j x) (secrets_one j xs h.exchanges k h.secrets) s)

breaks_one : (j : JudgedRecord) (xs : List FinishedExchange) (p q : ℕ) → BreaksRunAt j xs p → BreaksRunAt j xs q → p ≡ q
breaks_one j xs p q h k = elim (cases_lt p q) [
  | inl l ↦ absurd (h.broken (k.before p l))
  | inr l ↦ elim (cases_lt q p) [ inl m ↦ absurd (k.broken (h.before q m)) | inr m ↦ (let e : p ≡ q = omega (arith, l, m) in e) ]
]

-- fewer steps run where more do
pub runs_less : (j : JudgedRecord) (xs : List FinishedExchange) (m n : ℕ) → m ≤ n → Runs j xs n → Runs j xs m
runs_less j xs m n l r =
    let marks = r.0 in (
      take (suc m) marks,
      record {
        run = subst (λ s. IsRun (is_gex j.names.kex) (half_recorded Client j xs) (half_recorded Server j xs) s (take (suc m) marks)) (take_less m n j.recording.steps l)
            (run_front m (is_gex j.names.kex) (half_recorded Client j xs) (half_recorded Server j xs) (take n j.recording.steps) marks refl refl r.1.run);
        sent = map_take sent_at (suc m) marks ∙ (ap (take (suc m)) r.1.sent ∙ take_less (suc m) (suc n) j.recording.sent (omega (arith, l)));
      },
    )

mark_one : (j : JudgedRecord) (p q : ℕ) → HasBadMark j p → HasBadMark j q → p ≡ q
mark_one j p q h k = breaks_one j h.exchanges p q h.breaks (subst (λ x. BreaksRunAt j x q) (secrets_one j k.exchanges h.exchanges k.secrets h.secrets) k.breaks)

pub breaks_not : (j : JudgedRecord) (xs : List FinishedExchange) (p n : ℕ) → p ≤ n → BreaksRunAt j xs p → Runs j xs n → ⊥
breaks_not j xs p n l h r = h.broken (runs_less j xs p n l r)

-- ---- between two faults

to_names : (client server : Config) (r : Recording) (n m : Names) (P : JudgedRecord → Type 0) → HaveNames client server n → HaveNames client server m → P (judged_record client server r m) → P (judged_record client server r n)
to_names client server r n m P h k p = subst (λ (x : Names). P (judged_record client server r x)) (sym (names_one client server n m h k)) p

-- two faults are one
pub one_fault : (client server : Config) (r : Recording) (f g : AuditFault) → IsAuditFault client server r f → IsAuditFault client server r g → f ≡ g
one_fault client server r fault.Config fault.Config h k = refl
one_fault client server r fault.Config fault.Sent h k = absurd (h k.0 k.1)
one_fault client server r fault.Config (fault.Secrets b) h k = absurd (h k.0 k.1)
one_fault client server r fault.Config (fault.Packet s p) h k = absurd (h k.0 k.1)
one_fault client server r fault.Config (fault.Mark p) h k = absurd (h k.0 k.1)
one_fault client server r fault.Sent fault.Config h k = absurd (k h.0 h.1)
one_fault client server r fault.Sent fault.Sent h k = refl
one_fault client server r fault.Sent (fault.Secrets b) h k = absurd (h.2 k.2)
one_fault client server r fault.Sent (fault.Packet s p) h k = absurd (h.2 k.2)
one_fault client server r fault.Sent (fault.Mark p) h k = absurd (h.2 k.2)
one_fault client server r (fault.Secrets a) fault.Config h k = absurd (k h.0 h.1)
one_fault client server r (fault.Secrets a) fault.Sent h k = absurd (k.2 h.2)
one_fault client server r (fault.Secrets a) (fault.Secrets b) h k = ap fault.Secrets (lacks_one (judged_record client server r h.0) a b h.3 (to_names client server r h.0 k.0 (λ j. LacksSecret j b) h.1 k.1 k.3))
one_fault client server r (fault.Secrets a) (fault.Packet s p) h k = absurd (lacks_not (judged_record client server r k.0) a k.3.exchanges (to_names client server r k.0 h.0 (λ j. LacksSecret j a) k.1 h.1 h.3) k.3.secrets)
one_fault client server r (fault.Secrets a) (fault.Mark p) h k = absurd (lacks_not (judged_record client server r k.0) a k.3.exchanges (to_names client server r k.0 h.0 (λ j. LacksSecret j a) k.1 h.1 h.3) k.3.secrets)
one_fault client server r (fault.Packet s p) fault.Config h k = absurd (k h.0 h.1)
one_fault client server r (fault.Packet s p) fault.Sent h k = absurd (k.2 h.2)
one_fault client server r (fault.Packet s p) (fault.Secrets a) h k = absurd (lacks_not (judged_record client server r h.0) a h.3.exchanges (to_names client server r h.0 k.0 (λ j. LacksSecret j a) h.1 k.1 k.3) h.3.secrets)
one_fault client server r (fault.Packet s p) (fault.Packet t q) h k = packet_one (judged_record client server r h.0) s t p q h.3 (to_names client server r h.0 k.0 (λ j. HasBadPacket j t q) h.1 k.1 k.3)
one_fault client server r (fault.Packet s p) (fault.Mark q) h k = absurd (packet_not (judged_record client server r k.0) s p k.3.exchanges (to_names client server r k.0 h.0 (λ j. HasBadPacket j s p) k.1 h.1 h.3) k.3.secrets k.3.client_good k.3.server_good)
one_fault client server r (fault.Mark q) fault.Config h k = absurd (k h.0 h.1)
one_fault client server r (fault.Mark q) fault.Sent h k = absurd (k.2 h.2)
one_fault client server r (fault.Mark q) (fault.Secrets a) h k = absurd (lacks_not (judged_record client server r h.0) a h.3.exchanges (to_names client server r h.0 k.0 (λ j. LacksSecret j a) h.1 k.1 k.3) h.3.secrets)
one_fault client server r (fault.Mark q) (fault.Packet s p) h k = absurd (packet_not (judged_record client server r h.0) s p h.3.exchanges (to_names client server r h.0 k.0 (λ j. HasBadPacket j s p) h.1 k.1 k.3) h.3.secrets h.3.client_good h.3.server_good)
one_fault client server r (fault.Mark q) (fault.Mark p) h k = ap fault.Mark (mark_one (judged_record client server r h.0) q p h.3 (to_names client server r h.0 k.0 (λ j. HasBadMark j p) h.1 k.1 k.3))

-- what is accepted has no fault
pub no_fault : (client server : Config) (r : Recording) (f : AuditFault) (report : AuditReport) → IsAuditFault client server r f → IsAcceptedRecord client server r report → ⊥
no_fault client server r fault.Config report h a = h a.names a.have_names
no_fault client server r fault.Sent report h a = h.2 a.fits
no_fault client server r (fault.Secrets b) report h a = lacks_not (judged_record client server r a.names) b report.exchanges (to_names client server r a.names h.0 (λ j. LacksSecret j b) a.have_names h.1 h.3) a.secrets
no_fault client server r (fault.Packet s p) report h a = packet_not (judged_record client server r a.names) s p report.exchanges (to_names client server r a.names h.0 (λ j. HasBadPacket j s p) a.have_names h.1 h.3) a.secrets a.client_good a.server_good
no_fault client server r (fault.Mark p) report h a =
    let j = judged_record client server r a.names in
    let m : HasBadMark j p = to_names client server r a.names h.0 (λ j. HasBadMark j p) a.have_names h.1 h.3 in
    breaks_not j report.exchanges p (length r.steps) m.breaks.within
    (subst (λ x. BreaksRunAt j x p) (secrets_one j m.exchanges report.exchanges m.secrets a.secrets) m.breaks) (report.marks, a.runs)

-- ---- one report

delivered_one : (other : Side) (j : JudgedRecord) (xs : List FinishedExchange) (n m : ℕ) (a b : List (List ℕ)) → n ≡ m → AreDelivered other j xs n a → AreDelivered other j xs m b → a ≡ b
delivered_one other j xs n m a b e h k = h.2 ∙ (ap carried_payloads (lies_one other (config_in other j) xs (wire_in other j) n m h.0 k.0 e h.1 k.1) ∙ sym k.2)

some_one : (m n : Mark) → Some m ≡ Some n → m ≡ n
some_one m n e = cc

report_with : List Mark → List (List ℕ) → List (List ℕ) → List FinishedExchange → AuditReport
report_with m c s x = record { marks = m; client_delivered = c; server_delivered = s; exchanges = x }

same_report : (a b : AuditReport) → a.marks ≡ b.marks → a.client_delivered ≡ b.client_delivered → a.server_delivered ≡ b.server_delivered → a.exchanges ≡ b.exchanges → a ≡ b
unfolding report_with
same_report a b p q r s =
    ap (λ x. report_with x a.client_delivered a.server_delivered a.exchanges) p ∙ (ap (λ x. report_with b.marks x a.server_delivered a.exchanges) q
    ∙ (ap (λ x. report_with b.marks b.client_delivered x a.exchanges) r ∙ ap (report_with b.marks b.client_delivered b.server_delivered) s))

pub one_report : (client server : Config) (r : Recording) (a b : AuditReport) → IsAcceptedRecord client server r a → IsAcceptedRecord client server r b → a ≡ b
one_report client server r a b h k =
    let j = judged_record client server r h.names in
    let n : h.names ≡ k.names = names_one client server h.names k.names h.have_names k.have_names in
    let there : HaveSecrets j b.exchanges = subst (λ (x : Names). HaveSecrets (judged_record client server r x) b.exchanges) (sym n) k.secrets in
    let xs : a.exchanges ≡ b.exchanges = secrets_one j a.exchanges b.exchanges h.secrets there in
    let runs : RunsBy j a.exchanges (length r.steps) b.marks = subst (λ x. RunsBy j x (length r.steps) b.marks) (sym xs) (subst (λ (x : Names). RunsBy (judged_record client server r x) b.exchanges (length r.steps) b.marks) (sym n) k.runs) in
    let marks : a.marks ≡ b.marks = runs_one j a.exchanges (length r.steps) a.marks b.marks h.runs runs in
    let last : h.last ≡ k.last = some_one h.last k.last (sym h.last_is ∙ (ap (λ t. slice_get t (length r.steps)) marks ∙ k.last_is)) in
    let to_client : AreDelivered Server j a.exchanges k.last.client.taken b.client_delivered = subst (λ x. AreDelivered Server j x k.last.client.taken b.client_delivered) (sym xs) k.to_client in
    let to_server : AreDelivered Client j a.exchanges k.last.server.taken b.server_delivered = subst (λ x. AreDelivered Client j x k.last.server.taken b.server_delivered) (sym xs) k.to_server in
    same_report a b marks
    (delivered_one Server j a.exchanges h.last.client.taken k.last.client.taken a.client_delivered b.client_delivered (ap (λ (m : Mark). m.client.taken) last) h.to_client to_client)
    (delivered_one Client j a.exchanges h.last.server.taken k.last.server.taken a.server_delivered b.server_delivered (ap (λ (m : Mark). m.server.taken) last) h.to_server to_server)
    xs

pub one_answer : EachHasOneAnswer
one_answer client server r = record {
  one_fault = one_fault client server r;
  one_report = one_report client server r;
  not_both = λ f a h k. no_fault client server r f a h k;
}
