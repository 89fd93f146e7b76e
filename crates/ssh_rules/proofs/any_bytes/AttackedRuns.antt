-- An attacked run of one side, step by step: how it stands at the end, and why each step was answered so.
use Rattle.std.proofs.Common.{◌≡◌, ℕ, ◌+◌, List, [], ◌∷◌, ◌++◌, length, refl, sym, ◌∙◌, ap, subst, arith, Bool, true, false, not, Option, Some, None, if◌then◌else◌, ◌&&◌, append-nil, append_assoc, length-append}
use Rattle.std.specs.Prelude.{Result, Ok, Err}
use Rattle.ssh_aes.proofs.Lemmas.{AreOctets-append}
use Rattle.ssh_packet.specs.Sealing.{Item}
use Rattle.ssh_packet.specs.Stream.{message_type}
use Rattle.ssh_wire.specs.Forms.{AreBytes}
use Rattle.ssh_wire.specs.Lines.{NotYet, Id, Version, id_text}
use Rattle.ssh_wire.specs.Reading.{IdReading, Waiting, Heard, Failed}
use Rattle.ssh_wire.specs.Sides.{same_side}
use Rattle.ssh_wire.specs.declared.error.Error.{Error}
use Rattle.ssh_wire.specs.declared.error.Error.TheVariants as errors
use Rattle.ssh_wire.specs.declared.side.Side.{Side}
use Rattle.ssh_kex.specs.declared.config.Config.{Config}
use Rattle.ssh_kex.specs.declared.exchange.FinishedExchange.{FinishedExchange}
use Rattle.ssh_rules.specs.Attacked.{AnswersFeed, AreAnswers, FedAnswer, FedSide, IfOwn, Judged, accepted_of, ends_asked, fed_to, feeds, first_refusal, submit_answer}
use Rattle.ssh_rules.specs.Attacking.{AttackedEnd, AttacksSide, FeedsBy, FeedsEnd, OwnStep, RekeysBy, SubmitsBy, Tells}
use Rattle.ssh_rules.specs.Wire.{HasFront}
use Rattle.ssh_rules.specs.Handled.{AllRead, AtPacket, Handled, heard_in, id_text_in, packets_in}
use Rattle.ssh_rules.specs.Asking.{AsksAtMost, PartCalls, kex_count, refused_packet}
use Rattle.ssh_rules.specs.Log.{handled, recorded}
use Rattle.ssh_rules.specs.Machine.{Event, IsQuiet, SideState, Steps, first_state}
use Rattle.ssh_rules.specs.MessageTypes.{is_payload_type}
use Rattle.ssh_rules.specs.Refusing.{AnswersCause, RefusesPacket}
use Rattle.ssh_rules.specs.Standing.{OfFault, OfMemory, OfPacket, OfVersion, RefusalCause, Standing}
use Rattle.ssh_rules.specs.Valid.{is_bad_size, is_good_payload}
use Rattle.ssh_rules.specs.declared.link.AttackStep.{AttackStep}
use Rattle.ssh_rules.specs.declared.link.AttackStep.TheVariants.{Submit, Feed, Rekey}
use Rattle.ssh_rules.proofs.any_bytes.AllOpened.{run_so_far}
use Rattle.ssh_rules.proofs.any_bytes.FedLines.{LineGoes}
use Rattle.ssh_rules.proofs.any_bytes.FedReports.{ending_of, ends_as, handled_by_cause}
use Rattle.ssh_rules.proofs.any_bytes.FedSides.{FailedSide, LiveSide, RefusedNext, failed_more, input_live, refused_fails, rekey_live, submit_live}
use Rattle.ssh_rules.proofs.refusals.RefusedTurns.{at_old}
use Rattle.ssh_rules.proofs.side.FewAsked.{count_join}
use Rattle.ssh_rules.proofs.pair.Whole.{handled_more, recorded_more}

-- what is refused behind the packets of a whole run, by the rules
pub record RefusesBehindLog (t : Tells) (side : Side) (config : Config) (log : List Event) (heard : Option (List ℕ)) (items : List Item) (i : Item) (e : Error) : Type 0 where
  pub items_are : items ≡ handled log
  pub at : SideState
  pub steps : Steps t.says side config (id_text config.id) first_state log at
  pub quiet : IsQuiet config at
  pub heard_is : at.heard ≡ heard
  pub known : (text : List ℕ) × (at.heard ≡ Some text)
  pub memory : e ≡ errors.Memory → ⊥
  pub refuses : RefusesPacket t.says t.denies t.untrusted side config at i e

-- what is handled by then is of what the run handled
abbrev pub judged_behind : Tells → Side → Config → List Event → Option (List ℕ) → Judged
judged_behind t side config log heard = record { takes = HasFront (handled log); refuses = RefusesBehindLog t side config log heard }

-- how a side stands at the end, by what its first refused feed was answered
pub record FailedBy (t : Tells) (side : Side) (config : Config) (log : List Event) (fed : List ℕ) (accepted : List (List ℕ)) (error : Error) (e : AttackedEnd) : Type 0 where
  pub at : SideState
  pub cause : RefusalCause
  pub stands : FailedSide t.says side config log at cause e.transport fed accepted e.delivered
  pub answers : AnswersCause t.says t.denies t.untrusted side config cause at error
  pub memory : error ≡ errors.Memory → ⊥
  pub asks : AsksAtMost (kex_count (handled log ++ refused_packet cause)) t.calls e.calls

-- how many bytes it was fed, and how often its parts were asked
pub record Counts (t : Tells) (log : List Event) (fed : List ℕ) (e : AttackedEnd) : Type 0 where
  pub taken : e.taken ≡ length fed
  pub asks : AsksAtMost (kex_count (handled log)) t.calls e.calls

abbrev pub StandsBy : Tells → Side → Config → List Event → List ℕ → List (List ℕ) → Option Error → Bool → AttackedEnd → Type 0
StandsBy t side config log fed accepted None asked e = LiveSide t.says side config log e.transport fed accepted e.delivered asked
    × AsksAtMost (kex_count (handled log)) t.calls e.calls
StandsBy t side config log fed accepted (Some error) asked e = FailedBy t side config log fed accepted error e

abbrev pub fed_side : Config → List FinishedExchange → List ℕ → Bool → FedSide
fed_side config exchanges fed failed = record { config = config; exchanges = exchanges; fed = fed; failed = failed }

-- a run from a live side to its end
pub record EndsSide (t : Tells) (side : Side) (config : Config) (log : List Event) (fed : List ℕ) (accepted : List (List ℕ)) (asked : Bool) (steps : List AttackStep) (answers : List (Result (Unit {0}) Error)) (new : AttackedEnd) : Type 0 where
  pub more : List Event
  pub stands : StandsBy t side config (log ++ more) (fed ++ fed_to side steps) (accepted ++ accepted_of side steps answers) (first_refusal side steps answers) (ends_asked asked side steps answers) new
  pub taken : new.taken ≡ length (fed ++ fed_to side steps)
  pub answered : AreAnswers (judged_behind t side config (log ++ more) (id_text_in (heard_in side (fed ++ fed_to side steps)))) side (fed_side config (recorded (log ++ more)) fed false) steps answers

-- ---- a side that failed

no_bytes_fed : AreBytes []
no_bytes_fed i = omega arith

ok_err : (u : Unit {0}) (e : Error) → (let r : Result (Unit {0}) Error = Ok u in r) ≡ Err e → ⊥
ok_err u e h = cc

-- what the step of a side that failed does
record StaysFailed (b : Bool) (bytes : List ℕ) (a : Result (Unit {0}) Error) (old mid : AttackedEnd) : Type 0 where
  pub transport : mid.transport ≡ old.transport
  pub delivered : mid.delivered ≡ old.delivered
  pub calls : mid.calls ≡ old.calls
  pub taken : mid.taken ≡ old.taken + length (if b then bytes else [])
  pub are_bytes : AreBytes (if b then bytes else [])
  pub answer : IfOwn b (a ≡ Err errors.Disconnect)

nothing_fed : (b : Bool) → length (if b then (let e : List ℕ = [] in e) else []) ≡ 0
nothing_fed true = refl
nothing_fed false = refl

bytes_none : (b : Bool) → AreBytes (if b then (let e : List ℕ = [] in e) else [])
bytes_none true = no_bytes_fed
bytes_none false = no_bytes_fed

stays_same : (b : Bool) (a : Result (Unit {0}) Error) (old mid : AttackedEnd) → mid ≡ old → IfOwn b (a ≡ Err errors.Disconnect) → StaysFailed b [] a old mid
stays_same b a old mid e i = record {
  transport = ap (λ (x : AttackedEnd). x.transport) e;
  delivered = ap (λ (x : AttackedEnd). x.delivered) e;
  calls = ap (λ (x : AttackedEnd). x.calls) e;
  taken = (let n = ap (λ (x : AttackedEnd). x.taken) e in let z = nothing_fed b in omega (arith, n, z));
  are_bytes = bytes_none b;
  answer = i;
}

failed_submit : (t : Tells) (b : Bool) (p : List ℕ) (a : Result (Unit {0}) Error) (old mid : AttackedEnd) → old.transport.failed ≡ true → OwnStep b (SubmitsBy old.transport.failed t old p a mid) (mid ≡ old) → StaysFailed b [] a old mid
failed_submit t true p a old mid f o = (let h = subst (λ x. SubmitsBy x t old p a mid) f o in stays_same true a old mid h.1 h.0)
failed_submit t false p a old mid f o = stays_same false a old mid o tt

failed_rekey : (t : Tells) (b : Bool) (a : Result (Unit {0}) Error) (old mid : AttackedEnd) → old.transport.failed ≡ true → OwnStep b (RekeysBy old.transport.failed t old a mid) (mid ≡ old) → StaysFailed b [] a old mid
failed_rekey t true a old mid f o = (let h = subst (λ x. RekeysBy x t old a mid) f o in stays_same true a old mid h.1 h.0)
failed_rekey t false a old mid f o = stays_same false a old mid o tt

failed_feed : (t : Tells) (b : Bool) (bytes : List ℕ) (a : Result (Unit {0}) Error) (old mid : AttackedEnd) → old.transport.failed ≡ true → OwnStep b (FeedsEnd t old bytes a mid) (mid ≡ old) → StaysFailed b bytes a old mid
failed_feed t true bytes a old mid f o =
    let h = subst (λ x. FeedsBy x t old bytes a mid) f o.does in
    record { transport = h.1; delivered = h.2; calls = h.3; taken = o.taken; are_bytes = o.bytes_are; answer = h.0 }
failed_feed t false bytes a old mid f o = record {
  transport = ap (λ (x : AttackedEnd). x.transport) o;
  delivered = ap (λ (x : AttackedEnd). x.delivered) o;
  calls = ap (λ (x : AttackedEnd). x.calls) o;
  taken = (let n = ap (λ (x : AttackedEnd). x.taken) o in omega (arith, n));
  are_bytes = no_bytes_fed;
  answer = tt;
}

-- what happens to it from then on
record Frozen (judged : Judged) (side : Side) (config : Config) (exchanges : List FinishedExchange) (fed : List ℕ) (steps : List AttackStep) (answers : List (Result (Unit {0}) Error)) (old new : AttackedEnd) : Type 0 where
  pub transport : new.transport ≡ old.transport
  pub delivered : new.delivered ≡ old.delivered
  pub calls : new.calls ≡ old.calls
  pub taken : new.taken ≡ old.taken + length (fed_to side steps)
  pub bytes : AreBytes (fed_to side steps)
  pub none : accepted_of side steps answers ≡ []
  pub answered : AreAnswers judged side (fed_side config exchanges fed true) steps answers

same_either : {A : Type 0} (b : Bool) (x : A) → (if b then x else x) ≡ x
same_either true x = refl
same_either false x = refl

length_either : (b : Bool) (bytes rest : List ℕ) → length (if b then bytes ++ rest else rest) ≡ length (if b then bytes else []) + length rest
length_either true bytes rest = length-append bytes rest
length_either false bytes rest = omega arith

bytes_either : (b : Bool) (bytes rest : List ℕ) → AreBytes (if b then bytes else []) → AreBytes rest → AreBytes (if b then bytes ++ rest else rest)
bytes_either true bytes rest h k = AreOctets-append bytes rest h k
bytes_either false bytes rest h k = k

none_either : (b : Bool) (p : List ℕ) (rest : List (List ℕ)) (u : Unit {0}) → IfOwn b ((let r : Result (Unit {0}) Error = Ok u in r) ≡ Err errors.Disconnect) → rest ≡ [] → (if b then p ∷ rest else rest) ≡ []
none_either true p rest u h e = absurd (ok_err u errors.Disconnect h)
none_either false p rest u h e = e

frozen_submit_ok : (judged : Judged) (side : Side) (config : Config) (exchanges : List FinishedExchange) (fed : List ℕ) (s : Side) (p : List ℕ) (steps : List AttackStep) (u : Unit {0}) (answers : List (Result (Unit {0}) Error)) (old mid new : AttackedEnd) → StaysFailed (same_side s side) [] (Ok u) old mid → Frozen judged side config exchanges fed steps answers mid new → Frozen judged side config exchanges fed (Submit s p ∷ steps) (Ok u ∷ answers) old new
frozen_submit_ok judged side config exchanges fed s p steps u answers old mid new f g = record {
  transport = g.transport ∙ f.transport;
  delivered = g.delivered ∙ f.delivered;
  calls = g.calls ∙ f.calls;
  taken = (let a = g.taken in let b = f.taken in let z = nothing_fed (same_side s side) in omega (arith, a, b, z));
  bytes = g.bytes;
  none = none_either (same_side s side) p (accepted_of side steps answers) u f.answer g.none;
  answered = (f.answer, g.answered);
}

frozen_submit_err : (judged : Judged) (side : Side) (config : Config) (exchanges : List FinishedExchange) (fed : List ℕ) (s : Side) (p : List ℕ) (steps : List AttackStep) (e : Error) (answers : List (Result (Unit {0}) Error)) (old mid new : AttackedEnd) → StaysFailed (same_side s side) [] (Err e) old mid → Frozen judged side config exchanges fed steps answers mid new → Frozen judged side config exchanges fed (Submit s p ∷ steps) (Err e ∷ answers) old new
frozen_submit_err judged side config exchanges fed s p steps e answers old mid new f g = record {
  transport = g.transport ∙ f.transport;
  delivered = g.delivered ∙ f.delivered;
  calls = g.calls ∙ f.calls;
  taken = (let a = g.taken in let b = f.taken in let z = nothing_fed (same_side s side) in omega (arith, a, b, z));
  bytes = g.bytes;
  none = g.none;
  answered = (f.answer, g.answered);
}

frozen_rekey : (judged : Judged) (side : Side) (config : Config) (exchanges : List FinishedExchange) (fed : List ℕ) (s : Side) (steps : List AttackStep) (a : Result (Unit {0}) Error) (answers : List (Result (Unit {0}) Error)) (old mid new : AttackedEnd) → StaysFailed (same_side s side) [] a old mid → Frozen judged side config exchanges fed steps answers mid new → Frozen judged side config exchanges fed (Rekey s ∷ steps) (a ∷ answers) old new
frozen_rekey judged side config exchanges fed s steps a answers old mid new f g = record {
  transport = g.transport ∙ f.transport;
  delivered = g.delivered ∙ f.delivered;
  calls = g.calls ∙ f.calls;
  taken = (let x = g.taken in let b = f.taken in let z = nothing_fed (same_side s side) in omega (arith, x, b, z));
  bytes = g.bytes;
  none = g.none;
  answered = (f.answer, g.answered);
}

frozen_feed : (judged : Judged) (side : Side) (config : Config) (exchanges : List FinishedExchange) (fed : List ℕ) (s : Side) (bytes : List ℕ) (steps : List AttackStep) (a : Result (Unit {0}) Error) (answers : List (Result (Unit {0}) Error)) (old mid new : AttackedEnd) → StaysFailed (same_side s side) bytes a old mid → Frozen judged side config exchanges fed steps answers mid new → Frozen judged side config exchanges fed (Feed s bytes ∷ steps) (a ∷ answers) old new
frozen_feed judged side config exchanges fed s bytes steps a answers old mid new f g = record {
  transport = g.transport ∙ f.transport;
  delivered = g.delivered ∙ f.delivered;
  calls = g.calls ∙ f.calls;
  taken = (let x = g.taken in let b = f.taken in let z = length_either (same_side s side) bytes (fed_to side steps) in omega (arith, x, b, z));
  bytes = bytes_either (same_side s side) bytes (fed_to side steps) f.are_bytes g.bytes;
  none = g.none;
  answered = (f.answer, subst (λ x. AreAnswers judged side x steps answers) (sym (same_either (same_side s side) (fed_side config exchanges fed true))) g.answered);
}

failed_on : (b : Bool) (bytes : List ℕ) (a : Result (Unit {0}) Error) (old mid : AttackedEnd) → StaysFailed b bytes a old mid → old.transport.failed ≡ true → mid.transport.failed ≡ true
failed_on b bytes a old mid s f = ap (λ (x : Standing). x.failed) s.transport ∙ f

frozen : (judged : Judged) (t : Tells) (side : Side) (config : Config) (exchanges : List FinishedExchange) (fed : List ℕ) (steps : List AttackStep) (answers : List (Result (Unit {0}) Error)) (old new : AttackedEnd) → old.transport.failed ≡ true → AttacksSide t side steps answers old new → Frozen judged side config exchanges fed steps answers old new
frozen judged t side config exchanges fed [] [] old new f h = record {
  transport = ap (λ (x : AttackedEnd). x.transport) h;
  delivered = ap (λ (x : AttackedEnd). x.delivered) h;
  calls = ap (λ (x : AttackedEnd). x.calls) h;
  taken = (let n = ap (λ (x : AttackedEnd). x.taken) h in omega (arith, n));
  bytes = no_bytes_fed;
  none = refl;
  answered = tt;
}
frozen judged t side config exchanges fed [] (a ∷ answers) old new f h = absurd h
frozen judged t side config exchanges fed (step ∷ steps) [] old new f h = absurd h
frozen judged t side config exchanges fed (Submit s p ∷ steps) (Ok u ∷ answers) old new f h =
    let d = failed_submit t (same_side s side) p (Ok u) old h.0 f h.1 in
    frozen_submit_ok judged side config exchanges fed s p steps u answers old h.0 new d (frozen judged t side config exchanges fed steps answers h.0 new (failed_on (same_side s side) [] (Ok u) old h.0 d f) h.2)
frozen judged t side config exchanges fed (Submit s p ∷ steps) (Err e ∷ answers) old new f h =
    let d = failed_submit t (same_side s side) p (Err e) old h.0 f h.1 in
    frozen_submit_err judged side config exchanges fed s p steps e answers old h.0 new d (frozen judged t side config exchanges fed steps answers h.0 new (failed_on (same_side s side) [] (Err e) old h.0 d f) h.2)
frozen judged t side config exchanges fed (Rekey s ∷ steps) (a ∷ answers) old new f h =
    let d = failed_rekey t (same_side s side) a old h.0 f h.1 in
    frozen_rekey judged side config exchanges fed s steps a answers old h.0 new d (frozen judged t side config exchanges fed steps answers h.0 new (failed_on (same_side s side) [] a old h.0 d f) h.2)
frozen judged t side config exchanges fed (Feed s bytes ∷ steps) (a ∷ answers) old new f h =
    let d = failed_feed t (same_side s side) bytes a old h.0 f h.1 in
    frozen_feed judged side config exchanges fed s bytes steps a answers old h.0 new d (frozen judged t side config exchanges fed steps answers h.0 new (failed_on (same_side s side) bytes a old h.0 d f) h.2)

-- ---- how often the parts were asked

asks_on : (t : Tells) (log more : List Event) (last : List Item) (mid new : PartCalls) → AsksAtMost (kex_count (handled log)) t.calls mid → AsksAtMost (kex_count (handled more ++ last)) mid new → AsksAtMost (kex_count (handled (log ++ more) ++ last)) t.calls new
asks_on t log more last mid new a b =
    let n : kex_count (handled (log ++ more) ++ last) ≡ kex_count (handled log) + kex_count (handled more ++ last) = ap kex_count (ap (λ q. q ++ last) (handled_more log more) ∙ append_assoc (handled log) (handled more) last) ∙ count_join (handled log) (handled more ++ last) in
    record {
      agreement = (let x = a.agreement in let y = b.agreement in omega (arith, x, y, n));
      hosts = (let x = a.hosts in let y = b.hosts in omega (arith, x, y, n));
      lookups = (let x = a.lookups in let y = b.lookups in omega (arith, x, y, n));
    }

more_events : (t : Tells) (log more : List Event) (new : PartCalls) → AsksAtMost (kex_count (handled log)) t.calls new → AsksAtMost (kex_count (handled (log ++ more))) t.calls new
more_events t log more new a =
    let n : kex_count (handled (log ++ more)) ≡ kex_count (handled log) + kex_count (handled more) = ap kex_count (handled_more log more) ∙ count_join (handled log) (handled more) in
    record {
      agreement = (let x = a.agreement in omega (arith, x, n));
      hosts = (let x = a.hosts in omega (arith, x, n));
      lookups = (let x = a.lookups in omega (arith, x, n));
    }

-- ---- the step at which a side fails

-- the refused feed, of which nothing changes any more
record FailsHere (t : Tells) (side : Side) (config : Config) (log : List Event) (fed bytes : List ℕ) (accepted : List (List ℕ)) (e : Error) (mid : AttackedEnd) : Type 0 where
  pub more : List Event
  pub failed : FailedBy t side config (log ++ more) (fed ++ bytes) accepted e mid

not_memory : (t : Tells) (side : Side) (config : Config) (cause : RefusalCause) (at : SideState) (e : Error) → AnswersCause t.says t.denies t.untrusted side config cause at e → (e ≡ errors.Memory → ⊥) → cause ≡ OfMemory → ⊥
not_memory t side config cause at e a n c = n (subst (λ q. AnswersCause t.says t.denies t.untrusted side config q at e) c a)

fails_here : (t : Tells) (side : Side) (config : Config) (log : List Event) (fed bytes : List ℕ) (accepted : List (List ℕ)) (asked : Bool) (e : Error) (old mid : AttackedEnd) → LiveSide t.says side config log old.transport fed accepted old.delivered asked → Counts t log fed old → FeedsEnd t old bytes (Err e) mid → FailsHere t side config log fed bytes accepted e mid
fails_here t side config log fed bytes accepted asked e old mid l n f = by (subst (λ x. FeedsBy x t old bytes (Err e) mid) l.live f.does) where
  by : FeedsBy false t old bytes (Err e) mid → FailsHere t side config log fed bytes accepted e mid
  by h =
      let piece = h.1.refused in
      let over = h.2 in
      let answers = at_old (λ x y. AnswersCause t.says t.denies t.untrusted x y piece.cause piece.refuses.at e) old.transport.side side old.transport.config config l.side_is l.config_is piece.answers in
      let stands = refused_fails t.says side config log old.transport fed bytes accepted old.delivered asked piece.cause h.0 (AreOctets-append fed bytes l.bytes f.bytes_are) l piece.refuses (not_memory t side config piece.cause piece.refuses.at e answers h.3) in
      record {
        more = piece.refuses.events;
        failed = record {
          at = piece.refuses.at;
          cause = piece.cause;
          stands = subst (λ d. FailedSide t.says side config (log ++ piece.refuses.events) piece.refuses.at piece.cause mid.transport (fed ++ bytes) accepted d) (sym over.delivered)
              (subst (λ x. FailedSide t.says side config (log ++ piece.refuses.events) piece.refuses.at piece.cause x (fed ++ bytes) accepted (old.delivered ++ (h.0).delivered)) (sym over.transport) stands);
          answers = answers;
          memory = h.3;
          asks = asks_on t log piece.refuses.events (refused_packet piece.cause) old.calls mid.calls n.asks h.1.few;
        };
      }

-- why it was answered so
fails_answer : (t : Tells) (side : Side) (config : Config) (log : List Event) (fed after : List ℕ) (accepted : List (List ℕ)) (e : Error) (mid : AttackedEnd) → FailedBy t side config log fed accepted e mid → AreBytes after
    → FedAnswer (judged_behind t side config log (id_text_in (heard_in side (fed ++ after)))) side config (recorded log) fed (Err e)
fails_answer t side config log fed after accepted e mid f b =
    let s = f.stands in (
      handled log,
      ending_of f.cause,
      handled_by_cause t.says side config log f.at f.cause fed s.left s.steps s.read s.bytes s.next,
      ([], append-nil (handled log)),
      (ends_as t.says t.denies t.untrusted side config fed s.left f.cause f.at e f.answers f.memory s.next, packet f.cause s.idle s.next f.answers),
    )
  where
    on : FailedSide t.says side config log f.at f.cause mid.transport (fed ++ after) accepted mid.delivered
    on = failed_more t.says side config log f.at f.cause mid.transport fed after accepted mid.delivered (AreOctets-append fed after f.stands.bytes b) f.stands

    packet : (cause : RefusalCause) → Rattle.ssh_rules.specs.Standing.IsIdleBefore cause config f.at → RefusedNext cause side fed f.at f.stands.left → AnswersCause t.says t.denies t.untrusted side config cause f.at e → (i : Item) → ending_of cause ≡ AtPacket i → RefusesBehindLog t side config log (id_text_in (heard_in side (fed ++ after))) (handled log) i e
    packet (OfPacket j) idle next answers i same =
        let is : j ≡ i = cc in
        subst (λ x. RefusesBehindLog t side config log (id_text_in (heard_in side (fed ++ after))) (handled log) x e) is (record { items_are = refl; at = f.at; steps = f.stands.steps; quiet = idle; heard_is = on.heard; known = (next.0.0, f.stands.heard ∙ ap id_text_in next.0.2); memory = f.memory; refuses = answers })
    packet (OfFault fault) idle next answers i same = absurd (let z = same in cc)
    packet OfVersion idle next answers i same = absurd (let z = same in cc)
    packet OfMemory idle next answers i same = absurd next

-- ---- a feed that is answered Ok

-- of bytes that are a version line's or what stands behind one
heard_good : (side : Side) (fed done behind : List ℕ) (heard : Option (List ℕ)) (line : IdReading) → LineGoes side fed done heard line behind → heard_in side fed ≡ Version → ⊥
heard_good side fed done behind heard (Waiting bytes others) g e = (let z : NotYet ≡ Version = sym g.line_is.0 ∙ e in cc)
heard_good side fed done behind heard (Heard text) g e = (let z : Id text g.line_is.0 ≡ Version = sym g.line_is.1 ∙ e in cc)
heard_good side fed done behind heard Failed g e = absurd g.line_is

live_answer : (judged : Judged) (t : Tells) (side : Side) (config : Config) (log more : List Event) (fed : List ℕ) (accepted : List (List ℕ)) (asked : Bool) (u : Unit {0}) (e : AttackedEnd) → LiveSide t.says side config log e.transport fed accepted e.delivered asked
    → judged.takes (handled log) → FedAnswer judged side config (recorded (log ++ more)) fed (Ok u)
live_answer judged t side config log more fed accepted asked u e l takes = (
  handled log,
  AllRead,
  subst (λ xs. Handled side config xs (packets_in (heard_in side fed) fed) (handled log) AllRead) (sym (recorded_more log more)) (run_so_far t.says side config (id_text config.id) log e.transport.state (packets_in (heard_in side fed) fed) e.transport.waiting (recorded more) l.steps l.line.read l.part),
  takes,
  (refl, heard_good side fed _ _ _ e.transport.line l.line),
)

-- ---- payloads

submit_good : (payload : List ℕ) → is_good_payload payload ≡ true → (let r : Result (Unit {0}) Error = Ok tt in r) ≡ submit_answer payload
submit_good payload h = by (is_bad_size (length payload)) (is_payload_type (message_type payload)) h where
  by : (b c : Bool) → (not b && c) ≡ true → (let r : Result (Unit {0}) Error = Ok tt in r) ≡ (if b then Err (errors.PacketSize (length payload)) else if c then Ok tt else Err errors.Inconsistent)
  by true c k = absurd (let z : false ≡ true = k in cc)
  by false true k = refl
  by false false k = absurd (let z : false ≡ true = k in cc)

-- ---- whole runs

unasked : (t : Tells) (side : Side) (config : Config) (log : List Event) (fed : List ℕ) (accepted : List (List ℕ)) (asked : Bool) (e : AttackedEnd) → LiveSide t.says side config log e.transport fed accepted e.delivered asked → LiveSide t.says side config log e.transport fed accepted e.delivered false
unasked t side config log fed accepted asked e s = record {
  side_is = s.side_is;
  config_is = s.config_is;
  live = s.live;
  steps = s.steps;
  quiet = s.quiet;
  output = s.output;
  none = s.none;
  delivered_is = s.delivered_is;
  submitted = s.submitted;
  line = s.line;
  part = s.part;
  rekeyed = λ z. absurd (let y : false ≡ true = z in cc);
  bytes = s.bytes;
}

-- a step that hands in no bytes asks no part
quiet_counts : (t : Tells) (log more : List Event) (fed : List ℕ) (old mid : AttackedEnd) → Counts t log fed old → mid.taken ≡ old.taken → mid.calls ≡ old.calls → Counts t (log ++ more) fed mid
quiet_counts t log more fed old mid n k c = record {
  taken = k ∙ n.taken;
  asks = more_events t log more mid.calls (subst (λ q. AsksAtMost (kex_count (handled log)) t.calls q) (sym c) n.asks);
}

-- where a step leads that a live side takes
record StepsLive (t : Tells) (side : Side) (config : Config) (log : List Event) (fed : List ℕ) (accepted : List (List ℕ)) (asked : Bool) (mid : AttackedEnd) : Type 0 where
  pub more : List Event
  pub live : LiveSide t.says side config (log ++ more) mid.transport fed accepted mid.delivered asked
  pub counts : Counts t (log ++ more) fed mid

same_live : (t : Tells) (side : Side) (config : Config) (log : List Event) (fed : List ℕ) (accepted : List (List ℕ)) (asked : Bool) (old mid : AttackedEnd) → LiveSide t.says side config log old.transport fed accepted old.delivered asked → Counts t log fed old → mid ≡ old → StepsLive t side config log fed accepted asked mid
same_live t side config log fed accepted asked old mid l n e = subst (λ m. StepsLive t side config log fed accepted asked m) (sym e) (record { more = []; live = subst (λ q. LiveSide t.says side config q old.transport fed accepted old.delivered asked) (sym (append-nil log)) l; counts = subst (λ q. Counts t q fed old) (sym (append-nil log)) n })

-- the end of the rest of a run, with a step before it that the side took
live_end : (t : Tells) (side : Side) (config : Config) (log : List Event) (fed : List ℕ) (accepted : List (List ℕ)) (asked : Bool) (old : AttackedEnd) → LiveSide t.says side config log old.transport fed accepted old.delivered asked → Counts t log fed old → EndsSide t side config log fed accepted asked [] [] old
live_end t side config log fed accepted asked old l n = record {
  more = [];
  stands = (
    subst (λ q. LiveSide t.says side config (log ++ []) old.transport q (accepted ++ []) old.delivered asked) (sym (append-nil fed))
        (subst (λ q. LiveSide t.says side config (log ++ []) old.transport fed q old.delivered asked) (sym (append-nil accepted)) (subst (λ q. LiveSide t.says side config q old.transport fed accepted old.delivered asked) (sym (append-nil log)) l)),
    subst (λ q. AsksAtMost (kex_count (handled q)) t.calls old.calls) (sym (append-nil log)) n.asks,
  );
  taken = n.taken ∙ ap length (sym (append-nil fed));
  answered = tt;
}

stands_at : (t : Tells) (side : Side) (config : Config) (refusal : Option Error) (asked : Bool) (new : AttackedEnd) (log log' : List Event) (fed fed' : List ℕ) (accepted accepted' : List (List ℕ)) → log ≡ log' → fed ≡ fed' → accepted ≡ accepted' → StandsBy t side config log fed accepted refusal asked new → StandsBy t side config log' fed' accepted' refusal asked new
stands_at t side config refusal asked new log log' fed fed' accepted accepted' e f g h = subst (λ x. StandsBy t side config log' fed' x refusal asked new) g (subst (λ x. StandsBy t side config log' x accepted refusal asked new) f (subst (λ x. StandsBy t side config x fed accepted refusal asked new) e h))

answers_at : (t : Tells) (side : Side) (config : Config) (steps : List AttackStep) (answers : List (Result (Unit {0}) Error)) (log log' : List Event) (all all' fed fed' : List ℕ) → log ≡ log' → all ≡ all' → fed ≡ fed' → AreAnswers (judged_behind t side config log (id_text_in (heard_in side all))) side (fed_side config (recorded log) fed false) steps answers → AreAnswers (judged_behind t side config log' (id_text_in (heard_in side all'))) side (fed_side config (recorded log') fed' false) steps answers
answers_at t side config steps answers log log' all all' fed fed' e f g h =
    subst (λ x. AreAnswers (judged_behind t side config log' (id_text_in (heard_in side all'))) side (fed_side config (recorded log') x false) steps answers) g
    (subst (λ x. AreAnswers (judged_behind t side config log' (id_text_in (heard_in side x))) side (fed_side config (recorded log') fed false) steps answers) f
    (subst (λ x. AreAnswers (judged_behind t side config x (id_text_in (heard_in side all))) side (fed_side config (recorded x) fed false) steps answers) e h))

-- a submit that was accepted
submit_ok : (t : Tells) (side : Side) (config : Config) (log : List Event) (fed p : List ℕ) (accepted : List (List ℕ)) (asked : Bool) (u : Unit {0}) (old mid : AttackedEnd) → LiveSide t.says side config log old.transport fed accepted old.delivered asked → Counts t log fed old → SubmitsBy old.transport.failed t old p (Ok u) mid → (is_good_payload p ≡ true) × StepsLive t side config log fed (accepted ++ p ∷ []) false mid
submit_ok t side config log fed p accepted asked u old mid l n h = by (subst (λ x. SubmitsBy x t old p (Ok u) mid) l.live h) where
  by : SubmitsBy false t old p (Ok u) mid → (is_good_payload p ≡ true) × StepsLive t side config log fed (accepted ++ p ∷ []) false mid
  by a = (
    a.good,
    record {
      more = a.call.events;
      live = subst (λ d. LiveSide t.says side config (log ++ a.call.events) mid.transport fed (accepted ++ p ∷ []) d false) (sym a.delivered) (submit_live t.says side config log old.transport fed p accepted old.delivered asked mid.transport l a.call);
      counts = quiet_counts t log a.call.events fed old mid n a.taken a.calls;
    },
  )

submit_err : (t : Tells) (side : Side) (config : Config) (log : List Event) (fed p : List ℕ) (accepted : List (List ℕ)) (asked : Bool) (e : Error) (old mid : AttackedEnd) → LiveSide t.says side config log old.transport fed accepted old.delivered asked → Counts t log fed old → SubmitsBy old.transport.failed t old p (Err e) mid → ((let r : Result (Unit {0}) Error = Err e in r) ≡ submit_answer p) × StepsLive t side config log fed accepted false mid
submit_err t side config log fed p accepted asked e old mid l n h = by (subst (λ x. SubmitsBy x t old p (Err e) mid) l.live h) where
  by : SubmitsBy false t old p (Err e) mid → ((let r : Result (Unit {0}) Error = Err e in r) ≡ submit_answer p) × StepsLive t side config log fed accepted false mid
  by a = (a.1, same_live t side config log fed accepted false old mid (unasked t side config log fed accepted asked old l) n a.2)

rekey_ok : (t : Tells) (side : Side) (config : Config) (log : List Event) (fed : List ℕ) (accepted : List (List ℕ)) (asked : Bool) (u : Unit {0}) (old mid : AttackedEnd) → LiveSide t.says side config log old.transport fed accepted old.delivered asked → Counts t log fed old → RekeysBy old.transport.failed t old (Ok u) mid → StepsLive t side config log fed accepted true mid
rekey_ok t side config log fed accepted asked u old mid l n h = by (subst (λ x. RekeysBy x t old (Ok u) mid) l.live h) where
  by : RekeysBy false t old (Ok u) mid → StepsLive t side config log fed accepted true mid
  by a = (let r = rekey_live t.says side config log old.transport fed accepted old.delivered asked mid.transport l a.call in record { more = r.0; live = subst (λ d. LiveSide t.says side config (log ++ r.0) mid.transport fed accepted d true) (sym a.delivered) r.1; counts = quiet_counts t log r.0 fed old mid n a.taken a.calls })

rekey_err : (t : Tells) (side : Side) (config : Config) (log : List Event) (fed : List ℕ) (accepted : List (List ℕ)) (asked : Bool) (e : Error) (old mid : AttackedEnd) → LiveSide t.says side config log old.transport fed accepted old.delivered asked → RekeysBy old.transport.failed t old (Err e) mid → ⊥
rekey_err t side config log fed accepted asked e old mid l h = subst (λ x. RekeysBy x t old (Err e) mid) l.live h

feed_ok : (t : Tells) (side : Side) (config : Config) (log : List Event) (fed bytes : List ℕ) (accepted : List (List ℕ)) (asked : Bool) (u : Unit {0}) (old mid : AttackedEnd) → LiveSide t.says side config log old.transport fed accepted old.delivered asked → Counts t log fed old → FeedsEnd t old bytes (Ok u) mid → StepsLive t side config log (fed ++ bytes) accepted false mid
feed_ok t side config log fed bytes accepted asked u old mid l n h = by (subst (λ x. FeedsBy x t old bytes (Ok u) mid) l.live h.does) where
  by : FeedsBy false t old bytes (Ok u) mid → StepsLive t side config log (fed ++ bytes) accepted false mid
  by a =
      let i = a.1 in
      let over = a.2 in
      record {
        more = i.events;
        live = subst (λ d. LiveSide t.says side config (log ++ i.events) mid.transport (fed ++ bytes) accepted d false) (sym over.delivered)
            (subst (λ x. LiveSide t.says side config (log ++ i.events) x (fed ++ bytes) accepted (old.delivered ++ (a.0).delivered) false) (sym over.transport)
            (input_live t.says side config log old.transport fed bytes accepted old.delivered asked a.0 (AreOctets-append fed bytes l.bytes h.bytes_are) l i));
        counts = record { taken = (let x = h.taken in let y = length-append fed bytes in let z = n.taken in omega (arith, x, y, z)); asks = subst (λ q. AsksAtMost (kex_count q) t.calls mid.calls) (append-nil (handled (log ++ i.events))) (asks_on t log i.events [] old.calls mid.calls n.asks (subst (λ q. AsksAtMost (kex_count q) old.calls mid.calls) (sym (append-nil (handled i.events))) a.3)) };
      }

-- the rest of a run behind such a step
abbrev RestEnds : Tells → Side → Config → List AttackStep → List (Result (Unit {0}) Error) → AttackedEnd → AttackedEnd → Type 0
RestEnds t side config steps answers mid new = (log : List Event) (fed : List ℕ) (accepted : List (List ℕ)) (asked : Bool) → LiveSide t.says side config log mid.transport fed accepted mid.delivered asked → Counts t log fed mid → EndsSide t side config log fed accepted asked steps answers new

accepted_on : (b : Bool) (accepted rest : List (List ℕ)) (p : List ℕ) → (if b then accepted ++ p ∷ [] else accepted) ++ rest ≡ accepted ++ (if b then p ∷ rest else rest)
accepted_on true accepted rest p = append_assoc accepted (p ∷ []) rest
accepted_on false accepted rest p = refl

fed_on : (b : Bool) (fed bytes rest : List ℕ) → (if b then fed ++ bytes else fed) ++ rest ≡ fed ++ (if b then bytes ++ rest else rest)
fed_on true fed bytes rest = append_assoc fed bytes rest
fed_on false fed bytes rest = refl

run_submit_ok : (t : Tells) (side : Side) (config : Config) (log : List Event) (fed : List ℕ) (accepted : List (List ℕ)) (asked : Bool) (b : Bool) (s : Side) (p : List ℕ) (steps : List AttackStep) (u : Unit {0}) (answers : List (Result (Unit {0}) Error)) (mid new : AttackedEnd) → same_side s side ≡ b → StepsLive t side config log fed (if b then accepted ++ p ∷ [] else accepted) (if b then false else asked) mid → IfOwn b ((let r : Result (Unit {0}) Error = Ok u in r) ≡ submit_answer p) → RestEnds t side config steps answers mid new → EndsSide t side config log fed accepted asked (Submit s p ∷ steps) (Ok u ∷ answers) new
run_submit_ok t side config log fed accepted asked b s p steps u answers mid new e d a go =
    let r = go (log ++ d.more) fed (if b then accepted ++ p ∷ [] else accepted) (if b then false else asked) d.live d.counts in
    let same = append_assoc log d.more r.more in
    record {
      more = d.more ++ r.more;
      stands = subst (λ c. StandsBy t side config (log ++ (d.more ++ r.more)) (fed ++ fed_to side steps) (accepted ++ (if c then p ∷ accepted_of side steps answers else accepted_of side steps answers)) (first_refusal side steps answers) (ends_asked (if c then false else asked) side steps answers) new) (sym e)
          (stands_at t side config (first_refusal side steps answers) (ends_asked (if b then false else asked) side steps answers) new _ _ (fed ++ fed_to side steps) (fed ++ fed_to side steps) _ _ same refl (accepted_on b accepted (accepted_of side steps answers) p) r.stands);
      taken = r.taken;
      answered = (subst (λ c. IfOwn c ((let r : Result (Unit {0}) Error = Ok u in r) ≡ submit_answer p)) (sym e) a, answers_at t side config steps answers _ _ _ _ fed fed same refl refl r.answered);
    }

run_submit_err : (t : Tells) (side : Side) (config : Config) (log : List Event) (fed : List ℕ) (accepted : List (List ℕ)) (asked : Bool) (b : Bool) (s : Side) (p : List ℕ) (steps : List AttackStep) (f : Error) (answers : List (Result (Unit {0}) Error)) (mid new : AttackedEnd) → same_side s side ≡ b → StepsLive t side config log fed accepted (if b then false else asked) mid → IfOwn b ((let r : Result (Unit {0}) Error = Err f in r) ≡ submit_answer p) → RestEnds t side config steps answers mid new → EndsSide t side config log fed accepted asked (Submit s p ∷ steps) (Err f ∷ answers) new
run_submit_err t side config log fed accepted asked b s p steps f answers mid new e d a go =
    let r = go (log ++ d.more) fed accepted (if b then false else asked) d.live d.counts in
    let same = append_assoc log d.more r.more in
    record {
      more = d.more ++ r.more;
      stands = subst (λ c. StandsBy t side config (log ++ (d.more ++ r.more)) (fed ++ fed_to side steps) (accepted ++ accepted_of side steps answers) (first_refusal side steps answers) (ends_asked (if c then false else asked) side steps answers) new) (sym e)
          (stands_at t side config (first_refusal side steps answers) (ends_asked (if b then false else asked) side steps answers) new _ _ (fed ++ fed_to side steps) (fed ++ fed_to side steps) (accepted ++ accepted_of side steps answers) (accepted ++ accepted_of side steps answers) same refl refl r.stands);
      taken = r.taken;
      answered = (subst (λ c. IfOwn c ((let r : Result (Unit {0}) Error = Err f in r) ≡ submit_answer p)) (sym e) a, answers_at t side config steps answers _ _ _ _ fed fed same refl refl r.answered);
    }

run_rekey_ok : (t : Tells) (side : Side) (config : Config) (log : List Event) (fed : List ℕ) (accepted : List (List ℕ)) (asked : Bool) (b : Bool) (s : Side) (steps : List AttackStep) (u : Unit {0}) (answers : List (Result (Unit {0}) Error)) (mid new : AttackedEnd) → same_side s side ≡ b → StepsLive t side config log fed accepted (if b then true else asked) mid → RestEnds t side config steps answers mid new → EndsSide t side config log fed accepted asked (Rekey s ∷ steps) (Ok u ∷ answers) new
run_rekey_ok t side config log fed accepted asked b s steps u answers mid new e d go =
    let r = go (log ++ d.more) fed accepted (if b then true else asked) d.live d.counts in
    let same = append_assoc log d.more r.more in
    record {
      more = d.more ++ r.more;
      stands = subst (λ c. StandsBy t side config (log ++ (d.more ++ r.more)) (fed ++ fed_to side steps) (accepted ++ accepted_of side steps answers) (first_refusal side steps answers) (ends_asked (if c then true else asked) side steps answers) new) (sym e)
          (stands_at t side config (first_refusal side steps answers) (ends_asked (if b then true else asked) side steps answers) new _ _ (fed ++ fed_to side steps) (fed ++ fed_to side steps) (accepted ++ accepted_of side steps answers) (accepted ++ accepted_of side steps answers) same refl refl r.stands);
      taken = r.taken;
      answered = (own (same_side s side), answers_at t side config steps answers _ _ _ _ fed fed same refl refl r.answered);
    }
  where
    own : (c : Bool) → IfOwn c ((let r : Result (Unit {0}) Error = Ok u in r) ≡ Ok tt)
    own true = refl
    own false = tt

run_rekey_err : (t : Tells) (side : Side) (config : Config) (log : List Event) (fed : List ℕ) (accepted : List (List ℕ)) (asked : Bool) (s : Side) (steps : List AttackStep) (f : Error) (answers : List (Result (Unit {0}) Error)) (mid new : AttackedEnd) → same_side s side ≡ false → StepsLive t side config log fed accepted asked mid → RestEnds t side config steps answers mid new → EndsSide t side config log fed accepted asked (Rekey s ∷ steps) (Err f ∷ answers) new
run_rekey_err t side config log fed accepted asked s steps f answers mid new e d go =
    let r = go (log ++ d.more) fed accepted asked d.live d.counts in
    let same = append_assoc log d.more r.more in
    record {
      more = d.more ++ r.more;
      stands = subst (λ c. StandsBy t side config (log ++ (d.more ++ r.more)) (fed ++ fed_to side steps) (accepted ++ accepted_of side steps answers) (first_refusal side steps answers) (ends_asked (if c then false else asked) side steps answers) new) (sym e)
          (stands_at t side config (first_refusal side steps answers) (ends_asked asked side steps answers) new _ _ (fed ++ fed_to side steps) (fed ++ fed_to side steps) (accepted ++ accepted_of side steps answers) (accepted ++ accepted_of side steps answers) same refl refl r.stands);
      taken = r.taken;
      answered = (subst (λ c. IfOwn c ((let r : Result (Unit {0}) Error = Err f in r) ≡ Ok tt)) (sym e) tt, answers_at t side config steps answers _ _ _ _ fed fed same refl refl r.answered);
    }

-- a feed that was answered Ok, or one of the other side
abbrev FedAll : Bool → (fed bytes rest : List ℕ) → List ℕ
FedAll b fed bytes rest = fed ++ (if b then bytes ++ rest else rest)

abbrev FeedAnswered : Bool → Tells → Side → Config → List Event → (fed bytes rest : List ℕ) → Result (Unit {0}) Error → List AttackStep → List (Result (Unit {0}) Error) → Type 0
FeedAnswered c t side config log fed bytes rest a steps answers =
    IfOwn c (AnswersFeed (judged_behind t side config log (id_text_in (heard_in side (FedAll c fed bytes rest)))) side (fed_side config (recorded log) fed false) bytes a)
    × AreAnswers (judged_behind t side config log (id_text_in (heard_in side (FedAll c fed bytes rest)))) side (if c then feeds (fed_side config (recorded log) fed false) bytes a else fed_side config (recorded log) fed false) steps answers

feed_answered : (b : Bool) (t : Tells) (side : Side) (config : Config) (log : List Event) (fed bytes : List ℕ) (accepted : List (List ℕ)) (asked : Bool) (u : Unit {0}) (steps : List AttackStep) (answers : List (Result (Unit {0}) Error)) (mid : AttackedEnd) (d : StepsLive t side config log (if b then fed ++ bytes else fed) accepted asked mid) (more : List Event)
    → AreAnswers (judged_behind t side config ((log ++ d.more) ++ more) (id_text_in (heard_in side ((if b then fed ++ bytes else fed) ++ fed_to side steps)))) side (fed_side config (recorded ((log ++ d.more) ++ more)) (if b then fed ++ bytes else fed) false) steps answers
    → FeedAnswered b t side config (log ++ (d.more ++ more)) fed bytes (fed_to side steps) (Ok u) steps answers
feed_answered true t side config log fed bytes accepted asked u steps answers mid d more h = (
  subst (λ l. FedAnswer (judged_behind t side config l (id_text_in (heard_in side (fed ++ (bytes ++ fed_to side steps))))) side config (recorded l) (fed ++ bytes) (Ok u)) (append_assoc log d.more more)
      (live_answer (judged_behind t side config ((log ++ d.more) ++ more) (id_text_in (heard_in side (fed ++ (bytes ++ fed_to side steps))))) t side config (log ++ d.more) more (fed ++ bytes) accepted asked u mid d.live (handled more, sym (handled_more (log ++ d.more) more))),
  answers_at t side config steps answers _ _ _ _ (fed ++ bytes) (fed ++ bytes) (append_assoc log d.more more) (append_assoc fed bytes (fed_to side steps)) refl h,
)
feed_answered false t side config log fed bytes accepted asked u steps answers mid d more h = (tt, answers_at t side config steps answers _ _ _ _ fed fed (append_assoc log d.more more) refl refl h)

run_feed_ok : (t : Tells) (side : Side) (config : Config) (log : List Event) (fed : List ℕ) (accepted : List (List ℕ)) (asked : Bool) (b : Bool) (s : Side) (bytes : List ℕ) (steps : List AttackStep) (u : Unit {0}) (answers : List (Result (Unit {0}) Error)) (mid new : AttackedEnd) → same_side s side ≡ b → StepsLive t side config log (if b then fed ++ bytes else fed) accepted (if b then false else asked) mid → RestEnds t side config steps answers mid new → EndsSide t side config log fed accepted asked (Feed s bytes ∷ steps) (Ok u ∷ answers) new
run_feed_ok t side config log fed accepted asked b s bytes steps u answers mid new e d go =
    let r = go (log ++ d.more) (if b then fed ++ bytes else fed) accepted (if b then false else asked) d.live d.counts in
    let same = append_assoc log d.more r.more in
    record {
      more = d.more ++ r.more;
      stands = subst (λ c. StandsBy t side config (log ++ (d.more ++ r.more)) (FedAll c fed bytes (fed_to side steps)) (accepted ++ accepted_of side steps answers) (first_refusal side steps answers) (ends_asked (if c then false else asked) side steps answers) new) (sym e)
          (stands_at t side config (first_refusal side steps answers) (ends_asked (if b then false else asked) side steps answers) new _ _ _ _ (accepted ++ accepted_of side steps answers) (accepted ++ accepted_of side steps answers) same (fed_on b fed bytes (fed_to side steps)) refl r.stands);
      taken = r.taken ∙ ap length (fed_on b fed bytes (fed_to side steps) ∙ ap (λ c. FedAll c fed bytes (fed_to side steps)) (sym e));
      answered = subst (λ c. FeedAnswered c t side config (log ++ (d.more ++ r.more)) fed bytes (fed_to side steps) (Ok u) steps answers) (sym e) (feed_answered b t side config log fed bytes accepted (if b then false else asked) u steps answers mid d r.more r.answered);
    }

-- a refused feed of the other side
run_feed_other : (t : Tells) (side : Side) (config : Config) (log : List Event) (fed : List ℕ) (accepted : List (List ℕ)) (asked : Bool) (s : Side) (bytes : List ℕ) (steps : List AttackStep) (f : Error) (answers : List (Result (Unit {0}) Error)) (mid new : AttackedEnd) → same_side s side ≡ false → StepsLive t side config log fed accepted asked mid → RestEnds t side config steps answers mid new → EndsSide t side config log fed accepted asked (Feed s bytes ∷ steps) (Err f ∷ answers) new
run_feed_other t side config log fed accepted asked s bytes steps f answers mid new e d go =
    let r = go (log ++ d.more) fed accepted asked d.live d.counts in
    let same = append_assoc log d.more r.more in
    record {
      more = d.more ++ r.more;
      stands = subst (λ c. StandsBy t side config (log ++ (d.more ++ r.more)) (FedAll c fed bytes (fed_to side steps)) (accepted ++ accepted_of side steps answers) (if c then Some f else first_refusal side steps answers) (ends_asked (if c then false else asked) side steps answers) new) (sym e)
          (stands_at t side config (first_refusal side steps answers) (ends_asked asked side steps answers) new _ _ (fed ++ fed_to side steps) (fed ++ fed_to side steps) (accepted ++ accepted_of side steps answers) (accepted ++ accepted_of side steps answers) same refl refl r.stands);
      taken = r.taken ∙ ap (λ c. length (FedAll c fed bytes (fed_to side steps))) (sym e);
      answered = subst (λ c. FeedAnswered c t side config (log ++ (d.more ++ r.more)) fed bytes (fed_to side steps) (Err f) steps answers) (sym e) (tt, answers_at t side config steps answers _ _ _ _ fed fed same refl refl r.answered);
    }

-- a refused feed of the side
run_feed_refused : (t : Tells) (side : Side) (config : Config) (log : List Event) (fed : List ℕ) (accepted : List (List ℕ)) (asked : Bool) (s : Side) (bytes : List ℕ) (steps : List AttackStep) (f : Error) (answers : List (Result (Unit {0}) Error)) (old mid new : AttackedEnd) → same_side s side ≡ true → LiveSide t.says side config log old.transport fed accepted old.delivered asked → Counts t log fed old → FeedsEnd t old bytes (Err f) mid → AttacksSide t side steps answers mid new → EndsSide t side config log fed accepted asked (Feed s bytes ∷ steps) (Err f ∷ answers) new
run_feed_refused t side config log fed accepted asked s bytes steps f answers old mid new e l n h rest =
    let d = fails_here t side config log fed bytes accepted asked f old mid l n h in
    let all = fed ++ (bytes ++ fed_to side steps) in
    let z = frozen (judged_behind t side config (log ++ d.more) (id_text_in (heard_in side (fed ++ (bytes ++ fed_to side steps))))) t side config (recorded (log ++ d.more)) (fed ++ bytes) steps answers mid new d.failed.stands.failed rest in
    let on = failed_more t.says side config (log ++ d.more) d.failed.at d.failed.cause mid.transport (fed ++ bytes) (fed_to side steps) accepted mid.delivered (AreOctets-append (fed ++ bytes) (fed_to side steps) d.failed.stands.bytes z.bytes) d.failed.stands in
    let there : FailedSide t.says side config (log ++ d.more) d.failed.at d.failed.cause new.transport ((fed ++ bytes) ++ fed_to side steps) accepted new.delivered = subst (λ x. FailedSide t.says side config (log ++ d.more) d.failed.at d.failed.cause new.transport ((fed ++ bytes) ++ fed_to side steps) accepted x) (sym z.delivered) (subst (λ x. FailedSide t.says side config (log ++ d.more) d.failed.at d.failed.cause x ((fed ++ bytes) ++ fed_to side steps) accepted mid.delivered) (sym z.transport) on) in
    let by_end : FailedBy t side config (log ++ d.more) (fed ++ (bytes ++ fed_to side steps)) (accepted ++ accepted_of side steps answers) f new = subst (λ x. FailedBy t side config (log ++ d.more) (fed ++ (bytes ++ fed_to side steps)) x f new) (sym (ap (λ q. accepted ++ q) z.none ∙ append-nil accepted)) (subst (λ x. FailedBy t side config (log ++ d.more) x accepted f new) (append_assoc fed bytes (fed_to side steps)) (record { at = d.failed.at; cause = d.failed.cause; stands = there; answers = d.failed.answers; memory = d.failed.memory; asks = subst (λ q. AsksAtMost (kex_count (handled (log ++ d.more) ++ refused_packet d.failed.cause)) t.calls q) (sym z.calls) d.failed.asks })) in
    let here : FedAnswer (judged_behind t side config (log ++ d.more) (id_text_in (heard_in side (fed ++ (bytes ++ fed_to side steps))))) side config (recorded (log ++ d.more)) (fed ++ bytes) (Err f) = subst (λ x. FedAnswer (judged_behind t side config (log ++ d.more) (id_text_in (heard_in side x))) side config (recorded (log ++ d.more)) (fed ++ bytes) (Err f)) (append_assoc fed bytes (fed_to side steps)) (fails_answer t side config (log ++ d.more) (fed ++ bytes) (fed_to side steps) accepted f mid d.failed z.bytes) in
    record {
      more = d.more;
      stands = subst (λ c. StandsBy t side config (log ++ d.more) (FedAll c fed bytes (fed_to side steps)) (accepted ++ accepted_of side steps answers) (if c then Some f else first_refusal side steps answers) (ends_asked (if c then false else asked) side steps answers) new) (sym e) by_end;
      taken = (let a = z.taken in let b = h.taken in let n = n.taken in let x = length-append fed bytes in let y = length-append (fed ++ bytes) (fed_to side steps) in let w = ap length (append_assoc fed bytes (fed_to side steps)) in let v : length (FedAll (same_side s side) fed bytes (fed_to side steps)) ≡ length (fed ++ (bytes ++ fed_to side steps)) = ap (λ c. length (FedAll c fed bytes (fed_to side steps))) e in omega (arith, a, b, n, x, y, w, v));
      answered = subst (λ c. FeedAnswered c t side config (log ++ d.more) fed bytes (fed_to side steps) (Err f) steps answers) (sym e) (here, z.answered);
    }

-- by whether the step is the side's
submit_ok_on : (t : Tells) (side : Side) (config : Config) (log : List Event) (fed : List ℕ) (accepted : List (List ℕ)) (asked b : Bool) (s : Side) (p : List ℕ) (steps : List AttackStep) (u : Unit {0}) (answers : List (Result (Unit {0}) Error)) (old mid new : AttackedEnd) → same_side s side ≡ b → LiveSide t.says side config log old.transport fed accepted old.delivered asked → Counts t log fed old → OwnStep b (SubmitsBy old.transport.failed t old p (Ok u) mid) (mid ≡ old) → RestEnds t side config steps answers mid new → EndsSide t side config log fed accepted asked (Submit s p ∷ steps) (Ok u ∷ answers) new
submit_ok_on t side config log fed accepted asked true s p steps u answers old mid new e l n o go = (let d = submit_ok t side config log fed p accepted asked u old mid l n o in run_submit_ok t side config log fed accepted asked true s p steps u answers mid new e d.1 (submit_good p d.0) go)
submit_ok_on t side config log fed accepted asked false s p steps u answers old mid new e l n o go = run_submit_ok t side config log fed accepted asked false s p steps u answers mid new e (same_live t side config log fed accepted asked old mid l n o) tt go

submit_err_on : (t : Tells) (side : Side) (config : Config) (log : List Event) (fed : List ℕ) (accepted : List (List ℕ)) (asked b : Bool) (s : Side) (p : List ℕ) (steps : List AttackStep) (f : Error) (answers : List (Result (Unit {0}) Error)) (old mid new : AttackedEnd) → same_side s side ≡ b → LiveSide t.says side config log old.transport fed accepted old.delivered asked → Counts t log fed old → OwnStep b (SubmitsBy old.transport.failed t old p (Err f) mid) (mid ≡ old) → RestEnds t side config steps answers mid new → EndsSide t side config log fed accepted asked (Submit s p ∷ steps) (Err f ∷ answers) new
submit_err_on t side config log fed accepted asked true s p steps f answers old mid new e l n o go = (let d = submit_err t side config log fed p accepted asked f old mid l n o in run_submit_err t side config log fed accepted asked true s p steps f answers mid new e d.1 d.0 go)
submit_err_on t side config log fed accepted asked false s p steps f answers old mid new e l n o go = run_submit_err t side config log fed accepted asked false s p steps f answers mid new e (same_live t side config log fed accepted asked old mid l n o) tt go

rekey_ok_on : (t : Tells) (side : Side) (config : Config) (log : List Event) (fed : List ℕ) (accepted : List (List ℕ)) (asked b : Bool) (s : Side) (steps : List AttackStep) (u : Unit {0}) (answers : List (Result (Unit {0}) Error)) (old mid new : AttackedEnd) → same_side s side ≡ b → LiveSide t.says side config log old.transport fed accepted old.delivered asked → Counts t log fed old → OwnStep b (RekeysBy old.transport.failed t old (Ok u) mid) (mid ≡ old) → RestEnds t side config steps answers mid new → EndsSide t side config log fed accepted asked (Rekey s ∷ steps) (Ok u ∷ answers) new
rekey_ok_on t side config log fed accepted asked true s steps u answers old mid new e l n o go = run_rekey_ok t side config log fed accepted asked true s steps u answers mid new e (rekey_ok t side config log fed accepted asked u old mid l n o) go
rekey_ok_on t side config log fed accepted asked false s steps u answers old mid new e l n o go = run_rekey_ok t side config log fed accepted asked false s steps u answers mid new e (same_live t side config log fed accepted asked old mid l n o) go

rekey_err_on : (t : Tells) (side : Side) (config : Config) (log : List Event) (fed : List ℕ) (accepted : List (List ℕ)) (asked b : Bool) (s : Side) (steps : List AttackStep) (f : Error) (answers : List (Result (Unit {0}) Error)) (old mid new : AttackedEnd) → same_side s side ≡ b → LiveSide t.says side config log old.transport fed accepted old.delivered asked → Counts t log fed old → OwnStep b (RekeysBy old.transport.failed t old (Err f) mid) (mid ≡ old) → RestEnds t side config steps answers mid new → EndsSide t side config log fed accepted asked (Rekey s ∷ steps) (Err f ∷ answers) new
rekey_err_on t side config log fed accepted asked true s steps f answers old mid new e l n o go = absurd (rekey_err t side config log fed accepted asked f old mid l o)
rekey_err_on t side config log fed accepted asked false s steps f answers old mid new e l n o go = run_rekey_err t side config log fed accepted asked s steps f answers mid new e (same_live t side config log fed accepted asked old mid l n o) go

feed_ok_on : (t : Tells) (side : Side) (config : Config) (log : List Event) (fed : List ℕ) (accepted : List (List ℕ)) (asked b : Bool) (s : Side) (bytes : List ℕ) (steps : List AttackStep) (u : Unit {0}) (answers : List (Result (Unit {0}) Error)) (old mid new : AttackedEnd) → same_side s side ≡ b → LiveSide t.says side config log old.transport fed accepted old.delivered asked → Counts t log fed old → OwnStep b (FeedsEnd t old bytes (Ok u) mid) (mid ≡ old) → RestEnds t side config steps answers mid new → EndsSide t side config log fed accepted asked (Feed s bytes ∷ steps) (Ok u ∷ answers) new
feed_ok_on t side config log fed accepted asked true s bytes steps u answers old mid new e l n o go = run_feed_ok t side config log fed accepted asked true s bytes steps u answers mid new e (feed_ok t side config log fed bytes accepted asked u old mid l n o) go
feed_ok_on t side config log fed accepted asked false s bytes steps u answers old mid new e l n o go = run_feed_ok t side config log fed accepted asked false s bytes steps u answers mid new e (same_live t side config log fed accepted asked old mid l n o) go

feed_err_on : (t : Tells) (side : Side) (config : Config) (log : List Event) (fed : List ℕ) (accepted : List (List ℕ)) (asked b : Bool) (s : Side) (bytes : List ℕ) (steps : List AttackStep) (f : Error) (answers : List (Result (Unit {0}) Error)) (old mid new : AttackedEnd) → same_side s side ≡ b → LiveSide t.says side config log old.transport fed accepted old.delivered asked → Counts t log fed old → OwnStep b (FeedsEnd t old bytes (Err f) mid) (mid ≡ old) → AttacksSide t side steps answers mid new → RestEnds t side config steps answers mid new → EndsSide t side config log fed accepted asked (Feed s bytes ∷ steps) (Err f ∷ answers) new
feed_err_on t side config log fed accepted asked true s bytes steps f answers old mid new e l n o rest go = run_feed_refused t side config log fed accepted asked s bytes steps f answers old mid new e l n o rest
feed_err_on t side config log fed accepted asked false s bytes steps f answers old mid new e l n o rest go = run_feed_other t side config log fed accepted asked s bytes steps f answers mid new e (same_live t side config log fed accepted asked old mid l n o) go

-- ---- all steps

pub ends_side : (t : Tells) (side : Side) (config : Config) (log : List Event) (fed : List ℕ) (accepted : List (List ℕ)) (asked : Bool) (steps : List AttackStep) (answers : List (Result (Unit {0}) Error)) (old new : AttackedEnd) → LiveSide t.says side config log old.transport fed accepted old.delivered asked → Counts t log fed old → AttacksSide t side steps answers old new → EndsSide t side config log fed accepted asked steps answers new
ends_side t side config log fed accepted asked [] [] old new l n h = subst (λ x. EndsSide t side config log fed accepted asked [] [] x) (sym h) (live_end t side config log fed accepted asked old l n)
ends_side t side config log fed accepted asked [] (a ∷ answers) old new l n h = absurd h
ends_side t side config log fed accepted asked (step ∷ steps) [] old new l n h = absurd h
ends_side t side config log fed accepted asked (Submit s p ∷ steps) (Ok u ∷ answers) old new l n h = submit_ok_on t side config log fed accepted asked (same_side s side) s p steps u answers old h.0 new refl l n h.1 (λ lg fd ac ask lv tk. ends_side t side config lg fd ac ask steps answers h.0 new lv tk h.2)
ends_side t side config log fed accepted asked (Submit s p ∷ steps) (Err f ∷ answers) old new l n h = submit_err_on t side config log fed accepted asked (same_side s side) s p steps f answers old h.0 new refl l n h.1 (λ lg fd ac ask lv tk. ends_side t side config lg fd ac ask steps answers h.0 new lv tk h.2)
ends_side t side config log fed accepted asked (Rekey s ∷ steps) (Ok u ∷ answers) old new l n h = rekey_ok_on t side config log fed accepted asked (same_side s side) s steps u answers old h.0 new refl l n h.1 (λ lg fd ac ask lv tk. ends_side t side config lg fd ac ask steps answers h.0 new lv tk h.2)
ends_side t side config log fed accepted asked (Rekey s ∷ steps) (Err f ∷ answers) old new l n h = rekey_err_on t side config log fed accepted asked (same_side s side) s steps f answers old h.0 new refl l n h.1 (λ lg fd ac ask lv tk. ends_side t side config lg fd ac ask steps answers h.0 new lv tk h.2)
ends_side t side config log fed accepted asked (Feed s bytes ∷ steps) (Ok u ∷ answers) old new l n h = feed_ok_on t side config log fed accepted asked (same_side s side) s bytes steps u answers old h.0 new refl l n h.1 (λ lg fd ac ask lv tk. ends_side t side config lg fd ac ask steps answers h.0 new lv tk h.2)
ends_side t side config log fed accepted asked (Feed s bytes ∷ steps) (Err f ∷ answers) old new l n h = feed_err_on t side config log fed accepted asked (same_side s side) s bytes steps f answers old h.0 new refl l n h.1 h.2 (λ lg fd ac ask lv tk. ends_side t side config lg fd ac ask steps answers h.0 new lv tk h.2)
