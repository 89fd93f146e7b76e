-- Each packet that a side handled is one that its rules take there.
use Rattle.std.proofs.Common.{◌≡◌, ℕ, List, [], ◌∷◌, ◌++◌, length, map, take, refl, sym, ◌∙◌, ap, subst, arith, Bool, true, false, Option, Some, None, Ok, inl, inr, append_assoc, append-nil}
use Rattle.ssh_packet.specs.Sealing.{Item, next_number}
use Rattle.ssh_packet.specs.Stream.{Place, first_place, place_behind_by}
use Rattle.ssh_wire.specs.Lines.{id_text}
use Rattle.ssh_wire.specs.Sides.{other_side}
use Rattle.ssh_wire.specs.declared.side.Side.{Side}
use Rattle.ssh_negotiate.specs.declared.kex.Name.{Name as KexName}
use Rattle.ssh_kex.specs.Exchange.{outgoing}
use Rattle.ssh_kex.specs.Messages.{newkeys}
use Rattle.ssh_kex.specs.Setting.{Says}
use Rattle.ssh_kex.specs.Stages as stages
use Rattle.ssh_kex.specs.Stages.{Stage, Created, AwaitsGroup, AwaitsReply, AwaitsRequest, AwaitsValue, AwaitsNewkeys}
use Rattle.ssh_kex.specs.Refusals.{awaited}
use Rattle.ssh_kex.specs.declared.config.Config.{Config}
use Rattle.ssh_kex.specs.declared.exchange.FinishedExchange.{FinishedExchange}
use Rattle.ssh_rules.specs.AttackCauses.{AllAccepted, ContentTaken, DroppedGuess, DueMessage, HandedUp, Ignored, IsAccepted, IsOutOfOrder, MayDeliverNow, NumberIs, Seen, done_by, due_in, names_by, open_block, type_due}
use Rattle.ssh_rules.specs.Attacked.{kind_in, still_strict}
use Rattle.ssh_rules.specs.Guess.{BeforeKexinit, ends_epoch, guess_behind}
use Rattle.ssh_rules.specs.Log.{handled, recorded}
use Rattle.ssh_rules.specs.Machine.{Event, InOrder, Inside, MayDeliver, Outside, SideState, Silent, Steps, Where, first_state, setting, IdHeard, PayloadSubmitted, ExchangeBegun, AnswerSent, PayloadSent, MessageTaken, GuessDropped, PayloadDelivered, PacketDropped, ExchangeFinished}
use Rattle.ssh_rules.specs.MessageTypes.{type_of}
use Rattle.ssh_rules.proofs.any_bytes.AllOpened.{behind_wider, wider}
use Rattle.ssh_rules.proofs.side.Discharged.{reads_alike}
use Rattle.ssh_rules.proofs.any_bytes.Guessing.{guess_step}
use Rattle.ssh_rules.proofs.side.Places.{place_of}
use Rattle.ssh_rules.proofs.side.Ran.{steps_join}
use Rattle.ssh_rules.proofs.any_bytes.RefusedNow.{kexinit_as, looks_here, not_out, setting_config}
use Rattle.ssh_rules.proofs.any_bytes.RunHandled.{handled_place}
use Rattle.ssh_rules.proofs.any_bytes.SeenSides.{Shows, due_of, seen_of, shows}
use Rattle.ssh_rules.proofs.pair.Whole.{handled_more, recorded_more}

-- ---- by what was recorded so far, and by all

take_of : (a : List FinishedExchange) → take (length a) a ≡ a
take_of [] = refl
take_of (x ∷ a) = ap (λ q. x ∷ q) (take_of a)

take_front : (a b : List FinishedExchange) → take (length a) (a ++ b) ≡ a
take_front [] b = refl
take_front (x ∷ a) b = ap (λ q. x ∷ q) (take_front a b)

-- a report with more exchanges than those that were recorded so far
abbrev AllSeen : Side → Config → List ℕ → List Event → List FinishedExchange → List Item → Seen
AllSeen side config heard log more own = record { side = side; config = config; heard = heard; exchanges = recorded log ++ more; own = own }

same_take : (log : List Event) (more : List FinishedExchange) (n : ℕ) → n ≡ length (recorded log) → take n (recorded log ++ more) ≡ take n (recorded log)
same_take log more n e = ap (λ k. take k (recorded log ++ more)) e ∙ (take_front (recorded log) more ∙ (sym (take_of (recorded log)) ∙ ap (λ k. take k (recorded log)) (sym e)))

names_alike : (says : Says) (side : Side) (config : Config) (heard : List ℕ) (log : List Event) (at : SideState) (more : List FinishedExchange) (own : List Item) → Shows says side config heard log at → names_by (AllSeen side config heard log more own) (handled log) ≡ names_by (seen_of side config heard log) (handled log)
names_alike says side config heard log at more own s = ap (λ q. Rattle.ssh_rules.specs.Attacked.block_names side config (still_strict q) (open_block (seen_of side config heard log) (handled log))) (same_take log more (done_by (seen_of side config heard log) (handled log)) (s.done ∙ ap length s.records))

map_more : (f : FinishedExchange → Rattle.ssh_packet.specs.Stream.Opening) (a b : List FinishedExchange) → map f (a ++ b) ≡ map f a ++ map f b
map_more f [] b = refl
map_more f (x ∷ a) b = ap (λ q. f x ∷ q) (map_more f a b)

same_place : (p q : Place) → Some p ≡ Some q → p ≡ q
same_place p q e = cc

-- the number of what comes next
number_alike : (says : Says) (side : Side) (config : Config) (heard : List ℕ) (log : List Event) (at : SideState) (more : List FinishedExchange) (own : List Item) (n : ℕ) → Steps says side config (id_text config.id) first_state log at → Shows says side config heard log at → NumberIs (AllSeen side config heard log more own) (handled log) n → NumberIs (seen_of side config heard log) (handled log) n
number_alike says side config heard log at more own n h s w =
    let o = outgoing (other_side side) in
    let there = behind_wider (ends_epoch side config) [] (first_place (map (outgoing (other_side side)) (recorded log))) (place_of at.reading []) (map (outgoing (other_side side)) more) (handled log) (handled_place says side config (id_text config.id) log at h) in
    let first : Some (first_place (map (outgoing (other_side side)) (recorded log ++ more))) ≡ Some (wider (first_place (map (outgoing (other_side side)) (recorded log))) (map (outgoing (other_side side)) more)) = ap (λ q. Some (first_place q)) (map_more (outgoing (other_side side)) (recorded log) more) in
    let same : w.0 ≡ wider (place_of at.reading []) (map (outgoing (other_side side)) more) = same_place _ _ (sym w.1 ∙ (ap (λ q. place_behind_by (ends_epoch side config) [] q (handled log)) first ∙ there)) in
    (s.number.0, s.number.1, s.number.2 ∙ (ap (λ (q : Place). q.number) (sym same) ∙ w.2))

-- out of order by all that was recorded is out of order by what was so far
order_alike : (says : Says) (side : Side) (config : Config) (heard : List ℕ) (log : List Event) (at : SideState) (more : List FinishedExchange) (own : List Item) (i : Item) (place : ℕ) → Steps says side config (id_text config.id) first_state log at → Shows says side config heard log at → IsOutOfOrder (AllSeen side config heard log more own) (handled log) i place → IsOutOfOrder (seen_of side config heard log) (handled log) i place
order_alike says side config heard log at more own i place h s o = record {
  first = o.first;
  names = o.names;
  read = sym (names_alike says side config heard log at more own s) ∙ o.read;
  strict = o.strict;
  number = o.number;
  number_is = number_alike says side config heard log at more own o.number h s o.number_is;
  place_is = o.place_is;
  stays = o.stays;
  violates = o.violates;
}

-- ---- one packet

-- what the agreement of the side offers
abbrev Offered : Says → (KexName → Type 0) → Type 0
Offered says offers = (n : KexName) → says.offers n → offers n

content : (says : Says) (offers : KexName → Type 0) (side : Side) (config : Config) (heard : List ℕ) (log : List Event) (at : SideState) (more : List FinishedExchange) (own : List Item) (i : Item) (stage next : Stage) (answers : List (List ℕ)) → Offered says offers → (s : Shows says side config heard log at) → stages.Takes says (setting side config (id_text config.id) at) stage (next_number at.reading.number) i.payload answers next → ContentTaken offers (AllSeen side config heard log more own) (handled log) i (due_of stage)
content says offers side config heard log at more own i (Created k) next answers of s t =
    let r = kexinit_as says side config heard log at i (Ok t.names) s t.reads.read in
    (t.names, ap (λ q. Rattle.ssh_negotiate.specs.Reading.names_read side (Rattle.ssh_kex.specs.Setting.offers_of side config) (still_strict q) i.payload) (same_take log more (done_by (seen_of side config heard log) (handled log)) (s.done ∙ ap length s.records)) ∙ r, of (t.names).kex t.offered)
content says offers side config heard log at more own i (AwaitsGroup o) next answers of s t = (t.group, t.payload_is, subst (λ c. Rattle.ssh_kex.specs.Fields.IsInside c.gex t.group) (setting_config side config (id_text config.id) at) (record { least = t.least; most = t.most }))
content says offers side config heard log at more own i (AwaitsReply o gex l p) next answers of s t = (Rattle.ssh_kex.specs.Messages.is_gex o.names.kex, t.host, t.value, t.signature, t.payload_is)
content says offers side config heard log at more own i (AwaitsRequest o) next answers of s t = (t.sizes, t.payload_is)
content says offers side config heard log at more own i (AwaitsValue o gex) next answers of s t = (Rattle.ssh_kex.specs.Messages.is_gex o.names.kex, t.value, t.payload_is)
content says offers side config heard log at more own i (AwaitsNewkeys x m h) next answers of s t = absurd t

taken_type : (says : Says) (s : Rattle.ssh_kex.specs.Setting.Setting) (stage next : Stage) (seqn : ℕ) (payload : List ℕ) (answers : List (List ℕ)) → stages.Takes says s stage seqn payload answers next → Rattle.ssh_packet.specs.Stream.message_type payload ≡ awaited stage
taken_type says s (Created k) next seqn payload answers t = t.reads.is_kexinit
taken_type says s (AwaitsGroup o) next seqn payload answers t = ap Rattle.ssh_packet.specs.Stream.message_type t.payload_is
taken_type says s (AwaitsReply o gex l p) next seqn payload answers t = ap Rattle.ssh_packet.specs.Stream.message_type t.payload_is ∙ by (Rattle.ssh_kex.specs.Messages.is_gex o.names.kex) where
  by : (b : Bool) → Rattle.ssh_packet.specs.Stream.message_type (Rattle.ssh_kex.specs.Messages.reply_message b t.host t.value t.signature) ≡ Rattle.ssh_packet.specs.Stream.message_type (Rattle.ssh_kex.specs.Messages.reply_message b [] [] [])
  by true = refl
  by false = refl
taken_type says s (AwaitsRequest o) next seqn payload answers t = ap Rattle.ssh_packet.specs.Stream.message_type t.payload_is
taken_type says s (AwaitsValue o gex) next seqn payload answers t = ap Rattle.ssh_packet.specs.Stream.message_type t.payload_is ∙ by (Rattle.ssh_kex.specs.Messages.is_gex o.names.kex) where
  by : (b : Bool) → Rattle.ssh_packet.specs.Stream.message_type (Rattle.ssh_kex.specs.Messages.value_message b t.value) ≡ Rattle.ssh_packet.specs.Stream.message_type (Rattle.ssh_kex.specs.Messages.value_message b [])
  by true = refl
  by false = refl
taken_type says s (AwaitsNewkeys x m h) next seqn payload answers t = absurd t

-- the message that is due, by the stage of the opened exchange
pub due_accepted : (says : Says) (offers : KexName → Type 0) (side : Side) (config : Config) (heard : List ℕ) (log : List Event) (at : SideState) (more : List FinishedExchange) (own : List Item) (i : Item) (stage : Stage) → Steps says side config (id_text config.id) first_state log at → (s : Shows says side config heard log at) → at.stands ≡ Inside stage → type_of i ≡ awaited stage → InOrder side at i → ContentTaken offers (AllSeen side config heard log more own) (handled log) i (due_of stage) → IsAccepted offers (AllSeen side config heard log more own) (handled log) i
due_accepted says offers side config heard log at more own i stage h s e t order c =
    let l = looks_here says side config heard log at stage s (inl e) in
    let names = names_alike says side config heard log at more own s in
    let due : due_in (AllSeen side config heard log more own) (handled log) ≡ due_of stage = ap (λ n. Rattle.ssh_rules.specs.AttackCauses.due_by side (kind_in n) (length (open_block (seen_of side config heard log) (handled log)))) names ∙ l.due in
    record {
      ordered = λ place o. not_out says side config heard log at i s order place (order_alike says side config heard log at more own i place h s o);
      how = DueMessage;
      is_so = subst (λ d. (type_of i ≡ type_due (kind_in (names_by (AllSeen side config heard log more own) (handled log))) d) × ContentTaken offers (AllSeen side config heard log more own) (handled log) i d) (sym due) (t ∙ (l.type_is ∙ ap (λ n. type_due (kind_in n) (due_of stage)) (sym names)), c);
    }

inside_not : (stage : Stage) (w : Where) → w ≡ Inside stage → w ≡ Silent → ⊥
inside_not stage w e f = (let z : Inside stage ≡ Silent = sym e ∙ f in cc)

may_not : (st : SideState) → MayDeliver st → st.stands ≡ Silent → ⊥
may_not st (inl e) f = (let z : Outside ≡ Silent = sym e ∙ f in cc)
may_not st (inr e) f = inside_not (Created e.0.0) st.stands e.0.1 f

-- the id that was heard
some_heard : (says : Says) (side : Side) (config : Config) (log : List Event) (st : SideState) → Steps says side config (id_text config.id) first_state log st → (st.stands ≡ Silent → ⊥) → (heard : List ℕ) × (st.heard ≡ Some heard)
some_heard says side config log st h not = by st.heard refl where
  by : (x : Option (List ℕ)) → st.heard ≡ x → (heard : List ℕ) × (st.heard ≡ Some heard)
  by None e = absurd (not ((Rattle.ssh_rules.proofs.side.Tallied.tally_run says side config (id_text config.id) log st h).unheard e))
  by (Some x) e = (x, e)

-- an id that was heard stays
heard_kept : (says : Says) (side : Side) (config : Config) (own_id : List ℕ) (es : List Event) (st st' : SideState) (x : List ℕ) → st.heard ≡ Some x → Steps says side config own_id st es st' → st'.heard ≡ Some x
heard_kept says side config own_id [] st st' x e h = ap (λ (s : SideState). s.heard) h ∙ e
heard_kept says side config own_id (IdHeard id ∷ es) st st' x e h = absurd (let z : None ≡ Some x = sym h.1.unheard ∙ e in cc)
heard_kept says side config own_id (PayloadSubmitted p ∷ es) st st' x e h = heard_kept says side config own_id es h.0 st' x (ap (λ (s : SideState). s.heard) h.1.becomes ∙ e) h.2
heard_kept says side config own_id (ExchangeBegun cause i ∷ es) st st' x e h = heard_kept says side config own_id es h.0 st' x (ap (λ (s : SideState). s.heard) h.1.becomes ∙ e) h.2
heard_kept says side config own_id (AnswerSent i q ∷ es) st st' x e h = heard_kept says side config own_id es h.0 st' x (ap (λ (s : SideState). s.heard) h.1.becomes ∙ e) h.2
heard_kept says side config own_id (PayloadSent i ∷ es) st st' x e h = heard_kept says side config own_id es h.0 st' x (ap (λ (s : SideState). s.heard) h.1.becomes ∙ e) h.2
heard_kept says side config own_id (MessageTaken i ∷ es) st st' x e h = heard_kept says side config own_id es h.0 st' x (ap (λ (s : SideState). s.heard) h.1.becomes ∙ e) h.2
heard_kept says side config own_id (GuessDropped i ∷ es) st st' x e h = heard_kept says side config own_id es h.0 st' x (ap (λ (s : SideState). s.heard) h.1.becomes ∙ e) h.2
heard_kept says side config own_id (PayloadDelivered i ∷ es) st st' x e h = heard_kept says side config own_id es h.0 st' x (ap (λ (s : SideState). s.heard) h.1.becomes ∙ e) h.2
heard_kept says side config own_id (PacketDropped i ∷ es) st st' x e h = heard_kept says side config own_id es h.0 st' x (ap (λ (s : SideState). s.heard) h.1.becomes ∙ e) h.2
heard_kept says side config own_id (ExchangeFinished i y ∷ es) st st' x e h = heard_kept says side config own_id es h.0 st' x (ap (λ (s : SideState). s.heard) h.1.becomes ∙ e) h.2

-- what a side shows before an event that handles a packet
shows_before : (says : Says) (side : Side) (config : Config) (heard : List ℕ) (log es : List Event) (st st' : SideState) → Steps says side config (id_text config.id) first_state log st → Steps says side config (id_text config.id) st es st' → ((x : List ℕ) → st'.heard ≡ Some x → heard ≡ x) → st.owed ≡ [] → (st.stands ≡ Silent → ⊥) → Shows says side config heard log st
shows_before says side config heard log es st st' h g known owes spoken =
    let x = some_heard says side config log st h spoken in
    let same : heard ≡ x.0 = known x.0 (heard_kept says side config (id_text config.id) es st st' x.0 x.1 g) in
    shows says side config heard log st h owes spoken (x.1 ∙ ap (λ q. Some q) (sym same))

-- a payload may be handed up where no KEXINIT was read since the last end
may_be : (says : Says) (side : Side) (config : Config) (heard : List ℕ) (log : List Event) (st : SideState) (more : List FinishedExchange) (own : List Item) → (s : Shows says side config heard log st) → MayDeliver st → MayDeliverNow (AllSeen side config heard log more own) (handled log)
may_be says side config heard log st more own s (inl e) = record {
  none = s.open_is ∙ (subst (λ x. Rattle.ssh_rules.proofs.side.StageFits.FitsWhere says (setting side config (id_text config.id) st) x s.trace.own s.trace.theirs) e s.fits).theirs_is;
  some = (let a = s.some e in let b = s.done in omega (arith, a, b));
}
may_be says side config heard log st more own s (inr e) = record {
  none = s.open_is ∙ (subst (λ x. Rattle.ssh_rules.proofs.side.StageFits.FitsWhere says (setting side config (id_text config.id) st) x s.trace.own s.trace.theirs) e.0.1 s.fits).theirs_is;
  some = (let a = e.1 in let b = s.done in omega (arith, a, b));
}

none_open : (side : Side) (config : Config) (strict : Bool) (opened : List (List ℕ)) (n : Rattle.ssh_negotiate.specs.declared.negotiation.Names.Names) → opened ≡ [] → Rattle.ssh_rules.specs.Attacked.block_names side config strict opened ≡ Some n → ⊥
none_open side config strict opened n e f = (let z : None ≡ Some n = sym (ap (Rattle.ssh_rules.specs.Attacked.block_names side config strict) e) ∙ f in cc)

-- one event that handles a packet
abbrev AcceptedBy : (KexName → Type 0) → Side → Config → List ℕ → List Event → List FinishedExchange → List Item → Item → Type 0
AcceptedBy offers side config heard log more own i = IsAccepted offers (AllSeen side config heard log more own) (handled log) i

taken_accepted : (says : Says) (offers : KexName → Type 0) (side : Side) (config : Config) (heard : List ℕ) (log : List Event) (st st' : SideState) (more : List FinishedExchange) (own : List Item) (i : Item) → Offered says offers → Steps says side config (id_text config.id) first_state log st → Shows says side config heard log st → Rattle.ssh_rules.specs.Machine.TakesMessage says side config (id_text config.id) st i st' → AcceptedBy offers side config heard log more own i
taken_accepted says offers side config heard log st st' more own i of h s t = due_accepted says offers side config heard log st more own i t.stage h s t.inside (taken_type says _ t.stage t.next _ i.payload t.answers t.takes) t.ordered (content says offers side config heard log st more own i t.stage t.next t.answers of s t.takes)

finished_accepted : (says : Says) (offers : KexName → Type 0) (side : Side) (config : Config) (heard : List ℕ) (log : List Event) (st st' : SideState) (more : List FinishedExchange) (own : List Item) (i : Item) (x : FinishedExchange) → Steps says side config (id_text config.id) first_state log st → Shows says side config heard log st → Rattle.ssh_rules.specs.Machine.FinishesExchange says side st i x st' → AcceptedBy offers side config heard log more own i
finished_accepted says offers side config heard log st st' more own i x h s t = due_accepted says offers side config heard log st more own i (AwaitsNewkeys t.exchange x t.host) h s t.inside (ap Rattle.ssh_packet.specs.Stream.message_type t.payload_is) t.ordered t.payload_is

guess_accepted : (says : Says) (offers : KexName → Type 0) (side : Side) (config : Config) (heard : List ℕ) (log : List Event) (st st' : SideState) (more : List FinishedExchange) (own : List Item) (i : Item) → Steps says side config (id_text config.id) first_state log st → Shows says side config heard log st → Rattle.ssh_rules.specs.Machine.IgnoresGuess side st i st' → AcceptedBy offers side config heard log more own i
guess_accepted says offers side config heard log st st' more own i h s t = record {
  ordered = λ place o. not_out says side config heard log st i s t.ordered place (order_alike says side config heard log st more own i place h s o);
  how = DroppedGuess;
  is_so = (guess_step says side config (id_text config.id) (guess_behind side config BeforeKexinit (handled log)) st (GuessDropped i) st' (reads_alike side config) s.guess t).1;
}

dropped_accepted : (says : Says) (offers : KexName → Type 0) (side : Side) (config : Config) (heard : List ℕ) (log : List Event) (st st' : SideState) (more : List FinishedExchange) (own : List Item) (i : Item) → Steps says side config (id_text config.id) first_state log st → Shows says side config heard log st → Rattle.ssh_rules.specs.Machine.DropsPacket side config st i st' → AcceptedBy offers side config heard log more own i
dropped_accepted says offers side config heard log st st' more own i h s t = record {
  ordered = λ place o. not_out says side config heard log st i s t.ordered place (order_alike says side config heard log st more own i place h s o);
  how = Ignored;
  is_so = t.idle;
}

delivered_accepted : (says : Says) (offers : KexName → Type 0) (side : Side) (config : Config) (heard : List ℕ) (log : List Event) (st st' : SideState) (more : List FinishedExchange) (own : List Item) (i : Item) → Shows says side config heard log st → Rattle.ssh_rules.specs.Machine.DeliversPayload config st i st' → AcceptedBy offers side config heard log more own i
delivered_accepted says offers side config heard log st st' more own i s t =
    let m = may_be says side config heard log st more own s t.may in
    record {
      ordered = λ place o. none_open side config _ _ o.names m.none o.read;
      how = HandedUp;
      is_so = (t.allowed, m);
    }

-- all that handle one
abbrev AllBy : (KexName → Type 0) → Side → Config → List ℕ → List FinishedExchange → List Item → (before items : List Item) → Type 0
AllBy offers side config heard exchanges own before items = AllAccepted offers (record { side = side; config = config; heard = heard; exchanges = exchanges; own = own }) before items

one_more : (offers : KexName → Type 0) (side : Side) (config : Config) (heard : List ℕ) (log : List Event) (xs more : List FinishedExchange) (own : List Item) (i : Item) (items : List Item) → xs ≡ recorded log ++ more → AcceptedBy offers side config heard log more own i → AllBy offers side config heard xs own (handled log ++ i ∷ []) items → AllBy offers side config heard xs own (handled log) (i ∷ items)
one_more offers side config heard log xs more own i items e a r = (subst (λ q. IsAccepted offers (record { side = side; config = config; heard = heard; exchanges = q; own = own }) (handled log) i) (sym e) a, r)

-- an event that handles none and records nothing
quiet_on : (says : Says) (offers : KexName → Type 0) (side : Side) (config : Config) (heard : List ℕ) (xs : List FinishedExchange) (own : List Item) (ev : Event) (es log : List Event) (st mid : SideState) → handled (ev ∷ []) ≡ [] → recorded (ev ∷ []) ≡ [] → xs ≡ recorded log ++ recorded es → (items : List Item) → (xs ≡ recorded (log ++ ev ∷ []) ++ recorded es → AllBy offers side config heard xs own (handled (log ++ ev ∷ [])) items) → AllBy offers side config heard xs own (handled log) items
quiet_on says offers side config heard xs own ev es log st mid hn rn e items go =
    let hs : handled (log ++ ev ∷ []) ≡ handled log = handled_more log (ev ∷ []) ∙ (ap (λ q. handled log ++ q) hn ∙ append-nil (handled log)) in
    let rs : recorded (log ++ ev ∷ []) ≡ recorded log = recorded_more log (ev ∷ []) ∙ (ap (λ q. recorded log ++ q) rn ∙ append-nil (recorded log)) in
    subst (λ b. AllBy offers side config heard xs own b items) hs (go (e ∙ ap (λ q. q ++ recorded es) (sym rs)))

accepted_steps : (says : Says) (offers : KexName → Type 0) (side : Side) (config : Config) (heard : List ℕ) (xs : List FinishedExchange) (own : List Item) (es log : List Event) (st st' : SideState) → Offered says offers → xs ≡ recorded log ++ recorded es → Steps says side config (id_text config.id) first_state log st → Steps says side config (id_text config.id) st es st' → ((x : List ℕ) → st'.heard ≡ Some x → heard ≡ x) → AllBy offers side config heard xs own (handled log) (handled es)
accepted_steps says offers side config heard xs own [] log st st' of e h g known = tt
accepted_steps says offers side config heard xs own (IdHeard id ∷ es) log st st' of e h g known = quiet_on says offers side config heard xs own (IdHeard id) es log st g.0 refl refl e (handled es) (λ f. accepted_steps says offers side config heard xs own es (log ++ IdHeard id ∷ []) g.0 st' of f (steps_join says side config (id_text config.id) log (IdHeard id ∷ []) first_state st g.0 h (g.0, g.1, refl)) g.2 known)
accepted_steps says offers side config heard xs own (PayloadSubmitted p ∷ es) log st st' of e h g known = quiet_on says offers side config heard xs own (PayloadSubmitted p) es log st g.0 refl refl e (handled es) (λ f. accepted_steps says offers side config heard xs own es (log ++ PayloadSubmitted p ∷ []) g.0 st' of f (steps_join says side config (id_text config.id) log (PayloadSubmitted p ∷ []) first_state st g.0 h (g.0, g.1, refl)) g.2 known)
accepted_steps says offers side config heard xs own (ExchangeBegun cause i ∷ es) log st st' of e h g known = quiet_on says offers side config heard xs own (ExchangeBegun cause i) es log st g.0 refl refl e (handled es) (λ f. accepted_steps says offers side config heard xs own es (log ++ ExchangeBegun cause i ∷ []) g.0 st' of f (steps_join says side config (id_text config.id) log (ExchangeBegun cause i ∷ []) first_state st g.0 h (g.0, g.1, refl)) g.2 known)
accepted_steps says offers side config heard xs own (AnswerSent i q ∷ es) log st st' of e h g known = quiet_on says offers side config heard xs own (AnswerSent i q) es log st g.0 refl refl e (handled es) (λ f. accepted_steps says offers side config heard xs own es (log ++ AnswerSent i q ∷ []) g.0 st' of f (steps_join says side config (id_text config.id) log (AnswerSent i q ∷ []) first_state st g.0 h (g.0, g.1, refl)) g.2 known)
accepted_steps says offers side config heard xs own (PayloadSent i ∷ es) log st st' of e h g known = quiet_on says offers side config heard xs own (PayloadSent i) es log st g.0 refl refl e (handled es) (λ f. accepted_steps says offers side config heard xs own es (log ++ PayloadSent i ∷ []) g.0 st' of f (steps_join says side config (id_text config.id) log (PayloadSent i ∷ []) first_state st g.0 h (g.0, g.1, refl)) g.2 known)
accepted_steps says offers side config heard xs own (MessageTaken i ∷ es) log st st' of e h g known =
    let s = shows_before says side config heard log (MessageTaken i ∷ es) st st' h g known g.1.owes (inside_not g.1.stage st.stands g.1.inside) in
    one_more offers side config heard log xs (recorded es) own i (handled es) e (taken_accepted says offers side config heard log st g.0 (recorded es) own i of h s g.1)
    (subst (λ b. AllBy offers side config heard xs own b (handled es)) (handled_more log (MessageTaken i ∷ [])) (accepted_steps says offers side config heard xs own es (log ++ MessageTaken i ∷ []) g.0 st' of (e ∙ ap (λ q. q ++ recorded es) (sym (recorded_more log (MessageTaken i ∷ []) ∙ append-nil (recorded log)))) (steps_join says side config (id_text config.id) log (MessageTaken i ∷ []) first_state st g.0 h (g.0, g.1, refl)) g.2 known))
accepted_steps says offers side config heard xs own (GuessDropped i ∷ es) log st st' of e h g known =
    let s = shows_before says side config heard log (GuessDropped i ∷ es) st st' h g known g.1.owes (inside_not g.1.stage st.stands g.1.inside) in
    one_more offers side config heard log xs (recorded es) own i (handled es) e (guess_accepted says offers side config heard log st g.0 (recorded es) own i h s g.1)
    (subst (λ b. AllBy offers side config heard xs own b (handled es)) (handled_more log (GuessDropped i ∷ [])) (accepted_steps says offers side config heard xs own es (log ++ GuessDropped i ∷ []) g.0 st' of (e ∙ ap (λ q. q ++ recorded es) (sym (recorded_more log (GuessDropped i ∷ []) ∙ append-nil (recorded log)))) (steps_join says side config (id_text config.id) log (GuessDropped i ∷ []) first_state st g.0 h (g.0, g.1, refl)) g.2 known))
accepted_steps says offers side config heard xs own (PayloadDelivered i ∷ es) log st st' of e h g known =
    let s = shows_before says side config heard log (PayloadDelivered i ∷ es) st st' h g known g.1.owes (may_not st g.1.may) in
    one_more offers side config heard log xs (recorded es) own i (handled es) e (delivered_accepted says offers side config heard log st g.0 (recorded es) own i s g.1)
    (subst (λ b. AllBy offers side config heard xs own b (handled es)) (handled_more log (PayloadDelivered i ∷ [])) (accepted_steps says offers side config heard xs own es (log ++ PayloadDelivered i ∷ []) g.0 st' of (e ∙ ap (λ q. q ++ recorded es) (sym (recorded_more log (PayloadDelivered i ∷ []) ∙ append-nil (recorded log)))) (steps_join says side config (id_text config.id) log (PayloadDelivered i ∷ []) first_state st g.0 h (g.0, g.1, refl)) g.2 known))
accepted_steps says offers side config heard xs own (PacketDropped i ∷ es) log st st' of e h g known =
    let s = shows_before says side config heard log (PacketDropped i ∷ es) st st' h g known g.1.owes g.1.heard in
    one_more offers side config heard log xs (recorded es) own i (handled es) e (dropped_accepted says offers side config heard log st g.0 (recorded es) own i h s g.1)
    (subst (λ b. AllBy offers side config heard xs own b (handled es)) (handled_more log (PacketDropped i ∷ [])) (accepted_steps says offers side config heard xs own es (log ++ PacketDropped i ∷ []) g.0 st' of (e ∙ ap (λ q. q ++ recorded es) (sym (recorded_more log (PacketDropped i ∷ []) ∙ append-nil (recorded log)))) (steps_join says side config (id_text config.id) log (PacketDropped i ∷ []) first_state st g.0 h (g.0, g.1, refl)) g.2 known))
accepted_steps says offers side config heard xs own (ExchangeFinished i x ∷ es) log st st' of e h g known =
    let s = shows_before says side config heard log (ExchangeFinished i x ∷ es) st st' h g known g.1.owes (inside_not (AwaitsNewkeys g.1.exchange x g.1.host) st.stands g.1.inside) in
    one_more offers side config heard log xs (x ∷ recorded es) own i (handled es) e (finished_accepted says offers side config heard log st g.0 (x ∷ recorded es) own i x h s g.1)
    (subst (λ b. AllBy offers side config heard xs own b (handled es)) (handled_more log (ExchangeFinished i x ∷ [])) (accepted_steps says offers side config heard xs own es (log ++ ExchangeFinished i x ∷ []) g.0 st' of (e ∙ (sym (append_assoc (recorded log) (x ∷ []) (recorded es)) ∙ ap (λ q. q ++ recorded es) (sym (recorded_more log (ExchangeFinished i x ∷ []))))) (steps_join says side config (id_text config.id) log (ExchangeFinished i x ∷ []) first_state st g.0 h (g.0, g.1, refl)) g.2 known))

-- of a whole run
pub all_accepted : (says : Says) (offers : KexName → Type 0) (side : Side) (config : Config) (heard : List ℕ) (own : List Item) (log : List Event) (st : SideState) → Offered says offers → Steps says side config (id_text config.id) first_state log st → ((x : List ℕ) → st.heard ≡ Some x → heard ≡ x) → AllBy offers side config heard (recorded log) own [] (handled log)
all_accepted says offers side config heard own log st of h known = accepted_steps says offers side config heard (recorded log) own log [] first_state st of refl refl h known
