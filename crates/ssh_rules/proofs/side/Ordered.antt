-- A side whose first exchange is strict has read a legal order.
use Rattle.std.proofs.Common.{◌≡◌, ℕ, ◌+◌, ◌-◌, ◌^◌, ◌<◌, List, [], ◌∷◌, ◌++◌, length, map, slice_get, refl, sym, ◌∙◌, ap, subst, arith, Option, Some, None, Bool, true, false, nat_le, ◌&&◌, ◌⊎◌, inl, inr, length-append, append_assoc}
use Rattle.ssh_packet.specs.Sealing.{Item, next_number}
use Rattle.ssh_wire.specs.declared.side.Side.{Side}
use Rattle.ssh_wire.specs.declared.side.Side.TheVariants.{Client, Server}
use Rattle.ssh_kex.specs.Stages as stages
use Rattle.ssh_negotiate.specs.declared.negotiation.Names.{Names}
use Rattle.ssh_kex.specs.declared.config.Config.{Config}
use Rattle.ssh_kex.specs.declared.exchange.FinishedExchange.{FinishedExchange}
use Rattle.ssh_kex.specs.Messages.{is_gex}
use Rattle.ssh_kex.specs.Setting.{Says, Setting, Opened, behind_guess}
use Rattle.ssh_negotiate.specs.declared.kex.KexCause.TheVariants.{Initial}
use Rattle.ssh_kex.specs.Stages.{Stage, Created, AwaitsGroup, AwaitsReply, AwaitsRequest, AwaitsValue, AwaitsNewkeys, drops_guess, guess_dropped}
use Rattle.ssh_rules.specs.MessageTypes.{type_of}
use Rattle.ssh_rules.specs.Guess.{LegalOrder}
use Rattle.ssh_rules.specs.Machine.{Silent, Inside, SideState, setting, Event, IdHeard, PayloadSubmitted, ExchangeBegun, AnswerSent, PayloadSent, MessageTaken, GuessDropped, PayloadDelivered, PacketDropped, ExchangeFinished, Step, Steps, first_state, names_now, guesses, InOrder, cause_of}
use Rattle.ssh_rules.proofs.side.StageFits.{Trace, no_trace, trace_after}
use Rattle.ssh_rules.specs.Log.{recorded, first_epoch}
use Rattle.ssh_rules.proofs.side.Legal.{HeardC, HeardS, Passes, ReadsUnmarked, takes_client, takes_server, ignores_client, ignores_server, drops_client, drops_server, finishes_client, finishes_server, tested}
use Rattle.ssh_rules.proofs.pair.Next.{Started, started_step, started_first}
use Rattle.ssh_rules.proofs.side.StageSteps.{setting_side}
use Rattle.ssh_rules.proofs.side.Ending.{LastIn}

abbrev pub Heard : Side → Stage → List ℕ → Type 0
Heard Client stage ts = HeardC stage ts
Heard Server stage ts = HeardS stage ts

pub record Ordered (side : Side) (st : SideState) (h : List Item) : Type 0 where
  pub number : st.records ≡ [] → length h < 2 ^ 32 → st.reading.number ≡ length h
  pub types : st.records ≡ [] → length h < 2 ^ 32 → (stage : Stage) (n : Names) → st.stands ≡ Inside stage → names_now (Inside stage) ≡ Some n → n.strict_kex ≡ true → Heard side stage (map type_of h)

abbrev pub more_handled : List Item → Event → List Item
more_handled h (MessageTaken i) = h ++ i ∷ []
more_handled h (GuessDropped i) = h ++ i ∷ []
more_handled h (PayloadDelivered i) = h ++ i ∷ []
more_handled h (PacketDropped i) = h ++ i ∷ []
more_handled h (ExchangeFinished i x) = h ++ i ∷ []
more_handled h (ExchangeBegun cause i) = h
more_handled h (AnswerSent i q) = h
more_handled h (PayloadSent i) = h
more_handled h (IdHeard id) = h
more_handled h (PayloadSubmitted p) = h

at_ordered : (side : Side) (h : List Item) (m st' : SideState) → st' ≡ m → Ordered side m h → Ordered side st' h
at_ordered side h m st' e o = subst (λ s. Ordered side s h) (sym e) o

same_stage : (a b : Stage) → Inside a ≡ Inside b → a ≡ b
same_stage a b e = cc

shorter : (h : List Item) (i : Item) → length (h ++ i ∷ []) < 2 ^ 32 → length h < 2 ^ 32
shorter h i l = let e = length-append h (i ∷ []) in omega (arith, e, l)

counted : (h : List Item) (i : Item) (n : ℕ) → length (h ++ i ∷ []) < 2 ^ 32 → n ≡ length h → next_number n ≡ length (h ++ i ∷ [])
counted h i n l e = let a = length-append h (i ∷ []) in omega (arith, a, l, e)

-- a row keeps the names, but for a KEXINIT's
pub takes_names : (says : Says) (s : Setting) (stage : Stage) (seqn : ℕ) (payload : List ℕ) (written : List (List ℕ)) (next : Stage) → stages.Takes says s stage seqn payload written next → (names_now (Inside next) ≡ names_now (Inside stage)) ⊎ ((own : List ℕ) × (stage ≡ Created own))
takes_names says s (Created k) seqn payload written next h = inr (k, refl)
takes_names says s (AwaitsGroup o) seqn payload written next h = inl (ap (λ x. names_now (Inside x)) h.leads.next_is)
takes_names says s (AwaitsReply o g l p) seqn payload written next h = inl (ap (λ x. names_now (Inside x)) h.leads.next_is)
takes_names says s (AwaitsRequest o) seqn payload written next h = inl (ap (λ x. names_now (Inside x)) h.leads.next_is)
takes_names says s (AwaitsValue o g) seqn payload written next h = inl (ap (λ x. names_now (Inside x)) h.leads.next_is)
takes_names says s (AwaitsNewkeys exchange x host) seqn payload written next h = absurd h

opens_names : (says : Says) (s : Setting) (o : Opened) (side : Side) (kind : Bool) (written : List (List ℕ)) (next : Stage) → stages.OpensBy side kind says s o written next → names_now (Inside next) ≡ Some o.names
opens_names says s o Client true written next h = ap (λ x. names_now (Inside x)) h.next_is
opens_names says s o Client false written next h = ap (λ x. names_now (Inside x)) h.leads.next_is
opens_names says s o Server true written next h = ap (λ x. names_now (Inside x)) h.next_is
opens_names says s o Server false written next h = ap (λ x. names_now (Inside x)) h.next_is

-- under strict key exchange the first KEXINIT is the first packet
first_one : (says : Says) (s : Setting) (stage next : Stage) (own : List ℕ) (seqn : ℕ) (payload : List ℕ) (written : List (List ℕ)) (n : Names) → stage ≡ Created own → s.cause ≡ Initial → names_now (Inside next) ≡ Some n → n.strict_kex ≡ true → stages.Takes says s stage seqn payload written next → seqn ≡ 1
first_one says s stage next own seqn payload written n c q k z h =
    let t : stages.TakesKexinit says s own seqn payload written next = subst (λ x. stages.Takes says s x seqn payload written next) c h in
    let same : t.names ≡ n = (let e : Some t.names ≡ Some n = sym (opens_names says s _ s.side (is_gex t.names.kex) written next t.opens) ∙ k in cc) in
    let first : stages.IsFirst Initial t.names.strict_kex seqn = subst (λ w. stages.IsFirst w t.names.strict_kex seqn) q t.reads.first in
    first (ap (λ (x : Names). x.strict_kex) same ∙ z)

dropped_names : (stage : Stage) (n : Names) → names_now (Inside (guess_dropped stage)) ≡ Some n → drops_guess stage ≡ true → (m : Names) × (names_now (Inside stage) ≡ Some m) × (m.strict_kex ≡ n.strict_kex)
dropped_names (AwaitsGroup o) n e d = (o.names, refl, (let f : behind_guess o.names ≡ n = cc in ap (λ (q : Names). q.strict_kex) f))
dropped_names (AwaitsReply o g l p) n e d = (o.names, refl, (let f : behind_guess o.names ≡ n = cc in ap (λ (q : Names). q.strict_kex) f))
dropped_names (AwaitsRequest o) n e d = (o.names, refl, (let f : behind_guess o.names ≡ n = cc in ap (λ (q : Names). q.strict_kex) f))
dropped_names (AwaitsValue o g) n e d = (o.names, refl, (let f : behind_guess o.names ≡ n = cc in ap (λ (q : Names). q.strict_kex) f))
dropped_names (Created k) n e d = cc
dropped_names (AwaitsNewkeys exchange x host) n e d = cc

nil_of : (h : List Item) → length h ≡ 0 → map type_of h ≡ []
nil_of [] e = refl
nil_of (i ∷ h) e = absurd (omega (arith, e))

snoc_not_nil : {A : Type 0} (xs : List A) (x : A) → xs ++ x ∷ [] ≡ [] → ⊥
snoc_not_nil [] x e = cc
snoc_not_nil (y ∷ xs) x e = cc

by_row : (says : Says) (side : Side) (s : Setting) (stage : Stage) (seqn : ℕ) (i : Item) (written : List (List ℕ)) (next : Stage) (h : List Item) → s.side ≡ side → ReadsUnmarked side s.config
    → ((own : List ℕ) → stage ≡ Created own → map type_of h ≡ [])
    → drops_guess stage ≡ false
    → Heard side stage (map type_of h) → stages.Takes says s stage seqn i.payload written next → Heard side next (map type_of (h ++ i ∷ []))
by_row says Client s stage seqn i written next h e r nil d g t = takes_client says s stage seqn i written next h e r nil d g t
by_row says Server s stage seqn i written next h e r nil d g t = takes_server says s stage seqn i written next h e r nil d g t

by_guess : (side : Side) (stage : Stage) (i : Item) (h : List Item) → Passes side i h stage → drops_guess stage ≡ true → Heard side stage (map type_of h) → Heard side (guess_dropped stage) (map type_of (h ++ i ∷ []))
by_guess Client stage i h pass d g = ignores_client stage i h pass d g
by_guess Server stage i h pass d g = ignores_server stage i h pass d g

by_drop : (side : Side) (stage : Stage) (i : Item) (h : List Item) (n : Names) → names_now (Inside stage) ≡ Some n → Passes side i h stage → (nat_le 2 (type_of i) && nat_le (type_of i) 4) ≡ true → Heard side stage (map type_of h) → ⊥
by_drop Client stage i h n k pass d g = drops_client stage i h n k pass d g
by_drop Server stage i h n k pass d g = drops_server stage i h n k pass d g

place_is : (number place guess : ℕ) → number ≡ place + guess → number - guess ≡ place
place_is number place guess e = omega (arith, e)

-- what the order test says of a stage
passes : (side : Side) (st : SideState) (i : Item) (h : List Item) (stage : Stage) → st.records ≡ [] → st.reading.number ≡ length h → st.stands ≡ Inside stage → InOrder side st i → ((n : Names) → names_now (Inside stage) ≡ Some n → n.strict_kex ≡ true) → Passes side i h stage
passes side st i h stage r num e o strict n place k l = tested side st.reading.number i st.records st.stands n place r (ap names_now e ∙ k) (strict n k) (place_is st.reading.number place (guesses n) (num ∙ l)) o

same_names : (a b : Names) (x : Option Names) → x ≡ Some a → x ≡ Some b → a ≡ b
same_names a b x e f = let g : Some a ≡ Some b = sym e ∙ f in cc

pub ordered_step : (says : Says) (side : Side) (config : Config) (own_id : List ℕ) (h : List Item) (st : SideState) (e : Event) (st' : SideState) (t : Trace) → ReadsUnmarked side config → Started st t → Ordered side st h → Step says side config own_id st e st' → Ordered side st' (more_handled h e)
ordered_step says side config own_id h st (IdHeard id) st' t r s o g = at_ordered side h _ st' g.becomes (record { number = o.number; types = o.types })
ordered_step says side config own_id h st (PayloadSubmitted p) st' t r s o g = at_ordered side h _ st' g.becomes (record { number = o.number; types = o.types })
ordered_step says side config own_id h st (ExchangeBegun cause i) st' t r s o g = at_ordered side h _ st' g.becomes (record { number = o.number; types = λ a l stage n e k z. absurd (let f = same_stage (Created i.payload) stage e in let q : names_now (Inside stage) ≡ None = ap (λ x. names_now (Inside x)) (sym f) in let c : Some n ≡ None = sym k ∙ q in cc) })
ordered_step says side config own_id h st (AnswerSent i q) st' t r s o g = at_ordered side h _ st' g.becomes (record { number = o.number; types = o.types })
ordered_step says side config own_id h st (PayloadSent i) st' t r s o g = at_ordered side h _ st' g.becomes (record { number = o.number; types = o.types })
ordered_step says side config own_id h st (MessageTaken i) st' t r s o g = at_ordered side (h ++ i ∷ []) _ st' g.becomes (record {
  number = λ a l. counted h i st.reading.number l (o.number a (shorter h i l));
  types = λ a l stage n e k z. (let f = same_stage g.next stage e in
      subst (λ x. Heard side x (map type_of (h ++ i ∷ []))) f (row a l n (ap (λ x. names_now (Inside x)) f ∙ k) z));
}) where
  row : st.records ≡ [] → length (h ++ i ∷ []) < 2 ^ 32 → (n : Names) → names_now (Inside g.next) ≡ Some n → n.strict_kex ≡ true → Heard side g.next (map type_of (h ++ i ∷ []))
  row a l n k z = by_row says side (setting side config own_id st) g.stage (next_number st.reading.number) i g.answers g.next h (setting_side side config own_id st) (config_at r) nil g.kept heard g.takes where
    config_is : (side : Side) → (setting side config own_id st).config ≡ config
    config_is Client = refl
    config_is Server = refl

    config_at : ReadsUnmarked side config → ReadsUnmarked side (setting side config own_id st).config
    config_at q = subst (ReadsUnmarked side) (sym (config_is side)) q

    num : st.reading.number ≡ length h
    num = o.number a (shorter h i l)

    cause_is : (side : Side) → (setting side config own_id st).cause ≡ Initial
    cause_is Client = ap cause_of a
    cause_is Server = ap cause_of a

    nil : (own : List ℕ) → g.stage ≡ Created own → map type_of h ≡ []
    nil own c = nil_of h (let q = first_one says (setting side config own_id st) g.stage g.next own (next_number st.reading.number) i.payload g.answers n c (cause_is side) k z g.takes in let w = counted h i st.reading.number l num in let b = length-append h (i ∷ []) in omega (arith, q, w, b))

    created : (side : Side) (own ts : _) → Heard side (Created own) ts
    created Client own ts = tt
    created Server own ts = tt

    heard : Heard side g.stage (map type_of h)
    heard = elim (takes_names says (setting side config own_id st) g.stage (next_number st.reading.number) i.payload g.answers g.next g.takes) [
      | inl q ↦ o.types a (shorter h i l) g.stage n g.inside (sym q ∙ k) z
      | inr c ↦ subst (λ x. Heard side x (map type_of h)) (sym c.1) (created side c.0 (map type_of h))
    ]
ordered_step says side config own_id h st (GuessDropped i) st' t r s o g = at_ordered side (h ++ i ∷ []) _ st' g.becomes (record {
  number = λ a l. counted h i st.reading.number l (o.number a (shorter h i l));
  types = λ a l stage n e k z. (let f = same_stage (guess_dropped g.stage) stage e in
      subst (λ x. Heard side x (map type_of (h ++ i ∷ []))) f (guess a l n (ap (λ x. names_now (Inside x)) f ∙ k) z));
}) where
  guess : st.records ≡ [] → length (h ++ i ∷ []) < 2 ^ 32 → (n : Names) → names_now (Inside (guess_dropped g.stage)) ≡ Some n → n.strict_kex ≡ true → Heard side (guess_dropped g.stage) (map type_of (h ++ i ∷ []))
  guess a l n k z =
      let d = dropped_names g.stage n k g.drops in
      let strict : (m : Names) → names_now (Inside g.stage) ≡ Some m → m.strict_kex ≡ true = λ m e. ap (λ (x : Names). x.strict_kex) (same_names m d.0 (names_now (Inside g.stage)) e d.1) ∙ (d.2 ∙ z) in
      by_guess side g.stage i h (passes side st i h g.stage a (o.number a (shorter h i l)) g.inside g.ordered strict) g.drops (o.types a (shorter h i l) g.stage d.0 g.inside d.1 (d.2 ∙ z))
ordered_step says side config own_id h st (PayloadDelivered i) st' t r s o g = at_ordered side (h ++ i ∷ []) _ st' g.becomes (record {
  number = λ a l. absurd (none a);
  types = λ a l stage n e k z. absurd (none a);
}) where
  none : st.records ≡ [] → ⊥
  none a = let z : length st.records ≡ 0 = ap length a in elim g.may [ inl q ↦ (let b = s.outside q in omega (arith, z, b)) | inr q ↦ omega (arith, z, q.1) ]
ordered_step says side config own_id h st (PacketDropped i) st' t r s o g = at_ordered side (h ++ i ∷ []) _ st' g.becomes (record {
  number = λ a l. counted h i st.reading.number l (o.number a (shorter h i l));
  types = λ a l stage n e k z. absurd (let strict : (m : Names) → names_now (Inside stage) ≡ Some m → m.strict_kex ≡ true = λ m q. ap (λ (x : Names). x.strict_kex) (same_names m n (names_now (Inside stage)) q k) ∙ z in
      by_drop side stage i h n k (passes side st i h stage a (o.number a (shorter h i l)) e g.ordered strict) g.idle (o.types a (shorter h i l) stage n e k z));
})
ordered_step says side config own_id h st (ExchangeFinished i x) st' t r s o g = at_ordered side (h ++ i ∷ []) _ st' g.becomes (record {
  number = λ a l. absurd (snoc_not_nil st.records x a);
  types = λ a l stage n e k z. absurd (snoc_not_nil st.records x a);
})

pub ordered_first : (side : Side) → Ordered side first_state []
ordered_first side = record { number = λ a l. refl; types = λ a l stage n e k z. absurd (silent_in stage e) } where
  silent_in : (stage : Stage) → Silent ≡ Inside stage → ⊥
  silent_in stage e = cc

last_legal : (says : Says) (side : Side) (stage : Stage) (i : Item) (x : FinishedExchange) (h : List Item) → Heard side stage (map type_of h) → LastIn says stage i.payload x → LegalOrder side (is_gex x.names.kex) x.names.guessed_ignored (map type_of (h ++ i ∷ []))
last_legal says Client stage i x h g t = finishes_client says stage i x h g t
last_legal says Server stage i x h g t = finishes_server says stage i x h g t

finish_names : (says : Says) (stage : Stage) (payload : List ℕ) (x : FinishedExchange) → LastIn says stage payload x → names_now (Inside stage) ≡ Some x.names
finish_names says (AwaitsNewkeys exchange made host) payload x h = ap (λ (y : FinishedExchange). Some y.names) (sym h.1)
finish_names says (Created own) payload x h = absurd h
finish_names says (AwaitsGroup o) payload x h = absurd h
finish_names says (AwaitsReply o g l p) payload x h = absurd h
finish_names says (AwaitsRequest o) payload x h = absurd h
finish_names says (AwaitsValue o g) payload x h = absurd h

same_records : (says : Says) (side : Side) (config : Config) (own_id : List ℕ) (st : SideState) (e : Event) (st' : SideState) → recorded (e ∷ []) ≡ [] → Step says side config own_id st e st' → st.records ≡ [] → st'.records ≡ []
same_records says side config own_id st (IdHeard id) st' n g a = ap (λ (s : SideState). s.records) g.becomes ∙ a
same_records says side config own_id st (PayloadSubmitted p) st' n g a = ap (λ (s : SideState). s.records) g.becomes ∙ a
same_records says side config own_id st (ExchangeBegun cause i) st' n g a = ap (λ (s : SideState). s.records) g.becomes ∙ a
same_records says side config own_id st (AnswerSent i q) st' n g a = ap (λ (s : SideState). s.records) g.becomes ∙ a
same_records says side config own_id st (PayloadSent i) st' n g a = ap (λ (s : SideState). s.records) g.becomes ∙ a
same_records says side config own_id st (MessageTaken i) st' n g a = ap (λ (s : SideState). s.records) g.becomes ∙ a
same_records says side config own_id st (GuessDropped i) st' n g a = ap (λ (s : SideState). s.records) g.becomes ∙ a
same_records says side config own_id st (PayloadDelivered i) st' n g a = ap (λ (s : SideState). s.records) g.becomes ∙ a
same_records says side config own_id st (PacketDropped i) st' n g a = ap (λ (s : SideState). s.records) g.becomes ∙ a
same_records says side config own_id st (ExchangeFinished i x) st' n g a = cc

first_on : (h : List Item) (e : Event) (es : List Event) → recorded (e ∷ []) ≡ [] → more_handled h e ++ first_epoch es ≡ h ++ first_epoch (e ∷ es)
first_on h (MessageTaken i) es n = append_assoc h (i ∷ []) (first_epoch es)
first_on h (GuessDropped i) es n = append_assoc h (i ∷ []) (first_epoch es)
first_on h (PayloadDelivered i) es n = append_assoc h (i ∷ []) (first_epoch es)
first_on h (PacketDropped i) es n = append_assoc h (i ∷ []) (first_epoch es)
first_on h (ExchangeBegun cause i) es n = refl
first_on h (AnswerSent i q) es n = refl
first_on h (PayloadSent i) es n = refl
first_on h (IdHeard id) es n = refl
first_on h (PayloadSubmitted p) es n = refl
first_on h (ExchangeFinished i x) es n = cc

-- one event that records nothing stands before the end of the first exchange
legal_on : (says : Says) (side : Side) (config : Config) (own_id : List ℕ) (h : List Item) (st : SideState) (e : Event) (es : List Event) (kind dropped : Bool) → recorded (e ∷ []) ≡ [] → LegalOrder side kind dropped (map type_of (more_handled h e ++ first_epoch es)) → LegalOrder side kind dropped (map type_of (h ++ first_epoch (e ∷ es)))
legal_on says side config own_id h st e es kind dropped n l = subst (λ w. LegalOrder side kind dropped (map type_of w)) (first_on h e es n) l

few_on : (h : List Item) (e : Event) (es : List Event) → recorded (e ∷ []) ≡ [] → length (h ++ first_epoch (e ∷ es)) < 2 ^ 32 → length (more_handled h e ++ first_epoch es) < 2 ^ 32
few_on h e es n l = subst (λ w. length w < 2 ^ 32) (sym (first_on h e es n)) l

pub legal_steps : (says : Says) (side : Side) (config : Config) (own_id : List ℕ) (log : List Event) (h : List Item) (st st' : SideState) (t : Trace) (x : FinishedExchange) → ReadsUnmarked side config → Started st t → Ordered side st h → st.records ≡ [] → Steps says side config own_id st log st' → slice_get (recorded log) 0 ≡ Some x → x.names.strict_kex ≡ true → length (h ++ first_epoch log) < 2 ^ 32 → LegalOrder side (is_gex x.names.kex) x.names.guessed_ignored (map type_of (h ++ first_epoch log))
legal_steps says side config own_id [] h st st' t x r s o a g f z l = cc
legal_steps says side config own_id (ExchangeFinished i y ∷ es) h st st' t x r s o a g f z l =
    let e : y ≡ x = cc in
    subst (λ w. LegalOrder side (is_gex w.names.kex) w.names.guessed_ignored (map type_of (h ++ i ∷ []))) e
    (last_legal says side (AwaitsNewkeys g.1.exchange y g.1.host) i y h (o.types a (shorter h i l) (AwaitsNewkeys g.1.exchange y g.1.host) y.names g.1.inside (finish_names says (AwaitsNewkeys g.1.exchange y g.1.host) i.payload y (g.1.payload_is, refl, g.1.trusted)) (ap (λ (w : FinishedExchange). w.names.strict_kex) e ∙ z)) (g.1.payload_is, refl, g.1.trusted))
legal_steps says side config own_id (IdHeard id ∷ es) h st st' t x r s o a g f z l = legal_steps says side config own_id es h g.0 st' (trace_after t (IdHeard id)) x r (started_step says side config own_id st (IdHeard id) g.0 t s g.1) (ordered_step says side config own_id h st (IdHeard id) g.0 t r s o g.1) (same_records says side config own_id st (IdHeard id) g.0 refl g.1 a) g.2 f z l
legal_steps says side config own_id (PayloadSubmitted p ∷ es) h st st' t x r s o a g f z l = legal_steps says side config own_id es h g.0 st' (trace_after t (PayloadSubmitted p)) x r (started_step says side config own_id st (PayloadSubmitted p) g.0 t s g.1) (ordered_step says side config own_id h st (PayloadSubmitted p) g.0 t r s o g.1) (same_records says side config own_id st (PayloadSubmitted p) g.0 refl g.1 a) g.2 f z l
legal_steps says side config own_id (ExchangeBegun cause i ∷ es) h st st' t x r s o a g f z l = legal_steps says side config own_id es h g.0 st' (trace_after t (ExchangeBegun cause i)) x r (started_step says side config own_id st (ExchangeBegun cause i) g.0 t s g.1) (ordered_step says side config own_id h st (ExchangeBegun cause i) g.0 t r s o g.1) (same_records says side config own_id st (ExchangeBegun cause i) g.0 refl g.1 a) g.2 f z l
legal_steps says side config own_id (AnswerSent i q ∷ es) h st st' t x r s o a g f z l = legal_steps says side config own_id es h g.0 st' (trace_after t (AnswerSent i q)) x r (started_step says side config own_id st (AnswerSent i q) g.0 t s g.1) (ordered_step says side config own_id h st (AnswerSent i q) g.0 t r s o g.1) (same_records says side config own_id st (AnswerSent i q) g.0 refl g.1 a) g.2 f z l
legal_steps says side config own_id (PayloadSent i ∷ es) h st st' t x r s o a g f z l = legal_steps says side config own_id es h g.0 st' (trace_after t (PayloadSent i)) x r (started_step says side config own_id st (PayloadSent i) g.0 t s g.1) (ordered_step says side config own_id h st (PayloadSent i) g.0 t r s o g.1) (same_records says side config own_id st (PayloadSent i) g.0 refl g.1 a) g.2 f z l
legal_steps says side config own_id (MessageTaken i ∷ es) h st st' t x r s o a g f z l = legal_on says side config own_id h st (MessageTaken i) es _ _ refl (legal_steps says side config own_id es (h ++ i ∷ []) g.0 st' (trace_after t (MessageTaken i)) x r (started_step says side config own_id st (MessageTaken i) g.0 t s g.1) (ordered_step says side config own_id h st (MessageTaken i) g.0 t r s o g.1) (same_records says side config own_id st (MessageTaken i) g.0 refl g.1 a) g.2 f z (few_on h (MessageTaken i) es refl l))
legal_steps says side config own_id (GuessDropped i ∷ es) h st st' t x r s o a g f z l = legal_on says side config own_id h st (GuessDropped i) es _ _ refl (legal_steps says side config own_id es (h ++ i ∷ []) g.0 st' (trace_after t (GuessDropped i)) x r (started_step says side config own_id st (GuessDropped i) g.0 t s g.1) (ordered_step says side config own_id h st (GuessDropped i) g.0 t r s o g.1) (same_records says side config own_id st (GuessDropped i) g.0 refl g.1 a) g.2 f z (few_on h (GuessDropped i) es refl l))
legal_steps says side config own_id (PayloadDelivered i ∷ es) h st st' t x r s o a g f z l = legal_on says side config own_id h st (PayloadDelivered i) es _ _ refl (legal_steps says side config own_id es (h ++ i ∷ []) g.0 st' (trace_after t (PayloadDelivered i)) x r (started_step says side config own_id st (PayloadDelivered i) g.0 t s g.1) (ordered_step says side config own_id h st (PayloadDelivered i) g.0 t r s o g.1) (same_records says side config own_id st (PayloadDelivered i) g.0 refl g.1 a) g.2 f z (few_on h (PayloadDelivered i) es refl l))
legal_steps says side config own_id (PacketDropped i ∷ es) h st st' t x r s o a g f z l = legal_on says side config own_id h st (PacketDropped i) es _ _ refl (legal_steps says side config own_id es (h ++ i ∷ []) g.0 st' (trace_after t (PacketDropped i)) x r (started_step says side config own_id st (PacketDropped i) g.0 t s g.1) (ordered_step says side config own_id h st (PacketDropped i) g.0 t r s o g.1) (same_records says side config own_id st (PacketDropped i) g.0 refl g.1 a) g.2 f z (few_on h (PacketDropped i) es refl l))

-- A side whose first exchange is strict and finished, and which handled fewer than 2^32 packets up to its end, read a
-- legal order.
pub legal_order : (says : Says) (side : Side) (config : Config) (own_id : List ℕ) (log : List Event) (st : SideState) (x : FinishedExchange) → ReadsUnmarked side config → Steps says side config own_id first_state log st → slice_get (recorded log) 0 ≡ Some x → x.names.strict_kex ≡ true → length (first_epoch log) < 2 ^ 32 → LegalOrder side (is_gex x.names.kex) x.names.guessed_ignored (map type_of (first_epoch log))
legal_order says side config own_id log st x r g f z l = legal_steps says side config own_id log [] first_state st no_trace x r started_first (ordered_first side) refl g f z l
