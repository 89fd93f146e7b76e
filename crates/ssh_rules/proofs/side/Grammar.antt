-- What a side writes stands in blocks of messages, with payloads between them.
use Rattle.std.proofs.Common.{◌≡◌, ℕ, suc, List, [], ◌∷◌, ◌++◌, length, map, drop, refl, sym, ◌∙◌, ap, subst, arith, Option, Some, None, Bool, true, false, if◌then◌else◌, ◌⊎◌, inl, inr, length-append, append_assoc, append-nil}
use Rattle.std.specs.Prelude.{is_some}
use Rattle.ssh_packet.specs.Sealing.{Item}
use Rattle.ssh_packet.specs.Stream.{message_type}
use Rattle.ssh_wire.specs.declared.side.Side.{Side}
use Rattle.ssh_wire.specs.declared.side.Side.TheVariants.{Client, Server}
use Rattle.ssh_kex.specs.declared.config.Config.{Config}
use Rattle.ssh_kex.specs.declared.exchange.FinishedExchange.{FinishedExchange}
use Rattle.ssh_kex.specs.declared.exchange.ServerHost.{ServerHost}
use Rattle.ssh_kex.specs.Messages.{is_gex, newkeys}
use Rattle.ssh_negotiate.specs.Advertised.{kexinit}
use Rattle.ssh_kex.specs.Setting.{Says, Setting, Opened, offers_of}
use Rattle.ssh_kex.specs.Stages.{Stage, Created, AwaitsGroup, AwaitsReply, AwaitsRequest, AwaitsValue, AwaitsNewkeys}
use Rattle.ssh_rules.specs.MessageTypes.{type_of, is_payload_type, order}
use Rattle.ssh_rules.specs.Wire.{InBlocks}
use Rattle.ssh_rules.specs.Machine.{Where, Silent, Outside, Inside, SideState, setting, Event, IdHeard, PayloadSubmitted, ExchangeBegun, AnswerSent, PayloadSent, MessageTaken, GuessDropped, PayloadDelivered, PacketDropped, ExchangeFinished, Step, Steps, first_state, names_now}
use Rattle.ssh_kex.specs.declared.exchange.Exchange.{Exchange}
use Rattle.ssh_rules.specs.Made.{MadeBy}
use Rattle.ssh_rules.proofs.side.StageFits.{Trace, no_trace, trace_after, Fits, FitsStage, FitsWhere, OpenedBy}
use Rattle.ssh_rules.specs.Log.{wrote}
use Rattle.ssh_rules.proofs.side.StageSteps.{setting_side}
use Rattle.ssh_rules.proofs.side.Places.{HeldOk}
use Rattle.ssh_rules.proofs.side.LedgerSteps.{Tidy, tidy_step, may_closed}
use Rattle.ssh_rules.proofs.side.Accounts.{more_wrote}
use Rattle.ssh_rules.specs.Snapshots.{KindIs}
use Rattle.ssh_kex.specs.declared.exchange.GexChosen.{GexChosen}
use Rattle.ssh_rules.proofs.side.OneMessage.{Spoken, spoken, client_spoken, server_spoken}
use Rattle.ssh_rules.proofs.side.Ending.{LastIn}

-- from a place in the grammar to another
abbrev pub InBlocksTo : Side → (ℕ → Bool) → ℕ → List ℕ → List Item → ℕ → List ℕ → Type 0
InBlocksTo side kind k due [] k' due' = (k ≡ k') × (due ≡ due')
InBlocksTo side kind k (t ∷ due) (i ∷ items) k' due' = (type_of i ≡ t) × InBlocksTo side kind k due items k' due'
InBlocksTo side kind k [] (i ∷ items) k' due' = ((is_payload_type (type_of i) ≡ true) × InBlocksTo side kind k [] items k' due') ⊎ ((type_of i ≡ 20) × InBlocksTo side kind (suc k) (drop 1 (order side (kind k))) items k' due')

pub blocks_are : (side : Side) (kind : ℕ → Bool) (k : ℕ) (due : List ℕ) (items : List Item) (k' : ℕ) (due' : List ℕ) → InBlocksTo side kind k due items k' due' → InBlocks side kind k due items
blocks_are side kind k due [] k' due' h = tt
blocks_are side kind k (t ∷ due) (i ∷ items) k' due' h = (h.0, blocks_are side kind k due items k' due' h.1)
blocks_are side kind k [] (i ∷ items) k' due' (inl h) = inl (h.0, blocks_are side kind k [] items k' due' h.1)
blocks_are side kind k [] (i ∷ items) k' due' (inr h) = inr (h.0, blocks_are side kind (suc k) (drop 1 (order side (kind k))) items k' due' h.1)

blocks_snoc : (side : Side) (kind : ℕ → Bool) (k : ℕ) (due : List ℕ) (w : List Item) (k' : ℕ) (due' : List ℕ) (i : Item) (k'' : ℕ) (due'' : List ℕ) → InBlocksTo side kind k due w k' due' → InBlocksTo side kind k' due' (i ∷ []) k'' due'' → InBlocksTo side kind k due (w ++ i ∷ []) k'' due''
blocks_snoc side kind k due [] k' due' i k'' due'' h g = subst (λ d. InBlocksTo side kind k d (i ∷ []) k'' due'') (sym h.1) (subst (λ n. InBlocksTo side kind n due' (i ∷ []) k'' due'') (sym h.0) g)
blocks_snoc side kind k (t ∷ due) (j ∷ w) k' due' i k'' due'' h g = (h.0, blocks_snoc side kind k due w k' due' i k'' due'' h.1 g)
blocks_snoc side kind k [] (j ∷ w) k' due' i k'' due'' (inl h) g = inl (h.0, blocks_snoc side kind k [] w k' due' i k'' due'' h.1 g)
blocks_snoc side kind k [] (j ∷ w) k' due' i k'' due'' (inr h) g = inr (h.0, blocks_snoc side kind (suc k) (drop 1 (order side (kind k))) w k' due' i k'' due'' h.1 g)

-- ---- the messages of a stage, by their types

types : List (List ℕ) → List ℕ
types ms = map message_type ms

-- these messages are the first of the order
abbrev pub Begins : Side → Bool → List (List ℕ) → Type 0
Begins side kind ms = (rest : List ℕ) × (map message_type ms ++ rest ≡ order side kind)

begins_at : (side s_side : Side) (kind k : Bool) (ms o : List (List ℕ)) → s_side ≡ side → k ≡ kind → ms ≡ o → Begins side k o → Begins s_side kind ms
begins_at side s_side kind k ms o e f g h = subst (λ w. Begins w kind ms) (sym e) (subst (λ b. Begins side b ms) f (subst (Begins side k) (sym g) h))

kexinit_type : (side : Side) (config : Config) (cookie p : List ℕ) → p ≡ kexinit (offers_of side config) cookie → message_type p ≡ 20
unfolding kexinit
kexinit_type side config cookie p e = ap message_type e

two : (a b : List ℕ) (ta : ℕ) (rest : List ℕ) → a ≡ b → rest ≡ rest → a ≡ b
two a b ta rest e f = e

begins_one : (side : Side) (kind : Bool) (p : List ℕ) → message_type p ≡ 20 → Begins side kind (p ∷ [])
begins_one Client true p e = (34 ∷ 32 ∷ 21 ∷ [], ap (λ t. t ∷ 34 ∷ 32 ∷ 21 ∷ []) e)
begins_one Client false p e = (30 ∷ 21 ∷ [], ap (λ t. t ∷ 30 ∷ 21 ∷ []) e)
begins_one Server true p e = (31 ∷ 33 ∷ 21 ∷ [], ap (λ t. t ∷ 31 ∷ 33 ∷ 21 ∷ []) e)
begins_one Server false p e = (31 ∷ 21 ∷ [], ap (λ t. t ∷ 31 ∷ 21 ∷ []) e)

opened_type : (says : Says) (s : Setting) (o : Opened) → OpenedBy says s o → message_type o.own_kexinit ≡ 20
opened_type says s o b = kexinit_type s.side s.config b.cookie o.own_kexinit b.own

begins_client : (kind : Bool) (t : Spoken) (group : Option GexChosen) → message_type t.client_kexinit ≡ 20 → is_some group ≡ kind → Begins Client kind (client_spoken t group)
begins_client kind t None e k = subst (λ b. Begins Client b (client_spoken t None)) k ([], ap (λ q. q ∷ 30 ∷ 21 ∷ []) e)
begins_client kind t (Some g) e k = subst (λ b. Begins Client b (client_spoken t (Some g))) k ([], ap (λ q. q ∷ 34 ∷ 32 ∷ 21 ∷ []) e)

begins_server : (kind : Bool) (t : Spoken) (group : Option GexChosen) → message_type t.server_kexinit ≡ 20 → is_some group ≡ kind → Begins Server kind (server_spoken t group)
begins_server kind t None e k = subst (λ b. Begins Server b (server_spoken t None)) k ([], ap (λ q. q ∷ 31 ∷ 21 ∷ []) e)
begins_server kind t (Some g) e k = subst (λ b. Begins Server b (server_spoken t (Some g))) k ([], ap (λ q. q ∷ 31 ∷ 33 ∷ 21 ∷ []) e)

begins_made : (side : Side) (says : Says) (s : Setting) (own theirs : List (List ℕ)) (exchange : Exchange) (x : FinishedExchange) (host : Option ServerHost) (kind : Bool) → is_gex x.names.kex ≡ kind → MadeBy side says s own theirs exchange x host → Begins side kind own
begins_made Client says s own theirs exchange x host kind k m =
    begins_at Client Client kind kind own _ refl refl m.own_is (begins_client kind (spoken exchange m.host m.signature) exchange.gex (kexinit_type Client s.config m.cookie (spoken exchange m.host m.signature).client_kexinit m.kexinit_is) (sym m.kind ∙ (ap (λ (y : FinishedExchange). is_gex y.names.kex) (sym m.made) ∙ k)))
begins_made Server says s own theirs exchange x host kind k m =
    begins_at Server Server kind kind own _ refl refl m.own_is (begins_server kind (spoken exchange m.shown.blob m.signature) exchange.gex (kexinit_type Server s.config m.cookie (spoken exchange m.shown.blob m.signature).server_kexinit m.kexinit_is) (sym m.kind ∙ (ap (λ (y : FinishedExchange). is_gex y.names.kex) (sym m.made) ∙ k)))

pub begins_stage : (says : Says) (s : Setting) (stage : Stage) (own theirs : List (List ℕ)) (kind : Bool) → KindIs kind (names_now (Inside stage)) → FitsStage says s stage own theirs → Begins s.side kind own
begins_stage says s (Created k) own theirs kind q f = begins_at s.side s.side kind kind own _ refl refl f.own_is (begins_one s.side kind k (kexinit_type s.side s.config f.cookie k f.kexinit_is))
begins_stage says s (AwaitsGroup o) own theirs kind q f = begins_at Client s.side kind true own _ f.client (sym f.kind ∙ q) f.own_is (32 ∷ 21 ∷ [], ap (λ t. t ∷ 34 ∷ 32 ∷ 21 ∷ []) (opened_type says s o f.opened))
begins_stage says s (AwaitsReply o None local public) own theirs kind q f = begins_at Client s.side kind false own _ f.client (sym f.kind ∙ q) f.own_is (21 ∷ [], ap (λ t. t ∷ 30 ∷ 21 ∷ []) (opened_type says s o f.opened))
begins_stage says s (AwaitsReply o (Some g) local public) own theirs kind q f = begins_at Client s.side kind true own _ f.client (sym f.kind ∙ q) f.own_is (21 ∷ [], ap (λ t. t ∷ 34 ∷ 32 ∷ 21 ∷ []) (opened_type says s o f.opened))
begins_stage says s (AwaitsRequest o) own theirs kind q f = begins_at Server s.side kind true own _ f.server (sym f.kind ∙ q) f.own_is (31 ∷ 33 ∷ 21 ∷ [], ap (λ t. t ∷ 31 ∷ 33 ∷ 21 ∷ []) (opened_type says s o f.opened))
begins_stage says s (AwaitsValue o None) own theirs kind q f = begins_at Server s.side kind false own _ f.server (sym f.kind ∙ q) f.own_is (31 ∷ 21 ∷ [], ap (λ t. t ∷ 31 ∷ 21 ∷ []) (opened_type says s o f.opened))
begins_stage says s (AwaitsValue o (Some g)) own theirs kind q f = begins_at Server s.side kind true own _ f.server (sym f.kind ∙ q) f.own_is (33 ∷ 21 ∷ [], ap (λ t. t ∷ 31 ∷ 33 ∷ 21 ∷ []) (opened_type says s o f.opened))
begins_stage says s (AwaitsNewkeys exchange x host) own theirs kind q f = begins_made s.side says s own (theirs ++ newkeys ∷ []) exchange x host kind q f

-- ---- where a side stands in the grammar

abbrev pub due_at : Side → (ℕ → Bool) → Where → ℕ → ℕ → List ℕ
due_at side kind Silent n m = order side (kind 0)
due_at side kind Outside n m = []
due_at side kind (Inside stage) n m = drop m (order side (kind n))

abbrev pub next_block : Where → ℕ → ℕ
next_block Silent n = 1
next_block Outside n = n
next_block (Inside stage) n = suc n

abbrev pub Written : Side → (ℕ → Bool) → List Item → SideState → Trace → Type 0
Written side kind w st t = InBlocksTo side kind 1 (order side (kind 0)) w (next_block st.stands (length st.records)) (due_at side kind st.stands (length st.records) (length t.own))

-- the exchange that is open is of the kind that is said
abbrev pub KindKnown : (ℕ → Bool) → SideState → Type 0
KindKnown kind st = KindIs (kind (length st.records)) (names_now st.stands)

drop_map : (ms : List (List ℕ)) (p : List ℕ) (more : List (List ℕ)) (rest o : List ℕ) → map message_type (ms ++ p ∷ more) ++ rest ≡ o → drop (length ms) o ≡ message_type p ∷ drop (length (ms ++ p ∷ [])) o
drop_map [] p more rest [] e = cc
drop_map [] p more rest (x ∷ o) e = let h : message_type p ≡ x = cc in ap (λ q. q ∷ o) (sym h)
drop_map (m ∷ ms) p more rest [] e = cc
drop_map (m ∷ ms) p more rest (x ∷ o) e = let t : map message_type (ms ++ p ∷ more) ++ rest ≡ o = cc in drop_map ms p more rest o t

head_order : (side : Side) (kind : Bool) → order side kind ≡ 20 ∷ drop 1 (order side kind)
head_order Client true = refl
head_order Client false = refl
head_order Server true = refl
head_order Server false = refl

all_types : (ms : List (List ℕ)) (rest o : List ℕ) → map message_type ms ++ rest ≡ o → length ms ≡ length o → drop (length ms) o ≡ []
all_types [] rest [] e h = refl
all_types [] rest (x ∷ o) e h = absurd (omega (arith, h))
all_types (m ∷ ms) rest [] e h = absurd (omega (arith, h))
all_types (m ∷ ms) rest (x ∷ o) e h = let t : map message_type ms ++ rest ≡ o = cc in all_types ms rest o t (omega (arith, h))

written_at : (side : Side) (kind : ℕ → Bool) (w : List Item) (m st' : SideState) (t : Trace) → st' ≡ m → Written side kind w m t → Written side kind w st' t
written_at side kind w m st' t e h = subst (λ s. Written side kind w s t) (sym e) h

one_item : (side : Side) (kind : ℕ → Bool) (k : ℕ) (d : List ℕ) (t : ℕ) (due : List ℕ) (i : Item) → d ≡ t ∷ due → type_of i ≡ t → InBlocksTo side kind k d (i ∷ []) k due
one_item side kind k d t due i e f = subst (λ x. InBlocksTo side kind k x (i ∷ []) k due) (sym e) (f, (refl, refl))

pub kexinit_item : (side : Side) (config : Config) (cookie : List ℕ) (i : Item) → i.payload ≡ kexinit (offers_of side config) cookie → type_of i ≡ 20
kexinit_item side config cookie i e = kexinit_type side config cookie i.payload e

opens_written : (side : Side) (kind : ℕ → Bool) (w : List Item) (stands : Where) (n m : ℕ) (i : Item) → (stands ≡ Outside) ⊎ (stands ≡ Silent) → (stands ≡ Silent → n ≡ 0) → type_of i ≡ 20 → InBlocksTo side kind 1 (order side (kind 0)) w (next_block stands n) (due_at side kind stands n m) → InBlocksTo side kind 1 (order side (kind 0)) (w ++ i ∷ []) (suc n) (drop 1 (order side (kind n)))
opens_written side kind w stands n m i (inl e) z ty h =
    blocks_snoc side kind 1 (order side (kind 0)) w n [] i (suc n) (drop 1 (order side (kind n))) (subst (λ s. InBlocksTo side kind 1 (order side (kind 0)) w (next_block s n) (due_at side kind s n m)) e h) (inr (ty, (refl, refl)))
opens_written side kind w stands n m i (inr e) z ty h =
    let at : n ≡ 0 = z e in
    let one = blocks_snoc side kind 1 (order side (kind 0)) w 1 (order side (kind 0)) i 1 (drop 1 (order side (kind 0))) (subst (λ s. InBlocksTo side kind 1 (order side (kind 0)) w (next_block s n) (due_at side kind s n m)) e h) (one_item side kind 1 (order side (kind 0)) 20 (drop 1 (order side (kind 0))) i (head_order side (kind 0)) ty) in
    subst (λ q. InBlocksTo side kind 1 (order side (kind 0)) (w ++ i ∷ []) (suc q) (drop 1 (order side (kind q)))) (sym at) one

answer_written : (says : Says) (side : Side) (config : Config) (own_id : List ℕ) (kind : ℕ → Bool) (w : List Item) (st : SideState) (t : Trace) (i : Item) (more : List (List ℕ)) (stands : Where) → st.stands ≡ stands → st.owed ≡ i.payload ∷ more → Fits says side config own_id st t → KindKnown kind st → Written side kind w st t → InBlocksTo side kind 1 (order side (kind 0)) (w ++ i ∷ []) (next_block stands (length st.records)) (due_at side kind stands (length st.records) (length (t.own ++ i.payload ∷ [])))
answer_written says side config own_id kind w st t i more Silent e o f k h =
    absurd (let g = subst (λ x. FitsWhere says (setting side config own_id st) x (t.own ++ st.owed) t.theirs) e f in
    let l : length (t.own ++ st.owed) ≡ 0 = ap length g.own_is in
    let m : length st.owed ≡ suc (length more) = ap length o in
    omega (arith, length-append t.own st.owed, l, m))
answer_written says side config own_id kind w st t i more Outside e o f k h =
    absurd (let g = subst (λ x. FitsWhere says (setting side config own_id st) x (t.own ++ st.owed) t.theirs) e f in
    let l : length (t.own ++ st.owed) ≡ 0 = ap length g.own_is in
    let m : length st.owed ≡ suc (length more) = ap length o in
    omega (arith, length-append t.own st.owed, l, m))
answer_written says side config own_id kind w st t i more (Inside stage) e o f k h =
    let g : FitsStage says (setting side config own_id st) stage (t.own ++ i.payload ∷ more) t.theirs = subst (λ x. FitsStage says (setting side config own_id st) stage (t.own ++ x) t.theirs) o (subst (λ x. FitsWhere says (setting side config own_id st) x (t.own ++ st.owed) t.theirs) e f) in
    let b : Begins side (kind (length st.records)) (t.own ++ i.payload ∷ more) = subst (λ q. Begins q (kind (length st.records)) (t.own ++ i.payload ∷ more)) (setting_side side config own_id st) (begins_stage says (setting side config own_id st) stage _ t.theirs (kind (length st.records)) (subst (λ x. KindIs (kind (length st.records)) (names_now x)) e k) g) in
    let d = drop_map t.own i.payload more b.0 (order side (kind (length st.records))) b.1 in
    blocks_snoc side kind 1 (order side (kind 0)) w (suc (length st.records)) (drop (length t.own) (order side (kind (length st.records)))) i (suc (length st.records)) (drop (length (t.own ++ i.payload ∷ [])) (order side (kind (length st.records))))
    (subst (λ s. InBlocksTo side kind 1 (order side (kind 0)) w (next_block s (length st.records)) (due_at side kind s (length st.records) (length t.own))) e h)
    (one_item side kind (suc (length st.records)) _ (message_type i.payload) _ i d refl)

-- the block of a stage that awaits the other's NEWKEYS alone is whole
finish_written : (says : Says) (side : Side) (config : Config) (own_id : List ℕ) (kind : ℕ → Bool) (st : SideState) (t : Trace) (stage : Stage) (payload : List ℕ) (x : FinishedExchange) → st.stands ≡ Inside stage → st.owed ≡ [] → LastIn says stage payload x → Fits says side config own_id st t → KindKnown kind st → drop (length t.own) (order side (kind (length st.records))) ≡ []
finish_written says side config own_id kind st t stage payload x e o z f k = whole stage z (Rattle.ssh_rules.proofs.side.StageSteps.at_stage says side config own_id st t stage e o f) (subst (λ w. KindIs (kind (length st.records)) (names_now w)) e k) where
  lengths : (sd : Side) (kn : Bool) → length (order sd kn) ≡ (if kn then 4 else 3)
  lengths Client true = refl
  lengths Client false = refl
  lengths Server true = refl
  lengths Server false = refl

  whole : (stage : Stage) → LastIn says stage payload x → FitsStage says (setting side config own_id st) stage t.own t.theirs → KindIs (kind (length st.records)) (names_now (Inside stage)) → drop (length t.own) (order side (kind (length st.records))) ≡ []
  whole (AwaitsNewkeys exchange made host) z g q =
      let s = setting side config own_id st in
      let b = begins_stage says s (AwaitsNewkeys exchange made host) t.own t.theirs (kind (length st.records)) q g in
      let full = Rattle.ssh_rules.proofs.side.Prompt.full_made s.side says s t.own (t.theirs ++ newkeys ∷ []) exchange made host (kind (length st.records)) q g in
      let sd = setting_side side config own_id st in
      let b' = subst (λ w. Begins w (kind (length st.records)) t.own) sd b in
      all_types t.own b'.0 (order side (kind (length st.records))) b'.1 (full.own_is ∙ sym (lengths side (kind (length st.records))))
  whole (Created own) z g q = absurd z
  whole (AwaitsGroup o) z g q = absurd z
  whole (AwaitsReply o gr l p) z g q = absurd z
  whole (AwaitsRequest o) z g q = absurd z
  whole (AwaitsValue o gr) z g q = absurd z

pub written_step : (says : Says) (side : Side) (config : Config) (own_id : List ℕ) (kind : ℕ → Bool) (w : List Item) (st : SideState) (e : Event) (st' : SideState) (t : Trace) → Tidy says side config own_id st t → (st.stands ≡ Silent → st.records ≡ []) → KindKnown kind st → Written side kind w st t → Step says side config own_id st e st' → Written side kind (more_wrote w e) st' (trace_after t e)
written_step says side config own_id kind w st (IdHeard id) st' t y z k h g = written_at side kind w _ st' t g.becomes (subst (λ s. InBlocksTo side kind 1 (order side (kind 0)) w (next_block s (length st.records)) (due_at side kind s (length st.records) (length t.own))) (g.silent ∙ sym g.silent) h)
written_step says side config own_id kind w st (PayloadSubmitted p) st' t y z k h g = written_at side kind w _ st' t g.becomes h
written_step says side config own_id kind w st (ExchangeBegun cause i) st' t y z k h g =
    written_at side kind (w ++ i ∷ []) _ st' (trace_after t (ExchangeBegun cause i)) g.becomes (opens_written side kind w st.stands (length st.records) (length t.own) i (may_closed config st cause g.may) (λ e. ap length (z e)) (kexinit_item side config g.cookie i g.payload_is) h)
written_step says side config own_id kind w st (AnswerSent i q) st' t y z k h g =
    written_at side kind (w ++ i ∷ []) _ st' (trace_after t (AnswerSent i q)) g.becomes (answer_written says side config own_id kind w st t i g.more st.stands refl g.owes y.fits k h)
written_step says side config own_id kind w st (PayloadSent i) st' t y z k h g =
    let p : is_payload_type (type_of i) ≡ true = (subst HeldOk g.holds y.held).0 in
    written_at side kind (w ++ i ∷ []) _ st' t g.becomes (subst (λ s. InBlocksTo side kind 1 (order side (kind 0)) (w ++ i ∷ []) (next_block s (length st.records)) (due_at side kind s (length st.records) (length t.own))) (sym g.outside)
    (blocks_snoc side kind 1 (order side (kind 0)) w (length st.records) [] i (length st.records) [] (subst (λ s. InBlocksTo side kind 1 (order side (kind 0)) w (next_block s (length st.records)) (due_at side kind s (length st.records) (length t.own))) g.outside h) (inl (p, (refl, refl)))))
written_step says side config own_id kind w st (MessageTaken i) st' t y z k h g = written_at side kind w _ st' (trace_after t (MessageTaken i)) g.becomes (subst (λ s. InBlocksTo side kind 1 (order side (kind 0)) w (next_block s (length st.records)) (due_at side kind s (length st.records) (length t.own))) g.inside h)
written_step says side config own_id kind w st (GuessDropped i) st' t y z k h g = written_at side kind w _ st' t g.becomes (subst (λ s. InBlocksTo side kind 1 (order side (kind 0)) w (next_block s (length st.records)) (due_at side kind s (length st.records) (length t.own))) g.inside h)
written_step says side config own_id kind w st (PayloadDelivered i) st' t y z k h g = written_at side kind w _ st' t g.becomes h
written_step says side config own_id kind w st (PacketDropped i) st' t y z k h g = written_at side kind w _ st' t g.becomes h
written_step says side config own_id kind w st (ExchangeFinished i x) st' t y z k h g =
    let d = finish_written says side config own_id kind st t (AwaitsNewkeys g.exchange x g.host) i.payload x g.inside g.owes (g.payload_is, refl, g.trusted) y.fits k in
    let at = subst (λ s. InBlocksTo side kind 1 (order side (kind 0)) w (next_block s (length st.records)) (due_at side kind s (length st.records) (length t.own))) g.inside h in
    let one = subst (λ q. InBlocksTo side kind 1 (order side (kind 0)) w (suc (length st.records)) q) d at in
    let up : suc (length st.records) ≡ length (st.records ++ x ∷ []) = omega (arith, length-append st.records (x ∷ [])) in
    written_at side kind w _ st' no_trace g.becomes (subst (λ n. InBlocksTo side kind 1 (order side (kind 0)) w n []) up one)

-- a condition that holds in each state of a run
abbrev pub Along : (Q : SideState → Type 0) (says : Says) (side : Side) (config : Config) (own_id : List ℕ) (log : List Event) (st st' : SideState) → Steps says side config own_id st log st' → Type 0
Along Q says side config own_id [] st st' h = Q st
Along Q says side config own_id (e ∷ es) st st' h = Q st × Along Q says side config own_id es h.0 st' h.2

pub wrote_on : (w : List Item) (e : Event) (es : List Event) → more_wrote w e ++ wrote es ≡ w ++ wrote (e ∷ es)
wrote_on w (ExchangeBegun cause i) es = append_assoc w (i ∷ []) (wrote es)
wrote_on w (AnswerSent i q) es = append_assoc w (i ∷ []) (wrote es)
wrote_on w (PayloadSent i) es = append_assoc w (i ∷ []) (wrote es)
wrote_on w (IdHeard id) es = refl
wrote_on w (PayloadSubmitted p) es = refl
wrote_on w (MessageTaken i) es = refl
wrote_on w (GuessDropped i) es = refl
wrote_on w (PayloadDelivered i) es = refl
wrote_on w (PacketDropped i) es = refl
wrote_on w (ExchangeFinished i x) es = refl

silent_step : (says : Says) (side : Side) (config : Config) (own_id : List ℕ) (st : SideState) (e : Event) (st' : SideState) → (st.stands ≡ Silent → st.records ≡ []) → Step says side config own_id st e st' → st'.stands ≡ Silent → st'.records ≡ []
silent_step says side config own_id st (IdHeard id) st' z h = subst (λ (m : SideState). m.stands ≡ Silent → m.records ≡ []) (sym h.becomes) z
silent_step says side config own_id st (PayloadSubmitted p) st' z h = subst (λ (m : SideState). m.stands ≡ Silent → m.records ≡ []) (sym h.becomes) z
silent_step says side config own_id st (ExchangeBegun cause i) st' z h = subst (λ (m : SideState). m.stands ≡ Silent → m.records ≡ []) (sym h.becomes) (λ e. cc)
silent_step says side config own_id st (AnswerSent i q) st' z h = subst (λ (m : SideState). m.stands ≡ Silent → m.records ≡ []) (sym h.becomes) z
silent_step says side config own_id st (PayloadSent i) st' z h = subst (λ (m : SideState). m.stands ≡ Silent → m.records ≡ []) (sym h.becomes) z
silent_step says side config own_id st (MessageTaken i) st' z h = subst (λ (m : SideState). m.stands ≡ Silent → m.records ≡ []) (sym h.becomes) (λ e. cc)
silent_step says side config own_id st (GuessDropped i) st' z h = subst (λ (m : SideState). m.stands ≡ Silent → m.records ≡ []) (sym h.becomes) (λ e. cc)
silent_step says side config own_id st (PayloadDelivered i) st' z h = subst (λ (m : SideState). m.stands ≡ Silent → m.records ≡ []) (sym h.becomes) z
silent_step says side config own_id st (PacketDropped i) st' z h = subst (λ (m : SideState). m.stands ≡ Silent → m.records ≡ []) (sym h.becomes) z
silent_step says side config own_id st (ExchangeFinished i x) st' z h = subst (λ (m : SideState). m.stands ≡ Silent → m.records ≡ []) (sym h.becomes) (λ e. cc)

pub written_steps : (says : Says) (side : Side) (config : Config) (own_id : List ℕ) (kind : ℕ → Bool) (log : List Event) (w : List Item) (st st' : SideState) (t : Trace) (h : Steps says side config own_id st log st') → Tidy says side config own_id st t → (st.stands ≡ Silent → st.records ≡ []) → Along (KindKnown kind) says side config own_id log st st' h → Written side kind w st t → Written side kind (w ++ wrote log) st' (Rattle.ssh_rules.proofs.side.Accounts.trace_of t log)
written_steps says side config own_id kind [] w st st' t h y z k g = subst (λ v. Written side kind v st' t) (sym (append-nil w)) (subst (λ s. Written side kind w s t) (sym h) g)
written_steps says side config own_id kind (e ∷ es) w st st' t h y z k g =
    let next = written_steps says side config own_id kind es (more_wrote w e) h.0 st' (trace_after t e) h.2 (tidy_step says side config own_id st e h.0 t y h.1) (silent_step says side config own_id st e h.0 z h.1) k.1 (written_step says side config own_id kind w st e h.0 t y z k.0 g h.1) in
    subst (λ v. Written side kind v st' (Rattle.ssh_rules.proofs.side.Accounts.trace_of t (e ∷ es))) (wrote_on w e es) next

-- A side's packets stand in blocks, where each exchange has the kind that is said of it.
pub grammar : (says : Says) (side : Side) (config : Config) (own_id : List ℕ) (kind : ℕ → Bool) (log : List Event) (st : SideState) (h : Steps says side config own_id first_state log st) → Along (KindKnown kind) says side config own_id log first_state st h → InBlocks side kind 1 (order side (kind 0)) (wrote log)
grammar says side config own_id kind log st h k =
    blocks_are side kind 1 (order side (kind 0)) (wrote log) _ _ (written_steps says side config own_id kind log [] first_state st no_trace h (Rattle.ssh_rules.proofs.side.LedgerSteps.tidy_first says side config own_id) (λ e. refl) k (refl, refl))
