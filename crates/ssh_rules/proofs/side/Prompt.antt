-- A side that owes nothing has written as many messages of the open exchange as are due.
use Rattle.std.proofs.Common.{◌≡◌, ℕ, zero, suc, ◌+◌, List, [], ◌∷◌, ◌++◌, length, refl, sym, ◌∙◌, ap, subst, arith, Option, Some, None, Bool, true, false, if◌then◌else◌, length-append}
use Rattle.std.specs.Prelude.{is_some}
use Rattle.ssh_wire.specs.declared.side.Side.{Side}
use Rattle.ssh_wire.specs.declared.side.Side.TheVariants.{Client, Server}
use Rattle.ssh_kex.specs.declared.config.Config.{Config}
use Rattle.ssh_kex.specs.declared.exchange.FinishedExchange.{FinishedExchange}
use Rattle.ssh_kex.specs.declared.exchange.ServerHost.{ServerHost}
use Rattle.ssh_kex.specs.Messages.{is_gex, newkeys}
use Rattle.ssh_kex.specs.Setting.{Says, Setting}
use Rattle.ssh_kex.specs.Stages.{Stage, Created, AwaitsGroup, AwaitsReply, AwaitsRequest, AwaitsValue, AwaitsNewkeys}
use Rattle.ssh_rules.specs.Marks.{due}
use Rattle.ssh_rules.specs.Machine.{Inside, SideState, setting, names_now}
use Rattle.ssh_kex.specs.declared.exchange.Exchange.{Exchange}
use Rattle.ssh_rules.specs.Made.{MadeBy}
use Rattle.ssh_rules.proofs.side.StageFits.{Trace, Fits, FitsStage}
use Rattle.ssh_rules.proofs.side.StageSteps.{at_stage, setting_side}
use Rattle.ssh_kex.specs.declared.exchange.GexChosen.{GexChosen}
use Rattle.ssh_rules.proofs.side.OneMessage.{Spoken, spoken, client_spoken, server_spoken}
use Rattle.ssh_rules.specs.Snapshots.{KindIs}

-- what the lists of a stage's messages count
pub record Due (side : Side) (kind : Bool) (own theirs : List (List ℕ)) : Type 0 where
  pub due_is : length own ≡ due side kind (length theirs)

due_of : (side : Side) (kind : Bool) (own theirs o t : List (List ℕ)) → own ≡ o → theirs ≡ t → length o ≡ due side kind (length t) → length own ≡ due side kind (length theirs)
due_of side kind own theirs o t e f h = ap length e ∙ (h ∙ ap (λ l. due side kind (length l)) (sym f))

at_kind : (side s_side : Side) (own theirs : List (List ℕ)) (k kind : Bool) → s_side ≡ side → k ≡ kind → length own ≡ due side k (length theirs) → length own ≡ due s_side kind (length theirs)
at_kind side s_side own theirs k kind e f h = h ∙ (ap (λ b. due side b (length theirs)) f ∙ ap (λ w. due w kind (length theirs)) (sym e))

one_first : (side : Side) (kind : Bool) → 1 ≡ due side kind 0
one_first Client kind = refl
one_first Server kind = refl

pub one_at : {A : Type 0} (xs ys : List A) (y : A) → xs ++ y ∷ [] ≡ ys → length xs + 1 ≡ length ys
one_at xs ys y e = sym (length-append xs (y ∷ [])) ∙ ap length e

client_due : (kind : Bool) (t : Spoken) (group : Option GexChosen) (own theirs : List (List ℕ)) → is_some group ≡ kind → own ≡ client_spoken t group → theirs ++ newkeys ∷ [] ≡ server_spoken t group → length own ≡ due Client kind (length theirs)
client_due kind t None own theirs k ow th = let l : length theirs ≡ 2 = omega (arith, one_at theirs _ newkeys th) in ap length ow ∙ (ap (λ n. due Client false n) (sym l) ∙ ap (λ b. due Client b (length theirs)) k)
client_due kind t (Some g) own theirs k ow th = let l : length theirs ≡ 3 = omega (arith, one_at theirs _ newkeys th) in ap length ow ∙ (ap (λ n. due Client true n) (sym l) ∙ ap (λ b. due Client b (length theirs)) k)

server_due : (kind : Bool) (t : Spoken) (group : Option GexChosen) (own theirs : List (List ℕ)) → is_some group ≡ kind → own ≡ server_spoken t group → theirs ++ newkeys ∷ [] ≡ client_spoken t group → length own ≡ due Server kind (length theirs)
server_due kind t None own theirs k ow th = let l : length theirs ≡ 2 = omega (arith, one_at theirs _ newkeys th) in ap length ow ∙ (ap (λ n. due Server false n) (sym l) ∙ ap (λ b. due Server b (length theirs)) k)
server_due kind t (Some g) own theirs k ow th = let l : length theirs ≡ 3 = omega (arith, one_at theirs _ newkeys th) in ap length ow ∙ (ap (λ n. due Server true n) (sym l) ∙ ap (λ b. due Server b (length theirs)) k)

made_due : (side : Side) (says : Says) (s : Setting) (own theirs : List (List ℕ)) (exchange : Exchange) (x : FinishedExchange) (host : Option ServerHost) (kind : Bool) → is_gex x.names.kex ≡ kind → MadeBy side says s own (theirs ++ newkeys ∷ []) exchange x host → length own ≡ due side kind (length theirs)
made_due Client says s own theirs exchange x host kind k m = client_due kind (spoken exchange m.host m.signature) exchange.gex own theirs (sym m.kind ∙ (ap (λ (y : FinishedExchange). is_gex y.names.kex) (sym m.made) ∙ k)) m.own_is m.theirs_is
made_due Server says s own theirs exchange x host kind k m = server_due kind (spoken exchange m.shown.blob m.signature) exchange.gex own theirs (sym m.kind ∙ (ap (λ (y : FinishedExchange). is_gex y.names.kex) (sym m.made) ∙ k)) m.own_is m.theirs_is

-- in each stage
pub due_stage : (says : Says) (s : Setting) (stage : Stage) (own theirs : List (List ℕ)) (kind : Bool) → KindIs kind (names_now (Inside stage)) → FitsStage says s stage own theirs → length own ≡ due s.side kind (length theirs)
due_stage says s (Created k) own theirs kind q f = due_of s.side kind own theirs _ _ f.own_is f.theirs_is (one_first s.side kind)
due_stage says s (AwaitsGroup o) own theirs kind q f = at_kind Client s.side own theirs true kind f.client (sym f.kind ∙ q) (due_of Client true own theirs _ _ f.own_is f.theirs_is refl)
due_stage says s (AwaitsReply o None local public) own theirs kind q f = at_kind Client s.side own theirs false kind f.client (sym f.kind ∙ q) (due_of Client false own theirs _ _ f.own_is f.theirs_is refl)
due_stage says s (AwaitsReply o (Some g) local public) own theirs kind q f = at_kind Client s.side own theirs true kind f.client (sym f.kind ∙ q) (due_of Client true own theirs _ _ f.own_is f.theirs_is refl)
due_stage says s (AwaitsRequest o) own theirs kind q f = at_kind Server s.side own theirs true kind f.server (sym f.kind ∙ q) (due_of Server true own theirs _ _ f.own_is f.theirs_is refl)
due_stage says s (AwaitsValue o None) own theirs kind q f = at_kind Server s.side own theirs false kind f.server (sym f.kind ∙ q) (due_of Server false own theirs _ _ f.own_is f.theirs_is refl)
due_stage says s (AwaitsValue o (Some g)) own theirs kind q f = at_kind Server s.side own theirs true kind f.server (sym f.kind ∙ q) (due_of Server true own theirs _ _ f.own_is f.theirs_is refl)
due_stage says s (AwaitsNewkeys exchange x host) own theirs kind q f = made_due s.side says s own theirs exchange x host kind q f

-- Where nothing is owed, the messages of the open exchange are as many as are due.
pub prompt_inside : (says : Says) (side : Side) (config : Config) (own_id : List ℕ) (st : SideState) (t : Trace) (stage : Stage) (kind : Bool) → Fits says side config own_id st t → st.stands ≡ Inside stage → st.owed ≡ [] → KindIs kind (names_now st.stands) → length t.own ≡ due side kind (length t.theirs)
prompt_inside says side config own_id st t stage kind f e o k =
    due_stage says (setting side config own_id st) stage t.own t.theirs kind (subst (λ w. KindIs kind (names_now w)) e k) (at_stage says side config own_id st t stage e o f)
    ∙ ap (λ w. due w kind (length t.theirs)) (setting_side side config own_id st)

-- a recorded exchange has all its messages, as many as are due
pub record Full (side : Side) (kind : Bool) (own theirs : List (List ℕ)) : Type 0 where
  pub own_is : length own ≡ (if kind then 4 else 3)
  pub theirs_is : length theirs ≡ (if kind then 4 else 3)
  pub due_is : length own ≡ due side kind (length theirs)

full_of : (side : Side) (kind : Bool) (own theirs : List (List ℕ)) → length own ≡ (if kind then 4 else 3) → length theirs ≡ (if kind then 4 else 3) → Full side kind own theirs
full_of Client true own theirs a b = record { own_is = a; theirs_is = b; due_is = a ∙ ap (due Client true) (sym b) }
full_of Client false own theirs a b = record { own_is = a; theirs_is = b; due_is = a ∙ ap (due Client false) (sym b) }
full_of Server true own theirs a b = record { own_is = a; theirs_is = b; due_is = a ∙ ap (due Server true) (sym b) }
full_of Server false own theirs a b = record { own_is = a; theirs_is = b; due_is = a ∙ ap (due Server false) (sym b) }

count_client : (kind : Bool) (t : Spoken) (group : Option GexChosen) → is_some group ≡ kind → length (client_spoken t group) ≡ (if kind then 4 else 3)
count_client kind t None k = ap (λ b. if b then 4 else 3) k
count_client kind t (Some g) k = ap (λ b. if b then 4 else 3) k

count_server : (kind : Bool) (t : Spoken) (group : Option GexChosen) → is_some group ≡ kind → length (server_spoken t group) ≡ (if kind then 4 else 3)
count_server kind t None k = ap (λ b. if b then 4 else 3) k
count_server kind t (Some g) k = ap (λ b. if b then 4 else 3) k

pub full_made : (side : Side) (says : Says) (s : Setting) (own theirs : List (List ℕ)) (exchange : Exchange) (x : FinishedExchange) (host : Option ServerHost) (kind : Bool) → is_gex x.names.kex ≡ kind → MadeBy side says s own theirs exchange x host → Full side kind own theirs
full_made Client says s own theirs exchange x host kind k m =
    let g = sym m.kind ∙ (ap (λ (y : FinishedExchange). is_gex y.names.kex) (sym m.made) ∙ k) in
    full_of Client kind own theirs (ap length m.own_is ∙ count_client kind (spoken exchange m.host m.signature) exchange.gex g) (ap length m.theirs_is ∙ count_server kind (spoken exchange m.host m.signature) exchange.gex g)
full_made Server says s own theirs exchange x host kind k m =
    let g = sym m.kind ∙ (ap (λ (y : FinishedExchange). is_gex y.names.kex) (sym m.made) ∙ k) in
    full_of Server kind own theirs (ap length m.own_is ∙ count_server kind (spoken exchange m.shown.blob m.signature) exchange.gex g) (ap length m.theirs_is ∙ count_client kind (spoken exchange m.shown.blob m.signature) exchange.gex g)

-- ---- two sides that have read all of each other

-- both numbers of messages are due for each other: then both blocks are whole
pub both_whole : (kind : Bool) (c s : ℕ) → c ≡ due Client kind s → s ≡ due Server kind c → c ≡ (if kind then 4 else 3)
both_whole false c zero e f = absurd (let g : 0 ≡ due Server false c = f in let h : c ≡ 1 = e in let i : due Server false c ≡ 1 = ap (due Server false) h in let j : 0 ≡ 1 = g ∙ i in cc)
both_whole false c (suc zero) e f = absurd (let h : c ≡ 2 = e in let i : due Server false c ≡ 3 = ap (due Server false) h in let j : 1 ≡ 3 = f ∙ i in cc)
both_whole false c (suc (suc zero)) e f = e
both_whole false c (suc (suc (suc n))) e f = e
both_whole true c zero e f = absurd (let h : c ≡ 1 = e in let i : due Server true c ≡ 1 = ap (due Server true) h in let j : 0 ≡ 1 = f ∙ i in cc)
both_whole true c (suc zero) e f = absurd (let h : c ≡ 2 = e in let i : due Server true c ≡ 2 = ap (due Server true) h in let j : 1 ≡ 2 = f ∙ i in cc)
both_whole true c (suc (suc zero)) e f = absurd (let h : c ≡ 3 = e in let i : due Server true c ≡ 4 = ap (due Server true) h in let j : 2 ≡ 4 = f ∙ i in cc)
both_whole true c (suc (suc (suc n))) e f = e
