-- The messages that a side writes have their form, of any run.
use Rattle.std.proofs.Common.{◌≡◌, ℕ, zero, suc, ◌+◌, ◌<◌, ◌≤◌, List, [], ◌∷◌, ◌++◌, length, take, replicate, slice_get, refl, sym, ◌∙◌, ap, subst, arith, Option, Some, None, Bool, true, false, if◌then◌else◌, ◌⊎◌, inl, inr, length-append, append_assoc, append-nil}
use Rattle.std.specs.Prelude.{is_some}
use Rattle.ssh_packet.specs.Sealing.{Item}
use Rattle.ssh_wire.specs.declared.side.Side.{Side}
use Rattle.ssh_wire.specs.declared.side.Side.TheVariants.{Client, Server}
use Rattle.ssh_negotiate.specs.Advertised.{kexinit}
use Rattle.ssh_negotiate.specs.declared.negotiation.Names.{Names}
use Rattle.ssh_kex.specs.Messages.{is_gex, newkeys, presented}
use Rattle.ssh_kex.specs.Setting.{Says, Setting, offers_of, held_names, behind_guess}
use Rattle.ssh_kex.specs.Stages.{Stage, Created, AwaitsGroup, AwaitsReply, AwaitsRequest, AwaitsValue, AwaitsNewkeys}
use Rattle.ssh_kex.specs.declared.config.Config.{Config}
use Rattle.ssh_kex.specs.declared.exchange.Exchange.{Exchange}
use Rattle.ssh_kex.specs.declared.exchange.FinishedExchange.{FinishedExchange}
use Rattle.ssh_kex.specs.declared.exchange.ServerHost.{ServerHost}
use Rattle.ssh_rules.specs.Attacked.{block_names, host_in, still_strict}
use Rattle.ssh_rules.specs.Fills.{Fills, messages}
use Rattle.ssh_rules.proofs.side.StageFits.{Trace, Fits, FitsStage, FitsWhere}
use Rattle.ssh_rules.specs.Headline.{blob_in}
use Rattle.ssh_rules.proofs.side.Ledgers.{setting_at}
use Rattle.ssh_rules.specs.Machine.{Where, Silent, Outside, Inside, SideState, setting, first_state, names_now}
use Rattle.ssh_rules.specs.Made.{MadeBy}
use Rattle.ssh_rules.proofs.pair.Awaited.{OwnForm, AsksFor}
use Rattle.ssh_rules.specs.ExchangeMessages.{messages_of, kexinit_of}
use Rattle.ssh_rules.specs.Wire.{HasForm, HasFront, exchange_block}
use Rattle.ssh_rules.proofs.side.Accounts.{Kept}
use Rattle.ssh_rules.proofs.side.Blocks.{block_above}
use Rattle.ssh_rules.proofs.side.StageSteps.{same_setting, setting_side}
use Rattle.ssh_rules.specs.Valid.{HasSizes}
use Rattle.ssh_rules.proofs.side.Forms.{made_form, own_form}
use Rattle.ssh_rules.proofs.side.Known.{client_first, server_first}
use Rattle.ssh_rules.proofs.side.LedgerSteps.{closed_trace}
use Rattle.ssh_rules.proofs.headline.KnownExchanges.{group_or, client_stands, server_stands}
use Rattle.ssh_rules.proofs.pair.NoGuess.{config_is}
use Rattle.ssh_rules.specs.Snapshots.{KindIs}
use Rattle.ssh_rules.proofs.headline.Reported.{named_client, server_block}
use Rattle.ssh_rules.proofs.pair.Settled.{below_get}
use Rattle.ssh_rules.proofs.side.OneMessage.{spoken}

-- ---- forms

abbrev own_value : Side → Exchange → List ℕ
own_value Client e = e.client_ephemeral
own_value Server e = e.server_ephemeral

abbrev fills_of : Side → Exchange → List ℕ → List ℕ → List ℕ → Fills
fills_of side e cookie host signature = record { cookie = cookie; group = group_or e.gex; host = host; value = own_value side e; signature = signature }

messages_stand : (side : Side) (config : Config) (e : Exchange) (host signature cookie : List ℕ) (kind : Bool) → is_some e.gex ≡ kind → kexinit_of side e ≡ kexinit (offers_of side config) cookie → AsksFor side config e.gex → messages_of side e host signature ≡ messages side config kind (fills_of side e cookie host signature)
messages_stand Client config e host signature cookie kind k f a = client_stands config e.gex cookie e.client_kex_init e.client_ephemeral host signature (group_or e.gex) kind (sym k) f a
messages_stand Server config e host signature cookie kind k f a = server_stands config e.gex cookie e.server_kex_init e.server_ephemeral host signature kind (sym k) f

form_of : (side : Side) (config : Config) (kind : Bool) (host : Option (List ℕ)) (own : List (List ℕ)) (f : OwnForm side config kind own) → (side ≡ Server → (if kind then 2 else 1) < length own → host ≡ Some f.host) → HasForm side config kind host own
form_of side config kind host own f p = record {
  fills = fills_of side f.exchange f.cookie f.host f.signature;
  front = subst (λ m. HasFront m own) (messages_stand side config f.exchange f.host f.signature f.cookie kind f.kind_is f.kexinit_is f.asks) f.front;
  cookie = f.cookie_length;
  presents = p;
}

-- a front of what has its form has it
front_form : (side : Side) (config : Config) (kind : Bool) (host : Option (List ℕ)) (own front : List (List ℕ)) → HasFront own front → HasForm side config kind host own → HasForm side config kind host front
front_form side config kind host own front s f = record {
  fills = f.fills;
  front = (s.0 ++ f.front.0, sym (append_assoc front s.0 f.front.0) ∙ (ap (λ x. x ++ f.front.0) s.1 ∙ f.front.1));
  cookie = f.cookie;
  presents = λ e l. f.presents e (let a = length-append front s.0 in let b : length (front ++ s.0) ≡ length own = ap length s.1 in omega (arith, a, b, l));
}

nothing_form : (side : Side) (config : Config) (kind : Bool) (host : Option (List ℕ)) → HasForm side config kind host []
nothing_form side config kind host = record {
  fills = record { cookie = replicate 16 0; group = record { prime = []; generator = [] }; host = []; value = []; signature = [] };
  front = (_, refl);
  cookie = refl;
  presents = λ e l. absurd (omega (arith, l));
}

at_form : (side : Side) (config : Config) (kind : Bool) (host : Option (List ℕ)) (own o : List (List ℕ)) → own ≡ o → HasForm side config kind host o → HasForm side config kind host own
at_form side config kind host own o e f = subst (HasForm side config kind host) (sym e) f

-- ---- of an exchange whose record is made

held_gex : (n : Names) → is_gex (held_names n).kex ≡ is_gex n.kex
held_gex n = by n.ignore_guessed where
  by : (b : Bool) → is_gex (let m : Names = if b then behind_guess n else n in m).kex ≡ is_gex n.kex
  by true = refl
  by false = refl

held_shown : (config : Config) (n : Names) → presented config.host (held_names n).host_key_is_certificate (held_names n).key ≡ presented config.host n.host_key_is_certificate n.key
held_shown config n = by n.ignore_guessed where
  by : (b : Bool) → presented config.host (let m : Names = if b then behind_guess n else n in m).host_key_is_certificate (let m : Names = if b then behind_guess n else n in m).key ≡ presented config.host n.host_key_is_certificate n.key
  by true = refl
  by false = refl

client_not_server : Client ≡ Server → ⊥
client_not_server e = cc

-- the names that were read, and the form under them
pub record MadeForm (side : Side) (config : Config) (strict : Bool) (own read : List (List ℕ)) : Type 0 where
  pub names : Names
  pub names_are : block_names side config strict read ≡ Some names
  pub form : HasForm side config (is_gex names.kex) (host_in side config (Some names)) own

made_has_form : (side : Side) (says : Says) (config : Config) (own_id : List ℕ) (heard : Option (List ℕ)) (before : List FinishedExchange) (own read : List (List ℕ)) (e : Exchange) (x : FinishedExchange) (h : Option ServerHost) → MadeBy side says (setting_at side config own_id heard before) own read e x h → MadeForm side config (still_strict before) own read
made_has_form Client says config own_id heard before own read e x h m =
    let q = named_client says config own_id heard before own read e x h m in
    let k : is_gex x.names.kex ≡ is_gex q.names.0.kex = ap (λ (n : Names). is_gex n.kex) q.names.2 ∙ held_gex q.names.0 in
    record {
      names = q.names.0;
      names_are = q.names.1;
      form = form_of Client config (is_gex q.names.0.kex) None own (made_form Client says (setting_at Client config own_id heard before) own read e x h (is_gex q.names.0.kex) k m) (λ s l. absurd (client_not_server s));
    }
made_has_form Server says config own_id heard before own read e x h m =
    let kind : is_gex m.read_names.kex ≡ is_some e.gex = sym (held_gex m.read_names) ∙ (ap (λ (n : Names). is_gex n.kex) (sym m.names_are) ∙ m.kind) in
    record {
      names = m.read_names;
      names_are = server_block says config own_id heard before own read e x h m;
      form = record {
        fills = fills_of Server e m.cookie m.shown.blob m.signature;
        front = ([], append-nil own ∙ (m.own_is ∙ server_stands config e.gex m.cookie e.server_kex_init e.server_ephemeral m.shown.blob m.signature (is_gex m.read_names.kex) kind m.kexinit_is));
        cookie = m.cookie_length;
        presents = λ s l. ap blob_in (sym (held_shown config m.read_names) ∙ (ap (λ (n : Names). presented config.host n.host_key_is_certificate n.key) (sym m.names_are) ∙ m.presents));
      };
    }

-- a kind and a host are those of the names that were read, where some were
abbrev pub AreOf : Side → Config → Bool → Option (List ℕ) → Option Names → Type 0
AreOf side config kind host names = (n : Names) → names ≡ Some n → (kind ≡ is_gex n.kex) × (host ≡ host_in side config (Some n))

of_names : (side : Side) (config : Config) (kind : Bool) (host : Option (List ℕ)) (n : Names) (own : List (List ℕ)) → (kind ≡ is_gex n.kex) × (host ≡ host_in side config (Some n)) → HasForm side config (is_gex n.kex) (host_in side config (Some n)) own → HasForm side config kind host own
of_names side config kind host n own e f = subst (λ b. HasForm side config b host own) (sym e.0) (subst (λ q. HasForm side config (is_gex n.kex) q own) (sym e.1) f)

-- ---- of an exchange that is open

few : (kind : Bool) (own : List (List ℕ)) → length own ≡ 1 → (if kind then 2 else 1) < length own → ⊥
few true own e l = omega (arith, e, l)
few false own e l = omega (arith, e, l)

few_gex : (kind : Bool) (own : List (List ℕ)) → kind ≡ true → length own ≡ 2 → (if kind then 2 else 1) < length own → ⊥
few_gex true own k e l = omega (arith, e, l)
few_gex false own k e l = cc

abbrev IsOpen : Stage → Type 0
IsOpen (Created own) = Unit {0}
IsOpen (AwaitsGroup o) = Unit {0}
IsOpen (AwaitsReply o gex local public) = Unit {0}
IsOpen (AwaitsRequest o) = Unit {0}
IsOpen (AwaitsValue o gex) = Unit {0}
IsOpen (AwaitsNewkeys exchange made host) = ⊥

sides : (s : Side) → s ≡ Client → s ≡ Server → ⊥
sides s e f = client_not_server (sym e ∙ f)

stage_form : (says : Says) (s : Setting) (stage : Stage) (own theirs : List (List ℕ)) (kind : Bool) (host : Option (List ℕ)) → IsOpen stage → HasSizes s.config → KindIs kind (names_now (Inside stage)) → FitsStage says s stage own theirs → HasForm s.side s.config kind host own
stage_form says s (Created k) own theirs kind host i z q f = form_of s.side s.config kind host own (own_form says s (Created k) own theirs kind z q f) (λ e l. absurd (few kind own (ap length f.own_is) l))
stage_form says s (AwaitsGroup o) own theirs kind host i z q f = form_of s.side s.config kind host own (own_form says s (AwaitsGroup o) own theirs kind z q f) (λ e l. absurd (sides s.side f.client e))
stage_form says s (AwaitsReply o gex local public) own theirs kind host i z q f = form_of s.side s.config kind host own (own_form says s (AwaitsReply o gex local public) own theirs kind z q f) (λ e l. absurd (sides s.side f.client e))
stage_form says s (AwaitsRequest o) own theirs kind host i z q f = form_of s.side s.config kind host own (own_form says s (AwaitsRequest o) own theirs kind z q f) (λ e l. absurd (few kind own (ap length f.own_is) l))
stage_form says s (AwaitsValue o None) own theirs kind host i z q f = form_of s.side s.config kind host own (own_form says s (AwaitsValue o None) own theirs kind z q f) (λ e l. absurd (few kind own (ap length f.own_is) l))
stage_form says s (AwaitsValue o (Some g)) own theirs kind host i z q f = form_of s.side s.config kind host own (own_form says s (AwaitsValue o (Some g)) own theirs kind z q f) (λ e l. absurd (few_gex kind own (sym q ∙ f.kind) (ap length f.own_is) l))
stage_form says s (AwaitsNewkeys exchange made h) own theirs kind host i z q f = absurd i

-- the first message stands before the other's NEWKEYS
first_before : (side : Side) (says : Says) (s : Setting) (own theirs : List (List ℕ)) (e : Exchange) (x : FinishedExchange) (h : Option ServerHost) → MadeBy side says s own (theirs ++ newkeys ∷ []) e x h → slice_get (theirs ++ newkeys ∷ []) 0 ≡ slice_get theirs 0
first_before Client says s own theirs e x h m = let f = server_first (spoken e m.host m.signature) e.gex theirs m.theirs_is in ap (λ t. slice_get (t ++ newkeys ∷ []) 0) f.1 ∙ sym (ap (λ t. slice_get t 0) f.1)
first_before Server says s own theirs e x h m = let f = client_first (spoken e m.shown.blob m.signature) e.gex theirs m.theirs_is in ap (λ t. slice_get (t ++ newkeys ∷ []) 0) f.1 ∙ sym (ap (λ t. slice_get t 0) f.1)

open_has_form : (says : Says) (side : Side) (config : Config) (own_id : List ℕ) (st : SideState) (t : Trace) (stage : Stage) (kind : Bool) (host : Option (List ℕ)) → HasSizes config → st.stands ≡ Inside stage → Fits says side config own_id st t → KindIs kind (names_now (Inside stage)) → AreOf side config kind host (block_names side config (still_strict st.records) t.theirs)
    → HasForm side config kind host (t.own ++ st.owed)
open_has_form says side config own_id st t stage kind host z e f q are = by stage q (subst (λ w. FitsWhere says (setting side config own_id st) w (t.own ++ st.owed) t.theirs) e f) where
  plain : (stage : Stage) → IsOpen stage → KindIs kind (names_now (Inside stage)) → FitsStage says (setting side config own_id st) stage (t.own ++ st.owed) t.theirs → HasForm side config kind host (t.own ++ st.owed)
  plain stage i q g =
      subst (λ c. HasForm side c kind host (t.own ++ st.owed)) (config_is side config own_id st)
      (subst (λ w. HasForm w (setting side config own_id st).config kind host (t.own ++ st.owed)) (setting_side side config own_id st)
      (stage_form says (setting side config own_id st) stage (t.own ++ st.owed) t.theirs kind host i (subst HasSizes (sym (config_is side config own_id st)) z) q g))

  by : (stage : Stage) → KindIs kind (names_now (Inside stage)) → FitsStage says (setting side config own_id st) stage (t.own ++ st.owed) t.theirs → HasForm side config kind host (t.own ++ st.owed)
  by (Created k) q g = plain (Created k) tt q g
  by (AwaitsGroup o) q g = plain (AwaitsGroup o) tt q g
  by (AwaitsReply o gex local public) q g = plain (AwaitsReply o gex local public) tt q g
  by (AwaitsRequest o) q g = plain (AwaitsRequest o) tt q g
  by (AwaitsValue o gex) q g = plain (AwaitsValue o gex) tt q g
  by (AwaitsNewkeys e x h) q g =
      let m : MadeBy side says (setting_at side config own_id st.heard st.records) (t.own ++ st.owed) (t.theirs ++ newkeys ∷ []) e x h =
      subst (λ s. MadeBy side says s (t.own ++ st.owed) (t.theirs ++ newkeys ∷ []) e x h) (same_setting side config own_id st (record first_state { heard = st.heard; records = st.records }) refl refl)
      (subst (λ w. MadeBy w says (setting side config own_id st) (t.own ++ st.owed) (t.theirs ++ newkeys ∷ []) e x h) (setting_side side config own_id st) g) in
      let same = first_before side says (setting_at side config own_id st.heard st.records) (t.own ++ st.owed) t.theirs e x h m in
      let f = made_has_form side says config own_id st.heard st.records (t.own ++ st.owed) (t.theirs ++ newkeys ∷ []) e x h m in
      of_names side config kind host f.names (t.own ++ st.owed) (are f.names (ap (Rattle.ssh_rules.specs.Attacked.read_names side config (still_strict st.records)) (sym same) ∙ f.names_are)) f.form

-- ---- of each block

-- what is read and what its names are, of block k
abbrev pub names_at : Side → Config → List FinishedExchange → List Item → ℕ → Option Names
names_at side config records read k = block_names side config (still_strict (take k records)) (exchange_block k read)

take_all : {A : Type 0} (xs : List A) → take (length xs) xs ≡ xs
take_all [] = refl
take_all (x ∷ xs) = ap (λ t. x ∷ t) (take_all xs)

compare : (n m : ℕ) → (n < m) ⊎ ((n ≡ m) ⊎ (m < n))
compare zero zero = inr (inl refl)
compare zero (suc m) = inl (omega arith)
compare (suc n) zero = inr (inr (omega arith))
compare (suc n) (suc m) = elim (compare n m) [ inl l ↦ inl (omega (arith, l)) | inr h ↦ inr (elim h [ inl e ↦ inl (ap suc e) | inr l ↦ inr (omega (arith, l)) ]) ]

pub forms : (says : Says) (side : Side) (config : Config) (own_id : List ℕ) (w r : List Item) (st : SideState) (t : Trace) (kind : ℕ → Bool) (host : ℕ → Option (List ℕ)) → HasSizes config → ((k : ℕ) → AreOf side config (kind k) (host k) (names_at side config st.records r k)) → KindIs (kind (length st.records)) (names_now st.stands) → Kept says side config own_id w r st t
    → (k : ℕ) → HasForm side config (kind k) (host k) (exchange_block k w)
forms says side config own_id w r st t kind host z are q kept k = elim (compare k (length st.records)) [
  | inl l ↦ (let x = below_get st.records k l in let m = kept.accounts.each k x.0 x.1 in
      let f = made_has_form side says config own_id st.heard (take k st.records) (exchange_block k w) (exchange_block k r) m.exchange x.0 m.host m.made in
      of_names side config (kind k) (host k) f.names (exchange_block k w) (are k f.names f.names_are) f.form)
  | inr o ↦ elim o [
    | inl e ↦ subst (λ j. HasForm side config (kind j) (host j) (exchange_block j w)) (sym e) now
    | inr l ↦ at_form side config _ _ (exchange_block k w) [] (later (compare k (suc (length st.records))) l) (nothing_form side config _ _)
  ]
] where
  names_are : names_at side config st.records r (length st.records) ≡ block_names side config (still_strict st.records) t.theirs
  names_are = ap (λ b. block_names side config (still_strict (take (length st.records) st.records)) b) kept.accounts.theirs.block_is ∙ ap (λ b. block_names side config (still_strict b) t.theirs) (take_all st.records)

  by_place : (s : Where) → st.stands ≡ s → HasForm side config (kind (length st.records)) (host (length st.records)) (exchange_block (length st.records) w)
  by_place Silent e = at_form side config _ _ _ [] (kept.accounts.own.block_is ∙ (closed_trace says side config own_id st t kept.tidy.fits (inr e)).0) (nothing_form side config _ _)
  by_place Outside e = at_form side config _ _ _ [] (kept.accounts.own.block_is ∙ (closed_trace says side config own_id st t kept.tidy.fits (inl e)).0) (nothing_form side config _ _)
  by_place (Inside stage) e =
      at_form side config _ _ _ t.own kept.accounts.own.block_is
      (front_form side config _ _ (t.own ++ st.owed) t.own (st.owed, refl)
      (open_has_form says side config own_id st t stage (kind (length st.records)) (host (length st.records)) z e kept.tidy.fits (subst (λ s. KindIs (kind (length st.records)) (names_now s)) e q)
      (λ n f. are (length st.records) n (names_are ∙ f))))

  now : HasForm side config (kind (length st.records)) (host (length st.records)) (exchange_block (length st.records) w)
  now = by_place st.stands refl

  few_ends : (b : Bool) (n m : ℕ) → m ≡ n + (if b then 1 else 0) → m ≤ n + 1
  few_ends true n m e = omega (arith, e)
  few_ends false n m e = omega (arith, e)

  later : (k < suc (length st.records)) ⊎ ((k ≡ suc (length st.records)) ⊎ (suc (length st.records) < k)) → length st.records < k → exchange_block k w ≡ []
  later (inl a) l = absurd (omega (arith, a, l))
  later (inr (inl e)) l = ap (λ j. exchange_block j w) e ∙ kept.accounts.own.next_is
  later (inr (inr a)) l = block_above k w (omega (arith, a, few_ends _ _ _ kept.accounts.own.ends_is))
