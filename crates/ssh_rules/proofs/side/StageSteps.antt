-- Each row keeps what a stage has in common with the messages.
use Rattle.std.proofs.Common.{◌≡◌, ℕ, List, [], ◌∷◌, ◌++◌, refl, sym, ◌∙◌, ap, subst, arith, Option, Some, None, Bool, true, false, if◌then◌else◌, append_assoc, append-nil, inl, inr}
use Rattle.std.specs.Prelude.{is_some, IfSome}
use Rattle.ssh_negotiate.specs.Advertised.{kexinit}
use Rattle.ssh_negotiate.specs.Causes.{was_strict}
use Rattle.ssh_negotiate.specs.Reading.{names_read}
use Rattle.ssh_negotiate.specs.declared.negotiation.Names.{Names}
use Rattle.ssh_packet.specs.Sealing.{Item, next_number}
use Rattle.ssh_wire.specs.declared.side.Side.{Side}
use Rattle.ssh_wire.specs.declared.side.Side.TheVariants.{Client, Server}
use Rattle.ssh_kex.specs.Messages.{is_gex, newkeys, value_message, reply_message, host_with}
use Rattle.ssh_kex.specs.Setting.{Says, Setting, Opened, offers_of, exchange_by, exchange_of, made_of, behind_guess, held_names}
use Rattle.ssh_kex.specs.Signature.{judged}
use Rattle.ssh_kex.specs.Stages as stages
use Rattle.ssh_kex.specs.Stages.{Stage, Created, AwaitsGroup, AwaitsReply, AwaitsRequest, AwaitsValue, AwaitsNewkeys, TakesKexinit, TakesReply, TakesValue, OpensBy, drops_guess, guess_dropped, without_guess}
use Rattle.ssh_kex.specs.declared.config.Config.{Config}
use Rattle.ssh_kex.specs.declared.exchange.FinishedExchange.{FinishedExchange}
use Rattle.ssh_kex.specs.declared.exchange.GexChosen.{GexChosen}
use Rattle.ssh_rules.proofs.side.StageFits.{Trace, no_trace, trace_after, Holds, OpenedBy, FitsCreated, FitsReply, FitsValue, FitsStage, FitsWhere, Fits}
use Rattle.ssh_rules.specs.Machine.{Inside, SideState, setting, cause_of, id_or_none, is_answering, writes, reads, Event, IdHeard, PayloadSubmitted, ExchangeBegun, AnswerSent, PayloadSent, MessageTaken, GuessDropped, PayloadDelivered, PacketDropped, ExchangeFinished, Step, FinishesExchange}
use Rattle.ssh_rules.specs.Made.{MadeBy}
use Rattle.ssh_rules.specs.ExchangeMessages.{requests, groups}

at_next : (says : Says) (s : Setting) (next n0 : Stage) (own own0 theirs theirs0 : List (List ℕ)) → next ≡ n0 → own ≡ own0 → theirs ≡ theirs0 → FitsStage says s n0 own0 theirs0 → FitsStage says s next own theirs
at_next says s next n0 own own0 theirs theirs0 e f g h =
    subst (λ n. FitsStage says s n own theirs) (sym e) (subst (λ t. FitsStage says s n0 t theirs) (sym f) (subst (λ t. FitsStage says s n0 own0 t) (sym g) h))

joined_is : (a b c d : List (List ℕ)) → a ≡ b → c ≡ d → a ++ c ≡ b ++ d
joined_is a b c d e f = ap (λ t. t ++ c) e ∙ ap (λ t. b ++ t) f

one_more : (a b : List (List ℕ)) (x y : List ℕ) → a ≡ b → x ≡ y → a ++ x ∷ [] ≡ b ++ y ∷ []
one_more a b x y e f = ap (λ t. t ++ x ∷ []) e ∙ ap (λ z. b ++ z ∷ []) f

-- ---- names behind a guess

held_by : (read held : Names) → Holds read held → held.ignore_guessed ≡ false → held ≡ held_names read
held_by read held (inl e) f = e ∙ sym (ap (λ b. if b then behind_guess read else read) (sym (ap (λ (n : Names). n.ignore_guessed) e) ∙ f))
held_by read held (inr e) f = e.1 ∙ sym (ap (λ b. if b then behind_guess read else read) e.0)

not_both : true ≡ false → ⊥
not_both e = cc

holds_dropped : (read held : Names) → Holds read held → held.ignore_guessed ≡ true → Holds read (behind_guess held)
holds_dropped read held (inl e) i = inr (sym (ap (λ (n : Names). n.ignore_guessed) e) ∙ i, ap behind_guess e)
holds_dropped read held (inr e) i = absurd (not_both (sym i ∙ ap (λ (n : Names). n.ignore_guessed) e.1))

-- ---- rows

fits_opens : (says : Says) (s : Setting) (o : Opened) (side : Side) (kind : Bool) (written : List (List ℕ)) (next : Stage) (own theirs : List (List ℕ)) → OpenedBy says s o → s.side ≡ side → is_gex o.names.kex ≡ kind → own ≡ o.own_kexinit ∷ [] → theirs ≡ o.peer_kexinit ∷ [] → OpensBy side kind says s o written next → FitsStage says s next (own ++ written) theirs
fits_opens says s o Client true written next own theirs k e f ow th h = at_next says s next (AwaitsGroup o) (own ++ written) _ theirs _ h.next_is (joined_is own _ written _ ow h.written_is) th (record { opened = k; client = e; kind = f; own_is = refl; theirs_is = refl })
fits_opens says s o Client false written next own theirs k e f ow th h = at_next says s next (AwaitsReply o None h.local h.public) (own ++ written) _ theirs _ h.leads.next_is (joined_is own _ written _ ow h.leads.written_is) th (record { opened = k; client = e; kind = f; own_is = refl; theirs_is = refl; makes = h.starts.makes; short = h.starts.short; group = tt; short_group = tt })
fits_opens says s o Server true written next own theirs k e f ow th h = at_next says s next (AwaitsRequest o) (own ++ written) _ theirs _ h.next_is (joined_is own _ written _ ow h.written_is) th (record { opened = k; server = e; kind = f; own_is = refl; theirs_is = refl })
fits_opens says s o Server false written next own theirs k e f ow th h = at_next says s next (AwaitsValue o None) (own ++ written) _ theirs _ h.next_is (joined_is own _ written _ ow h.written_is) th (record { opened = k; server = e; kind = f; own_is = refl; theirs_is = refl; finds = tt; short_group = tt })

-- a KEXINIT
fits_created : (says : Says) (s : Setting) (k : List ℕ) (seqn : ℕ) (payload : List ℕ) (written : List (List ℕ)) (next : Stage) (own theirs : List (List ℕ)) → FitsCreated s k own theirs → TakesKexinit says s k seqn payload written next → FitsStage says s next (own ++ written) (theirs ++ payload ∷ [])
fits_created says s k seqn payload written next own theirs f h =
    fits_opens says s (record { names = h.names; own_kexinit = k; peer_kexinit = payload }) s.side (is_gex h.names.kex) written next own (theirs ++ payload ∷ [])
    (record { cookie = f.cookie; cookie_length = f.cookie_length; own = f.kexinit_is; read_names = h.names; read = h.reads.read; held = inl refl; offered = h.offered }) refl refl f.own_is (ap (λ t. t ++ payload ∷ []) f.theirs_is) h.opens

-- a server's reply
client_made : (says : Says) (s : Setting) (o : Opened) (gex : Option GexChosen) (local public payload : List ℕ) (written : List (List ℕ)) (next : Stage) (own theirs : List (List ℕ)) → o.names.ignore_guessed ≡ false → FitsReply says s o gex local public own theirs → (h : TakesReply says s o gex local public payload written next)
    → MadeBy s.side says s (own ++ written) ((theirs ++ payload ∷ []) ++ newkeys ∷ []) (exchange_of s o gex public h.value) (made_of s.cause o.names (exchange_of s o gex public h.value) h.host (Some h.secret)) (Some (host_with o.names h.host))
client_made says s o gex local public payload written next own theirs kept f h =
    subst (λ w. MadeBy w says s (own ++ written) ((theirs ++ payload ∷ []) ++ newkeys ∷ []) (exchange_by w s o gex public h.value) (made_of s.cause o.names (exchange_by w s o gex public h.value) h.host (Some h.secret)) (Some (host_with o.names h.host))) (sym f.client)
    (record {
      client_id = refl;
      server_id = refl;
      host = h.host;
      signature = h.signature;
      short = record { client_value = omega (arith, f.short); host_blob = omega (arith, h.host_short); server_value = omega (arith, h.value_short); signed = omega (arith, h.signature_short); group = f.short_group };
      own_is = joined_is own _ written _ f.own_is h.leads.written_is ∙ ap (λ t. o.own_kexinit ∷ t) (append_assoc (requests gex) (value_message (is_some gex) public ∷ []) (newkeys ∷ []));
      theirs_is = ap (λ t. t ++ newkeys ∷ []) (one_more theirs _ payload _ f.theirs_is (h.payload_is ∙ ap (λ k. reply_message k h.host h.value h.signature) f.kind)) ∙ ap (λ t. o.peer_kexinit ∷ t) (append_assoc (groups gex) (reply_message (is_some gex) h.host h.value h.signature ∷ []) (newkeys ∷ []));
      cookie = f.opened.cookie;
      cookie_length = f.opened.cookie_length;
      kexinit_is = f.opened.own ∙ ap (λ w. kexinit (offers_of w s.config) f.opened.cookie) f.client;
      read_names = f.opened.read_names;
      read = ap (λ w. names_read w (offers_of w s.config) (was_strict s.cause) o.peer_kexinit) (sym f.client) ∙ f.opened.read;
      names = o.names;
      names_are = held_by f.opened.read_names o.names f.opened.held kept;
      offered = f.opened.offered;
      kind = f.kind;
      group = f.group;
      local = local;
      makes = f.makes;
      secret = h.secret;
      agrees = h.agrees f.makes;
      accepts = subst (λ w. says.accepts (host_with o.names h.host) (made_of s.cause o.names (exchange_by w s o gex public h.value) h.host (Some h.secret)).hash (judged h.signature)) f.client h.accepts;
      made = refl;
      host_is = refl;
    })

server_made : (says : Says) (s : Setting) (o : Opened) (gex : Option GexChosen) (payload : List ℕ) (written : List (List ℕ)) (next : Stage) (own theirs : List (List ℕ)) → o.names.ignore_guessed ≡ false → FitsValue says s o gex own theirs → (h : TakesValue says s o gex payload written next)
    → MadeBy s.side says s (own ++ written) ((theirs ++ payload ∷ []) ++ newkeys ∷ []) (exchange_of s o gex h.value h.own_value) (made_of s.cause o.names (exchange_of s o gex h.value h.own_value) h.shown.blob (Some h.secret)) None
server_made says s o gex payload written next own theirs kept f h =
    subst (λ w. MadeBy w says s (own ++ written) ((theirs ++ payload ∷ []) ++ newkeys ∷ []) (exchange_by w s o gex h.value h.own_value) (made_of s.cause o.names (exchange_by w s o gex h.value h.own_value) h.shown.blob (Some h.secret)) None) (sym f.server)
    (record {
      client_id = refl;
      server_id = refl;
      shown = h.shown;
      signature = h.signature;
      short = record { client_value = omega (arith, h.value_short); host_blob = omega (arith, h.host_short); server_value = omega (arith, h.own_value_short); signed = omega (arith, h.signature_short); group = f.short_group };
      own_is = joined_is own _ written _ f.own_is (h.leads.written_is ∙ ap (λ k. reply_message k h.shown.blob h.own_value h.signature ∷ newkeys ∷ []) f.kind);
      theirs_is = ap (λ t. t ++ newkeys ∷ []) (one_more theirs _ payload _ f.theirs_is (h.payload_is ∙ ap (λ k. value_message k h.value) f.kind)) ∙ ap (λ t. o.peer_kexinit ∷ t) (append_assoc (requests gex) (value_message (is_some gex) h.value ∷ []) (newkeys ∷ []));
      cookie = f.opened.cookie;
      cookie_length = f.opened.cookie_length;
      kexinit_is = f.opened.own ∙ ap (λ w. kexinit (offers_of w s.config) f.opened.cookie) f.server;
      read_names = f.opened.read_names;
      read = ap (λ w. names_read w (offers_of w s.config) (was_strict s.cause) o.peer_kexinit) (sym f.server) ∙ f.opened.read;
      names = o.names;
      names_are = held_by f.opened.read_names o.names f.opened.held kept;
      offered = f.opened.offered;
      kind = f.kind;
      finds = f.finds;
      makes = h.makes;
      secret = h.secret;
      agrees = h.agrees;
      presents = h.presents;
      signs = subst (λ w. says.signs (host_with o.names h.shown.blob) (made_of s.cause o.names (exchange_by w s o gex h.value h.own_value) h.shown.blob (Some h.secret)).hash (judged h.signature)) f.server h.signs;
      made = refl;
      host_is = refl;
    })

-- one row
pub fits_takes : (says : Says) (s : Setting) (stage : Stage) (seqn : ℕ) (payload : List ℕ) (written : List (List ℕ)) (next : Stage) (own theirs : List (List ℕ)) → drops_guess stage ≡ false → FitsStage says s stage own theirs → stages.Takes says s stage seqn payload written next → FitsStage says s next (own ++ written) (theirs ++ payload ∷ [])
fits_takes says s (Created k) seqn payload written next own theirs kept f h = fits_created says s k seqn payload written next own theirs f h
fits_takes says s (AwaitsGroup o) seqn payload written next own theirs kept f h =
    at_next says s next (AwaitsReply o (Some (record { params = s.config.gex; group = h.group })) h.local h.public) (own ++ written) _ (theirs ++ payload ∷ []) _ h.leads.next_is (joined_is own _ written _ f.own_is h.leads.written_is) (one_more theirs _ payload _ f.theirs_is h.payload_is)
    (record {
      opened = f.opened;
      client = f.client;
      kind = f.kind;
      own_is = refl;
      theirs_is = refl;
      makes = h.starts.makes;
      short = h.starts.short;
      group = record { params_are = refl; canonical = h.canonical; least = h.least; most = h.most };
      short_group = h.short;
    })
fits_takes says s (AwaitsReply o gex local public) seqn payload written next own theirs kept f h =
    at_next says s next (AwaitsNewkeys (exchange_of s o gex public h.value) (made_of s.cause o.names (exchange_of s o gex public h.value) h.host (Some h.secret)) (Some (host_with o.names h.host))) (own ++ written) (own ++ written) (theirs ++ payload ∷ []) (theirs ++ payload ∷ []) h.leads.next_is refl refl
    (client_made says s o gex local public payload written next own theirs kept f h)
fits_takes says s (AwaitsRequest o) seqn payload written next own theirs kept f h =
    at_next says s next (AwaitsValue o (Some (record { params = h.sizes; group = h.group }))) (own ++ written) _ (theirs ++ payload ∷ []) _ h.leads.next_is (joined_is own _ written _ f.own_is h.leads.written_is) (one_more theirs _ payload _ f.theirs_is h.payload_is)
    (record { opened = f.opened; server = f.server; kind = f.kind; own_is = refl; theirs_is = refl; finds = h.finds; short_group = h.short })
fits_takes says s (AwaitsValue o gex) seqn payload written next own theirs kept f h =
    at_next says s next (AwaitsNewkeys (exchange_of s o gex h.value h.own_value) (made_of s.cause o.names (exchange_of s o gex h.value h.own_value) h.shown.blob (Some h.secret)) None) (own ++ written) (own ++ written) (theirs ++ payload ∷ []) (theirs ++ payload ∷ []) h.leads.next_is refl refl
    (server_made says s o gex payload written next own theirs kept f h)
fits_takes says s (AwaitsNewkeys e x host) seqn payload written next own theirs kept f h = absurd h

-- ---- events

-- the setting hangs on the id that was heard and on the records alone
pub same_setting : (side : Side) (config : Config) (own_id : List ℕ) (st st' : SideState) → st'.heard ≡ st.heard → st'.records ≡ st.records → setting side config own_id st ≡ setting side config own_id st'
same_setting Client config own_id st st' h r =
    ap (λ a. let s : Setting = record { side = Client; config = config; client_id = own_id; server_id = id_or_none a; cause = cause_of st.records } in s) (sym h)
    ∙ ap (λ b. let s : Setting = record { side = Client; config = config; client_id = own_id; server_id = id_or_none st'.heard; cause = cause_of b } in s) (sym r)
same_setting Server config own_id st st' h r =
    ap (λ a. let s : Setting = record { side = Server; config = config; client_id = id_or_none a; server_id = own_id; cause = cause_of st.records } in s) (sym h)
    ∙ ap (λ b. let s : Setting = record { side = Server; config = config; client_id = id_or_none st'.heard; server_id = own_id; cause = cause_of b } in s) (sym r)

without_opened : (says : Says) (s : Setting) (o : Opened) → OpenedBy says s o → o.names.ignore_guessed ≡ true → OpenedBy says s (without_guess o)
without_opened says s o k i = record { cookie = k.cookie; cookie_length = k.cookie_length; own = k.own; read_names = k.read_names; read = k.read; held = holds_dropped k.read_names o.names k.held i; offered = k.offered }

fits_dropped : (says : Says) (s : Setting) (stage : Stage) (own theirs : List (List ℕ)) → drops_guess stage ≡ true → FitsStage says s stage own theirs → FitsStage says s (guess_dropped stage) own theirs
fits_dropped says s (Created k) own theirs d f = f
fits_dropped says s (AwaitsGroup o) own theirs d f = record { opened = without_opened says s o f.opened d; client = f.client; kind = f.kind; own_is = f.own_is; theirs_is = f.theirs_is }
fits_dropped says s (AwaitsReply o gex local public) own theirs d f = record { opened = without_opened says s o f.opened d; client = f.client; kind = f.kind; own_is = f.own_is; theirs_is = f.theirs_is; makes = f.makes; short = f.short; group = f.group; short_group = f.short_group }
fits_dropped says s (AwaitsRequest o) own theirs d f = record { opened = without_opened says s o f.opened d; server = f.server; kind = f.kind; own_is = f.own_is; theirs_is = f.theirs_is }
fits_dropped says s (AwaitsValue o gex) own theirs d f = record { opened = without_opened says s o f.opened d; server = f.server; kind = f.kind; own_is = f.own_is; theirs_is = f.theirs_is; finds = f.finds; short_group = f.short_group }
fits_dropped says s (AwaitsNewkeys e x host) own theirs d f = f

pub setting_side : (side : Side) (config : Config) (own_id : List ℕ) (st : SideState) → (setting side config own_id st).side ≡ side
setting_side Client config own_id st = refl
setting_side Server config own_id st = refl

setting_kexinit : (side : Side) (config : Config) (own_id : List ℕ) (st : SideState) (cookie : List ℕ) → kexinit (offers_of (setting side config own_id st).side (setting side config own_id st).config) cookie ≡ kexinit (offers_of side config) cookie
setting_kexinit Client config own_id st cookie = refl
setting_kexinit Server config own_id st cookie = refl

pub fits_at : (says : Says) (side : Side) (config : Config) (own_id : List ℕ) (st m : SideState) (t : Trace) → m.heard ≡ st.heard → m.records ≡ st.records → FitsWhere says (setting side config own_id st) m.stands (t.own ++ m.owed) t.theirs → Fits says side config own_id m t
fits_at says side config own_id st m t h r f = subst (λ s. FitsWhere says s m.stands (t.own ++ m.owed) t.theirs) (same_setting side config own_id st m h r) f

pub at_stage : (says : Says) (side : Side) (config : Config) (own_id : List ℕ) (st : SideState) (t : Trace) (stage : Stage) → st.stands ≡ Inside stage → st.owed ≡ [] → Fits says side config own_id st t → FitsStage says (setting side config own_id st) stage t.own t.theirs
at_stage says side config own_id st t stage e o f =
    subst (λ x. FitsStage says (setting side config own_id st) stage x t.theirs) (ap (λ x. t.own ++ x) o ∙ append-nil t.own)
    (subst (λ w. FitsWhere says (setting side config own_id st) w (t.own ++ st.owed) t.theirs) e f)

-- each event keeps what a stage has in common with the messages of the open exchange
pub fits_step : (says : Says) (side : Side) (config : Config) (own_id : List ℕ) (st : SideState) (e : Event) (st' : SideState) (t : Trace) → Fits says side config own_id st t → Step says side config own_id st e st' → Fits says side config own_id st' (trace_after t e)
fits_step says side config own_id st (IdHeard id) st' t f h =
    subst (λ m. Fits says side config own_id m t) (sym h.becomes)
    (subst (λ w. FitsWhere says (setting side config own_id (record st { heard = Some id })) w (t.own ++ st.owed) t.theirs) (sym h.silent)
    (subst (λ w. FitsWhere says (setting side config own_id st) w (t.own ++ st.owed) t.theirs) h.silent f))
fits_step says side config own_id st (PayloadSubmitted p) st' t f h = subst (λ m. Fits says side config own_id m t) (sym h.becomes) (fits_at says side config own_id st _ t refl refl f)
fits_step says side config own_id st (ExchangeBegun cause i) st' t f h =
    subst (λ m. Fits says side config own_id m (trace_after t (ExchangeBegun cause i))) (sym h.becomes)
    (fits_at says side config own_id st (record (writes st i) { stands = Inside (Created i.payload); called = is_answering cause }) (trace_after t (ExchangeBegun cause i)) refl refl
    (record { cookie = h.cookie; cookie_length = h.cookie_length; kexinit_is = h.payload_is ∙ sym (setting_kexinit side config own_id st h.cookie); own_is = ap (λ o. (i.payload ∷ []) ++ o) h.owes; theirs_is = refl }))
fits_step says side config own_id st (AnswerSent i again) st' t f h =
    subst (λ m. Fits says side config own_id m (trace_after t (AnswerSent i again))) (sym h.becomes)
    (fits_at says side config own_id st _ (trace_after t (AnswerSent i again)) refl refl
    (subst (λ o. FitsWhere says (setting side config own_id st) st.stands o t.theirs) (ap (λ o. t.own ++ o) h.owes ∙ sym (append_assoc t.own (i.payload ∷ []) h.more)) f))
fits_step says side config own_id st (PayloadSent i) st' t f h = subst (λ m. Fits says side config own_id m t) (sym h.becomes) (fits_at says side config own_id st _ t refl refl f)
fits_step says side config own_id st (MessageTaken i) st' t f h =
    subst (λ m. Fits says side config own_id m (trace_after t (MessageTaken i))) (sym h.becomes)
    (fits_at says side config own_id st (record (reads st i) { stands = Inside h.next; called = false; owed = h.answers }) (trace_after t (MessageTaken i)) refl refl
    (fits_takes says (setting side config own_id st) h.stage (next_number st.reading.number) i.payload h.answers h.next t.own t.theirs h.kept (at_stage says side config own_id st t h.stage h.inside h.owes f) h.takes))
fits_step says side config own_id st (GuessDropped i) st' t f h =
    subst (λ m. Fits says side config own_id m t) (sym h.becomes)
    (fits_at says side config own_id st (record (reads st i) { stands = Inside (guess_dropped h.stage) }) t refl refl
    (subst (λ o. FitsStage says (setting side config own_id st) (guess_dropped h.stage) o t.theirs) (sym (ap (λ o. t.own ++ o) h.owes ∙ append-nil t.own))
    (fits_dropped says (setting side config own_id st) h.stage t.own t.theirs h.drops (at_stage says side config own_id st t h.stage h.inside h.owes f))))
fits_step says side config own_id st (PayloadDelivered i) st' t f h = subst (λ m. Fits says side config own_id m t) (sym h.becomes) (fits_at says side config own_id st _ t refl refl f)
fits_step says side config own_id st (PacketDropped i) st' t f h = subst (λ m. Fits says side config own_id m t) (sym h.becomes) (fits_at says side config own_id st _ t refl refl f)
fits_step says side config own_id st (ExchangeFinished i x) st' t f h = subst (λ m. Fits says side config own_id m no_trace) (sym h.becomes) (record { own_is = h.owes; theirs_is = refl })

-- what is recorded was made of the two blocks of messages, and a client trusts the host
pub finishes_made : (says : Says) (side : Side) (config : Config) (own_id : List ℕ) (st : SideState) (i : Item) (x : FinishedExchange) (st' : SideState) (t : Trace) → Fits says side config own_id st t → (h : FinishesExchange says side st i x st') →
    MadeBy (setting side config own_id st).side says (setting side config own_id st) t.own (t.theirs ++ i.payload ∷ []) h.exchange x h.host × IfSome h.host says.trusts
finishes_made says side config own_id st i x st' t f h = (
  subst (λ p. MadeBy (setting side config own_id st).side says (setting side config own_id st) t.own (t.theirs ++ p ∷ []) h.exchange x h.host) (sym h.payload_is)
      (at_stage says side config own_id st t (AwaitsNewkeys h.exchange x h.host) h.inside h.owes f),
  h.trusted,
)
