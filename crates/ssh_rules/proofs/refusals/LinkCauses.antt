-- The causes of what a link refuses, by what the handed-in parts of both sides are.
use Rattle.std.proofs.Common.{◌≡◌, ◌⊎◌, inl, inr, ℕ, ◌<◌, ◌≤◌, List, [], ◌∷◌, ◌++◌, length, refl, sym, ◌∙◌, ap, subst, arith, nat_lt, Bool, true, false, Some, None, Result, Ok, Err}
use Rattle.std.proofs.lemmas.Bool.Decides.{nat_tests}
use Rattle.ssh_packet.specs.Sealing.{Item, next_number}
use Rattle.ssh_wire.specs.Lines.{id_text}
use Rattle.ssh_wire.specs.Sides.{other_side}
use Rattle.ssh_wire.specs.declared.error.AlgorithmKind.{AlgorithmKind}
use Rattle.ssh_wire.specs.declared.error.Error.{Error}
use Rattle.ssh_wire.specs.declared.error.Error.TheVariants as errors
use Rattle.ssh_wire.specs.declared.side.Side.{Side}
use Rattle.ssh_wire.specs.declared.side.Side.TheVariants.{Client, Server}
use Rattle.ssh_negotiate.proofs.Lemmas.{names_agree}
use Rattle.ssh_negotiate.specs.Advertised.{kexinit}
use Rattle.ssh_negotiate.specs.Causes.{was_strict}
use Rattle.ssh_negotiate.specs.Laws.{IsWithin, own_list, peer_list, side_answer}
use Rattle.ssh_negotiate.specs.Reading.{KexinitFault, NoCommon, names_read}
use Rattle.ssh_negotiate.specs.declared.kex.Name.{Name as KexName}
use Rattle.ssh_negotiate.specs.declared.negotiation.Names.{Names}
use Rattle.ssh_negotiate.specs.declared.preferred.HostKey.{HostKey}
use Rattle.ssh_kex.specs.Messages.{is_gex}
use Rattle.ssh_kex.specs.Parts.{Presents, Setup}
use Rattle.ssh_kex.specs.Refusals.{Denies, IsCreated, IsOutOfRange, PartDenies, RefusesMessage, SignatureDenied, SigningDenied, kexinit_read}
use Rattle.ssh_kex.specs.Fields.{IsInside, IsOutside}
use Rattle.ssh_kex.specs.Setting.{Says, Setting, offers_of}
use Rattle.ssh_kex.specs.Stages.{AwaitsGroup, AwaitsNewkeys, AwaitsReply, AwaitsRequest, AwaitsValue, Created, Stage, names_in_stage}
use Rattle.ssh_kex.specs.declared.config.Config.{Config}
use Rattle.ssh_kex.specs.declared.exchange.Exchange.{Exchange}
use Rattle.ssh_kex.specs.declared.exchange.FinishedExchange.{FinishedExchange}
use Rattle.ssh_kex.specs.declared.exchange.ServerHost.{ServerHost}
use Rattle.ssh_kex.specs.declared.group.DhGroup.{DhGroup}
use Rattle.ssh_kex.specs.declared.group.GexParams.{GexParams}
use Rattle.ssh_rules.specs.Headline.{chosen_by, kind_by}
use Rattle.ssh_rules.specs.LinkCauses.{IsCauseOf, Rises}
use Rattle.ssh_rules.specs.Log.{handled, wrote}
use Rattle.ssh_rules.specs.Machine.{Event, Inside, Outside, SideState, Silent, cause_of, names_now, setting}
use Rattle.ssh_rules.specs.Made.{MadeServer}
use Rattle.ssh_rules.specs.Refused.{AwaitsNext, LooksIn, PartsDecide, one_of}
use Rattle.ssh_rules.specs.RefusedTurn.{HostRefused, MessageRefused, RefusesInTurn}
use Rattle.ssh_rules.specs.RunLaws.{says_by}
use Rattle.ssh_rules.specs.Turns.{LinkEnd, Talkers, World, talkers}
use Rattle.ssh_rules.proofs.pair.Awaited.{IsReadable}
use Rattle.ssh_rules.proofs.headline.LinkWire.{HoldsChosen, names_here}
use Rattle.ssh_rules.proofs.pair.Next.{Goes}
use Rattle.ssh_rules.proofs.pair.NextWhole.{WritesNext, next_whole}
use Rattle.ssh_rules.proofs.refusals.NoneRefused.{AreMet, faced, host_presented, is_next, nothing_refused, parts_decide}
use Rattle.ssh_rules.proofs.refusals.Obliged.{AreSmall, Duties, IsMet, Owes, ReadsKex, met_denied, met_missigned, met_unsigned, never_outside, not_unoffered}
use Rattle.ssh_rules.proofs.refusals.OnlyParts.{readable_type}
use Rattle.ssh_rules.proofs.refusals.RefusedTurns.{AreLawful, SeenBy, fit_of, goes_on, heads_seen, kept_seen, readable_next, seen_by}
use Rattle.ssh_rules.proofs.side.StageFits.{FitsStage, Trace, no_trace}
use Rattle.ssh_rules.proofs.side.StageSteps.{at_stage, setting_side}
use Rattle.ssh_rules.proofs.side.Accounts.{trace_of}
use Rattle.ssh_rules.proofs.side.Valid.{is_within}

-- what a denial tells of counts
pub record Tells (denies : Denies) (untrusted : ServerHost → Type 0) (r : Rises) : Type 0 where
  pub start : (name : KexName) (group : Rattle.std.specs.Prelude.Option DhGroup) → denies.start name group → r.agreement
  pub value : (name : KexName) (group : Rattle.std.specs.Prelude.Option DhGroup) (public : List ℕ) → denies.value name group public → r.agreement
  pub reply : (name : KexName) (group : Rattle.std.specs.Prelude.Option DhGroup) (local value : List ℕ) → denies.reply name group local value → r.agreement
  pub lookup : (sizes : GexParams) → denies.lookup sizes → r.lookup
  pub sign : (config : Config) → denies.sign config → r.signing
  pub verify : (host : ServerHost) (hash signature : List ℕ) → denies.verify host hash signature → r.verifying
  pub check : (host : ServerHost) → untrusted host → r.checking

-- what the side's agreement offers, the side's parts say so
pub offers_by : {A H G : Type 0} (says : Config → A → H → G → Says) (offered : A → KexName → Bool) → ((config : Config) (v : A) (x : H) (y : G) (name : KexName) → offered v name ≡ true → (says config v x y).offers name)
    → (t : Setup) (a b : A) (h i : H) (g j : G) (side : Side) (name : KexName) → offered (one_of side a b) name ≡ true → (says_by says t a b h i g j side).offers name
offers_by says offered each t a b h i g j Client name o = each t.client a h g name o
offers_by says offered each t a b h i g j Server name o = each t.server b i j name o

-- ---- by the stage

-- a stage that a side is in, or the first
abbrev pub StageIs : Says → Setting → Stage → Type 0
StageIs says s stage = IsCreated stage ⊎ ((own : List (List ℕ)) × (theirs : List (List ℕ)) × FitsStage says s stage own theirs)

not_created : (stage : Stage) (k : List ℕ) → ((own : List ℕ) → stage ≡ Created own → ⊥) → IsCreated stage → ⊥
not_created stage k n c = n c.0 c.1

pub missigned : (says : Says) (denies : Denies) (untrusted : ServerHost → Type 0) (r : Rises) (s : Setting) (stage : Stage) (payload : List ℕ) → Tells denies untrusted r → StageIs says s stage → SignatureDenied says denies s stage payload → (s.side ≡ Client) × r.verifying
missigned says denies untrusted r s (Created own) payload t f h = absurd h
missigned says denies untrusted r s (AwaitsGroup o) payload t f h = absurd h
missigned says denies untrusted r s (AwaitsReply o gex local public) payload t (inl c) h = absurd (let q : AwaitsReply o gex local public ≡ Created c.0 = c.1 in cc)
missigned says denies untrusted r s (AwaitsReply o gex local public) payload t (inr f) h = ((f.2).client, t.verify _ _ _ h.denied)
missigned says denies untrusted r s (AwaitsRequest o) payload t f h = absurd h
missigned says denies untrusted r s (AwaitsValue o gex) payload t f h = absurd h
missigned says denies untrusted r s (AwaitsNewkeys exchange made host) payload t f h = absurd h

pub unsigned : (says : Says) (denies : Denies) (untrusted : ServerHost → Type 0) (r : Rises) (s : Setting) (stage : Stage) (payload : List ℕ) → Tells denies untrusted r → StageIs says s stage → SigningDenied s denies stage payload → (s.side ≡ Server) × r.signing
unsigned says denies untrusted r s (Created own) payload t f h = absurd h
unsigned says denies untrusted r s (AwaitsGroup o) payload t f h = absurd h
unsigned says denies untrusted r s (AwaitsReply o gex local public) payload t f h = absurd h
unsigned says denies untrusted r s (AwaitsRequest o) payload t f h = absurd h
unsigned says denies untrusted r s (AwaitsValue o gex) payload t (inl c) h = absurd (let q : AwaitsValue o gex ≡ Created c.0 = c.1 in cc)
unsigned says denies untrusted r s (AwaitsValue o gex) payload t (inr f) h = ((f.2).server, t.sign s.config h.1)
unsigned says denies untrusted r s (AwaitsNewkeys exchange made host) payload t f h = absurd h

-- the kind of a group that is read
group_kind : (says : Says) (s : Setting) (stage : Stage) (payload : List ℕ) → StageIs says s stage → IsOutOfRange s stage payload → (n : Names) × (names_in_stage stage ≡ Some n) × (is_gex n.kex ≡ true)
group_kind says s (Created own) payload f h = absurd h
group_kind says s (AwaitsGroup o) payload (inl c) h = absurd (let q : AwaitsGroup o ≡ Created c.0 = c.1 in cc)
group_kind says s (AwaitsGroup o) payload (inr f) h = (o.names, refl, (f.2).kind)
group_kind says s (AwaitsReply o gex local public) payload f h = absurd h
group_kind says s (AwaitsRequest o) payload f h = absurd h
group_kind says s (AwaitsValue o gex) payload f h = absurd h
group_kind says s (AwaitsNewkeys exchange made host) payload f h = absurd h

lt_or_not : (a b : ℕ) → (a < b) ⊎ (b ≤ a)
lt_or_not a b = by (nat_lt a b) refl where
  by : (t : Bool) → nat_lt a b ≡ t → (a < b) ⊎ (b ≤ a)
  by true h = inl (grind (arith, nat_tests))
  by false h = inr (grind (arith, nat_tests))

inside_or_not : (sizes : GexParams) (g : DhGroup) → IsInside sizes g ⊎ IsOutside sizes g
inside_or_not sizes g = elim (lt_or_not (Rattle.ssh_kex.specs.Messages.bit_size g.prime) sizes.min_group_size) [
  | inl l ↦ inr (inl l)
  | inr l ↦ elim (lt_or_not sizes.max_group_size (Rattle.ssh_kex.specs.Messages.bit_size g.prime)) [
    | inl m ↦ inr (inr m)
    | inr m ↦ inl (record { least = l; most = m })
  ]
]

-- whose host was accepted is a client
pub host_client : (d : Side) (says : Says) (s : Setting) (stage : Stage) (exchange : Exchange) (made : FinishedExchange) (host : ServerHost) → d ≡ s.side → stage ≡ AwaitsNewkeys exchange made (Some host) → StageIs says s stage → d ≡ Client
host_client d says s stage exchange made host e q (inl c) = absurd (let z : AwaitsNewkeys exchange made (Some host) ≡ Created c.0 = sym q ∙ c.1 in cc)
host_client Client says s stage exchange made host e q (inr f) = refl
host_client Server says s stage exchange made host e q (inr f) = absurd (
    let k : FitsStage says s (AwaitsNewkeys exchange made (Some host)) f.0 f.1 = subst (λ z. FitsStage says s z f.0 f.1) q f.2 in
    let m : MadeServer says s f.0 (f.1 ++ Rattle.ssh_kex.specs.Messages.newkeys ∷ []) exchange made (Some host) = subst (λ z. Rattle.ssh_rules.specs.Made.MadeBy z says s f.0 (f.1 ++ Rattle.ssh_kex.specs.Messages.newkeys ∷ []) exchange made (Some host)) (sym e) k in
    let z : Some host ≡ None = m.host_is in cc)

-- ---- what is known of a message that is refused in a link

record Seen (says : Side → Says) (config : Side → Config) (w : World) (cl sl : List Event) (side : Side) (stage : Stage) (item : Item) : Type 0 where
  stage_is : StageIs (says side) (setting side (config side) (id_text (config side).id) (one_of side w.client w.server).state) stage
  holds : (n : Names) → names_in_stage stage ≡ Some n → HoldsChosen config n
  readable : IsReadable (other_side side) (config (other_side side)) stage item.payload

see : (says : Side → Says) (config : Side → Config) (w : World) (cl sl : List Event) (side : Side) (stage : Stage) (item : Item) → AreLawful says config → AwaitsNext (talkers says config) w cl sl side stage item → Seen says config w cl sl side stage item
see says config w cl sl side stage item m a = record {
  stage_is = by a.looks;
  holds = held a.looks;
  readable = readable_next (other_side side) (config (other_side side)) h.state item stage goes a.is_kex a.looks;
} where
  h : LinkEnd
  h = one_of side w.client w.server

  peer : LinkEnd
  peer = one_of (other_side side) w.client w.server

  t : Talkers
  t = talkers says config

  s : SeenBy t side h peer
  s = seen_by t w cl sl side (fit_of says config m) a.reached

  next : WritesNext (wrote s.plog) (handled s.log) item
  next = next_whole t side s.log s.plog h peer item a.behind s.run s.peer_run s.fed s.front s.agree a.whole

  loud : h.state.stands ≡ Silent → ⊥
  loud z = elim a.looks [
    | inl inside ↦ (let q : Inside stage ≡ Silent = sym inside ∙ z in cc)
    | inr c ↦ (let q : Outside ≡ Silent = sym c.0 ∙ z in cc)
  ]

  cw : IsWithin (offers_of Client (config Client))
  cw = is_within Client (config Client) (m.valid Client)

  sw : IsWithin (offers_of Server (config Server))
  sw = is_within Server (config Server) (m.valid Server)

  goes : Goes (other_side side) (config (other_side side)) h.state item
  goes = goes_on says config side h peer s item next.0 m.sizes cw sw a.owes loud next.1

  trace : Trace
  trace = trace_of no_trace s.log

  by : LooksIn h.state.stands stage → StageIs (says side) (setting side (config side) (id_text (config side).id) h.state) stage
  by (inl inside) = inr (trace.own, trace.theirs, at_stage (says side) side (config side) (id_text (config side).id) h.state trace stage inside a.owes (kept_seen says config side h peer s).tidy.fits)
  by (inr c) = inl c.1

  held : LooksIn h.state.stands stage → (n : Names) → names_in_stage stage ≡ Some n → HoldsChosen config n
  held (inl inside) n e = names_here (says side) side config (id_text (config side).id) (wrote s.log) (handled s.log) h.state trace cw sw (heads_seen says config side h peer s m.sizes) (kept_seen says config side h peer s) n (ap names_now inside ∙ e)
  held (inr c) n e = absurd (let q : None ≡ Some n = ap names_in_stage (sym (c.1).1) ∙ e in cc)

-- ---- where nothing is in common

no_names : (r : Result Names KexinitFault) (n : Names) (fault : KexinitFault) → r ≡ Err fault → r ≡ Ok n → ⊥
no_names r n fault e f = (let q : Err fault ≡ Ok n = sym e ∙ f in cc)

same_fault : (r : Result Names KexinitFault) (kind kind' : AlgorithmKind) (a b c d : List (List ℕ)) → r ≡ Err (NoCommon kind a b) → r ≡ Err (NoCommon kind' c d) → (kind ≡ kind') × (c ≡ a) × (d ≡ b)
same_fault r kind kind' a b c d e f = (let q : Err (NoCommon kind a b) ≡ Err (NoCommon kind' c d) = sym e ∙ f in (let x : kind ≡ kind' = cc in x, let y : c ≡ a = cc in y, let z : d ≡ b = cc in z))

other_fault : (r : Result Names KexinitFault) (x y : KexinitFault) → r ≡ Err x → r ≡ Err y → x ≡ y
other_fault r x y e f = (let q : Err x ≡ Err y = sym e ∙ f in cc)

-- each reading of the other's KEXINIT says so
read_none : (config : Side → Config) (side : Side) (own_id : List ℕ) (st : SideState) (kind : AlgorithmKind) (payload cookie : List ℕ) → IsWithin (offers_of Client (config Client)) → IsWithin (offers_of Server (config Server)) → chosen_by (config Client) (config Server) ≡ Err kind → length cookie ≡ 16 → payload ≡ kexinit (offers_of (other_side side) (config (other_side side))) cookie
    → kexinit_read (setting side (config side) own_id st) payload ≡ Err (NoCommon kind (own_list kind (offers_of side (config side))) (peer_list kind (offers_of (other_side side) (config (other_side side)))))
read_none config Client own_id st kind payload cookie cw sw none len e =
    ap (names_read Client (offers_of Client (config Client)) (was_strict (cause_of st.records))) e ∙ ((names_agree (offers_of Client (config Client)) (offers_of Server (config Server)) (was_strict (cause_of st.records)) cookie cw sw len).0
    ∙ ap (side_answer (was_strict (cause_of st.records)) (offers_of Client (config Client)) (offers_of Server (config Server))) none)
read_none config Server own_id st kind payload cookie cw sw none len e =
    ap (names_read Server (offers_of Server (config Server)) (was_strict (cause_of st.records))) e ∙ ((names_agree (offers_of Client (config Client)) (offers_of Server (config Server)) (was_strict (cause_of st.records)) cookie cw sw len).1
    ∙ ap (side_answer (was_strict (cause_of st.records)) (offers_of Server (config Server)) (offers_of Client (config Client))) none)

-- a first message that can't be negotiated is refused for that, or for want of memory
none_cause : (says : Says) (denies : Denies) (r : Rises) (config : Side → Config) (side : Side) (offered : KexName → Bool) (group : DhGroup) (s : Setting) (own : List ℕ) (seqn : ℕ) (payload : List ℕ) (kind : AlgorithmKind) (e : Error) → chosen_by (config Client) (config Server) ≡ Err kind → IsReadable (other_side side) (config (other_side side)) (Created own) payload
    → kexinit_read s payload ≡ Err (NoCommon kind (own_list kind (offers_of side (config side))) (peer_list kind (offers_of (other_side side) (config (other_side side)))))
    → RefusesMessage says denies s (Created own) seqn payload e → IsCauseOf r side config offered group e
none_cause says denies r config side offered group s own seqn payload kind errors.KexInit none readable read (inl h) = absurd (h.1.type_is (readable_type (other_side side) (config (other_side side)) (Created own) payload readable))
none_cause says denies r config side offered group s own seqn payload kind errors.KexInit none readable read (inr h) = absurd h.1
none_cause says denies r config side offered group s own seqn payload kind errors.UnknownAlgo none readable read h = absurd (no_names (kexinit_read s payload) _ _ read ((h.1).1).read)
none_cause says denies r config side offered group s own seqn payload kind (errors.NoCommonAlgo k ours theirs) none readable read h = (let q = same_fault (kexinit_read s payload) kind k _ _ ours.0.items theirs.0.items read (h.2) in record { none = none ∙ ap (λ z. let v : Result Names AlgorithmKind = Err z in v) q.0; ours_are = q.1 ∙ ap (λ z. own_list z (offers_of side (config side))) q.0; theirs_are = q.2 ∙ ap (λ z. peer_list z (offers_of (other_side side) (config (other_side side)))) q.0 })
none_cause says denies r config side offered group s own seqn payload kind errors.Version none readable read h = absurd h
none_cause says denies r config side offered group s own seqn payload kind errors.Kex none readable read (inl h) = absurd (let q : false ≡ true = h.0 in cc)
none_cause says denies r config side offered group s own seqn payload kind errors.Kex none readable read (inr h) = absurd (no_names (kexinit_read s payload) _ _ read h.1.reads.read)
none_cause says denies r config side offered group s own seqn payload kind errors.PacketAuth none readable read h = absurd h
none_cause says denies r config side offered group s own seqn payload kind errors.Inconsistent none readable read h = absurd (let q = other_fault (kexinit_read s payload) _ _ read h.2 in cc)
none_cause says denies r config side offered group s own seqn payload kind errors.IndexOutOfBounds none readable read h = absurd h
none_cause says denies r config side offered group s own seqn payload kind errors.UnknownKey none readable read h = absurd h
none_cause says denies r config side offered group s own seqn payload kind errors.WrongServerSig none readable read h = absurd h.1
none_cause says denies r config side offered group s own seqn payload kind (errors.PacketSize n) none readable read h = absurd (no_names (kexinit_read s payload) _ _ read (h.2).reads.read)
none_cause says denies r config side offered group s own seqn payload kind errors.Disconnect none readable read h = absurd h
none_cause says denies r config side offered group s own seqn payload kind errors.DecryptionError none readable read h = absurd h
none_cause says denies r config side offered group s own seqn payload kind errors.IO none readable read h = absurd h
none_cause says denies r config side offered group s own seqn payload kind (errors.StrictKeyExchangeViolation type place) none readable read h = absurd (no_names (kexinit_read s payload) _ _ read (h.1).1)
none_cause says denies r config side offered group s own seqn payload kind errors.Signature none readable read h = absurd h.1
none_cause says denies r config side offered group s own seqn payload kind (errors.SshEncoding fault) none readable read h = absurd (let q = other_fault (kexinit_read s payload) _ _ read h.1 in cc)
none_cause says denies r config side offered group s own seqn payload kind (errors.InvalidConfig fault) none readable read h = absurd h
none_cause says denies r config side offered group s own seqn payload kind errors.Memory none readable read h = tt

-- ---- where names are chosen

-- what the lemmas of both ask for
pub record Causes (says : Side → Says) (config : Side → Config) (side : Side) (denies : Denies) (untrusted : ServerHost → Type 0) (r : Rises) (offered : KexName → Bool) (group : DhGroup) : Type 0 where
  pub lawful : AreLawful says config
  pub small : AreSmall (says side) side (config (other_side side)).gex
  pub owes : (kex : KexName) → kind_by (chosen_by (config Client) (config Server)) ≡ is_gex kex → Owes says config side kex denies r
  pub checks : (host : ServerHost) (key : HostKey) → side ≡ Client → Presents (config Server) host key host.algorithm → untrusted host → r.checking
  pub offers : (name : KexName) → offered name ≡ true → (says side).offers name
  pub finds : (g : DhGroup) → (says Server).finds (config Client).gex g → g ≡ group

by_offer : (b : Bool) → (b ≡ true → ⊥) → b ≡ false
by_offer true h = absurd (h refl)
by_offer false h = refl

chosen_cause : (says : Side → Says) (config : Side → Config) (side : Side) (denies : Denies) (untrusted : ServerHost → Type 0) (r : Rises) (offered : KexName → Bool) (group : DhGroup) (s : Setting) (stage : Stage) (seqn : ℕ) (payload : List ℕ) (names : Names) (e : Error) → Causes says config side denies untrusted r offered group → s.side ≡ side → chosen_by (config Client) (config Server) ≡ Ok names → StageIs (says side) s stage → ((n : Names) → names_in_stage stage ≡ Some n → HoldsChosen config n) → IsMet says config s stage payload → ReadsKex s stage payload names.kex → IsReadable (other_side s.side) (config (other_side s.side)) stage payload → PartsDecide (says side) denies s stage seqn payload e → IsCauseOf r side config offered group e
chosen_cause says config side denies untrusted r offered group s stage seqn payload names errors.KexInit c at chosen f holds met kex readable h =
    let k = group_kind (says side) s stage payload f h in
    let n = holds k.0 k.1 in (
      ap kind_by n.chosen ∙ (ap is_gex n.kex ∙ k.2),
      elim (inside_or_not (config Client).gex group) [
        | inl i ↦ absurd (never_outside says config s stage payload (λ g finds. subst (IsInside (config Client).gex) (sym (c.finds g finds)) i) met h)
        | inr o ↦ o
      ],
    )
chosen_cause says config side denies untrusted r offered group s stage seqn payload names errors.UnknownAlgo c at chosen f holds met kex readable h = record { names = names; chosen = chosen; none = by_offer (offered names.kex) (λ o. not_unoffered (says side) s stage seqn payload names.kex (c.offers names.kex o) kex h) }
chosen_cause says config side denies untrusted r offered group s stage seqn payload names (errors.NoCommonAlgo kind ours theirs) c at chosen f holds met kex readable h = absurd h
chosen_cause says config side denies untrusted r offered group s stage seqn payload names errors.Version c at chosen f holds met kex readable h = h
chosen_cause says config side denies untrusted r offered group s stage seqn payload names errors.Kex c at chosen f holds met kex readable h = elim (met_denied says config s stage seqn payload names.kex denies r (subst (λ z. Owes says config z names.kex denies r) (sym at) (c.owes names.kex (ap kind_by chosen))) met readable kex (subst (λ z. PartDenies (says z) denies s stage seqn payload) (sym at) h)) [
  | inl a ↦ inl a
  | inr l ↦ inr (sym at ∙ l.0, l.1)
]
chosen_cause says config side denies untrusted r offered group s stage seqn payload names errors.PacketAuth c at chosen f holds met kex readable h = h
chosen_cause says config side denies untrusted r offered group s stage seqn payload names errors.Inconsistent c at chosen f holds met kex readable h = h
chosen_cause says config side denies untrusted r offered group s stage seqn payload names errors.IndexOutOfBounds c at chosen f holds met kex readable h = h
chosen_cause says config side denies untrusted r offered group s stage seqn payload names errors.UnknownKey c at chosen f holds met kex readable h = absurd h
chosen_cause says config side denies untrusted r offered group s stage seqn payload names errors.WrongServerSig c at chosen f holds met kex readable h = (let m = met_missigned says config s stage payload names.kex denies r (subst (λ z. Owes says config z names.kex denies r) (sym at) (c.owes names.kex (ap kind_by chosen))) met (subst (λ z. SignatureDenied (says z) denies s stage payload) (sym at) h) in (sym at ∙ m.0, m.1))
chosen_cause says config side denies untrusted r offered group s stage seqn payload names (errors.PacketSize n) c at chosen f holds met kex readable h = h
chosen_cause says config side denies untrusted r offered group s stage seqn payload names errors.Disconnect c at chosen f holds met kex readable h = h
chosen_cause says config side denies untrusted r offered group s stage seqn payload names errors.DecryptionError c at chosen f holds met kex readable h = h
chosen_cause says config side denies untrusted r offered group s stage seqn payload names errors.IO c at chosen f holds met kex readable h = h
chosen_cause says config side denies untrusted r offered group s stage seqn payload names (errors.StrictKeyExchangeViolation type place) c at chosen f holds met kex readable h = h
chosen_cause says config side denies untrusted r offered group s stage seqn payload names errors.Signature c at chosen f holds met kex readable h = (let m = met_unsigned says config s stage payload names.kex denies r (subst (λ z. Owes says config z names.kex denies r) (sym at) (c.owes names.kex (ap kind_by chosen))) met h in (sym at ∙ m.0, m.1))
chosen_cause says config side denies untrusted r offered group s stage seqn payload names (errors.SshEncoding fault) c at chosen f holds met kex readable h = h
chosen_cause says config side denies untrusted r offered group s stage seqn payload names (errors.InvalidConfig fault) c at chosen f holds met kex readable h = h
chosen_cause says config side denies untrusted r offered group s stage seqn payload names errors.Memory c at chosen f holds met kex readable h = tt

-- ---- both

met_by_lawful : (says : Side → Says) (config : Side → Config) (names : Names) → AreLawful says config → chosen_by (config Client) (config Server) ≡ Ok names → AreMet says config names
met_by_lawful says config names m chosen = record { valid = m.valid; sizes = m.sizes; chosen = chosen; secret = m.secret; canonical = m.canonical }

-- where nothing is in common no stage but the first is reached
first_stage : (says : Side → Says) (config : Side → Config) (kind : AlgorithmKind) (stage : Stage) → chosen_by (config Client) (config Server) ≡ Err kind → ((n : Names) → names_in_stage stage ≡ Some n → HoldsChosen config n) → IsCreated stage
first_stage says config kind (Created own) none h = (own, refl)
first_stage says config kind (AwaitsGroup o) none h = absurd (let c = h o.names refl in let q : Err kind ≡ Ok c.names = sym none ∙ c.chosen in cc)
first_stage says config kind (AwaitsReply o gex local public) none h = absurd (let c = h o.names refl in let q : Err kind ≡ Ok c.names = sym none ∙ c.chosen in cc)
first_stage says config kind (AwaitsRequest o) none h = absurd (let c = h o.names refl in let q : Err kind ≡ Ok c.names = sym none ∙ c.chosen in cc)
first_stage says config kind (AwaitsValue o gex) none h = absurd (let c = h o.names refl in let q : Err kind ≡ Ok c.names = sym none ∙ c.chosen in cc)
first_stage says config kind (AwaitsNewkeys exchange made host) none h = absurd (let c = h made.names refl in let q : Err kind ≡ Ok c.names = sym none ∙ c.chosen in cc)

message_cause : (says : Side → Says) (config : Side → Config) (side : Side) (denies : Denies) (untrusted : ServerHost → Type 0) (r : Rises) (offered : KexName → Bool) (group : DhGroup) (w : World) (cl sl : List Event) (e : Error) → Causes says config side denies untrusted r offered group → MessageRefused (talkers says config) denies w cl sl side e → IsCauseOf r side config offered group e
message_cause says config side denies untrusted r offered group w cl sl e c x = by (chosen_by (config Client) (config Server)) refl where
  st : SideState
  st = (one_of side w.client w.server).state

  s : Setting
  s = setting side (config side) (id_text (config side).id) st

  seen : Seen says config w cl sl side x.stage x.item
  seen = see says config w cl sl side x.stage x.item c.lawful x.awaits

  by : (q : Result Names AlgorithmKind) → chosen_by (config Client) (config Server) ≡ q → IsCauseOf r side config offered group e
  by (Ok names) chosen =
      let m = met_by_lawful says config names c.lawful chosen in
      let f = faced says config names side (one_of side w.client w.server) x.stage x.item m (is_next says config names w cl sl side x.stage x.item m x.awaits) in
      chosen_cause says config side denies untrusted r offered group s x.stage (next_number st.reading.number) x.item.payload names e c (setting_side side (config side) (id_text (config side).id) st) chosen seen.stage_is seen.holds f.met f.kex
      (subst (λ z. IsReadable (other_side z) (config (other_side z)) x.stage x.item.payload) (sym (setting_side side (config side) (id_text (config side).id) st)) seen.readable)
      (parts_decide says denies config names w cl sl side x.stage x.item e m c.small x.awaits x.refuses)
  by (Err kind) none =
      let k = first_stage says config kind x.stage none seen.holds in
      let readable = subst (λ z. IsReadable (other_side side) (config (other_side side)) z x.item.payload) k.1 seen.readable in
      none_cause (says side) denies r config side offered group s k.0 (next_number st.reading.number) x.item.payload kind e none readable
      (read_none config side (id_text (config side).id) st kind x.item.payload readable.0 (is_within Client (config Client) (c.lawful.valid Client)) (is_within Server (config Server) (c.lawful.valid Server)) none readable.1 readable.2)
      (subst (λ z. RefusesMessage (says side) denies s z (next_number st.reading.number) x.item.payload e) k.1 x.refuses)

host_cause : (says : Side → Says) (config : Side → Config) (side : Side) (denies : Denies) (untrusted : ServerHost → Type 0) (r : Rises) (offered : KexName → Bool) (group : DhGroup) (w : World) (cl sl : List Event) (e : Error) → Causes says config side denies untrusted r offered group → HostRefused (talkers says config) untrusted w cl sl side e → IsCauseOf r side config offered group e
host_cause says config side denies untrusted r offered group w cl sl e c x = subst (IsCauseOf r side config offered group) (sym x.error_is) (client, by (chosen_by (config Client) (config Server)) refl) where
  st : SideState
  st = (one_of side w.client w.server).state

  stage : Stage
  stage = AwaitsNewkeys x.exchange x.made (Some x.host)

  seen : Seen says config w cl sl side stage x.item
  seen = see says config w cl sl side stage x.item c.lawful x.awaits

  client : side ≡ Client
  client = host_client side (says side) (setting side (config side) (id_text (config side).id) st) stage x.exchange x.made x.host (sym (setting_side side (config side) (id_text (config side).id) st)) refl seen.stage_is

  by : (q : Result Names AlgorithmKind) → chosen_by (config Client) (config Server) ≡ q → r.checking
  by (Ok names) chosen =
      let p = host_presented says config names w cl sl x.item x.exchange x.made x.host (met_by_lawful says config names c.lawful chosen) (subst (λ z. AwaitsNext (talkers says config) w cl sl z stage x.item) client x.awaits) in
      c.checks x.host p.0 client p.1 x.denied
  by (Err kind) none = absurd (let k = first_stage says config kind stage none seen.holds in let q : AwaitsNewkeys x.exchange x.made (Some x.host) ≡ Created k.0 = k.1 in cc)

-- Each refusal of a link whose parts are lawful has its cause.
pub link_cause : (says : Side → Says) (config : Side → Config) (side : Side) (denies : Denies) (untrusted : ServerHost → Type 0) (r : Rises) (offered : KexName → Bool) (group : DhGroup) (w : World) (e : Error) → Causes says config side denies untrusted r offered group → RefusesInTurn (talkers says config) denies untrusted w side e → IsCauseOf r side config offered group e
link_cause says config side denies untrusted r offered group w e c (inl m) = subst (IsCauseOf r side config offered group) (sym m) tt
link_cause says config side denies untrusted r offered group w e c (inr b) = elim b.refuses [
  | inl x ↦ message_cause says config side denies untrusted r offered group b.world b.cl b.sl e c x
  | inr x ↦ host_cause says config side denies untrusted r offered group b.world b.cl b.sl e c x
]

-- And where its parts do what they owe and trust what is presented, none but want of memory.
pub none_in_link : (says : Side → Says) (config : Side → Config) (names : Names) (side : Side) (denies : Denies) (untrusted : ServerHost → Type 0) (w : World) (e : Error) → AreMet says config names → Duties says config side names.kex denies → AreSmall (says side) side (config (other_side side)).gex → ((host : ServerHost) (key : HostKey) → side ≡ Client → Presents (config Server) host key host.algorithm → untrusted host → ⊥)
    → RefusesInTurn (talkers says config) denies untrusted w side e → e ≡ errors.Memory
none_in_link says config names side denies untrusted w e m d a trusts (inl q) = q
none_in_link says config names side denies untrusted w e m d a trusts (inr b) = elim b.refuses [
  | inl x ↦ nothing_refused says denies config names b.world b.cl b.sl side x.stage x.item e m d a x.awaits x.refuses
  | inr x ↦ absurd (host x)
] where
  lawful : AreLawful says config
  lawful = record { valid = m.valid; sizes = m.sizes; secret = m.secret; canonical = m.canonical }

  host : HostRefused (talkers says config) untrusted b.world b.cl b.sl side e → ⊥
  host x =
      let st = (one_of side b.world.client b.world.server).state in
      let client : side ≡ Client = host_client side (says side) (setting side (config side) (id_text (config side).id) st) (AwaitsNewkeys x.exchange x.made (Some x.host)) x.exchange x.made x.host (sym (setting_side side (config side) (id_text (config side).id) st)) refl (see says config b.world b.cl b.sl side (AwaitsNewkeys x.exchange x.made (Some x.host)) x.item lawful x.awaits).stage_is in
      let p = host_presented says config names b.world b.cl b.sl x.item x.exchange x.made x.host m (subst (λ z. AwaitsNext (talkers says config) b.world b.cl b.sl z (AwaitsNewkeys x.exchange x.made (Some x.host)) x.item) client x.awaits) in
      trusts x.host p.0 client p.1 x.denied
