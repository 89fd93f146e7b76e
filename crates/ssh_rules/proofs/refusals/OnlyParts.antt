-- Of an awaited message of an honest peer the handed-in parts alone can be the cause of a refusal.
use Rattle.std.proofs.Common.{◌≡◌, ℕ, ◌+◌, ◌-◌, ◌<◌, ◌≤◌, ◌^◌, Bool, true, false, List, [], ◌∷◌, ◌++◌, length, nat_lt, if◌then◌else◌, refl, sym, ◌∙◌, ap, subst, arith, Result, Ok, Err, ◌⊎◌, inl, inr, length-append}
use Rattle.ssh_packet.specs.Sealing.{longest_payload, next_number}
use Rattle.ssh_packet.specs.Stream.{message_type}
use Rattle.ssh_wire.specs.Forms.{mpint, magnitude, string, unsigned}
use Rattle.ssh_wire.specs.declared.error.EncodingFault.{EncodingFault}
use Rattle.ssh_wire.specs.declared.error.Error.{Error}
use Rattle.ssh_wire.specs.declared.error.Error.TheVariants as errors
use Rattle.ssh_wire.proofs.Lemmas.{magnitude_front, magnitude_unsigned}
use Rattle.ssh_wire.specs.Sides.{other_side}
use Rattle.ssh_wire.specs.declared.side.Side.{Side}
use Rattle.ssh_wire.specs.declared.side.Side.TheVariants.{Client, Server}
use Rattle.ssh_negotiate.proofs.Lemmas.{names_agree}
use Rattle.ssh_negotiate.specs.Advertised.{kexinit}
use Rattle.ssh_negotiate.specs.Causes.{was_strict}
use Rattle.ssh_negotiate.specs.Laws.{IsWithin, kept_strict, side_answer}
use Rattle.ssh_negotiate.specs.Reading.{KexinitFault, Encoding, Inconsistent, names_read}
use Rattle.ssh_negotiate.specs.declared.negotiation.Names.{Names}
use Rattle.ssh_kex.specs.Messages.{is_gex, group_message, reply_message, value_message}
use Rattle.ssh_kex.specs.Refusals.{Denies, IsBadlyEncoded, IsCreated, IsLate, IsOutOfRange, IsTooLong, IsUnoffered, PartDenies, RefusesMessage, SignatureDenied, SigningDenied, awaited, kexinit_read}
use Rattle.ssh_kex.specs.Fields.{ReplyFront, fields, group_in, reply_front, sizes_in, value_in}
use Rattle.ssh_kex.specs.Setting.{Says, Setting, offers_of}
use Rattle.ssh_kex.specs.Stages.{Stage, Created, AwaitsGroup, AwaitsReply, AwaitsRequest, AwaitsValue, AwaitsNewkeys, IsFirst}
use Rattle.ssh_kex.specs.declared.config.Config.{Config}
use Rattle.ssh_kex.specs.declared.exchange.FinishedExchange.{FinishedExchange}
use Rattle.ssh_kex.specs.declared.group.DhGroup.{DhGroup}
use Rattle.ssh_rules.specs.Headline.{chosen_by}
use Rattle.ssh_rules.specs.Machine.{SideState, cause_of, setting}
use Rattle.ssh_rules.proofs.side.OneMessage.{magnitude_of}
use Rattle.ssh_rules.specs.Valid.{HasSizes}
use Rattle.ssh_rules.proofs.pair.Awaited.{IsReadable}
use Rattle.ssh_rules.proofs.side.Grammar.{kexinit_item}
use Rattle.ssh_rules.proofs.side.ReadAgain.{front_again, group_again, sizes_again, value_again}

-- what a KEXINIT that is awaited has to be besides: it is read to names, and is the first packet where it has to be
abbrev pub ReadsWell : Setting → Stage → ℕ → List ℕ → Type 0
ReadsWell s (Created own) seqn payload = (names : Names) × (kexinit_read s payload ≡ Ok names) × IsFirst s.cause names.strict_kex seqn
ReadsWell s (AwaitsGroup o) seqn payload = Unit {0}
ReadsWell s (AwaitsReply o gex local public) seqn payload = Unit {0}
ReadsWell s (AwaitsRequest o) seqn payload = Unit {0}
ReadsWell s (AwaitsValue o gex) seqn payload = Unit {0}
ReadsWell s (AwaitsNewkeys exchange made host) seqn payload = Unit {0}

-- the refusals that the parts decide, or memory
abbrev pub PartsRefuse : Says → Denies → Setting → Stage → ℕ → List ℕ → Error → Type 0
PartsRefuse says denies s stage seqn payload errors.KexInit = IsOutOfRange s stage payload
PartsRefuse says denies s stage seqn payload errors.UnknownAlgo = IsUnoffered says s stage seqn payload
PartsRefuse says denies s stage seqn payload (errors.NoCommonAlgo kind ours theirs) = ⊥
PartsRefuse says denies s stage seqn payload errors.Version = ⊥
PartsRefuse says denies s stage seqn payload errors.Kex = PartDenies says denies s stage seqn payload
PartsRefuse says denies s stage seqn payload errors.PacketAuth = ⊥
PartsRefuse says denies s stage seqn payload errors.Inconsistent = ⊥
PartsRefuse says denies s stage seqn payload errors.IndexOutOfBounds = ⊥
PartsRefuse says denies s stage seqn payload errors.UnknownKey = ⊥
PartsRefuse says denies s stage seqn payload errors.WrongServerSig = SignatureDenied says denies s stage payload
PartsRefuse says denies s stage seqn payload (errors.PacketSize n) = (longest_payload < n) × IsTooLong says s stage seqn payload n
PartsRefuse says denies s stage seqn payload errors.Disconnect = ⊥
PartsRefuse says denies s stage seqn payload errors.DecryptionError = ⊥
PartsRefuse says denies s stage seqn payload errors.IO = ⊥
PartsRefuse says denies s stage seqn payload (errors.StrictKeyExchangeViolation type place) = ⊥
PartsRefuse says denies s stage seqn payload errors.Signature = SigningDenied s denies stage payload
PartsRefuse says denies s stage seqn payload (errors.SshEncoding fault) = ⊥
PartsRefuse says denies s stage seqn payload (errors.InvalidConfig fault) = ⊥
PartsRefuse says denies s stage seqn payload errors.Memory = Unit {0}

-- ---- its type is the one that is due

reply_due : (kind : Bool) (h v s : List ℕ) → message_type (reply_message kind h v s) ≡ message_type (reply_message kind [] [] [])
reply_due true h v s = refl
reply_due false h v s = refl

value_due : (kind : Bool) (v : List ℕ) → message_type (value_message kind v) ≡ message_type (value_message kind [])
value_due true v = refl
value_due false v = refl

pub readable_type : (writer : Side) (peer : Config) (stage : Stage) (payload : List ℕ) → IsReadable writer peer stage payload → message_type payload ≡ awaited stage
readable_type writer peer (Created own) payload r = kexinit_item writer peer r.0 (record { payload = payload; padding = [] }) r.2
readable_type writer peer (AwaitsGroup o) payload r = ap message_type r.1
readable_type writer peer (AwaitsReply o gex local public) payload r = ap message_type r.3 ∙ reply_due (is_gex o.names.kex) r.0 r.1 r.2
readable_type writer peer (AwaitsRequest o) payload r = ap message_type r
readable_type writer peer (AwaitsValue o gex) payload r = ap message_type r.1 ∙ value_due (is_gex o.names.kex) r.0
readable_type writer peer (AwaitsNewkeys exchange made host) payload r = ap message_type r

-- ---- its fields are read

differ : {A : Type 0} (r : Result A EncodingFault) (x : A) (fault : EncodingFault) → r ≡ Ok x → r ≡ Err fault → ⊥
differ r x fault h k = let q : Ok x ≡ Err fault = sym h ∙ k in cc

names_differ : (r : Result Names KexinitFault) (n : Names) (fault : KexinitFault) → r ≡ Ok n → r ≡ Err fault → ⊥
names_differ r n fault h k = let q : Ok n ≡ Err fault = sym h ∙ k in cc

same_front : (r : Result ReplyFront EncodingFault) (x y : ReplyFront) → r ≡ Ok x → r ≡ Ok y → x ≡ y
same_front r x y h k = let q : Ok x ≡ Ok y = sym h ∙ k in cc

pub value_fields : (kind : Bool) (v : List ℕ) → fields (value_message kind v) ≡ string v
value_fields true v = refl
value_fields false v = refl

pub reply_fields : (kind : Bool) (h v s : List ℕ) → fields (reply_message kind h v s) ≡ string h ++ (string v ++ string s)
reply_fields true h v s = refl
reply_fields false h v s = refl

-- a number is no longer than its form
pub form_length : (s : List ℕ) → length (unsigned (magnitude s)) + 4 ≡ length (mpint s)
form_length s = let e = length-append (Rattle.ssh_wire.specs.Forms.u32be (length (unsigned (magnitude s)))) (unsigned (magnitude s)) in omega (arith, e)

-- a group within a payload has numbers of a length that four bytes can say
pub record HasShortGroup (g : DhGroup) : Type 0 where
  pub prime : length g.prime < 2 ^ 32 - 1
  pub generator : length g.generator < 2 ^ 32 - 1

-- what is known of the form of a group that an honest peer sends
abbrev pub GroupsShort : Side → Config → Stage → List ℕ → Type 0
GroupsShort writer peer (Created own) payload = Unit {0}
GroupsShort writer peer (AwaitsGroup o) payload = (g : DhGroup) × (payload ≡ group_message g) × HasShortGroup g
GroupsShort writer peer (AwaitsReply o gex local public) payload = Unit {0}
GroupsShort writer peer (AwaitsRequest o) payload = Unit {0}
GroupsShort writer peer (AwaitsValue o gex) payload = Unit {0}
GroupsShort writer peer (AwaitsNewkeys exchange made host) payload = Unit {0}

well_encoded : (s : Setting) (writer : Side) (peer : Config) (stage : Stage) (seqn : ℕ) (payload : List ℕ) (fault : EncodingFault) → HasSizes peer → IsReadable writer peer stage payload → GroupsShort writer peer stage payload → ReadsWell s stage seqn payload → IsBadlyEncoded s stage payload fault → ⊥
well_encoded s writer peer (Created own) seqn payload fault sizes r g w b = names_differ (kexinit_read s payload) w.0 (Encoding fault) w.1 b
well_encoded s writer peer (AwaitsGroup o) seqn payload fault sizes r g w b = differ (group_in (fields payload)) _ fault (ap (λ p. group_in (fields p)) g.1 ∙ group_again g.0 g.2.prime g.2.generator) b
well_encoded s writer peer (AwaitsReply o gex local public) seqn payload fault sizes r g w b = by b where
  front : reply_front (fields payload) ≡ Ok (record { host = r.0; value = r.1; behind = string r.2 })
  front = ap (λ p. reply_front (fields p)) r.3 ∙ (ap reply_front (reply_fields (is_gex o.names.kex) r.0 r.1 r.2) ∙ front_again r.0 r.1 (string r.2) r.4 r.5)

  by : (reply_front (fields payload) ≡ Err fault) ⊎ ((x : ReplyFront) × (reply_front (fields payload) ≡ Ok x) × (value_in x.behind ≡ Err fault)) → ⊥
  by (inl e) = differ (reply_front (fields payload)) (record { host = r.0; value = r.1; behind = string r.2 }) fault front e
  by (inr e) = differ (value_in (string r.2)) r.2 fault (value_again r.2 r.6) (ap (λ (x : ReplyFront). value_in x.behind) (sym (same_front (reply_front (fields payload)) e.0 _ e.1 front)) ∙ e.2)
well_encoded s writer peer (AwaitsRequest o) seqn payload fault sizes r g w b = differ (sizes_in (fields payload)) peer.gex fault (ap (λ p. sizes_in (fields p)) r ∙ sizes_again peer.gex sizes.least sizes.wanted sizes.most) b
well_encoded s writer peer (AwaitsValue o gex) seqn payload fault sizes r g w b = differ (value_in (fields payload)) r.0 fault (ap (λ p. value_in (fields p)) r.1 ∙ (ap value_in (value_fields (is_gex o.names.kex) r.0) ∙ value_again r.0 r.2)) b
well_encoded s writer peer (AwaitsNewkeys exchange made host) seqn payload fault sizes r g w b = (let l : length (fields payload) ≡ 0 = ap (λ p. length (fields p)) r in let m = b.1 in omega (arith, l, m))

-- a KEXINIT that is read to names isn't refused for its names
no_fault : (s : Setting) (stage : Stage) (seqn : ℕ) (payload : List ℕ) (fault : KexinitFault) → ReadsWell s stage seqn payload → IsCreated stage → kexinit_read s payload ≡ Err fault → ⊥
no_fault s (Created own) seqn payload fault w c e = names_differ (kexinit_read s payload) w.0 fault w.1 e
no_fault s (AwaitsGroup o) seqn payload fault w c e = (let q : AwaitsGroup o ≡ Created c.0 = c.1 in cc)
no_fault s (AwaitsReply o gex local public) seqn payload fault w c e = (let q : AwaitsReply o gex local public ≡ Created c.0 = c.1 in cc)
no_fault s (AwaitsRequest o) seqn payload fault w c e = (let q : AwaitsRequest o ≡ Created c.0 = c.1 in cc)
no_fault s (AwaitsValue o gex) seqn payload fault w c e = (let q : AwaitsValue o gex ≡ Created c.0 = c.1 in cc)
no_fault s (AwaitsNewkeys exchange made host) seqn payload fault w c e = (let q : AwaitsNewkeys exchange made host ≡ Created c.0 = c.1 in cc)

same_names : (r : Result Names KexinitFault) (n m : Names) → r ≡ Ok n → r ≡ Ok m → n ≡ m
same_names r n m h k = let q : Ok n ≡ Ok m = sym h ∙ k in cc

-- nor for its place
not_late : (s : Setting) (stage : Stage) (seqn : ℕ) (payload : List ℕ) → ReadsWell s stage seqn payload → IsLate s stage seqn payload → ⊥
not_late s (Created own) seqn payload w h = h.2 (subst (λ (n : Names). IsFirst s.cause n.strict_kex seqn) (same_names (kexinit_read s payload) w.0 h.0 w.1 h.1) w.2)
not_late s (AwaitsGroup o) seqn payload w h = h
not_late s (AwaitsReply o gex local public) seqn payload w h = h
not_late s (AwaitsRequest o) seqn payload w h = h
not_late s (AwaitsValue o gex) seqn payload w h = h
not_late s (AwaitsNewkeys exchange made host) seqn payload w h = h

-- Of a message that a stage awaits, in the form that an honest peer gives it, each refusal is one that the parts
-- decide, or want of memory.
pub only_parts_refuse : (says : Says) (denies : Denies) (s : Setting) (stage : Stage) (seqn : ℕ) (payload : List ℕ) (writer : Side) (peer : Config) (e : Error) → HasSizes peer → IsReadable writer peer stage payload → GroupsShort writer peer stage payload → ReadsWell s stage seqn payload → RefusesMessage says denies s stage seqn payload e → PartsRefuse says denies s stage seqn payload e
only_parts_refuse says denies s stage seqn payload writer peer errors.KexInit sizes r g w (inl h) = absurd (h.1.type_is (readable_type writer peer stage payload r))
only_parts_refuse says denies s stage seqn payload writer peer errors.KexInit sizes r g w (inr h) = h.1
only_parts_refuse says denies s stage seqn payload writer peer errors.UnknownAlgo sizes r g w h = h.1
only_parts_refuse says denies s stage seqn payload writer peer (errors.NoCommonAlgo kind ours theirs) sizes r g w h = absurd (no_fault s stage seqn payload _ w h.1 h.2)
only_parts_refuse says denies s stage seqn payload writer peer errors.Version sizes r g w h = h
only_parts_refuse says denies s stage seqn payload writer peer errors.Kex sizes r g w (inl h) = absurd (h.1.type_is (readable_type writer peer stage payload r))
only_parts_refuse says denies s stage seqn payload writer peer errors.Kex sizes r g w (inr h) = h.1
only_parts_refuse says denies s stage seqn payload writer peer errors.PacketAuth sizes r g w h = h
only_parts_refuse says denies s stage seqn payload writer peer errors.Inconsistent sizes r g w h = absurd (no_fault s stage seqn payload Inconsistent w h.1 h.2)
only_parts_refuse says denies s stage seqn payload writer peer errors.IndexOutOfBounds sizes r g w h = h
only_parts_refuse says denies s stage seqn payload writer peer errors.UnknownKey sizes r g w h = h
only_parts_refuse says denies s stage seqn payload writer peer errors.WrongServerSig sizes r g w h = h.1
only_parts_refuse says denies s stage seqn payload writer peer (errors.PacketSize n) sizes r g w h = (h.1, h.2)
only_parts_refuse says denies s stage seqn payload writer peer errors.Disconnect sizes r g w h = h
only_parts_refuse says denies s stage seqn payload writer peer errors.DecryptionError sizes r g w h = h
only_parts_refuse says denies s stage seqn payload writer peer errors.IO sizes r g w h = h
only_parts_refuse says denies s stage seqn payload writer peer (errors.StrictKeyExchangeViolation type place) sizes r g w h = absurd (not_late s stage seqn payload w h.1)
only_parts_refuse says denies s stage seqn payload writer peer errors.Signature sizes r g w h = h.1
only_parts_refuse says denies s stage seqn payload writer peer (errors.SshEncoding fault) sizes r g w h = absurd (well_encoded s writer peer stage seqn payload fault sizes r g w h.1)
only_parts_refuse says denies s stage seqn payload writer peer (errors.InvalidConfig fault) sizes r g w h = h
only_parts_refuse says denies s stage seqn payload writer peer errors.Memory sizes r g w h = tt

-- ---- in a link

longer : (m : List ℕ) → length m ≤ length (unsigned m)
longer [] = omega arith
longer (b ∷ m) = step (nat_lt b 128) where
  step : (t : Bool) → length (b ∷ m) ≤ length (if t then b ∷ m else 0 ∷ b ∷ m)
  step true = omega arith
  step false = omega arith

magnitude_twice : (s : List ℕ) → magnitude (magnitude s) ≡ magnitude s
magnitude_twice s = sym (magnitude_of (magnitude s)) ∙ magnitude_unsigned (magnitude s) (magnitude_front s)

-- a group is sent as its canonical form, and within a payload that has short numbers
short_group : (g : DhGroup) (payload : List ℕ) → length payload < 2 ^ 32 → payload ≡ group_message g → (h : DhGroup) × (payload ≡ group_message h) × HasShortGroup h
short_group g payload l e =
    let h : DhGroup = record { prime = magnitude g.prime; generator = magnitude g.generator } in
    let same : group_message g ≡ group_message h = ap (λ p. 31 ∷ (string (unsigned p) ++ mpint g.generator)) (sym (magnitude_twice g.prime)) ∙ ap (λ p. 31 ∷ (mpint (magnitude g.prime) ++ string (unsigned p))) (sym (magnitude_twice g.generator)) in
    let whole : length payload ≡ 1 + length (mpint g.prime ++ mpint g.generator) = ap length e ∙ (let z : length (group_message g) ≡ 1 + length (mpint g.prime ++ mpint g.generator) = omega arith in z) in
    let parts = length-append (mpint g.prime) (mpint g.generator) in
    let a = form_length g.prime in let b = form_length g.generator in
    let c = longer (magnitude g.prime) in let d = longer (magnitude g.generator) in
    (h, e ∙ same, record { prime = omega (arith, l, whole, parts, a, c); generator = omega (arith, l, whole, parts, b, d) })

pub groups_short : (writer : Side) (peer : Config) (stage : Stage) (payload : List ℕ) → length payload < 2 ^ 32 → IsReadable writer peer stage payload → GroupsShort writer peer stage payload
groups_short writer peer (Created own) payload l r = tt
groups_short writer peer (AwaitsGroup o) payload l r = short_group r.0 payload l r.1
groups_short writer peer (AwaitsReply o gex local public) payload l r = tt
groups_short writer peer (AwaitsRequest o) payload l r = tt
groups_short writer peer (AwaitsValue o gex) payload l r = tt
groups_short writer peer (AwaitsNewkeys exchange made host) payload l r = tt

-- both sides choose names, so each reads them of the other's own KEXINIT
pub reads_names : (side : Side) (config : Side → Config) (m : Names) (still : Bool) (cookie : List ℕ) → IsWithin (offers_of Client (config Client)) → IsWithin (offers_of Server (config Server)) → chosen_by (config Client) (config Server) ≡ Ok m → length cookie ≡ 16 → names_read side (offers_of side (config side)) still (kexinit (offers_of (other_side side) (config (other_side side))) cookie) ≡ Ok (kept_strict still m)
reads_names Client config m still cookie c s e l = (names_agree (offers_of Client (config Client)) (offers_of Server (config Server)) still cookie c s l).0 ∙ ap (side_answer still (offers_of Client (config Client)) (offers_of Server (config Server))) e
reads_names Server config m still cookie c s e l = (names_agree (offers_of Client (config Client)) (offers_of Server (config Server)) still cookie c s l).1 ∙ ap (side_answer still (offers_of Server (config Server)) (offers_of Client (config Client))) e

pub first_by : (xs : List FinishedExchange) (strict : Bool) (seqn : ℕ) → (xs ≡ [] → seqn ≡ 1) → IsFirst (cause_of xs) strict seqn
first_by [] strict seqn f = λ s. f refl
first_by (x ∷ xs) strict seqn f = tt

pub at_setting : (side : Side) (config : Config) (own_id : List ℕ) (st : SideState) (payload : List ℕ) (n : Names) → names_read side (offers_of side config) (was_strict (cause_of st.records)) payload ≡ Ok n → kexinit_read (setting side config own_id st) payload ≡ Ok n
at_setting Client config own_id st payload n e = e
at_setting Server config own_id st payload n e = e

pub cause_at : (side : Side) (config : Config) (own_id : List ℕ) (st : SideState) → (setting side config own_id st).cause ≡ cause_of st.records
cause_at Client config own_id st = refl
cause_at Server config own_id st = refl

pub reads_well : (config : Side → Config) (side : Side) (own_id : List ℕ) (m : Names) (st : SideState) (stage : Stage) (seqn : ℕ) (payload : List ℕ) → IsWithin (offers_of Client (config Client)) → IsWithin (offers_of Server (config Server)) → chosen_by (config Client) (config Server) ≡ Ok m → ((k : List ℕ) → stage ≡ Created k → st.records ≡ [] → seqn ≡ 1) → IsReadable (other_side side) (config (other_side side)) stage payload → ReadsWell (setting side (config side) own_id st) stage seqn payload
reads_well config side own_id m st (Created own) seqn payload c s e f r =
    let still = was_strict (cause_of st.records) in (
      kept_strict still m,
      at_setting side (config side) own_id st payload (kept_strict still m) (ap (names_read side (offers_of side (config side)) still) r.2 ∙ reads_names side config m still r.0 c s e r.1),
      subst (λ z. IsFirst z (kept_strict still m).strict_kex seqn) (sym (cause_at side (config side) own_id st)) (first_by st.records (kept_strict still m).strict_kex seqn (f own refl)),
    )
reads_well config side own_id m st (AwaitsGroup o) seqn payload c s e f r = tt
reads_well config side own_id m st (AwaitsReply o gex local public) seqn payload c s e f r = tt
reads_well config side own_id m st (AwaitsRequest o) seqn payload c s e f r = tt
reads_well config side own_id m st (AwaitsValue o gex) seqn payload c s e f r = tt
reads_well config side own_id m st (AwaitsNewkeys exchange made host) seqn payload c s e f r = tt

-- Where two valid configurations choose names, no message that a stage awaits of the other side is refused but for the
-- parts or for want of memory.
pub refused_by_parts : (says : Says) (denies : Denies) (config : Side → Config) (side : Side) (own_id : List ℕ) (m : Names) (st : SideState) (stage : Stage) (payload : List ℕ) (e : Error) → IsWithin (offers_of Client (config Client)) → IsWithin (offers_of Server (config Server)) → HasSizes (config (other_side side)) → chosen_by (config Client) (config Server) ≡ Ok m → length payload ≤ longest_payload → IsReadable (other_side side) (config (other_side side)) stage payload
    → ((k : List ℕ) → stage ≡ Created k → st.records ≡ [] → next_number st.reading.number ≡ 1)
    → RefusesMessage says denies (setting side (config side) own_id st) stage (next_number st.reading.number) payload e → PartsRefuse says denies (setting side (config side) own_id st) stage (next_number st.reading.number) payload e
refused_by_parts says denies config side own_id m st stage payload e c s sizes chosen l r f h =
    only_parts_refuse says denies (setting side (config side) own_id st) stage (next_number st.reading.number) payload (other_side side) (config (other_side side)) e sizes r (groups_short (other_side side) (config (other_side side)) stage payload (omega (arith, l)) r) (reads_well config side own_id m st stage (next_number st.reading.number) payload c s chosen f r) h
