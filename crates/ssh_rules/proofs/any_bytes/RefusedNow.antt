-- Why a side refuses a packet by the rules, read off its report.
use Rattle.std.proofs.Common.{◌≡◌, ℕ, ◌-◌, ◌<◌, List, [], ◌∷◌, ◌++◌, length, slice_get, refl, sym, ◌∙◌, ap, subst, arith, Bool, true, false, if◌then◌else◌, is_some, Option, Some, None, Ok, Err, inl, inr, append_assoc}
use Rattle.ssh_packet.specs.Sealing.{Item, longest_payload, next_number}
use Rattle.ssh_packet.specs.Stream.{Place, message_type}
use Rattle.ssh_wire.specs.Lines.{id_text}
use Rattle.ssh_wire.specs.Sides.{other_side}
use Rattle.ssh_wire.specs.declared.error.EncodingFault.{EncodingFault}
use Rattle.ssh_wire.specs.declared.error.Error.{Error}
use Rattle.ssh_wire.specs.declared.error.Error.TheVariants as errors
use Rattle.ssh_wire.specs.declared.side.Side.{Side}
use Rattle.ssh_wire.specs.declared.side.Side.TheVariants.{Client, Server}
use Rattle.ssh_negotiate.specs.Causes.{was_strict}
use Rattle.ssh_negotiate.specs.Reading.{names_read}
use Rattle.ssh_negotiate.specs.declared.kex.Name.{Name as KexName}
use Rattle.ssh_negotiate.specs.declared.negotiation.Names.{Names}
use Rattle.ssh_kex.specs.Exchange.{exchange_hash}
use Rattle.ssh_kex.specs.Messages.{group_message, host_with, is_gex, newkeys, presented, reply_message, value_message}
use Rattle.ssh_kex.specs.Parts.{HasItsGroup, IsSmall}
use Rattle.ssh_kex.specs.Refusals.{Denies, IsBadlyEncoded, IsCreated, IsDue, IsLate, IsOutOfRange, IsTooLong, IsUnoffered, IsWrong, PartDenies, RefusesMessage, SignatureDenied, SigningDenied, awaited, is_last, kexinit_read}
use Rattle.ssh_kex.specs.Fields.{fields, sizes_in}
use Rattle.ssh_kex.specs.Setting.{Says, Opened, exchange_of, group_of, offers_of}
use Rattle.ssh_kex.specs.Signature.{judged}
use Rattle.ssh_kex.specs.Stages.{IsFirst, Stage, Created, AwaitsGroup, AwaitsReply, AwaitsRequest, AwaitsValue, AwaitsNewkeys, drops_guess, names_in_stage}
use Rattle.ssh_kex.specs.declared.config.Config.{Config}
use Rattle.ssh_kex.specs.declared.exchange.FinishedExchange.{FinishedExchange}
use Rattle.ssh_kex.specs.declared.exchange.GexChosen.{GexChosen}
use Rattle.ssh_kex.specs.declared.exchange.ServerHost.{ServerHost}
use Rattle.ssh_kex.specs.declared.group.DhGroup.{DhGroup}
use Rattle.ssh_kex.specs.declared.group.GexParams.{GexParams}
use Rattle.ssh_rules.specs.AttackCauses.{BadlyEncodedNow, Due, KexinitDue, RequestDue, GroupDue, ValueDue, ReplyDue, NewkeysDue, DeniesStart, IsDueNow, IsInsideOne, IsLateNow, IsMisplaced, IsMissignedNow, IsOutOfOrder, IsTaken, IsTooLongNow, IsUntrustedNow, IsWrongNow, KexinitReads, MayDeliverNow, NumberIs, PartDeniesNow, PartsDo, RefusesNow, Seen, Speaks, done_by, dropped_by, due_in, is_newkeys_due, names_by, open_block, own_block, type_due}
use Rattle.ssh_rules.specs.Attacked.{block_names, kind_in}
use Rattle.ssh_rules.specs.ExchangeMessages.{groups, requests}
use Rattle.ssh_rules.specs.Guess.{BeforeKexinit, Guess, guess_behind}
use Rattle.ssh_rules.specs.Log.{handled}
use Rattle.ssh_rules.specs.Machine.{Event, InOrder, Inside, MayDeliver, OrderBy, Outside, SideState, Silent, Where, cause_of, guesses, id_or_none, names_now, setting}
use Rattle.ssh_rules.specs.MessageTypes.{is_kex_type, type_of, is_violation}
use Rattle.ssh_rules.specs.Refused.{LooksIn}
use Rattle.ssh_rules.specs.Refusing.{BreaksOrder, IsOutOfPlace, IsUntrusted, RefusesPacket, RefusesTaken}
use Rattle.ssh_rules.specs.Valid.{some_blob_long}
use Rattle.ssh_rules.proofs.refusals.Obliged.{presented_short, reply_length}
use Rattle.ssh_rules.proofs.side.Discharged.{reads_unmarked}
use Rattle.ssh_rules.proofs.any_bytes.Guessing.{GuessAt, awaits}
use Rattle.ssh_rules.proofs.any_bytes.SeenSides.{NoneAtEnd, Shows, StageSeen, created_seen, due_of, guesses_are, holds_host, holds_kex, holds_strict, no_guess, replied, seen_of, stage_seen}
use Rattle.ssh_rules.proofs.side.StageFits.{FitsStage, FitsWhere, Holds, its_group}

-- what the parts do over the whole run, by what they deny in a step
pub record TellsParts (says : Says) (denies : Denies) (untrusted : ServerHost → Type 0) (p : PartsDo) (side : Side) (config : Config) : Type 0 where
  pub start : (n : KexName) (q : Option DhGroup) → denies.start n q → p.rises.agreement × (p.obliging q → HasItsGroup n q → says.offers n → ⊥)
  pub value : (n : KexName) (q : Option DhGroup) (c : List ℕ) → denies.value n q c → p.rises.agreement × (p.obliging q → HasItsGroup n q → says.offers n → (local : List ℕ) → p.client_makes n q local c → ⊥)
  pub reply : (n : KexName) (q : Option DhGroup) (local v : List ℕ) → denies.reply n q local v → p.rises.agreement × (p.obliging q → HasItsGroup n q → says.offers n → (c : List ℕ) → p.client_makes n q local c → p.server_makes n q c v → ⊥)
  pub lookup : (sizes : GexParams) → denies.lookup sizes → p.rises.lookup × (p.obliging_lookup → ⊥)
  pub sign : side ≡ Server → denies.sign config → p.rises.signing × (p.signs → ⊥)
  pub verify : (host : ServerHost) (hash signature : List ℕ) → denies.verify host hash signature → p.rises.verifying × (p.judges → p.accepts host hash signature ≡ true → ⊥)
  pub check : (host : ServerHost) → untrusted host → p.rises.checking × (p.judges → p.trusts host ≡ true → ⊥)
  pub offers : (n : KexName) → p.offers n → says.offers n
  pub obliging_lawful : (q : Option DhGroup) → p.obliging q → p.lawful
  pub makes : (n : KexName) (q : Option DhGroup) (local c : List ℕ) → p.lawful → says.client_makes n q local c → p.client_makes n q local c
  pub agrees : (n : KexName) (q : Option DhGroup) (c v x : List ℕ) → p.lawful → says.agrees n q c v x → p.agrees n q c v x
  pub value_small : (v : List ℕ) → p.lawful → says.value_small v → IsSmall v
  pub signature_small : (v : List ℕ) → p.lawful_hosts → says.signature_small v → IsSmall v
  pub finds : (sizes : GexParams) (q : DhGroup) → p.lawful_lookup → says.finds sizes q → q ≡ p.group sizes

-- ---- where the packet is looked at

-- by a stage that the message is looked at in
pub record LooksHere (says : Says) (side : Side) (config : Config) (heard : List ℕ) (log : List Event) (at : SideState) (stage : Stage) : Type 0 where
  pub shown : Shows says side config heard log at
  pub looks : LooksIn at.stands stage
  pub due : due_in (seen_of side config heard log) (handled log) ≡ due_of stage
  pub type_is : awaited stage ≡ type_due (kind_in (names_by (seen_of side config heard log) (handled log))) (due_of stage)
  pub guess : GuessAt (Inside stage) (guess_behind side config BeforeKexinit (handled log))

looks_at : (stage : Stage) (w : Where) (g : Guess) → LooksIn w stage → GuessAt w g → GuessAt (Inside stage) g
looks_at stage w g (inl e) at = subst (λ x. GuessAt x g) e at
looks_at stage w g (inr o) at = subst (λ s. GuessAt (Inside s) g) (sym o.1.1) (subst (λ x. GuessAt x g) o.0 at)

seen_here : (says : Says) (side : Side) (config : Config) (heard : List ℕ) (log : List Event) (at : SideState) (stage : Stage) → (s : Shows says side config heard log at) → LooksIn at.stands stage → StageSeen side config (was_strict (cause_of at.records)) stage s.trace.theirs
seen_here says side config heard log at stage s (inl e) = stage_seen says side config (id_text config.id) at stage s.trace.own s.trace.theirs (subst (λ x. FitsWhere says (setting side config (id_text config.id) at) x s.trace.own s.trace.theirs) e s.fits)
seen_here says side config heard log at stage s (inr o) =
    let f = subst (λ x. FitsWhere says (setting side config (id_text config.id) at) x s.trace.own s.trace.theirs) o.0 s.fits in
    subst (λ q. StageSeen side config (was_strict (cause_of at.records)) q s.trace.theirs) (sym o.1.1) (subst (StageSeen side config (was_strict (cause_of at.records)) (Created o.1.0)) (sym f.theirs_is) (created_seen side config (was_strict (cause_of at.records)) o.1.0))

pub looks_here : (says : Says) (side : Side) (config : Config) (heard : List ℕ) (log : List Event) (at : SideState) (stage : Stage) → (s : Shows says side config heard log at) → LooksIn at.stands stage → LooksHere says side config heard log at stage
looks_here says side config heard log at stage s l =
    let q = seen_here says side config heard log at stage s l in
    record {
      shown = s;
      looks = l;
      due = ap (λ n. Rattle.ssh_rules.specs.AttackCauses.due_by side (kind_in n) (length (open_block (seen_of side config heard log) (handled log)))) s.names ∙ (ap (λ b. Rattle.ssh_rules.specs.AttackCauses.due_by side (kind_in (block_names side config (was_strict (cause_of at.records)) s.trace.theirs)) (length b)) s.open_is ∙ q.due);
      type_is = q.type_is ∙ ap (λ n. type_due (kind_in n) (due_of stage)) (sym s.names);
      guess = looks_at stage at.stands (guess_behind side config BeforeKexinit (handled log)) l s.guess;
    }

-- ---- the strict order

some_is : (x : Option Place) (p q : Place) → x ≡ Some p → x ≡ Some q → p ≡ q
some_is x p q e f = (let z : Some p ≡ Some q = sym e ∙ f in cc)

-- the guess that is to come, by the names that the stage holds; behind the last message none is
awaits_now : (m n : Names) → Some m ≡ Some n → awaits m.ignore_guessed ≡ awaits n.ignore_guessed
awaits_now m n e = (let r : m ≡ n = cc in ap (λ (x : Names). awaits x.ignore_guessed) r)

held_guess : (stage : Stage) (n read : Names) (g : Guess) → names_in_stage stage ≡ Some n → NoneAtEnd stage n → Holds read n → GuessAt (Inside stage) g → (read.guessed_ignored ≡ false) → guesses n ≡ dropped_by g read
held_guess (Created own) n read g e end h at none = absurd (let z : None ≡ Some n = e in cc)
held_guess (AwaitsGroup o) n read g e end h at none = guesses_are g read n none h (at ∙ awaits_now o.names n e)
held_guess (AwaitsReply o gex l p) n read g e end h at none = guesses_are g read n none h (at ∙ awaits_now o.names n e)
held_guess (AwaitsRequest o) n read g e end h at none = guesses_are g read n none h (at ∙ awaits_now o.names n e)
held_guess (AwaitsValue o gex) n read g e end h at none = guesses_are g read n none h (at ∙ awaits_now o.names n e)
held_guess (AwaitsNewkeys x made host) n read g e end h at none = guesses_are g read n none h (at ∙ ap awaits (sym end))

-- the names that are held now, and those that were read
record NamesHere (says : Says) (side : Side) (config : Config) (heard : List ℕ) (log : List Event) (at : SideState) (n : Names) : Type 0 where
  pub read : Names
  pub names : names_by (seen_of side config heard log) (handled log) ≡ Some read
  pub holds : Holds read n
  pub dropped : guesses n ≡ dropped_by (guess_behind side config BeforeKexinit (handled log)) read

names_here : (says : Says) (side : Side) (config : Config) (heard : List ℕ) (log : List Event) (at : SideState) (n : Names) → (s : Shows says side config heard log at) → names_now at.stands ≡ Some n → NamesHere says side config heard log at n
names_here says side config heard log at n s e = by at.stands refl (names_now at.stands) e refl where
  by : (w : Where) → at.stands ≡ w → (q : Option Names) → q ≡ Some n → names_now at.stands ≡ q → NamesHere says side config heard log at n
  by Silent i q f k = absurd (s.not_silent i)
  by Outside i q f k = absurd (let z : None ≡ Some n = sym (ap names_now i) ∙ (k ∙ f) in cc)
  by (Inside stage) i q f k =
      let seen = seen_here says side config heard log at stage s (inl i) in
      let named : names_in_stage stage ≡ Some n = sym (ap names_now i) ∙ (k ∙ f) in
      let m = seen.names n named in
      record {
        read = m.0;
        names = s.names ∙ m.2;
        holds = m.4;
        dropped = held_guess stage n m.0 (guess_behind side config BeforeKexinit (handled log)) named (seen.at_end n named) m.4 (subst (λ w. GuessAt w (guess_behind side config BeforeKexinit (handled log))) i s.guess) (reads_unmarked side config (was_strict (cause_of at.records)) m.1 m.0 m.3);
      }

no_items : (xs : List FinishedExchange) (n : ℕ) → n ≡ length xs → n ≡ 0 → xs ≡ []
no_items [] n e f = refl
no_items (x ∷ xs) n e f = absurd (omega (arith, e, f))

-- out of order by the rules
out_of_order : (says : Says) (side : Side) (config : Config) (heard : List ℕ) (log : List Event) (at : SideState) (i : Item) (e : Error) → (s : Shows says side config heard log at) → (b : BreaksOrder side at i e) → IsOutOfOrder (seen_of side config heard log) (handled log) i (at.reading.number - guesses b.names)
out_of_order says side config heard log at i e s b =
    let n = names_here says side config heard log at b.names s b.read in
    record {
      first = s.done ∙ ap length b.first;
      names = n.read;
      read = n.names;
      strict = holds_strict n.read b.names n.holds ∙ b.strict;
      number = at.reading.number;
      number_is = s.number;
      place_is = ap (λ q. at.reading.number - q) n.dropped;
      stays = b.stays;
      violates = b.violates;
    }

-- the names of a side that has read a KEXINIT
some_names : (says : Says) (side : Side) (config : Config) (heard : List ℕ) (log : List Event) (at : SideState) (read : Names) → (s : Shows says side config heard log at) → names_by (seen_of side config heard log) (handled log) ≡ Some read → (n : Names) × (names_now at.stands ≡ Some n)
some_names says side config heard log at read s e = by at.stands refl where
  theirs : block_names side config (was_strict (cause_of at.records)) s.trace.theirs ≡ Some read
  theirs = sym s.names ∙ e

  nothing : s.trace.theirs ≡ [] → ⊥
  nothing z = (let q : None ≡ Some read = sym (ap (block_names side config (was_strict (cause_of at.records))) z) ∙ theirs in cc)

  by_names : (stage : Stage) → at.stands ≡ Inside stage → (q : Option Names) → names_in_stage stage ≡ q → (n : Names) × (names_now at.stands ≡ Some n)
  by_names stage i (Some n) k = (n, ap names_now i ∙ k)
  by_names stage i None k = absurd (nothing (created stage i k)) where
    created : (stage : Stage) → at.stands ≡ Inside stage → names_in_stage stage ≡ None → s.trace.theirs ≡ []
    created (Created own) j m = (subst (λ x. FitsWhere says (setting side config (id_text config.id) at) x s.trace.own s.trace.theirs) j s.fits).theirs_is
    created (AwaitsGroup o) j m = absurd (let z : Some o.names ≡ None = m in cc)
    created (AwaitsReply o gex l p) j m = absurd (let z : Some o.names ≡ None = m in cc)
    created (AwaitsRequest o) j m = absurd (let z : Some o.names ≡ None = m in cc)
    created (AwaitsValue o gex) j m = absurd (let z : Some o.names ≡ None = m in cc)
    created (AwaitsNewkeys x made h) j m = absurd (let z : Some made.names ≡ None = m in cc)

  by : (w : Where) → at.stands ≡ w → (n : Names) × (names_now at.stands ≡ Some n)
  by Silent i = absurd (s.not_silent i)
  by Outside i = absurd (nothing (subst (λ x. FitsWhere says (setting side config (id_text config.id) at) x s.trace.own s.trace.theirs) i s.fits).theirs_is)
  by (Inside stage) i = by_names stage i (names_in_stage stage) refl

same_names : (m n : Names) → Some m ≡ Some n → m ≡ n
same_names m n e = cc

true_false : (b : Bool) → b ≡ true → b ≡ false → ⊥
true_false b e f = (let z : true ≡ false = sym e ∙ f in cc)

-- what passes the order test isn't
pub not_out : (says : Says) (side : Side) (config : Config) (heard : List ℕ) (log : List Event) (at : SideState) (i : Item) → (s : Shows says side config heard log at) → InOrder side at i → (place : ℕ) → IsOutOfOrder (seen_of side config heard log) (handled log) i place → ⊥
not_out says side config heard log at i s order place o =
    let n = some_names says side config heard log at o.names s o.read in
    let h = names_here says side config heard log at n.0 s n.1 in
    let same : h.read ≡ o.names = same_names h.read o.names (sym h.names ∙ o.read) in
    let p : o.number_is.0 ≡ s.number.0 = some_is _ o.number_is.0 s.number.0 o.number_is.1 s.number.1 in
    let number : o.number ≡ at.reading.number = sym o.number_is.2 ∙ (ap (λ (q : Place). q.number) p ∙ s.number.2) in
    let test = subst (λ q. OrderBy side at.reading.number i q (Some n.0)) (no_items at.records _ s.done o.first) (subst (λ q. OrderBy side at.reading.number i at.records q) n.1 order) in
    let strict : (n.0).strict_kex ≡ true = sym (holds_strict h.read n.0 h.holds) ∙ (ap (λ (m : Names). m.strict_kex) same ∙ o.strict) in
    let where_is : place ≡ at.reading.number - guesses n.0 = o.place_is ∙ (ap (λ q. q - dropped_by (guess_behind side config BeforeKexinit (handled log)) o.names) number ∙ ap (λ q. at.reading.number - q) (ap (λ m. dropped_by (guess_behind side config BeforeKexinit (handled log)) m) (sym same) ∙ sym h.dropped)) in
    true_false (is_violation (other_side side) (type_of i) place) o.violates (ap (is_violation (other_side side) (type_of i)) where_is ∙ test strict)

-- ---- a message of an exchange

-- the state by whether an exchange is open
inside_of : (says : Says) (side : Side) (config : Config) (heard : List ℕ) (log : List Event) (at : SideState) (i : Item) → (s : Shows says side config heard log at) → (at.stands ≡ Outside → type_of i ≡ 20) → (IsInsideOne (seen_of side config heard log) (handled log) → ⊥) → type_of i ≡ 20
inside_of says side config heard log at i s begins not = by at.stands refl where
  by : (w : Where) → at.stands ≡ w → type_of i ≡ 20
  by Silent e = absurd (s.not_silent e)
  by Outside e = begins e
  by (Inside stage) e = absurd (not (s.inside stage e))

pub taken_here : (says : Says) (denies : Denies) (side : Side) (config : Config) (heard : List ℕ) (log : List Event) (at : SideState) (i : Item) (e : Error) → (s : Shows says side config heard log at) → (r : RefusesTaken says denies side config at i e) → drops_guess r.stage ≡ false → IsTaken (seen_of side config heard log) (handled log) i
taken_here says denies side config heard log at i e s r d =
    let l = looks_here says side config heard log at r.stage s r.looks in
    record {
      is_kex = r.is_kex;
      no_guess = no_guess r.stage (guess_behind side config BeforeKexinit (handled log)) i d l.guess;
      begins = inside_of says side config heard log at i s r.begins;
      ordered = not_out says side config heard log at i s r.ordered;
    }

due_here : (says : Says) (denies : Denies) (side : Side) (config : Config) (heard : List ℕ) (log : List Event) (at : SideState) (i : Item) (e : Error) → (s : Shows says side config heard log at) → (r : RefusesTaken says denies side config at i e) → IsDue r.stage i.payload → IsDueNow (seen_of side config heard log) (handled log) i (due_of r.stage)
due_here says denies side config heard log at i e s r d =
    let l = looks_here says side config heard log at r.stage s r.looks in
    record { taken = taken_here says denies side config heard log at i e s r d.kept; due_is = l.due; type_is = d.type_is ∙ l.type_is }

wrong_here : (says : Says) (denies : Denies) (side : Side) (config : Config) (heard : List ℕ) (log : List Event) (at : SideState) (i : Item) (e : Error) → (s : Shows says side config heard log at) → (r : RefusesTaken says denies side config at i e) → IsWrong r.stage i.payload → IsWrongNow (seen_of side config heard log) (handled log) i
wrong_here says denies side config heard log at i e s r w =
    let l = looks_here says side config heard log at r.stage s r.looks in
    record {
      taken = taken_here says denies side config heard log at i e s r w.kept;
      type_not = λ f. w.type_is (f ∙ (ap (λ d. type_due (kind_in (names_by (seen_of side config heard log) (handled log))) d) l.due ∙ sym l.type_is));
    }

last_due : (stage : Stage) → is_newkeys_due (due_of stage) ≡ is_last stage
last_due (Created own) = refl
last_due (AwaitsGroup o) = refl
last_due (AwaitsReply o gex l p) = refl
last_due (AwaitsRequest o) = refl
last_due (AwaitsValue o gex) = refl
last_due (AwaitsNewkeys e x h) = refl

-- a row of the due message, as the table has it
at_due : (P : Due → Type 0) (a b : Due) → a ≡ b → P b → P a
at_due P a b e h = subst P (sym e) h

-- ---- a KEXINIT

-- what is read of one
pub kexinit_as : (says : Says) (side : Side) (config : Config) (heard : List ℕ) (log : List Event) (at : SideState) (i : Item) (r : Rattle.std.specs.Prelude.Result Names Rattle.ssh_negotiate.specs.Reading.KexinitFault) → (s : Shows says side config heard log at) → kexinit_read (setting side config (id_text config.id) at) i.payload ≡ r → KexinitReads (seen_of side config heard log) (handled log) i r
kexinit_as says side config heard log at i r s e = ap (λ b. names_read side (offers_of side config) b i.payload) s.strict ∙ (by side ∙ e) where
  by : (d : Side) → names_read d (offers_of d config) (was_strict (cause_of at.records)) i.payload ≡ kexinit_read (setting d config (id_text config.id) at) i.payload
  by Client = refl
  by Server = refl

pub setting_config : (side : Side) (config : Config) (own_id : List ℕ) (at : SideState) → (setting side config own_id at).config ≡ config
setting_config Client config own_id at = refl
setting_config Server config own_id at = refl

setting_side : (side : Side) (config : Config) (own_id : List ℕ) (at : SideState) → (setting side config own_id at).side ≡ side
setting_side Client config own_id at = refl
setting_side Server config own_id at = refl

setting_cause : (side : Side) (config : Config) (own_id : List ℕ) (at : SideState) → (setting side config own_id at).cause ≡ cause_of at.records
setting_cause Client config own_id at = refl
setting_cause Server config own_id at = refl

-- ---- what was said

append_line : (a b : List (List ℕ)) (x y : List ℕ) → (a ++ x ∷ []) ++ y ∷ [] ≡ a ++ x ∷ y ∷ []
append_line a b x y = append_assoc a (x ∷ []) (y ∷ [])

-- a client that waits for the reply
client_speaks : (says : Says) (config : Config) (heard : List ℕ) (log : List Event) (at : SideState) (o : Opened) (gex : Option GexChosen) (local public value host signature : List ℕ) → (s : Shows says Client config heard log at) → at.stands ≡ Inside (AwaitsReply o gex local public)
    → Speaks (seen_of Client config heard log) (handled log) (exchange_of (setting Client config (id_text config.id) at) o gex public value) host signature
client_speaks says config heard log at o gex local public value host signature s e =
    let f : FitsStage says (setting Client config (id_text config.id) at) (AwaitsReply o gex local public) s.trace.own s.trace.theirs = subst (λ x. FitsWhere says (setting Client config (id_text config.id) at) x s.trace.own s.trace.theirs) e s.fits in
    let seen = seen_here says Client config heard log at (AwaitsReply o gex local public) s (inl e) in
    let n = seen.names o.names refl in
    record {
      client_id = refl;
      server_id = ap id_or_none s.heard_is;
      kind = sym f.kind ∙ (ap is_gex (sym (holds_kex n.0 o.names n.4)) ∙ ap kind_in (sym (s.names ∙ n.2)));
      own_is = (newkeys ∷ [], ap (λ q. q ++ newkeys ∷ []) (s.own_is ∙ f.own_is) ∙ append_assoc (o.own_kexinit ∷ requests gex) (value_message (is_some gex) public ∷ []) (newkeys ∷ []));
      read_is = (reply_message (is_some gex) host value signature ∷ newkeys ∷ [], ap (λ q. q ++ reply_message (is_some gex) host value signature ∷ newkeys ∷ []) (s.open_is ∙ f.theirs_is));
    }

-- a server that waits for the client's value
server_speaks : (says : Says) (config : Config) (heard : List ℕ) (log : List Event) (at : SideState) (o : Opened) (gex : Option GexChosen) (value : List ℕ) → (s : Shows says Server config heard log at) → at.stands ≡ Inside (AwaitsValue o gex)
    → Speaks (seen_of Server config heard log) (handled log) (exchange_of (setting Server config (id_text config.id) at) o gex value []) [] []
server_speaks says config heard log at o gex value s e =
    let f : FitsStage says (setting Server config (id_text config.id) at) (AwaitsValue o gex) s.trace.own s.trace.theirs = subst (λ x. FitsWhere says (setting Server config (id_text config.id) at) x s.trace.own s.trace.theirs) e s.fits in
    let seen = seen_here says Server config heard log at (AwaitsValue o gex) s (inl e) in
    let n = seen.names o.names refl in
    record {
      client_id = ap id_or_none s.heard_is;
      server_id = refl;
      kind = sym f.kind ∙ (ap is_gex (sym (holds_kex n.0 o.names n.4)) ∙ ap kind_in (sym (s.names ∙ n.2)));
      own_is = (reply_message (is_some gex) [] [] [] ∷ newkeys ∷ [], ap (λ q. q ++ reply_message (is_some gex) [] [] [] ∷ newkeys ∷ []) (s.own_is ∙ f.own_is));
      read_is = (value_message (is_some gex) value ∷ newkeys ∷ [], ap (λ q. q ++ value_message (is_some gex) value ∷ newkeys ∷ []) (s.open_is ∙ f.theirs_is));
    }

-- ---- the parts

named_not : {A : Type 0} (n : Names) → Some n ≡ None → A
named_not n e = cc

-- a stage that knows names is the open exchange's
inside_at : (stage : Stage) (w : Where) (n : Names) → names_in_stage stage ≡ Some n → LooksIn w stage → w ≡ Inside stage
inside_at stage w n e (inl l) = l
inside_at stage w n e (inr o) = absurd (let z : Some n ≡ None = sym e ∙ ap names_in_stage o.1.1 in named_not n z)

fits_inside : (says : Says) (side : Side) (config : Config) (heard : List ℕ) (log : List Event) (at : SideState) (stage : Stage) → (s : Shows says side config heard log at) → at.stands ≡ Inside stage → FitsStage says (setting side config (id_text config.id) at) stage s.trace.own s.trace.theirs
fits_inside says side config heard log at stage s e = subst (λ x. FitsWhere says (setting side config (id_text config.id) at) x s.trace.own s.trace.theirs) e s.fits

abbrev PartRow : PartsDo → Side → Config → List ℕ → List Event → Item → Due → Type 0
PartRow p side config heard log i due = PartDeniesNow p (seen_of side config heard log) (handled log) i due

part_created : (says : Says) (denies : Denies) (untrusted : ServerHost → Type 0) (p : PartsDo) (side : Side) (config : Config) (heard : List ℕ) (log : List Event) (at : SideState) (i : Item) (own : List ℕ) (seqn : ℕ) → TellsParts says denies untrusted p side config → (s : Shows says side config heard log at) → PartDenies says denies (setting side config (id_text config.id) at) (Created own) seqn i.payload → PartRow p side config heard log i KexinitDue
part_created says denies untrusted p side config heard log at i own seqn tell s d =
    let t = tell.start d.names.kex None d.denied in
    (d.names, kexinit_as says side config heard log at i (Ok d.names) s d.reads.read, d.plain, record { client = sym (setting_side side config (id_text config.id) at) ∙ d.client; rose = t.0; only = λ o. t.1 o d.plain d.offered })

part_group : (says : Says) (denies : Denies) (untrusted : ServerHost → Type 0) (p : PartsDo) (side : Side) (config : Config) (heard : List ℕ) (log : List Event) (at : SideState) (i : Item) (o : Opened) (seqn : ℕ) → TellsParts says denies untrusted p side config → (s : Shows says side config heard log at) → at.stands ≡ Inside (AwaitsGroup o) → PartDenies says denies (setting side config (id_text config.id) at) (AwaitsGroup o) seqn i.payload → PartRow p side config heard log i GroupDue
part_group says denies untrusted p side config heard log at i o seqn tell s e d =
    let f = fits_inside says side config heard log at (AwaitsGroup o) s e in
    let t = tell.start o.names.kex (Some d.group) d.denied in
    (d.group, d.read, subst (λ c. Rattle.ssh_kex.specs.Fields.IsInside c.gex d.group) (setting_config side config (id_text config.id) at) d.inside, record { client = sym (setting_side side config (id_text config.id) at) ∙ f.client; rose = t.0; only = λ b. t.1 b f.kind f.opened.offered })

part_request : (says : Says) (denies : Denies) (untrusted : ServerHost → Type 0) (p : PartsDo) (side : Side) (config : Config) (heard : List ℕ) (log : List Event) (at : SideState) (i : Item) (o : Opened) (seqn : ℕ) → TellsParts says denies untrusted p side config → PartDenies says denies (setting side config (id_text config.id) at) (AwaitsRequest o) seqn i.payload → PartRow p side config heard log i RequestDue
part_request says denies untrusted p side config heard log at i o seqn tell d = (let t = tell.lookup d.sizes d.denied in (d.sizes, d.read, t.0, t.1))

part_reply : (says : Says) (denies : Denies) (untrusted : ServerHost → Type 0) (p : PartsDo) (side : Side) (config : Config) (heard : List ℕ) (log : List Event) (at : SideState) (i : Item) (o : Opened) (gex : Option GexChosen) (local public : List ℕ) (seqn : ℕ) → TellsParts says denies untrusted p side config → (s : Shows says side config heard log at) → at.stands ≡ Inside (AwaitsReply o gex local public) → PartDenies says denies (setting side config (id_text config.id) at) (AwaitsReply o gex local public) seqn i.payload → PartRow p side config heard log i ReplyDue
part_reply says denies untrusted p Client config heard log at i o gex local public seqn tell s e d =
    let f = fits_inside says Client config heard log at (AwaitsReply o gex local public) s e in
    let seen = seen_here says Client config heard log at (AwaitsReply o gex local public) s (inl e) in
    let n = seen.names o.names refl in
    let t = tell.reply o.names.kex (group_of gex) local d.front.value d.denied in (
      n.0,
      s.names ∙ n.2,
      record {
        front = d.front;
        read = d.read;
        exchange = exchange_of (setting Client config (id_text config.id) at) o gex public d.front.value;
        host = d.front.host;
        signature = [];
        speaks = client_speaks says config heard log at o gex local public d.front.value d.front.host [] s e;
        value_is = refl;
        rose = t.0;
        only = λ b m. t.1 b (its_group o.names.kex gex f.kind) f.opened.offered public (tell.makes o.names.kex (group_of gex) local public (tell.obliging_lawful (group_of gex) b) f.makes) (subst (λ k. p.server_makes k (group_of gex) public d.front.value) (holds_kex n.0 o.names n.4) m);
      },
    )
part_reply says denies untrusted p Server config heard log at i o gex local public seqn tell s e d = absurd (let f = (fits_inside says Server config heard log at (AwaitsReply o gex local public) s e).client in let z : Server ≡ Client = f in cc)

part_value : (says : Says) (denies : Denies) (untrusted : ServerHost → Type 0) (p : PartsDo) (side : Side) (config : Config) (heard : List ℕ) (log : List Event) (at : SideState) (i : Item) (o : Opened) (gex : Option GexChosen) (seqn : ℕ) → TellsParts says denies untrusted p side config → (s : Shows says side config heard log at) → at.stands ≡ Inside (AwaitsValue o gex) → PartDenies says denies (setting side config (id_text config.id) at) (AwaitsValue o gex) seqn i.payload → PartRow p side config heard log i ValueDue
part_value says denies untrusted p Server config heard log at i o gex seqn tell s e d =
    let f = fits_inside says Server config heard log at (AwaitsValue o gex) s e in
    let seen = seen_here says Server config heard log at (AwaitsValue o gex) s (inl e) in
    let n = seen.names o.names refl in
    let t = tell.value o.names.kex (group_of gex) d.value d.denied in (
      n.0,
      s.names ∙ n.2,
      record {
        exchange = exchange_of (setting Server config (id_text config.id) at) o gex d.value [];
        host = [];
        signature = [];
        speaks = server_speaks says config heard log at o gex d.value s e;
        value_is = d.read;
        rose = t.0;
        only = λ b l m. t.1 b (its_group o.names.kex gex f.kind) f.opened.offered l (subst (λ k. p.client_makes k (group_of gex) l d.value) (holds_kex n.0 o.names n.4) m);
      },
    )
part_value says denies untrusted p Client config heard log at i o gex seqn tell s e d = absurd (let f = (fits_inside says Client config heard log at (AwaitsValue o gex) s e).server in let z : Client ≡ Server = f in cc)

part_here : (says : Says) (denies : Denies) (untrusted : ServerHost → Type 0) (p : PartsDo) (side : Side) (config : Config) (heard : List ℕ) (log : List Event) (at : SideState) (i : Item) (stage : Stage) (seqn : ℕ) → TellsParts says denies untrusted p side config → (s : Shows says side config heard log at) → LooksIn at.stands stage → PartDenies says denies (setting side config (id_text config.id) at) stage seqn i.payload → PartRow p side config heard log i (due_of stage)
part_here says denies untrusted p side config heard log at i (Created own) seqn tell s l d = part_created says denies untrusted p side config heard log at i own seqn tell s d
part_here says denies untrusted p side config heard log at i (AwaitsGroup o) seqn tell s l d = part_group says denies untrusted p side config heard log at i o seqn tell s (inside_at (AwaitsGroup o) at.stands o.names refl l) d
part_here says denies untrusted p side config heard log at i (AwaitsReply o gex local public) seqn tell s l d = part_reply says denies untrusted p side config heard log at i o gex local public seqn tell s (inside_at (AwaitsReply o gex local public) at.stands o.names refl l) d
part_here says denies untrusted p side config heard log at i (AwaitsRequest o) seqn tell s l d = part_request says denies untrusted p side config heard log at i o seqn tell d
part_here says denies untrusted p side config heard log at i (AwaitsValue o gex) seqn tell s l d = part_value says denies untrusted p side config heard log at i o gex seqn tell s (inside_at (AwaitsValue o gex) at.stands o.names refl l) d
part_here says denies untrusted p side config heard log at i (AwaitsNewkeys e x h) seqn tell s l d = absurd d

-- ---- the signature, and the host

missigned_by : (says : Says) (denies : Denies) (untrusted : ServerHost → Type 0) (p : PartsDo) (side : Side) (config : Config) (heard : List ℕ) (log : List Event) (at : SideState) (i : Item) (o : Opened) (gex : Option GexChosen) (local public : List ℕ) → TellsParts says denies untrusted p side config → (s : Shows says side config heard log at) → at.stands ≡ Inside (AwaitsReply o gex local public) → SignatureDenied says denies (setting side config (id_text config.id) at) (AwaitsReply o gex local public) i.payload → IsMissignedNow p (seen_of side config heard log) (handled log) i
missigned_by says denies untrusted p Client config heard log at i o gex local public tell s e m =
    let f = fits_inside says Client config heard log at (AwaitsReply o gex local public) s e in
    let seen = seen_here says Client config heard log at (AwaitsReply o gex local public) s (inl e) in
    let n = seen.names o.names refl in
    let t = tell.verify _ _ _ m.denied in
    let x = exchange_of (setting Client config (id_text config.id) at) o gex public m.front.value in
    record {
      names = n.0;
      names_are = s.names ∙ n.2;
      front = m.front;
      signature = m.signature;
      read = m.read;
      rest = m.rest;
      exchange = exchange_of (setting Client config (id_text config.id) at) o gex public m.front.value;
      speaks = client_speaks says config heard log at o gex local public m.front.value m.front.host m.signature s e;
      value_is = refl;
      secret = m.secret;
      agree = λ l. subst (λ k. p.agrees k (group_of gex) public m.front.value m.secret) (sym (holds_kex n.0 o.names n.4)) (tell.agrees o.names.kex (group_of gex) public m.front.value m.secret l (m.agrees f.makes));
      rose = t.0;
      only = λ b a. t.1 b (subst (λ k. p.accepts (host_with o.names m.front.host) (exchange_hash k (exchange_of (setting Client config (id_text config.id) at) o gex public m.front.value) m.front.host (Some m.secret)) (judged m.signature) ≡ true) (holds_kex n.0 o.names n.4)
          (subst (λ h. p.accepts h (exchange_hash (n.0).kex (exchange_of (setting Client config (id_text config.id) at) o gex public m.front.value) m.front.host (Some m.secret)) (judged m.signature) ≡ true) (holds_host n.0 o.names m.front.host n.4) a));
    }
missigned_by says denies untrusted p Server config heard log at i o gex local public tell s e m = absurd (let f = (fits_inside says Server config heard log at (AwaitsReply o gex local public) s e).client in let z : Server ≡ Client = f in cc)

reply_there : (gex : Option GexChosen) (k host value signature : List ℕ) (kind : Bool) → kind ≡ is_some gex → slice_get (k ∷ (groups gex ++ reply_message (is_some gex) host value signature ∷ [])) (if kind then 2 else 1) ≡ Some (reply_message kind host value signature)
reply_there None k host value signature kind e = subst (λ b. slice_get (k ∷ reply_message false host value signature ∷ []) (if b then 2 else 1) ≡ Some (reply_message b host value signature)) (sym e) refl
reply_there (Some g) k host value signature kind e = subst (λ b. slice_get (k ∷ (groups (Some g) ++ reply_message true host value signature ∷ [])) (if b then 2 else 1) ≡ Some (reply_message b host value signature)) (sym e) refl

untrusted_by : (says : Says) (denies : Denies) (untrusted : ServerHost → Type 0) (p : PartsDo) (side : Side) (config : Config) (heard : List ℕ) (log : List Event) (at : SideState) (i : Item) (e : Error) → TellsParts says denies untrusted p side config → (s : Shows says side config heard log at) → IsUntrusted untrusted side at i e → IsUntrustedNow p (seen_of side config heard log) (handled log)
untrusted_by says denies untrusted p Client config heard log at i e tell s u =
    let f = fits_inside says Client config heard log at (AwaitsNewkeys u.exchange u.made (Some u.host)) s u.inside in
    let seen = seen_here says Client config heard log at (AwaitsNewkeys u.exchange u.made (Some u.host)) s (inl u.inside) in
    let n = seen.names u.made.names refl in
    let held : u.made.names ≡ f.names = ap (λ (y : FinishedExchange). y.names) f.made in
    let kex : (n.0).kex ≡ f.names.kex = holds_kex n.0 u.made.names n.4 ∙ ap (λ (m : Names). m.kex) held in
    let host : u.host ≡ host_with n.0 f.host = (let q : Some u.host ≡ Some (host_with f.names f.host) = f.host_is in let r : u.host ≡ host_with f.names f.host = cc in r) ∙ (ap (λ (m : Names). host_with m f.host) (sym held) ∙ sym (holds_host n.0 u.made.names f.host n.4)) in
    let t = tell.check u.host u.denied in
    record {
      client = refl;
      names = n.0;
      names_are = s.names ∙ n.2;
      host = f.host;
      value = u.exchange.server_ephemeral;
      signature = f.signature;
      reply = ap (λ b. slice_get b (if is_gex (n.0).kex then 2 else 1)) (s.open_is ∙ replied u.exchange (reply_message (is_some u.exchange.gex) f.host u.exchange.server_ephemeral f.signature) s.trace.theirs f.theirs_is)
          ∙ reply_there u.exchange.gex u.exchange.server_kex_init f.host u.exchange.server_ephemeral f.signature (is_gex (n.0).kex) (ap is_gex kex ∙ f.kind);
      rose = t.0;
      only = λ b a. t.1 b (subst (λ h. p.trusts h ≡ true) (sym host) a);
    }
untrusted_by says denies untrusted p Server config heard log at i e tell s u = absurd (let f = (fits_inside says Server config heard log at (AwaitsNewkeys u.exchange u.made (Some u.host)) s u.inside).host_is in cc)

-- ---- too long

abbrev LongRow : PartsDo → Item → ℕ → Due → Type 0
LongRow p i n due = IsTooLongNow p i n due

long_here : (says : Says) (denies : Denies) (untrusted : ServerHost → Type 0) (p : PartsDo) (side : Side) (config : Config) (at : SideState) (i : Item) (stage : Stage) (seqn n : ℕ) → TellsParts says denies untrusted p side config → some_blob_long config ≡ false → longest_payload < n → IsTooLong says (setting side config (id_text config.id) at) stage seqn i.payload n → LongRow p i n (due_of stage)
long_here says denies untrusted p side config at i (Created own) seqn n tell blobs l h = λ law. (let v = tell.value_small h.long.public law h.long.small in let e = h.long.size in omega (arith, l, v, e))
long_here says denies untrusted p side config at i (AwaitsGroup o) seqn n tell blobs l h = λ law. (let v = tell.value_small h.2.public law h.2.small in let e = h.2.size in omega (arith, l, v, e))
long_here says denies untrusted p side config at i (AwaitsReply o gex local public) seqn n tell blobs l h = h
long_here says denies untrusted p side config at i (AwaitsRequest o) seqn n tell blobs l h = (h.sizes, h.read, λ law. h.size ∙ ap (λ q. length (group_message q)) (tell.finds h.sizes h.group law h.finds))
long_here says denies untrusted p side config at i (AwaitsValue o gex) seqn n tell blobs l h = λ law hosts. (
    let b = presented_short config o.names.host_key_is_certificate o.names.key h.shown blobs (subst (λ c. presented c.host o.names.host_key_is_certificate o.names.key ≡ Some h.shown) (setting_config side config (id_text config.id) at) h.presents) in
    let v = tell.value_small h.own_value law h.value_small in
    let w = tell.signature_small h.signature hosts h.signature_small in
    let e = h.size in let f = reply_length (is_gex o.names.kex) h.shown.blob h.own_value h.signature in omega (arith, l, b, v, w, e, f))
long_here says denies untrusted p side config at i (AwaitsNewkeys x made host) seqn n tell blobs l h = absurd h

-- ---- badly encoded

bad_here : (says : Says) (side : Side) (config : Config) (heard : List ℕ) (log : List Event) (at : SideState) (i : Item) (stage : Stage) (fault : EncodingFault) → (s : Shows says side config heard log at) → IsBadlyEncoded (setting side config (id_text config.id) at) stage i.payload fault → BadlyEncodedNow (seen_of side config heard log) (handled log) i (due_of stage) fault
bad_here says side config heard log at i (Created own) fault s h = kexinit_as says side config heard log at i (Err (Rattle.ssh_negotiate.specs.Reading.Encoding fault)) s h
bad_here says side config heard log at i (AwaitsGroup o) fault s h = h
bad_here says side config heard log at i (AwaitsReply o gex local public) fault s h = h
bad_here says side config heard log at i (AwaitsRequest o) fault s h = h
bad_here says side config heard log at i (AwaitsValue o gex) fault s h = h
bad_here says side config heard log at i (AwaitsNewkeys x made host) fault s h = h

-- ---- a late KEXINIT

strict_late : (b : Bool) (seqn : ℕ) → ((b ≡ true → seqn ≡ 1) → ⊥) → (b ≡ true) × (seqn ≡ 1 → ⊥)
strict_late true seqn h = (refl, λ e. h (λ f. e))
strict_late false seqn h = absurd (h (λ f. absurd (let z : false ≡ true = f in cc)))

late_first : (records : List FinishedExchange) (strict : Bool) (seqn : ℕ) → (IsFirst (cause_of records) strict seqn → ⊥) → (records ≡ []) × (strict ≡ true) × (seqn ≡ 1 → ⊥)
late_first [] strict seqn h = (let l = strict_late strict seqn h in (refl, l.0, l.1))
late_first (x ∷ xs) strict seqn h = absurd (h tt)

-- ---- a message that its stage refuses, by its answer

row_at : (P : Due → Type 0) (a b : Due) → a ≡ b → P b → P a
row_at P a b e h = subst P (sym e) h

of_created : (stage : Stage) → IsCreated stage → due_of stage ≡ KexinitDue
of_created stage c = ap due_of c.1

-- a server that waits for the client's value signs its reply
inside_value : (w : Where) (stage : Stage) (o : Opened) (gex : Option GexChosen) → stage ≡ AwaitsValue o gex → LooksIn w stage → w ≡ Inside (AwaitsValue o gex)
inside_value w stage o gex q (inl e) = e ∙ ap Inside q
inside_value w stage o gex q (inr c) = absurd (let z : AwaitsValue o gex ≡ Created c.1.0 = sym q ∙ c.1.1 in cc)

unsigned_by : (says : Says) (denies : Denies) (untrusted : ServerHost → Type 0) (p : PartsDo) (side : Side) (config : Config) (heard : List ℕ) (log : List Event) (at : SideState) (o : Opened) (gex : Option GexChosen) → TellsParts says denies untrusted p side config → (s : Shows says side config heard log at) → at.stands ≡ Inside (AwaitsValue o gex) → denies.sign (setting side config (id_text config.id) at).config → p.rises.signing × (p.signs → ⊥)
unsigned_by says denies untrusted p Client config heard log at o gex tell s e d = absurd (let f = (fits_inside says Client config heard log at (AwaitsValue o gex) s e).server in let z : Client ≡ Server = f in cc)
unsigned_by says denies untrusted p Server config heard log at o gex tell s e d = tell.sign refl d

pub taken_now : (says : Says) (denies : Denies) (untrusted : ServerHost → Type 0) (p : PartsDo) (side : Side) (config : Config) (heard : List ℕ) (log : List Event) (at : SideState) (i : Item) (f e : Error) → TellsParts says denies untrusted p side config → some_blob_long config ≡ false → (s : Shows says side config heard log at) → (r : RefusesTaken says denies side config at i f)
    → RefusesMessage says denies (setting side config (id_text config.id) at) r.stage (next_number at.reading.number) i.payload e → (e ≡ errors.Memory → ⊥) → RefusesNow p (seen_of side config heard log) (handled log) i e
taken_now says denies untrusted p side config heard log at i f errors.KexInit tell blobs s r (inl h) not =
    let l = looks_here says side config heard log at r.stage s r.looks in
    inl (ap is_newkeys_due l.due ∙ (last_due r.stage ∙ h.0), wrong_here says denies side config heard log at i f s r h.1)
taken_now says denies untrusted p side config heard log at i f errors.KexInit tell blobs s r (inr h) not = inr (by r.stage refl h.1) where
  by : (stage : Stage) → r.stage ≡ stage → IsOutOfRange (setting side config (id_text config.id) at) stage i.payload → IsDueNow (seen_of side config heard log) (handled log) i GroupDue × ((g : DhGroup) × (Rattle.ssh_kex.specs.Fields.group_in (fields i.payload) ≡ Ok g) × Rattle.ssh_kex.specs.Fields.IsOutside config.gex g)
  by (Created own) q o = absurd o
  by (AwaitsGroup op) q o = (subst (IsDueNow (seen_of side config heard log) (handled log) i) (ap due_of q) (due_here says denies side config heard log at i f s r h.0), (o.0, o.1, subst (λ c. Rattle.ssh_kex.specs.Fields.IsOutside c.gex o.0) (setting_config side config (id_text config.id) at) o.2))
  by (AwaitsReply op gex l pu) q o = absurd o
  by (AwaitsRequest op) q o = absurd o
  by (AwaitsValue op gex) q o = absurd o
  by (AwaitsNewkeys x m ho) q o = absurd o
taken_now says denies untrusted p side config heard log at i f errors.UnknownAlgo tell blobs s r h not = by r.stage refl h.1 where
  by : (stage : Stage) → r.stage ≡ stage → IsUnoffered says (setting side config (id_text config.id) at) stage (next_number at.reading.number) i.payload → RefusesNow p (seen_of side config heard log) (handled log) i errors.UnknownAlgo
  by (Created own) q o = (subst (IsDueNow (seen_of side config heard log) (handled log) i) (ap due_of q) (due_here says denies side config heard log at i f s r h.0), (o.0, kexinit_as says side config heard log at i (Ok o.0) s o.1.read, λ w. o.2 (tell.offers (o.0).kex w)))
  by (AwaitsGroup op) q o = absurd o
  by (AwaitsReply op gex l pu) q o = absurd o
  by (AwaitsRequest op) q o = absurd o
  by (AwaitsValue op gex) q o = absurd o
  by (AwaitsNewkeys x m ho) q o = absurd o
taken_now says denies untrusted p side config heard log at i f (errors.NoCommonAlgo kind ours theirs) tell blobs s r h not =
    (subst (IsDueNow (seen_of side config heard log) (handled log) i) (of_created r.stage h.1) (due_here says denies side config heard log at i f s r h.0), kexinit_as says side config heard log at i _ s h.2)
taken_now says denies untrusted p side config heard log at i f errors.Version tell blobs s r h not = absurd h
taken_now says denies untrusted p side config heard log at i f errors.Kex tell blobs s r (inl h) not =
    let l = looks_here says side config heard log at r.stage s r.looks in
    inl (ap is_newkeys_due l.due ∙ (last_due r.stage ∙ h.0), wrong_here says denies side config heard log at i f s r h.1)
taken_now says denies untrusted p side config heard log at i f errors.Kex tell blobs s r (inr h) not =
    let l = looks_here says side config heard log at r.stage s r.looks in
    inr (row_at (λ d. IsDueNow (seen_of side config heard log) (handled log) i d × PartRow p side config heard log i d) _ _ l.due (due_here says denies side config heard log at i f s r h.0, part_here says denies untrusted p side config heard log at i r.stage (next_number at.reading.number) tell s r.looks h.1))
taken_now says denies untrusted p side config heard log at i f errors.PacketAuth tell blobs s r h not = absurd h
taken_now says denies untrusted p side config heard log at i f errors.Inconsistent tell blobs s r h not =
    inr (subst (IsDueNow (seen_of side config heard log) (handled log) i) (of_created r.stage h.1) (due_here says denies side config heard log at i f s r h.0), kexinit_as says side config heard log at i _ s h.2)
taken_now says denies untrusted p side config heard log at i f errors.IndexOutOfBounds tell blobs s r h not = absurd h
taken_now says denies untrusted p side config heard log at i f errors.UnknownKey tell blobs s r h not = absurd h
taken_now says denies untrusted p side config heard log at i f errors.WrongServerSig tell blobs s r h not = by r.stage refl h.1 where
  by : (stage : Stage) → r.stage ≡ stage → SignatureDenied says denies (setting side config (id_text config.id) at) stage i.payload → RefusesNow p (seen_of side config heard log) (handled log) i errors.WrongServerSig
  by (Created own) q o = absurd o
  by (AwaitsGroup op) q o = absurd o
  by (AwaitsReply op gex l pu) q o = (subst (IsDueNow (seen_of side config heard log) (handled log) i) (ap due_of q) (due_here says denies side config heard log at i f s r h.0), missigned_by says denies untrusted p side config heard log at i op gex l pu tell s (inside_at (AwaitsReply op gex l pu) at.stands op.names refl (subst (LooksIn at.stands) q r.looks)) o)
  by (AwaitsRequest op) q o = absurd o
  by (AwaitsValue op gex) q o = absurd o
  by (AwaitsNewkeys x m ho) q o = absurd o
taken_now says denies untrusted p side config heard log at i f (errors.PacketSize n) tell blobs s r h not =
    let l = looks_here says side config heard log at r.stage s r.looks in
    row_at (λ d. IsDueNow (seen_of side config heard log) (handled log) i d × (longest_payload < n) × LongRow p i n d) _ _ l.due (due_here says denies side config heard log at i f s r h.0, h.1, long_here says denies untrusted p side config at i r.stage (next_number at.reading.number) n tell blobs h.1 h.2)
taken_now says denies untrusted p side config heard log at i f errors.Disconnect tell blobs s r h not = absurd h
taken_now says denies untrusted p side config heard log at i f errors.DecryptionError tell blobs s r h not = absurd h
taken_now says denies untrusted p side config heard log at i f errors.IO tell blobs s r h not = absurd h
taken_now says denies untrusted p side config heard log at i f (errors.StrictKeyExchangeViolation type place) tell blobs s r h not = by r.stage refl h.1 where
  by : (stage : Stage) → r.stage ≡ stage → IsLate (setting side config (id_text config.id) at) stage (next_number at.reading.number) i.payload → RefusesNow p (seen_of side config heard log) (handled log) i (errors.StrictKeyExchangeViolation type place)
  by (Created own) q o =
      let d = subst (IsDueNow (seen_of side config heard log) (handled log) i) (ap due_of q) (due_here says denies side config heard log at i f s r h.0) in
      let first = late_first at.records (o.0).strict_kex (next_number at.reading.number) (subst (λ c. IsFirst c (o.0).strict_kex (next_number at.reading.number) → ⊥) (setting_cause side config (id_text config.id) at) o.2) in
      (h.2 ∙ sym d.type_is, inr (record { due = d; first = s.done ∙ ap length first.0; names = o.0; read = kexinit_as says side config heard log at i (Ok o.0) s o.1; strict = first.1; number = at.reading.number; number_is = s.number; late = first.2; place_is = h.3 }))
  by (AwaitsGroup op) q o = absurd o
  by (AwaitsReply op gex l pu) q o = absurd o
  by (AwaitsRequest op) q o = absurd o
  by (AwaitsValue op gex) q o = absurd o
  by (AwaitsNewkeys x m ho) q o = absurd o
taken_now says denies untrusted p side config heard log at i f errors.Signature tell blobs s r h not = by r.stage refl h.1 where
  by : (stage : Stage) → r.stage ≡ stage → SigningDenied (setting side config (id_text config.id) at) denies stage i.payload → RefusesNow p (seen_of side config heard log) (handled log) i errors.Signature
  by (Created own) q o = absurd o
  by (AwaitsGroup op) q o = absurd o
  by (AwaitsReply op gex l pu) q o = absurd o
  by (AwaitsRequest op) q o = absurd o
  by (AwaitsValue op gex) q o = (let t = unsigned_by says denies untrusted p side config heard log at op gex tell s (inside_value at.stands r.stage op gex q r.looks) o.1 in (subst (IsDueNow (seen_of side config heard log) (handled log) i) (ap due_of q) (due_here says denies side config heard log at i f s r h.0), o.0, t.0, t.1))
  by (AwaitsNewkeys x m ho) q o = absurd o
taken_now says denies untrusted p side config heard log at i f (errors.SshEncoding fault) tell blobs s r h not =
    let l = looks_here says side config heard log at r.stage s r.looks in
    row_at (λ d. IsDueNow (seen_of side config heard log) (handled log) i d × BadlyEncodedNow (seen_of side config heard log) (handled log) i d fault) _ _ l.due (due_here says denies side config heard log at i f s r h.0, bad_here says side config heard log at i r.stage fault s h.1)
taken_now says denies untrusted p side config heard log at i f (errors.InvalidConfig fault) tell blobs s r h not = absurd h
taken_now says denies untrusted p side config heard log at i f errors.Memory tell blobs s r h not = absurd (not refl)

-- ---- any packet

may_now : (says : Says) (side : Side) (config : Config) (heard : List ℕ) (log : List Event) (at : SideState) → (s : Shows says side config heard log at) → MayDeliverNow (seen_of side config heard log) (handled log) → MayDeliver at
may_now says side config heard log at s m = by at.stands refl where
  nothing : s.trace.theirs ≡ []
  nothing = sym s.open_is ∙ m.none

  recorded_some : 0 < length at.records
  recorded_some = (let a = m.some in let b = s.done in omega (arith, a, b))

  by_stage : (stage : Stage) → at.stands ≡ Inside stage → MayDeliver at
  by_stage (Created own) e = inr ((own, e), recorded_some)
  by_stage (AwaitsGroup o) e = absurd ((seen_here says side config heard log at (AwaitsGroup o) s (inl e)).some (λ z. named_not o.names z) nothing)
  by_stage (AwaitsReply o gex l p) e = absurd ((seen_here says side config heard log at (AwaitsReply o gex l p) s (inl e)).some (λ z. named_not o.names z) nothing)
  by_stage (AwaitsRequest o) e = absurd ((seen_here says side config heard log at (AwaitsRequest o) s (inl e)).some (λ z. named_not o.names z) nothing)
  by_stage (AwaitsValue o gex) e = absurd ((seen_here says side config heard log at (AwaitsValue o gex) s (inl e)).some (λ z. named_not o.names z) nothing)
  by_stage (AwaitsNewkeys x made h) e = absurd ((seen_here says side config heard log at (AwaitsNewkeys x made h) s (inl e)).some (λ z. named_not made.names z) nothing)

  by : (w : Where) → at.stands ≡ w → MayDeliver at
  by Silent e = absurd (s.not_silent e)
  by Outside e = inl e
  by (Inside stage) e = by_stage stage e

misplaced : (says : Says) (side : Side) (config : Config) (heard : List ℕ) (log : List Event) (at : SideState) (i : Item) (e : Error) → (s : Shows says side config heard log at) → IsOutOfPlace side at i e → IsMisplaced (seen_of side config heard log) (handled log) i
misplaced says side config heard log at i e s o = record {
  stays = o.stays;
  ordered = not_out says side config heard log at i s o.ordered;
  not_idle = o.not_idle;
  place = elim o.place [ inl k ↦ inl (k.0, s.outside k.1, k.2) | inr k ↦ inr (k.0, λ w m. k.1 w (may_now says side config heard log at s m)) ];
}

newkeys_kex : (i : Item) → i.payload ≡ newkeys → is_kex_type (type_of i) ≡ true
newkeys_kex i e = ap (λ q. is_kex_type (message_type q)) e

last_due_here : (says : Says) (untrusted : ServerHost → Type 0) (side : Side) (config : Config) (heard : List ℕ) (log : List Event) (at : SideState) (i : Item) (e : Error) → (s : Shows says side config heard log at) → (u : IsUntrusted untrusted side at i e) → IsDueNow (seen_of side config heard log) (handled log) i NewkeysDue
last_due_here says untrusted side config heard log at i e s u =
    let stage = AwaitsNewkeys u.exchange u.made (Some u.host) in
    let l = looks_here says side config heard log at (AwaitsNewkeys u.exchange u.made (Some u.host)) s (inl u.inside) in
    record {
      taken = record {
        is_kex = newkeys_kex i u.payload_is;
        no_guess = no_guess (AwaitsNewkeys u.exchange u.made (Some u.host)) (guess_behind side config BeforeKexinit (handled log)) i refl l.guess;
        begins = λ not. absurd (not (s.inside (AwaitsNewkeys u.exchange u.made (Some u.host)) u.inside));
        ordered = not_out says side config heard log at i s u.ordered;
      };
      due_is = l.due;
      type_is = ap message_type u.payload_is;
    }

at_answer : (p : PartsDo) (v : Seen) (items : List Item) (i : Item) (e f : Error) → e ≡ f → RefusesNow p v items i f → RefusesNow p v items i e
at_answer p v items i e f s h = subst (RefusesNow p v items i) (sym s) h

-- Each refusal of a packet by the rules stands in the table.
pub refuses_now : (says : Says) (denies : Denies) (untrusted : ServerHost → Type 0) (p : PartsDo) (side : Side) (config : Config) (heard : List ℕ) (log : List Event) (at : SideState) (i : Item) (e : Error) → TellsParts says denies untrusted p side config → some_blob_long config ≡ false → (s : Shows says side config heard log at) → RefusesPacket says denies untrusted side config at i e → (e ≡ errors.Memory → ⊥) → RefusesNow p (seen_of side config heard log) (handled log) i e
refuses_now says denies untrusted p side config heard log at i e tell blobs s r not = elim r [
  | inl d ↦ at_answer p (seen_of side config heard log) (handled log) i e _ d.error_is d.type_is
  | inr r ↦ elim r [
    | inl b ↦ at_answer p (seen_of side config heard log) (handled log) i e _ b.error_is (refl, inl (out_of_order says side config heard log at i e s b))
    | inr r ↦ elim r [
      | inl t ↦ taken_now says denies untrusted p side config heard log at i e e tell blobs s t t.refuses not
      | inr r ↦ elim r [
        | inl u ↦ at_answer p (seen_of side config heard log) (handled log) i e _ u.error_is (last_due_here says untrusted side config heard log at i e s u, u.payload_is, untrusted_by says denies untrusted p side config heard log at i e tell s u)
        | inr o ↦ at_answer p (seen_of side config heard log) (handled log) i e _ o.error_is (inl (misplaced says side config heard log at i e s o))
      ]
    ]
  ]
]
