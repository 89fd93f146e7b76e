-- Why a packet is refused, row by row.
use Rattle.std.proofs.Common.{◌≡◌, ℕ, ◌-◌, ◌<◌, ◌^◌, ◌&&◌, Bool, true, false, if◌then◌else◌, nat_le, List, [], ◌∷◌, length, Option, Some, None, Result, Ok, Err, IfErr, refl, sym, ap, ◌∙◌, subst, arith, ◌⊎◌, inl, inr}
use Rattle.std.proofs.lemmas.Bool.Decides.{nat_tests}
use Rattle.ssh_wire.specs.Orders.{is_kex}
use Rattle.ssh_wire.specs.Sides.{other_side}
use Rattle.ssh_wire.specs.declared.error.Error.{Error}
use Rattle.ssh_wire.specs.declared.error.Error.TheVariants as errors
use Rattle.ssh_negotiate.specs.declared.negotiation.Names.{Names}
use Rattle.ssh_packet.specs.Sealing.{Item, next_number}
use Rattle.ssh_packet.specs.Stream.{message_type}
use Rattle.ssh_packet.specs.Writing.{Writer}
use Rattle.ssh_packet.specs.declared.reader.Incoming.{Incoming}
use Rattle.ssh_kex.specs.Refusals.{Denies, RefusesMessage}
use Rattle.ssh_kex.specs.Setting.{Says, Setting}
use Rattle.ssh_kex.specs.Stages.{AwaitsGroup, AwaitsNewkeys, AwaitsReply, AwaitsRequest, AwaitsValue, Created, Machine, Skips, Stage, Finishes}
use Rattle.ssh_kex.specs.declared.config.Config.{Config}
use Rattle.ssh_kex.specs.declared.exchange.Exchange.{Exchange}
use Rattle.ssh_kex.specs.declared.exchange.FinishedExchange.{FinishedExchange}
use Rattle.ssh_kex.specs.declared.exchange.ServerHost.{ServerHost}
use Rattle.ssh_kex.specs.declared.session_state.SessionKexState.{SessionKexState}
use Rattle.ssh_kex.specs.declared.session_state.SessionKexState.TheVariants.{Idle, InProgress, Taken}
use Rattle.ssh_rules.specs.Machine.{Inside, MayDeliver, Outside, Silent, SideState, Where, guesses, names_now, InOrder, OrderBy, Spot}
use Rattle.ssh_rules.specs.MessageTypes.{is_kex_type, is_payload_type, type_of, is_violation}
use Rattle.ssh_rules.specs.Refused.{LooksIn}
use Rattle.ssh_rules.specs.Refusing.{IsUntrusted}
use Rattle.ssh_rules.specs.Standing.{is_outside}
use Rattle.ssh_transport.specs.Handling.{IsBegun, IsFor, IsOpen, IsOpenBy, IsReadAt, Passes, counts_guess, is_ordered, may_deliver_by}
use Rattle.ssh_transport.specs.Saying.{setting_of}
use Rattle.ssh_transport.specs.States.{stands_of, state_at}
use Rattle.ssh_transport.specs.Stopping.{BeginsAt, BreaksAt, HoldsNone, IsForNone, Refuses, RefusesHost, RefusesMove}
use Rattle.ssh_transport.specs.declared.session.Session.{Session}
use Rattle.ssh_transport.proofs.Handling.{finish_stage, setting_by}

same_type : (type : ℕ) (payload : List ℕ) (i : Item) → type ≡ message_type payload → payload ≡ i.payload
    → type_of i ≡ type
same_type type payload i t p = sym (t ∙ ap message_type p)

-- ---- DISCONNECT

pub refuses_end : (says : Says) (denies : Denies) (untrusted : ServerHost → Type 0) (s : Session) (seqn type : ℕ)
    (payload : List ℕ) → type ≡ message_type payload → type ≡ 1
    → Refuses says denies untrusted s seqn payload errors.Disconnect
refuses_end says denies untrusted s seqn type payload t e = λ at read i r. inl
    (record { type_is = same_type type payload i t r.payload_is ∙ e; error_is = refl })

-- ---- the order of a strict exchange

record Ordered (records : List FinishedExchange) (names : Option Names) : Type 0 where
  pub first : records ≡ []
  pub known : Names
  pub names_is : names ≡ Some known
  pub strict : known.strict_kex ≡ true

ordered_is : (records : List FinishedExchange) (names : Option Names) → is_ordered records names ≡ true
    → Ordered records names
ordered_is [] None e = cc
ordered_is [] (Some n) e = record { first = refl; known = n; names_is = refl; strict = e }
ordered_is (x ∷ records) names e = cc

counted_guess : (names : Option Names) (n : Names) → names ≡ Some n → (if counts_guess names then 1 else 0) ≡ guesses n
counted_guess names n e = ap (λ (x : Option Names). if counts_guess x then 1 else 0) e

pub refuses_order : (says : Says) (denies : Denies) (untrusted : ServerHost → Type 0) (s : Session) (seqn type : ℕ)
    (payload : List ℕ) (error : Error) → type ≡ message_type payload → (type ≡ 1 → ⊥) → BreaksAt s seqn type error
    → Refuses says denies untrusted s seqn payload error
refuses_order says denies untrusted s seqn type payload error t z b = λ at read i r.
    let h = b at.number r.small r.seqn_is in
    let o = ordered_is s.finished.items (names_now (stands_of s.finished.items s.kex)) h.0 in
    let k : type ≡ type_of i = sym (same_type type payload i t r.payload_is) in
    let g = counted_guess (names_now (stands_of s.finished.items s.kex)) o.known o.names_is in
    inr (inl (record {
      stays = λ e. z (k ∙ e);
      names = o.known;
      first = o.first;
      read = o.names_is;
      strict = o.strict;
      violates = subst (λ (n : ℕ). is_violation (other_side s.side) (type_of i) (at.number - n) ≡ true) g
          (subst (λ (x : ℕ). is_violation (other_side s.side) x
          (at.number - (if counts_guess (names_now (stands_of s.finished.items s.kex)) then 1 else 0)) ≡ true) k h.1);
      error_is = h.2 ∙ ap (λ (x : ℕ). errors.StrictKeyExchangeViolation x
          (at.number - (if counts_guess (names_now (stands_of s.finished.items s.kex)) then 1 else 0))) k
          ∙ ap (λ (n : ℕ). errors.StrictKeyExchangeViolation (type_of i) (at.number - n)) g;
    }))

-- ---- what the machine refuses

skips_none : (s : Setting) (stage : Stage) (seqn : ℕ) (payload : List ℕ) (written : List (List ℕ)) (x : Exchange)
    (made : FinishedExchange) (host : ServerHost) → Skips s stage seqn payload written x made (Some host) → ⊥
skips_none s (Created own) seqn payload written x made host h = let e : Some host ≡ None = h.host_is in cc
skips_none s (AwaitsGroup o) seqn payload written x made host h = h
skips_none s (AwaitsReply o gex local public) seqn payload written x made host h = h
skips_none s (AwaitsRequest o) seqn payload written x made host h = h
skips_none s (AwaitsValue o gex) seqn payload written x made host h = h
skips_none s (AwaitsNewkeys y m k) seqn payload written x made host h = h

looked_at : (s s1 : Session) (m : Machine) → IsFor s m s1 → LooksIn (stands_of s.finished.items s.kex) m.stage
looked_at s s1 m (inl f) = inr (f.1, ((f.0).item.payload, (f.0).stage_is))
looked_at s s1 m (inr f) = inl (ap (λ (k : SessionKexState Machine). stands_of s.finished.items k) f.0)

pub set_for : (s s1 : Session) (m : Machine) → IsOpen s → IsFor s m s1 → m.setting ≡ setting_of s
set_for s s1 m o (inl f) = (f.0).setting_is
set_for s s1 m o (inr f) = (subst (λ (k : SessionKexState Machine). IsOpenBy (setting_of s) k) f.0 o.machine).setting_is

in_order : (s : Session) (seqn type : ℕ) (payload : List ℕ) (at : Spot) (i : Item) → type ≡ message_type payload
    → Passes s seqn type → IsReadAt at seqn payload i → OrderBy s.side at.number i s.finished.items
    (names_now (stands_of s.finished.items s.kex))
in_order s seqn type payload at i t passes r = passes at.number i r.small r.seqn_is
    (same_type type payload i t r.payload_is)

kex_of : (type : ℕ) (payload : List ℕ) (i : Item) → type ≡ message_type payload → payload ≡ i.payload
    → is_kex type ≡ true → is_kex_type (type_of i) ≡ true
kex_of type payload i t p k = subst (λ (x : ℕ). is_kex x ≡ true) (t ∙ ap message_type p) k

message_refused : (says : Says) (denies : Denies) (untrusted : ServerHost → Type 0) (s s1 : Session) (m : Machine)
    (inc : Incoming) (type : ℕ) (error : Error) → IsOpen s → type ≡ message_type inc.payload.now → is_kex type ≡ true
    → Passes s inc.seqn type → BeginsAt s type → IsFor s m s1
    → RefusesMessage says denies m.setting m.stage inc.seqn inc.payload.now error
    → Refuses says denies untrusted s inc.seqn inc.payload.now error
message_refused says denies untrusted s s1 m inc type error o t k q b f h = λ at read i r. inr (inr (inl (record {
  begins = λ e. same_type type inc.payload.now i t r.payload_is ∙ b e;
  ordered = in_order s inc.seqn type inc.payload.now at i t q r;
  stage = m.stage;
  looks = looked_at s s1 m f;
  is_kex = kex_of type inc.payload.now i t r.payload_is k;
  refuses = subst (λ (x : Setting). RefusesMessage says denies x m.stage (next_number at.number) i.payload error)
      (set_for s s1 m o f ∙ sym (setting_by s.side s.config.now s.line (state_at s at read) refl))
      (subst (λ (p : List ℕ). RefusesMessage says denies m.setting m.stage (next_number at.number) p error) r.payload_is
      (subst (λ (n : ℕ). RefusesMessage says denies m.setting m.stage n inc.payload.now error) r.seqn_is h));
})))

host_stands : (s s1 : Session) (m : Machine) (exchange : Exchange) (made : FinishedExchange) (host : Option ServerHost)
    → IsFor s m s1 → m.stage ≡ AwaitsNewkeys exchange made host
    → stands_of s.finished.items s.kex ≡ Inside (AwaitsNewkeys exchange made host)
host_stands s s1 m exchange made host (inl f) e = let g : Created (f.0).item.payload ≡ AwaitsNewkeys exchange made host
    = sym (f.0).stage_is ∙ e in cc
host_stands s s1 m exchange made host (inr f) e = ap (λ (k : SessionKexState Machine). stands_of s.finished.items k) f.0
    ∙ ap Inside e

host_refused : (says : Says) (denies : Denies) (untrusted : ServerHost → Type 0) (s s1 : Session) (m : Machine)
    (inc : Incoming) (type : ℕ) (error : Error) → type ≡ message_type inc.payload.now → Passes s inc.seqn type
    → IsFor s m s1 → RefusesHost untrusted m inc error → Refuses says denies untrusted s inc.seqn inc.payload.now error
host_refused says denies untrusted s s1 m inc type error t q f h = λ at read i r. inr
    (inr (inr (inl (by i r.payload_is (state_at s at read) refl (in_order s inc.seqn type inc.payload.now at i t q r)
    h.done.ends))))
  where
    by : (i : Item) → inc.payload.now ≡ i.payload → (st : SideState) → st.stands ≡ stands_of s.finished.items s.kex
        → InOrder s.side st i → (Finishes m.stage inc.payload.now h.done.exchange h.done.made (Some h.host)
        × (h.done.written ≡ [])) ⊎ Skips m.setting m.stage inc.seqn inc.payload.now h.done.written h.done.exchange
        h.done.made (Some h.host) → IsUntrusted untrusted s.side st i error
    by i p st e y (inl x) = let k = finish_stage m.stage inc.payload.now h.done.exchange h.done.made (Some h.host) x.0
        in record {
          exchange = h.done.exchange;
          made = h.done.made;
          host = h.host;
          inside = e
              ∙ host_stands s s1 m h.done.exchange h.done.made (Some h.host) f k.1;
          payload_is = sym p
              ∙ k.0;
          ordered = y;
          denied = h.denied;
          error_is = h.error_is;
        }
    by i p st e y (inr x) = absurd (skips_none m.setting m.stage inc.seqn inc.payload.now h.done.written h.done.exchange
        h.done.made h.host x)

pub refuses_moved : (says : Says) (denies : Denies) (untrusted : ServerHost → Type 0) (s s1 : Session) (m : Machine)
    (inc : Incoming) (type : ℕ) (error : Error) → IsOpen s → type ≡ message_type inc.payload.now → is_kex type ≡ true
    → Passes s inc.seqn type → BeginsAt s type → IsFor s m s1 → RefusesMove says denies untrusted m inc error
    → Refuses says denies untrusted s inc.seqn inc.payload.now error
refuses_moved says denies untrusted s s1 m inc type error o t k q b f (inl h) = message_refused says denies untrusted s
    s1 m inc type error o t k q b f h
refuses_moved says denies untrusted s s1 m inc type error o t k q b f (inr h) = host_refused says denies untrusted s s1
    m inc type error t q f h

-- ---- where no machine is for it

kex_stays : (type : ℕ) → is_kex type ≡ true → type ≡ 1 → ⊥
kex_stays type k e = let f : is_kex 1 ≡ true = subst (λ (x : ℕ). is_kex x ≡ true) e k in cc

kex_not_idle : (type : ℕ) → is_kex type ≡ true → (nat_le 2 type && nat_le type 4) ≡ false
kex_not_idle type k = grind (arith, nat_tests)

stage_there : (w : Where) → (w ≡ Silent → ⊥) → (stage : Stage) × LooksIn w stage
stage_there Silent n = absurd (n refl)
stage_there Outside n = (Created [], inr (refl, ([], refl)))
stage_there (Inside stage) n = (stage, inl refl)

memory_anyway : (says : Says) (denies : Denies) (s : Setting) (stage : Stage) (n : ℕ) (payload : List ℕ) (error : Error)
    → error ≡ errors.Memory → RefusesMessage says denies s stage n payload error
memory_anyway says denies s stage n payload error e = subst
    (λ (x : Error). RefusesMessage says denies s stage n payload x) (sym e) tt

idle_outside : (records : List FinishedExchange) (k : SessionKexState Machine) (b : Setting) → IsOpenBy b k
    → HoldsNone k → (stands_of records k ≡ Silent → ⊥) → stands_of records k ≡ Outside
idle_outside [] Idle b o h n = absurd (n refl)
idle_outside (x ∷ records) Idle b o h n = refl
idle_outside records (InProgress m) b o h n = absurd h
idle_outside records Taken b o h n = absurd o

pub refuses_none : (says : Says) (denies : Denies) (untrusted : ServerHost → Type 0) (s : Session) (seqn type : ℕ)
    (payload : List ℕ) (error : Error) → IsOpen s → IsBegun s → type ≡ message_type payload → is_kex type ≡ true
    → Passes s seqn type → ((error ≡ errors.Memory) × BeginsAt s type)
    ⊎ ((error ≡ errors.Inconsistent) × IsForNone s type) → Refuses says denies untrusted s seqn payload error
refuses_none says denies untrusted s seqn type payload error o b t k q (inl e) = λ at read i r.
    let l = stage_there (stands_of s.finished.items s.kex) b in
    inr (inr (inl (record {
      stage = l.0;
      looks = l.1;
      begins = λ x. same_type type payload i t r.payload_is
          ∙ e.1 x;
      ordered = in_order s seqn type payload at i t q r;
      is_kex = kex_of type payload i t r.payload_is k;
      refuses = memory_anyway says denies _ l.0 _ i.payload error e.0;
    })))
refuses_none says denies untrusted s seqn type payload error o b t k q (inr h) = λ at read i r.
    let same : type_of i ≡ type = same_type type payload i t r.payload_is in
    let outside : stands_of s.finished.items s.kex ≡ Outside = idle_outside s.finished.items s.kex (setting_of s)
    o.machine (h.1).none b in
    inr (inr (inr (inr (record {
      stays = λ e. kex_stays type k (sym same ∙ e);
      ordered = in_order s seqn type payload at i t q r;
      not_idle = subst (λ (x : ℕ). (nat_le 2 x && nat_le x 4) ≡ false) (sym same) (kex_not_idle type k);
      place = inl (
        kex_of type payload i t r.payload_is k,
        outside,
        λ e.
            (let f : is_outside (stands_of s.finished.items s.kex) ≡ false = (h.1).inside (sym same ∙ e) in let g : true ≡
            false = sym (ap is_outside outside) ∙ f in cc),
      );
      error_is = h.0;
    }))))

-- ---- where nothing takes it

delivers_not : (w : Where) (records : List FinishedExchange) (own : List ℕ) → w ≡ Inside (Created own)
    → 0 < length records → may_deliver_by records w ≡ true
delivers_not w [] own e l = absurd (omega (arith, l))
delivers_not w (x ∷ records) own e l = ap (λ (z : Where). may_deliver_by (x ∷ records) z) e

may_not : (st : SideState) → may_deliver_by st.records st.stands ≡ false → MayDeliver st → ⊥
may_not st e (inl o) = let f : may_deliver_by st.records st.stands ≡ true = ap
    (λ (z : Where). may_deliver_by st.records z) o in let g : true ≡ false = sym f ∙ e in cc
may_not st e (inr h) = let g : true ≡ false = sym (delivers_not st.stands st.records (h.0).0 (h.0).1 h.1) ∙ e in cc

and_false : (a b : Bool) → (a && b) ≡ false → a ≡ true → b ≡ false
and_false true b e f = e
and_false false b e f = absurd (let g : false ≡ true = f in cc)

pub refuses_place : (says : Says) (denies : Denies) (untrusted : ServerHost → Type 0) (s : Session) (seqn type : ℕ)
    (payload : List ℕ) → type ≡ message_type payload → (type ≡ 1 → ⊥) → Passes s seqn type
    → (nat_le 2 type && nat_le type 4) ≡ false → is_kex type ≡ false
    → (is_payload_type type && may_deliver_by s.finished.items (stands_of s.finished.items s.kex)) ≡ false
    → Refuses says denies untrusted s seqn payload errors.Inconsistent
refuses_place says denies untrusted s seqn type payload t z q n k d = λ at read i r.
    let same : type ≡ type_of i = sym (same_type type payload i t r.payload_is) in
    inr (inr (inr (inr (record {
      stays = λ e. z (same ∙ e);
      ordered = in_order s seqn type payload at i t q r;
      not_idle = subst (λ (x : ℕ). (nat_le 2 x && nat_le x 4) ≡ false) same n;
      place = inr (
        subst (λ (x : ℕ). is_kex x ≡ false) same k,
        λ p m. may_not (state_at s at read)
            (and_false (is_payload_type type) _ d (subst (λ (x : ℕ). is_payload_type x ≡ true) (sym same) p)) m,
      );
      error_is = refl;
    }))))

-- ---- as calls answer

pub if_err : {T : Type 0} (answer : Result T Error) (P Q : Error → Type 0) → ((e : Error) → P e → Q e) → IfErr answer P
    → IfErr answer Q
if_err (Ok x) P Q f h = tt
if_err (Err e) P Q f h = f e h

pub breaks_by : (s : Session) (seqn type place : ℕ) (dropped ordered : Bool) (error : Error)
    → ordered ≡ is_ordered s.finished.items (names_now (stands_of s.finished.items s.kex)) → ordered ≡ true
    → dropped ≡ counts_guess (names_now (stands_of s.finished.items s.kex))
    → ((number : ℕ) → number < 2 ^ 32 → seqn ≡ next_number number → place ≡ number - (if dropped then 1 else 0))
    → (is_violation (other_side s.side) type place ≡ true) × (error ≡ errors.StrictKeyExchangeViolation type place)
    → BreaksAt s seqn type error
breaks_by s seqn type place dropped ordered error o t d p h = λ number small e.
    let q : place ≡ number - (if counts_guess (names_now (stands_of s.finished.items s.kex)) then 1 else 0) = p number
    small e ∙ ap (λ (b : Bool). number - (if b then 1 else 0)) d in (
      sym o ∙ t,
      subst (λ (n : ℕ). is_violation (other_side s.side) type n ≡ true) q h.0,
      h.1
          ∙ ap (λ (n : ℕ). errors.StrictKeyExchangeViolation type n) q,
    )

-- a refusal of the machine, or of the host at its end
pub moves_host : (untrusted : ServerHost → Type 0) (says : Says) (denies : Denies) (m : Machine) (i : Incoming)
    (old new : Writer) (host : Option ServerHost) (k : Rattle.ssh_kex.specs.declared.exchange.NewKeys.NewKeys)
    (error : Error) → Rattle.ssh_kex.specs.Stepping.IsDone m i old host k new
    → (error ≡ errors.Memory) ⊎ ((error ≡ errors.UnknownKey)
    × Rattle.ssh_transport.specs.Stopping.IsDistrusted untrusted host) → RefusesMove says denies untrusted m i error
moves_host untrusted says denies m i old new host k error d (inl e) = inl
    (memory_anyway says denies m.setting m.stage i.seqn i.payload.now error e)
moves_host untrusted says denies m i old new host k error d (inr h) = inr
    (record {
      host = (h.1).0;
      newkeys = k;
      old = old;
      new = new;
      done = subst
          (λ (x : Option ServerHost). Rattle.ssh_kex.specs.Stepping.IsDone m i old x k new) (h.1).1 d;
      denied = (h.1).2;
      error_is = h.0;
    })

pub moves_memory : (untrusted : ServerHost → Type 0) (says : Says) (denies : Denies) (m : Machine) (i : Incoming)
    (error : Error) → error ≡ errors.Memory → RefusesMove says denies untrusted m i error
moves_memory untrusted says denies m i error e = inl (memory_anyway says denies m.setting m.stage i.seqn i.payload.now
    error e)

pub distrusted_later : (u v : ServerHost → Type 0) (host : Option ServerHost) (error : Error)
    → ((x : ServerHost) → u x → v x) → (error ≡ errors.Memory)
    ⊎ ((error ≡ errors.UnknownKey) × Rattle.ssh_transport.specs.Stopping.IsDistrusted u host)
    → (error ≡ errors.Memory) ⊎ ((error ≡ errors.UnknownKey) × Rattle.ssh_transport.specs.Stopping.IsDistrusted v host)
distrusted_later u v host error f (inl e) = inl e
distrusted_later u v host error f (inr h) = inr (h.0, ((h.1).0, (h.1).1, f (h.1).0 (h.1).2))

pub done_at : (says : Says) (m : Machine) (i : Incoming) (old : Writer)
    (p : Rattle.ssh_kex.specs.declared.progress.KexProgress.KexProgress Machine) (host : Option ServerHost)
    (k : Rattle.ssh_kex.specs.declared.exchange.NewKeys.NewKeys) (new : Writer)
    → p ≡ Rattle.ssh_kex.specs.declared.progress.KexProgress.TheVariants.Done host k
    → Rattle.ssh_kex.specs.Stepping.Progresses says m (Some i) old p new
    → Rattle.ssh_kex.specs.Stepping.IsDone m i old host k new
done_at says m i old p host k new e h = subst (λ (x : Rattle.ssh_kex.specs.declared.progress.KexProgress.KexProgress
    Machine). Rattle.ssh_kex.specs.Stepping.Progresses says m (Some i) old x new) e h

-- by what its machine's configuration makes the parts say
pub refuses_taken : (says : Config → Says) (denies : Denies) (untrusted : ServerHost → Type 0) (s s1 : Session)
    (m : Machine) (inc : Incoming) (type : ℕ) (error : Error) → IsOpen s → type ≡ message_type inc.payload.now
    → is_kex type ≡ true → Passes s inc.seqn type → BeginsAt s type → IsFor s m s1
    → RefusesMove (says m.setting.config) denies untrusted m inc error
    → Refuses (says s.config.now) denies untrusted s inc.seqn inc.payload.now error
refuses_taken says denies untrusted s s1 m inc type error o t k q b f h = refuses_moved (says s.config.now) denies
    untrusted s s1 m inc type error o t k q b f (subst (λ (x : Config). RefusesMove (says x) denies untrusted m inc
    error) (Rattle.ssh_transport.proofs.Moving.for_config s s1 m o f) h)

pub from_err : {T : Type 0} (answer : Result T Error) (P : Error → Type 0) (e d : Error) → answer ≡ Err d → d ≡ e → P e
    → IfErr answer P
from_err {T} answer P e d a b h = subst (λ (r : Result T Error). IfErr r P) (sym a) (subst P (sym b) h)

-- what an answer is refused with
pub which_error : {T : Type 0} (answer : Result T Error) (a b : Error) → answer ≡ Err a → answer ≡ Err b → a ≡ b
which_error {T} answer a b e f = let g : Err a ≡ Err b = sym e ∙ f in cc
