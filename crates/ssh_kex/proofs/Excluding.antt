-- A row that takes a message and one that refuses it.
use Rattle.std.proofs.Common.{◌≡◌, ℕ, ◌<◌, Bool, true, false, List, [], length, refl, sym, ◌∙◌, ap, subst, arith, Option, Some, Result, Ok, Err, ◌⊎◌, inl, inr}
use Rattle.ssh_negotiate.specs.Reading.{KexinitFault, Inconsistent}
use Rattle.ssh_negotiate.specs.Tables.{shape_of}
use Rattle.ssh_negotiate.specs.declared.negotiation.Names.{Names}
use Rattle.ssh_packet.specs.Stream.{message_type}
use Rattle.ssh_packet.specs.Writing.{Writer}
use Rattle.ssh_packet.specs.declared.reader.Incoming.{Incoming}
use Rattle.ssh_wire.specs.Forms.{magnitude}
use Rattle.ssh_wire.specs.declared.error.EncodingFault.{EncodingFault}
use Rattle.ssh_wire.specs.declared.error.Error.{Error}
use Rattle.ssh_wire.specs.declared.error.Error.TheVariants as errors
use Rattle.ssh_kex.specs.Laws.{PartsAnswer}
use Rattle.ssh_kex.specs.Messages.{IsCanonical, is_gex, newkeys}
use Rattle.ssh_kex.specs.Refusals.{Denies, IsBadlyEncoded, IsCreated, IsLate, IsOutOfRange, IsUnoffered, RefusesMessage, awaited, kexinit_read}
use Rattle.ssh_kex.specs.Fields.{IsInside, IsOutside, ReplyFront, fields, group_in, reply_front, sizes_in, value_in}
use Rattle.ssh_kex.specs.Setting.{Says, Setting}
use Rattle.ssh_kex.specs.Stages.{Stage, Created, AwaitsGroup, AwaitsReply, AwaitsRequest, AwaitsValue, AwaitsNewkeys, Machine, Takes, Finishes, Skips, IsFirst, drops_guess}
use Rattle.ssh_kex.specs.Stepping.{Progresses, RefusesStep}
use Rattle.ssh_kex.specs.declared.exchange.Exchange.{Exchange}
use Rattle.ssh_kex.specs.declared.exchange.FinishedExchange.{FinishedExchange}
use Rattle.ssh_kex.specs.declared.exchange.ServerHost.{ServerHost}
use Rattle.ssh_kex.specs.declared.group.DhGroup.{DhGroup}
use Rattle.ssh_kex.specs.declared.group.GexParams.{GexParams}
use Rattle.ssh_kex.specs.declared.progress.KexProgress.{KexProgress}
use Rattle.ssh_kex.specs.declared.progress.KexProgress.TheVariants.{NeedsReply, Done}
use Rattle.ssh_kex.proofs.ReadAgain.{group_again, reply_again, reply_due, sizes_again, string_read, value_again, value_due}

-- ---- what a row that takes a message says of it

-- names that are offered where values are to be exchanged, of a KEXINIT that stands where it may
pub record TakesNames (says : Says) (s : Setting) (seqn : ℕ) (payload : List ℕ) : Type 0 where
  pub names : Names
  pub read : kexinit_read s payload ≡ Ok names
  pub first : IsFirst s.cause names.strict_kex seqn
  pub offered : (shape_of names.kex).skip ≡ false → says.offers names.kex

pub record HasFront (payload : List ℕ) : Type 0 where
  pub front : ReplyFront
  pub signature : List ℕ
  pub read : reply_front (fields payload) ≡ Ok front
  pub rest : value_in front.behind ≡ Ok signature

-- the fields are read, and are what the row asks of them
abbrev pub IsReadIn : Says → Setting → Stage → ℕ → List ℕ → Type 0
IsReadIn says s (Created own) seqn payload = TakesNames says s seqn payload
IsReadIn says s (AwaitsGroup o) seqn payload = (group : DhGroup) × (group_in (fields payload) ≡ Ok group)
    × IsInside s.config.gex group
IsReadIn says s (AwaitsReply o gex local public) seqn payload = HasFront payload
IsReadIn says s (AwaitsRequest o) seqn payload = (sizes : GexParams) × (sizes_in (fields payload) ≡ Ok sizes)
IsReadIn says s (AwaitsValue o gex) seqn payload = (value : List ℕ) × (value_in (fields payload) ≡ Ok value)
IsReadIn says s (AwaitsNewkeys exchange made host) seqn payload = payload ≡ newkeys

-- and the message is the one that is due
pub record Fits (says : Says) (s : Setting) (stage : Stage) (seqn : ℕ) (payload : List ℕ) : Type 0 where
  pub type_is : message_type payload ≡ awaited stage
  pub read : IsReadIn says s stage seqn payload

same_group : (g : DhGroup) → IsCanonical g → (let h : DhGroup = record { prime = magnitude g.prime; generator = magnitude g.generator } in h) ≡ g
same_group g c =
    ap (λ x. let h : DhGroup = record { prime = x; generator = magnitude g.generator } in h) c.prime
    ∙ ap (λ x. record g { generator = x }) c.generator

takes_fits : (says : Says) (s : Setting) (stage : Stage) (seqn : ℕ) (payload : List ℕ) (written : List (List ℕ)) (next : Stage) → Takes says s stage seqn payload written next → Fits says s stage seqn payload
takes_fits says s (Created own) seqn payload written next t = record {
  type_is = t.reads.is_kexinit;
  read = record { names = t.names; read = t.reads.read; first = t.reads.first; offered = λ _. t.offered };
}
takes_fits says s (AwaitsGroup o) seqn payload written next t =
    let p = t.short.prime in
    let q = t.short.generator in
    record {
      type_is = ap message_type t.payload_is;
      read = (
        t.group,
        ap (λ m. group_in (fields m)) t.payload_is ∙ (group_again t.group (omega (arith, p)) (omega (arith, q)) ∙ ap Ok (same_group t.group t.canonical)),
        record { least = t.least; most = t.most },
      );
    }
takes_fits says s (AwaitsReply o gex local public) seqn payload written next t =
    let a = t.host_short in
    let b = t.value_short in
    let c = t.signature_short in
    record {
      type_is = ap message_type t.payload_is ∙ reply_due (is_gex o.names.kex) t.host t.value t.signature;
      read = record {
        front = _;
        signature = t.signature;
        read = ap (λ m. reply_front (fields m)) t.payload_is ∙ reply_again (is_gex o.names.kex) t.host t.value t.signature (omega (arith, a)) (omega (arith, b));
        rest = string_read t.signature (omega (arith, c));
      };
    }
takes_fits says s (AwaitsRequest o) seqn payload written next t = record {
  type_is = ap message_type t.payload_is;
  read = (t.sizes, ap (λ m. sizes_in (fields m)) t.payload_is ∙ sizes_again t.sizes t.short.least t.short.preferred t.short.most);
}
takes_fits says s (AwaitsValue o gex) seqn payload written next t =
    let a = t.value_short in
    record {
      type_is = ap message_type t.payload_is ∙ value_due (is_gex o.names.kex) t.value;
      read = (t.value, ap (λ m. value_in (fields m)) t.payload_is ∙ value_again (is_gex o.names.kex) t.value (omega (arith, a)));
    }
takes_fits says s (AwaitsNewkeys exchange made host) seqn payload written next t = absurd t

finishes_fits : (says : Says) (s : Setting) (stage : Stage) (seqn : ℕ) (payload : List ℕ) (x : Exchange) (m : FinishedExchange) (h : Option ServerHost) → Finishes stage payload x m h → Fits says s stage seqn payload
finishes_fits says s (Created own) seqn payload x m h f = absurd f
finishes_fits says s (AwaitsGroup o) seqn payload x m h f = absurd f
finishes_fits says s (AwaitsReply o gex local public) seqn payload x m h f = absurd f
finishes_fits says s (AwaitsRequest o) seqn payload x m h f = absurd f
finishes_fits says s (AwaitsValue o gex) seqn payload x m h f = absurd f
finishes_fits says s (AwaitsNewkeys exchange made host) seqn payload x m h f = record { type_is = ap message_type f.payload_is; read = f.payload_is }

both_skip : (b : Bool) → b ≡ true → b ≡ false → ⊥
both_skip true p q = cc
both_skip false p q = cc

skips_fits : (says : Says) (s : Setting) (stage : Stage) (seqn : ℕ) (payload : List ℕ) (written : List (List ℕ)) (x : Exchange) (m : FinishedExchange) (h : Option ServerHost) → Skips s stage seqn payload written x m h → Fits says s stage seqn payload
skips_fits says s (Created own) seqn payload written x m h k = record {
  type_is = k.reads.is_kexinit;
  read = record { names = k.names; read = k.reads.read; first = k.reads.first; offered = λ e. absurd (both_skip _ k.skips e) };
}
skips_fits says s (AwaitsGroup o) seqn payload written x m h k = absurd k
skips_fits says s (AwaitsReply o gex local public) seqn payload written x m h k = absurd k
skips_fits says s (AwaitsRequest o) seqn payload written x m h k = absurd k
skips_fits says s (AwaitsValue o gex) seqn payload written x m h k = absurd k
skips_fits says s (AwaitsNewkeys exchange made host) seqn payload written x m h k = absurd k

-- a message that is taken is a wrong guess that is dropped, or fits
pub is_taken : (says : Says) (m : Machine) (i : Incoming) (old : Writer) (p : KexProgress Machine) (new : Writer) → Progresses says m (Some i) old p new → (drops_guess m.stage ≡ true) ⊎ Fits says m.setting m.stage i.seqn i.payload.now
is_taken says m i old (NeedsReply kex reset) new (inl d) = inl d.drops
is_taken says m i old (NeedsReply kex reset) new (inr t) = inr (takes_fits says m.setting m.stage i.seqn i.payload.now t.written kex.stage t.takes)
is_taken says m i old (Done host k) new d = ends d.ends where
  ends : (Finishes m.stage i.payload.now d.exchange d.made host × (d.written ≡ [])) ⊎ Skips m.setting m.stage i.seqn i.payload.now d.written d.exchange d.made host → (drops_guess m.stage ≡ true) ⊎ Fits says m.setting m.stage i.seqn i.payload.now
  ends (inl f) = inr (finishes_fits says m.setting m.stage i.seqn i.payload.now d.exchange d.made host f.0)
  ends (inr f) = inr (skips_fits says m.setting m.stage i.seqn i.payload.now d.written d.exchange d.made host f)

-- ---- what a row that refuses it says

differ : {A B : Type 0} (r : Result A B) (x : A) (y : B) → r ≡ Ok x → r ≡ Err y → ⊥
differ r x y h k = let q : Ok x ≡ Err y = sym h ∙ k in cc

same_read : {A B : Type 0} (r : Result A B) (x y : A) → r ≡ Ok x → r ≡ Ok y → x ≡ y
same_read r x y h k = let q : Ok x ≡ Ok y = sym h ∙ k in cc

in_range : (says : Says) (s : Setting) (stage : Stage) (seqn : ℕ) (payload : List ℕ) → IsReadIn says s stage seqn payload → IsOutOfRange s stage payload → ⊥
in_range says s (Created own) seqn payload r h = h
in_range says s (AwaitsGroup o) seqn payload r h = by (subst (IsOutside s.config.gex) (same_read _ _ _ h.1 r.1) h.2) where
  by : IsOutside s.config.gex r.0 → ⊥
  by (inl k) = (let a = r.2.least in omega (arith, a, k))
  by (inr k) = (let a = r.2.most in omega (arith, a, k))
in_range says s (AwaitsReply o gex local public) seqn payload r h = h
in_range says s (AwaitsRequest o) seqn payload r h = h
in_range says s (AwaitsValue o gex) seqn payload r h = h
in_range says s (AwaitsNewkeys exchange made host) seqn payload r h = h

is_offered : (says : Says) (s : Setting) (stage : Stage) (seqn : ℕ) (payload : List ℕ) → IsReadIn says s stage seqn payload → IsUnoffered says s stage seqn payload → ⊥
is_offered says s (Created own) seqn payload r h =
    let same = same_read _ _ _ h.1.read r.read in
    h.2 (subst (λ n. says.offers n.kex) (sym same) (r.offered (subst (λ n. (shape_of n.kex).skip ≡ false) same h.1.exchanges)))
is_offered says s (AwaitsGroup o) seqn payload r h = h
is_offered says s (AwaitsReply o gex local public) seqn payload r h = h
is_offered says s (AwaitsRequest o) seqn payload r h = h
is_offered says s (AwaitsValue o gex) seqn payload r h = h
is_offered says s (AwaitsNewkeys exchange made host) seqn payload r h = h

is_early : (says : Says) (s : Setting) (stage : Stage) (seqn : ℕ) (payload : List ℕ) → IsReadIn says s stage seqn payload → IsLate s stage seqn payload → ⊥
is_early says s (Created own) seqn payload r h = h.2 (subst (λ (n : Names). IsFirst s.cause n.strict_kex seqn) (same_read _ _ _ r.read h.1) r.first)
is_early says s (AwaitsGroup o) seqn payload r h = h
is_early says s (AwaitsReply o gex local public) seqn payload r h = h
is_early says s (AwaitsRequest o) seqn payload r h = h
is_early says s (AwaitsValue o gex) seqn payload r h = h
is_early says s (AwaitsNewkeys exchange made host) seqn payload r h = h

no_fault : (says : Says) (s : Setting) (stage : Stage) (seqn : ℕ) (payload : List ℕ) (fault : KexinitFault) → IsReadIn says s stage seqn payload → IsCreated stage → kexinit_read s payload ≡ Err fault → ⊥
no_fault says s stage seqn payload fault r c e = at stage c.0 c.1 r where
  at : (t : Stage) (own : List ℕ) → t ≡ Created own → IsReadIn says s t seqn payload → ⊥
  at (Created k) own q w = differ _ _ _ w.read e
  at (AwaitsGroup o) own q w = cc
  at (AwaitsReply o gex local public) own q w = cc
  at (AwaitsRequest o) own q w = cc
  at (AwaitsValue o gex) own q w = cc
  at (AwaitsNewkeys x made host) own q w = cc

none_behind : (payload : List ℕ) → payload ≡ newkeys → 0 < length (fields payload) → ⊥
none_behind payload e l = (let h = subst (λ m. 0 < length (fields m)) e l in omega (arith, h))

well_encoded : (says : Says) (s : Setting) (stage : Stage) (seqn : ℕ) (payload : List ℕ) (fault : EncodingFault) → IsReadIn says s stage seqn payload → IsBadlyEncoded s stage payload fault → ⊥
well_encoded says s (Created own) seqn payload fault r b = differ _ _ _ r.read b
well_encoded says s (AwaitsGroup o) seqn payload fault r b = differ _ _ _ r.1 b
well_encoded says s (AwaitsReply o gex local public) seqn payload fault r b = by b where
  by : (reply_front (fields payload) ≡ Err fault) ⊎ ((x : ReplyFront) × (reply_front (fields payload) ≡ Ok x) × (value_in x.behind ≡ Err fault)) → ⊥
  by (inl e) = differ _ _ _ r.read e
  by (inr e) = differ _ _ _ r.rest (ap (λ (x : ReplyFront). value_in x.behind) (same_read _ _ _ r.read e.1) ∙ e.2)
well_encoded says s (AwaitsRequest o) seqn payload fault r b = differ _ _ _ r.1 b
well_encoded says s (AwaitsValue o gex) seqn payload fault r b = differ _ _ _ r.1 b
well_encoded says s (AwaitsNewkeys exchange made host) seqn payload fault r b = none_behind payload r b.1

-- ---- both

-- a message that fits is refused for want of memory, or because of the parts
fits_refused : (says : Says) (denies : Denies) (s : Setting) (stage : Stage) (seqn : ℕ) (payload : List ℕ) (e : Error) → Fits says s stage seqn payload → RefusesMessage says denies s stage seqn payload e → PartsAnswer says denies s stage seqn payload e
fits_refused says denies s stage seqn payload errors.KexInit f (inl h) = h.1.type_is f.type_is
fits_refused says denies s stage seqn payload errors.KexInit f (inr h) = in_range says s stage seqn payload f.read h.1
fits_refused says denies s stage seqn payload errors.UnknownAlgo f h = is_offered says s stage seqn payload f.read h.1
fits_refused says denies s stage seqn payload (errors.NoCommonAlgo kind ours theirs) f h = no_fault says s stage seqn payload _ f.read h.1 h.2
fits_refused says denies s stage seqn payload errors.Version f h = h
fits_refused says denies s stage seqn payload errors.Kex f (inl h) = absurd (h.1.type_is f.type_is)
fits_refused says denies s stage seqn payload errors.Kex f (inr h) = h.1
fits_refused says denies s stage seqn payload errors.PacketAuth f h = h
fits_refused says denies s stage seqn payload errors.Inconsistent f h = no_fault says s stage seqn payload Inconsistent f.read h.1 h.2
fits_refused says denies s stage seqn payload errors.IndexOutOfBounds f h = h
fits_refused says denies s stage seqn payload errors.UnknownKey f h = h
fits_refused says denies s stage seqn payload errors.WrongServerSig f h = h.1
fits_refused says denies s stage seqn payload (errors.PacketSize n) f h = (h.1, h.2)
fits_refused says denies s stage seqn payload errors.Disconnect f h = h
fits_refused says denies s stage seqn payload errors.DecryptionError f h = h
fits_refused says denies s stage seqn payload errors.IO f h = h
fits_refused says denies s stage seqn payload (errors.StrictKeyExchangeViolation type place) f h = is_early says s stage seqn payload f.read h.1
fits_refused says denies s stage seqn payload errors.Signature f h = h.1
fits_refused says denies s stage seqn payload (errors.SshEncoding fault) f h = well_encoded says s stage seqn payload fault f.read h.1
fits_refused says denies s stage seqn payload (errors.InvalidConfig fault) f h = h
fits_refused says denies s stage seqn payload errors.Memory f h = tt

-- a wrong guess that is dropped is refused for want of memory alone
dropped_refused : (says : Says) (denies : Denies) (s : Setting) (stage : Stage) (seqn : ℕ) (payload : List ℕ) (e : Error) → drops_guess stage ≡ true → RefusesMessage says denies s stage seqn payload e → e ≡ errors.Memory
dropped_refused says denies s stage seqn payload errors.KexInit d (inl h) = absurd (both_skip _ d h.1.kept)
dropped_refused says denies s stage seqn payload errors.KexInit d (inr h) = absurd (both_skip _ d h.0.kept)
dropped_refused says denies s stage seqn payload errors.UnknownAlgo d h = absurd (both_skip _ d h.0.kept)
dropped_refused says denies s stage seqn payload (errors.NoCommonAlgo kind ours theirs) d h = absurd (both_skip _ d h.0.kept)
dropped_refused says denies s stage seqn payload errors.Version d h = absurd h
dropped_refused says denies s stage seqn payload errors.Kex d (inl h) = absurd (both_skip _ d h.1.kept)
dropped_refused says denies s stage seqn payload errors.Kex d (inr h) = absurd (both_skip _ d h.0.kept)
dropped_refused says denies s stage seqn payload errors.PacketAuth d h = absurd h
dropped_refused says denies s stage seqn payload errors.Inconsistent d h = absurd (both_skip _ d h.0.kept)
dropped_refused says denies s stage seqn payload errors.IndexOutOfBounds d h = absurd h
dropped_refused says denies s stage seqn payload errors.UnknownKey d h = absurd h
dropped_refused says denies s stage seqn payload errors.WrongServerSig d h = absurd (both_skip _ d h.0.kept)
dropped_refused says denies s stage seqn payload (errors.PacketSize n) d h = absurd (both_skip _ d h.0.kept)
dropped_refused says denies s stage seqn payload errors.Disconnect d h = absurd h
dropped_refused says denies s stage seqn payload errors.DecryptionError d h = absurd h
dropped_refused says denies s stage seqn payload errors.IO d h = absurd h
dropped_refused says denies s stage seqn payload (errors.StrictKeyExchangeViolation type place) d h = absurd (both_skip _ d h.0.kept)
dropped_refused says denies s stage seqn payload errors.Signature d h = absurd (both_skip _ d h.0.kept)
dropped_refused says denies s stage seqn payload (errors.SshEncoding fault) d h = absurd (both_skip _ d h.0.kept)
dropped_refused says denies s stage seqn payload (errors.InvalidConfig fault) d h = absurd h
dropped_refused says denies s stage seqn payload errors.Memory d h = refl

pub rows_exclude : (says : Says) (denies : Denies) (m : Machine) (i : Incoming) (old new : Writer) (p : KexProgress Machine) (error : Error) → Progresses says m (Some i) old p new → RefusesStep says denies m (Some i) error → PartsAnswer says denies m.setting m.stage i.seqn i.payload.now error
rows_exclude says denies m i old new p error t r = by (is_taken says m i old p new t) where
  by : (drops_guess m.stage ≡ true) ⊎ Fits says m.setting m.stage i.seqn i.payload.now → PartsAnswer says denies m.setting m.stage i.seqn i.payload.now error
  by (inl d) = subst (PartsAnswer says denies m.setting m.stage i.seqn i.payload.now) (sym (dropped_refused says denies m.setting m.stage i.seqn i.payload.now error d r)) tt
  by (inr f) = fits_refused says denies m.setting m.stage i.seqn i.payload.now error f r
