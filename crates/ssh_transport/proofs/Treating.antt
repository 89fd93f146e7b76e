-- What is done with a message, by what its machine did.
use Rattle.std.proofs.Common.{◌≡◌, ℕ, Bool, true, false, ◌⊎◌, refl, Result, Ok, Err, IfErr, IfOk, OnErr, OnOk, subst, sym, ◌∙◌}
use Rattle.rand_core.specs.Stream.{Stream}
use Rattle.rand_core.specs.declared.Rng as rng
use Rattle.ssh_wire.specs.declared.side.Side.{Side}
use Rattle.ssh_wire.specs.declared.error.Error.TheVariants.{Inconsistent, Memory}
use Rattle.ssh_kex.specs.Members.{AgreementKept, AgreementMembers, GroupLookupMembers, GroupsKept, HostKeysMembers, HostsKept}
use Rattle.ssh_kex.specs.Parts.{KeepsParts}
use Rattle.ssh_kex.specs.Stepping.{denies_of, says_of}
use Rattle.ssh_kex.specs.declared.parts.Parts.{Parts}
use Rattle.ssh_rules.specs.Refusing.{untrusted_of}
use Rattle.ssh_rules.proofs.Lemmas.{message_none}
use Rattle.ssh_wire.specs.Orders.{is_kex}
use Rattle.ssh_wire.specs.declared.error.Error.{Error}
use Rattle.ssh_packet.specs.Stream.{message_type}
use Rattle.ssh_packet.specs.declared.keys.OpenKey.{OpenKey}
use Rattle.ssh_packet.specs.declared.reader.Incoming.{Incoming}
use Rattle.ssh_kex.specs.Stages.{Machine}
use Rattle.ssh_rules.specs.Asking.{AsksForMessage, AsksForType, PartCalls}
use Rattle.ssh_rules.specs.Machine.{Inside, Where}
use Rattle.ssh_transport.specs.Calls.{CanTreat, PartsCall, Treats, call_of}
use Rattle.ssh_transport.specs.Handling.{Handles, IsFor, KeepsKey, Moves, Passes, outcome_of}
use Rattle.ssh_transport.specs.Saying.{Stays}
use Rattle.ssh_transport.specs.Sending.{MoveServes, WritesDrawn}
use Rattle.ssh_transport.specs.States.{IsUnheard, stands_of}
use Rattle.ssh_transport.specs.Stopping.{Appends, BeginsAt, IsAsBefore, IsForNone, Refuses, RefusesMove}
use Rattle.ssh_transport.specs.declared.session.Disposition.{Disposition}
use Rattle.ssh_transport.specs.declared.session.Session.{Session}
use Rattle.ssh_transport.proofs.Appending.{appends_same, appends_taken}
use Rattle.ssh_transport.proofs.Asking.{message_refused_asks}
use Rattle.ssh_transport.proofs.Moving.{handles_taken, open_moved}
use Rattle.ssh_transport.proofs.Refusing.{refuses_none, refuses_taken}
use Rattle.ssh_transport.proofs.Serving.{message_serves, serves_same}
use Rattle.ssh_transport.proofs.Parts.{agreement_same, groups_same, hosts_same}

-- ---- where nothing was done

asks_none : (kex : Bool) (side : Side) (w : Where) (n : PartCalls) → AsksForType kex side w n n
asks_none true side w n = message_none side w n
asks_none false side w n = refl

pub keeps_same : {A H G : Type 0} (ma : AgreementMembers A) (mh : HostKeysMembers H) (mg : GroupLookupMembers G) (a : A)
    (h : H) (g : G)
    → KeepsParts (AgreementKept ma a a) (HostsKept mh h h) (GroupsKept mg g g)
keeps_same ma mh mg a h g = record {
  agreement = agreement_same _ _ _ _ _ a;
  hosts = hosts_same _ _ _ _ _ _ _ _ _ h;
  groups = groups_same _ _ _ _ _ g;
}

pub taken_still : {A H G R : Type 0} (ma : AgreementMembers A) (mh : HostKeysMembers H) (mg : GroupLookupMembers G)
    (mr : rng.Ghosts R) (p : Parts A H G R)
    (s : Session) (i : Incoming) (key : OpenKey) (answer : Disposition) → CanTreat s i → KeepsKey answer key key
    → Handles (says_of ma mh mg s.config.now p.agreement p.hosts p.groups) s i.seqn i.payload.now
    (outcome_of answer key) s
    → Treats Appends (call_of ma mh mg mr p p) s i key (Ok answer) s key
taken_still ma mh mg mr p s i key answer can kept handles = record {
  stays = (can.begins, refl, refl, (refl, refl));
  keeps = keeps_same ma mh mg p.agreement p.hosts p.groups;
  unheard = can.unheard;
  opened = can.opened;
  serves = serves_same _ _ _ _ _ refl;
  handles = handles;
  key_is = kept;
  delivers = λ e. refl;
  others = λ e. refl;
}

pub refused_still : {A H G R : Type 0} (ma : AgreementMembers A) (mh : HostKeysMembers H) (mg : GroupLookupMembers G)
    (mr : rng.Ghosts R) (p : Parts A H G R)
    (s : Session) (i : Incoming) (key : OpenKey) (error : Error) → CanTreat s i
    → Refuses (says_of ma mh mg s.config.now p.agreement p.hosts p.groups)
    (denies_of ma mh mg p.agreement p.agreement p.hosts p.hosts p.groups p.groups)
    (untrusted_of mh p.hosts p.hosts) s i.seqn i.payload.now error
    → Treats Appends (call_of ma mh mg mr p p) s i key (Err error) s key
refused_still ma mh mg mr p s i key error can refuses = record {
  stays = (can.begins, refl, refl, (refl, refl));
  keeps = keeps_same ma mh mg p.agreement p.hosts p.groups;
  asked = asks_none _ _ _ _;
  refuses = refuses;
  leaves = appends_same s s (record { output = refl; records = refl });
}

-- an answer that was passed on
pub passed_on : (p : PartsCall) (s s' : Session) (i : Incoming) (key key' : OpenKey) (answer : Result Disposition Error)
    (d e : Error)
    → answer ≡ Err d → d ≡ e
    → Treats Appends p s i key (Err e) s' key' → Treats Appends p s i key answer s' key'
passed_on p s s' i key key' answer d e a b h = subst (λ (r : Result Disposition Error). Treats Appends p s i key r s'
    key') (sym a)
    (subst (λ (x : Error). Treats Appends p s i key (Err x) s' key') (sym b) h)

-- no machine was there for it
pub none_treated : {A H G R : Type 0} (ma : AgreementMembers A) (mh : HostKeysMembers H) (mg : GroupLookupMembers G)
    (mr : rng.Ghosts R) (p q : Parts A H G R)
    (s s' : Session) (i : Incoming) (key : OpenKey) (type : ℕ) (error : Error)
    → (q.agreement ≡ p.agreement) × (q.hosts ≡ p.hosts) × (q.groups ≡ p.groups)
    → CanTreat s i → type ≡ message_type i.payload.now → is_kex type ≡ true → Passes s i.seqn type → Stays s s'
    → IsAsBefore s s'
    → ((error ≡ Memory) × BeginsAt s type) ⊎ ((error ≡ Inconsistent) × IsForNone s type)
    → Treats Appends (call_of ma mh mg mr p q) s i key (Err error) s' key
none_treated ma mh mg mr p q s s' i key type error same can t k passes stays rests refused = record {
  stays = stays;
  keeps = rw (same.0, same.1, same.2) (keeps_same ma mh mg p.agreement p.hosts p.groups);
  asked = rw (same.0, same.1, same.2) (asks_none _ _ _ _);
  refuses = refuses_none _ _ _ s i.seqn type i.payload.now error can.opened can.begun t k passes refused;
  leaves = appends_same s s' rests;
}

-- ---- what a machine did

-- no machine delivers, and what it takes is a message of an exchange
pub message_treated : (p : PartsCall) (first : Stream) (s s1 s' : Session) (m : Machine) (i : Incoming) (type : ℕ)
    (key key' : OpenKey) (answer : Result Disposition Error)
    → CanTreat s i → type ≡ message_type i.payload.now → is_kex type ≡ true → Passes s i.seqn type
    → BeginsAt s type → IsFor s m s1 → Stays s s1 → WritesDrawn s s1 first p.stream
    → Stays s1 s' → p.keeps → OnOk answer (IsUnheard s')
    → OnOk answer (MoveServes p.draws m s1 s' p.before p.after p.stream p.left)
    → OnErr answer (AsksForMessage m.setting.side (Inside m.stage) p.before.calls p.after.calls)
    → IfOk answer (λ h. Moves (p.says m.setting.config) s1 m i (outcome_of h key') s')
    → IfOk answer (λ h. KeepsKey h key key')
    → IfErr answer (λ e. RefusesMove (p.says m.setting.config) p.denies p.distrusts m i e)
    → OnErr answer (Appends s1 s')
    → Treats Appends (record p { stream = first }) s i key answer s' key'
message_treated p first s s1 s' m i type key key' (Ok h) can t k q b f st w more keeps unheard serves asked moves kept
    refuses appends
    = record {
      stays = (more.0, more.1 ∙ st.1, more.2 ∙ st.2, (more.3.0 ∙ st.3.0, more.3.1 ∙ st.3.1));
      keeps = keeps;
      unheard = unheard;
      opened = open_moved (p.says m.setting.config) s s1 s' m i (outcome_of h key') can.opened can.begun f moves;
      serves = message_serves p.draws (p.says m.setting.config) s s1 s' m i (outcome_of h key') p.before p.after first
          p.stream p.left
          can.begins.valid can.opened f st.3 w moves serves;
      handles = handles_taken p.says s s1 s' m i type (outcome_of h key') can.begins.valid can.opened t k q f moves;
      delivers = λ e. absurd (subst (λ (x : Disposition). Moves (p.says m.setting.config) s1 m i (outcome_of x key') s') e
          moves);
      key_is = kept;
      others = λ e. (cc);
    }
message_treated p first s s1 s' m i type key key' (Err e) can t k q b f st w more keeps unheard serves asked moves kept
    refuses appends = record {
      stays = (more.0, more.1 ∙ st.1, more.2 ∙ st.2, (more.3.0 ∙ st.3.0, more.3.1 ∙ st.3.1));
      keeps = keeps;
      asked = subst (λ (x : Bool). AsksForType x s.side (stands_of s.finished.items s.kex) p.before.calls p.after.calls)
          (sym (subst (λ (x : ℕ). is_kex x ≡ true) t k)) (message_refused_asks s s1 m p.before.calls p.after.calls
          can.opened f asked);
      refuses = refuses_taken p.says p.denies p.distrusts s s1 m i type e can.opened t k q b f refuses;
      leaves = appends_taken {T = Disposition} s s1 s' m (Err e) f appends;
    }
