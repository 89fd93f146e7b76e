-- What is refused by parts that were asked before is refused by those that they were.
use Rattle.std.proofs.Common.{◌≡◌, ℕ, ◌≤◌, refl, false, [], ◌∷◌, Bool, true, List, Option, Some, None, ap, ◌∙◌, arith, inl, inr}
use Rattle.ssh_negotiate.specs.declared.kex.Name as kexes
use Rattle.ssh_wire.specs.Lines.{id_text}
use Rattle.ssh_wire.specs.Outside.{Rose}
use Rattle.ssh_wire.specs.declared.error.Error.{Error}
use Rattle.ssh_wire.specs.declared.error.Error.TheVariants as errors
use Rattle.ssh_packet.specs.Sealing.{Item}
use Rattle.ssh_wire.specs.declared.side.Side.{Side}
use Rattle.ssh_kex.specs.Refusals.{Denies, IsLongValue, IsTooLong, IsUnoffered, PartDenies, RefusesMessage, SignatureDenied, SigningDenied}
use Rattle.ssh_kex.specs.Setting.{Opened, Says, Setting}
use Rattle.ssh_kex.specs.Stages.{AwaitsGroup, AwaitsNewkeys, AwaitsReply, AwaitsRequest, AwaitsValue, Created, Stage}
use Rattle.ssh_kex.specs.declared.config.Config.{Config}
use Rattle.ssh_kex.specs.declared.exchange.ServerHost.{ServerHost}
use Rattle.ssh_kex.specs.declared.group.DhGroup.{DhGroup}
use Rattle.ssh_kex.specs.declared.group.GexParams.{GexParams}
use Rattle.ssh_rules.specs.Machine.{Asked, Event, ExchangeBegun, SideState}
use Rattle.ssh_rules.specs.Refusing.{AnswersCause, RefusesPacket, RefusesPiece, RefusesPieceAsking, untrusted_of}
use Rattle.ssh_rules.specs.Asking.{PartCalls}
use Rattle.ssh_rules.specs.Standing.{Acts, OfFault, OfMemory, OfPacket, OfVersion, RefusalCause, RefusesInput, Rekeyed, RekeyedFrom, Standing, Submitted, TakesInput, is_outside}
use Rattle.ssh_transport.proofs.Weaker.{Weaker, kept_weaker, steps_weaker}
use Rattle.ssh_kex.specs.Members.{AgreementKept, AgreementMembers, GroupLookupMembers, GroupsKept, HostKeysMembers, HostsKept}
use Rattle.ssh_kex.specs.Stepping.{denies_of, says_of}

-- what the first say and deny the second do too
pub record Denying (a b : Says) (d e : Denies) : Type 0 where
  pub weaker : Weaker a b
  pub offers : (n : kexes.Name) → b.offers n → a.offers n
  pub value_small : (v : List ℕ) → a.value_small v → b.value_small v
  pub signature_small : (v : List ℕ) → a.signature_small v → b.signature_small v
  pub start : (n : kexes.Name) (q : Option DhGroup) → d.start n q → e.start n q
  pub value : (n : kexes.Name) (q : Option DhGroup) (c : List ℕ) → d.value n q c → e.value n q c
  pub reply : (n : kexes.Name) (q : Option DhGroup) (l v : List ℕ) → d.reply n q l v → e.reply n q l v
  pub lookup : (sizes : GexParams) → d.lookup sizes → e.lookup sizes
  pub sign : (config : Config) → d.sign config → e.sign config
  pub verify : (host : ServerHost) (hash signature : List ℕ) → d.verify host hash signature
      → e.verify host hash signature

rose_later : (a b c : ℕ) → a ≤ b → Rose b c → Rose a c
rose_later a b c h r = omega (arith, h, r)

pub kept_denying : {A H G : Type 0} (ma : AgreementMembers A) (mh : HostKeysMembers H) (mg : GroupLookupMembers G)
    (config : Config) (a a' a'' : A) (h h' h'' : H) (g g' g'' : G)
    → AgreementKept ma a a'
    → HostsKept mh h h'
    → GroupsKept mg g g'
    → Denying (says_of ma mh mg config a' h' g')
    (says_of ma mh mg config a h g)
    (denies_of ma mh mg a' a'' h' h'' g' g'')
    (denies_of ma mh mg a a'' h h'' g g'')
kept_denying ma mh mg config a a' a'' h h' h'' g g' g'' ka kh kg = record {
  weaker = kept_weaker ma mh mg config a a' h h' g g' ka kh kg;
  offers = λ n k. offers_later n k;
  value_small = λ v k s w. k s (ka.lawful_kept s w);
  signature_small = λ v k s w. k s (kh.lawful_kept s w);
  start = λ n q k. (
    rose_later (ma.refusals a) (ma.refusals a') (ma.refusals a'') ka.refusals_later k.0,
    λ s o i e. k.1
        s (ka.obliging_kept a'' s q o) i (offers_later n e),
  );
  value = λ n q v k. (
    rose_later (ma.refusals a) (ma.refusals a') (ma.refusals a'') ka.refusals_later k.0,
    λ s l o i e m. k.1 s l (ka.obliging_kept a'' s q o) i (offers_later n e) m,
  );
  reply = λ n q l v k. (
    rose_later (ma.refusals a) (ma.refusals a') (ma.refusals a'') ka.refusals_later k.0,
    λ s x o i e m w. k.1 s x (ka.obliging_kept a'' s q o) i (offers_later n e) m w,
  );
  lookup = λ sizes k. (
    rose_later (mg.refusals g) (mg.refusals g') (mg.refusals g'') kg.refusals_later k.0,
    λ s o. k.1 s
        (kg.obliging_kept g'' s o),
  );
  sign = λ config k. (
    rose_later (mh.refused_sign h) (mh.refused_sign h') (mh.refused_sign h'') kh.sign_later k.0,
    λ s e o. k.1 s e (kh.signs_kept h'' s o),
  );
  verify = λ host hash signature k. (
    rose_later (mh.refused_verify h) (mh.refused_verify h') (mh.refused_verify h'')
        kh.verify_later k.0,
    λ s o e. k.1 s (kh.judges_kept h'' s o)
        (ap (λ (f : ServerHost → List ℕ → List ℕ → Bool). f host hash signature) kh.accepts_kept ∙ e),
  );
} where
  offers_later : (n : kexes.Name) → ma.offered a n ≡ true → ma.offered a' n ≡ true
  offers_later n e = ap (λ (f : kexes.Name → Bool). f n) ka.offered_kept ∙ e

pub kept_untrusting : {H : Type 0} (mh : HostKeysMembers H) (h h' h'' : H) (host : ServerHost)
    → HostsKept mh h h'
    → untrusted_of mh h' h'' host → untrusted_of mh h h'' host
kept_untrusting mh h h' h'' host k u = (
  rose_later (mh.refused_check h) (mh.refused_check h') (mh.refused_check h'')
      k.check_later u.0,
  λ s o e. u.1 s (k.judges_kept h'' s o)
      (ap (λ (f : ServerHost → Bool). f host) k.trusts_kept ∙ e),
)

-- ---- messages

unoffered_still : (a b : Says) (d e : Denies) → Denying a b d e
    → (s : Setting) (stage : Stage) (n : ℕ) (payload : List ℕ) → IsUnoffered a s stage n payload
    → IsUnoffered b s stage n payload
unoffered_still a b d e w s (Created own) n payload h = (h.0, h.1, λ k. h.2 (w.offers (h.0).kex k))
unoffered_still a b d e w s (AwaitsGroup o) n payload h = absurd h
unoffered_still a b d e w s (AwaitsReply o gex local public) n payload h = absurd h
unoffered_still a b d e w s (AwaitsRequest o) n payload h = absurd h
unoffered_still a b d e w s (AwaitsValue o gex) n payload h = absurd h
unoffered_still a b d e w s (AwaitsNewkeys exchange made host) n payload h = absurd h

denied_still : (a b : Says) (d e : Denies) → Denying a b d e → (s : Setting) (stage : Stage) (n : ℕ) (payload : List ℕ)
    → PartDenies a d s stage n payload → PartDenies b e s stage n payload
denied_still a b d e w s (Created own) n payload h = record {
  names = h.names;
  reads = h.reads;
  offered = w.weaker.offers _ h.offered;
  plain = h.plain;
  client = h.client;
  denied = w.start _ _ h.denied;
}
denied_still a b d e w s (AwaitsGroup o) n payload h = record
    { group = h.group; read = h.read; inside = h.inside; denied = w.start _ _ h.denied }
denied_still a b d e w s (AwaitsReply o gex local public) n payload h = record
    { front = h.front; read = h.read; denied = w.reply _ _ _ _ h.denied }
denied_still a b d e w s (AwaitsRequest o) n payload h = record
    { sizes = h.sizes; read = h.read; denied = w.lookup _ h.denied }
denied_still a b d e w s (AwaitsValue o gex) n payload h = record
    { value = h.value; read = h.read; denied = w.value _ _ _ h.denied }
denied_still a b d e w s (AwaitsNewkeys exchange made host) n payload h = absurd h

missigned_still : (a b : Says) (d e : Denies) → Denying a b d e → (s : Setting) (stage : Stage) (payload : List ℕ)
    → SignatureDenied a d s stage payload → SignatureDenied b e s stage payload
missigned_still a b d e w s (Created own) payload h = absurd h
missigned_still a b d e w s (AwaitsGroup o) payload h = absurd h
missigned_still a b d e w s (AwaitsReply o gex local public) payload h = record {
  front = h.front;
  signature = h.signature;
  secret = h.secret;
  read = h.read;
  rest = h.rest;
  agrees = w.weaker.reply
      _ _ _ _ _ _ h.agrees;
  denied = w.verify _ _ _ h.denied;
}
missigned_still a b d e w s (AwaitsRequest o) payload h = absurd h
missigned_still a b d e w s (AwaitsValue o gex) payload h = absurd h
missigned_still a b d e w s (AwaitsNewkeys exchange made host) payload h = absurd h

unsigned_still : (a b : Says) (d e : Denies) → Denying a b d e → (s : Setting) (stage : Stage) (payload : List ℕ)
    → SigningDenied s d stage payload → SigningDenied s e stage payload
unsigned_still a b d e w s (Created own) payload h = absurd h
unsigned_still a b d e w s (AwaitsGroup o) payload h = absurd h
unsigned_still a b d e w s (AwaitsReply o gex local public) payload h = absurd h
unsigned_still a b d e w s (AwaitsRequest o) payload h = absurd h
unsigned_still a b d e w s (AwaitsValue o gex) payload h = (h.0, w.sign s.config h.1)
unsigned_still a b d e w s (AwaitsNewkeys exchange made host) payload h = absurd h

long_value_still : (a b : Says) (d e : Denies) → Denying a b d e → (o : Opened) (group : Option DhGroup) (n : ℕ)
    → IsLongValue a o group n → IsLongValue b o group n
long_value_still a b d e w o group n h = record {
  local = h.local;
  public = h.public;
  makes = w.weaker.client_makes _ _
      _ _ h.makes;
  small = w.value_small _ h.small;
  size = h.size;
}

long_still : (a b : Says) (d e : Denies) → Denying a b d e
    → (s : Setting) (stage : Stage) (m : ℕ) (payload : List ℕ) (n : ℕ) → IsTooLong a s stage m payload n
    → IsTooLong b s stage m payload n
long_still a b d e w s (Created own) m payload n h = record {
  names = h.names;
  reads = h.reads;
  offered = w.weaker.offers _ h.offered;
  plain = h.plain;
  client = h.client;
  long
      = long_value_still a b d e w _ None n h.long;
}
long_still a b d e w s (AwaitsGroup o) m payload n h = (h.0, h.1, long_value_still a b d e w o (Some h.0) n h.2)
long_still a b d e w s (AwaitsReply o gex local public) m payload n h = absurd h
long_still a b d e w s (AwaitsRequest o) m payload n h = record
    { sizes = h.sizes; group = h.group; read = h.read; finds = w.weaker.finds _ _ h.finds; size = h.size }
long_still a b d e w s (AwaitsValue o gex) m payload n h = record {
  value = h.value;
  own_value = h.own_value;
  shown = h.shown;
  signature = h.signature;
  read = h.read;
  presents =
      h.presents;
  makes = w.weaker.server_makes _ _ _ _ h.makes;
  value_small = w.value_small _ h.value_small;
  signature_small = w.signature_small _ h.signature_small;
  size = h.size;
}
long_still a b d e w s (AwaitsNewkeys exchange made host) m payload n h = absurd h

pub refused_still : (a b : Says) (d e : Denies) → Denying a b d e
    → (s : Setting) (stage : Stage) (n : ℕ) (payload : List ℕ) (error : Error)
    → RefusesMessage a d s stage n payload error → RefusesMessage b e s stage n payload error
refused_still a b d e w s stage n payload errors.KexInit h = h
refused_still a b d e w s stage n payload errors.UnknownAlgo h = (h.0, unoffered_still a b d e w s stage n payload h.1)
refused_still a b d e w s stage n payload (errors.NoCommonAlgo kind ours theirs) h = h
refused_still a b d e w s stage n payload errors.Version h = absurd h
refused_still a b d e w s stage n payload errors.Kex (inl h) = inl h
refused_still a b d e w s stage n payload errors.Kex (inr h) = inr (h.0, denied_still a b d e w s stage n payload h.1)
refused_still a b d e w s stage n payload errors.PacketAuth h = absurd h
refused_still a b d e w s stage n payload errors.Inconsistent h = h
refused_still a b d e w s stage n payload errors.IndexOutOfBounds h = absurd h
refused_still a b d e w s stage n payload errors.UnknownKey h = absurd h
refused_still a b d e w s stage n payload errors.WrongServerSig h = (h.0, missigned_still a b d e w s stage payload h.1)
refused_still a b d e w s stage n payload (errors.PacketSize m) h =
    (h.0, h.1, long_still a b d e w s stage n payload m h.2)
refused_still a b d e w s stage n payload errors.Disconnect h = absurd h
refused_still a b d e w s stage n payload errors.DecryptionError h = absurd h
refused_still a b d e w s stage n payload errors.IO h = absurd h
refused_still a b d e w s stage n payload (errors.StrictKeyExchangeViolation type place) h = h
refused_still a b d e w s stage n payload errors.Signature h = (h.0, unsigned_still a b d e w s stage payload h.1)
refused_still a b d e w s stage n payload (errors.SshEncoding fault) h = h
refused_still a b d e w s stage n payload (errors.InvalidConfig fault) h = absurd h
refused_still a b d e w s stage n payload errors.Memory h = tt

packet_still : (a b : Says) (d e : Denies) (u v : ServerHost → Type 0) → Denying a b d e
    → ((host : ServerHost) → u host → v host) → (side : Side) (config : Config) (st : SideState) (i : Item)
    (error : Error) → RefusesPacket a d u side config st i error → RefusesPacket b e v side config st i error
packet_still a b d e u v w z side config st i error (inl h) = inl h
packet_still a b d e u v w z side config st i error (inr (inl h)) = inr (inl h)
packet_still a b d e u v w z side config st i error (inr (inr (inl h))) = inr
    (inr (inl (record {
      stage = h.stage;
      looks = h.looks;
      begins = h.begins;
      ordered = h.ordered;
      is_kex = h.is_kex;
      refuses = refused_still a b d e w _ h.stage _ i.payload error h.refuses;
    })))
packet_still a b d e u v w z side config st i error (inr (inr (inr (inl h)))) = inr
    (inr (inr (inl (record {
      exchange = h.exchange;
      made = h.made;
      host = h.host;
      inside = h.inside;
      payload_is =
          h.payload_is;
      ordered = h.ordered;
      denied = z h.host h.denied;
      error_is = h.error_is;
    }))))
packet_still a b d e u v w z side config st i error (inr (inr (inr (inr h)))) = inr (inr (inr (inr h)))

pub cause_still : (a b : Says) (d e : Denies) (u v : ServerHost → Type 0) → Denying a b d e
    → ((host : ServerHost) → u host → v host) → (side : Side) (config : Config) (cause : RefusalCause) (st : SideState)
    (error : Error) → AnswersCause a d u side config cause st error → AnswersCause b e v side config cause st error
cause_still a b d e u v w z side config (OfFault fault) st error h = h
cause_still a b d e u v w z side config (OfPacket i) st error h = packet_still a b d e u v w z side config st i error h
cause_still a b d e u v w z side config OfVersion st error h = h
cause_still a b d e u v w z side config OfMemory st error h = h

-- ---- a piece

-- A piece that is refused as later parts say and deny is refused so by earlier ones.
pub piece_still : (a b : Says) (d e : Denies) (u v : ServerHost → Type 0) → Denying a b d e
    → ((host : ServerHost) → u host → v host) → (old : Standing) (piece : List ℕ) (error : Error) (new : Standing)
    → RefusesPiece a d u old piece error new → RefusesPiece b e v old piece error new
piece_still a b d e u v w z old piece error new r = record {
  cause = r.cause;
  refuses = record {
    at = f.at;
    events = f.events;
    side = f.side;
    config = f.config;
    steps = steps_weaker a b w.weaker old.side old.config (id_text old.config.id) f.events old.state f.at f.steps;
    input = f.input;
    output = f.output;
    delivered = f.delivered;
    records = f.records;
    failed = f.failed;
    nothing = f.nothing;
    done = f.done;
    line = f.line;
    behind = f.behind;
    heard = f.heard;
    left = f.left;
    read = f.read;
    next = f.next;
  };
  answers = cause_still a b d e u v w z old.side old.config r.cause f.at error r.answers;
} where
  f : RefusesInput a old piece r.cause new
  f = r.refuses

-- with how often the parts were asked
pub asking_still : (a b : Says) (d e : Denies) (u v : ServerHost → Type 0) → Denying a b d e
    → ((host : ServerHost) → u host → v host) → (old : Standing) (piece : List ℕ) (error : Error) (new : Standing)
    (n n' : PartCalls) → RefusesPieceAsking a d u old piece error new n n'
    → RefusesPieceAsking b e v old piece error new n n'
unfolding piece_still
asking_still a b d e u v w z old piece error new n n' h = record
    { refused = piece_still a b d e u v w z old piece error new h.refused; asks = h.asks; few = h.few }

-- what acts as later parts say acts as earlier ones say
acts_still : (a b : Says) → Weaker a b → (old : Standing) (events : List Event) (new : Standing) → Acts a old events new
    → Acts b old events new
acts_still a b w old events new h = record {
  side = h.side;
  config = h.config;
  steps = steps_weaker a b w old.side old.config (id_text old.config.id) events old.state new.state h.steps;
  output = h.output;
  delivered = h.delivered;
  quiet = h.quiet;
  live = h.live;
}

pub submitted_still : (a b : Says) → Weaker a b → (old : Standing) (payload : List ℕ) (new : Standing)
    → Submitted a old payload new → Submitted b old payload new
submitted_still a b w old payload new h = record {
  events = h.events;
  acts = acts_still a b w old h.events new h.acts;
  one = h.one;
  none_read = h.none_read;
  unasked = h.unasked;
  silent = h.silent;
  line = h.line;
  waiting = h.waiting;
}

pub rekeyed_still : (a b : Says) → Weaker a b → (old new : Standing) → Rekeyed a old new → Rekeyed b old new
rekeyed_still a b w old new h = by (is_outside old.state.stands) h where
  by : (outside : Bool) → RekeyedFrom outside a old new → RekeyedFrom outside b old new
  by true k = record {
    item = k.item;
    acts = acts_still a b w old (ExchangeBegun Asked k.item ∷ []) new k.acts;
    line =
        k.line;
    waiting = k.waiting;
  }
  by false k = k

-- and of a piece that is taken
pub input_still : (a b : Says) → Weaker a b → (old : Standing) (piece : List ℕ) (new : Standing)
    → (i : TakesInput a old piece new) → (j : TakesInput b old piece new) × (j.events ≡ i.events)
input_still a b w old piece new i = (
  record {
    events = i.events;
    acts = acts_still a b w old i.events new i.acts;
    input = i.input;
    behind = i.behind;
    line = i.line;
    read = i.read;
    part = i.part;
    small = i.small;
  },
  refl,
)
