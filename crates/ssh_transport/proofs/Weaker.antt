-- What the parts say at a step, they say of themselves as they were before.
use Rattle.std.proofs.Common.{ℕ, Bool, true, false, List, [], ◌∷◌, Option, Some, None, IfSome, sym, ap, ◌∙◌}
use Rattle.ssh_wire.specs.declared.side.Side.{Side}
use Rattle.ssh_wire.specs.declared.side.Side.TheVariants.{Client, Server}
use Rattle.ssh_negotiate.specs.declared.kex.Name as kexes
use Rattle.ssh_kex.specs.Messages.{is_gex}
use Rattle.ssh_kex.specs.Setting.{Opened, Says, Setting}
use Rattle.ssh_kex.specs.Stages.{AwaitsGroup, AwaitsNewkeys, AwaitsReply, AwaitsRequest, AwaitsValue, Created, OpensBy, Stage, Takes}
use Rattle.ssh_kex.specs.declared.config.Config.{Config}
use Rattle.ssh_kex.specs.declared.exchange.ServerHost.{ServerHost}
use Rattle.ssh_kex.specs.declared.group.DhGroup.{DhGroup}
use Rattle.ssh_kex.specs.declared.group.GexParams.{GexParams}
use Rattle.ssh_rules.specs.Machine.{Event, ExchangeBegun, IdHeard, PayloadSubmitted, AnswerSent, PayloadSent, MessageTaken, GuessDropped, PayloadDelivered, PacketDropped, ExchangeFinished, SideState, Steps, setting}
use Rattle.ssh_kex.specs.Members.{AgreementKept, AgreementMembers, GroupLookupMembers, GroupsKept, HostKeysMembers, HostsKept}
use Rattle.ssh_kex.specs.Stepping.{says_of}

-- what the first say the second say too
pub record Weaker (a b : Says) : Type 0 where
  pub agrees : (n : kexes.Name) (q : Option DhGroup) (c v x : List ℕ) → a.agrees n q c v x → b.agrees n q c v x
  pub client_makes : (n : kexes.Name) (q : Option DhGroup) (l c : List ℕ) → a.client_makes n q l c
      → b.client_makes n q l c
  pub server_makes : (n : kexes.Name) (q : Option DhGroup) (c v : List ℕ) → a.server_makes n q c v
      → b.server_makes n q c v
  pub reply : (n : kexes.Name) (q : Option DhGroup) (l c v x : List ℕ) → (a.client_makes n q l c → a.agrees n q c v x)
      → b.client_makes n q l c → b.agrees n q c v x
  pub finds : (sizes : GexParams) (q : DhGroup) → a.finds sizes q → b.finds sizes q
  pub signs : (host : ServerHost) (hash signature : List ℕ) → a.signs host hash signature → b.signs host hash signature
  pub accepts : (host : ServerHost) (hash signature : List ℕ) → a.accepts host hash signature
      → b.accepts host hash signature
  pub trusts : (host : ServerHost) → a.trusts host → b.trusts host
  pub offers : (n : kexes.Name) → a.offers n → b.offers n

pub kept_weaker : {A H G : Type 0} (ma : AgreementMembers A) (mh : HostKeysMembers H) (mg : GroupLookupMembers G)
    (config : Config) (a a' : A) (h h' : H) (g g' : G)
    → AgreementKept ma a a'
    → HostsKept mh h h'
    → GroupsKept mg g g'
    → Weaker (says_of ma mh mg config a' h' g')
    (says_of ma mh mg config a h g)
kept_weaker ma mh mg config a a' h h' g g' ka kh kg = record {
  agrees = λ n q c v x k s l. k s (ka.lawful_kept s l);
  client_makes = λ n q l c k s w. k s (ka.lawful_kept s w);
  server_makes = λ n q c v k s w. k s (ka.lawful_kept s w);
  reply = λ n q l c v x k m s w. k (λ t u. m s w) s (ka.lawful_kept s w);
  finds = λ sizes q k s w. (let p = k s (kg.lawful_kept s w) in
      (p.0 ∙ ap (λ (f : GexParams → DhGroup). f sizes) kg.group_kept, p.1));
  signs = λ host hash signature k later s e o. k later s e (kh.signs_kept later s o);
  accepts = λ host hash signature k. sym (ap (λ (f : ServerHost → List ℕ → List ℕ → Bool). f host hash signature)
      kh.accepts_kept) ∙ k;
  trusts = λ host k. sym (ap (λ (f : ServerHost → Bool). f host) kh.trusts_kept) ∙ k;
  offers = λ n k. sym (ap (λ (f : kexes.Name → Bool). f n) ka.offered_kept) ∙ k;
}

-- ---- the rows

opens_weaker : (a b : Says) → Weaker a b → (side : Side) (kind : Bool) (s : Setting) (o : Opened)
    (written : List (List ℕ)) (next : Stage) → OpensBy side kind a s o written next
    → OpensBy side kind b s o written next
opens_weaker a b w Client true s o written next h = h
opens_weaker a b w Client false s o written next h = record {
  local = h.local;
  public = h.public;
  starts = record
      { makes = w.client_makes _ _ _ _ h.starts.makes; short = h.starts.short };
  leads = h.leads;
}
opens_weaker a b w Server true s o written next h = h
opens_weaker a b w Server false s o written next h = h

pub takes_weaker : (a b : Says) → Weaker a b → (s : Setting) (stage : Stage) (n : ℕ) (payload : List ℕ)
    (written : List (List ℕ)) (next : Stage) → Takes a s stage n payload written next
    → Takes b s stage n payload written next
takes_weaker a b w s (Created own) n payload written next h = record {
  names = h.names;
  reads = h.reads;
  exchanges = h.exchanges;
  offered = w.offers _ h.offered;
  opens = opens_weaker a
      b w s.side (is_gex h.names.kex) s (record { names = h.names; own_kexinit = own; peer_kexinit = payload }) written
      next h.opens;
}
takes_weaker a b w s (AwaitsGroup o) n payload written next h = record {
  group = h.group;
  local = h.local;
  public = h.public;
  payload_is = h.payload_is;
  canonical = h.canonical;
  short =
      h.short;
  least = h.least;
  most = h.most;
  starts = record
      { makes = w.client_makes _ _ _ _ h.starts.makes; short = h.starts.short };
  leads = h.leads;
}
takes_weaker a b w s (AwaitsReply o gex local public) n payload written next h = record {
  host = h.host;
  value = h.value;
  signature = h.signature;
  secret = h.secret;
  payload_is = h.payload_is;
  host_short
      = h.host_short;
  value_short = h.value_short;
  signature_short = h.signature_short;
  agrees = w.reply _ _ _ _ _ _
      h.agrees;
  accepts = w.accepts _ _ _ h.accepts;
  leads = h.leads;
}
takes_weaker a b w s (AwaitsRequest o) n payload written next h = record {
  sizes = h.sizes;
  group = h.group;
  payload_is = h.payload_is;
  finds = w.finds _ _ h.finds;
  short = h.short;
  leads =
      h.leads;
}
takes_weaker a b w s (AwaitsValue o gex) n payload written next h = record {
  value = h.value;
  own_value = h.own_value;
  secret = h.secret;
  signature = h.signature;
  shown = h.shown;
  payload_is
      = h.payload_is;
  value_short = h.value_short;
  own_value_short = h.own_value_short;
  host_short = h.host_short;
  signature_short = h.signature_short;
  agrees = w.agrees _ _ _ _ _ h.agrees;
  makes = w.server_makes _ _ _ _ h.makes;
  presents = h.presents;
  signs = w.signs _ _ _ h.signs;
  leads = h.leads;
}
takes_weaker a b w s (AwaitsNewkeys exchange made host) n payload written next h = absurd h

trusted_weaker : (a b : Says) → Weaker a b → (host : Option ServerHost) → IfSome host a.trusts → IfSome host b.trusts
trusted_weaker a b w None h = tt
trusted_weaker a b w (Some host) h = w.trusts host h

pub steps_weaker : (a b : Says) → Weaker a b → (side : Side) (config : Config) (own : List ℕ) (es : List Event)
    (st st' : SideState) → Steps a side config own st es st' → Steps b side config own st es st'
steps_weaker a b w side config own [] st st' h = h
steps_weaker a b w side config own (ExchangeBegun cause i ∷ es) st st' h =
    (h.0, h.1, steps_weaker a b w side config own es h.0 st' h.2)
steps_weaker a b w side config own (PayloadSent i ∷ es) st st' h =
    (h.0, h.1, steps_weaker a b w side config own es h.0 st' h.2)
steps_weaker a b w side config own (IdHeard id ∷ es) st st' h =
    (h.0, h.1, steps_weaker a b w side config own es h.0 st' h.2)
steps_weaker a b w side config own (PayloadSubmitted p ∷ es) st st' h =
    (h.0, h.1, steps_weaker a b w side config own es h.0 st' h.2)
steps_weaker a b w side config own (AnswerSent i again ∷ es) st st' h =
    (h.0, h.1, steps_weaker a b w side config own es h.0 st' h.2)
steps_weaker a b w side config own (MessageTaken i ∷ es) st st' h = (
  h.0,
  record {
    stage = h.1.stage;
    next = h.1.next;
    answers = h.1.answers;
    inside = h.1.inside;
    owes = h.1.owes;
    kept
        = h.1.kept;
    admissible = h.1.admissible;
    ordered = h.1.ordered;
    takes = takes_weaker a b w
        (setting side config own st) h.1.stage _ i.payload h.1.answers h.1.next h.1.takes;
    becomes = h.1.becomes;
  },
  steps_weaker a b w side config own es h.0 st' h.2,
)
steps_weaker a b w side config own (GuessDropped i ∷ es) st st' h =
    (h.0, h.1, steps_weaker a b w side config own es h.0 st' h.2)
steps_weaker a b w side config own (PayloadDelivered i ∷ es) st st' h =
    (h.0, h.1, steps_weaker a b w side config own es h.0 st' h.2)
steps_weaker a b w side config own (PacketDropped i ∷ es) st st' h =
    (h.0, h.1, steps_weaker a b w side config own es h.0 st' h.2)
steps_weaker a b w side config own (ExchangeFinished i x ∷ es) st st' h = (
  h.0,
  record {
    exchange = h.1.exchange;
    host = h.1.host;
    inside = h.1.inside;
    owes = h.1.owes;
    payload_is =
        h.1.payload_is;
    trusted = trusted_weaker a b w h.1.host h.1.trusted;
    admissible = h.1.admissible;
    ordered =
        h.1.ordered;
    becomes = h.1.becomes;
  },
  steps_weaker a b w side config own es h.0 st' h.2,
)
