-- What is done with a message of an exchange, and what holds behind it.
use Rattle.std.proofs.Common.{◌≡◌, ℕ, Bool, true, false, List, [], ◌∷◌, ◌++◌, Option, Some, None, Result, Ok, Err, IfOk, refl, sym, ap, ◌∙◌, subst, arith, append_assoc, ◌⊎◌, inl, inr}
use Rattle.ssh_wire.specs.Lines.{id_text}
use Rattle.ssh_wire.specs.Orders.{is_kex}
use Rattle.ssh_wire.specs.declared.error.Error.{Error}
use Rattle.ssh_wire.specs.declared.side.Side.{Side}
use Rattle.ssh_negotiate.specs.declared.negotiation.Names.{Names}
use Rattle.ssh_packet.specs.Sealing.{Item, sealed_packet}
use Rattle.ssh_packet.specs.Stream.{message_type}
use Rattle.ssh_packet.specs.Writing.{Writer, with_item}
use Rattle.ssh_packet.specs.declared.keys.OpenKey.{OpenKey}
use Rattle.ssh_packet.specs.declared.reader.Incoming.{Incoming}
use Rattle.ssh_kex.specs.declared.exchange.NewKeys.{NewKeys}
use Rattle.ssh_kex.specs.Setting.{Says, Setting}
use Rattle.ssh_kex.specs.Stages.{Created, Machine, Stage, names_in_stage}
use Rattle.ssh_kex.specs.Stepping.{DropsGuess, Progresses, TakesOne}
use Rattle.ssh_kex.specs.declared.progress.KexProgress.{KexProgress}
use Rattle.ssh_kex.specs.declared.progress.KexProgress.TheVariants.{NeedsReply}
use Rattle.ssh_kex.specs.declared.config.Config.{Config}
use Rattle.ssh_kex.specs.declared.exchange.FinishedExchange.{FinishedExchange}
use Rattle.ssh_kex.specs.declared.session_state.SessionKexState.{SessionKexState}
use Rattle.ssh_kex.specs.declared.session_state.SessionKexState.TheVariants.{InProgress, Taken}
use Rattle.ssh_rules.specs.Log.{sent_bytes}
use Rattle.ssh_rules.specs.Machine.{Answering, BeginsExchange, ExchangeBegun, Inside, OrderBy, Outside, names_now, spot_after, spot_renumbered}
use Rattle.ssh_rules.specs.MessageTypes.{is_kex_type, type_of}
use Rattle.ssh_rules.specs.Valid.{config_fault}
use Rattle.ssh_transport.specs.Handling.{Handles, IsBegun, IsFlagged, IsFor, IsHeard, IsOpen, IsOpenBy, IsOwn, Moves, Passes, read_behind, spot_behind}
use Rattle.ssh_transport.specs.Kexinits.{SendsKexinit}
use Rattle.ssh_transport.specs.Saying.{setting_of}
use Rattle.ssh_transport.specs.States.{stands_of, state_at}
use Rattle.ssh_transport.specs.Handling.{GivesKeys, GivesNothing, GivesPayload, Installs, KeepsKey, Outcome, outcome_of}
use Rattle.ssh_transport.specs.declared.session.Disposition.{Disposition}
use Rattle.ssh_transport.specs.declared.session.Disposition.TheVariants.{Delivers, Done, Rekeys}
use Rattle.ssh_transport.specs.declared.session.Session.{Session}
use Rattle.ssh_transport.proofs.Answering.{dropped_flagged, spot_of, taken_flagged}
use Rattle.ssh_transport.proofs.Handling.{did_move, inside, own_config}
use Rattle.ssh_transport.proofs.Saying.{stated}

order_none : (side : Side) (number : ℕ) (i : Item) (records : List FinishedExchange) (names : Option Names)
    → names ≡ None → OrderBy side number i records names
order_none side number i [] None e = tt
order_none side number i [] (Some n) e = cc
order_none side number i (x ∷ records) names e = tt

kex_type : (type : ℕ) (payload : List ℕ) (i : Item) → type ≡ message_type payload → payload ≡ i.payload
    → is_kex type ≡ true → is_kex_type (type_of i) ≡ true
kex_type type payload i t p k = subst (λ (x : ℕ). is_kex x ≡ true) (t ∙ ap message_type p) k

-- ---- in an open exchange

own_of : (s : Session) (m : Machine) → s.kex ≡ InProgress m → IsOpen s → IsOwn s m
own_of s m e o = subst (λ (k : SessionKexState Machine). IsOpenBy (setting_of s) k) e o.machine

own_taken : (s : Session) (m : Machine) → IsOwn s m → IsOwn (record s { kex = Taken }) m
own_taken s m o = record { setting_is = o.setting_is; flagged = o.flagged }

handles_inside : (says : Says) (s s' : Session) (m : Machine) (inc : Incoming) (type : ℕ) (answer : Outcome)
    → config_fault s.side s.config.now ≡ None → IsOwn s m → type ≡ message_type inc.payload.now → is_kex type ≡ true
    → Passes s inc.seqn type → s.kex ≡ InProgress m → Moves says (record s { kex = Taken }) m inc answer s'
    → Handles says s inc.seqn inc.payload.now answer s'
handles_inside says s s' m inc type answer valid o t k passes e h at read i r q =
    let same : type_of i ≡ type = sym (t ∙ ap message_type r.payload_is) in
    let ordered : OrderBy s.side at.number i s.finished.items (names_in_stage m.stage) = subst
    (λ (x : SessionKexState Machine). OrderBy s.side at.number i s.finished.items
    (names_now (stands_of s.finished.items x))) e (passes at.number i r.small r.seqn_is same) in
    let p = did_move says (record s { kex = Taken }) s' m inc at read i false answer valid tt
    (kex_type type inc.payload.now i t r.payload_is k) (own_taken s m o) r ordered h in
    let d = p.0 in
    record {
      events = d.events;
      steps = subst (λ (x : SessionKexState Machine). Rattle.ssh_rules.specs.Machine.Steps says s.side s.config.now
          (id_text s.config.now.id) (stated s s.held.items s.writer (stands_of s.finished.items x) false at read)
          d.events (state_at s' (spot_behind answer at i) (read_behind answer read i))) (sym e) d.steps;
      output = d.output;
      bytes = d.bytes;
      delivered = d.delivered ∙ sym p.1;
      alone = λ f. absurd (subst (λ (x : Outcome). Moves says (record s { kex = Taken }) m inc x s') f h);
      input = d.input;
      silent = d.silent;
    }

-- ---- outside one

handles_begun : (says : Says) (s s' : Session) (w : Writer) (item : Item) (m : Machine) (inc : Incoming) (type : ℕ)
    (answer : Outcome) → config_fault s.side s.config.now ≡ None → stands_of s.finished.items s.kex ≡ Outside
    → SendsKexinit s.side s.config.now s.writer item w → m.setting ≡ setting_of s → m.stage ≡ Created item.payload
    → type ≡ message_type inc.payload.now → is_kex type ≡ true → Moves says (record s { writer = w }) m inc answer s'
    → Handles says s inc.seqn inc.payload.now answer s'
handles_begun says s s' w item m inc type answer valid outside sends setting_is stage_is t k h at read i r q =
    let o : IsOwn (record s { writer = w }) m = record {
      setting_is = setting_is;
      flagged = subst
          (λ (x : Stage). IsFlagged m.setting (names_in_stage x)) (sym stage_is) tt;
    } in
    let ordered : OrderBy s.side at.number i s.finished.items (names_in_stage m.stage) = order_none s.side at.number i
    s.finished.items (names_in_stage m.stage) (ap names_in_stage stage_is) in
    let p = did_move says (record s { writer = w }) s' m inc at read i true answer valid (item.payload, stage_is)
    (kex_type type inc.payload.now i t r.payload_is k) o r ordered h in
    let d = p.0 in
    let begins : BeginsExchange s.side s.config.now (state_at s at read) Answering item
    (inside (record s { writer = w }) m true at read) = record {
      may = outside;
      owes = refl;
      not_called = refl;
      cookie = sends.cookie;
      cookie_length = sends.cookie_length;
      payload_is = sends.payload_is;
      is_written = record { admissible = sends.admissible; padded = sends.padded };
      becomes = ap (λ (x : Writer). stated s s.held.items x (Inside m.stage) true at read) sends.written
          ∙ ap (λ (x : Stage). stated s s.held.items (with_item s.writer item) (Inside x) true at read) stage_is;
    } in
    record {
      events = ExchangeBegun Answering item ∷ d.events;
      steps = (inside (record s { writer = w }) m true at read, begins, d.steps);
      output = d.output ∙ ap (λ (x : Writer). x.output ++ sent_bytes s.side (spot_of x) d.events) sends.written
          ∙ append_assoc s.writer.output (sealed_packet s.writer.sealing s.writer.number item)
          (sent_bytes s.side (spot_after (spot_of s.writer) item) d.events);
      bytes = d.bytes;
      delivered = d.delivered ∙ sym p.1;
      alone = λ f. absurd (subst (λ (x : Outcome). Moves says (record s { writer = w }) m inc x s') f h);
      input = (d.input.0, (let u = d.input.1 in omega (arith, u)));
      silent = d.silent;
    }

pub handles_moved : (says : Says) (s s1 s' : Session) (m : Machine) (inc : Incoming) (type : ℕ) (answer : Outcome)
    → config_fault s.side s.config.now ≡ None → IsOpen s → type ≡ message_type inc.payload.now → is_kex type ≡ true
    → Passes s inc.seqn type → IsFor s m s1 → Moves says s1 m inc answer s'
    → Handles says s inc.seqn inc.payload.now answer s'
handles_moved says s s1 s' m inc type answer valid o t k passes (inl f) h = handles_begun says s s' s1.writer (f.0).item
    m inc type answer valid f.1 (f.0).sends (f.0).setting_is (f.0).stage_is t k
    (subst (λ (x : Session). Moves says x m inc answer s') (f.0).becomes h)
handles_moved says s s1 s' m inc type answer valid o t k passes (inr f) h = handles_inside says s s' m inc type answer
    valid (own_of s m f.0 o) t k passes f.0 (subst (λ (x : Session). Moves says x m inc answer s') f.1 h)

-- ---- what holds behind it

next_own : (says : Says) (s : Session) (m : Machine) (inc : Incoming) (next : Machine) (reset : Bool)
    (w written : Writer) → IsOwn s m → DropsGuess m w next reset written ⊎ TakesOne says m inc w next reset written
    → IsOwn s next
next_own says s m inc next reset w written o (inl d) = subst (λ (x : Machine). IsOwn s x) (sym d.kex_is)
    (record { setting_is = o.setting_is; flagged = dropped_flagged m.setting m.stage o.flagged })
next_own says s m inc next reset w written o (inr t) = record {
  setting_is = t.setting_is ∙ o.setting_is;
  flagged = subst (λ (x : Setting). IsFlagged x (names_in_stage next.stage)) (sym t.setting_is)
      (taken_flagged says m.setting m.stage next.stage inc.seqn inc.payload.now t.written t.takes o.flagged);
}

open_move : (says : Says) (s s' : Session) (m : Machine) (inc : Incoming) (answer : Outcome) → IsOwn s m
    → IsHeard s.line → Moves says s m inc answer s' → IsOpen s'
open_move says s s' m inc GivesPayload o l h = absurd h
open_move says s s' m inc GivesNothing o l h = subst IsOpen (sym h.becomes)
    (record {
      machine = (let n = next_own says s m inc h.next h.reset s.writer h.written o h.does in record
          { setting_is = n.setting_is; flagged = n.flagged });
      heard = λ b. l;
    })
open_move says s s' m inc (GivesKeys opening again) o l h = subst IsOpen (sym h.installs.3)
    (record { machine = tt; heard = λ b. l })

pub open_moved : (says : Says) (s s1 s' : Session) (m : Machine) (inc : Incoming) (answer : Outcome) → IsOpen s
    → IsBegun s → IsFor s m s1 → Moves says s1 m inc answer s' → IsOpen s'
open_moved says s s1 s' m inc answer o b (inl f) h = open_move says (record s { writer = s1.writer }) s' m inc answer
    (record {
      setting_is = (f.0).setting_is;
      flagged = subst (λ (x : Stage). IsFlagged m.setting (names_in_stage x))
          (sym (f.0).stage_is) tt;
    }) (o.heard b) (subst (λ (x : Session). Moves says x m inc answer s') (f.0).becomes h)
open_moved says s s1 s' m inc answer o b (inr f) h = open_move says (record s { kex = Taken }) s' m inc answer
    (own_taken s m (own_of s m f.0 o)) (o.heard b) (subst (λ (x : Session). Moves says x m inc answer s') f.1 h)

pub for_config : (s s1 : Session) (m : Machine) → IsOpen s → IsFor s m s1 → m.setting.config ≡ s.config.now
for_config s s1 m o (inl f) = own_config s m (record {
  setting_is = (f.0).setting_is;
  flagged = subst
      (λ (x : Stage). IsFlagged m.setting (names_in_stage x)) (sym (f.0).stage_is) tt;
})
for_config s s1 m o (inr f) = own_config s m (own_of s m f.0 o)

-- by what its machine's configuration makes the parts say
pub handles_taken : (says : Config → Says) (s s1 s' : Session) (m : Machine) (inc : Incoming) (type : ℕ)
    (answer : Outcome) → config_fault s.side s.config.now ≡ None → IsOpen s → type ≡ message_type inc.payload.now
    → is_kex type ≡ true → Passes s inc.seqn type → IsFor s m s1 → Moves (says m.setting.config) s1 m inc answer s'
    → Handles (says s.config.now) s inc.seqn inc.payload.now answer s'
handles_taken says s s1 s' m inc type answer valid o t k passes f h = handles_moved (says s.config.now) s s1 s' m inc
    type answer valid o t k passes f (subst (λ (x : Config). Moves (says x) s1 m inc answer s') (for_config s s1 m o f)
    h)

-- ---- the machine awaits more

-- the writer's numbers begin again where told
abbrev pub IsRenumbered : Session → Bool → Writer → Session → Type 0
IsRenumbered s reset w s' = (s' ≡ record s { writer = s'.writer })
    × (s'.writer ≡ record w {
      number = (spot_renumbered reset
          (record { sealing = w.sealing; number = w.number })).number;
    })

pub renumbered : (s : Session) (reset : Bool) (w w' : Writer) → reset ≡ true → w' ≡ record w { number = 0 }
    → IsRenumbered s reset w (record s { writer = w' })
renumbered s true w w' r e = (refl, e)
renumbered s false w w' r e = absurd (let f : false ≡ true = r in cc)

pub numbered_on : (s : Session) (reset : Bool) (w : Writer) → reset ≡ false
    → IsRenumbered s reset w (record s { writer = w })
numbered_on s true w r = absurd (let f : true ≡ false = r in cc)
numbered_on s false w r = (refl, refl)

pub awaits_in : (says : Says) (s : Session) (m : Machine) (i : Incoming) (progress : KexProgress Machine)
    (next : Machine) (reset : Bool) (w : Writer) (s1 : Session) → progress ≡ NeedsReply next reset
    → Progresses says m (Some i) s.writer progress w → IsRenumbered s reset w s1
    → Moves says s m i GivesNothing (record s1 { kex = InProgress next })
awaits_in says s m i progress next reset w s1 e h n = record {
  next = next;
  reset = reset;
  written = w;
  does = subst (λ (x : KexProgress Machine). Progresses says m (Some i) s.writer x w) e h;
  writer_is = n.1;
  becomes = ap (λ (x : Session). record x { kex = InProgress next }) n.0;
}

-- ---- the machine is at its end

-- another key is there then
pub installs_key : (s : Session) (k : NewKeys) (s' : Session) (key key' : OpenKey) (answer : Result Disposition Error)
    → IfOk answer (λ h. Installs s k (outcome_of h key') s') → IfOk answer (λ h. KeepsKey h key key')
installs_key s k s' key key' (Ok Delivers) h = absurd h
installs_key s k s' key key' (Ok Done) h = absurd h
installs_key s k s' key key' (Ok (Rekeys again)) h = tt
installs_key s k s' key key' (Err e) h = tt
