-- Each call on a transport that is a side of a link is a turn of it.
use Rattle.std.proofs.Common.{false, ◌≡◌, ℕ, List, [], ◌∷◌, ◌++◌, length, drop, refl, sym, ◌∙◌, ap, subst, Some, inl, inr, length-append, append-nil, append_assoc}
use Rattle.ssh_wire.specs.Lines.{NotYet, Id, Version, id_of, id_line, id_text}
use Rattle.ssh_wire.specs.Reading.{IdReading, still_allowed}
use Rattle.ssh_wire.specs.Sides.{other_side}
use Rattle.ssh_wire.specs.declared.side.Side.{Side}
use Rattle.ssh_kex.specs.Setting.{Says}
use Rattle.ssh_kex.specs.declared.config.Config.{Config}
use Rattle.ssh_rules.specs.Log.{handled, sent_bytes, read_bytes}
use Rattle.ssh_rules.specs.Machine.{Spot, SideState, Asked, Event, IdHeard, PayloadSubmitted, ExchangeBegun, AnswerSent, PayloadSent, MessageTaken, GuessDropped, PayloadDelivered, PacketDropped, ExchangeFinished, Steps, IsQuiet}
use Rattle.ssh_rules.specs.Snapshots.{StandsAs, HasCome, IsInLine, IsBehindLine, IsWholeId, GivesTurn, IsAtRest, TookBytes}
use Rattle.ssh_rules.specs.Standing.{Standing, Acts, HearsNone, HearsFrom, IsNoId, ReadsIdLine, ReadsLineFrom, TakesInput, Submitted, BeginsAsked, lets_pass}
use Rattle.ssh_rules.specs.Turns.{LinkEnd, HearsAs, TakesTurn, Talkers, talkers}
use Rattle.ssh_rules.specs.Wire.{HasFront}
use Rattle.ssh_rules.proofs.pair.IdLines.{InLine, BehindLine, cut_line, part_is_none, whole_is_id, all_left, drop_line}
use Rattle.ssh_rules.proofs.turns.Starts.{rests_again}

-- ---- events that hear nothing, and events that read nothing

none_as : (text : List ℕ) (es : List Event) → HearsNone es → HearsAs text es
none_as text [] h = tt
none_as text (IdHeard id ∷ es) h = absurd h
none_as text (PayloadSubmitted p ∷ es) h = none_as text es h
none_as text (ExchangeBegun cause i ∷ es) h = none_as text es h
none_as text (AnswerSent i r ∷ es) h = none_as text es h
none_as text (PayloadSent i ∷ es) h = none_as text es h
none_as text (MessageTaken i ∷ es) h = none_as text es h
none_as text (GuessDropped i ∷ es) h = none_as text es h
none_as text (PayloadDelivered i ∷ es) h = none_as text es h
none_as text (PacketDropped i ∷ es) h = none_as text es h
none_as text (ExchangeFinished i x ∷ es) h = none_as text es h

pub heard_stays : (says : Says) (side : Side) (config : Config) (own_id : List ℕ) (es : List Event) (st st' : SideState) → HearsNone es → Steps says side config own_id st es st' → st'.heard ≡ st.heard
heard_stays says side config own_id [] st st' n h = ap (λ (s : SideState). s.heard) h
heard_stays says side config own_id (IdHeard id ∷ es) st st' n h = absurd n
heard_stays says side config own_id (PayloadSubmitted p ∷ es) st st' n h = heard_stays says side config own_id es h.0 st' n h.2 ∙ ap (λ (s : SideState). s.heard) h.1.becomes
heard_stays says side config own_id (ExchangeBegun cause i ∷ es) st st' n h = heard_stays says side config own_id es h.0 st' n h.2 ∙ ap (λ (s : SideState). s.heard) h.1.becomes
heard_stays says side config own_id (AnswerSent i r ∷ es) st st' n h = heard_stays says side config own_id es h.0 st' n h.2 ∙ ap (λ (s : SideState). s.heard) h.1.becomes
heard_stays says side config own_id (PayloadSent i ∷ es) st st' n h = heard_stays says side config own_id es h.0 st' n h.2 ∙ ap (λ (s : SideState). s.heard) h.1.becomes
heard_stays says side config own_id (MessageTaken i ∷ es) st st' n h = heard_stays says side config own_id es h.0 st' n h.2 ∙ ap (λ (s : SideState). s.heard) h.1.becomes
heard_stays says side config own_id (GuessDropped i ∷ es) st st' n h = heard_stays says side config own_id es h.0 st' n h.2 ∙ ap (λ (s : SideState). s.heard) h.1.becomes
heard_stays says side config own_id (PayloadDelivered i ∷ es) st st' n h = heard_stays says side config own_id es h.0 st' n h.2 ∙ ap (λ (s : SideState). s.heard) h.1.becomes
heard_stays says side config own_id (PacketDropped i ∷ es) st st' n h = heard_stays says side config own_id es h.0 st' n h.2 ∙ ap (λ (s : SideState). s.heard) h.1.becomes
heard_stays says side config own_id (ExchangeFinished i x ∷ es) st st' n h = heard_stays says side config own_id es h.0 st' n h.2 ∙ ap (λ (s : SideState). s.heard) h.1.becomes

cons_nil : {A : Type 0} (x : A) (xs : List A) → x ∷ xs ≡ [] → ⊥
cons_nil x xs e = cc

pub no_bytes : (side : Side) (at : Spot) (es : List Event) → handled es ≡ [] → read_bytes side at es ≡ []
no_bytes side at [] e = refl
no_bytes side at (IdHeard id ∷ es) e = no_bytes side at es e
no_bytes side at (PayloadSubmitted p ∷ es) e = no_bytes side at es e
no_bytes side at (ExchangeBegun cause i ∷ es) e = no_bytes side at es e
no_bytes side at (AnswerSent i r ∷ es) e = no_bytes side at es e
no_bytes side at (PayloadSent i ∷ es) e = no_bytes side at es e
no_bytes side at (MessageTaken i ∷ es) e = absurd (cons_nil i (handled es) e)
no_bytes side at (GuessDropped i ∷ es) e = absurd (cons_nil i (handled es) e)
no_bytes side at (PayloadDelivered i ∷ es) e = absurd (cons_nil i (handled es) e)
no_bytes side at (PacketDropped i ∷ es) e = absurd (cons_nil i (handled es) e)
no_bytes side at (ExchangeFinished i x ∷ es) e = absurd (cons_nil i (handled es) e)

-- ---- a call, of the side that the transport is

at_side : (P : Side → Config → SideState → Type 0) (a a' : Side) (b b' : Config) (c c' : SideState) → a ≡ a' → b ≡ b' → c ≡ c' → P a b c → P a' b' c'
at_side P a a' b b' c c' e f g p = subst (λ z. P a' b' z) g (subst (λ y. P a' y c) f (subst (λ x. P x b c) e p))

-- some events led from a transport to another, and nothing was called for that isn't done
pub record ActsPart (says : Says) (old : Standing) (events : List Event) (new : Standing) : Type 0 where
  pub side : new.side ≡ old.side
  pub config : new.config ≡ old.config
  pub steps : Steps says old.side old.config (id_text old.config.id) old.state events new.state
  pub output : new.output ≡ old.output ++ sent_bytes old.side old.state.writing events
  pub not_called : new.state.called ≡ false
  pub live : new.failed ≡ false

part_of : (says : Says) (old : Standing) (events : List Event) (new : Standing) → Acts says old events new → ActsPart says old events new
part_of says old events new a = record { side = a.side; config = a.config; steps = a.steps; output = a.output; not_called = a.quiet.not_called; live = a.live }

record ActsAt (says : Says) (side : Side) (config : Config) (events : List Event) (h : LinkEnd) (old new : Standing) : Type 0 where
  pub side_is : new.side ≡ side
  pub config_is : new.config ≡ config
  pub steps : Steps says side config (id_text config.id) h.state events new.state
  pub output : new.output ≡ old.output ++ sent_bytes side h.state.writing events

acts_at : (says : Side → Says) (config : Side → Config) (side : Side) (took : List ℕ) (events : List Event) (h : LinkEnd) (old new : Standing) → StandsAs (talkers says config) side took old h → ActsPart (says side) old events new → ActsAt (says side) side (config side) events h old new
acts_at says config side took events h old new s a = record {
  side_is = a.side ∙ s.side_is;
  config_is = a.config ∙ s.config_is;
  steps = at_side (λ x y z. Steps (says side) x y (id_text y.id) z events new.state) old.side side old.config (config side) old.state h.state s.side_is s.config_is s.state_is a.steps;
  output = at_side (λ x y z. new.output ≡ old.output ++ sent_bytes x z.writing events) old.side side old.config (config side) old.state h.state s.side_is s.config_is s.state_is a.output;
}

quiet_at : (says : Side → Says) (config : Side → Config) (side : Side) (took : List ℕ) (events : List Event) (h : LinkEnd) (old new : Standing) → StandsAs (talkers says config) side took old h → Acts (says side) old events new → IsQuiet (config side) new.state
quiet_at says config side took events h old new s a = subst (λ c. IsQuiet c new.state) (a.config ∙ s.config_is) a.quiet

-- ---- lists

nil_behind : (a b : List ℕ) → [] ≡ a ++ b → b ≡ []
nil_behind [] b e = sym e
nil_behind (x ∷ a) b e = cc

same_rest : (a b c : List ℕ) → a ++ b ≡ a ++ c → b ≡ c
same_rest [] b c e = e
same_rest (x ∷ a) b c e = same_rest a b c (let f : a ++ b ≡ a ++ c = cc in f)

-- ---- what it took

pub took_bytes : (line took : List ℕ) (reading : IdReading) (waiting : List ℕ) (h : LinkEnd) → HasCome line took reading waiting h → TookBytes line h.fed h.state (length took)
took_bytes line took reading waiting h (inl p) = inl (p.unheard, p.fed, p.few)
took_bytes line took reading waiting h (inr p) = inr (p.text, p.heard, ap length p.took_is ∙ length-append line h.fed)

-- ---- a piece that is taken

-- the side behind events that a transport did
abbrev pub end_behind : Side → LinkEnd → List Event → List ℕ → Standing → LinkEnd
end_behind side h events piece new = record { state = new.state; sent = h.sent ++ sent_bytes side h.state.writing events; fed = h.fed ++ piece; unfinished = new.waiting }

-- the turn that they are, and where the side stands behind it
pub record TurnsBy (t : Talkers) (side : Side) (took : List ℕ) (events : List Event) (new : Standing) (h peer : LinkEnd) : Type 0 where
  pub piece : List ℕ
  pub turn : TakesTurn t side h piece events peer (end_behind side h events piece new)
  pub stands : StandsAs t side took new (end_behind side h events piece new)

-- Some events that a piece of an honest peer's wire led to, whether or not something whole is left.
pub taken_turn : (says : Side → Says) (config : Side → Config) (side : Side) (took piece : List ℕ) (events : List Event) (behind : List ℕ) (h peer : LinkEnd) (old new : Standing) → IsWholeId (config (other_side side)) → StandsAs (talkers says config) side took old h → HasFront (id_line (config (other_side side)).id ++ peer.sent) (took ++ piece) → ActsPart (says side) old events new → ReadsIdLine old piece events new.line behind → behind ≡ read_bytes old.side old.state.reading events ++ new.waiting → TurnsBy (talkers says config) side (took ++ piece) events new h peer
taken_turn says config side took piece events behind h peer old new whole s honest acts line_read read_is = by s.come where
  line : List ℕ
  line = id_line (config (other_side side)).id

  text : List ℕ
  text = id_text (config (other_side side)).id

  a : ActsAt (says side) side (config side) events h old new
  a = acts_at says config side took events h old new s acts

  read : behind ≡ read_bytes side h.state.reading events ++ new.waiting
  read = at_side (λ x y z. behind ≡ read_bytes x z.reading events ++ new.waiting) old.side side old.config (config side) old.state h.state s.side_is s.config_is s.state_is read_is

  turn_with : (p : List ℕ) → h.unfinished ++ p ≡ behind → HasFront peer.sent (h.fed ++ p) → HearsAs text events → HasCome line (took ++ piece) new.line new.waiting (end_behind side h events p new) → TurnsBy (talkers says config) side (took ++ piece) events new h peer
  turn_with p e front heard come = record {
    piece = p;
    turn = record { steps = a.steps; sends = refl; takes = refl; reads = e ∙ read; honest = front; heard = heard; answered = acts.not_called };
    stands = record { side_is = a.side_is; config_is = a.config_is; state_is = refl; live = acts.live; come = come };
  }

  allowed : ℕ
  allowed = still_allowed (lets_pass old.side) 0

  at_none : IsInLine line took old.line old.waiting h → InLine line (took ++ piece) → HearsFrom old.side NotYet (took ++ piece) 0 events new.line behind → TurnsBy (talkers says config) side (took ++ piece) events new h peer
  at_none c p f =
      let same : new.state ≡ h.state = subst (λ es. Steps (says side) side (config side) (id_text (config side).id) h.state es new.state) f.0 a.steps in
      let nothing : new.waiting ≡ [] = nil_behind (read_bytes side h.state.reading events) new.waiting (sym f.2 ∙ read) in
      turn_with [] (ap (λ q. q ++ []) c.unfinished ∙ sym f.2) (subst (λ q. HasFront peer.sent (q ++ [])) (sym c.fed) (peer.sent, refl)) (subst (HearsAs text) (sym f.0) tt)
      (inl (record {
        reading_is = f.1 ∙ all_left allowed (took ++ piece) 0 (part_is_none line text (took ++ piece) 0 whole p);
        few = p.few;
        unheard = ap (λ (q : SideState). q.heard) same ∙ c.unheard;
        fed = ap (λ q. q ++ []) c.fed;
        unfinished = nothing;
        waiting_is = nothing;
      }))

  at_id : IsInLine line took old.line old.waiting h → (p : BehindLine line peer.sent (took ++ piece)) → HearsFrom old.side (Id text (length line)) (took ++ piece) 0 events new.line behind → TurnsBy (talkers says config) side (took ++ piece) events new h peer
  at_id c p f =
      let steps = subst (λ es. Steps (says side) side (config side) (id_text (config side).id) h.state es new.state) f.0.1 a.steps in
      let heard : new.state.heard ≡ Some text = heard_stays (says side) side (config side) (id_text (config side).id) f.0.0 steps.0 new.state f.0.2 steps.2 ∙ ap (λ (q : SideState). q.heard) steps.1.becomes in
      let rest : behind ≡ p.rest = f.2 ∙ (ap (drop (length line)) p.whole ∙ drop_line line p.rest) in
      turn_with p.rest (ap (λ q. q ++ p.rest) c.unfinished ∙ sym rest) (subst (λ q. HasFront peer.sent (q ++ p.rest)) (sym c.fed) p.front) (subst (HearsAs text) (sym f.0.1) (refl, none_as text f.0.0 f.0.2))
      (inr (record { text = text; reading_is = f.1; heard = heard; unfinished = refl; took_is = p.whole ∙ ap (λ q. line ++ (q ++ p.rest)) (sym c.fed) }))

  in_line : IsInLine line took old.line old.waiting h → TurnsBy (talkers says config) side (took ++ piece) events new h peer
  in_line c =
      let f : HearsFrom old.side (id_of allowed (took ++ piece)) (took ++ piece) 0 events new.line behind = subst (λ r. ReadsLineFrom old.side r old.waiting piece events new.line behind) c.reading_is line_read in
      elim (cut_line line peer.sent (took ++ piece) honest.0 honest.1) [
        | inl p ↦ at_none c p (subst (λ r. HearsFrom old.side r (took ++ piece) 0 events new.line behind) (part_is_none line text (took ++ piece) allowed whole p) f)
        | inr p ↦ at_id c p (subst (λ r. HearsFrom old.side r (took ++ piece) 0 events new.line behind) (whole_is_id line text peer.sent (took ++ piece) allowed whole p) f)
      ]

  behind_line : IsBehindLine line took old.line old.waiting h → TurnsBy (talkers says config) side (took ++ piece) events new h peer
  behind_line c =
      let f = subst (λ r. ReadsLineFrom old.side r old.waiting piece events new.line behind) c.reading_is line_read in
      let all : took ++ piece ≡ line ++ (h.fed ++ piece) = ap (λ q. q ++ piece) c.took_is ∙ append_assoc line h.fed piece in
      let front : (h.fed ++ piece) ++ honest.0 ≡ peer.sent = same_rest line ((h.fed ++ piece) ++ honest.0) peer.sent (sym (append_assoc line (h.fed ++ piece) honest.0) ∙ (ap (λ q. q ++ honest.0) (sym all) ∙ honest.1)) in
      turn_with piece (ap (λ q. q ++ piece) (sym c.unfinished) ∙ sym f.2) (honest.0, front) (none_as text events f.0)
      (inr (record {
        text = c.text;
        reading_is = f.1;
        heard = heard_stays (says side) side (config side) (id_text (config side).id) events h.state new.state f.0 a.steps ∙ c.heard;
        unfinished = refl;
        took_is = all;
      }))

  by : HasCome line took old.line old.waiting h → TurnsBy (talkers says config) side (took ++ piece) events new h peer
  by (inl c) = in_line c
  by (inr c) = behind_line c

-- A piece of an honest peer's wire, taken by a transport that is a side of a link, is a turn of it.
pub input_turn : (says : Side → Says) (config : Side → Config) (side : Side) (took piece : List ℕ) (h peer : LinkEnd) (old new : Standing) → IsWholeId (config (other_side side)) → StandsAs (talkers says config) side took old h → HasFront (id_line (config (other_side side)).id ++ peer.sent) (took ++ piece) → (i : TakesInput (says side) old piece new) → GivesTurn (talkers says config) side (took ++ piece) i.events old new h peer
input_turn says config side took piece h peer old new whole s honest i = record {
  piece = v.piece;
  written = sent_bytes side h.state.writing i.events;
  behind = end_behind side h i.events v.piece new;
  turn = v.turn;
  stands = v.stands;
  rests = record { quiet = quiet_at says config side took i.events h old new s i.acts; part = i.part };
  sent_is = refl;
  output_is = a.output;
  delivered_is = i.acts.delivered;
} where
  a : ActsAt (says side) side (config side) i.events h old new
  a = acts_at says config side took i.events h old new s (part_of (says side) old i.events new i.acts)

  v : TurnsBy (talkers says config) side (took ++ piece) i.events new h peer
  v = taken_turn says config side took piece i.events i.behind h peer old new whole s honest (part_of (says side) old i.events new i.acts) i.line i.read

-- An honest peer's wire is never answered as one that has no version line.
pub no_version : (says : Side → Says) (config : Side → Config) (side : Side) (took piece : List ℕ) (events : List Event) (h peer : LinkEnd) (old : Standing) → IsWholeId (config (other_side side)) → StandsAs (talkers says config) side took old h → HasFront (id_line (config (other_side side)).id ++ peer.sent) (took ++ piece) → IsNoId old.side old.line piece events → ⊥
no_version says config side took piece events h peer old whole s honest n = by s.come where
  line : List ℕ
  line = id_line (config (other_side side)).id

  text : List ℕ
  text = id_text (config (other_side side)).id

  allowed : ℕ
  allowed = still_allowed (lets_pass old.side) 0

  by : HasCome line took old.line old.waiting h → ⊥
  by (inl c) =
      let f : (events ≡ []) × (id_of allowed (took ++ piece) ≡ Version) = subst (λ r. IsNoId old.side r piece events) c.reading_is n in
      elim (cut_line line peer.sent (took ++ piece) honest.0 honest.1) [
        | inl p ↦ (let q : NotYet ≡ Version = sym (part_is_none line text (took ++ piece) allowed whole p) ∙ f.1 in cc)
        | inr p ↦ (let q : Id text (length line) ≡ Version = sym (whole_is_id line text peer.sent (took ++ piece) allowed whole p) ∙ f.1 in cc)
      ]
  by (inr c) = subst (λ r. IsNoId old.side r piece events) c.reading_is n

-- ---- calls that read nothing

quiet_turn : (says : Side → Says) (config : Side → Config) (side : Side) (took : List ℕ) (events : List Event) (h peer : LinkEnd) (old new : Standing) → StandsAs (talkers says config) side took old h → IsAtRest (config side) h → HasFront peer.sent h.fed → Acts (says side) old events new → handled events ≡ [] → HearsNone events → new.line ≡ old.line → new.waiting ≡ old.waiting → GivesTurn (talkers says config) side took events old new h peer
quiet_turn says config side took events h peer old new s r front acts none silent line_is waiting_is = record {
  piece = [];
  written = sent_bytes side h.state.writing events;
  behind = behind;
  turn = record { steps = a.steps; sends = refl; takes = sym (append-nil h.fed); reads = append-nil h.unfinished ∙ ap (λ q. q ++ h.unfinished) (sym (no_bytes side h.state.reading events none)); honest = front; heard = none_as _ events silent; answered = acts.quiet.not_called };
  stands = record { side_is = a.side_is; config_is = a.config_is; state_is = refl; live = acts.live; come = come s.come };
  rests = rests_again (says side) side (config side) (id_text (config side).id) events h behind r none a.steps refl (quiet_at says config side took events h old new s acts);
  sent_is = refl;
  output_is = a.output;
  delivered_is = acts.delivered;
} where
  a : ActsAt (says side) side (config side) events h old new
  a = acts_at says config side took events h old new s (part_of (says side) old events new acts)

  behind : LinkEnd
  behind = record { state = new.state; sent = h.sent ++ sent_bytes side h.state.writing events; fed = h.fed; unfinished = h.unfinished }

  heard : new.state.heard ≡ h.state.heard
  heard = heard_stays (says side) side (config side) (id_text (config side).id) events h.state new.state silent a.steps

  come : HasCome (id_line (config (other_side side)).id) took old.line old.waiting h → HasCome (id_line (config (other_side side)).id) took new.line new.waiting behind
  come (inl c) = inl (record { reading_is = line_is ∙ c.reading_is; few = c.few; unheard = heard ∙ c.unheard; fed = c.fed; unfinished = c.unfinished; waiting_is = waiting_is ∙ c.waiting_is })
  come (inr c) = inr (record { text = c.text; reading_is = line_is ∙ c.reading_is; heard = heard ∙ c.heard; unfinished = waiting_is ∙ c.unfinished; took_is = c.took_is })

-- a submit
pub submit_turn : (says : Side → Says) (config : Side → Config) (side : Side) (took payload : List ℕ) (h peer : LinkEnd) (old new : Standing) → StandsAs (talkers says config) side took old h → IsAtRest (config side) h → HasFront peer.sent h.fed → (i : Submitted (says side) old payload new) → GivesTurn (talkers says config) side took i.events old new h peer
submit_turn says config side took payload h peer old new s r front i = quiet_turn says config side took i.events h peer old new s r front i.acts i.none_read i.silent i.line i.waiting

-- a rekey outside an exchange
pub rekey_turn : (says : Side → Says) (config : Side → Config) (side : Side) (took : List ℕ) (h peer : LinkEnd) (old new : Standing) → StandsAs (talkers says config) side took old h → IsAtRest (config side) h → HasFront peer.sent h.fed → (i : BeginsAsked (says side) old new) → GivesTurn (talkers says config) side took (ExchangeBegun Asked i.item ∷ []) old new h peer
rekey_turn says config side took h peer old new s r front i = quiet_turn says config side took (ExchangeBegun Asked i.item ∷ []) h peer old new s r front i.acts refl tt i.line i.waiting
