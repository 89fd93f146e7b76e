-- What a call on one side of a carried link does: a turn of that side, behind which it stands as it did.
use Rattle.std.proofs.Common.{◌≡◌, ℕ, ◌+◌, ◌<◌, ◌≤◌, ◌^◌, List, [], ◌∷◌, ◌++◌, length, take, drop, refl, sym, ◌∙◌, ap, subst, arith, not, append_assoc, append-nil, length-append}
use Rattle.std.proofs.Math.Seq.{take-add}
use Rattle.std.proofs.lemmas.List.{take-append-drop, take-append-le, length-take-le}
use Rattle.ssh_wire.specs.Lines.{id_line, id_text}
use Rattle.ssh_wire.specs.Sides.{other_side}
use Rattle.ssh_wire.specs.declared.side.Side.{Side}
use Rattle.ssh_kex.specs.Setting.{Says}
use Rattle.ssh_kex.specs.declared.config.Config.{Config}
use Rattle.ssh_rules.specs.Log.{delivered_in, handled, read_bytes, sent_bytes, submitted_in}
use Rattle.ssh_rules.specs.Machine.{Asked, Event, IdHeard, PayloadSubmitted, ExchangeBegun, AnswerSent, PayloadSent, MessageTaken, GuessDropped, PayloadDelivered, PacketDropped, ExchangeFinished, SideState, first_state}
use Rattle.ssh_rules.specs.Snapshots.{GivesTurn, HasRun, IsAtRest, IsMarkOf, IsWholeId, StandsAs, TookBytes}
use Rattle.ssh_rules.specs.Standing.{BeginsAsked, Standing, is_outside}
use Rattle.ssh_rules.specs.Turns.{LinkEnd, TakesTurn, talkers}
use Rattle.ssh_rules.specs.Wire.{HasFront}
use Rattle.ssh_rules.proofs.Lemmas.{delivered_more, input_turn, read_join, rekey_turn, sent_join, steps_join, submit_turn, submitted_more, took_bytes}
use Rattle.ssh_run.specs.Carrying.{CarriedEnd, CarriesTo, SubmitsOne, carried_count, side_mark}

-- all that a side has sent
abbrev pub wire_by : Config → List ℕ → List ℕ
wire_by config sent = id_line config.id ++ sent

-- A side of a carried link: what it did from its start on, and how it stands.
pub record IsSide (says : Side → Says) (config : Side → Config) (side : Side) (log : List Event) (h peer : LinkEnd) (e : CarriedEnd) : Type 0 where
  pub ran : HasRun (says side) side (config side) (id_text (config side).id) log h.state h.sent h.fed h.unfinished
  pub rests : IsAtRest (config side) h
  pub front : HasFront peer.sent h.fed
  pub within : e.taken ≤ length (wire_by (config (other_side side)) peer.sent)
  pub stands : StandsAs (talkers says config) side (take e.taken (wire_by (config (other_side side)) peer.sent)) e.transport h
  pub output : e.transport.output ≡ wire_by (config side) h.sent
  pub none : e.transport.delivered ≡ []
  pub delivered : e.delivered ≡ delivered_in log
  pub submitted : e.submitted ≡ length (submitted_in log)

-- its mark
pub is_mark : (says : Side → Says) (config : Side → Config) (side : Side) (log : List Event) (h peer : LinkEnd) (e : CarriedEnd) → IsSide says config side log h peer e → IsMarkOf (talkers says config) side log h (side_mark e)
is_mark says config side log h peer e s = record {
  sent = ap length s.output ∙ length-append (id_line (config side).id) h.sent;
  taken = subst (TookBytes (id_line (config (other_side side)).id) h.fed h.state) (length-take-le e.taken (wire_by (config (other_side side)) peer.sent) s.within) (took_bytes (id_line (config (other_side side)).id) (take e.taken (wire_by (config (other_side side)) peer.sent)) e.transport.line e.transport.waiting h s.stands.come);
  delivered = ap length s.delivered;
  finished = ap (λ (q : SideState). length q.records) s.stands.state_is;
  inside = ap (λ (q : SideState). not (is_outside q.stands)) s.stands.state_is;
  submitted = s.submitted;
}

-- the other side sends more
pub peer_sends : (says : Side → Says) (config : Side → Config) (side : Side) (log : List Event) (h peer peer' : LinkEnd) (e : CarriedEnd) (more : List ℕ) → peer'.sent ≡ peer.sent ++ more → IsSide says config side log h peer e → IsSide says config side log h peer' e
peer_sends says config side log h peer peer' e more grown s = record {
  ran = s.ran;
  rests = s.rests;
  front = (s.front.0 ++ more, sym (append_assoc h.fed s.front.0 more) ∙ (ap (λ q. q ++ more) s.front.1 ∙ sym grown));
  within = (let l = s.within in let a = ap length longer in let b = length-append (wire_by (config (other_side side)) peer.sent) more in omega (arith, l, a, b));
  stands = subst (λ q. StandsAs (talkers says config) side q e.transport h) (sym same) s.stands;
  output = s.output;
  none = s.none;
  delivered = s.delivered;
  submitted = s.submitted;
} where
  line : List ℕ
  line = id_line (config (other_side side)).id

  longer : wire_by (config (other_side side)) peer'.sent ≡ wire_by (config (other_side side)) peer.sent ++ more
  longer = ap (λ q. line ++ q) grown ∙ sym (append_assoc line peer.sent more)

  same : take e.taken (wire_by (config (other_side side)) peer'.sent) ≡ take e.taken (wire_by (config (other_side side)) peer.sent)
  same = ap (take e.taken) longer ∙ take-append-le e.taken (wire_by (config (other_side side)) peer.sent) more s.within

-- ---- a turn

-- what is behind a turn: the events, the side where they led, and the side's values
pub record SideGoes (says : Side → Says) (config : Side → Config) (side : Side) (log events : List Event) (h peer : LinkEnd) (e : CarriedEnd) : Type 0 where
  pub piece : List ℕ
  pub behind : LinkEnd
  pub turn : TakesTurn (talkers says config) side h piece events peer behind
  pub now : IsSide says config side (log ++ events) behind peer e

-- a run goes on by a turn
run_goes : (says : Side → Says) (config : Side → Config) (side : Side) (log events : List Event) (h peer behind : LinkEnd) (piece : List ℕ) → HasRun (says side) side (config side) (id_text (config side).id) log h.state h.sent h.fed h.unfinished → TakesTurn (talkers says config) side h piece events peer behind → HasRun (says side) side (config side) (id_text (config side).id) (log ++ events) behind.state behind.sent behind.fed behind.unfinished
run_goes says config side log events h peer behind piece r t = record {
  steps = steps_join (says side) side (config side) (id_text (config side).id) log events first_state h.state behind.state r.steps t.steps;
  sent_is = t.sends ∙ (ap (λ q. q ++ sent_bytes side h.state.writing events) r.sent_is ∙ sym (sent_join (says side) side (config side) (id_text (config side).id) log events first_state h.state r.steps));
  fed_is = t.takes ∙ (ap (λ q. q ++ piece) r.fed_is ∙ (append_assoc before h.unfinished piece ∙ (ap (λ q. before ++ q) t.reads ∙ (sym (append_assoc before (read_bytes side h.state.reading events) behind.unfinished) ∙ ap (λ q. q ++ behind.unfinished) (sym (read_join (says side) side (config side) (id_text (config side).id) log events first_state h.state r.steps))))));
} where
  before : List ℕ
  before = read_bytes side first_state.reading log

-- the values of a side behind a call: its transport is what the call left, with nothing delivered to be taken
pub record CallLeaves (config : Side → Config) (side : Side) (events : List Event) (peer : LinkEnd) (took : List ℕ) (mid : Standing) (e e' : CarriedEnd) : Type 0 where
  pub took_is : took ≡ take e'.taken (wire_by (config (other_side side)) peer.sent)
  pub within : e'.taken ≤ length (wire_by (config (other_side side)) peer.sent)
  pub transport : e'.transport ≡ record mid { delivered = [] }
  pub delivered : e'.delivered ≡ e.delivered ++ delivered_in events
  pub submitted : e'.submitted ≡ e.submitted + length (submitted_in events)

emptied : (says : Side → Says) (config : Side → Config) (side : Side) (took : List ℕ) (mid : Standing) (h : LinkEnd) → StandsAs (talkers says config) side took mid h → StandsAs (talkers says config) side took (record mid { delivered = [] }) h
emptied says config side took mid h s = record { side_is = s.side_is; config_is = s.config_is; state_is = s.state_is; live = s.live; come = s.come }

side_goes : (says : Side → Says) (config : Side → Config) (side : Side) (log events : List Event) (h peer : LinkEnd) (took : List ℕ) (mid : Standing) (e e' : CarriedEnd) → IsSide says config side log h peer e → GivesTurn (talkers says config) side took events e.transport mid h peer → CallLeaves config side events peer took mid e e' → SideGoes says config side log events h peer e'
side_goes says config side log events h peer took mid e e' s g l = record {
  piece = g.piece;
  behind = g.behind;
  turn = g.turn;
  now = record {
    ran = run_goes says config side log events h peer g.behind g.piece s.ran g.turn;
    rests = g.rests;
    front = g.turn.honest;
    within = l.within;
    stands = subst (λ q. StandsAs (talkers says config) side q e'.transport g.behind) l.took_is (subst (λ q. StandsAs (talkers says config) side took q g.behind) (sym l.transport) (emptied says config side took mid g.behind g.stands));
    output = ap (λ (q : Standing). q.output) l.transport ∙ (g.output_is ∙ (ap (λ q. q ++ g.written) s.output ∙ (append_assoc (id_line (config side).id) h.sent g.written ∙ ap (λ q. id_line (config side).id ++ q) (sym g.sent_is))));
    none = ap (λ (q : Standing). q.delivered) l.transport;
    delivered = l.delivered ∙ (ap (λ q. q ++ delivered_in events) s.delivered ∙ sym (delivered_more log events));
    submitted = (let a = l.submitted in let b = s.submitted in let c = ap length (submitted_more log events) in let d = length-append (submitted_in log) (submitted_in events) in omega (arith, a, b, c, d));
  };
}

-- ---- calls that read nothing

cons_nil : {A : Type 0} (x : A) (xs : List A) → x ∷ xs ≡ [] → ⊥
cons_nil x xs e = cc

-- nothing is delivered where nothing is read
pub none_delivered : (es : List Event) → handled es ≡ [] → delivered_in es ≡ []
none_delivered [] e = refl
none_delivered (IdHeard id ∷ es) e = none_delivered es e
none_delivered (PayloadSubmitted p ∷ es) e = none_delivered es e
none_delivered (ExchangeBegun cause i ∷ es) e = none_delivered es e
none_delivered (AnswerSent i r ∷ es) e = none_delivered es e
none_delivered (PayloadSent i ∷ es) e = none_delivered es e
none_delivered (MessageTaken i ∷ es) e = absurd (cons_nil i (handled es) e)
none_delivered (GuessDropped i ∷ es) e = absurd (cons_nil i (handled es) e)
none_delivered (PayloadDelivered i ∷ es) e = absurd (cons_nil i (handled es) e)
none_delivered (PacketDropped i ∷ es) e = absurd (cons_nil i (handled es) e)
none_delivered (ExchangeFinished i x ∷ es) e = absurd (cons_nil i (handled es) e)

-- a transport that has delivered nothing
same_emptied : (t : Standing) → t.delivered ≡ [] → t ≡ record t { delivered = [] }
same_emptied t e = ap (λ q. record t { delivered = q }) e

quiet_leaves : (says : Side → Says) (config : Side → Config) (side : Side) (log events : List Event) (h peer : LinkEnd) (e e' : CarriedEnd) → IsSide says config side log h peer e → GivesTurn (talkers says config) side (take e.taken (wire_by (config (other_side side)) peer.sent)) events e.transport e'.transport h peer → handled events ≡ [] → e'.taken ≡ e.taken → e'.delivered ≡ e.delivered → e'.submitted ≡ e.submitted + length (submitted_in events) → CallLeaves config side events peer (take e.taken (wire_by (config (other_side side)) peer.sent)) e'.transport e e'
quiet_leaves says config side log events h peer e e' s g none taken delivered submitted = record {
  took_is = ap (λ n. take n (wire_by (config (other_side side)) peer.sent)) (sym taken);
  within = subst (λ n. n ≤ length (wire_by (config (other_side side)) peer.sent)) (sym taken) s.within;
  transport = same_emptied e'.transport (g.delivered_is ∙ (ap (λ q. q ++ delivered_in events) s.none ∙ none_delivered events none));
  delivered = delivered ∙ (sym (append-nil e.delivered) ∙ ap (λ q. e.delivered ++ q) (sym (none_delivered events none)));
  submitted = submitted;
}

-- a submit
pub submit_goes : (says : Side → Says) (config : Side → Config) (side : Side) (log : List Event) (h peer : LinkEnd) (payload : List ℕ) (e e' : CarriedEnd) → e.submitted + 1 < 2 ^ 64 → IsSide says config side log h peer e → (d : SubmitsOne (says side) e payload e') → SideGoes says config side log d.call.events h peer e'
submit_goes says config side log h peer payload e e' room s d =
    let g = submit_turn says config side (take e.taken (wire_by (config (other_side side)) peer.sent)) payload h peer e.transport e'.transport s.stands s.rests s.front d.call in
    let one : length (submitted_in d.call.events) ≡ 1 = ap length d.call.one in
    side_goes says config side log d.call.events h peer (take e.taken (wire_by (config (other_side side)) peer.sent)) e'.transport e e' s g
    (quiet_leaves says config side log d.call.events h peer e e' s g d.call.none_read d.taken d.delivered (let a = d.submitted in omega (arith, a, one, room)))

-- a rekey outside an exchange
pub begin_goes : (says : Side → Says) (config : Side → Config) (side : Side) (log : List Event) (h peer : LinkEnd) (e e' : CarriedEnd) → IsSide says config side log h peer e → (b : BeginsAsked (says side) e.transport e'.transport) → e'.taken ≡ e.taken → e'.delivered ≡ e.delivered → e'.submitted ≡ e.submitted → SideGoes says config side log (ExchangeBegun Asked b.item ∷ []) h peer e'
begin_goes says config side log h peer e e' s b taken delivered submitted =
    let g = rekey_turn says config side (take e.taken (wire_by (config (other_side side)) peer.sent)) h peer e.transport e'.transport s.stands s.rests s.front b in
    side_goes says config side log (ExchangeBegun Asked b.item ∷ []) h peer (take e.taken (wire_by (config (other_side side)) peer.sent)) e'.transport e e' s g
    (quiet_leaves says config side log (ExchangeBegun Asked b.item ∷ []) h peer e e' s g refl taken delivered (omega (arith, submitted)))

-- ---- bytes that are carried

-- what was taken and the next piece are a front of the wire
pub next_front : (wire : List ℕ) (n k : ℕ) → HasFront wire (take n wire ++ take k (drop n wire))
next_front wire n k = (drop (n + k) wire, ap (λ q. q ++ drop (n + k) wire) (sym (take-add n k wire)) ∙ take-append-drop (n + k) wire)

pub carry_goes : (says : Side → Says) (config : Side → Config) (side : Side) (log : List Event) (h peer : LinkEnd) (n : ℕ) (e e' : CarriedEnd) → IsWholeId (config (other_side side)) → IsSide says config side log h peer e → (d : CarriesTo (says side) e (wire_by (config (other_side side)) peer.sent) n e') → SideGoes says config side log d.call.events h peer e'
carry_goes says config side log h peer n e e' whole s d =
    let g = input_turn says config side took piece h peer e.transport d.fed whole s.stands (next_front wire e.taken k) d.call in
    side_goes says config side log d.call.events h peer (took ++ piece) d.fed e e' s g (record {
      took_is = sym (take-add e.taken k wire) ∙ ap (λ m. take m wire) (sym d.taken);
      within = (let a = d.taken in let l = s.within in omega (arith, a, l));
      transport = d.transport;
      delivered = d.delivered ∙ ap (λ q. e.delivered ++ q) (g.delivered_is ∙ ap (λ q. q ++ delivered_in d.call.events) s.none);
      submitted = d.submitted ∙ (let z = ap length d.call.input.0 in omega (arith, z));
    }) where
      wire : List ℕ
      wire = wire_by (config (other_side side)) peer.sent

      k : ℕ
      k = carried_count e wire n

      took : List ℕ
      took = take e.taken wire

      piece : List ℕ
      piece = take k (drop e.taken wire)
