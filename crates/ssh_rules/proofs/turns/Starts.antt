-- The first moment of a link, and that a side that is fed nothing still has nothing whole left.
use Rattle.std.proofs.Common.{◌≡◌, ℕ, ◌+◌, ◌<◌, List, [], ◌∷◌, length, slice_get, refl, ◌∙◌, ap, arith, Some, Bool, inl}
use Rattle.ssh_packet.specs.Front.{Unfinished, front_of}
use Rattle.ssh_packet.specs.Sealing.{Clear}
use Rattle.ssh_wire.specs.Lines.{id_line}
use Rattle.ssh_wire.specs.declared.side.Side.{Side}
use Rattle.ssh_wire.specs.declared.side.Side.TheVariants.{Client, Server}
use Rattle.ssh_kex.specs.declared.config.Config.{Config}
use Rattle.ssh_kex.specs.declared.exchange.FinishedExchange.{FinishedExchange}
use Rattle.ssh_wire.specs.Sides.{other_side}
use Rattle.ssh_kex.specs.Setting.{Says}
use Rattle.ssh_rules.specs.Machine.{Silent, Outside, SideState, Event, IdHeard, PayloadSubmitted, ExchangeBegun, AnswerSent, PayloadSent, MessageTaken, GuessDropped, PayloadDelivered, PacketDropped, ExchangeFinished, Steps, IsQuiet, first_state}
use Rattle.ssh_rules.specs.Log.{handled}
use Rattle.ssh_rules.specs.Turns.{LinkEnd, first_end, Talkers}
use Rattle.ssh_rules.proofs.turns.Turns.{held_first}
use Rattle.ssh_rules.specs.Snapshots.{IsMarkOf, IsAtRest, IsOfKind, IsSnapshot, first_mark, first_snapshot}

cons_nil : {A : Type 0} (x : A) (xs : List A) → x ∷ xs ≡ [] → ⊥
cons_nil x xs e = cc

-- a side that handles nothing reads on from where it stood
pub reading_stays : (says : Says) (side : Side) (config : Config) (own_id : List ℕ) (es : List Event) (st st' : SideState) → handled es ≡ [] → Steps says side config own_id st es st' → st'.reading ≡ st.reading
reading_stays says side config own_id [] st st' e h = ap (λ (s : SideState). s.reading) h
reading_stays says side config own_id (IdHeard id ∷ es) st st' e h = reading_stays says side config own_id es h.0 st' e h.2 ∙ ap (λ (s : SideState). s.reading) h.1.becomes
reading_stays says side config own_id (PayloadSubmitted p ∷ es) st st' e h = reading_stays says side config own_id es h.0 st' e h.2 ∙ ap (λ (s : SideState). s.reading) h.1.becomes
reading_stays says side config own_id (ExchangeBegun cause i ∷ es) st st' e h = reading_stays says side config own_id es h.0 st' e h.2 ∙ ap (λ (s : SideState). s.reading) h.1.becomes
reading_stays says side config own_id (AnswerSent i q ∷ es) st st' e h = reading_stays says side config own_id es h.0 st' e h.2 ∙ ap (λ (s : SideState). s.reading) h.1.becomes
reading_stays says side config own_id (PayloadSent i ∷ es) st st' e h = reading_stays says side config own_id es h.0 st' e h.2 ∙ ap (λ (s : SideState). s.reading) h.1.becomes
reading_stays says side config own_id (MessageTaken i ∷ es) st st' e h = absurd (cons_nil i (handled es) e)
reading_stays says side config own_id (GuessDropped i ∷ es) st st' e h = absurd (cons_nil i (handled es) e)
reading_stays says side config own_id (PayloadDelivered i ∷ es) st st' e h = absurd (cons_nil i (handled es) e)
reading_stays says side config own_id (PacketDropped i ∷ es) st st' e h = absurd (cons_nil i (handled es) e)
reading_stays says side config own_id (ExchangeFinished i x ∷ es) st st' e h = absurd (cons_nil i (handled es) e)

-- so behind a submit or a rekey, that end quiet, it rests again
pub rests_again : (says : Says) (side : Side) (config : Config) (own_id : List ℕ) (es : List Event) (h h' : LinkEnd) → IsAtRest config h → handled es ≡ [] → Steps says side config own_id h.state es h'.state → h'.unfinished ≡ h.unfinished → IsQuiet config h'.state → IsAtRest config h'
rests_again says side config own_id es h h' r n steps same quiet = record {
  quiet = quiet;
  part = ap (λ (q : Rattle.ssh_rules.specs.Machine.Spot). front_of q.sealing q.number h'.unfinished) (reading_stays says side config own_id es h.state h'.state n steps) ∙ (ap (λ u. front_of h.state.reading.sealing h.state.reading.number u) same ∙ r.part);
}

-- ---- the start

out_silent : Silent ≡ Outside → ⊥
out_silent e = cc

pub start_quiet : (config : Config) → IsQuiet config first_state
start_quiet config = record { owes = refl; not_called = refl; silent = λ e. refl; sent = λ e. absurd (out_silent e); below_write = λ e. absurd (out_silent e); below_read = λ e. absurd (out_silent e) }

nothing_yet : front_of Clear 0 [] ≡ Unfinished
unfolding front_of
nothing_yet = refl

start_rests : (config : Config) → IsAtRest config first_end
start_rests config = record { quiet = start_quiet config; part = nothing_yet }

start_kind : (kind : Bool) → IsOfKind kind first_state
start_kind kind = record { now = tt; each = λ k x e. absurd (none k x e) } where
  none : (k : ℕ) (x : FinishedExchange) → slice_get [] k ≡ Some x → ⊥
  none k x e = cc

start_of : (t : Talkers) (side : Side) → 0 < length (id_line (t.config (other_side side)).id) → IsMarkOf t side [] first_end (first_mark (length (id_line (t.config side).id)))
start_of t side l = record { sent = (let z : length (id_line (t.config side).id) ≡ length (id_line (t.config side).id) + 0 = omega arith in z); taken = inl (refl, refl, l); delivered = refl; finished = refl; inside = refl; submitted = refl }

pub start_is_snapshot : (t : Talkers) (kind : Bool) → 0 < length (id_line (t.config Client).id) → 0 < length (id_line (t.config Server).id) → IsSnapshot t kind (first_snapshot t)
start_is_snapshot t kind c s = record {
  held = held_first t;
  client_rests = start_rests (t.config Client);
  server_rests = start_rests (t.config Server);
  client_kinds = start_kind kind;
  server_kinds = start_kind kind;
  client_mark = start_of t Client s;
  server_mark = start_of t Server c;
}
