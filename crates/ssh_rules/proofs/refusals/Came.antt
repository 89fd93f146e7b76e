-- What is refused of an honest peer's wire stands behind its id line.
use Rattle.std.proofs.Common.{◌≡◌, ◌⊎◌, inl, inr, ℕ, ◌<◌, ◌≤◌, List, [], ◌∷◌, ◌++◌, length, false, refl, sym, ◌∙◌, ap, arith, length-append}
use Rattle.ssh_packet.specs.Front.{front_of}
use Rattle.ssh_wire.specs.Lines.{id_line}
use Rattle.ssh_wire.specs.Sides.{other_side}
use Rattle.ssh_wire.specs.declared.error.Error.{Error}
use Rattle.ssh_wire.specs.declared.error.Error.TheVariants as errors
use Rattle.ssh_wire.specs.declared.side.Side.{Side}
use Rattle.ssh_wire.specs.declared.side.Side.TheVariants.{Client, Server}
use Rattle.ssh_kex.specs.Refusals.{Denies}
use Rattle.ssh_kex.specs.Setting.{Says}
use Rattle.ssh_kex.specs.declared.config.Config.{Config}
use Rattle.ssh_kex.specs.declared.exchange.ServerHost.{ServerHost}
use Rattle.ssh_rules.specs.LinkCauses.{IsPlayed, RefusesPlayed}
use Rattle.ssh_rules.specs.Log.{read_bytes}
use Rattle.ssh_rules.specs.Machine.{Event}
use Rattle.ssh_rules.specs.Refused.{one_of}
use Rattle.ssh_rules.specs.Refusing.{AnswersCause}
use Rattle.ssh_rules.specs.Snapshots.{HasCome}
use Rattle.ssh_rules.specs.Standing.{OfFault, OfMemory, OfPacket, OfVersion, ReadsIdLine, RefusalCause, RefusesInput, Standing}
use Rattle.ssh_rules.specs.Turns.{LinkEnd, Talkers, World, talkers}
use Rattle.ssh_rules.proofs.turns.CallTurns.{TurnsBy, end_behind, no_version, taken_turn}
use Rattle.ssh_rules.proofs.pair.NextWhole.{nothing_refused, nothing_whole}
use Rattle.ssh_rules.proofs.refusals.RefusedTurns.{stood_at}

some_left : (left : List ℕ) → (left ≡ [] → ⊥) → 0 < length left
some_left [] n = absurd (n refl)
some_left (x ∷ left) n = omega arith

-- what is unfinished is the last of what was fed
fed_more : (fed read unfinished : List ℕ) → fed ≡ read ++ unfinished → length unfinished ≤ length fed
fed_more fed read unfinished e =
    let a = length-append read unfinished in
    let b : length fed ≡ length (read ++ unfinished) = ap length e in
    omega (arith, a, b)

unfinished_fed : (t : Talkers) (w : World) (cl sl : List Event) (side : Side) → IsPlayed t w cl sl → length (one_of side w.client w.server).unfinished ≤ length (one_of side w.client w.server).fed
unfinished_fed t w cl sl Client p = fed_more w.client.fed _ w.client.unfinished p.client.fed_is
unfinished_fed t w cl sl Server p = fed_more w.server.fed _ w.server.unfinished p.server.fed_is

-- Memory was wanting, or the side took more than the other's id line.
pub came : (says : Side → Says) (denies : Denies) (untrusted : ServerHost → Type 0) (config : Side → Config) (w : World) (cl sl : List Event) (side : Side) (took piece : List ℕ) (old new : Standing) (e : Error) → RefusesPlayed (talkers says config) denies untrusted w cl sl side took piece old e new → (e ≡ errors.Memory) ⊎ (length (id_line (config (other_side side)).id) < length (took ++ piece))
came says denies untrusted config w cl sl side took piece old new e x = by x.refuses.cause x.refuses.refuses x.refuses.answers where
  t : Talkers
  t = talkers says config

  h : LinkEnd
  h = one_of side w.client w.server

  peer : LinkEnd
  peer = one_of (other_side side) w.client w.server

  line : List ℕ
  line = id_line (config (other_side side)).id

  behind_line : (cause : RefusalCause) (f : RefusesInput (says side) old piece cause new) → f.at.called ≡ false → ReadsIdLine old piece f.events f.line f.behind → (f.left ≡ [] → ⊥) → length line < length (took ++ piece)
  behind_line cause f called heard some = by v.stands.come where
    mid : Standing
    mid = stood_at (says side) old piece cause new f

    v : TurnsBy t side (took ++ piece) f.events mid h peer
    v = taken_turn says config side took piece f.events f.behind h peer old mid x.whole_id x.stands x.honest (record { side = refl; config = refl; steps = f.steps; output = refl; not_called = called; live = refl }) heard f.read

    by : HasCome line (took ++ piece) mid.line mid.waiting (end_behind side h f.events v.piece mid) → length line < length (took ++ piece)
    by (inl c) = absurd (some c.waiting_is)
    by (inr c) =
        let a = some_left f.left some in
        let b = unfinished_fed t w cl sl side x.played in
        let r : length (h.unfinished ++ v.piece) ≡ length (read_bytes side h.state.reading f.events ++ f.left) = ap length v.turn.reads in
        let r1 = length-append h.unfinished v.piece in
        let r2 = length-append (read_bytes side h.state.reading f.events) f.left in
        let q = length-append h.fed v.piece in
        let l = length-append line (h.fed ++ v.piece) in
        let m : length (took ++ piece) ≡ length (line ++ (h.fed ++ v.piece)) = ap length c.took_is in
        omega (arith, a, b, r, r1, r2, q, l, m)

  by : (cause : RefusalCause) (f : RefusesInput (says side) old piece cause new) → AnswersCause (says side) denies untrusted old.side old.config cause f.at e → (e ≡ errors.Memory) ⊎ (length line < length (took ++ piece))
  by OfMemory f a = inl a
  by OfVersion f a = absurd (no_version says config side took piece f.events h peer old x.whole_id x.stands x.honest f.heard)
  by (OfFault fault) f a = inr (behind_line (OfFault fault) f f.done.not_called f.heard (λ z. nothing_refused f.at.reading.sealing f.at.reading.number fault (sym (ap (front_of f.at.reading.sealing f.at.reading.number) z) ∙ f.next)))
  by (OfPacket i) f a = inr (behind_line (OfPacket i) f f.done.not_called f.heard (λ z. nothing_whole f.at.reading.sealing f.at.reading.number i f.next.0 (sym (ap (front_of f.at.reading.sealing f.at.reading.number) z) ∙ f.next.1)))
