-- How many exchanges a link begins.
use Rattle.std.proofs.Common.{◌≡◌, ℕ, ◌+◌, ◌≤◌, List, [], ◌∷◌, ◌++◌, length, map, refl, sym, subst, arith, Bool, true, false, append-nil, append_assoc, if◌then◌else◌}
use Rattle.std.specs.Prelude.{filter}
use Rattle.ssh_packet.specs.Sealing.{Item}
use Rattle.ssh_wire.specs.declared.side.Side.{Side}
use Rattle.ssh_wire.specs.declared.side.Side.TheVariants.{Client, Server}
use Rattle.ssh_rules.specs.Log.{asked_in, wrote, causes_in}
use Rattle.ssh_rules.proofs.side.Reasons.{payloads_in}
use Rattle.ssh_rules.specs.Counting.{begun}
use Rattle.ssh_rules.specs.Machine.{Event}
use Rattle.ssh_rules.specs.Turns.{Turn, World, Talkers, Plays, PlaysTurn, first_world}
use Rattle.ssh_rules.specs.MessageTypes.{type_of, is_payload_type}
use Rattle.ssh_rules.specs.Wire.{carried_payloads}
use Rattle.ssh_rules.proofs.turns.Bounded.{exchanges_bounded}
use Rattle.ssh_rules.proofs.turns.LinkBounded.{Counted, HaveLimits, counted_client, counted_server, counted_first}
use Rattle.ssh_rules.specs.Snapshots.{client_log, server_log, if_client, if_server}
use Rattle.ssh_rules.proofs.turns.Turns.{AreFit}

counted_by : (t : Talkers) (turns : List Turn) (w : World) (cl sl : List Event) (w' : World) → AreFit t → HaveLimits t → Counted t w cl sl → Plays t w turns w' → Counted t w' (cl ++ client_log turns) (sl ++ server_log turns)
counted_by t [] w cl sl w' fit limits h p = subst (λ v. Counted t v (cl ++ []) (sl ++ [])) (sym p) (subst (λ q. Counted t w q (sl ++ [])) (sym (append-nil cl)) (subst (λ q. Counted t w cl q) (sym (append-nil sl)) h))
counted_by t (u ∷ turns) w cl sl w' fit limits h p = by u.side p.1 (λ dl tl g. counted_by t turns p.0 dl tl w' fit limits g p.2) where
  by : (s : Side) → PlaysTurn t w s u.piece u.events p.0 → ((dl tl : List Event) → Counted t p.0 dl tl → Counted t w' (dl ++ client_log turns) (tl ++ server_log turns)) → Counted t w' (cl ++ if_client s u.events (client_log turns)) (sl ++ if_server s u.events (server_log turns))
  by Client q rest = subst (λ x. Counted t w' x (sl ++ server_log turns)) (append_assoc cl u.events (client_log turns)) (rest (cl ++ u.events) sl (counted_client t w cl sl u.piece u.events p.0 fit limits h q))
  by Server q rest = subst (λ x. Counted t w' (cl ++ client_log turns) x) (append_assoc sl u.events (server_log turns)) (rest cl (sl ++ u.events) (counted_server t w cl sl u.piece u.events p.0 fit limits h q))

pub few_payloads : (items : List Item) → payloads_in items ≡ length (carried_payloads items)
few_payloads [] = refl
few_payloads (i ∷ items) = let r = few_payloads items in by (is_payload_type (type_of i)) r where
  by : (b : Bool) → payloads_in items ≡ length (carried_payloads items) → (if b then 1 else 0) + payloads_in items ≡ length (map (λ (j : Item). j.payload) (if b then i ∷ filter (λ j. is_payload_type (type_of j)) items else filter (λ j. is_payload_type (type_of j)) items))
  by true r = omega (arith, r)
  by false r = omega (arith, r)

-- what a count of exchanges is at most, of the logs of both
abbrev pub most_begun : List Event → List Event → ℕ
most_begun cl sl = 1 + (asked_in (causes_in cl) + asked_in (causes_in sl)) + (payloads_in (wrote cl) + payloads_in (wrote sl))

-- However the turns go, neither side has begun more exchanges than one, the rekeys that both were asked for, and the
-- payloads that both wrote.
pub link_bounded : (t : Talkers) (turns : List Turn) (w : World) → AreFit t → HaveLimits t → Plays t first_world turns w → (begun w.client.state ≤ most_begun (client_log turns) (server_log turns)) × (begun w.server.state ≤ most_begun (client_log turns) (server_log turns))
link_bounded t turns w fit limits p =
    let h = counted_by t turns first_world [] [] w fit limits (counted_first t) p in
    exchanges_bounded (causes_in (client_log turns)) (causes_in (server_log turns)) (wrote (client_log turns)) (wrote (server_log turns)) (begun w.client.state) (begun w.server.state) h.charged
