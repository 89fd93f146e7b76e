-- A reason of a side itself to begin an exchange, and that turns only begin more.
use Rattle.std.proofs.Common.{◌≡◌, ℕ, zero, suc, ◌<◌, ◌≤◌, List, [], ◌∷◌, slice_get, ap, arith, Some, ◌⊎◌, inl, inr}
use Rattle.ssh_packet.specs.Sealing.{Item}
use Rattle.ssh_wire.specs.declared.side.Side.{Side}
use Rattle.ssh_wire.specs.declared.side.Side.TheVariants.{Client, Server}
use Rattle.ssh_kex.specs.declared.config.Config.{Config}
use Rattle.ssh_rules.specs.Run.{epoch_bytes}
use Rattle.ssh_rules.specs.Machine.{Cause, Asked, Event}
use Rattle.ssh_rules.specs.Counting.{begun}
use Rattle.ssh_rules.specs.Turns.{Turn, LinkEnd, World, Talkers, PlaysTurn, Plays}
use Rattle.ssh_rules.proofs.side.Left.{begun_steps}

-- a reason of the side itself
abbrev pub OwnReason : Config → List Cause → List Item → List Item → ℕ → Type 0
OwnReason config causes written read k =
    (slice_get causes k ≡ Some Asked)
    ⊎ ((config.limits.rekey_write_limit ≤ epoch_bytes k written)
    ⊎ (config.limits.rekey_read_limit ≤ epoch_bytes k read))

split : (k n : ℕ) → (k < n) ⊎ (n ≤ k)
split zero zero = inr (omega (arith))
split zero (suc n) = inl (omega (arith))
split (suc k) zero = inr (omega (arith))
split (suc k) (suc n) = elim (split k n) [ inl l ↦ inl (omega (arith, l)) | inr l ↦ inr (omega (arith, l)) ]

client_more : (t : Talkers) (w : World) (side : Side) (piece : List ℕ) (events : List Event) (w' : World) → PlaysTurn t w side piece events w' → begun w.client.state ≤ begun w'.client.state
client_more t w Client piece events w' p = begun_steps (t.says Client) Client (t.config Client) (t.own_id Client) events w.client.state w'.client.state p.0.steps
client_more t w Server piece events w' p = (let e : begun w'.client.state ≡ begun w.client.state = ap (λ (x : LinkEnd). begun x.state) p.1 in omega (arith, e))

pub client_plays : (t : Talkers) (turns : List Turn) (w w' : World) → Plays t w turns w' → begun w.client.state ≤ begun w'.client.state
client_plays t [] w w' p = (let e : begun w'.client.state ≡ begun w.client.state = ap (λ (x : World). begun x.client.state) p in omega (arith, e))
client_plays t (u ∷ turns) w w' p = (let a = client_more t w u.side u.piece u.events p.0 p.1 in let b = client_plays t turns p.0 w' p.2 in omega (arith, a, b))

server_more : (t : Talkers) (w : World) (side : Side) (piece : List ℕ) (events : List Event) (w' : World) → PlaysTurn t w side piece events w' → begun w.server.state ≤ begun w'.server.state
server_more t w Server piece events w' p = begun_steps (t.says Server) Server (t.config Server) (t.own_id Server) events w.server.state w'.server.state p.0.steps
server_more t w Client piece events w' p = (let e : begun w'.server.state ≡ begun w.server.state = ap (λ (x : LinkEnd). begun x.state) p.1 in omega (arith, e))

pub server_plays : (t : Talkers) (turns : List Turn) (w w' : World) → Plays t w turns w' → begun w.server.state ≤ begun w'.server.state
server_plays t [] w w' p = (let e : begun w'.server.state ≡ begun w.server.state = ap (λ (x : World). begun x.server.state) p in omega (arith, e))
server_plays t (u ∷ turns) w w' p = (let a = server_more t w u.side u.piece u.events p.0 p.1 in let b = server_plays t turns p.0 w' p.2 in omega (arith, a, b))
