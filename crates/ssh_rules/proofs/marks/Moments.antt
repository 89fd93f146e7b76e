-- Moments of a link: worlds between its steps, each with what both sides did so far.
use Rattle.std.proofs.Common.{◌≡◌, ℕ, ◌≤◌, ◌^◌, List, [], ◌∷◌, ◌++◌, map, sym, subst, Bool, append_assoc, append-nil}
use Rattle.ssh_wire.specs.declared.side.Side.{Side}
use Rattle.ssh_wire.specs.declared.side.Side.TheVariants.{Client, Server}
use Rattle.ssh_kex.specs.declared.config.Config.{Config}
use Rattle.ssh_rules.specs.Machine.{Event}
use Rattle.ssh_rules.specs.Log.{wrote}
use Rattle.ssh_rules.specs.Run.{IsMoment, AllMoments}
use Rattle.ssh_rules.specs.Headline.{IsOnTime}
use Rattle.ssh_rules.specs.Turns.{Turn, World, Talkers, PlaysTurn, Plays}
use Rattle.ssh_rules.proofs.turns.Turns.{AreFit, client_held, server_held}
use Rattle.ssh_rules.specs.Snapshots.{IsReached, half_in, if_client, if_server, client_log, server_log, Snapshot, moment_of, IsSnapshot}
use Rattle.ssh_rules.proofs.marks.Marked.{marked}
use Rattle.ssh_rules.proofs.marks.Moved.{on_time}

-- turns lead from what is held to what is held, with what they did behind what was done
pub held_by : (t : Talkers) (turns : List Turn) (w : World) (cl sl : List Event) (w' : World) → AreFit t → IsReached t w cl sl → Plays t w turns w' → IsReached t w' (cl ++ client_log turns) (sl ++ server_log turns)
held_by t [] w cl sl w' fit h p = subst (λ v. IsReached t v (cl ++ []) (sl ++ [])) (sym p) (subst (λ q. IsReached t w q (sl ++ [])) (sym (append-nil cl)) (subst (λ q. IsReached t w cl q) (sym (append-nil sl)) h))
held_by t (u ∷ turns) w cl sl w' fit h p = by u.side p.1 (λ dl tl g. held_by t turns p.0 dl tl w' fit g p.2) where
  by : (s : Side) → PlaysTurn t w s u.piece u.events p.0 → ((dl tl : List Event) → IsReached t p.0 dl tl → IsReached t w' (dl ++ client_log turns) (tl ++ server_log turns)) → IsReached t w' (cl ++ if_client s u.events (client_log turns)) (sl ++ if_server s u.events (server_log turns))
  by Client q rest = subst (λ x. IsReached t w' x (sl ++ server_log turns)) (append_assoc cl u.events (client_log turns)) (rest (cl ++ u.events) sl (client_held t w cl sl u.piece u.events p.0 fit h q))
  by Server q rest = subst (λ x. IsReached t w' (cl ++ client_log turns) x) (append_assoc sl u.events (server_log turns)) (rest cl (sl ++ u.events) (server_held t w cl sl u.piece u.events p.0 fit h q))

-- limits are at most a gigabyte (the second test of a configuration)
pub record SmallLimits (config : Config) : Type 0 where
  pub write : config.limits.rekey_write_limit ≤ 2 ^ 30
  pub read : config.limits.rekey_read_limit ≤ 2 ^ 30

-- from a moment on turns lead to the end
pub record LeadsTo (t : Talkers) (s last : Snapshot) : Type 0 where
  pub turns : List Turn
  pub plays : Plays t s.world turns last.world
  pub cl : last.cl ≡ s.cl ++ client_log turns
  pub sl : last.sl ≡ s.sl ++ server_log turns

pub is_moment : (t : Talkers) (kind : Bool) (s last : Snapshot) (csub ssub : List (List ℕ)) → AreFit t → SmallLimits (t.config Client) → SmallLimits (t.config Server) → IsSnapshot t kind s → LeadsTo t s last → IsMoment kind (half_in t Client last.cl last.world.client csub) (half_in t Server last.sl last.world.server ssub) (moment_of s)
is_moment t kind s last csub ssub fit small_c small_s i l =
    subst (λ q. IsMoment kind (half_in t Client q last.world.client csub) (half_in t Server last.sl last.world.server ssub) (moment_of s)) (sym l.cl)
    (subst (λ q. IsMoment kind (half_in t Client (s.cl ++ client_log l.turns) last.world.client csub) (half_in t Server q last.world.server ssub) (moment_of s)) (sym l.sl) (record {
      at_client = marked t Client kind s.cl (client_log l.turns) s.sl (server_log l.turns) s.world.client last.world.client s.world.server last.world.server s.mark.client s.mark.server csub ssub fit (record { now = i.held.client; later = end.client }) (record { now = i.held.server; later = end.server }) end.to_server end.to_client i.held.to_client i.client_rests i.client_kinds small_c.write small_c.read i.client_mark i.server_mark.sent;
      at_server = marked t Server kind s.sl (server_log l.turns) s.cl (client_log l.turns) s.world.server last.world.server s.world.client last.world.client s.mark.server s.mark.client ssub csub fit (record { now = i.held.server; later = end.server }) (record { now = i.held.client; later = end.client }) end.to_client end.to_server i.held.to_server i.server_rests i.server_kinds small_s.write small_s.read i.server_mark i.client_mark.sent;
    }))
  where
    end : IsReached t last.world (s.cl ++ client_log l.turns) (s.sl ++ server_log l.turns)
    end = held_by t l.turns s.world s.cl s.sl last.world fit i.held l.plays

-- all of them
abbrev pub AreSnapshots : Talkers → Bool → Snapshot → List Snapshot → Type 0
AreSnapshots t kind last [] = Unit {0}
AreSnapshots t kind last (s ∷ snapshots) = IsSnapshot t kind s × LeadsTo t s last × AreSnapshots t kind last snapshots

pub all_moments : (t : Talkers) (kind : Bool) (snapshots : List Snapshot) (last : Snapshot) (csub ssub : List (List ℕ)) → AreFit t → SmallLimits (t.config Client) → SmallLimits (t.config Server) → AreSnapshots t kind last snapshots → AllMoments kind (half_in t Client last.cl last.world.client csub) (half_in t Server last.sl last.world.server ssub) (map moment_of snapshots)
all_moments t kind [] last csub ssub fit c s h = tt
all_moments t kind (x ∷ snapshots) last csub ssub fit c s h = (is_moment t kind x last csub ssub fit c s h.0 h.1, all_moments t kind snapshots last csub ssub fit c s h.2)

pub snapshot_on_time : (t : Talkers) (kind : Bool) (s : Snapshot) → IsSnapshot t kind s → IsOnTime s.mark.client (wrote s.cl) × IsOnTime s.mark.server (wrote s.sl)
snapshot_on_time t kind s i = (on_time t Client s.cl s.world.client s.mark.client i.held.client i.client_mark, on_time t Server s.sl s.world.server s.mark.server i.held.server i.server_mark)
