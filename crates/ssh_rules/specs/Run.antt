-- A whole run: its steps, its marks, and why each exchange was begun.
use Rattle.std.specs.Prelude.{◌≡◌, ℕ, zero, suc, ◌+◌, ◌-◌, ◌<◌, ◌≤◌, List, [], ◌∷◌, length, map, slice_get, Bool, true, false, min, Option, Some, None, IfSome, if◌then◌else◌, ◌⊎◌}
use Rattle.ssh_packet.specs.Sealing.{Item}
use Rattle.ssh_packet.specs.Stream.{is_newkeys}
use Rattle.ssh_wire.specs.Sides.{other_side, same_side}
use Rattle.ssh_wire.specs.declared.side.Side.{Side}
use Rattle.ssh_wire.specs.declared.side.Side.TheVariants.{Client, Server}
use Rattle.ssh_wire.specs.Lines.{id_line}
use Rattle.ssh_rules.specs.declared.link.Step.{Step}
use Rattle.ssh_rules.specs.declared.link.Step.TheVariants.{Submit, Deliver, Rekey, Settle}
use Rattle.ssh_rules.specs.declared.link.SideMark.{SideMark}
use Rattle.ssh_rules.specs.declared.link.Mark.{Mark}
use Rattle.ssh_rules.specs.MessageTypes.{type_of, is_payload_type}
use Rattle.ssh_rules.specs.Marks.{Half, IsMarked, kexinits}

-- A mark with the packets that it speaks of.
pub record Moment : Type 0 where
  pub mark : Mark
  pub client_own : List Item
  pub client_theirs : List Item
  pub server_own : List Item
  pub server_theirs : List Item

-- a side of a mark
abbrev pub mark_of : Side → Mark → SideMark
mark_of Client m = m.client
mark_of Server m = m.server

-- the packets that a side sent so far
abbrev pub own_of : Side → Moment → List Item
own_of Client m = m.client_own
own_of Server m = m.server_own

-- the packets that lie whole in what it took
abbrev pub theirs_of : Side → Moment → List Item
theirs_of Client m = m.client_theirs
theirs_of Server m = m.server_theirs

-- the marks of both sides
pub record IsMoment (kind : Bool) (client server : Half) (m : Moment) : Type 0 where
  pub at_client : IsMarked kind client server m.mark.client m.mark.server m.client_own m.client_theirs
  pub at_server : IsMarked kind server client m.mark.server m.mark.client m.server_own m.server_theirs

-- nothing of a side changed
abbrev pub StaysAsIs : Side → Mark → Mark → Type 0
StaysAsIs s m m' = mark_of s m' ≡ mark_of s m

-- what it takes in stays
pub record TakesNothing (m m' : SideMark) : Type 0 where
  pub taken : m'.taken ≡ m.taken
  pub delivered : m'.delivered ≡ m.delivered
  pub finished : m'.finished ≡ m.finished

-- all bytes are taken, all payloads delivered, and no exchange is open
pub record IsSettled (client server : SideMark) (client_before server_before : Option ℕ) : Type 0 where
  pub to_client : client.taken ≡ server.sent
  pub to_server : server.taken ≡ client.sent
  pub client_outside : client.inside ≡ false
  pub server_outside : server.inside ≡ false
  pub client_delivered : client.delivered ≡ server.submitted
  pub server_delivered : server.delivered ≡ client.submitted
  pub same_finished : client.finished ≡ server.finished
  pub finished : 1 ≤ client.finished
  pub client_rekeyed : IfSome client_before (λ n. n < client.finished)
  pub server_rekeyed : IfSome server_before (λ n. n < server.finished)

-- the effect of a step; the two numbers are `finished` at the marks before each side's last rekey
abbrev pub Effect : Step → Option ℕ → Option ℕ → Mark → Mark → Type 0
Effect (Submit s p) cb sb m m' = StaysAsIs (other_side s) m m' × TakesNothing (mark_of s m) (mark_of s m')
    × ((mark_of s m').submitted ≡ (mark_of s m).submitted + 1) × ((mark_of s m).sent ≤ (mark_of s m').sent)
    × ((mark_of s m).inside ≡ true → (mark_of s m').inside ≡ true)
Effect (Deliver s n) cb sb m m' =
    StaysAsIs (other_side s) m m'
    × ((mark_of s m').taken ≡ (mark_of s m).taken + min n ((mark_of (other_side s) m).sent - (mark_of s m).taken))
    × ((mark_of s m').submitted ≡ (mark_of s m).submitted) × ((mark_of s m).sent ≤ (mark_of s m').sent)
Effect (Rekey s) cb sb m m' = StaysAsIs (other_side s) m m' × TakesNothing (mark_of s m) (mark_of s m')
    × ((mark_of s m').submitted ≡ (mark_of s m).submitted) × ((mark_of s m).inside ≡ true → StaysAsIs s m m')
    × ((mark_of s m).inside ≡ false → ((mark_of s m).sent < (mark_of s m').sent) × ((mark_of s m').inside ≡ true))
Effect Settle cb sb m m' = IsSettled m'.client m'.server cb sb × (m'.client.submitted ≡ m.client.submitted)
    × (m'.server.submitted ≡ m.server.submitted) × (m.client.sent ≤ m'.client.sent) × (m.server.sent ≤ m'.server.sent)

-- how many exchanges were finished at a side's last rekey
abbrev pub finished_at_rekey : Side → Step → Mark → Option ℕ → Option ℕ
finished_at_rekey side (Rekey s) m before = if same_side s side then Some (mark_of side m).finished else before
finished_at_rekey side (Submit s p) m before = before
finished_at_rekey side (Deliver s n) m before = before
finished_at_rekey side Settle m before = before

-- the effects of all steps, one after the other
abbrev pub Effects : List Step → Option ℕ → Option ℕ → List Mark → Type 0
Effects [] cb sb [] = ⊥
Effects [] cb sb (m ∷ []) = Unit {0}
Effects [] cb sb (m ∷ m' ∷ marks) = ⊥
Effects (step ∷ steps) cb sb [] = ⊥
Effects (step ∷ steps) cb sb (m ∷ []) = ⊥
Effects (step ∷ steps) cb sb (m ∷ m' ∷ marks) =
    Effect step (finished_at_rekey Client step m cb) (finished_at_rekey Server step m sb) m m'
    × Effects steps (finished_at_rekey Client step m cb) (finished_at_rekey Server step m sb) (m' ∷ marks)

-- the side's packet of type 20 with this number, from 0, was written in step j
abbrev pub WrittenAt : List Moment → Side → ℕ → ℕ → Type 0
WrittenAt moments s k j = (before after : Moment) × (slice_get moments j ≡ Some before)
    × (slice_get moments (suc j) ≡ Some after) × (kexinits (own_of s before) ≤ k) × (k < kexinits (own_of s after))

-- the bytes of the submitted payloads among the packets of epoch k
abbrev pub epoch_bytes : ℕ → List Item → ℕ
epoch_bytes k [] = 0
epoch_bytes zero (i ∷ items) =
    if is_newkeys i then 0 else (if is_payload_type (type_of i) then length i.payload else 0) + epoch_bytes zero items
epoch_bytes (suc k) (i ∷ items) = if is_newkeys i then epoch_bytes k items else epoch_bytes (suc k) items

-- asked for in this step, or a limit was reached in the epoch before
abbrev pub OwnCause : List Step → List Moment → Half → ℕ → ℕ → Type 0
OwnCause steps moments half k j =
    (slice_get steps j ≡ Some (Rekey half.side))
    ⊎ ((after : Moment) × (slice_get moments (suc j) ≡ Some after)
    × (half.config.limits.rekey_write_limit ≤ epoch_bytes k (own_of half.side after)))
    ⊎ ((after : Moment) × (slice_get moments (suc j) ≡ Some after)
    × (half.config.limits.rekey_read_limit ≤ epoch_bytes k (theirs_of half.side after)))

-- each packet of type 20 after the first has a cause
abbrev pub HaveCauses : List Step → List Moment → Half → Half → Type 0
HaveCauses steps moments half other = (k j : ℕ) → 1 ≤ k → WrittenAt moments half.side k j →
    OwnCause steps moments half k j
    ⊎ ((after : Moment) × (slice_get moments (suc j) ≡ Some after) × (k < kexinits (theirs_of half.side after))
    × (i : ℕ) × WrittenAt moments other.side k i × OwnCause steps moments other k i)

-- all marks
abbrev pub AllMoments : Bool → Half → Half → List Moment → Type 0
AllMoments kind client server [] = Unit {0}
AllMoments kind client server (m ∷ moments) = IsMoment kind client server m × AllMoments kind client server moments

-- both id lines are written, and nothing was taken
pub record IsFirstMark (client server : Half) (m : Mark) : Type 0 where
  pub of_client : m.client ≡ record {
    sent = length (id_line client.config.id);
    taken = 0;
    delivered = 0;
    finished = 0;
    inside = true;
    submitted = 0;
  }
  pub of_server : m.server ≡ record {
    sent = length (id_line server.config.id);
    taken = 0;
    delivered = 0;
    finished = 0;
    inside = true;
    submitted = 0;
  }

-- a rekey outside begins one exchange more
abbrev pub BeginsOne : List Step → List Moment → Type 0
BeginsOne steps moments = (j : ℕ) (s : Side) (before after : Moment) → slice_get steps j ≡ Some (Rekey s)
    → slice_get moments j ≡ Some before → slice_get moments (suc j) ≡ Some after
    → (mark_of s before.mark).inside ≡ false → kexinits (own_of s after) ≡ kexinits (own_of s before) + 1

-- a run of these steps with these marks
pub record IsRun (kind : Bool) (client server : Half) (steps : List Step) (marks : List Mark) : Type 0 where
  pub moments : List Moment
  pub marks_are : map (λ (m : Moment). m.mark) moments ≡ marks
  pub each : AllMoments kind client server moments
  pub first : (m : Mark) × (slice_get marks 0 ≡ Some m) × IsFirstMark client server m
  pub effects : Effects steps None None marks
  pub begins_one : BeginsOne steps moments
  pub client_causes : HaveCauses steps moments client server
  pub server_causes : HaveCauses steps moments server client
