-- A source and a sink in memory, of which chosen calls fail.
use Rattle.std.specs.Prelude.{ℕ, ◌-◌, ◌==◌, nat_le, ◌&&◌, ◌||◌, Bool, List, ◌++◌, length, take, drop, min, Result, Ok, Err, if◌then◌else◌}
use Rattle.std.specs.List.{list_any}
use Rattle.ssh_wire.specs.Outside.{next_count}
use Rattle.ssh_wire.specs.declared.outside.Failed.{Failed}
use Rattle.ssh_wire.specs.declared.outside.Failed.TheVariants as failed

-- whether a call's number is among those that fail
abbrev pub is_listed : List ℕ → ℕ → Bool
is_listed fails call = list_any (λ number. number == call) fails

-- a source: the bytes that are left, the numbers of the calls that fail, and how many calls and faults there were
pub record MemoryLeft : Type 0 where
  pub left : List ℕ
  pub fails : List ℕ
  pub calls : ℕ
  pub faults : ℕ

-- whether the next read fails
abbrev pub read_fails : MemoryLeft → Bool
read_fails s = is_listed s.fails (next_count s.calls)

-- how many bytes the next read gives
abbrev pub read_length : MemoryLeft → ℕ → ℕ
read_length s room = min room (length s.left)

-- what the next read answers
abbrev pub read_answer : MemoryLeft → ℕ → Result ℕ Failed
read_answer s room = if read_fails s then Err failed.Failed else Ok (read_length s room)

-- the source after the next read
abbrev pub after_read : MemoryLeft → ℕ → MemoryLeft
after_read s room =
    if read_fails s then record { left = s.left; fails = s.fails; calls = next_count s.calls; faults = next_count s.faults }
    else record { left = drop (read_length s room) s.left; fails = s.fails; calls = next_count s.calls; faults = s.faults }

-- a sink: the bytes that it holds, for how many more there is room, the numbers of the calls that fail, and how many
-- calls and faults there were
pub record MemoryHeld : Type 0 where
  pub held : List ℕ
  pub room : ℕ
  pub fails : List ℕ
  pub calls : ℕ
  pub faults : ℕ

-- whether the next write of so many bytes fails: it is listed, or there is no room for a piece that isn't empty
abbrev pub write_fails : MemoryHeld → ℕ → Bool
write_fails s size = is_listed s.fails (next_count s.calls) || (nat_le 1 size && (s.room == 0))

-- how many bytes the next write takes
abbrev pub write_length : MemoryHeld → ℕ → ℕ
write_length s size = min size s.room

-- what the next write answers
abbrev pub write_answer : MemoryHeld → ℕ → Result ℕ Failed
write_answer s size = if write_fails s size then Err failed.Failed else Ok (write_length s size)

-- the sink after the next write
abbrev pub after_write : MemoryHeld → List ℕ → MemoryHeld
after_write s bytes =
    if write_fails s (length bytes) then record { held = s.held; room = s.room; fails = s.fails; calls = next_count s.calls; faults = next_count s.faults }
    else record { held = s.held ++ take (write_length s (length bytes)) bytes; room = s.room - write_length s (length bytes); fails = s.fails; calls = next_count s.calls; faults = s.faults }
