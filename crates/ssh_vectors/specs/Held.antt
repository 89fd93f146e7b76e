-- What the fields of a source and of a sink stand for.
use Rattle.std.specs.Prelude.{◌-◌, ◌≤◌, length, take, drop}
use Rattle.ssh_vectors.specs.Memory.{MemoryLeft, MemoryHeld}
use Rattle.ssh_vectors.specs.declared.memory.MemorySource.TheInside as source
use Rattle.ssh_vectors.specs.declared.memory.MemorySink.TheInside as sink

abbrev pub memory_left_of : source.Inside → MemoryLeft
memory_left_of s = record { left = drop s.at s.bytes.items; fails = s.fails.items; calls = s.calls; faults = s.faults }

abbrev pub IsSource : source.Inside → Type 0
IsSource s = s.at ≤ length s.bytes.items

abbrev pub held_of : sink.Inside → MemoryHeld
held_of s = record { held = take s.len s.memory.items; room = length s.memory.items - s.len; fails = s.fails.items; calls = s.calls; faults = s.faults }

abbrev pub IsSink : sink.Inside → Type 0
IsSink s = s.len ≤ length s.memory.items
