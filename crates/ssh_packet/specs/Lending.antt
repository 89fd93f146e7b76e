-- What a reader is once the packet that it lends is given back, and a writer once its buffer is.
use Rattle.std.specs.Prelude.{Option, Result}
use Rattle.std.specs.Borrow.{MutBor, Lends, Fml}
use Rattle.std.specs.Io.BufRead.{Rests}
use Rattle.ssh_packet.specs.Keys.{opening_of}
use Rattle.ssh_packet.specs.Reading.{Reader, LeavesNext}
use Rattle.ssh_packet.specs.Writing.{Writer, Buffer}
use Rattle.ssh_packet.specs.declared.keys.OpenKey.{OpenKey}
use Rattle.ssh_packet.specs.declared.error.OpenError.{OpenError}
use Rattle.ssh_packet.specs.declared.reader.Incoming.{Incoming}
use Rattle.ssh_packet.specs.contracts.reader.PacketReader.{the_row}
use Rattle.ssh_packet.specs.contracts.writer.PacketWriter.{the_row as writer_row}
use Rattle.ssh_packet.specs.contracts.buffer.SSHBuffer.{the_row as buffer_row}
use Rattle.ssh_packet.specs.contracts.compression.Compress.{the_row as compress_row}
use Rattle.ssh_packet.specs.declared.compression.Compress.{Compress}

abbrev pub LendsNext : MutBor Reader → OpenKey → OpenKey → Result (Option Incoming) OpenError → Fml
LendsNext s key key' result = Rests the_row s (LeavesNext s.now (opening_of key) (opening_of key') result)

abbrev pub with_buffer : Writer → Buffer → Writer
with_buffer w b = record w { output = b.output; len = b.len; count = b.count; number = b.number; room = b.room }

abbrev pub LendsBuffer : MutBor Writer → MutBor Buffer → Fml
LendsBuffer self result = Lends writer_row buffer_row self result (with_buffer self.now)

abbrev pub LendsCompress : MutBor Writer → MutBor Compress → Fml
LendsCompress self result = Lends writer_row compress_row self result (λ c. self.now)
