-- What the messages of one channel add to those that a side made.
use Rattle.std.specs.Prelude.{◌≡◌, ℕ, List, [], ◌∷◌, ◌++◌, map, if◌then◌else◌}
use Rattle.ssh_channels.specs.Phases.{Message, Eof, Close}
use Rattle.ssh_channels.specs.Ends.{End, closes_now, ends_now}
use Rattle.ssh_channels.specs.Formats.{packet_text}
use Rattle.ssh_channels.specs.Muxes.{addressed}

-- the text of a message of the channel with this number, where the other side's is the second
abbrev pub text : (own peer : ℕ) → Message → List ℕ
text own peer m = packet_text (addressed own peer m)

abbrev pub texts : (own peer : ℕ) → List Message → List (List ℕ)
texts own peer messages = map (λ m. text own peer m) messages

abbrev pub eof_texts : (peer : ℕ) → End → List (List ℕ)
eof_texts peer e = if ends_now e then text 0 peer Eof ∷ [] else []

abbrev pub close_texts : (peer : ℕ) → End → List (List ℕ)
close_texts peer e = if closes_now e then text 0 peer Close ∷ [] else []
