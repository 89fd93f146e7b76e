-- The text of a run of channels.
use Rattle.std.specs.Prelude.{◌≡◌, ℕ, Bool, true, false, if◌then◌else◌, List, [], ◌∷◌, ◌++◌, codes, Option, Some, None, refl}
use Rattle.std.specs.Fmt.{decimal, digits}
use Rattle.std.specs.List.{flat_map}
use Rattle.hex.specs.Hex.{encode_with}
use Rattle.ssh_lines.specs.Printed.{error_text, hex_word, side_name}
use Rattle.ssh_wire.specs.declared.side.Side.TheVariants.{Client}
use Rattle.ssh_channels.specs.declared.fault.MuxFault.{MuxFault}
use Rattle.ssh_channels.specs.declared.fault.MuxFault.TheVariants.{Encoding, Ended, Full, Memory, Unexpected, Unknown, Window}
use Rattle.ssh_mux.specs.declared.fault.RunFault.{RunFault}
use Rattle.ssh_mux.specs.declared.fault.RunFault.TheVariants.{Config, Link, Mux}
use Rattle.ssh_mux.specs.declared.report.ChannelReport.{ChannelReport}
use Rattle.ssh_mux.specs.declared.report.Flow.{Flow}

-- the number on the other side
abbrev pub other_word : Option ℕ → List ℕ
other_word None = codes "-"
other_word (Some n) = decimal n

abbrev pub state_word : (refused closed : Bool) → List ℕ
state_word refused closed = if refused then codes "refused" else if closed then codes "closed" else codes "open"

-- the line of one direction
abbrev pub flow_line : List ℕ → Flow → List ℕ
flow_line name flow = codes "to " ++ name ++ codes " " ++ hex_word flow.received ++ codes " read " ++ decimal flow.read ++ codes "\n"

-- the first line of a channel
abbrev pub head_line : ChannelReport → List ℕ
head_line c = codes "channel " ++ side_name c.opener ++ codes " " ++ decimal c.opener_number ++ codes " " ++ other_word c.other_number
    ++ codes " " ++ state_word c.refused c.closed ++ codes "\n"

-- the lines of a channel
abbrev pub channel_lines : ChannelReport → List ℕ
channel_lines c = head_line c ++ flow_line (codes "other") c.to_other ++ flow_line (codes "opener") c.to_opener

abbrev pub channels_text : List ChannelReport → List ℕ
channels_text channels = flat_map channel_lines channels

-- the name of a refusal, and what it carries
abbrev pub mux_fault_word : MuxFault → List ℕ
mux_fault_word (Encoding fault) = codes "Encoding"
mux_fault_word (Unexpected message_type channel) = codes "Unexpected " ++ decimal channel
mux_fault_word (Window channel left got) = codes "Window " ++ decimal channel
mux_fault_word (Unknown channel) = codes "Unknown " ++ decimal channel
mux_fault_word (Ended channel) = codes "Ended " ++ decimal channel
mux_fault_word Full = codes "Full"
mux_fault_word Memory = codes "Memory"

abbrev pub run_fault_word : RunFault → List ℕ
run_fault_word Config = codes "Config"
run_fault_word (Mux fault) = mux_fault_word fault
run_fault_word (Link e) = codes "Link " ++ error_text e

-- the line that tells a refusal
abbrev pub run_fault_line : RunFault → List ℕ
run_fault_line fault = codes "refused " ++ run_fault_word fault ++ codes "\n"

channel-example : channels_text (record {
  opener = Client;
  opener_number = 0;
  other_number = Some 3;
  refused = false;
  closed = true;
  to_other = record { written = 97 ∷ 98 ∷ []; received = 97 ∷ []; read = 1; window = 4; ended = false };
  to_opener = record { written = []; received = []; read = 0; window = 4; ended = true };
} ∷ [])
    ≡ codes "channel client 0 3 closed\nto other 61 read 1\nto opener - read 0\n"
unfolding encode_with digits
channel-example = refl

refused-example : run_fault_line (Mux (Unknown 7)) ≡ codes "refused Unknown 7\n"
unfolding digits
refused-example = refl
