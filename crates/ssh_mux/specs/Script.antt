-- The text of a script of channels.
use Rattle.std.specs.Prelude.{◌≡◌, ℕ, ◌^◌, nat_lt, ◌++◌, refl, if◌then◌else◌, List, [], ◌∷◌, codes, Option, Some, None, Result, Ok, Err}
use Rattle.std.specs.Option.{option_map}
use Rattle.std.specs.Str.{bytes_eq}
use Rattle.hex.specs.Hex.{decode_pairs}
use Rattle.ssh_wire.specs.declared.side.Side.{Side}
use Rattle.ssh_wire.specs.declared.side.Side.TheVariants.{Client, Server}
use Rattle.ssh_lines.specs.Fields.{form_makes, from_three, from_two, from_word, hex_of, number_of, side_and, side_number, side_of}
use Rattle.ssh_lines.specs.Lines.{said_by}
use Rattle.ssh_lines.specs.declared.script.ScriptFault.{ScriptFault}
use Rattle.ssh_lines.specs.declared.script.ScriptKind.{ScriptKind}
use Rattle.ssh_lines.specs.declared.script.ScriptKind.TheVariants.{NotBuilt, Malformed}
use Rattle.ssh_channels.specs.declared.config.MuxConfig.{MuxConfig}
use Rattle.ssh_mux.specs.declared.pair.PairConfig.{PairConfig}
use Rattle.ssh_mux.specs.declared.step.ChannelStep.{ChannelStep}
use Rattle.ssh_mux.specs.declared.step.ChannelStep.TheVariants.{Start, Write, Read, Eof, Close, Deliver, Rekey, Settle}

-- what a script says
pub record MuxPlan : Type 0 where
  pub channels : PairConfig
  pub steps : List ChannelStep

-- N, below 2^32
abbrev pub small_from : Option ℕ → Option ℕ
small_from None = None
small_from (Some n) = if nat_lt n (2 ^ 32) then Some n else None

abbrev pub small_number_of : List ℕ → Option ℕ
small_number_of word = small_from (number_of word)

-- what a side tells of itself
abbrev pub config_with : Side → ℕ → ℕ → Side × MuxConfig
config_with side window largest = (side, record { window = window; largest = largest })

-- SIDE N N, both below 2^32
abbrev pub window_in : List (List ℕ) → Option (Side × MuxConfig)
window_in words = from_three config_with side_of small_number_of small_number_of words

abbrev pub with_config_of : PairConfig → Side → MuxConfig → PairConfig
with_config_of both Client config = record both { client = config }
with_config_of both Server config = record both { server = config }

abbrev pub with_window : MuxPlan → Side × MuxConfig → MuxPlan
with_window plan said = record plan { channels = with_config_of plan.channels said.0 said.1 }

-- a window stands where these steps came before: there must be none
abbrev pub window_behind : List ChannelStep → Option MuxPlan → Option MuxPlan
window_behind [] plan = plan
window_behind (step ∷ steps) plan = None

-- SIDE N, the number below 2^32
abbrev pub on_side : (Side → ℕ → ChannelStep) → List (List ℕ) → Option ChannelStep
on_side make words = option_map (λ said. make said.0 said.1) (from_two side_and side_of small_number_of words)

abbrev pub write_on : Side → ℕ → List ℕ → ChannelStep
write_on side channel bytes = Write side channel bytes

abbrev pub read_on : Side → ℕ → ℕ → ChannelStep
read_on side channel n = Read side channel n

-- the words behind `settle`: none
abbrev pub settle_in : List (List ℕ) → Option ChannelStep
settle_in [] = Some Settle
settle_in (word ∷ words) = None

-- a line that is no window, by its first word and those behind it
abbrev pub step_of_link : List ℕ → List (List ℕ) → Result ChannelStep ScriptKind
step_of_link word words =
    if bytes_eq word (codes "deliver") then form_makes (option_map (λ said. Deliver said.0 said.1) (side_number words))
    else if bytes_eq word (codes "rekey") then form_makes (from_word (λ word. option_map Rekey (side_of word)) words)
    else if bytes_eq word (codes "settle") then form_makes (settle_in words)
    else Err NotBuilt

abbrev pub step_of : List ℕ → List (List ℕ) → Result ChannelStep ScriptKind
step_of word words =
    if bytes_eq word (codes "open") then form_makes (from_word (λ word. option_map Start (side_of word)) words)
    else if bytes_eq word (codes "write") then form_makes (from_three write_on side_of small_number_of hex_of words)
    else if bytes_eq word (codes "read") then form_makes (from_three read_on side_of small_number_of number_of words)
    else if bytes_eq word (codes "eof") then form_makes (on_side Eof words)
    else if bytes_eq word (codes "close") then form_makes (on_side Close words)
    else step_of_link word words

-- one step more
abbrev pub with_channel_step : MuxPlan → Result ChannelStep ScriptKind → Result MuxPlan ScriptKind
with_channel_step plan (Ok step) = Ok (record plan { steps = plan.steps ++ step ∷ [] })
with_channel_step plan (Err kind) = Err kind

-- what a line makes of what those before it said, by its first word and those behind it
abbrev pub mux_form : MuxPlan → List ℕ → List (List ℕ) → Result MuxPlan ScriptKind
mux_form plan word words =
    if bytes_eq word (codes "window") then form_makes (window_behind plan.steps (option_map (with_window plan) (window_in words)))
    else with_channel_step plan (step_of word words)

-- what a side tells of itself where a script says nothing of it
abbrev pub default_config : MuxConfig
default_config = record { window = 1048576; largest = 32768 }

-- what is said before the first line
abbrev pub first_mux_plan : MuxPlan
first_mux_plan = record { channels = record { client = default_config; server = default_config }; steps = [] }

-- what a script of channels says, or its fault
abbrev pub channel_script : List ℕ → Result MuxPlan ScriptFault
channel_script text = said_by mux_form first_mux_plan text

steps-example : channel_script (codes "window server 4 7\nopen client\n# a comment\nwrite client 0 0aFf\nread server 0 9\neof client 0\nclose server 0\ndeliver client 5\nrekey server\nsettle")
    ≡ Ok (record {
      channels = record { client = default_config; server = record { window = 4; largest = 7 } };
      steps = Start Client ∷ Write Client 0 (10 ∷ 255 ∷ []) ∷ Read Server 0 9 ∷ Eof Client 0 ∷ Close Server 0 ∷ Deliver Client 5 ∷ Rekey Server ∷ Settle ∷ [];
    })
unfolding decode_pairs
steps-example = refl

late-example : channel_script (codes "settle\nwindow client 4 7") ≡ Err (record { line = 2; kind = Malformed })
late-example = refl

wide-example : channel_script (codes "eof client 4294967296") ≡ Err (record { line = 1; kind = Malformed })
wide-example = refl

other-example : channel_script (codes "submit client -") ≡ Err (record { line = 1; kind = NotBuilt })
other-example = refl
