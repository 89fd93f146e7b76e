-- The text of a report.
use Rattle.std.specs.Prelude.{◌≡◌, ℕ, ◌+◌, ◌*◌, List, [], ◌∷◌, ◌++◌, codes, length, map, refl}
use Rattle.std.specs.Fmt.{decimal, digits}
use Rattle.std.specs.List.{flat_map, join_with_byte, sum}
use Rattle.hex.specs.Hex.{encode_with}
use Rattle.ssh_wire.specs.declared.side.Side.{Side}
use Rattle.ssh_wire.specs.declared.side.Side.TheVariants.{Client, Server}
use Rattle.ssh_lines.specs.Printed.{hex_word, side_name}
use Rattle.ssh_script.specs.declared.report.ClearSide.{ClearSide}
use Rattle.ssh_script.specs.declared.report.ClearReport.{ClearReport}

-- a line: the side, what is told of it, and its value
abbrev pub report_line : Side → List ℕ → List ℕ → List ℕ
report_line side name value = join_with_byte 32 (side_name side ∷ name ∷ value ∷ []) ++ 10 ∷ []

-- one line for each payload
abbrev pub delivered_lines : Side → List (List ℕ) → List ℕ
delivered_lines side payloads = flat_map (λ payload. report_line side (codes "delivered") (hex_word payload)) payloads

-- what one side did
abbrev pub side_lines : Side → ClearSide → List ℕ
side_lines side report = report_line side (codes "wire") (hex_word report.wire)
    ++ report_line side (codes "taken") (decimal report.taken) ++ delivered_lines side report.delivered

-- The room for what is told of a side, in bytes: two for each byte of its wire and of a payload, 64 for the words of
-- the wire and of a number, and 32 for those of a payload.
abbrev pub report_room : List ℕ → List (List ℕ) → ℕ
report_room wire delivered = 2 * length wire + 64 + sum (map (λ (payload : List ℕ). 2 * length payload + 32) delivered)

-- the report of a clear link: the client, then the server
abbrev pub clear_report_text : ClearReport → List ℕ
clear_report_text report = side_lines Client report.client ++ side_lines Server report.server

report-example : clear_report_text (record {
  client = record { wire = 171 ∷ 9 ∷ []; taken = 12; delivered = [] };
  server = record { wire = []; taken = 0; delivered = (1 ∷ []) ∷ [] ∷ [] };
})
    ≡ codes "client wire ab09\nclient taken 12\nserver wire -\nserver taken 0\nserver delivered 01\nserver delivered -\n"
unfolding encode_with digits
report-example = refl
