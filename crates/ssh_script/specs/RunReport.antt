-- The text of a link's report, and of an attacked run's.
use Rattle.std.specs.Prelude.{◌≡◌, ℕ, ◌+◌, ◌*◌, if◌then◌else◌, List, [], ◌∷◌, ◌++◌, length, codes, refl, Result, Ok, Err}
use Rattle.std.specs.Fmt.{decimal, digits}
use Rattle.std.specs.List.{join_with_byte}
use Rattle.hex.specs.Hex.{encode_with}
use Rattle.ssh_wire.specs.Algorithms.{algorithm_name, certificate_name}
use Rattle.ssh_wire.specs.declared.side.Side.{Side}
use Rattle.ssh_wire.specs.declared.side.Side.TheVariants.{Client, Server}
use Rattle.ssh_mac.specs.Names.{mac_name}
use Rattle.ssh_packet.specs.Names.{cipher_name}
use Rattle.ssh_negotiate.specs.Tables.{kex_text}
use Rattle.ssh_negotiate.specs.declared.negotiation.Names.{Names}
use Rattle.ssh_kex.specs.declared.exchange.FinishedExchange.{FinishedExchange}
use Rattle.ssh_rules.specs.declared.link.AttackReport.{AttackReport}
use Rattle.ssh_rules.specs.declared.link.SideReport.{SideReport}
use Rattle.ssh_rules.specs.declared.link.LinkReport.{LinkReport}
use Rattle.ssh_wire.specs.declared.error.Error.{Error}
use Rattle.ssh_wire.specs.declared.error.Error.TheVariants as errors
use Rattle.ssh_script.specs.Report.{report_line, report_room, delivered_lines}
use Rattle.ssh_lines.specs.Printed.{side_name, hex_word, error_text}

-- KEY: the type of the certificate where one was chosen
abbrev pub key_word : Names → List ℕ
key_word names = if names.host_key_is_certificate then certificate_name names.key else algorithm_name names.key

-- STRICT: whether the order of messages was strict and the numbers began again
abbrev pub strict_word : Names → List ℕ
strict_word names = if names.strict_kex then codes "strict" else codes "plain"

-- KEX KEY CIPHER MAC MAC STRICT, the client's MAC first
abbrev pub names_words : Names → List (List ℕ)
names_words names =
    kex_text names.kex ∷ key_word names ∷ cipher_name names.cipher ∷ mac_name names.client_mac
    ∷ mac_name names.server_mac ∷ strict_word names ∷ []

-- exchange k, what was negotiated in it, its hash and the session id
abbrev pub exchange_line : Side → ℕ → FinishedExchange → List ℕ
exchange_line side k x =
    join_with_byte 32 (side_name side ∷ codes "exchange" ∷ decimal k ∷ names_words x.names ++ hex_word x.hash ∷ hex_word x.session_id ∷ []) ++ 10 ∷ []

-- one line for each exchange, counted from k
abbrev pub exchange_lines : Side → ℕ → List FinishedExchange → List ℕ
exchange_lines side k [] = []
exchange_lines side k (x ∷ xs) = exchange_line side k x ++ exchange_lines side (k + 1) xs

-- what one side did
abbrev pub link_side_lines : Side → SideReport → List ℕ
link_side_lines side report =
    report_line side (codes "wire") (hex_word report.wire)
    ++ report_line side (codes "taken") (decimal report.taken)
    ++ report_line side (codes "finished") (decimal (length report.exchanges))
    ++ exchange_lines side 1 report.exchanges
    ++ delivered_lines side report.delivered

-- the room for it: besides 512 bytes for each exchange, and 32 for how many these are
abbrev pub link_room : SideReport → ℕ
link_room report = report_room report.wire report.delivered + 512 * length report.exchanges + 32

-- the report of a link: the client, then the server
abbrev pub link_report_text : LinkReport → List ℕ
link_report_text report = link_side_lines Client report.client ++ link_side_lines Server report.server

-- TEXT of an answer
abbrev pub answer_word : Result (Unit {0}) Error → List ℕ
answer_word (Ok u) = codes "ok"
answer_word (Err e) = error_text e

-- `answer I TEXT`
abbrev pub answer_line : ℕ → Result (Unit {0}) Error → List ℕ
answer_line k answer = (codes "answer " ++ decimal k) ++ 32 ∷ answer_word answer ++ 10 ∷ []

-- one line for each answer, counted from k
abbrev pub answer_lines : ℕ → List (Result (Unit {0}) Error) → List ℕ
answer_lines k [] = []
answer_lines k (answer ∷ answers) = answer_line k answer ++ answer_lines (k + 1) answers

-- the report of an attacked run: the client, the server, then the answers
abbrev pub attack_report_text : AttackReport → List ℕ
attack_report_text report = link_side_lines Client report.client ++ link_side_lines Server report.server ++ answer_lines 1 report.answers

answers-example : answer_lines 1 (Ok tt ∷ Err (errors.PacketSize 3) ∷ []) ≡ codes "answer 1 ok\nanswer 2 PacketSize 3\n"
unfolding digits
answers-example = refl

side-example : link_side_lines Server (record { wire = 171 ∷ []; taken = 12; delivered = (1 ∷ []) ∷ []; exchanges = [] })
    ≡ codes "server wire ab\nserver taken 12\nserver finished 0\nserver delivered 01\n"
unfolding encode_with digits
side-example = refl
