-- A channel is opened and confirmed, three bytes are written, and they come: the moves are there, and nothing is left
-- on the way.
use Rattle.std.proofs.Common.{◌≡◌, ℕ, ◌≤◌, ◌<◌, true, false, List, [], ◌∷◌, ◌++◌, length, min, refl, inl, arith}
use Rattle.ssh_channels.specs.Phases.{Message, Open, Confirmation, Data, Phase, Silent, Talking}
use Rattle.ssh_channels.specs.Ends.{Calls, End, Receives, Sends, Write}
use Rattle.ssh_channels.specs.Ends.{fresh}
use Rattle.ssh_channels.specs.Conversation.{Moves, OpenerCalls, OpenerHears, OtherHears, Talk, opened}
use Rattle.ssh_channels.specs.Laws.{Goes, IsSettled, Reached}

abbrev bytes : List ℕ
bytes = 97 ∷ 98 ∷ 99 ∷ []

abbrev start : Talk
start = opened 10 7 5 4

abbrev other_heard : End
other_heard = record (fresh 5 4 Silent) { heard = Talking; said = Talking; granted = 10; largest = 7 }

abbrev accepted : Talk
accepted = record { opener = fresh 10 7 Talking; other = other_heard; to_other = []; to_opener = Confirmation 5 4 ∷ [] }

abbrev opener_heard : End
opener_heard = record (fresh 10 7 Talking) { heard = Talking; granted = 5; largest = 4 }

abbrev confirmed : Talk
confirmed = record { opener = opener_heard; other = other_heard; to_other = []; to_opener = [] }

abbrev opener_wrote : End
opener_wrote = record opener_heard { written = bytes; gone = 3 }

abbrev written : Talk
written = record { opener = opener_wrote; other = other_heard; to_other = Data bytes ∷ []; to_opener = [] }

abbrev came : Talk
came = record { opener = opener_wrote; other = record other_heard { received = bytes }; to_other = []; to_opener = [] }

nothing_goes : Sends (record (fresh 10 7 Talking) { heard = Talking; granted = 5; largest = 4 }) [] opener_heard
nothing_goes = record { pieces = []; mid = opener_heard; sent = record { new_is = refl; each = tt; bytes = refl }; messages_are = refl; new_is = refl }

three_go : Sends (record opener_heard { written = bytes }) (Data bytes ∷ []) opener_wrote
three_go = record {
  pieces = bytes ∷ [];
  mid = opener_wrote;
  sent = record { new_is = refl; each = (omega arith, omega arith, tt); bytes = refl };
  messages_are = refl;
  new_is = refl;
}

pub they_come : Goes (accepted ∷ confirmed ∷ written ∷ came ∷ []) start came
they_come = (
  OtherHears (Open 10 7) [] (Confirmation 5 4 ∷ []) other_heard refl (inl (refl, refl)) refl,
  (
    OpenerHears (Confirmation 5 4) [] [] opener_heard refl nothing_goes refl,
    (
      OpenerCalls (Write bytes) (Data bytes ∷ []) opener_wrote refl (refl, three_go) refl,
      (
        OtherHears (Data bytes) [] [] (record other_heard { received = bytes }) refl (refl, refl) refl,
        refl,
      ),
    ),
  ),
)

pub settled : IsSettled came
settled = record { to_other = refl; to_opener = refl; accepted = refl; opener_open = refl; other_open = refl }
