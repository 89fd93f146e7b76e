-- A channel between two ends over an honest carrier: each end's messages come to the other in their order.
use Rattle.std.specs.Prelude.{◌≡◌, ℕ, ◌+◌, ◌≤◌, Bool, true, false, List, [], ◌∷◌, ◌++◌, length, Option, Some, None}
use Rattle.ssh_channels.specs.Phases.{Message, Open, Phase, Silent, Talking, next}
use Rattle.ssh_channels.specs.Ends.{Call, Calls, End, Receives, fresh, is_there}

-- both ends, and the messages that are on the way to each
pub record Talk : Type 0 where
  pub opener : End
  pub other : End
  pub to_other : List Message
  pub to_opener : List Message

-- the channel is opened
abbrev pub opened : (window most other_window other_most : ℕ) → Talk
opened window most other_window other_most = record {
  opener = fresh window most Talking;
  other = fresh other_window other_most Silent;
  to_other = Open window most ∷ [];
  to_opener = [];
}

-- what may happen: a call at an end that is there, or the next message comes to an end
pub data Moves (old new : Talk) : Type 0 where
  OpenerCalls : (call : Call) (messages : List Message) (e : End) → is_there old.opener.said ≡ true → Calls call old.opener messages e
      → new ≡ record old { opener = e; to_other = old.to_other ++ messages } → Moves old new
  OtherCalls : (call : Call) (messages : List Message) (e : End) → is_there old.other.said ≡ true → Calls call old.other messages e
      → new ≡ record old { other = e; to_opener = old.to_opener ++ messages } → Moves old new
  OpenerHears : (m : Message) (rest messages : List Message) (e : End) → old.to_opener ≡ m ∷ rest → Receives m old.opener messages e
      → new ≡ record old { opener = e; to_opener = rest; to_other = old.to_other ++ messages } → Moves old new
  OtherHears : (m : Message) (rest messages : List Message) (e : End) → old.to_other ≡ m ∷ rest → Receives m old.other messages e
      → new ≡ record old { other = e; to_other = rest; to_opener = old.to_opener ++ messages } → Moves old new
