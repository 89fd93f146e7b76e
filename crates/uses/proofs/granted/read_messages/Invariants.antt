use Rattle.std.proofs.Common.{◌≡◌, ◌≤◌, List, length, map, take}
use Rattle.ssh_service.specs.Messages.{spelling}
use Rattle.ssh_service.specs.declared.message.ServiceMessage.{ServiceMessage}
use Rattle.uses.proofs.granted.read_messages.Given as goal
use Rattle.uses.specs.Granted.{AreMessages}

abbrev pub invariant-loop-payload : goal.invariant-loop-payload
invariant-loop-payload l = record {
  within : l.payload-index ≤ length l.payloads;
  so_far : (messages : List ServiceMessage) → AreMessages messages → l.payloads ≡ map spelling messages → l.messages.items ≡ take l.payload-index messages;
}
