use Rattle.std.proofs.Common.{◌≡◌, ◌≤◌, ℕ, List, ◌++◌, length, take}
use Rattle.ssh_service.specs.Answers.{StandsFor, answers_from}
use Rattle.ssh_service.proofs.services.Services.receive_all.Given as goal

abbrev pub invariant-loop-payload : goal.invariant-loop-payload
invariant-loop-payload l = record {
  within : l.payload-index ≤ length l.payloads;
  answers : (earlier : List (List ℕ)) → StandsFor l.fn.self earlier → l.answers.items ≡ answers_from l.fn.self.offered earlier (take l.payload-index l.payloads);
  stands : (earlier : List (List ℕ)) → StandsFor l.fn.self earlier → StandsFor l.self (earlier ++ take l.payload-index l.payloads);
  offered : l.self.offered ≡ l.fn.self.offered;
}
