use Rattle.std.proofs.Common.{◌≡◌, ◌≤◌, ℕ, false, List, [], ◌++◌, length, take}
use Rattle.ssh_service.specs.Answers.{StandsFor, answers_from}
use Rattle.ssh_service.specs.Serving.{SubmitsAll, replies_in}
use Rattle.ssh_service.proofs.serving.serve.Given as goal
use Rattle.ssh_kex.specs.Stepping.{says_of}

abbrev pub invariant-loop-payload : goal.invariant-loop-payload
invariant-loop-payload g l = record {
  within : l.payload-index ≤ length l.fn.transport.delivered;
  answers : (earlier : List (List ℕ)) → StandsFor l.fn.services earlier → l.answers.items ≡ answers_from l.fn.services.offered earlier (take l.payload-index l.fn.transport.delivered);
  stands : (earlier : List (List ℕ)) → StandsFor l.fn.services earlier → StandsFor l.services (earlier ++ take l.payload-index l.fn.transport.delivered);
  offered : l.services.offered ≡ l.fn.services.offered;
  replies : SubmitsAll (says_of g.A.Agreement g.H.HostKeys g.G.GroupLookup l.fn.transport.config l.fn.parts.agreement l.fn.parts.hosts l.fn.parts.groups)
      (record l.fn.transport { delivered = [] }) (replies_in l.answers.items) l.transport;
  live : l.transport.failed ≡ false;
  config : l.transport.config ≡ l.fn.transport.config;
  agreement : l.parts.agreement ≡ l.fn.parts.agreement;
  hosts : l.parts.hosts ≡ l.fn.parts.hosts;
  groups : l.parts.groups ≡ l.fn.parts.groups;
}
