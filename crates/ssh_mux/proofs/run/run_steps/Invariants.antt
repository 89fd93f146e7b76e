use Rattle.std.proofs.Common.{◌≡◌, List, [], ◌∷◌, ◌++◌, take}
use Rattle.ssh_kex.specs.Parts.{KeepsParts}
use Rattle.ssh_mux.specs.Linking.{TakesSteps}
use Rattle.ssh_mux.specs.Running.{LeavesNone, RunsSteps, on_link}
use Rattle.ssh_mux.specs.Stopping.{turns_after}
use Rattle.ssh_mux.specs.declared.step.ChannelStep.{ChannelStep}
use Rattle.ssh_mux.specs.declared.step.ChannelStep.TheVariants.{Settle}
use Rattle.ssh_mux.proofs.run.run_steps.Given as goal
use Rattle.ssh_kex.specs.Members.{AgreementKept, GroupsKept, HostsKept}
use Rattle.ssh_kex.specs.Stepping.{says_of}

abbrev pub invariant-loop-step : goal.invariant-loop-step
invariant-loop-step g l = record {
  runs : RunsSteps (take l.step-index l.steps) (on_link l.fn.pair l.fn.link) (on_link l.pair l.link);
  settled : (before : List ChannelStep) → take l.step-index l.steps ≡ before ++ Settle ∷ [] → LeavesNone (on_link l.pair l.link);
  turns : l.turns ≡ turns_after 2 (take l.step-index l.steps);
  goes : TakesSteps
      (says_of g.A.Agreement g.H.HostKeys g.G.GroupLookup l.fn.link.carried.client.transport.config l.fn.client_parts.agreement l.fn.client_parts.hosts l.fn.client_parts.groups)
      (says_of g.A.Agreement g.H.HostKeys g.G.GroupLookup l.fn.link.carried.server.transport.config l.fn.server_parts.agreement l.fn.server_parts.hosts l.fn.server_parts.groups)
      l.fn.link l.link;
  client_keeps : KeepsParts (AgreementKept g.A.Agreement l.fn.client_parts.agreement l.client_parts.agreement)
      (HostsKept g.H.HostKeys l.fn.client_parts.hosts l.client_parts.hosts)
      (GroupsKept g.G.GroupLookup l.fn.client_parts.groups l.client_parts.groups);
  server_keeps : KeepsParts (AgreementKept g.A.Agreement l.fn.server_parts.agreement l.server_parts.agreement)
      (HostsKept g.H.HostKeys l.fn.server_parts.hosts l.server_parts.hosts)
      (GroupsKept g.G.GroupLookup l.fn.server_parts.groups l.server_parts.groups);
}
