use Rattle.std.proofs.Common.{◌≡◌, ◌≤◌, ℕ, List, false, length}
use Rattle.ssh_wire.specs.Outside.{TakesFront}
use Rattle.ssh_pipe.specs.Notes.{TellsLines, exchange_notes, noted}
use Rattle.ssh_pipe.specs.Talks.{TalksOn}
use Rattle.ssh_pipe.proofs.talking.take_turns.Given as goal
use Rattle.ssh_kex.specs.Members.{AgreementKept, GroupsKept, HostsKept}
use Rattle.ssh_kex.specs.Stepping.{says_of}

abbrev pub invariant-turns : goal.invariant-turns
invariant-turns g l = record {
  gone : (bytes : List ℕ) × TakesFront bytes (g.S.Source.left l.fn.source) (g.S.Source.left l.source)
      × TalksOn (says_of g.A.Agreement g.H.HostKeys g.G.GroupLookup l.fn.transport.config l.fn.parts.agreement l.fn.parts.hosts l.fn.parts.groups) l.fn.desk l.fn.transport (g.K.Sink.held l.fn.sink) bytes l.desk l.transport (g.K.Sink.held l.sink) × (l._turn ≤ length bytes);
  live : l.transport.failed ≡ false;
  config : l.transport.config ≡ l.fn.transport.config;
  source : g.S.Source.faults l.source ≡ g.S.Source.faults l.fn.source;
  told : l.told ≡ length l.transport.state.records;
  noted : TellsLines (exchange_notes 1 l.transport.state.records) (noted (g.N.Sink.held l.fn.notes) (g.N.Sink.faults l.fn.notes)) (noted (g.N.Sink.held l.notes) (g.N.Sink.faults l.notes));
  sink : g.K.Sink.faults l.sink ≡ g.K.Sink.faults l.fn.sink;
  agreement : AgreementKept g.A.Agreement l.fn.parts.agreement l.parts.agreement;
  hosts : HostsKept g.H.HostKeys l.fn.parts.hosts l.parts.hosts;
  groups : GroupsKept g.G.GroupLookup l.fn.parts.groups l.parts.groups;
}
