use Rattle.std.proofs.Common.{◌≡◌, [], false, take}
use Rattle.ssh_pipe.specs.Talks.{HandsReplies}
use Rattle.ssh_pipe.proofs.talking.answer_all.Given as goal
use Rattle.ssh_kex.specs.Stepping.{says_of}

abbrev pub invariant-loop-payload : goal.invariant-loop-payload
invariant-loop-payload g l = record {
  answers : HandsReplies (says_of g.A.Agreement g.H.HostKeys g.G.GroupLookup l.fn.transport.config l.fn.parts.agreement l.fn.parts.hosts l.fn.parts.groups) l.fn.desk (record l.fn.transport { delivered = [] }) (take l.payload-index l.fn.transport.delivered) l.desk l.transport;
  live : l.transport.failed ≡ false;
  config : l.transport.config ≡ l.fn.transport.config;
  records : l.transport.state.records ≡ l.fn.transport.state.records;
  agreement : l.parts.agreement ≡ l.fn.parts.agreement;
  hosts : l.parts.hosts ≡ l.fn.parts.hosts;
  groups : l.parts.groups ≡ l.fn.parts.groups;
}
