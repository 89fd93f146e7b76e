use Rattle.std.proofs.Common.{◌≡◌, ◌+◌, ◌<◌, [], length, false, true}
use Rattle.ssh_kex.specs.Parts.{KeepsParts}
use Rattle.ssh_mux.specs.Doing.{OnlySubmits}
use Rattle.ssh_mux.specs.Linking.{TakesSteps}
use Rattle.ssh_mux.specs.Running.{Carries, both_of, on_link, state_at}
use Rattle.ssh_mux.specs.Stopping.{submitted_in}
use Rattle.ssh_mux.proofs.Carrying.{still_made}
use Rattle.ssh_mux.proofs.carried.submit_made.Given as goal
use Rattle.ssh_kex.specs.Members.{AgreementKept, GroupsKept, HostsKept}
use Rattle.ssh_kex.specs.Stepping.{says_of}

abbrev pub invariant-loop-payload : goal.invariant-loop-payload
invariant-loop-payload g l = record {
  none : (state_at l.side (both_of l.pair)).made ≡ [];
  carries : Carries (on_link l.fn.pair l.fn.link) (record { both = still_made l.side l.payload-iterator.rest.items (both_of l.pair); link = l.link });
  submits : OnlySubmits l.fn.link l.link;
  none_left : l.some ≡ false → l.payload-iterator.rest.items ≡ [];
  still : l.some ≡ false → l.link ≡ l.fn.link;
  count : submitted_in l.link + length l.payload-iterator.rest.items ≡ submitted_in l.fn.link + length (state_at l.side (both_of l.fn.pair)).made;
  many : l.some ≡ true → 0 < length (state_at l.side (both_of l.fn.pair)).made;
  goes : TakesSteps
      (says_of g.A.Agreement g.H.HostKeys g.G.GroupLookup l.fn.link.carried.client.transport.config l.fn.client_parts.agreement l.fn.client_parts.hosts l.fn.client_parts.groups)
      (says_of g.A.Agreement g.H.HostKeys g.G.GroupLookup l.fn.link.carried.server.transport.config l.fn.server_parts.agreement l.fn.server_parts.hosts l.fn.server_parts.groups)
      l.fn.link l.link;
  client_keeps : KeepsParts (AgreementKept g.A.Agreement l.fn.client_parts.agreement l.client_parts.agreement)
      (HostsKept g.H.HostKeys l.fn.client_parts.hosts l.client_parts.hosts)
      (GroupsKept g.G.GroupLookup l.fn.client_parts.groups l.client_parts.groups);
  server_keeps : KeepsParts (AgreementKept g.A.Agreement l.fn.server_parts.agreement l.server_parts.agreement)
      (HostsKept g.H.HostKeys l.fn.server_parts.hosts l.server_parts.hosts)
      (GroupsKept g.G.GroupLookup l.fn.server_parts.groups l.server_parts.groups);
}
