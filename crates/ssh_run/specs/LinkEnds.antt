-- The sides of a link, as their calls leave them.
use Rattle.std.specs.Prelude.{◌≡◌, false}
use Rattle.ssh_wire.specs.declared.side.Side.TheVariants.{Client, Server}
use Rattle.ssh_kex.specs.declared.config.Config.{Config}
use Rattle.ssh_rules.specs.Answering.{HasAnswered, PartTests}
use Rattle.ssh_rules.specs.Standing.{Standing}
use Rattle.ssh_rules.specs.declared.link.LinkReport.{LinkReport}
use Rattle.ssh_rules.specs.declared.link.Mark.{Mark}
use Rattle.ssh_rules.specs.declared.link.SideMark.{SideMark}
use Rattle.ssh_transport.specs.Coming.{ComesAnswered}
use Rattle.ssh_transport.specs.Drawing.{PartsStand, StaysDrawn}
use Rattle.ssh_run.specs.Carrying.{CarriedEnd, CarriedLink, both_marks, side_mark}
use Rattle.ssh_run.specs.declared.link.Carrier.{Carrier}
use Rattle.ssh_run.specs.declared.link_end.LinkEnd.{LinkEnd}

-- one side
abbrev pub carried_end : LinkEnd → CarriedEnd
carried_end end = record {
  transport = end.transport;
  taken = end.taken;
  delivered = end.delivered.items;
  submitted = end.submitted;
}

-- both sides
abbrev pub link_of : Carrier → CarriedLink
link_of link = record { client = carried_end link.client; server = carried_end link.server }

-- something holds where neither side has failed
abbrev pub WhereUnfailed : Carrier → Type 0 → Type 0
WhereUnfailed link holds = link.client.transport.failed ≡ false → link.server.transport.failed ≡ false → holds

-- where a side stands
abbrev pub end_mark : LinkEnd → SideMark
end_mark end = side_mark (carried_end end)

-- where both sides stand
abbrev pub link_mark : Carrier → Mark
link_mark link = both_marks (link_of link)

-- A side's first KEXINIT is drawn from the generator that was handed in at the start, if it was so before. And each part
-- answered all that it was asked on the way.
pub record LeavesSide (old new : Standing) (parts parts' : PartsStand) : Type 0 where
  pub drawn : StaysDrawn old new parts.stream parts'.stream
  pub came : ComesAnswered old new parts.tests parts'.tests

-- so of both sides, the client's parts before the server's
pub record LeavesBoth (old new : CarriedLink) (client client' server server' : PartsStand) : Type 0 where
  pub of_client : LeavesSide old.client.transport new.client.transport client client'
  pub of_server : LeavesSide old.server.transport new.server.transport server server'

-- in a run of these configurations both sides' parts answered all that they were asked
pub record BothAnswered (client server : Config) (of_client of_client' of_server of_server' : PartTests)
    (report : LinkReport) : Type 0 where
  pub by_client : HasAnswered Client client report.client.wire report.client.exchanges of_client of_client'
  pub by_server : HasAnswered Server server report.server.wire report.server.exchanges of_server of_server'
