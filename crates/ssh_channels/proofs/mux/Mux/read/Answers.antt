use Rattle.std.proofs.Common.{refl}
use Rattle.ssh_channels.specs.Ends.{Read}
use Rattle.ssh_channels.proofs.Muxing.{on_each, past, read_place, there, unknown_place, wanting_place}
use Rattle.ssh_channels.proofs.mux.Mux.read.Goals as goal

pub returns-in-Some-clause-ok : goal.returns-in-Some-clause-ok
returns-in-Some-clause-ok c = on_each c.read.result c.args.channel (Read c.args.n) _ _ _ c.in-Some.c.now c.read.new.self c.self.view_is (there c.self.inside.channels.items c.args.channel c.in-Some.c.now c.in-Some.ensures.item.3.0 c.in-Some.ensures.value) refl c.read.ensures.ok

pub returns-in-Some-clause-bytes : goal.returns-in-Some-clause-bytes
returns-in-Some-clause-bytes c = read_place c.read.result c.args.channel c.args.n _ _ c.in-Some.c.now c.self.view_is (there c.self.inside.channels.items c.args.channel c.in-Some.c.now c.in-Some.ensures.item.3.0 c.in-Some.ensures.value) c.read.ensures.bytes

pub returns-in-Some-clause-refused : goal.returns-in-Some-clause-refused
returns-in-Some-clause-refused c = wanting_place c.read.result c.args.channel c.args.n _ _ _ c.in-Some.c.now c.self.view_is (there c.self.inside.channels.items c.args.channel c.in-Some.c.now c.in-Some.ensures.item.3.0 c.in-Some.ensures.value) c.read.ensures.refused

pub returns-in-None-clause-refused : goal.returns-in-None-clause-refused
returns-in-None-clause-refused c = unknown_place c.args.channel (Read c.args.n) _ _ c.self.view_is (past c.self.inside.channels.items c.args.channel c.in-None.ensures.item.3)
