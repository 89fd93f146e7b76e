use Rattle.std.proofs.Common.{refl}
use Rattle.ssh_channels.specs.Ends.{CallClose}
use Rattle.ssh_channels.proofs.Muxing.{on_place, past, refused_place, there, unknown_place}
use Rattle.ssh_channels.proofs.mux.Mux.close.Goals as goal

pub returns-in-Some-clause-ok : goal.returns-in-Some-clause-ok
returns-in-Some-clause-ok c = on_place c.close.result c.args.channel CallClose _ _ _ c.in-Some.c.now c.close.new.self c.self.view_is (there c.self.inside.channels.items c.args.channel c.in-Some.c.now c.in-Some.ensures.item.3.0 c.in-Some.ensures.value) refl c.close.ensures.ok

pub returns-in-Some-clause-refused : goal.returns-in-Some-clause-refused
returns-in-Some-clause-refused c = refused_place c.close.result c.args.channel CallClose _ _ _ c.in-Some.c.now c.close.new.self c.self.view_is (there c.self.inside.channels.items c.args.channel c.in-Some.c.now c.in-Some.ensures.item.3.0 c.in-Some.ensures.value) refl c.close.ensures.refused

pub returns-in-None-clause-refused : goal.returns-in-None-clause-refused
returns-in-None-clause-refused c = unknown_place c.args.channel CallClose _ _ c.self.view_is (past c.self.inside.channels.items c.args.channel c.in-None.ensures.item.3)
