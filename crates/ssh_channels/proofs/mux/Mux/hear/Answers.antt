use Rattle.std.proofs.Common.{refl}
use Rattle.ssh_channels.specs.Reading.{message_in, sender_in}
use Rattle.ssh_channels.proofs.Muxing.{heard_place, past, there, unexpected_place, unheard_place}
use Rattle.ssh_channels.proofs.mux.Mux.hear.Goals as goal

pub returns-in-Some-clause-ok : goal.returns-in-Some-clause-ok
returns-in-Some-clause-ok c = heard_place c.hear.result c.args.channel (sender_in c.args.said) (message_in c.args.said) _ _ _ c.in-Some.c.now c.hear.new.self c.self.view_is (there c.self.inside.channels.items c.args.channel c.in-Some.c.now c.in-Some.ensures.item.3.0 c.in-Some.ensures.value) refl c.hear.ensures.ok

pub returns-in-Some-clause-refused : goal.returns-in-Some-clause-refused
returns-in-Some-clause-refused c = unheard_place c.hear.result c.args.channel (message_in c.args.said) _ _ _ c.in-Some.c.now c.hear.new.self c.self.view_is (there c.self.inside.channels.items c.args.channel c.in-Some.c.now c.in-Some.ensures.item.3.0 c.in-Some.ensures.value) refl c.hear.ensures.refused

pub returns-in-None-clause-refused : goal.returns-in-None-clause-refused
returns-in-None-clause-refused c = unexpected_place c.args.channel _ _ (message_in c.args.said) _ _ c.self.view_is (past c.self.inside.channels.items c.args.channel c.in-None.ensures.item.3) c.message_type.ensures c.unexpected.ensures
