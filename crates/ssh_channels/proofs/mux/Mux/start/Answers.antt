use Rattle.std.proofs.Common.{◌≡◌, ◌<◌, length, refl, arith}
use Rattle.ssh_channels.specs.Muxes.{most_channels}
use Rattle.ssh_channels.proofs.Muxing.{started_place}
use Rattle.ssh_channels.proofs.mux.Mux.start.Goals as goal

pub returns-clause-ok : goal.returns-clause-ok
returns-clause-ok c =
    let few : length c.self.inside.channels.items < most_channels =
    let n = c.len.ensures in let m = c.if-len-ge-MOST_CHANNELS.false in let k = c.self.inside.channels.ok.0 in omega arith in
    started_place _ _ _ c.telling-telling.result c.in_ok-open_text.field-0 c.opened.result c.push-2.new.self.items c.self.view_is few c.telling-telling.ensures c.in_ok-open_text.ensures c.opened.ensures refl c.in_ok-push-2.ensures.items c.in_ok-push.ensures.items
