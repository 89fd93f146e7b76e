use Rattle.std.proofs.Common.{◌≡◌, ◌<◌, ◌≤◌, length, refl, arith}
use Rattle.ssh_channels.specs.Muxes.{most_channels}
use Rattle.ssh_channels.proofs.Muxing.{filled_place, granted_place}
use Rattle.ssh_channels.proofs.mux.Mux.answer.Goals as goal

pub returns-then-len-ge-MOST_CHANNELS-clause-ok : goal.returns-then-len-ge-MOST_CHANNELS-clause-ok
returns-then-len-ge-MOST_CHANNELS-clause-ok c =
    let full : most_channels ≤ length c.self.inside.channels.items =
    let n = c.len.ensures in let m = c.if-len-ge-MOST_CHANNELS.true in let k = c.self.inside.channels.ok.0 in omega arith in
    filled_place c.args.offer.now.sender c.args.offer.now.window c.args.offer.now.largest _ _ _ c.in_ok-failure_text.field-0 c.self.view_is full refl c.in_ok-failure_text.ensures c.in_ok-push.ensures.items

pub returns-clause-ok : goal.returns-clause-ok
returns-clause-ok c =
    let few : length c.self.inside.channels.items < most_channels =
    let n = c.len.ensures in let m = c.if-len-ge-MOST_CHANNELS.false in let k = c.self.inside.channels.ok.0 in omega arith in
    granted_place c.args.offer.now.sender c.args.offer.now.window c.args.offer.now.largest _ _ _ c.telling-telling.result c.in_ok-confirmation_text.field-0 c.granted.result c.push-3.new.self.items c.self.view_is few c.telling-telling.ensures
    c.in_ok-confirmation_text.ensures c.granted.ensures refl c.in_ok-push-3.ensures.items c.in_ok-push-2.ensures.items
