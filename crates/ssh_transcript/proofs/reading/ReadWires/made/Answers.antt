use Rattle.std.proofs.lemmas.Option.{IfSome_then}
use Rattle.std.proofs.lemmas.Result.{IfErr-weaker, IfOk-weaker}
use Rattle.ssh_wire.specs.declared.side.Side.TheVariants.{Client, Server}
use Rattle.ssh_transcript.specs.Reading.{judged_under}
use Rattle.ssh_transcript.proofs.Exchanging.{client_not_whole, server_not_whole}
use Rattle.ssh_transcript.proofs.reading.ReadWires.made.Goals as goal

pub returns-in-None-clause-none : goal.returns-in-None-clause-none
returns-in-None-clause-none c = λ e r s h.
    client_not_whole (judged_under c.args.setting.now r) c.args.self.now.exchanges.items c.args.self.now.client h.client (c.whole_block.ensures.none c.in-None.is Client (judged_under c.args.setting.now r) c.args.self.now.exchanges.items h.client)

pub returns-in-None-whole_block-clause-none : goal.returns-in-None-whole_block-clause-none
returns-in-None-whole_block-clause-none c = λ e r s h.
    server_not_whole (judged_under c.args.setting.now r) c.args.self.now.exchanges.items c.args.self.now.server h.server (c.whole_block-in-Some.ensures.none c.in-None-whole_block.is Server (judged_under c.args.setting.now r) c.args.self.now.exchanges.items h.server)

pub returns-in-Some-whole_block-clause-made : goal.returns-in-Some-whole_block-clause-made
returns-in-Some-whole_block-clause-made c = IfOk-weaker c.made_of.result _ _ (λ m g. IfSome_then m g (λ x k r s h.
    let a = c.in-Some.ensures.some Client (judged_under c.args.setting.now r) c.args.self.now.exchanges.items h.client in
    let b = c.in-Some-whole_block.ensures.some Server (judged_under c.args.setting.now r) c.args.self.now.exchanges.items h.server in
    k r s (record { ended = h; client_whole = a.0; server_whole = b.0; client_is = a.1; server_is = b.1 }))) c.made_of.ensures.made

pub returns-in-Some-whole_block-clause-none : goal.returns-in-Some-whole_block-clause-none
returns-in-Some-whole_block-clause-none c = λ e r s h.
    let a = c.in-Some.ensures.some Client (judged_under c.args.setting.now r) c.args.self.now.exchanges.items h.client in
    let b = c.in-Some-whole_block.ensures.some Server (judged_under c.args.setting.now r) c.args.self.now.exchanges.items h.server in
    c.made_of.ensures.none e r s (record { ended = h; client_whole = a.0; server_whole = b.0; client_is = a.1; server_is = b.1 })

pub returns-in-Some-whole_block-clause-stops : goal.returns-in-Some-whole_block-clause-stops
returns-in-Some-whole_block-clause-stops c = IfErr-weaker c.made_of.result _ _ (λ e k r s h.
    let a = c.in-Some.ensures.some Client (judged_under c.args.setting.now r) c.args.self.now.exchanges.items h.client in
    let b = c.in-Some-whole_block.ensures.some Server (judged_under c.args.setting.now r) c.args.self.now.exchanges.items h.server in
    k r s (record { ended = h; client_whole = a.0; server_whole = b.0; client_is = a.1; server_is = b.1 })) c.made_of.ensures.stops
