use Rattle.std.proofs.Common.{rules, [], refl, ap}
use Rattle.ssh_wire.specs.declared.side.Side.TheVariants.{Client, Server}
use Rattle.uses_above.proofs.Asking.{answer_written, flow_turned, flow_whole, flow_write_refused, if_fault, within}
use Rattle.uses_above.specs.Asked.{flows}
use Rattle.uses_above.specs.declared.asked.AskFault.TheVariants.{Channel}
use Rattle.uses_above.proofs.asked.ask.Goals as goal

pub read_all-requires : goal.read_all-requires
read_all-requires c = record {
  client = c.args.client.now;
  server = c.args.server.now;
  side = Client;
  number = _;
  written = c.args.request.now;
  read = [];
  back = [];
  within = within c.args.client.now c.args.server.now (search rules) (search rules);
  flow = c.in_ok-asking.ensures.flow;
  many = refl;
}

pub read_all-requires-2 : goal.read_all-requires-2
read_all-requires-2 c =
    let are = within c.args.client.now c.args.server.now (search rules) (search rules) in
    let read = c.in_ok-got.ensures.read c.args.client.now c.args.server.now Client _ c.args.request.now [] [] are c.in_ok-asking.ensures.flow in
    let written = answer_written c.args.client.now c.args.server.now _ c.args.request.now c.args.answer.now c.in_ok-got.got.items _ _ _ read c.in_ok-write.ensures.ok in
    record { client = c.args.client.now; server = c.args.server.now; side = Server; number = 0; written = c.args.answer.now; read = c.in_ok-got.got.items; back = c.args.request.now; within = are; flow = written; many = refl }

pub returns-clause-request : goal.returns-clause-request
returns-clause-request c =
    let are = within c.args.client.now c.args.server.now (search rules) (search rules) in
    let read = c.in_ok-got.ensures.read c.args.client.now c.args.server.now Client _ c.args.request.now [] [] are c.in_ok-asking.ensures.flow in
    flow_whole c.channels_flow.ensures c.args.client.now c.args.server.now Client _ c.args.request.now [] 0 [] c.in_ok-got.got.items _ _ read c.in_ok-got.ensures.count

pub returns-clause-channel : goal.returns-clause-channel
returns-clause-channel c =
    let are = within c.args.client.now c.args.server.now (search rules) (search rules) in
    let read = c.in_ok-got.ensures.read c.args.client.now c.args.server.now Client _ c.args.request.now [] [] are c.in_ok-asking.ensures.flow in
    let written = answer_written c.args.client.now c.args.server.now _ c.args.request.now c.args.answer.now c.in_ok-got.got.items _ _ _ read c.in_ok-write.ensures.ok in
    (c.in_ok-back.ensures.read c.args.client.now c.args.server.now Server 0 c.args.answer.now c.in_ok-got.got.items c.args.request.now are written).channel

pub returns-clause-answer : goal.returns-clause-answer
returns-clause-answer c =
    let are = within c.args.client.now c.args.server.now (search rules) (search rules) in
    let read = c.in_ok-got.ensures.read c.args.client.now c.args.server.now Client _ c.args.request.now [] [] are c.in_ok-asking.ensures.flow in
    let written = answer_written c.args.client.now c.args.server.now _ c.args.request.now c.args.answer.now c.in_ok-got.got.items _ _ _ read c.in_ok-write.ensures.ok in
    let back = c.in_ok-back.ensures.read c.args.client.now c.args.server.now Server 0 c.args.answer.now c.in_ok-got.got.items c.args.request.now are written in
    flow_whole c.channels_flow.ensures c.args.client.now c.args.server.now Server 0 c.args.answer.now c.in_ok-got.got.items _ c.args.request.now c.in_ok-back.back.items _ _ back c.in_ok-back.ensures.count

pub returns-in_err-write-clause-fault : goal.returns-in_err-write-clause-fault
returns-in_err-write-clause-fault c =
    let are = within c.args.client.now c.args.server.now (search rules) (search rules) in
    let read = c.in_ok-got.ensures.read c.args.client.now c.args.server.now Client _ c.args.request.now [] [] are c.in_ok-asking.ensures.flow in
    let turned = flow_turned c.args.client.now c.args.server.now Client _ _ _ _ flows flows read in
    if_fault c.from_residual-in_err-write.result (Channel c.in_err-write.field-0.0) _ (search rules) (ap Channel
    (flow_write_refused c.args.client.now c.args.server.now Server 0 [] c.in_ok-got.got.items c.args.answer.now _ _ _ c.in_err-write.field-0.0 _ turned c.in_err-write.ensures.refused))
