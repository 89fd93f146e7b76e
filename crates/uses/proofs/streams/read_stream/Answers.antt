use Rattle.std.proofs.Common.{◌+◌, ◌-◌, ◌≤◌, length, drop, take, ap, ◌∙◌, arith, length-drop}
use Rattle.ssh_kex.specs.declared.config.Config.{Config}
use Rattle.ssh_rules.specs.Standing.{Standing}
use Rattle.ssh_transport.proofs.Lemmas.{agreement_after, groups_after, hosts_after, kept_weaker}
use Rattle.uses.proofs.Joining.{all_rest, piece_more, room_within, took}
use Rattle.uses.proofs.streams.read_stream.Goals as goal
use Rattle.ssh_kex.specs.Stepping.{says_of}

pub pieces-preserved : goal.pieces-preserved
pieces-preserved g c =
    let kept = took c.pieces.transport c.take_input.new.self (take (length c.args.bytes.now - c.pieces.taken) (drop c.pieces.taken c.args.bytes.now)) (drop c.pieces.taken c.args.bytes.now) c.in_ok-taken.field-0 c.take_input.result (all_rest c.args.bytes.now c.pieces.taken) c.in_ok-taken.was c.take_input.ensures.taken c.pieces.invariant.read.0.acts.live in
    let later = c.in_ok-read_kept-2.ensures.read in
    let within : c.pieces.taken + c.in_ok-taken.field-0 ≤ length c.args.bytes.now =
    (let room = room_within c.pieces.transport (length (drop c.pieces.taken c.args.bytes.now)) in let had = c.pieces.invariant.within in let size = kept.0 in omega (arith, room, had, size, length-drop c.pieces.taken c.args.bytes.now)) in
    record {
      read = piece_more (λ (x : Config). says_of g.A.Agreement g.H.HostKeys g.G.GroupLookup x c.args.parts.now.agreement c.args.parts.now.hosts c.args.parts.now.groups) (λ (x : Config). says_of g.A.Agreement g.H.HostKeys g.G.GroupLookup x c.pieces.parts.agreement c.pieces.parts.hosts c.pieces.parts.groups) (λ (x : Config). kept_weaker g.A.Agreement g.H.HostKeys g.G.GroupLookup _ _ _ _ _ _ _ c.pieces.invariant.agreement c.pieces.invariant.hosts c.pieces.invariant.groups) c.args.transport.now c.pieces.transport c.take_input.new.self c.read_kept-in-pieces.new.transport c.args.bytes.now c.pieces.taken c.in_ok-taken.field-0 c.pieces.lent.items later.0 c.read_kept-in-pieces.new.lent.items c.pieces.invariant.config c.pieces.invariant.read kept.1 later.2 later.1;
      within = within;
      config = c.read_kept-in-pieces.ensures.config ∙ (ap (λ (t : Standing). t.config) kept.1 ∙ c.pieces.invariant.config);
      agreement = agreement_after _ _ _ _ _ _ _ _ c.pieces.invariant.agreement c.read_kept-in-pieces.ensures.keeps.agreement;
      hosts = hosts_after _ _ _ _ _ _ _ _ _ _ _ _ c.pieces.invariant.hosts c.read_kept-in-pieces.ensures.keeps.hosts;
      groups = groups_after _ _ _ _ _ _ _ _ c.pieces.invariant.groups c.read_kept-in-pieces.ensures.keeps.groups;
    }
