use Rattle.std.proofs.Common.{◌∙◌, ◌++◌, None, ap, refl, subst, sym}
use Rattle.ssh_packet.specs.Reading.{Reader}
use Rattle.ssh_wire.specs.Lines.{id_line}
use Rattle.ssh_transcript.specs.Reading.{IsFedBehind}
use Rattle.ssh_transcript.specs.declared.wire.WireReader.{WireReader}
use Rattle.ssh_transcript.proofs.Turning.{starts}
use Rattle.ssh_transcript.proofs.wire.WireReader.new.Goals as goal

pub returns : goal.returns
returns c = λ side j p.
    let r : WireReader = record {
      alloc = c.args.alloc;
      side = c.args.rules.side;
      kind = c.args.rules.kind;
      wire = c.args.wire;
      line = c.in_ok-line.line;
      reader = c.push.new.self;
      direction = c.clear.result;
      packets = c.new.result;
      block = c.new-2.result;
      judge = c.new-3.result;
      bad = None;
    } in
    let pushed = c.in_ok-push.ensures.ok in
    let fed = subst (IsFedBehind (id_line c.args.id.now) c.args.wire.now c.in_ok-line.line) (sym (ap (λ (x : Reader). x.waiting) pushed ∙ ap (λ (x : Reader). x.waiting ++ c.behind_line.result.now) c.new-reader.ensures))
    (c.behind_line.ensures (id_line c.args.id.now) c.in_ok-line.ensures) in
    starts side j c.args.id.now c.args.wire.now c.args.steps.now c.args.rules r fed refl refl refl
    (ap (λ (x : Reader). x.number) pushed ∙ ap (λ (x : Reader). x.number) c.new-reader.ensures)
    (ap (λ (x : Reader). x.failed) pushed ∙ ap (λ (x : Reader). x.failed) c.new-reader.ensures)
    c.clear.ensures.opening c.clear.ensures.sealing c.new.ensures.items refl c.new-3.ensures c.new-2.ensures p
