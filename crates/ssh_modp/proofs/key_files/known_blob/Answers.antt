use Rattle.std.proofs.Common.{rules, codes}
use Rattle.ssh_modp.proofs.FirstLines.{first_line, no_host, no_host_or_memory, three_words}
use Rattle.ssh_modp.proofs.key_files.known_blob.Goals as goal

pub returns-clause-named : goal.returns-clause-named
returns-clause-named c =
    let lines = first_line c.args.text.now c.cut.result.0.now c.cut.result.1 c.cut.ensures.pieces in
    record {
      line = c.cut.result.0.now;
      lines = lines.0;
      text_is = lines.1;
      key = c.in-Some-take.blob.now;
      comment = c.take-2.new.self;
      words_are = three_words c.of-words.result c.take.new.self c.take-2.new.self c.cut.result.0.now c.in-Some.kind.now (codes "ssh-rsa") c.in-Some-take.blob.now c.of-words.ensures c.in-Some.ensures.words (search rules) c.in-Some-take.ensures.words;
      key_is = search rules;
    }

pub returns-in_err-decoded-clause-faulty : goal.returns-in_err-decoded-clause-faulty
returns-in_err-decoded-clause-faulty c =
    let lines = first_line c.args.text.now c.cut.result.0.now c.cut.result.1 c.cut.ensures.pieces in
    let words = three_words c.of-words.result c.take.new.self c.take-2.new.self c.cut.result.0.now c.in-Some.kind.now (codes "ssh-rsa") c.in-Some-take.blob.now c.of-words.ensures c.in-Some.ensures.words (search rules) c.in-Some-take.ensures.words in
    no_host_or_memory c.from_residual.result c.args.text.now c.in-Some-take.blob.now (no_host c.args.text.now c.cut.result.0.now c.in-Some-take.blob.now lines.0 c.take-2.new.self lines.1 words) (search rules)
