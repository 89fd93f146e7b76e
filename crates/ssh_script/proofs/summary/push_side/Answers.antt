use Rattle.std.proofs.Common.{rules, ◌≡◌, ◌++◌, min, codes, decimal, length}
use Rattle.std.proofs.lemmas.Result.{on_ok_weaker}
use Rattle.ssh_lines.specs.Printed.{side_name}
use Rattle.ssh_script.specs.Summary.{bytes_together, largest}
use Rattle.ssh_script.proofs.SummaryLines.{summary_behind}
use Rattle.ssh_script.proofs.summary.push_side.Goals as goal

pub returns-clause-ok : goal.returns-clause-ok
returns-clause-ok c =
    let r = c.args.report.now in
    let h1 : c.push_text.new.out.items ≡ c.args.out.now.items ++ side_name c.args.side = search rules in
    let h2 : c.push_numbered.new.out.items ≡ c.push_text.new.out.items ++ (codes " sent " ++ decimal (length r.wire)) = search rules in
    let h3 : c.push_numbered-2.new.out.items ≡ c.push_numbered.new.out.items ++ (codes " finished " ++ decimal (length r.exchanges)) = search rules in
    let h4 : c.push_numbered-3.new.out.items ≡ c.push_numbered-2.new.out.items ++ (codes " delivered " ++ decimal (length r.delivered)) = search rules in
    let h5 : c.push_numbered-4.new.out.items ≡ c.push_numbered-3.new.out.items ++ (codes " bytes " ++ decimal (min (bytes_together r.delivered) largest)) = search rules in
    on_ok_weaker c.put_u8.result
    (λ e. summary_behind c.put_u8.new.out.items c.push_numbered-4.new.out.items c.push_numbered-3.new.out.items c.push_numbered-2.new.out.items c.push_numbered.new.out.items c.push_text.new.out.items c.args.out.now.items c.args.side r e h5 h4 h3 h2 h1)
    c.put_u8.ensures.ok
