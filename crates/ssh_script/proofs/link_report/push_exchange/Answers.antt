use Rattle.std.proofs.Common.{◌++◌, ◌∙◌, ap}
use Rattle.std.proofs.lemmas.Result.{on_ok_weaker}
use Rattle.ssh_lines.specs.Printed.{hex_word}
use Rattle.ssh_script.proofs.ExchangeLines.{exchange_behind}
use Rattle.ssh_script.proofs.link_report.push_exchange.Goals as goal

pub returns-clause-ok : goal.returns-clause-ok
returns-clause-ok c =
    on_ok_weaker c.put_u8-3.result
    (λ e. exchange_behind c.put_u8-3.new.out.items c.push_hex-2.new.out.items c.put_u8-2.new.out.items c.push_hex.new.out.items c.put_u8.new.out.items c.push_names.new.out.items c.push_decimal.new.out.items c.push_line_head.new.out.items c.args.out.now.items
    c.args.side c.args.k c.args.exchange.now e
    (c.in_ok-push_hex-2.ensures.ok ∙ ap (λ h. c.put_u8-2.new.out.items ++ hex_word h) c.as_bytes-2.ensures.value) c.in_ok-put_u8-2.ensures.ok
    (c.in_ok-push_hex.ensures.ok ∙ ap (λ h. c.put_u8.new.out.items ++ hex_word h) c.as_bytes.ensures.value) c.in_ok-put_u8.ensures.ok
    c.in_ok-push_names.ensures.ok c.in_ok-push_decimal.ensures.ok c.in_ok-push_line_head.ensures.ok)
    c.put_u8-3.ensures.ok
