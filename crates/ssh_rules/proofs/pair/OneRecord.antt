-- In a link whose parts agree on one secret both sides make the same record.
use Rattle.std.proofs.Common.{refl, Some}
use Rattle.ssh_wire.specs.declared.side.Side.TheVariants.{Client, Server}
use Rattle.ssh_negotiate.specs.Laws.{IsWithin}
use Rattle.ssh_kex.specs.Setting.{offers_of}
use Rattle.ssh_rules.proofs.pair.Facts.{MakesOne}
use Rattle.ssh_rules.specs.Laws.{OneSecret, FindsCanonical}
use Rattle.ssh_rules.proofs.side.Ledgers.{setting_at}
use Rattle.ssh_rules.specs.Turns.{Talkers}
use Rattle.ssh_rules.proofs.pair.SameRecords.{makes_one_record}
use Rattle.ssh_rules.proofs.turns.Turns.{made_in}

pub makes_one_link : (t : Talkers) → OneSecret (t.says Client) (t.says Server) → FindsCanonical (t.says Server) → IsWithin (offers_of Client (t.config Client)) → IsWithin (offers_of Server (t.config Server)) → MakesOne (made_in t)
makes_one_link t secret canonical wc ws a b before x y hx hy =
    (makes_one_record (t.says Client) (t.says Server) secret canonical
    (setting_at Client (t.config Client) (t.own_id Client) (Some (t.own_id Server)) before) (setting_at Server (t.config Server) (t.own_id Server) (Some (t.own_id Client)) before)
    a b hx.exchange hy.exchange x y hx.host hy.host wc ws (record { client_id = refl; server_id = refl; cause = refl }) hx.made hy.made).0
