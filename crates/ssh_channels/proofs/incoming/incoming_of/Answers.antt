use Rattle.ssh_channels.specs.Formats.{adjust_at, confirmation_at, data_at, failure_at, last_at, opening_at}
use Rattle.ssh_channels.specs.Phases.{Close, Eof}
use Rattle.ssh_channels.proofs.incoming.incoming_of.Goals as goal

pub returns-in-90 : goal.returns-in-90
returns-in-90 c = rw c.in-90.is (c.encoded.ensures (opening_at c.args.fields.now) c.opening.ensures)

pub returns-in-91 : goal.returns-in-91
returns-in-91 c = rw c.in-91.is (c.encoded-in-91.ensures (confirmation_at c.args.fields.now) c.confirmation.ensures)

pub returns-in-92 : goal.returns-in-92
returns-in-92 c = rw c.in-92.is (c.encoded-in-92.ensures (failure_at c.args.fields.now) c.failure.ensures)

pub returns-in-93 : goal.returns-in-93
returns-in-93 c = rw c.in-93.is (c.encoded-in-93.ensures (adjust_at c.args.fields.now) c.adjust.ensures)

pub returns-in-94 : goal.returns-in-94
returns-in-94 c = rw c.in-94.is (c.encoded-in-94.ensures (data_at c.args.fields.now) c.data.ensures)

pub returns-in-96 : goal.returns-in-96
returns-in-96 c = rw c.in-96.is (c.encoded-in-96.ensures (last_at Eof c.args.fields.now) c.eof.ensures)

pub returns-in-97 : goal.returns-in-97
returns-in-97 c = rw c.in-97.is (c.encoded-in-97.ensures (last_at Close c.args.fields.now) c.close.ensures)
