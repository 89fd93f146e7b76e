use Rattle.std.proofs.Common.{◌∙◌, ap}
use Rattle.ssh_wire.specs.Names.{names_of}
use Rattle.ssh_wire.proofs.NameLaws.{joined_read, made_again}
use Rattle.ssh_wire.proofs.name_list.NameList.from_encoded_string.Goals as goal

pub returns-clause-again : goal.returns-clause-again
returns-clause-again c = λ names are e.
    made_again (λ l. l.0.items) (names_of c.args.value.now) c.names_of_text.result names c.names_of_text.ensures (ap names_of e ∙ joined_read names are)
