use Rattle.std.proofs.Common.{◌≡◌, ◌∙◌, ap}
use Rattle.ssh_negotiate.specs.Tables.{kex_named, kex_names}
use Rattle.ssh_negotiate.proofs.Texts.{kex_by_text, named_found}
use Rattle.ssh_negotiate.proofs.kex.Name.from_str.Goals as goal
use Rattle.ssh_negotiate.proofs.kex.Name.from_str.Goals.{After-named_in}

is_named : (c : After-named_in) → c.named_in.result ≡ kex_named c.args.s.now
unfolding kex_named
is_named c = c.named_in.ensures

pub returns-clause-named : goal.returns-clause-named
returns-clause-named c = is_named c

pub returns-clause-every : goal.returns-clause-every
returns-clause-every c = λ n e h. is_named c ∙ (ap kex_named h ∙ kex_by_text n e)

pub returns-clause-found : goal.returns-clause-found
returns-clause-found c = named_found kex_names c.args.s.now c.named_in.result c.named_in.ensures
