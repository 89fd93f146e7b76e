use Rattle.ssh_blocks.proofs.Holding.{group_held}
use Rattle.ssh_blocks.proofs.values.group_values.Goals as goal

pub returns-clause-held : goal.returns-clause-held
returns-clause-held c = λ a s cs ss.
    group_held a s c.args.client.now c.args.server.now c.in_ok-client_kexinit.client_kexinit.now c.in_ok-server_kexinit.server_kexinit.now c.in_ok-client_value.client_value.now
    c.in_ok-reply.reply.host.now c.in_ok-reply.reply.value.now c.in_ok-reply.reply.signature.now c.in_ok-client_kexinit.ensures.some.0 c.in_ok-server_kexinit.ensures.some.0
    c.in_ok-client_kexinit.request.now c.in_ok-client_kexinit.value.now c.in_ok-server_kexinit.group.now c.in_ok-server_kexinit.reply.now
    c.in_ok-numbers.numbers.prime.now c.in_ok-numbers.numbers.generator.now c.in_ok-sizes.sizes
    c.in_ok-client_kexinit.ensures.some.1 c.in_ok-server_kexinit.ensures.some.1 c.in_ok-client_value.ensures.spelled c.in_ok-reply.ensures.spelled c.in_ok-sizes.ensures.spelled c.in_ok-sizes.ensures.small
    c.in_ok-numbers.ensures.spelled c.in_ok-numbers.ensures.canonical.0 c.in_ok-numbers.ensures.canonical.1 cs ss
