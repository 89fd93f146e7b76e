use Rattle.std.proofs.Common.{◌≡◌, ◌∙◌}
use Rattle.ssh_script.specs.Plans.{Plan}
use Rattle.ssh_mux.specs.Sides.{default_plan}
use Rattle.ssh_mux.proofs.DefaultSides.{sides_obliging, sides_trusted, sides_valid}
use Rattle.ssh_mux.proofs.mux_program.run_between.Goals as goal

pub returns-clause-complete : goal.returns-clause-complete
returns-clause-complete c =
    let plan : Plan = record { client = c.sides.inside.client; server = c.sides.inside.server; steps = c.sides.inside.steps.items; attack = c.sides.inside.attack.items } in
    let same : plan ≡ default_plan = c.sides.view_is ∙ c.requires in
    let p = c.in_ok-client_parts.client_parts in
    let q = c.in_ok-server_parts.server_parts in
    let o = sides_obliging plan q.groups.bits same c.in_ok-server_parts.ensures.bits in
    c.run_channels.ensures.complete (sides_valid plan same) tt tt (sides_trusted plan p.hosts.trusted same c.in_ok-client_parts.ensures.trusted) tt o.lawful (λ k. o)
