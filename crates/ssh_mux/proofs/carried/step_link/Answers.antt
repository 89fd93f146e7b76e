use Rattle.ssh_mux.proofs.Carrying.{one_link_step}
use Rattle.ssh_mux.proofs.Linking.{one_taken}
use Rattle.std.proofs.Common.{◌<◌, ◌^◌, length, refl, subst}
use Rattle.ssh_transport.proofs.Lemmas.{parts_same}
use Rattle.ssh_mux.proofs.Stopping.{refused_now}
use Rattle.ssh_mux.proofs.carried.step_link.Goals as goal

pub returns-in-Ok-clause-step : goal.returns-in-Ok-clause-step
returns-in-Ok-clause-step g c = one_link_step c.args.step _ _ c.args.link.now c.step.new.self c.in-Ok.field-0 (λ e. (c.in-Ok.ensures.dead e).0) c.in-Ok.ensures.takes

pub returns-in-Ok-clause-goes : goal.returns-in-Ok-clause-goes
returns-in-Ok-clause-goes g c = one_taken c.args.step _ _ c.args.link.now c.step.new.self c.in-Ok.field-0 (λ e. (c.in-Ok.ensures.dead e).0) c.in-Ok.ensures.takes

pub returns-in-Err-clause-stops : goal.returns-in-Err-clause-stops
returns-in-Err-clause-stops g c = refused_now _ _ c.args.link.now c.args.client_parts.now c.step.new.client_parts c.args.server_parts.now c.step.new.server_parts c.args.step _ c.in-Err.error refl
    (parts_same _ _ _ _ _ _ _ _ _ _ _ _ _ _ _ _ _ _ _ _ _ _) (parts_same _ _ _ _ _ _ _ _ _ _ _ _ _ _ _ _ _ _ _ _ _ _)
    (subst (λ l. length l < 2 ^ 63) c.steps.ensures c.see_steps.ensures.fewer) c.in-Err.ensures.refused
