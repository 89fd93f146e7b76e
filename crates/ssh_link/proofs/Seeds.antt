-- The generators of a script's sides begin with its seeds.
use Rattle.std.proofs.Common.{◌≡◌, ℕ, List, Result, Ok, Err, IfOk, subst}
use Rattle.rand_core.specs.Steps.{steps_u32, stream_of}
use Rattle.rand_chacha.specs.ChaCha.{ChaCha, next_word, of_seed}
use Rattle.ssh_wire.specs.declared.error.Error.{Error}
use Rattle.ssh_transport.specs.Drawing.{AreDrawn}
use Rattle.ssh_vectors.specs.Seeds.{seed_of}
use Rattle.ssh_link.specs.PlanRun.{IsSeeded}
use Rattle.ssh_script.specs.Plans.{Plan}

pub seeded_told : {T : Type 0} (client_wire server_wire : T → List ℕ) (plan : Plan) (s t : ChaCha) (r : Result T Error) → s ≡ of_seed (seed_of plan.client.seed) → t ≡ of_seed (seed_of plan.server.seed)
    → IfOk r (λ x. AreDrawn plan.client.config plan.server.config (stream_of (steps_u32 (next_word 10)) s) (stream_of (steps_u32 (next_word 10)) t) (client_wire x) (server_wire x)) → IfOk r (λ x. IsSeeded plan (client_wire x) (server_wire x))
seeded_told {T} client_wire server_wire plan s t (Ok x) e f h =
    subst (λ (g : ChaCha). AreDrawn plan.client.config plan.server.config (stream_of (steps_u32 (next_word 10)) g) (stream_of (steps_u32 (next_word 10)) (of_seed (seed_of plan.server.seed))) (client_wire x) (server_wire x)) e
    (subst (λ (g : ChaCha). AreDrawn plan.client.config plan.server.config (stream_of (steps_u32 (next_word 10)) s) (stream_of (steps_u32 (next_word 10)) g) (client_wire x) (server_wire x)) f h)
seeded_told {T} client_wire server_wire plan s t (Err error) e f h = tt
