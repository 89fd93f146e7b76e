-- What crates above cite: what a link that was carried so far keeps, that it is a link, that a version line comes
-- whole, and what refuses a step of it where the parts of both sides are lawful. Declares nothing.
pub use Rattle.ssh_run.proofs.CarriedLinks.{carried_is_link}
pub use Rattle.ssh_run.proofs.WholeIds.{whole_id}
pub use Rattle.ssh_run.proofs.LinkSoFar.{BothLive, KeepConfigs, RunsSoFar, TellsLater, all_refused, all_run, bound_next, bound_on, later_tells, later_weaker, new_live, none_run, of_sides, run_refused, runs_more}
pub use Rattle.ssh_run.proofs.RefusedLinks.{lawful_causes, run_cause, says_in, tells_by}
