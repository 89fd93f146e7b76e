-- What crates above cite: the lemmas of the laws, lemmas on events one after the other, and what one turn and one step
-- of a link do. Declares nothing.
pub use Rattle.ssh_rules.proofs.pair.SameRecords.{makes_one_record}
pub use Rattle.ssh_rules.proofs.side.Resets.{resets_is}
pub use Rattle.ssh_rules.proofs.side.Ran.{steps_join, sent_join, read_join, recorded_is}
pub use Rattle.ssh_rules.proofs.pair.Whole.{handled_more, written_more, recorded_more, whole_is_handled, written_so_far, get_front}
pub use Rattle.ssh_rules.proofs.turns.LinkBounded.{causes_more, HaveLimits}
pub use Rattle.ssh_rules.proofs.marks.Moved.{submitted_more, delivered_more, turn_sent, turn_submitted, on_time}
pub use Rattle.ssh_rules.proofs.side.Payloads.{delivers, submits}
pub use Rattle.ssh_rules.proofs.side.Places.{written_reads, handled_reads}
pub use Rattle.ssh_rules.proofs.any_bytes.Guessing.{part_ends, fault_ends, read_by_guesses}
pub use Rattle.ssh_rules.proofs.side.Discharged.{reads_alike, kept_is, legal, none_early}
pub use Rattle.ssh_rules.proofs.side.RunSays.{run_says}
pub use Rattle.ssh_rules.proofs.any_bytes.Attacked.{run_keyed, run_signed, run_wire}
pub use Rattle.ssh_rules.proofs.side.Tags.{prefix_of_sides}
pub use Rattle.ssh_rules.proofs.side.Freshness.{run_fresh}
pub use Rattle.ssh_rules.proofs.side.CallsRun.{Counts, Pays, calls_in, calls_join, calls_steps, calls_run, agreement_counts, hosts_counts, lookups_counts, agreement_pays, hosts_pays, lookups_pays}
pub use Rattle.ssh_rules.proofs.side.CallsRun.{begun_first, dropped_calls}
pub use Rattle.ssh_rules.proofs.side.Calls.{asks_left, asks_lookups}
pub use Rattle.ssh_rules.proofs.side.Asking.{asks_still, asks_join, asks_steps, StageBounds, stage_bounds, dropped_asks, message_none, type_none, cause_none, until_steps}
pub use Rattle.ssh_rules.proofs.side.Answering.{StageAnswers, answers_at, answers_join, answers_same, answers_still, dropped_answers, taken_answers}
pub use Rattle.ssh_rules.proofs.side.GroupsChosen.{dropped_group, groups_more, request_alone, taken_group}
pub use Rattle.ssh_rules.proofs.side.FewAsked.{few_asked, input_few, refused_few}
pub use Rattle.ssh_rules.proofs.side.Left.{begun_steps, left_steps, settle_turn, settle_measure}
pub use Rattle.ssh_rules.proofs.turns.SettleRoom.{left_room, settle_room}
pub use Rattle.ssh_rules.proofs.turns.SettleEnds.{all_rest, both_lower, few_with_first, settle_few, settle_starts, side_lowers, waits_for}
pub use Rattle.ssh_rules.proofs.pair.Joint.{honest_carrier, first_same}
pub use Rattle.ssh_rules.proofs.turns.Turns.{AreFit, client_held, server_held, held_in_step, turns_in_step}
pub use Rattle.ssh_rules.proofs.side.Valid.{are_fit, have_limits, is_within, small_limits, tests, write_limit}
pub use Rattle.ssh_rules.proofs.pair.OneKind.{of_kind}
pub use Rattle.ssh_rules.proofs.pair.KindRead.{reads_kind}
pub use Rattle.ssh_rules.proofs.turns.Starts.{start_is_snapshot, rests_again, reading_stays}
pub use Rattle.ssh_rules.proofs.marks.Moments.{held_by}
pub use Rattle.ssh_rules.proofs.turns.LinkFew.{link_bounded, most_begun}
pub use Rattle.ssh_rules.proofs.headline.LinkIs.{asked_last, asked_more, link_is, submitted_last}
pub use Rattle.ssh_rules.proofs.headline.Grouped.{FindsOnly, link_in_group}
pub use Rattle.ssh_rules.proofs.pair.Next.{next_is, next_accepted}
pub use Rattle.ssh_rules.proofs.side.Forms.{readable}
pub use Rattle.ssh_rules.proofs.pair.Early.{early_run, awaited_passes}
pub use Rattle.ssh_rules.proofs.pair.IdLines.{any_id, any_none, all_left, cut_line, part_is_none, whole_is_id}
pub use Rattle.ssh_rules.proofs.turns.CallTurns.{input_turn, no_version, submit_turn, rekey_turn, took_bytes}
pub use Rattle.ssh_rules.proofs.turns.SnapshotTurns.{IsKnown, is_known, new_stands, client_snapshot, server_snapshot, client_turned, server_turned, client_leads, server_leads, leads_stay, leads_join, settle_turns}
pub use Rattle.ssh_rules.proofs.pair.StrictOrder.{reads_early, reads_messages, next_early, no_violation, steps_cut}
pub use Rattle.ssh_rules.proofs.side.ReadAgain.{value_again, group_again, sizes_again, front_again}
pub use Rattle.ssh_rules.proofs.refusals.OnlyParts.{PartsRefuse, ReadsWell, only_parts_refuse, readable_type, reads_names, refused_by_parts}
pub use Rattle.ssh_rules.proofs.pair.NextWhole.{next_opens, next_whole}
pub use Rattle.ssh_rules.proofs.pair.Facing.{IsFaced, is_faced}
pub use Rattle.ssh_rules.proofs.refusals.NoneRefused.{AreMet, host_presented, nothing_refused, parts_decide}
pub use Rattle.ssh_rules.proofs.refusals.RefusedTurns.{fit_of, AreLawful, refused_turn}
pub use Rattle.ssh_rules.proofs.refusals.LinkCauses.{Causes, Tells, link_cause, none_in_link, offers_by}
pub use Rattle.ssh_rules.proofs.refusals.AnyRefusals.{any_refused, client_played, reached_played, server_played}
pub use Rattle.ssh_rules.proofs.refusals.Obliged.{AreSmall, Duties, Owes}
pub use Rattle.ssh_rules.proofs.refusals.Owed.{PartLaws, duties_of, owes_of, small_of}
pub use Rattle.ssh_rules.proofs.any_bytes.RunHandled.{behind_handled, handled_place, run_handled, run_faulted}
pub use Rattle.ssh_rules.proofs.side.Numbers.{few_run}
pub use Rattle.ssh_rules.proofs.marks.Moved.{same_mark}
pub use Rattle.ssh_rules.proofs.refusals.AskedLinks.{AskedFew, FewAt, IsSoFar, RefusedHere, asked_few, begun_of, few_at, kinds_of, so_far_settled, times_up}
pub use Rattle.ssh_rules.proofs.refusals.Came.{came}
pub use Rattle.ssh_rules.proofs.side.Kept.{kept_line, piece_asking_kept, piece_kept, refused_asking, takes_kept}
pub use Rattle.ssh_rules.proofs.any_bytes.AttackTrace.{Lifts, end_lifted, one_more, trace_lifted}
pub use Rattle.ssh_rules.proofs.any_bytes.AttackParts.{attack_report}
pub use Rattle.ssh_rules.proofs.any_bytes.AttackedLinks.{answers_weaker, first_end}
pub use Rattle.ssh_rules.proofs.pair.Carries.{payloads_join}
pub use Rattle.ssh_rules.proofs.side.Blocks.{block_above, block_at, block_behind, block_below, block_other, both, ends_false, ends_snoc_newkeys, ends_snoc_plain, ends_true}
pub use Rattle.ssh_rules.proofs.side.Epochs.{bytes_in, epoch_at, epoch_next}
pub use Rattle.ssh_rules.proofs.side.Fronts.{block_grows}
pub use Rattle.ssh_rules.proofs.side.OneMessage.{SameTalk, client_by, server_by, talk_one}
pub use Rattle.ssh_rules.proofs.side.Tally.{bytes_ended, bytes_grown, kexinits_none, kexinits_one}
pub use Rattle.ssh_rules.proofs.any_bytes.FedLines.{LineGoes, LineSoFar, behind_more, line_first, line_goes}
pub use Rattle.ssh_rules.proofs.turns.CallTurns.{heard_stays, no_bytes}
