-- The lemmas that proofs above may cite.
pub use Rattle.ssh_wire.proofs.Cuts.{beyond, fed_twice, fed_more, behind_not, decided_stays, from_left}
pub use Rattle.ssh_wire.proofs.FieldLaws.{mpint_again, u32_again, string_again, text_again, text_takes, AreBytes-drop, AreBytes-tail, bind_ok, same_pair, string_takes, u32_takes}
pub use Rattle.ssh_wire.proofs.LineByLine.{id_of_line, end_of_id, end_of_other, left_other, left_unfinished, next}
pub use Rattle.ssh_wire.proofs.LineLaws.{id_stays, less_than_a_line, line_unfinished, line_end-stays, line_end-within}
pub use Rattle.ssh_wire.proofs.Magnitudes.{magnitude_front, magnitude_length, magnitude_unsigned, unsigned_length, magnitude_same, unsigned_shortest}
pub use Rattle.ssh_wire.proofs.MessageLaws.{bind_found, bind_refused, grows_on, later}
pub use Rattle.ssh_wire.proofs.NameLaws.{joined_front, joined_read, joined_size, joined_text, joined_utf8, names_again, read_spelled, name_utf8}
pub use Rattle.ssh_wire.proofs.Numbers.{equal_mpints, mpint_number, one_mpint}
pub use Rattle.ssh_wire.proofs.Utf8.{is_utf8-by_reading}
pub use Rattle.ssh_wire.proofs.Weights.{fits_room}
