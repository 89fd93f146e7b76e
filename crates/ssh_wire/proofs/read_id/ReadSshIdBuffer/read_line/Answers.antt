-- The two answers where a line ends: the fields are those of a line that waited.
use Rattle.std.proofs.Common.{rules, ◌≡◌, length, take}
use Rattle.ssh_wire.proofs.Feeding.{hears, passes}
use Rattle.ssh_wire.proofs.read_id.ReadSshIdBuffer.read_line.Goals as goal

pub returns-in-Some-id_text_len-clause-read : goal.returns-in-Some-id_text_len-clause-read
returns-in-Some-id_text_len-clause-read c =
    let waited : length (take c.self.inside.len c.self.inside.line) ≡ c.self.inside.len = search rules in
    rw (← c.self.view_is, c.in-Reading.is)
    (hears _ _ c.write_at.new.line c.self.inside.len c.in-Some.end c.in-Some-id_text_len.text c.self.inside.others
    (record { waited = waited; at = search rules; beyond = search rules; within = search rules; short = search rules; kept = search rules })
    (search rules) (c.in-Some-id_text_len.ensures.text) (c.in-Some-id_text_len.ensures.within))

pub returns-in-None-id_text_len-clause-read : goal.returns-in-None-id_text_len-clause-read
returns-in-None-id_text_len-clause-read c =
    let waited : length (take c.self.inside.len c.self.inside.line) ≡ c.self.inside.len = search rules in
    rw (← c.self.view_is, c.in-Reading.is)
    (passes _ _ c.write_at.new.line c.self.inside.len c.in-Some.end c.self.inside.others
    (record { waited = waited; at = search rules; beyond = search rules; within = search rules; short = search rules; kept = search rules })
    (search rules))
