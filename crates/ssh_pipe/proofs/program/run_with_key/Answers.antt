use Rattle.std.proofs.Common.{[], ◌∷◌, inr, rules}
use Rattle.ssh_pipe.specs.Notes.{end_note, exchange_notes}
use Rattle.ssh_pipe.proofs.Telling.{tells_join}
use Rattle.ssh_pipe.proofs.program.run_with_key.Goals as goal

pub returns-in-Ok-clause-ran : goal.returns-in-Ok-clause-ran
returns-in-Ok-clause-ran g c =
    let talk = c.talk_as-end.ensures in
    inr (record {
      config = c.in-Ok.config;
      parts = c.in-Ok.parts;
      after = c.talk_as-end.new.parts;
      end = c.talk_as-end.result;
      fed = talk.talked.0;
      finished = talk.talked.1;
      set_up = c.in-Ok.ensures.hosts;
      seeded = c.in-Ok.ensures.rng;
      status_is = search rules;
      taken = talk.talked.2;
      talked = talk.talked.3;
      told = record { whole = talk.whole; long = talk.long; source = talk.source; sink = talk.sink };
      noted = tells_join (exchange_notes 1 talk.talked.1) (end_note c.talk_as-end.result ∷ []) _ _ _ talk.talked.4 c.tell_end.ensures;
    })
