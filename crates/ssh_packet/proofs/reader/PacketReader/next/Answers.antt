use Rattle.std.proofs.Common.{◌≡◌, refl, sym, ap, ◌∙◌, arith, length-drop, ◌+◌, length, min, take, drop, true, []}
use Rattle.ssh_packet.specs.Keys.{opening_of}
use Rattle.ssh_packet.specs.Sealing.{Item}
use Rattle.ssh_packet.specs.Reading.{Reader}
use Rattle.ssh_packet.proofs.Sound.{front_sound, moved_sound}
use Rattle.ssh_packet.proofs.Lent.{ends_at, found_is, handed_is, moved_is, part_is, length_part, spent_is}
use Rattle.ssh_packet.proofs.reader.PacketReader.next.Goals as goal

pub returns-in-Ok-Some : goal.returns-in-Ok-Some
returns-in-Ok-Some c =
    let opened = rw c.in-Ok-Some.field-0-is at c.in-Ok-Some.ensures.opens in
    let part = c.in-Ok-Some.field-0-0 in
    let found = opened.0 in
    let there = c.self.inside.bytes.items in
    let now = c.open_behind.new.bytes.items in
    let start = c.self.inside.start in
    let size : length c.open_behind.new.bytes.items ≡ length c.self.inside.bytes.items = omega (arith, c.open_behind.ensures.size, c.self.inside.bytes.ok.0, c.open_behind.new.bytes.ok.0) in
    let item : Item = record { payload = take c.in-Ok-Some.field-0-0.payload (drop 5 (drop c.self.inside.start c.open_behind.new.bytes.items)); padding = found.padding } in
    let whole = front_sound (opening_of c.args.key.now) c.self.inside.number (drop start there) (drop (start + part.end) now) item c.in-Ok-Some.ensures.bytes (found_is (opening_of c.args.key.now) c.self.inside.number start there now part found) in
    let long = length_part now start part.payload (omega (arith, found.within, found.fits, size, length-drop start there)) in (
      (
        refl,
        λ _. tt,
        rw (← c.self.view_is) (
          item,
          record {
            live = c.if-self.false;
            front = found_is (opening_of c.args.key.now) c.self.inside.number start there now part found;
            payload = part_is c.deref.result.now now start part.payload c.deref.ensures.value;
            seqn = refl;
            number = refl;
            count = c.saturating_add-self-inside.ensures ∙ ap (λ n. min (c.self.inside.count + n) 18446744073709551615) (sym long);
            failed = c.if-self.false;
            handed = handed_is now start part.payload;
            window = refl;
            spent = spent_is c.self.inside.start part.end (drop start there) (drop (start + part.end) now) _ whole.bytes_are (omega (arith, found.within, found.fits, size, length-drop start there, length-drop (start + part.end) now));
            shorter = omega (arith, found.within, found.fits, size, length-drop start there, length-drop (start + part.end) now);
            admissible = whole.admissible;
            bytes = whole.bytes_are;
            moved = moved_sound (opening_of c.args.key.now) c.self.inside.number (drop start there) (drop (start + part.end) now) item (opening_of c.open_behind.new.key) whole.bytes_are (moved_is (opening_of c.args.key.now) (opening_of c.open_behind.new.key) start part.end there now found.rest opened.1);
          },
        ),
      ),
      record { after_borrow = tt },
    )

pub returns-in-Err : goal.returns-in-Err
returns-in-Err c =
    let there = c.self.inside.bytes.items in
    let now = c.open_behind.new.bytes.items in
    let size : length c.open_behind.new.bytes.items ≡ length c.self.inside.bytes.items = omega (arith, c.open_behind.ensures.size, c.self.inside.bytes.ok.0, c.open_behind.new.bytes.ok.0) in (
      (
        refl,
        λ _. tt,
        rw (← c.self.view_is) (ends_at _ _ _ _ c.in-Err.error c.if-self.false c.in-Err.ensures.opens.0
            (record {
              failed = refl;
              number = refl;
              count = refl;
              waiting = omega (arith, size, length-drop c.self.inside.start there, length-drop c.self.inside.start now);
              handed = refl;
              window = refl;
              spent = refl;
            })
            (λ same. ap (λ w. let r : Reader = record { waiting = w; number = c.self.inside.number; count = c.self.inside.count; failed = true; handed = []; window = c.self.inside.window; spent = c.self.inside.start } in r) same)
            c.in-Err.ensures.opens.1),
      ),
      record { after_borrow = tt },
    )
