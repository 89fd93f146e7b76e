-- What keeps what holds between calls.
use Rattle.std.proofs.Common.{◌≡◌, ℕ, zero, suc, ◌+◌, ◌-◌, ◌<◌, ◌≤◌, ◌^◌, List, [], ◌∷◌, ◌++◌, length, min, take, drop, refl, sym, ap, ◌∙◌, subst, append_assoc, append-nil, length-append, arith}
use Rattle.std.proofs.lemmas.List.{take-append-drop}
use Rattle.ssh_wire.specs.Reading.{Failed, Heard, IdReading, Waiting, waiting_length}
use Rattle.ssh_packet.specs.Reading.{Reader, window_length}
use Rattle.ssh_rules.specs.Standing.{line_with, unfinished, unfinished_by, waiting_with, with_input}
use Rattle.ssh_transport.specs.Kept.{IsKept, IsLive}
use Rattle.ssh_transport.specs.Saying.{IsSettled}
use Rattle.ssh_transport.specs.States.{CanBegin, WaitsBehind, bare_of, emptied, standing_of, with_more}
use Rattle.ssh_transport.specs.declared.connection.Connection.{Connection}
use Rattle.ssh_transport.specs.declared.session.Session.{Session}

live_output : (c : Connection) (output : List ℕ) (room : ℕ) → IsLive c
    → IsLive (record c {
      session = record c.session {
        writer = record c.session.writer
            { output = output; room = room };
      };
    })
live_output c output room h = record {
  begins = record { valid = h.begins.valid; short = h.begins.short };
  settled =
      λ at. h.settled at;
  good = h.good;
  opened = record { machine = h.opened.machine; heard = h.opened.heard };
  numbered
      = h.numbered;
  short = h.short;
  heeds = h.heeds;
  unbroken = h.unbroken;
  windowed = h.windowed;
}

-- an output that was sent
pub kept_output : (c c' : Connection) (output : List ℕ) (room : ℕ)
    → c' ≡ record c { session = record c.session { writer = record c.session.writer { output = output; room = room } } }
    → IsKept c → IsKept c'
kept_output c c' output room e h = subst IsKept (sym e)
    (record {
      begins = record { valid = h.begins.valid; short = h.begins.short };
      heeds = h.heeds;
      within = h.within;
      live = λ f. live_output c output room (h.live f);
    })

-- a reader that goes on where it was, with other bytes that wait
pub live_reader : (c : Connection) (r : Reader) → r.number ≡ c.reader.number → r.count ≡ c.reader.count
    → r.failed ≡ c.reader.failed → r.window ≡ c.reader.window → IsLive c → IsLive (record c { reader = r })
live_reader c r a b d e h = record {
  begins = h.begins;
  settled = subst (λ (n : ℕ). IsSettled c.session n) (sym b)
      h.settled;
  good = h.good;
  opened = h.opened;
  numbered = subst (λ (n : ℕ). n < 2 ^ 32) (sym a) h.numbered;
  short =
      h.short;
  heeds = h.heeds;
  unbroken = d ∙ h.unbroken;
  windowed = e ∙ h.windowed;
}

-- a session that goes on with the line that it has
pub kept_session : (c : Connection) (s' : Session) → s'.line ≡ c.session.line → CanBegin s' → IsKept c
    → IsLive (record c { session = s' }) → IsKept (record c { session = s' })
kept_session c s' e b k l = record {
  begins = b;
  heeds = subst (λ (x : IdReading). x ≡ Failed → ⊥) (sym e) k.heeds;
  within = subst (λ (x : IdReading). waiting_length x + length c.reader.waiting ≤ window_length) (sym e) k.within;
  live = λ f. l;
}

pub live_unlent : (c c' : Connection) → c' ≡ record c { reader = record c.reader { handed = [] } } → IsLive c
    → IsLive c'
live_unlent c c' e h = subst IsLive (sym e) (live_reader c (record c.reader { handed = [] }) refl refl refl refl h)

pub live_emptied : (c : Connection) → IsLive c → IsLive (emptied c)
live_emptied c h = live_reader c (record c.reader { waiting = []; handed = []; spent = 0 }) refl refl refl refl h

-- input that was kept
pub live_with : (c c1 : Connection) (waiting handed : List ℕ) (spent : ℕ) → c1 ≡ record c { reader = c1.reader }
    → c1.reader ≡ record c.reader { waiting = waiting; handed = handed; spent = spent } → IsLive c → IsLive c1
live_with c c1 waiting handed spent e f h = subst IsLive (sym e)
    (live_reader c c1.reader (ap (λ (x : Reader). x.number) f) (ap (λ (x : Reader). x.count) f)
    (ap (λ (x : Reader). x.failed) f) (ap (λ (x : Reader). x.window) f) h)

-- and what it stood for
pub emptied_same : (c c1 : Connection) (waiting handed : List ℕ) (spent : ℕ) → c1 ≡ record c { reader = c1.reader }
    → c1.reader ≡ record c.reader { waiting = waiting; handed = handed; spent = spent } → emptied c1 ≡ emptied c
emptied_same c c1 waiting handed spent e f = ap emptied e ∙ ap (λ (r : Reader). emptied (record c { reader = r })) f

line_kept : (line : IdReading) (waiting : List ℕ) → WaitsBehind line waiting → line_with line waiting ≡ line
line_kept (Waiting bytes others) waiting w = ap (λ (x : List ℕ). Waiting (bytes ++ x) others) w
    ∙ ap (λ (x : List ℕ). Waiting x others) (append-nil bytes)
line_kept (Heard text) waiting w = refl
line_kept Failed waiting w = refl

waiting_kept : (line : IdReading) (waiting : List ℕ) → WaitsBehind line waiting → waiting_with line [] waiting ≡ waiting
waiting_kept (Waiting bytes others) waiting w = sym w
waiting_kept (Heard text) waiting w = refl
waiting_kept Failed waiting w = sym w

-- where nothing waits before the end of the line, or all that waits stands behind it
pub standing_bare : (c : Connection) → WaitsBehind c.session.line c.reader.waiting → standing_of c ≡ bare_of c
standing_bare c w = ap (λ (l : IdReading). record (bare_of c)
    { line = l; waiting = waiting_with c.session.line [] c.reader.waiting })
    (line_kept c.session.line c.reader.waiting w)
    ∙ ap (λ (x : List ℕ). record (bare_of c) { waiting = x }) (waiting_kept c.session.line c.reader.waiting w)

pub waits_nothing : (line : IdReading) → WaitsBehind line []
waits_nothing (Waiting bytes others) = refl
waits_nothing (Heard text) = tt
waits_nothing Failed = refl

more_line : (line : IdReading) (a b : List ℕ) → line_with line (a ++ b) ≡ line_with (line_with line a) b
more_line (Waiting bytes others) a b = ap (λ (x : List ℕ). Waiting x others) (sym (append_assoc bytes a b))
more_line (Heard text) a b = refl
more_line Failed a b = refl

more_waiting : (line : IdReading) (a b : List ℕ) → waiting_with line [] (a ++ b) ≡ waiting_with (line_with line a)
    (waiting_with line [] a) b
more_waiting (Waiting bytes others) a b = refl
more_waiting (Heard text) a b = refl
more_waiting Failed a b = refl

-- more input that was kept
pub standing_with : (c c1 : Connection) (more handed : List ℕ) (spent : ℕ) → c1 ≡ record c { reader = c1.reader }
    → c1.reader ≡ record c.reader { waiting = c.reader.waiting ++ more; handed = handed; spent = spent }
    → standing_of c1 ≡ with_input (standing_of c) more
standing_with c c1 more handed spent e f = ap standing_of e
    ∙ ap (λ (r : Reader). standing_of (record c { reader = r })) f
    ∙ ap (λ (l : IdReading). record (standing_of c) {
      line = l;
      waiting = waiting_with c.session.line []
          (c.reader.waiting ++ more);
    }) (more_line c.session.line c.reader.waiting more)
    ∙ ap (λ (x : List ℕ). record (standing_of c) {
      line = line_with (line_with c.session.line c.reader.waiting) more;
      waiting = x;
    }) (more_waiting c.session.line c.reader.waiting more)

-- how much that is
pub unfinished_length : (c : Connection) → (c.session.line ≡ Failed → ⊥)
    → length (unfinished (standing_of c)) ≡ waiting_length c.session.line + length c.reader.waiting
unfinished_length c n = by_line c.session.line c.reader.waiting n
  where
    by_line : (line : IdReading) (waiting : List ℕ) → (line ≡ Failed → ⊥)
        → length (unfinished_by (line_with line waiting) (waiting_with line [] waiting)) ≡ waiting_length line + length
        waiting
    by_line (Waiting bytes others) waiting m = length-append bytes waiting
    by_line (Heard text) waiting m = omega arith
    by_line Failed waiting m = absurd (m refl)

-- some of what is behind was taken
pub more_taken : (c c1 : Connection) (rest handed : List ℕ) (n spent : ℕ) → c1 ≡ record c { reader = c1.reader }
    → c1.reader ≡ record c.reader { waiting = c.reader.waiting ++ take n rest; handed = handed; spent = spent }
    → with_more c1 (drop n rest) ≡ with_more c rest
more_taken c c1 rest handed n spent e f = ap (λ (x : Connection). with_more x (drop n rest)) e
    ∙ ap (λ (r : Reader). with_more (record c { reader = r }) (drop n rest)) f
    ∙ ap (λ (b : List ℕ). record c { reader = record c.reader { waiting = b; handed = []; spent = 0 } })
    (append_assoc c.reader.waiting (take n rest) (drop n rest)
    ∙ ap (λ (b : List ℕ). c.reader.waiting ++ b) (take-append-drop n rest))

take_few : (n : ℕ) (xs : List ℕ) → length (take n xs) ≤ n
take_few zero xs = omega arith
take_few (suc n) [] = omega arith
take_few (suc n) (x ∷ xs) = let h = take_few n xs in omega (arith, h)

take_within : (n : ℕ) (xs : List ℕ) → length (take n xs) ≤ length xs
take_within zero xs = omega arith
take_within (suc n) [] = omega arith
take_within (suc n) (x ∷ xs) = let h = take_within n xs in omega (arith, h)

-- as much as there is room for
pub kept_taken : (c : Connection) (r : Reader) (piece : List ℕ) (n u k spent : ℕ) → IsKept c
    → u ≡ length (unfinished (standing_of c)) → n ≡ min (length piece) (window_length - u)
    → r ≡ record c.reader { waiting = c.reader.waiting ++ take k (take n piece); handed = []; spent = spent }
    → IsKept (record c { reader = r })
kept_taken c r piece n u k spent h size fits e = record {
  begins = h.begins;
  heeds = h.heeds;
  within = (
      let a : length r.waiting ≡ length c.reader.waiting + length (take k (take n piece)) = ap
      (λ (x : Reader). length x.waiting) e ∙ length-append c.reader.waiting (take k (take n piece)) in
      let b = take_within k (take n piece) in
      let f = take_few n piece in
      let d : u ≡ waiting_length c.session.line + length c.reader.waiting = size ∙ unfinished_length c h.heeds in
      let w = h.within in
      omega (arith, a, b, d, f, fits, w)
      );
  live = λ f. live_reader c r (ap (λ (x : Reader). x.number) e) (ap (λ (x : Reader). x.count) e)
      (ap (λ (x : Reader). x.failed) e) (ap (λ (x : Reader). x.window) e) (h.live f);
}
