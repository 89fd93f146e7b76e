-- The part of a reader's buffer that is lent, as part of what waited, and what a refusal leaves.
use Rattle.std.proofs.Common.{◌≡◌, [], inl, inr, refl, subst, true, false, ℕ, ◌+◌, ◌-◌, ◌≤◌, List, ◌++◌, length, take, drop, sym, ◌∙◌, ap, arith, length-append, length-drop}
use Rattle.std.proofs.lemmas.Grind.{common_steps}
use Rattle.std.proofs.lemmas.List.{drop-drop}
use Rattle.ssh_packet.specs.Errors.{error_of, open_error}
use Rattle.ssh_wire.specs.declared.error.Error.TheVariants as causes
use Rattle.ssh_packet.specs.Finding.{RefusesBy, LeavesFront, OpensPart}
use Rattle.ssh_packet.specs.Front.{Fault, PacketSize, PacketAuth, DecryptionError, IndexOutOfBounds, Whole, Refused, front_of, is_bad_length, key_behind}
use Rattle.ssh_packet.specs.Reading.{Reader, RefusesNext, IsOver, EndsAt}
use Rattle.ssh_packet.specs.Sealing.{Sealing}
use Rattle.ssh_packet.specs.declared.error.OpenError.{OpenError}
use Rattle.ssh_packet.specs.declared.error.OpenError.TheVariants as errors
use Rattle.ssh_packet.specs.declared.front.Part.{Part}

pub part_is : (now items : List ℕ) (start payload : ℕ) → now ≡ items → take (start + 5 + payload - (start + 5)) (drop (start + 5) now) ≡ take payload (drop 5 (drop start items))
part_is now items start payload same =
    let size : start + 5 + payload - (start + 5) ≡ payload = omega arith in
    ap (λ b. take (start + 5 + payload - (start + 5)) (drop (start + 5) b)) same
    ∙ (ap (λ n. take n (drop (start + 5) items)) size ∙ ap (take payload) (sym (drop-drop 5 start items)))

-- the part that is kept in mind
pub handed_is : (items : List ℕ) (start payload : ℕ) → take payload (drop (start + 5) items) ≡ take payload (drop 5 (drop start items))
handed_is items start payload = ap (take payload) (sym (drop-drop 5 start items))

pub length_part : (items : List ℕ) (start payload : ℕ) → start + 5 + payload ≤ length items → length (take payload (drop 5 (drop start items))) ≡ payload
length_part items start payload h =
    let a : length (drop 5 (drop start items)) ≡ length items - start - 5 = omega (arith, length-drop 5 (drop start items), length-drop start items) in
    grind (arith, common_steps)

-- ---- what is left

-- the bytes of a packet are those before the rest
pub spent_is : (start end : ℕ) (there rest packet : List ℕ) → there ≡ packet ++ rest → length there ≡ end + length rest → start + end ≡ start + length packet
spent_is start end there rest packet e h = omega (arith, h, ap length e, length-append packet rest)

rest_is : (start end : ℕ) (there now : List ℕ) → drop end (drop start now) ≡ drop end (drop start there) → drop end (drop start there) ≡ drop (start + end) now
rest_is start end there now h = sym h ∙ drop-drop end start now

pub found_is : (key : Sealing) (number start : ℕ) (there now : List ℕ) (part : Part) (opened : OpensPart (front_of key number (drop start there)) (drop start there) (drop start now) part) → front_of key number (drop start there) ≡ Whole (record { payload = take part.payload (drop 5 (drop start now)); padding = opened.padding }) (drop (start + part.end) now)
found_is key number start there now part opened = opened.found ∙ ap (Whole (record { payload = take part.payload (drop 5 (drop start now)); padding = opened.padding })) (rest_is start part.end there now opened.rest)

pub moved_is : (key key' : Sealing) (start end : ℕ) (there now : List ℕ) → drop end (drop start now) ≡ drop end (drop start there) → key' ≡ key_behind key (drop start there) (drop end (drop start there)) → key' ≡ key_behind key (drop start there) (drop (start + end) now)
moved_is key key' start end there now rest h = h ∙ ap (key_behind key (drop start there)) (rest_is start end there now rest)

-- ---- a refusal

refused_by : (old : Reader) (key : Sealing) (fault : Fault) → old.failed ≡ false → front_of key old.number old.waiting ≡ Refused fault → RefusesNext old key (open_error fault)
refused_by old key (PacketSize n) live e = (live, e)
refused_by old key PacketAuth live e = (live, e)
refused_by old key DecryptionError live e = (live, e)
refused_by old key IndexOutOfBounds live e = (live, e)

both_ways : (key : Sealing) (n m : ℕ) → errors.PacketSize n ≡ errors.PacketSize m → is_bad_length key m ≡ true → is_bad_length key n ≡ false → ⊥
both_ways key n m e bad good =
    let same : m ≡ n = cc in
    let h : true ≡ false = sym bad ∙ (ap (is_bad_length key) same ∙ good) in cc

ended_by : (old new : Reader) (key key' : Sealing) (fault : Fault) → IsOver old new → (new.waiting ≡ old.waiting → new ≡ record old { failed = true; handed = [] }) → LeavesFront key old.waiting new.waiting (open_error fault) key' → EndsAt old key key' (open_error fault) new
ended_by old new key key' (PacketSize n) over same (inl (bad, waiting, kept)) = (over, λ h. (same waiting, kept), λ good. absurd (both_ways key n bad.0 bad.1 bad.2 good))
ended_by old new key key' (PacketSize n) over same (inr (good, left)) = (over, λ bad. absurd (let h : true ≡ false = sym bad ∙ good n refl in cc), λ h. left)
ended_by old new key key' PacketAuth over same (inl (bad, waiting, kept)) = absurd (let h : errors.PacketAuth ≡ errors.PacketSize bad.0 = bad.1 in cc)
ended_by old new key key' PacketAuth over same (inr (good, left)) = (over, left)
ended_by old new key key' DecryptionError over same (inl (bad, waiting, kept)) = absurd (let h : errors.DecryptionError ≡ errors.PacketSize bad.0 = bad.1 in cc)
ended_by old new key key' DecryptionError over same (inr (good, left)) = (over, left)
ended_by old new key key' IndexOutOfBounds over same (inl (bad, waiting, kept)) = absurd (let h : errors.IndexOutOfBounds ≡ errors.PacketSize bad.0 = bad.1 in cc)
ended_by old new key key' IndexOutOfBounds over same (inr (good, left)) = (over, left)

-- what is refused at the front is the end of the reader
pub ends_at : (old new : Reader) (key key' : Sealing) (error : OpenError) → old.failed ≡ false → RefusesBy (front_of key old.number old.waiting) error → IsOver old new → (new.waiting ≡ old.waiting → new ≡ record old { failed = true; handed = [] }) → LeavesFront key old.waiting new.waiting error key' → RefusesNext old key error × EndsAt old key key' error new
ends_at old new key key' error live refused over kept left =
    let same = refused.1 in (
      subst (RefusesNext old key) (sym same) (refused_by old key refused.0 live refused.2),
      subst (λ e. EndsAt old key key' e new) (sym same) (ended_by old new key key' refused.0 over kept (subst (λ e. LeavesFront key old.waiting new.waiting e key') same left)),
    )

-- none is want of memory
pub never_memory : (error : OpenError) → error_of error ≡ causes.Memory → ⊥
never_memory (errors.PacketSize n) h = let e : causes.PacketSize n ≡ causes.Memory = h in cc
never_memory errors.IndexOutOfBounds h = let e : causes.IndexOutOfBounds ≡ causes.Memory = h in cc
never_memory errors.PacketAuth h = let e : causes.PacketAuth ≡ causes.Memory = h in cc
never_memory errors.DecryptionError h = let e : causes.DecryptionError ≡ causes.Memory = h in cc
never_memory errors.Disconnect h = let e : causes.Disconnect ≡ causes.Memory = h in cc
