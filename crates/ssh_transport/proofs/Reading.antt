-- What a reader leaves where no packet is whole.
use Rattle.std.proofs.Common.{◌≡◌, ℕ, Option, Some, None, Result, Ok, IfSome, ap, subst}
use Rattle.ssh_packet.specs.Reading.{LeavesNext, Reader}
use Rattle.ssh_packet.specs.Sealing.{Sealing}
use Rattle.ssh_packet.specs.declared.error.OpenError.{OpenError}
use Rattle.ssh_packet.specs.declared.reader.Incoming.{Incoming}

pub none_count : (old new : Reader) (k k' : Sealing) (result : Result (Option Incoming) OpenError) (o : Option Incoming)
    → LeavesNext old k k' result new → result ≡ Ok o → o ≡ None → new.count ≡ old.count
none_count old new k k' result o h e f =
    let P : Result (Option Incoming) OpenError → Type 0 = λ r. LeavesNext old k k' r new in
    let Q : Option Incoming → Type 0 = λ x. LeavesNext old k k' (Ok x) new in
    ap (λ (r : Reader). r.count) (subst Q f (subst P e h)).2

pub some_of : (o : Option ℕ) (n : ℕ) (P : Type 0) → o ≡ Some n → IfSome o (λ x. P) → P
some_of o n P e h = subst (λ (x : Option ℕ). IfSome x (λ y. P)) e h
