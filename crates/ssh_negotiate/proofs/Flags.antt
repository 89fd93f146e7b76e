-- What every reading of a KEXINIT leaves in its flags.
use Rattle.std.proofs.Common.{◌≡◌, ℕ, List, [], ◌∷◌, length, drop, refl, sym, ◌∙◌, ap, Bool, true, false, if◌then◌else◌, Ok, Err, ◌||◌}
use Rattle.std.specs.Prelude.{Result, nat_lt, not, ◌==◌}
use Rattle.ssh_wire.specs.Fields.{byte_at, u32_at, text_at}
use Rattle.ssh_wire.specs.Names.{names_at}
use Rattle.ssh_wire.specs.declared.error.EncodingFault.{EncodingFault}
use Rattle.ssh_wire.specs.declared.side.Side.{Side}
use Rattle.ssh_negotiate.specs.Advertised.{Offers}
use Rattle.ssh_negotiate.specs.Chosen.{◌>>=◌}
use Rattle.ssh_negotiate.specs.Laws.{FollowsNone, KeepsFlags, ReadFlags, ReadsAlike, but_strict}
use Rattle.ssh_negotiate.specs.Reading.{KexinitFault, Inconsistent, field, at_end, read_rest, read_fields, names_read}
use Rattle.ssh_negotiate.specs.declared.negotiation.Names.{Names}
use Rattle.ssh_negotiate.proofs.Picked.{bind_ok, field_ok, rest_ok}
use Rattle.ssh_negotiate.proofs.Written.{by_lists, read_written}

or_true : (a b : Bool) → a ≡ true → (a || b) ≡ true
or_true true b e = refl
or_true false b e = cc

fields_flags : (side : Side) (own : Offers) (still : Bool) (bytes : List ℕ) (n : Names) → read_fields side own still bytes ≡ Ok n → KeepsFlags still n
unfolding read_fields
fields_flags side own still bytes n e =
    let a = field_ok (names_at bytes) _ n e in
    let b = bind_ok _ _ n a.1 in
    let c = field_ok _ _ n b.2 in
    let d = bind_ok _ _ n c.1 in
    let f = field_ok _ _ n d.2 in
    let g = bind_ok _ _ n f.1 in
    let h = field_ok _ _ n g.2 in
    let i = field_ok _ _ n h.1 in
    let j = bind_ok _ _ n i.1 in
    let k = field_ok _ _ n j.2 in
    let l = bind_ok _ _ n k.1 in
    let m = field_ok _ _ n l.2 in
    let o = bind_ok _ _ n m.1 in
    let p = field_ok _ _ n o.2 in
    let q = bind_ok _ _ n p.1 in
    let r = rest_ok _ _ n q.2 in
    record { unmarked = ap (λ (x : Names). x.guessed_ignored) (sym r.1); strict = λ s. ap (λ (x : Names). x.strict_kex) (sym r.1) ∙ or_true still _ s }

pub read_flags : ReadFlags
unfolding names_read
read_flags side own still payload n e = by_test (nat_lt (length payload) 17) e where
  by_test : (t : Bool) → (if t then Err Inconsistent else read_fields side own still (drop 17 payload)) ≡ Ok n → KeepsFlags still n
  by_test true e = cc
  by_test false e = fields_flags side own still (drop 17 payload) n e

-- ---- no guess stands in what a peer of this crate writes

unfoldable pub ok_is : Names → Result Names KexinitFault
ok_is m = Ok m

last_follows : (m n : Names) → ok_is m ≡ Ok n → m.ignore_guessed ≡ false → n.ignore_guessed ≡ false
unfolding ok_is
last_follows m n e f = let g : m ≡ n = cc in ap (λ (q : Names). q.ignore_guessed) (sym g) ∙ f

lists_follow : (side : Side) (own : Offers) (still : Bool) (peer : Offers) (n : Names) → by_lists side own still peer ≡ Ok n → n.ignore_guessed ≡ false
unfolding by_lists ok_is
lists_follow side own still peer n e =
    let a = bind_ok _ _ n e in
    let b = bind_ok _ _ n a.2 in
    let c = bind_ok _ _ n b.2 in
    let d = bind_ok _ _ n c.2 in
    let f = bind_ok _ _ n d.2 in
    let g = bind_ok _ _ n f.2 in
    let h = bind_ok _ _ n g.2 in
    last_follows _ n h.2 refl

pub follows_none : FollowsNone
follows_none side own peer still cookie n l within e = lists_follow side own still peer n (sym (read_written side own still peer cookie within l) ∙ e)

-- ---- what is read doesn't hang on what was strict before, but for the strict flag itself

bind_alike : {A : Type 0} (x : Result A KexinitFault) (f g : A → Result Names KexinitFault) → ((a : A) → but_strict (f a) ≡ but_strict (g a)) → but_strict (x >>= f) ≡ but_strict (x >>= g)
unfolding ◌>>=◌
bind_alike (Ok a) f g h = h a
bind_alike (Err r) f g h = refl

field_alike : {X : Type 0} (r : Result (X × List ℕ) EncodingFault) (f g : X → List ℕ → Result Names KexinitFault) → ((x : X) (b : List ℕ) → but_strict (f x b) ≡ but_strict (g x b)) → but_strict (field r f) ≡ but_strict (field r g)
unfolding field
field_alike (Ok p) f g h = h p.0 p.1
field_alike (Err d) f g h = refl

end_alike : (bytes : List ℕ) (x y : Names) → but_strict (Ok x) ≡ but_strict (Ok y) → but_strict (at_end bytes x) ≡ but_strict (at_end bytes y)
end_alike [] x y h = h
end_alike (b ∷ bytes) x y h = refl

rest_alike : (bytes : List ℕ) (f g : Bool → Names) → ((b : Bool) → but_strict (Ok (f b)) ≡ but_strict (Ok (g b))) → but_strict (read_rest bytes f) ≡ but_strict (read_rest bytes g)
unfolding read_rest
rest_alike bytes f g h = field_alike (text_at bytes) _ _ (λ a r. field_alike (text_at r) _ _ (λ b s. field_alike (byte_at s) _ _ (λ c t. field_alike (u32_at t) _ _ (λ d u. end_alike u _ _ (h (not (c == 0)))))))

fields_alike : (side : Side) (own : Offers) (b c : Bool) (bytes : List ℕ) → but_strict (read_fields side own b bytes) ≡ but_strict (read_fields side own c bytes)
unfolding read_fields
fields_alike side own b c bytes =
    field_alike _ _ _ (λ l1 r1. bind_alike _ _ _ (λ kex.
    field_alike _ _ _ (λ l2 r2. bind_alike _ _ _ (λ host.
    field_alike _ _ _ (λ l3 r3. bind_alike _ _ _ (λ cipher.
    field_alike _ _ _ (λ l4 r4.
    field_alike _ _ _ (λ l5 r5. bind_alike _ _ _ (λ client_mac.
    field_alike _ _ _ (λ l6 r6. bind_alike _ _ _ (λ server_mac.
    field_alike _ _ _ (λ l7 r7. bind_alike _ _ _ (λ one.
    field_alike _ _ _ (λ l8 r8. bind_alike _ _ _ (λ two.
    rest_alike _ _ _ (λ f. refl))))))))))))))))

pub reads_alike : ReadsAlike
unfolding names_read
reads_alike side own b c payload = by_test (nat_lt (length payload) 17) where
  by_test : (t : Bool) → but_strict (if t then Err Inconsistent else read_fields side own b (drop 17 payload)) ≡ but_strict (if t then Err Inconsistent else read_fields side own c (drop 17 payload))
  by_test true = refl
  by_test false = fields_alike side own b c (drop 17 payload)
