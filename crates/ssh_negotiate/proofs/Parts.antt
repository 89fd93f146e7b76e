-- How the parts of a reading follow each other.
use Rattle.std.proofs.Common.{◌≡◌, ℕ, ◌<◌, ◌≤◌, ◌-◌, take, arith, Option, Some, None, List, [], ◌∷◌, map, length, drop, Bool, true, false, not, ◌||◌, ◌==◌, nat_lt, if◌then◌else◌, refl, sym, ap, subst, ◌∙◌, Result, Ok, Err, ◌⊎◌, inl, inr}
use Rattle.ssh_wire.specs.Fields.{answer_of, text_at, byte_at, u32_at}
use Rattle.ssh_wire.specs.declared.error.EncodingFault.{EncodingFault}
use Rattle.ssh_wire.specs.declared.error.EncodingFault.TheVariants.{TrailingData}
use Rattle.ssh_wire.specs.declared.error.Error.{Error}
use Rattle.ssh_wire.specs.declared.error.Error.TheVariants as errors
use Rattle.ssh_wire.specs.declared.side.Side.{Side}
use Rattle.ssh_mac.specs.declared.mac.Name as macs
use Rattle.ssh_packet.specs.declared.cipher.Name as ciphers
use Rattle.ssh_wire.specs.declared.error.AlgorithmKind.TheVariants.{Kex, Mac}
use Rattle.ssh_negotiate.specs.Advertised.{Offers, mac_text, is_foreign, host_names, offers_with}
use Rattle.ssh_negotiate.specs.Chosen.{◌>>=◌, mac_under, or_err, without_extensions}
use Rattle.ssh_negotiate.specs.Reading.{KexinitFault, Inconsistent, Encoding, NoCommon, AnswersReading, IsKindRefusal, common, field, at_end, read_rest, select, select_mac, compared_kex, both_strict, read_fields, names_read}
use Rattle.ssh_negotiate.specs.Parts.{RefusesReading, GivesFront, front_taken, with_lists, with_rest, hosts_part}
use Rattle.ssh_negotiate.specs.Preferences.{Preferences}
use Rattle.ssh_negotiate.specs.Tables.{kex_text}
use Rattle.ssh_negotiate.specs.declared.kex.Name as kexes
use Rattle.ssh_negotiate.specs.declared.negotiation.HostName.{HostName}
use Rattle.ssh_negotiate.specs.declared.preferred.HostKey.{HostKey}
use Rattle.ssh_negotiate.specs.declared.preferred.HostCertificate.{HostCertificate}
use Rattle.std.specs.Prelude.{filter}
use Rattle.std.proofs.lemmas.Bool.Decides.{nat_tests}
use Rattle.std.proofs.lemmas.Grind.{common_steps}
use Rattle.ssh_wire.specs.Names.{names_at}

-- ---- fields

-- a field was found
pub field_found : {X A : Type 0} (read : Result (X × List ℕ) EncodingFault) (then' : X → List ℕ → Result A KexinitFault) (x : X) (rest : List ℕ) → read ≡ Ok (x, rest) → field read then' ≡ then' x rest
unfolding field
field_found read then' x rest e = ap (λ r. field r then') e

-- a field was refused
pub field_refused : {X A : Type 0} (read : Result (X × List ℕ) EncodingFault) (then' : X → List ℕ → Result A KexinitFault) (error : Error) → answer_of read ≡ Err error → RefusesReading (field read then') error
unfolding field
field_refused (Ok x) then' error e = cc
field_refused (Err fault) then' error e = inr (Encoding fault, refl, (let h : errors.SshEncoding fault ≡ error = cc in sym h))

pub field_refused_in_memory : {X A : Type 0} (read : Result (X × List ℕ) EncodingFault) (then' : X → List ℕ → Result A KexinitFault) (error : Error) → (error ≡ errors.Memory) ⊎ (answer_of read ≡ Err error) → RefusesReading (field read then') error
field_refused_in_memory read then' error (inl memory) = inl memory
field_refused_in_memory read then' error (inr e) = field_refused read then' error e

-- ---- fields of which something is made

told : {A : Type 0} (p q : A) → (let r : Result A KexinitFault = Ok p in r) ≡ Ok q → p ≡ q
told p q f = cc

-- it was made
pub taken : {X A B : Type 0} (read : Result (X × List ℕ) EncodingFault) (made : X → Result A KexinitFault) (then' : A → List ℕ → Result B KexinitFault) (a : A) (rest : List ℕ) → front_taken read made with_rest ≡ Ok (a, rest) → front_taken read made then' ≡ then' a rest
unfolding field ◌>>=◌
taken {X} {A} {B} (Ok x) made then' a rest e = by (made x.0) e where
  by : (m : Result A KexinitFault) → (m >>= λ y. with_rest y x.1) ≡ Ok (a, rest) → (m >>= λ y. then' y x.1) ≡ then' a rest
  by (Ok y) f =
      let pair : (y, x.1) ≡ (a, rest) = told (y, x.1) (a, rest) f in
      ap (λ (p : A × List ℕ). then' p.0 p.1) pair
  by (Err fault) f = cc
taken (Err fault) made then' a rest e = cc

-- it was refused
pub refused : {X A B : Type 0} (read : Result (X × List ℕ) EncodingFault) (made : X → Result A KexinitFault) (then' : A → List ℕ → Result B KexinitFault) (error : Error) → RefusesReading (front_taken read made with_rest) error → RefusesReading (front_taken read made then') error
unfolding field ◌>>=◌
refused read made then' error (inl memory) = inl memory
refused {X} {A} {B} (Ok x) made then' error (inr h) = inr (h.0, by (made x.0) h.1, h.2) where
  by : (m : Result A KexinitFault) → (m >>= λ y. with_rest y x.1) ≡ Err h.0 → (m >>= λ y. then' y x.1) ≡ Err h.0
  by (Ok y) f = cc
  by (Err fault) f = let k : fault ≡ h.0 = cc in ap (λ d. Err d) k
refused (Err fault) made then' error (inr h) = inr (h.0, (let k : Encoding fault ≡ h.0 = cc in ap (λ d. Err d) k), h.2)

-- a list was read, and a choice was made of it
pub list_taken : {X A : Type 0} (read : Result (X × List ℕ) EncodingFault) (made : X → Result A KexinitFault) (x : X) (rest : List ℕ) (result : Result A Error) → read ≡ Ok (x, rest) → AnswersReading (made x) result → GivesFront (front_taken read made with_rest) result rest
unfolding field ◌>>=◌
list_taken read made x rest (Ok a) e h = ap (λ r. field r (λ y behind. made y >>= λ b. with_rest b behind)) e ∙ ap (λ m. m >>= λ b. with_rest b rest) h
list_taken read made x rest (Err error) e (inl memory) = inl memory
list_taken read made x rest (Err error) e (inr h) = inr (h.0, ap (λ r. field r (λ y behind. made y >>= λ b. with_rest b behind)) e ∙ ap (λ m. m >>= λ b. with_rest b rest) h.1, h.2)

-- ---- the whole

-- what was given is given of an equal reading
pub given : {A : Type 0} (r q : Result A KexinitFault) (result : Result A Error) → r ≡ q → AnswersReading r result → AnswersReading q result
given r q result e h = subst (λ x. AnswersReading x result) e h

-- ---- the end

pub end_read : {A : Type 0} (bytes : List ℕ) (x : A) → bytes ≡ [] → at_end bytes x ≡ Ok x
end_read bytes x e = ap (λ b. at_end b x) e

-- of what is read behind the lists, the guess alone counts
pub guess_read : {A : Type 0} (bytes : List ℕ) (names : Bool → A) (follows : Bool) → read_rest bytes (λ b. b) ≡ Ok follows → read_rest bytes names ≡ Ok (names follows)
unfolding read_rest field
guess_read {A} bytes names follows e = one (text_at bytes) e where
  four : (u : List ℕ) (f : Bool) → at_end u f ≡ Ok follows → at_end u (names f) ≡ Ok (names follows)
  four [] f h = let k : f ≡ follows = cc in ap (λ b. Ok (names b)) k
  four (b ∷ u) f h = cc

  three : (f : Bool) (r : Result (ℕ × List ℕ) EncodingFault) → field r (λ _ u. at_end u f) ≡ Ok follows → field r (λ _ u. at_end u (names f)) ≡ Ok (names follows)
  three f (Ok x) h = four x.1 f h
  three f (Err d) h = cc

  two : (r : Result (ℕ × List ℕ) EncodingFault) → field r (λ b t. field (u32_at t) λ _ u. at_end u (not (b == 0))) ≡ Ok follows → field r (λ b t. field (u32_at t) λ _ u. at_end u (names (not (b == 0)))) ≡ Ok (names follows)
  two (Ok x) h = three (not (x.0 == 0)) (u32_at x.1) h
  two (Err d) h = cc

  second : (r : Result (List ℕ × List ℕ) EncodingFault) → field r (λ _ s. field (byte_at s) λ b t. field (u32_at t) λ _ u. at_end u (not (b == 0))) ≡ Ok follows → field r (λ _ s. field (byte_at s) λ b t. field (u32_at t) λ _ u. at_end u (names (not (b == 0)))) ≡ Ok (names follows)
  second (Ok x) h = two (byte_at x.1) h
  second (Err d) h = cc

  one : (r : Result (List ℕ × List ℕ) EncodingFault) → field r (λ _ q. field (text_at q) λ _ s. field (byte_at s) λ b t. field (u32_at t) λ _ u. at_end u (not (b == 0))) ≡ Ok follows → field r (λ _ q. field (text_at q) λ _ s. field (byte_at s) λ b t. field (u32_at t) λ _ u. at_end u (names (not (b == 0)))) ≡ Ok (names follows)
  one (Ok x) h = second (text_at x.1) h
  one (Err d) h = cc

pub guess_refused : {A : Type 0} (bytes : List ℕ) (names : Bool → A) (error : Error) → RefusesReading (read_rest bytes (λ b. b)) error → RefusesReading (read_rest bytes names) error
unfolding read_rest field
guess_refused bytes names error (inl memory) = inl memory
guess_refused {A} bytes names error (inr h) = inr (h.0, one (text_at bytes) h.1, h.2) where
  four : (u : List ℕ) (f : Bool) → at_end u f ≡ Err h.0 → at_end u (names f) ≡ Err h.0
  four [] f e = cc
  four (b ∷ u) f e = let k : Encoding TrailingData ≡ h.0 = cc in ap (λ d. Err d) k

  wrong : (d : EncodingFault) → (let r : Result Bool KexinitFault = Err (Encoding d) in r) ≡ Err h.0 → (let r : Result A KexinitFault = Err (Encoding d) in r) ≡ Err h.0
  wrong d e = let k : Encoding d ≡ h.0 = cc in ap (λ d. Err d) k

  three : (f : Bool) (r : Result (ℕ × List ℕ) EncodingFault) → field r (λ _ u. at_end u f) ≡ Err h.0 → field r (λ _ u. at_end u (names f)) ≡ Err h.0
  three f (Ok x) e = four x.1 f e
  three f (Err d) e = wrong d e

  two : (r : Result (ℕ × List ℕ) EncodingFault) → field r (λ b t. field (u32_at t) λ _ u. at_end u (not (b == 0))) ≡ Err h.0 → field r (λ b t. field (u32_at t) λ _ u. at_end u (names (not (b == 0)))) ≡ Err h.0
  two (Ok x) e = three (not (x.0 == 0)) (u32_at x.1) e
  two (Err d) e = wrong d e

  second : (r : Result (List ℕ × List ℕ) EncodingFault) → field r (λ _ s. field (byte_at s) λ b t. field (u32_at t) λ _ u. at_end u (not (b == 0))) ≡ Err h.0 → field r (λ _ s. field (byte_at s) λ b t. field (u32_at t) λ _ u. at_end u (names (not (b == 0)))) ≡ Err h.0
  second (Ok x) e = two (byte_at x.1) e
  second (Err d) e = wrong d e

  one : (r : Result (List ℕ × List ℕ) EncodingFault) → field r (λ _ q. field (text_at q) λ _ s. field (byte_at s) λ b t. field (u32_at t) λ _ u. at_end u (not (b == 0))) ≡ Err h.0 → field r (λ _ q. field (text_at q) λ _ s. field (byte_at s) λ b t. field (u32_at t) λ _ u. at_end u (names (not (b == 0)))) ≡ Err h.0
  one (Ok x) e = second (text_at x.1) e
  one (Err d) e = wrong d e

-- ---- answers

-- a refusal is given
pub gives_err : {A : Type 0} (read : Result A KexinitFault) (r : Result A Error) (e error : Error) → r ≡ Err e → e ≡ error → RefusesReading read error → AnswersReading read r
gives_err read r e error p q h = subst (λ x. AnswersReading read x) (sym (p ∙ ap (λ d. Err d) q)) h

pub front_err : {A : Type 0} (read : Result (A × List ℕ) KexinitFault) (r : Result A Error) (new : List ℕ) (e error : Error) → r ≡ Err e → e ≡ error → RefusesReading read error → GivesFront read r new
front_err read r new e error p q h = subst (λ x. GivesFront read x new) (sym (p ∙ ap (λ d. Err d) q)) h

-- a refusal of an equal reading
pub refused_too : {A : Type 0} (r q : Result A KexinitFault) (error : Error) → r ≡ q → RefusesReading q error → RefusesReading r error
refused_too r q error e h = subst (λ x. RefusesReading x error) (sym e) h

-- ---- a guess at the end, step by step

abbrev tail3 : ℕ → List ℕ → Result Bool KexinitFault
tail3 n t = field (u32_at t) λ _ u. at_end u (not (n == 0))

abbrev tail2 : List ℕ → Result Bool KexinitFault
tail2 s = field (byte_at s) λ n t. tail3 n t

abbrev tail1 : List ℕ → Result Bool KexinitFault
tail1 r = field (text_at r) λ _ s. tail2 s

one_text : (b x r : List ℕ) → text_at b ≡ Ok (x, r) → read_rest b (λ f. f) ≡ tail1 r
unfolding read_rest
one_text b x r e = field_found (text_at b) (λ _ q. tail1 q) x r e

two_texts : (b x r y s : List ℕ) → text_at b ≡ Ok (x, r) → text_at r ≡ Ok (y, s) → read_rest b (λ f. f) ≡ tail2 s
two_texts b x r y s e f = one_text b x r e ∙ field_found (text_at r) (λ _ q. tail2 q) y s f

a_byte : (b x r y s : List ℕ) (n : ℕ) (t : List ℕ) → text_at b ≡ Ok (x, r) → text_at r ≡ Ok (y, s) → byte_at s ≡ Ok (n, t) → read_rest b (λ f. f) ≡ tail3 n t
a_byte b x r y s n t e f g = two_texts b x r y s e f ∙ field_found (byte_at s) tail3 n t g

a_number : (b x r y s : List ℕ) (n : ℕ) (t : List ℕ) (m : ℕ) (u : List ℕ) → text_at b ≡ Ok (x, r) → text_at r ≡ Ok (y, s) → byte_at s ≡ Ok (n, t) → u32_at t ≡ Ok (m, u) → read_rest b (λ f. f) ≡ at_end u (not (n == 0))
a_number b x r y s n t m u e f g h = a_byte b x r y s n t e f g ∙ field_found (u32_at t) (λ _ q. at_end q (not (n == 0))) m u h

pub no_text : (b : List ℕ) (error : Error) → answer_of (text_at b) ≡ Err error → RefusesReading (read_rest b (λ f. f)) error
unfolding read_rest
no_text b error h = field_refused (text_at b) (λ _ q. tail1 q) error h

pub no_second : (b x r : List ℕ) (error : Error) → text_at b ≡ Ok (x, r) → answer_of (text_at r) ≡ Err error → RefusesReading (read_rest b (λ f. f)) error
no_second b x r error e h = refused_too _ _ error (one_text b x r e) (field_refused (text_at r) (λ _ q. tail2 q) error h)

pub no_byte : (b x r y s : List ℕ) (error : Error) → text_at b ≡ Ok (x, r) → text_at r ≡ Ok (y, s) → answer_of (byte_at s) ≡ Err error → RefusesReading (read_rest b (λ f. f)) error
no_byte b x r y s error e f h = refused_too _ _ error (two_texts b x r y s e f) (field_refused (byte_at s) tail3 error h)

pub no_number : (b x r y s : List ℕ) (n : ℕ) (t : List ℕ) (error : Error) → text_at b ≡ Ok (x, r) → text_at r ≡ Ok (y, s) → byte_at s ≡ Ok (n, t) → answer_of (u32_at t) ≡ Err error → RefusesReading (read_rest b (λ f. f)) error
no_number b x r y s n t error e f g h = refused_too _ _ error (a_byte b x r y s n t e f g) (field_refused (u32_at t) (λ _ q. at_end q (not (n == 0))) error h)

some_left : (u : List ℕ) (f : Bool) → 0 < length u → at_end u f ≡ Err (Encoding TrailingData)
some_left [] f h = absurd (omega arith)
some_left (b ∷ u) f h = refl

pub no_end : (b x r y s : List ℕ) (n : ℕ) (t : List ℕ) (m : ℕ) (u : List ℕ) (error : Error) → text_at b ≡ Ok (x, r) → text_at r ≡ Ok (y, s) → byte_at s ≡ Ok (n, t) → u32_at t ≡ Ok (m, u) → error ≡ errors.SshEncoding TrailingData → 0 < length u → RefusesReading (read_rest b (λ f. f)) error
no_end b x r y s n t m u error e f g h is left = inr (Encoding TrailingData, a_number b x r y s n t m u e f g h ∙ some_left u (not (n == 0)) left, is)

pub at_the_end : (b x r y s : List ℕ) (n : ℕ) (t : List ℕ) (m : ℕ) (u : List ℕ) → text_at b ≡ Ok (x, r) → text_at r ≡ Ok (y, s) → byte_at s ≡ Ok (n, t) → u32_at t ≡ Ok (m, u) → u ≡ [] → read_rest b (λ f. f) ≡ Ok (not (n == 0))
at_the_end b x r y s n t m u e f g h k = a_number b x r y s n t m u e f g h ∙ end_read u (not (n == 0)) k

-- ---- a choice of MACs

pub mac_some : (side : Side) (over : ciphers.Name) (own : List macs.Name) (peer : List (List ℕ)) (mac : macs.Name) → Some mac ≡ mac_under over (common mac_text side own peer) → select_mac side over own peer ≡ Ok mac
unfolding or_err
mac_some side over own peer mac e = ap (or_err (NoCommon Mac (map mac_text own) peer)) (sym e)

mac_none : (side : Side) (over : ciphers.Name) (own : List macs.Name) (peer : List (List ℕ)) → None ≡ mac_under over (common mac_text side own peer) → select_mac side over own peer ≡ Err (NoCommon Mac (map mac_text own) peer)
unfolding or_err
mac_none side over own peer e = ap (or_err (NoCommon Mac (map mac_text own) peer)) (sym e)

pub mac_refused : (side : Side) (over : ciphers.Name) (own : List macs.Name) (peer : List (List ℕ)) (error : Error) → None ≡ mac_under over (common mac_text side own peer) → IsKindRefusal Mac (map mac_text own) peer error → AnswersReading (select_mac side over own peer) (Err error)
mac_refused side over own peer error e (inl memory) = inl memory
mac_refused side over own peer error e (inr answer) = inr (NoCommon Mac (map mac_text own) peer, mac_none side over own peer e, answer)

-- ---- the list of key exchanges, and the front

pub no_list : (side : Side) (p : Preferences) (kex : List kexes.Name) (hosts : List HostName) (still : Bool) (bytes : List ℕ) (error : Error) → (error ≡ errors.Memory) ⊎ (answer_of (names_at bytes) ≡ Err error) → RefusesReading (read_fields side (with_lists p kex hosts) still bytes) error
unfolding read_fields
no_list side p kex hosts still bytes error h = field_refused_in_memory (names_at bytes) _ error h

no_choice_of : {A B : Type 0} (m : Result A KexinitFault) (then' : A → Result B KexinitFault) (error : Error) → RefusesReading m error → RefusesReading (m >>= then') error
unfolding ◌>>=◌
no_choice_of m then' error (inl memory) = inl memory
no_choice_of m then' error (inr h) = inr (h.0, ap (λ x. x >>= then') h.1, h.2)

pub no_choice : (side : Side) (p : Preferences) (kex : List kexes.Name) (hosts : List HostName) (still : Bool) (bytes : List ℕ) (list : List (List ℕ)) (rest : List ℕ) (error : Error) → names_at bytes ≡ Ok (list, rest) → RefusesReading (select kex_text side Kex (without_extensions kex) (compared_kex list)) error → RefusesReading (read_fields side (with_lists p kex hosts) still bytes) error
unfolding read_fields
no_choice side p kex hosts still bytes list rest error e h = refused_too _ _ error (field_found (names_at bytes) _ list rest e) (no_choice_of (select kex_text side Kex (without_extensions kex) (compared_kex list)) _ error h)

chosen_first : {A B : Type 0} (m : Result A KexinitFault) (then' : A → Result B KexinitFault) (a : A) → m ≡ Ok a → (m >>= then') ≡ then' a
unfolding ◌>>=◌
chosen_first m then' a e = ap (λ x. x >>= then') e

pub fields_read : (side : Side) (p : Preferences) (kex : List kexes.Name) (hosts : List HostName) (still : Bool) (bytes : List ℕ) (list : List (List ℕ)) (rest : List ℕ) (choice : Bool × kexes.Name) → names_at bytes ≡ Ok (list, rest) → select kex_text side Kex (without_extensions kex) (compared_kex list) ≡ Ok choice → read_fields side (with_lists p kex hosts) still bytes ≡ hosts_part side p hosts choice (still || both_strict side (with_lists p kex hosts) list) rest
unfolding read_fields
fields_read side p kex hosts still bytes list rest choice e f = field_found (names_at bytes) _ list rest e ∙ chosen_first (select kex_text side Kex (without_extensions kex) (compared_kex list)) _ choice f

pub front_short : (side : Side) (own : Offers) (still : Bool) (payload : List ℕ) → length payload < 17 → RefusesReading (names_read side own still payload) errors.Inconsistent
unfolding names_read
front_short side own still payload h =
    let short : nat_lt (length payload) 17 ≡ true = grind (arith, nat_tests) in
    inr (Inconsistent, ap (λ b. if b then Err Inconsistent else read_fields side own still (drop 17 payload)) short, refl)

pub front_long : (side : Side) (own : Offers) (still : Bool) (payload : List ℕ) → 17 ≤ length payload → names_read side own still payload ≡ read_fields side own still (drop 17 payload)
unfolding names_read
front_long side own still payload h =
    let long : nat_lt (length payload) 17 ≡ false = grind (arith, nat_tests) in
    ap (λ b. if b then Err Inconsistent else read_fields side own still (drop 17 payload)) long

pub lists_are : (side : Side) (p : Preferences) (keys : Option (List HostKey)) (certificates : Option (List HostCertificate)) (kex : List kexes.Name) (hosts : List HostName) → kex ≡ filter (λ n. not (is_foreign side n)) p.kex → hosts ≡ host_names side p keys certificates → with_lists p kex hosts ≡ offers_with side p keys certificates
unfolding offers_with
lists_are side p keys certificates kex hosts e f = ap (λ l. with_lists p l hosts) e ∙ ap (λ l. with_lists p (filter (λ n. not (is_foreign side n)) p.kex) l) f

-- what stands behind the first n
pub behind : (n : ℕ) (bytes : List ℕ) → take (length bytes - n) (drop n bytes) ≡ drop n bytes
behind n bytes = grind (arith, common_steps)
