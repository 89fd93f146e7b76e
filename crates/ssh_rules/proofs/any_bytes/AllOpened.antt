-- All that can be opened of some bytes: of any bytes there is such a list, and a refused packet stands in it behind
-- those that were handled.
use Rattle.std.proofs.Common.{◌≡◌, ℕ, zero, suc, ◌≤◌, List, [], ◌∷◌, ◌++◌, length, drop, map, refl, sym, ◌∙◌, ap, subst, arith, Option, Some, None, Bool, true, false, append-nil, append_assoc, length-append}
use Rattle.ssh_packet.specs.Front.{Front, Unfinished, Refused, Whole, front_of}
use Rattle.ssh_packet.specs.Sealing.{Item, next_number}
use Rattle.ssh_packet.specs.Stream.{Opening, Place, ReadsBy, IsEnd, first_place, next_place, packet_at, place_by, place_behind_by}
use Rattle.ssh_packet.proofs.Lemmas.{front_sound, length_sealed}
use Rattle.ssh_wire.specs.Forms.{AreBytes}
use Rattle.ssh_wire.specs.Sides.{other_side}
use Rattle.ssh_wire.specs.declared.side.Side.{Side}
use Rattle.ssh_wire.proofs.Lemmas.{AreBytes-drop}
use Rattle.ssh_kex.specs.Exchange.{outgoing}
use Rattle.ssh_kex.specs.Setting.{Says}
use Rattle.ssh_kex.specs.declared.config.Config.{Config}
use Rattle.ssh_kex.specs.declared.exchange.FinishedExchange.{FinishedExchange}
use Rattle.ssh_rules.specs.Guess.{ends_epoch}
use Rattle.ssh_rules.specs.Handled.{AllRead, AtPacket, EndsInPart, Handled}
use Rattle.ssh_rules.specs.Log.{handled, read_bytes, recorded}
use Rattle.ssh_rules.specs.Machine.{Event, SideState, Steps, first_state}
use Rattle.ssh_rules.proofs.any_bytes.Guessing.{fault_ends, part_ends}
use Rattle.ssh_rules.proofs.pair.IdLines.{drop_line}
use Rattle.ssh_rules.proofs.side.Places.{place_of}
use Rattle.ssh_rules.proofs.any_bytes.RunHandled.{handled_by, handled_place}

-- ---- of any bytes, from any place

pub record OpensAll (E : List Item → Item → Bool) (before : List Item) (at : Option Place) (bytes : List ℕ) : Type 0 where
  pub items : List Item
  pub rest : List ℕ
  pub reads : ReadsBy E before at items bytes rest
  pub no_more : IsEnd (place_behind_by E before at items) rest

by_front : (E : List Item → Item → Bool) (before : List Item) (at : Place) (bytes : List ℕ) → AreBytes bytes → ((i : Item) (more : List ℕ) → bytes ≡ packet_at at i ++ more → OpensAll E (before ++ i ∷ []) (place_by (E before i) at i) more) → (f : Front) → front_of at.sealing at.number bytes ≡ f → OpensAll E before (Some at) bytes
by_front E before at bytes b go Unfinished e = record { items = []; rest = bytes; reads = refl; no_more = part_ends at bytes e }
by_front E before at bytes b go (Refused fault) e = record { items = []; rest = bytes; reads = refl; no_more = fault_ends at bytes fault e }
by_front E before at bytes b go (Whole i more) e =
    let s = front_sound at.sealing at.number bytes more i b e in
    let r = go i more s.bytes_are in
    record { items = i ∷ r.items; rest = r.rest; reads = (more, s.admissible, s.bytes_are, r.reads); no_more = r.no_more }

tail_bytes : (p more bytes : List ℕ) → bytes ≡ p ++ more → AreBytes bytes → AreBytes more
tail_bytes p more bytes e b = subst (λ (q : List ℕ). AreBytes q) (ap (drop (length p)) e ∙ drop_line p more) (AreBytes-drop (length p) bytes b)

pub opens_all : (n : ℕ) (E : List Item → Item → Bool) (before : List Item) (at : Option Place) (bytes : List ℕ) → length bytes ≤ n → AreBytes bytes → OpensAll E before at bytes
opens_all n E before None bytes l b = record { items = []; rest = bytes; reads = refl; no_more = tt }
opens_all zero E before (Some at) bytes l b =
    by_front E before at bytes b (λ i more e. absurd (let z = ap length e in let y = length-append (packet_at at i) more in let x = length_sealed at.sealing at.number i in omega (arith, l, z, y, x))) (front_of at.sealing at.number bytes) refl
opens_all (suc n) E before (Some at) bytes l b =
    by_front E before at bytes b (λ i more e.
    let shorter : length more ≤ n = (let z = ap length e in let y = length-append (packet_at at i) more in let x = length_sealed at.sealing at.number i in omega (arith, l, z, y, x)) in
    opens_all n E (before ++ i ∷ []) (place_by (E before i) at i) more shorter (tail_bytes (packet_at at i) more bytes e b)) (front_of at.sealing at.number bytes) refl

-- ---- readings one after the other

pub reads_on : (E : List Item → Item → Bool) (before : List Item) (at : Option Place) (a b : List Item) (bytes mid rest : List ℕ) → ReadsBy E before at a bytes mid → ReadsBy E (before ++ a) (place_behind_by E before at a) b mid rest → ReadsBy E before at (a ++ b) bytes rest
reads_on E before at [] b bytes mid rest r s = subst (λ q. ReadsBy E before at b q rest) (sym r) (subst (λ q. ReadsBy E q at b mid rest) (append-nil before) s)
reads_on E before None (i ∷ a) b bytes mid rest r s = absurd r
reads_on E before (Some at) (i ∷ a) b bytes mid rest r s =
    (r.0, r.1, r.2, reads_on E (before ++ i ∷ []) (place_by (E before i) at i) a b r.0 mid rest r.3 (subst (λ q. ReadsBy E q (place_behind_by E (before ++ i ∷ []) (place_by (E before i) at i) a) b mid rest) (sym (append_assoc before (i ∷ []) a)) s))

pub behind_on : (E : List Item → Item → Bool) (before : List Item) (at : Option Place) (a b : List Item) → place_behind_by E before at (a ++ b) ≡ place_behind_by E (before ++ a) (place_behind_by E before at a) b
behind_on E before at [] b = ap (λ q. place_behind_by E q at b) (sym (append-nil before))
behind_on E before None (i ∷ a) b = sym (behind_none E (before ++ i ∷ a) b) where
  behind_none : (E : List Item → Item → Bool) (before : List Item) (b : List Item) → place_behind_by E before None b ≡ None
  behind_none E before [] = refl
  behind_none E before (j ∷ b) = refl
behind_on E before (Some at) (i ∷ a) b = behind_on E (before ++ i ∷ []) (place_by (E before i) at i) a b ∙ ap (λ q. place_behind_by E q (place_behind_by E (before ++ i ∷ []) (place_by (E before i) at i) a) b) (append_assoc before (i ∷ []) a)

-- ---- of a run: the refused packet stands next of all that can be opened

pub run_refused : (says : Says) (side : Side) (config : Config) (own_id : List ℕ) (log : List Event) (st : SideState) (bytes left rest : List ℕ) (i : Item) → AreBytes left → Steps says side config own_id first_state log st → bytes ≡ read_bytes side first_state.reading log ++ left → front_of st.reading.sealing st.reading.number left ≡ Whole i rest → Handled side config (recorded log) bytes (handled log) (AtPacket i)
run_refused says side config own_id log st bytes left rest i b h e next =
    let E = ends_epoch side config in
    let here = place_of st.reading [] in
    let at = handled_place says side config own_id log st h in
    let s = front_sound st.reading.sealing st.reading.number left rest i b next in
    let more = opens_all (length rest) (ends_epoch side config) (handled log ++ i ∷ []) (place_by (ends_epoch side config (handled log) i) (place_of st.reading []) i) rest (omega arith) (tail_bytes (packet_at (place_of st.reading []) i) rest left s.bytes_are b) in
    let read : ReadsBy (ends_epoch side config) (handled log) (Some (place_of st.reading [])) (i ∷ more.items) left more.rest = (rest, s.admissible, s.bytes_are, more.reads) in
    record {
      opened = handled log ++ i ∷ more.items;
      rest = more.rest;
      entries = record {
        reads = reads_on (ends_epoch side config) [] (Some (first_place (map (outgoing (other_side side)) (recorded log)))) (handled log) (i ∷ more.items) bytes left more.rest (handled_by says side config own_id log st bytes left h e)
            (subst (λ p. ReadsBy (ends_epoch side config) (handled log) p (i ∷ more.items) left more.rest) (sym at) read);
        no_more = subst (λ p. IsEnd p more.rest) (sym (behind_on (ends_epoch side config) [] (Some (first_place (map (outgoing (other_side side)) (recorded log)))) (handled log) (i ∷ more.items) ∙ ap (λ p. place_behind_by (ends_epoch side config) (handled log) p (i ∷ more.items)) at)) more.no_more;
      };
      ending_is = (more.items, append_assoc (handled log) (i ∷ []) more.items);
    }

-- ---- more exchanges than were recorded so far

abbrev pub wider : Place → List Opening → Place
wider p more = record p { openings = p.openings ++ more }

-- behind one packet the place is as before, with more openings, or there was none
abbrev IsWider : Option Place → Option Place → List Opening → Type 0
IsWider None q more = Unit {0}
IsWider (Some p) q more = q ≡ Some (record p { openings = p.openings ++ more })

wider_next : (b : Bool) (p : Place) (i : Item) (more : List Opening) → IsWider (place_by b p i) (place_by b (wider p more) i) more
wider_next true p i more = by p.openings refl where
  by : (os : List Opening) → p.openings ≡ os → IsWider (next_place p.openings (next_number p.number)) (next_place (p.openings ++ more) (next_number p.number)) more
  by [] e = subst (λ q. IsWider (next_place q (next_number p.number)) (next_place (q ++ more) (next_number p.number)) more) (sym e) tt
  by (o ∷ os) e = subst (λ q. IsWider (next_place q (next_number p.number)) (next_place (q ++ more) (next_number p.number)) more) (sym e) refl
wider_next false p i more = refl

pub reads_wider : (E : List Item → Item → Bool) (before : List Item) (p : Place) (more : List Opening) (items : List Item) (bytes rest : List ℕ) → ReadsBy E before (Some p) items bytes rest → ReadsBy E before (Some (wider p more)) items bytes rest
reads_wider E before p more [] bytes rest h = h
reads_wider E before p more (i ∷ items) bytes rest h = (h.0, h.1, h.2, go items (place_by (E before i) p i) (place_by (E before i) (wider p more) i) (wider_next (E before i) p i more) h.3 (λ q r. reads_wider E (before ++ i ∷ []) q more items h.0 rest r)) where
  go : (items : List Item) (q r : Option Place) → IsWider q r more → ReadsBy E (before ++ i ∷ []) q items h.0 rest → ((s : Place) → ReadsBy E (before ++ i ∷ []) (Some s) items h.0 rest → ReadsBy E (before ++ i ∷ []) (Some (wider s more)) items h.0 rest) → ReadsBy E (before ++ i ∷ []) r items h.0 rest
  go [] None r w k f = k
  go (j ∷ js) None r w k f = absurd k
  go js (Some s) r w k f = subst (λ x. ReadsBy E (before ++ i ∷ []) x js h.0 rest) (sym w) (f s k)

pub behind_wider : (E : List Item → Item → Bool) (before : List Item) (p q : Place) (more : List Opening) (items : List Item) → place_behind_by E before (Some p) items ≡ Some q → place_behind_by E before (Some (wider p more)) items ≡ Some (wider q more)
behind_wider E before p q more [] e = (let f : p ≡ q = cc in ap (λ (x : Place). Some (wider x more)) f)
behind_wider E before p q more (i ∷ items) e = go items (place_by (E before i) p i) (place_by (E before i) (wider p more) i) (wider_next (E before i) p i more) e (λ s r. behind_wider E (before ++ i ∷ []) s q more items r) where
  go : (items : List Item) (s r : Option Place) → IsWider s r more → place_behind_by E (before ++ i ∷ []) s items ≡ Some q → ((x : Place) → place_behind_by E (before ++ i ∷ []) (Some x) items ≡ Some q → place_behind_by E (before ++ i ∷ []) (Some (wider x more)) items ≡ Some (wider q more)) → place_behind_by E (before ++ i ∷ []) r items ≡ Some (wider q more)
  go [] None r w k f = absurd (let z : None ≡ Some q = k in cc)
  go (j ∷ js) None r w k f = absurd (let z : None ≡ Some q = k in cc)
  go js (Some s) r w k f = ap (λ x. place_behind_by E (before ++ i ∷ []) x js) w ∙ f s k

-- so what a run handled with nothing whole left, it handled of those bytes under all exchanges that it records later
pub run_so_far : (says : Says) (side : Side) (config : Config) (own_id : List ℕ) (log : List Event) (st : SideState) (bytes rest : List ℕ) (more : List FinishedExchange) → Steps says side config own_id first_state log st → bytes ≡ read_bytes side first_state.reading log ++ rest → front_of st.reading.sealing st.reading.number rest ≡ Unfinished → Handled side config (recorded log ++ more) bytes (handled log) AllRead
run_so_far says side config own_id log st bytes rest more h e part =
    let os = map (outgoing (other_side side)) more in
    let same : map (outgoing (other_side side)) (recorded log ++ more) ≡ map (outgoing (other_side side)) (recorded log) ++ map (outgoing (other_side side)) more = map_more (outgoing (other_side side)) (recorded log) more in
    let first : Some (first_place (map (outgoing (other_side side)) (recorded log ++ more))) ≡ Some (wider (first_place (map (outgoing (other_side side)) (recorded log))) (map (outgoing (other_side side)) more)) = ap (λ q. Some (first_place q)) same in
    let at = behind_wider (ends_epoch side config) [] (first_place (map (outgoing (other_side side)) (recorded log))) (place_of st.reading []) (map (outgoing (other_side side)) more) (handled log) (handled_place says side config own_id log st h) in
    let here : place_behind_by (ends_epoch side config) [] (Some (first_place (map (outgoing (other_side side)) (recorded log ++ more)))) (handled log) ≡ Some (wider (place_of st.reading []) (map (outgoing (other_side side)) more)) = ap (λ q. place_behind_by (ends_epoch side config) [] q (handled log)) first ∙ at in
    record {
      opened = handled log;
      rest = rest;
      entries = record {
        reads = subst (λ q. ReadsBy (ends_epoch side config) [] q (handled log) bytes rest) (sym first) (reads_wider (ends_epoch side config) [] (first_place (map (outgoing (other_side side)) (recorded log))) (map (outgoing (other_side side)) more) (handled log) bytes rest (handled_by says side config own_id log st bytes rest h e));
        no_more = subst (λ p. IsEnd p rest) (sym here) (part_ends (wider (place_of st.reading []) (map (outgoing (other_side side)) more)) rest part);
      };
      ending_is = (refl, subst (λ p. EndsInPart p rest) (sym here) part);
    }
  where
    map_more : {A B : Type 0} (f : A → B) (a b : List A) → map f (a ++ b) ≡ map f a ++ map f b
    map_more f [] b = refl
    map_more f (x ∷ a) b = ap (λ q. f x ∷ q) (map_more f a b)
