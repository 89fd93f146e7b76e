-- Data that goes out piece by piece.
use Rattle.std.proofs.Common.{◌≡◌, ℕ, ◌+◌, ◌-◌, ◌≤◌, ◌<◌, min, nat_lt, ◌&&◌, Bool, true, false, if◌then◌else◌, List, [], ◌∷◌, ◌++◌, length, map, take, drop, refl, sym, ap, ◌∙◌, subst, append_assoc, append-nil, arith}
use Rattle.std.proofs.Math.Seq.{take-add}
use Rattle.std.proofs.lemmas.List.{drop-drop}
use Rattle.std.proofs.lemmas.Bool.Decides.{nat_tests}
use Rattle.ssh_channels.specs.Phases.{Message, Close, Data, Eof, is_live, may_send}
use Rattle.ssh_channels.specs.Ends.{ArePieces, End, SendsData, after_close, after_eof, can_send, close_messages, closes_now, ends_now, eof_messages, data_messages, goes, joined}
use Rattle.ssh_channels.specs.Pumping.{Pumps, PumpsData}
use Rattle.ssh_channels.specs.Texts.{close_texts, eof_texts, text, texts}

texts_append : (own peer : ℕ) (ms ns : List Message) → texts own peer (ms ++ ns) ≡ texts own peer ms ++ texts own peer ns
texts_append own peer [] ns = refl
texts_append own peer (m ∷ ms) ns = ap (λ l. text own peer m ∷ l) (texts_append own peer ms ns)

-- some pieces went out
pub record SentSoFar (peer : ℕ) (old : End) (out : List (List ℕ)) (new : End) (out' : List (List ℕ)) : Type 0 where
  pub same : new ≡ record old { gone = new.gone }
  pub later : old.gone ≤ new.gone
  pub pieces : List (List ℕ)
  pub each : ArePieces (min old.largest 32768) pieces
  pub bytes : joined pieces ≡ take (new.gone - old.gone) (drop old.gone old.written)
  pub out_is : (own : ℕ) → out' ≡ out ++ texts own peer (data_messages pieces)

pub none_yet : (peer : ℕ) (e : End) (out : List (List ℕ)) → SentSoFar peer e out e out
none_yet peer e out = record { same = refl; later = omega arith; pieces = []; each = tt; bytes = sym (ap (λ n. take n (drop e.gone e.written)) nothing); out_is = λ own. sym (append-nil out) }
  where
    nothing : e.gone - e.gone ≡ 0
    nothing = omega arith

joined_more : (pieces : List (List ℕ)) (p : List ℕ) → joined (pieces ++ p ∷ []) ≡ joined pieces ++ p
joined_more [] p = append-nil p
joined_more (x ∷ pieces) p = ap (λ l. x ++ l) (joined_more pieces p) ∙ sym (append_assoc x (joined pieces) p)

messages_more : (pieces : List (List ℕ)) (p : List ℕ) → data_messages (pieces ++ p ∷ []) ≡ data_messages pieces ++ Data p ∷ []
messages_more [] p = refl
messages_more (x ∷ pieces) p = ap (λ l. Data x ∷ l) (messages_more pieces p)

each_one_more : (most : ℕ) (pieces : List (List ℕ)) (p : List ℕ) → ArePieces most pieces → 0 < length p → length p ≤ most → ArePieces most (pieces ++ p ∷ [])
each_one_more most [] p h s l = (s, l, tt)
each_one_more most (x ∷ pieces) p h s l = (h.0, h.1, each_one_more most pieces p h.2 s l)

pub one_piece : (peer : ℕ) (old mid new : End) (out mid_out new_out : List (List ℕ)) (p : List ℕ) (n : ℕ) → SentSoFar peer old out mid mid_out → new ≡ record mid { gone = mid.gone + n }
    → p ≡ take n (drop mid.gone old.written) → length p ≡ n → 0 < n → n ≤ min old.largest 32768 → new_out ≡ mid_out ++ text 0 peer (Data p) ∷ [] → SentSoFar peer old out new new_out
one_piece peer old mid new out mid_out new_out p n h e q l s most o =
    let gone : new.gone ≡ mid.gone + n = ap (λ x. x.gone) e in
    let later = h.later in
    let sum : (mid.gone - old.gone) + n ≡ new.gone - old.gone = omega arith in
    let place : old.gone + (mid.gone - old.gone) ≡ mid.gone = omega arith in
    let moved : End → End = λ x. record x { gone = mid.gone + n } in
    record {
      same = e ∙ (ap moved h.same ∙ ap (λ k. record old { gone = k }) (sym gone));
      later = omega arith;
      pieces = h.pieces ++ p ∷ [];
      each = each_one_more (min old.largest 32768) h.pieces p h.each (omega arith) (omega arith);
      bytes = joined_more h.pieces p
          ∙ (ap (λ x. x ++ p) h.bytes
          ∙ (ap (λ x. take (mid.gone - old.gone) (drop old.gone old.written) ++ x) (q ∙ ap (take n) (ap (λ k. drop k old.written) (sym place) ∙ sym (drop-drop (mid.gone - old.gone) old.gone old.written)))
          ∙ (sym (take-add (mid.gone - old.gone) n (drop old.gone old.written)) ∙ ap (λ k. take k (drop old.gone old.written)) sum)));
      out_is = λ own. o ∙ (ap (λ x. x ++ text 0 peer (Data p) ∷ []) (h.out_is own)
          ∙ (append_assoc out (texts own peer (data_messages h.pieces)) (text own peer (Data p) ∷ [])
          ∙ ap (λ x. out ++ x) (sym (ap (texts own peer) (messages_more h.pieces p) ∙ texts_append own peer (data_messages h.pieces) (Data p ∷ [])))));
    }

pub all_sent : (peer : ℕ) (old new : End) (out out' : List (List ℕ)) → SentSoFar peer old out new out' → new.gone ≡ goes old → PumpsData peer old out new out'
all_sent peer old new out out' h e = (h.pieces, record { new_is = h.same ∙ ap (λ k. record old { gone = k }) e; each = h.each; bytes = h.bytes ∙ ap (λ k. take (k - old.gone) (drop old.gone old.written)) e }, h.out_is)

pub goes_all : (old : End) → can_send old ≡ true → 0 < old.largest → goes old ≡ min (length old.written) old.granted
goes_all old h k =
    let some : nat_lt 0 old.largest ≡ true = grind (arith, nat_tests) in
    ap (λ t. if t && nat_lt 0 old.largest then min (length old.written) old.granted else old.gone) h ∙ ap (λ t. if t then min (length old.written) old.granted else old.gone) some

eof_told : (own peer : ℕ) (e : End) → eof_texts peer e ≡ texts own peer (eof_messages e)
eof_told own peer e = by (ends_now e) where
  by : (b : Bool) → (if b then text 0 peer Eof ∷ [] else []) ≡ texts own peer (if b then Eof ∷ [] else [])
  by true = refl
  by false = refl

close_told : (own peer : ℕ) (e : End) → close_texts peer e ≡ texts own peer (close_messages e)
close_told own peer e = by (closes_now e) where
  by : (b : Bool) → (if b then text 0 peer Close ∷ [] else []) ≡ texts own peer (if b then Close ∷ [] else [])
  by true = refl
  by false = refl

-- all in their turns
pub pumps : (peer : ℕ) (old mid next new : End) (out o1 o2 o3 : List (List ℕ)) → PumpsData peer old out mid o1 → next ≡ after_eof mid → o2 ≡ o1 ++ eof_texts peer mid → new ≡ after_close next → o3 ≡ o2 ++ close_texts peer next → Pumps peer old out new o3
pumps peer old mid next new out o1 o2 o3 h a b c d = (
  data_messages h.0 ++ (eof_messages mid ++ close_messages (after_eof mid)),
  record { pieces = h.0; mid = mid; sent = h.1; messages_are = refl; new_is = c ∙ ap after_close a },
  λ own.
      let t : List Message → List (List ℕ) = texts own peer in
      let last : close_texts peer next ≡ t (close_messages (after_eof mid)) = ap (close_texts peer) a ∙ close_told own peer (after_eof mid) in
      let tail : t (eof_messages mid ++ close_messages (after_eof mid)) ≡ t (eof_messages mid) ++ t (close_messages (after_eof mid)) = texts_append own peer (eof_messages mid) (close_messages (after_eof mid)) in
      let whole : t (data_messages h.0 ++ (eof_messages mid ++ close_messages (after_eof mid))) ≡ t (data_messages h.0) ++ (t (eof_messages mid) ++ t (close_messages (after_eof mid))) =
      texts_append own peer (data_messages h.0) (eof_messages mid ++ close_messages (after_eof mid)) ∙ ap (λ x. t (data_messages h.0) ++ x) tail in
      d ∙ (ap (λ x. o2 ++ x) last
      ∙ (ap (λ x. x ++ t (close_messages (after_eof mid))) (b ∙ ap (λ x. o1 ++ x) (eof_told own peer mid))
      ∙ (ap (λ x. (x ++ t (eof_messages mid)) ++ t (close_messages (after_eof mid))) (h.2 own)
      ∙ (append_assoc (out ++ t (data_messages h.0)) (t (eof_messages mid)) (t (close_messages (after_eof mid)))
      ∙ (append_assoc out (t (data_messages h.0)) (t (eof_messages mid) ++ t (close_messages (after_eof mid)))
      ∙ ap (λ x. out ++ x) (sym whole)))))),
)
