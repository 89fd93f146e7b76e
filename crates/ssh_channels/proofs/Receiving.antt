-- Payloads that come to a side, one after the other, as a loop over them has it.
use Rattle.std.proofs.Common.{◌≡◌, ℕ, ◌+◌, ◌<◌, List, [], ◌∷◌, ◌++◌, length, get_or, take, drop, Result, Err, IfErr, refl, sym, ap, ◌∙◌, subst}
use Rattle.std.proofs.lemmas.List.{drop_more, take-append-drop, take_more}
use Rattle.ssh_channels.specs.Asking.{IsRefused, MuxState, ReceivesAll, RefusesOneOf, TakesPayload, payload_fault}
use Rattle.ssh_channels.specs.declared.fault.MuxFault.{MuxFault}

pub receives_more : (payloads : List (List ℕ)) (payload : List ℕ) (old mid new : MuxState) → ReceivesAll payloads old mid → TakesPayload payload mid new → ReceivesAll (payloads ++ payload ∷ []) old new
receives_more [] payload old mid new e h = (new, subst (λ m. TakesPayload payload m new) e h, refl)
receives_more (p ∷ payloads) payload old mid new h k = (h.0, h.1, receives_more payloads payload h.0 mid new h.2 k)

pub receives_next : (all : List (List ℕ)) (i : ℕ) (payload item : List ℕ) (old mid new : MuxState) → i < length all → item ≡ get_or all i item → payload ≡ item
    → ReceivesAll (take i all) old mid → TakesPayload payload mid new → ReceivesAll (take (i + 1) all) old new
receives_next all i payload item old mid new h is p t k =
    subst (λ l. ReceivesAll l old new) (ap (λ x. take i all ++ x ∷ []) (p ∙ is) ∙ sym (take_more all i item h)) (receives_more (take i all) payload old mid new t k)

-- the next payload is refused
pub refuses_next : (all : List (List ℕ)) (i : ℕ) (payload item : List ℕ) (fault : MuxFault) (old mid new : MuxState) → i < length all → item ≡ get_or all i item → payload ≡ item
    → ReceivesAll (take i all) old mid → IsRefused (payload_fault payload mid.side) fault (new ≡ mid) → RefusesOneOf all old fault
refuses_next all i payload item fault old mid new h is p t r = record {
  done = take i all;
  payload = payload;
  rest = drop (i + 1) all;
  mid = mid;
  all = sym (take-append-drop i all) ∙ ap (λ l. take i all ++ l) (drop_more all i item h ∙ ap (λ x. x ∷ drop (i + 1) all) (sym (p ∙ is)));
  takes = t;
  new = new;
  refused = r;
}

pub refuses_so : {A : Type 0} (r : Result A MuxFault) (all payloads : List (List ℕ)) (old : MuxState) (fault : MuxFault) → r ≡ Err fault → all ≡ payloads → RefusesOneOf all old fault → IfErr r (λ f. RefusesOneOf payloads old f)
refuses_so r all payloads old fault e is h = subst (λ x. IfErr x (λ f. RefusesOneOf payloads old f)) (sym e) (subst (λ l. RefusesOneOf l old fault) is h)
