-- What a judge has taken, one packet more.
use Rattle.std.proofs.Common.{◌≡◌, inl, inr, ℕ, zero, suc, ◌+◌, ◌<◌, List, [], ◌∷◌, ◌++◌, length, refl, sym, ◌∙◌, ap, subst, arith, Option, Some, Bool, true, false, append_assoc}
use Rattle.std.proofs.lemmas.Bool.{cases_lt}
use Rattle.std.proofs.lemmas.List.{append_cancel_left}
use Rattle.std.specs.Prelude.{slice_get}
use Rattle.ssh_wire.specs.declared.side.Side.{Side}
use Rattle.ssh_packet.specs.Sealing.{Item}
use Rattle.ssh_packet.specs.Stream.{message_type}
use Rattle.ssh_kex.specs.declared.config.Config.{Config}
use Rattle.ssh_rules.proofs.Lemmas.{block_at}
use Rattle.ssh_rules.specs.Fills.{messages}
use Rattle.ssh_rules.specs.Headline.{submitted_by}
use Rattle.ssh_rules.specs.MessageTypes.{is_kex_type, is_payload_type, order, type_of}
use Rattle.ssh_rules.specs.Wire.{HasForm, HasFront, carried_payloads, epochs_ended, exchange_block}
use Rattle.ssh_rules.specs.declared.link.Step.{Step}
use Rattle.ssh_blocks.specs.Judging.{HasTaken, IsMessageAt, IsPayloadDue, IsRulesOf, LeadsTo, MayNotCome, TakesOn, due_behind}
use Rattle.ssh_blocks.specs.declared.judge.PacketJudge.{PacketJudge}
use Rattle.ssh_blocks.specs.declared.rules.WireRules.{WireRules}
use Rattle.ssh_blocks.proofs.Forming.{form_last, form_more}
use Rattle.ssh_blocks.proofs.Placing.{forms_more, forms_same, leads_blocks, leads_message, leads_next, leads_payload, leads_snoc, next_due, of_order, open_more, open_same, order_some, payload_no_kex, payloads_same, payloads_snoc}

-- ---- nothing yet

first_form : (side : Side) (config : Config) (kind : Bool) (host : Option (List ℕ)) (cookie : List ℕ) → length cookie ≡ 16 → HasForm side config kind host []
first_form side config kind host cookie c =
    record {
      fills = record { cookie = cookie; group = record { prime = []; generator = [] }; host = []; value = []; signature = [] };
      front = (messages side config kind (record { cookie = cookie; group = record { prime = []; generator = [] }; host = []; value = []; signature = [] }), refl);
      cookie = c;
      presents = λ s l. absurd (omega (arith, l));
    }

no_block : (k : ℕ) → exchange_block k [] ≡ []
no_block zero = refl
no_block (suc k) = refl

all_due : (o : List ℕ) (b : Bool) (place : ℕ) → b ≡ false → due_behind b place o ≡ o
all_due o b place e = ap (λ c. due_behind c place o) e

pub taken_none : (side : Side) (config : Config) (kind : Bool) (host : Option (List ℕ)) (steps : List Step) (judge : PacketJudge) → IsRulesOf side config kind host judge.rules → judge.order.now ≡ order judge.rules.side judge.rules.kind → judge.place ≡ 0 → judge.has_begun ≡ false → judge.steps.now ≡ steps → HasTaken side config kind host steps [] judge
taken_none side config kind host steps judge r o p b s =
    record {
      fits = record {
        payloads = (submitted_by side steps, refl);
        blocks = leads_blocks side kind 1 (order side kind) [] (order side kind) (no_packet (order side kind));
        forms = λ k. subst (HasForm side config kind host) (sym (no_block k)) (first_form side config kind host r.cookie r.sixteen);
      };
      rules = r;
      order_is = o ∙ (ap (λ x. order x judge.rules.kind) r.side_is ∙ ap (order side) r.kind_is);
      within = subst (λ n. n < length (order side kind)) (sym p) (order_some side kind);
      first = λ e. p;
      leads = subst (LeadsTo side kind (order side kind) []) (sym (all_due (order side kind) judge.has_begun judge.place b)) (no_packet (order side kind));
      begun = sym p;
      left = ap (submitted_by side) s;
    }
  where
    no_packet : (due : List ℕ) → LeadsTo side kind due [] due
    no_packet [] = refl
    no_packet (t ∷ due) = refl

-- ---- a payload

same_type : (i : Item) (p : List ℕ) → i.payload ≡ p → type_of i ≡ message_type p
same_type i p e = ap message_type e

-- the payload is the next that was submitted
pub took_payload : (old new : PacketJudge) (payload submitted : List ℕ) → IsPayloadDue old (message_type payload) → new.rules ≡ old.rules → new.order.now ≡ old.order.now → new.place ≡ old.place → new.has_begun ≡ old.has_begun
    → submitted_by old.rules.side old.steps.now ≡ submitted ∷ submitted_by old.rules.side new.steps.now → submitted ≡ payload → TakesOn old payload new
took_payload old new payload submitted due r o p b s e side config kind host steps items i same h =
    let typed : is_payload_type (type_of i) ≡ true = ap is_payload_type (same_type i payload same) ∙ due.payload in
    let plain : is_kex_type (type_of i) ≡ false = payload_no_kex (type_of i) typed in
    let next : submitted_by side old.steps.now ≡ i.payload ∷ submitted_by side new.steps.now =
    ap (λ x. submitted_by x old.steps.now) (sym h.rules.side_is) ∙ (s ∙ (ap (λ x. submitted ∷ submitted_by x new.steps.now) h.rules.side_is ∙ ap (λ x. x ∷ submitted_by side new.steps.now) (e ∙ sym same))) in
    let whole : carried_payloads (items ++ i ∷ []) ++ submitted_by side new.steps.now ≡ submitted_by side steps =
    ap (λ x. x ++ submitted_by side new.steps.now) (payloads_snoc items i typed)
    ∙ (append_assoc (carried_payloads items) (i.payload ∷ []) (submitted_by side new.steps.now) ∙ (ap (λ x. carried_payloads items ++ x) (sym next) ∙ h.left)) in
    let leads : LeadsTo side kind (order side kind) (items ++ i ∷ []) (due_behind old.has_begun old.place (order side kind)) =
    leads_snoc side kind (order side kind) items (due_behind old.has_begun old.place (order side kind)) i (due_behind old.has_begun old.place (order side kind)) h.leads (leads_payload side kind old.has_begun old.place i due.begun due.between typed) in
    record {
      fits = record {
        payloads = (submitted_by side new.steps.now, whole);
        blocks = leads_blocks side kind 1 (order side kind) (items ++ i ∷ []) (due_behind old.has_begun old.place (order side kind)) leads;
        forms = forms_same side config kind host items i plain h.fits.forms;
      };
      rules = subst (IsRulesOf side config kind host) (sym r) h.rules;
      order_is = o ∙ h.order_is;
      within = subst (λ n. n < length (order side kind)) (sym p) h.within;
      first = λ f. p ∙ h.first (sym b ∙ f);
      leads = subst (λ n. LeadsTo side kind (order side kind) (items ++ i ∷ []) (due_behind new.has_begun n (order side kind))) (sym p)
          (subst (λ c. LeadsTo side kind (order side kind) (items ++ i ∷ []) (due_behind c old.place (order side kind))) (sym b) leads);
      begun = ap length (open_same items i plain) ∙ (h.begun ∙ sym p);
      left = whole;
    }

front_next : (front : List (List ℕ)) (p : List ℕ) (more rest : List (List ℕ)) → (front ++ p ∷ []) ++ more ≡ front ++ rest → p ∷ more ≡ rest
front_next front p more rest e = append_cancel_left front (p ∷ more) rest (sym (append_assoc front (p ∷ []) more) ∙ e)

-- it isn't
pub no_payload : (old : PacketJudge) (payload : List ℕ) → IsPayloadDue old (message_type payload) → ((more : List (List ℕ)) → submitted_by old.rules.side old.steps.now ≡ payload ∷ more → ⊥) → MayNotCome old payload
no_payload old payload due none side config kind host steps items i same h f =
    let typed : is_payload_type (type_of i) ≡ true = ap is_payload_type (same_type i payload same) ∙ due.payload in
    let joined : (carried_payloads items ++ i.payload ∷ []) ++ f.payloads.0 ≡ carried_payloads items ++ submitted_by side old.steps.now =
    ap (λ x. x ++ f.payloads.0) (sym (payloads_snoc items i typed)) ∙ (f.payloads.1 ∙ sym h.left) in
    none f.payloads.0 (ap (λ x. submitted_by x old.steps.now) h.rules.side_is
    ∙ (sym (front_next (carried_payloads items) i.payload f.payloads.0 (submitted_by side old.steps.now) joined) ∙ ap (λ x. x ∷ f.payloads.0) same))

pub first_one : (xs : List (List ℕ)) (x y : List ℕ) (a b : List (List ℕ)) → xs ≡ x ∷ a → xs ≡ y ∷ b → x ≡ y
first_one xs x y a b e f = let p : x ∷ a ≡ y ∷ b = sym e ∙ f in cc

pub none_one : (xs : List (List ℕ)) (y : List ℕ) (b : List (List ℕ)) → xs ≡ [] → xs ≡ y ∷ b → ⊥
none_one xs y b e f = let p : [] ≡ y ∷ b = sym e ∙ f in cc

-- ---- a message

of_rules : (side : Side) (config : Config) (kind : Bool) (host : Option (List ℕ)) (r : WireRules) → IsRulesOf side config kind host r → IsRulesOf r.side config r.kind host r
of_rules side config kind host r h = subst (λ x. IsRulesOf x config r.kind host r) (sym h.side_is) (subst (λ k. IsRulesOf side config k host r) (sym h.kind_is) h)

-- the message has the form of its place
pub took_message : (old new : PacketJudge) (payload : List ℕ) → slice_get old.order.now old.place ≡ Some (message_type payload)
    → ((config : Config) (host : Option (List ℕ)) → IsRulesOf old.rules.side config old.rules.kind host old.rules → slice_get (order old.rules.side old.rules.kind) old.place ≡ Some (message_type payload) → IsMessageAt old.rules.side config old.rules.kind host old.place payload)
    → new.rules ≡ old.rules → new.order.now ≡ old.order.now → new.steps.now ≡ old.steps.now → new.has_begun ≡ true
    → (old.place + 1 ≡ length old.order.now → new.place ≡ 0) → (old.place + 1 < length old.order.now → new.place ≡ old.place + 1) → TakesOn old payload new
took_message old new payload due formed r o s b u v side config kind host steps items i same h =
    let at : slice_get (order side kind) old.place ≡ Some (type_of i) = ap (λ x. slice_get x old.place) (sym h.order_is) ∙ (due ∙ ap Some (sym (same_type i payload same))) in
    let is = of_order side kind old.place (type_of i) at in
    let by_rules : order old.rules.side old.rules.kind ≡ order side kind = ap (λ x. order x old.rules.kind) h.rules.side_is ∙ ap (order side) h.rules.kind_is in
    let form : IsMessageAt side config kind host old.place payload =
    subst (λ x. IsMessageAt x config kind host old.place payload) h.rules.side_is (subst (λ k. IsMessageAt old.rules.side config k host old.place payload) h.rules.kind_is
    (formed config host (of_rules side config kind host old.rules h.rules) (ap (λ x. slice_get x old.place) (by_rules ∙ sym h.order_is) ∙ due))) in
    let block : exchange_block (epochs_ended items) (items ++ i ∷ []) ≡ exchange_block (epochs_ended items) items ++ payload ∷ [] = block_at items i is.kex ∙ ap (λ p. exchange_block (epochs_ended items) items ++ p ∷ []) same in
    let last : suc old.place ≡ length (order side kind) → new.place ≡ 0 = λ e. u (omega (arith, e, ap length h.order_is)) in
    let within : suc old.place < length (order side kind) → new.place ≡ suc old.place = λ e. (let z = v (omega (arith, e, ap length h.order_is)) in omega (arith, z)) in
    let leads : LeadsTo side kind (order side kind) (items ++ i ∷ []) (due_behind true new.place (order side kind)) =
    leads_snoc side kind (order side kind) items (due_behind old.has_begun old.place (order side kind)) i (due_behind true new.place (order side kind)) h.leads
    (leads_message side kind old.has_begun old.place new.place i h.first at last within) in
    record {
      fits = record {
        payloads = subst (HasFront (submitted_by side steps)) (sym (payloads_same items i is.none)) h.fits.payloads;
        blocks = leads_blocks side kind 1 (order side kind) (items ++ i ∷ []) (due_behind true new.place (order side kind)) leads;
        forms = forms_more side config kind host items i h.fits.forms (subst (HasForm side config kind host) (sym block)
            (form_more side config kind host (exchange_block (epochs_ended items) items) payload (h.fits.forms (epochs_ended items)) (subst (λ n. IsMessageAt side config kind host n payload) (sym h.begun) form)));
      };
      rules = subst (IsRulesOf side config kind host) (sym r) h.rules;
      order_is = o ∙ h.order_is;
      within = next_within old.place new.place (length (order side kind)) is.within last within;
      first = λ f. absurd (let z : true ≡ false = sym b ∙ f in cc);
      leads = subst (λ c. LeadsTo side kind (order side kind) (items ++ i ∷ []) (due_behind c new.place (order side kind))) (sym b) leads;
      begun = open_more side kind items i old.place new.place is h.begun last within;
      left = ap (λ x. x ++ submitted_by side new.steps.now) (payloads_same items i is.none) ∙ (ap (λ x. carried_payloads items ++ submitted_by side x) s ∙ h.left);
    }
  where
    next_within : (place next n : ℕ) → place < n → (suc place ≡ n → next ≡ 0) → (suc place < n → next ≡ suc place) → next < n
    next_within place next n l a c = elim (cases_lt (suc place) n) [
      | inl m ↦ (let z = c m in omega (arith, z, m))
      | inr m ↦ (let e : suc place ≡ n = omega (arith, l, m) in let z = a e in omega (arith, z, l))
    ]

-- no message has this form there
pub no_message : (old : PacketJudge) (payload : List ℕ) → slice_get old.order.now old.place ≡ Some (message_type payload)
    → ((config : Config) (host : Option (List ℕ)) → IsRulesOf old.rules.side config old.rules.kind host old.rules → IsMessageAt old.rules.side config old.rules.kind host old.place payload → ⊥) → MayNotCome old payload
no_message old payload due formless side config kind host steps items i same h f =
    let at : slice_get (order side kind) old.place ≡ Some (type_of i) = ap (λ x. slice_get x old.place) (sym h.order_is) ∙ (due ∙ ap Some (sym (same_type i payload same))) in
    let is = of_order side kind old.place (type_of i) at in
    let block : exchange_block (epochs_ended items) (items ++ i ∷ []) ≡ exchange_block (epochs_ended items) items ++ payload ∷ [] = block_at items i is.kex ∙ ap (λ p. exchange_block (epochs_ended items) items ++ p ∷ []) same in
    let last : IsMessageAt side config kind host old.place payload = subst (λ n. IsMessageAt side config kind host n payload) h.begun
    (form_last side config kind host (exchange_block (epochs_ended items) items) payload (subst (HasForm side config kind host) block (f.forms (epochs_ended items)))) in
    formless config host (of_rules side config kind host old.rules h.rules)
    (subst (λ x. IsMessageAt x config old.rules.kind host old.place payload) (sym h.rules.side_is) (subst (λ k. IsMessageAt side config k host old.place payload) (sym h.rules.kind_is) last))

-- ---- neither

pub not_due : (old : PacketJudge) (payload : List ℕ) → (IsPayloadDue old (message_type payload) → ⊥) → (slice_get old.order.now old.place ≡ Some (message_type payload) → ⊥) → MayNotCome old payload
not_due old payload no_payload no_type side config kind host steps items i same h f =
    let b = leads_next side kind 1 (order side kind) items (due_behind old.has_begun old.place (order side kind)) i h.leads f.blocks in
    elim (next_due side kind old.has_begun old.place b.0 i h.first h.within b.1) [
      | inl z ↦ no_payload (record { between = z.1; begun = z.0; payload = ap is_payload_type (sym (same_type i payload same)) ∙ z.2 })
      | inr z ↦ no_type (ap (λ x. slice_get x old.place) h.order_is ∙ (z ∙ ap Some (same_type i payload same)))
    ]
