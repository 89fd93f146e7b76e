-- What a side has read so far of some bytes.
use Rattle.std.proofs.Common.{◌≡◌, ℕ, List, [], ◌∷◌, ◌++◌, refl, sym, ◌∙◌, ap, subst, append_assoc, append-nil, inl, inr}
use Rattle.ssh_packet.specs.Sealing.{Item, next_number}
use Rattle.ssh_packet.specs.Stream.{number_after}
use Rattle.ssh_packet.specs.Front.{Front, Unfinished, Refused}
use Rattle.ssh_packet.specs.Reading.{Reader}
use Rattle.ssh_run.specs.Delivering.{FindsPackets, payloads_of, DeliversOne, DeliversNone, RefusesFront}
use Rattle.ssh_run.specs.Receiving.{ReadsOn, CannotRead}
use Rattle.ssh_run.specs.declared.receiver.Receiver.{Receiver}

-- after some packets: whatever is found from here on is found behind them
pub record HasRead (first : Receiver) (bytes : List ℕ) (now : Receiver) : Type 0 where
  pub items : List Item
  pub goes_on : (more : List Item) (rest : List ℕ) (end : Front) → FindsPackets now.reader.number now.reader.waiting more rest end → FindsPackets first.reader.number (first.reader.waiting ++ bytes) (items ++ more) rest end
  pub number : now.reader.number ≡ number_after first.reader.number items
  pub failed : now.reader.failed ≡ first.reader.failed
  pub delivered : now.delivered.items ≡ first.delivered.items ++ payloads_of items
  pub id : now.id ≡ first.id

number_after-push : (number : ℕ) (items : List Item) (item : Item) → number_after number (items ++ item ∷ []) ≡ next_number (number_after number items)
number_after-push number [] item = refl
number_after-push number (i ∷ items) item = number_after-push (next_number number) items item

payloads_of-push : (items : List Item) (item : Item) → payloads_of (items ++ item ∷ []) ≡ payloads_of items ++ item.payload ∷ []
payloads_of-push [] item = refl
payloads_of-push (i ∷ items) item = ap (λ l. i.payload ∷ l) (payloads_of-push items item)

-- one packet more
pub read_one : (first now : Receiver) (bytes : List ℕ) (next : Receiver) (item : Item) → HasRead first bytes now → next.id ≡ now.id → DeliversOne now.reader next.reader now.delivered.items next.delivered.items item → HasRead first bytes next
read_one first now bytes next item h same d = record {
  items = h.items ++ item ∷ [];
  goes_on = λ more rest end f.
      let P : List Item → Type 0 = λ l. FindsPackets first.reader.number (first.reader.waiting ++ bytes) l rest end in
      let N : ℕ → Type 0 = λ n. FindsPackets n next.reader.waiting more rest end in
      subst P (sym (append_assoc h.items (item ∷ []) more)) (h.goes_on (item ∷ more) rest end (next.reader.waiting, d.front, subst N d.number f));
  number = d.number ∙ (ap next_number h.number ∙ sym (number_after-push first.reader.number h.items item));
  failed = d.stays_live ∙ (sym d.live ∙ h.failed);
  delivered = d.delivers ∙ (ap (λ l. l ++ item.payload ∷ []) h.delivered ∙ (append_assoc first.delivered.items (payloads_of h.items) (item.payload ∷ []) ∙ ap (λ l. first.delivered.items ++ l) (sym (payloads_of-push h.items item))));
  id = same ∙ h.id;
}

-- no packet more
pub read_all : (first now : Receiver) (bytes : List ℕ) (next : Receiver) → HasRead first bytes now → DeliversNone now.reader next.reader now.delivered.items next.delivered.items → ReadsOn first bytes next
read_all first now bytes next h d =
    let P : List Item → Type 0 = λ l. FindsPackets first.reader.number (first.reader.waiting ++ bytes) l next.reader.waiting Unfinished in
    let same : next.reader.waiting ≡ now.reader.waiting = ap (λ (r : Reader). r.waiting) d.same in
    record {
      items = h.items;
      found = subst P (append-nil h.items) (h.goes_on [] next.reader.waiting Unfinished (sym same, d.front));
      number = ap (λ (r : Reader). r.number) d.same ∙ h.number;
      live = ap (λ (r : Reader). r.failed) d.same ∙ d.live;
      delivered = d.delivers ∙ h.delivered;
    }

-- a refusal behind some packets
pub read_stops : (first now : Receiver) (bytes : List ℕ) → HasRead first bytes now → RefusesFront now.reader → CannotRead first bytes
read_stops first now bytes h (inl failed) = inl (sym h.failed ∙ failed)
read_stops first now bytes h (inr refused) = inr (h.items ++ [], now.reader.waiting, refused.0, h.goes_on [] now.reader.waiting (Refused refused.0) (refl, refused.1))
