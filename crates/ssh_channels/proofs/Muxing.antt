-- What calls of a side do, from what is done to a channel.
use Rattle.std.proofs.Common.{◌≡◌, ℕ, zero, suc, ◌<◌, ◌≤◌, ◌++◌, nat_lt, Bool, true, false, if◌then◌else◌, List, [], ◌∷◌, length, map, slice_get, slice_set, Option, Some, None, Result, Ok, Err, IfErr, IfOk, OnOk, get_or, take, drop, refl, ap, sym, ◌∙◌, subst, append-nil, inl, inr}
use Rattle.std.proofs.lemmas.Option.{slice_get_past, slice_get_read}
use Rattle.ssh_channels.specs.Asking.{Answers, IsReadFrom, type_of, CallsOn, HearsOn, IsRefused, MuxState, TakesPacket, TakesPayload, call_fault, call_fault_at, message_fault, message_fault_at, packet_fault_to, packet_on, payload_fault, payload_fault_in, request_fault}
use Rattle.ssh_channels.specs.Ends.{Call, End, Read, fresh, taken}
use Rattle.ssh_channels.specs.Formats.{PacketFault, Bad, Other, packet_of, packet_text, text_of}
use Rattle.ssh_channels.specs.Muxes.{Channel, Mux, On, Packet, Start, addressed, most_channels, told_number}
use Rattle.ssh_channels.specs.Phases.{Confirmation, Failure, Message, Open, Silent, Talking}
use Rattle.ssh_channels.specs.Reading.{read_fault}
use Rattle.ssh_channels.specs.Texts.{text, texts}
use Rattle.ssh_channels.specs.declared.text.Telling.{Telling}
use Rattle.ssh_channels.specs.declared.fault.MuxFault.{MuxFault}
use Rattle.ssh_channels.specs.declared.fault.MuxFault.TheVariants.{Memory, Unexpected, Unknown}

texts_of : (own peer : ℕ) (messages : List Message) → texts own peer messages ≡ map (λ p. packet_text p) (map (addressed own peer) messages)
texts_of own peer [] = refl
texts_of own peer (m ∷ messages) = ap (λ l. text own peer m ∷ l) (texts_of own peer messages)

-- a side with this channel in place of that with its number
abbrev pub with_channel : Mux → ℕ → Channel → Mux
with_channel side own c = record side { channels = slice_set side.channels own c }

pub on_channel : (own : ℕ) (call : Call) (old new : MuxState) (c c' : Channel) → slice_get old.side.channels own ≡ Some c
    → CallsOn own call c old.made c' new.made → new.side ≡ with_channel old.side own c' → Answers (On own call) old new
on_channel own call old new c c' there h e = record {
  packets = map (addressed own c.peer) h.messages;
  asks = (c, h.messages, h.end, there, h.calls, refl, e ∙ ap (with_channel old.side own) h.new_is);
  made = h.out_is ∙ ap (λ l. old.made ++ l) (texts_of own c.peer h.messages);
}

pub heard_on : (own told : ℕ) (m : Message) (old new : MuxState) (c c' : Channel) → slice_get old.side.channels own ≡ Some c
    → HearsOn own told m c old.made c' new.made → new.side ≡ with_channel old.side own c' → TakesPacket (packet_on own told m) old new
heard_on own told m old new c c' there h e = record {
  packets = map (addressed own (told_number (packet_on own told m) c.peer m)) h.messages;
  takes = (c, h.messages, h.end, there, h.receives, refl, e ∙ ap (with_channel old.side own) h.new_is);
  made = h.out_is ∙ ap (λ l. old.made ++ l) (texts_of own (told_number (packet_on own told m) c.peer m) h.messages);
}

pub started : (old new : MuxState) → length old.side.channels < most_channels
    → new.side ≡ record old.side { channels = old.side.channels ++ record { started = true; peer = 0; end = fresh old.side.window old.side.most Talking } ∷ [] }
    → new.made ≡ old.made ++ text (length old.side.channels) 0 (Open old.side.window old.side.most) ∷ [] → Answers Start old new
started old new few s m = record {
  packets = addressed (length old.side.channels) 0 (Open old.side.window old.side.most) ∷ [];
  asks = (few, refl, s);
  made = m;
}

pub granted : (from w m : ℕ) (old new : MuxState) → length old.side.channels < most_channels
    → new.side ≡ record old.side { channels = old.side.channels ++ record { started = false; peer = from; end = record (fresh old.side.window old.side.most Talking) { heard = Talking; granted = w; largest = m } } ∷ [] }
    → new.made ≡ old.made ++ text (length old.side.channels) from (Confirmation old.side.window old.side.most) ∷ []
    → TakesPacket (record { to = None; from = from; message = Open w m }) old new
granted from w m old new few s t = record {
  packets = addressed (length old.side.channels) from (Confirmation old.side.window old.side.most) ∷ [];
  takes = inl (
    record (fresh old.side.window old.side.most Talking) { heard = Talking; granted = w; largest = m },
    Confirmation old.side.window old.side.most ∷ [],
    few,
    inl (refl, refl),
    refl,
    refl,
    s,
  );
  made = t;
}

pub filled : (from w m : ℕ) (old new : MuxState) → most_channels ≤ length old.side.channels → new.side ≡ old.side
    → new.made ≡ old.made ++ text 0 from Failure ∷ [] → TakesPacket (record { to = None; from = from; message = Open w m }) old new
filled from w m old new full s t = record {
  packets = addressed 0 from Failure ∷ [];
  takes = inr (full, refl, s);
  made = t;
}

-- setting what is there changes nothing
pub set_same : {A : Type 0} (l : List A) (i : ℕ) (x : A) → slice_get l i ≡ Some x → slice_set l i x ≡ l
set_same [] i x h = cc
set_same (y ∷ l) zero x h = let e : y ≡ x = cc in ap (λ z. z ∷ l) (sym e)
set_same (y ∷ l) (suc i) x h = ap (λ z. y ∷ z) (set_same l i x h)

state_same : (old new : MuxState) → new.side ≡ old.side → new.made ≡ old.made → new ≡ old
state_same old new s m = ap (λ x. let r : MuxState = record { side = x; made = new.made } in r) s ∙ ap (λ x. let r : MuxState = record { side = old.side; made = x } in r) m

same_state : (own : ℕ) (old new : MuxState) (c c' : Channel) → slice_get old.side.channels own ≡ Some c → new.side ≡ with_channel old.side own c' → c' ≡ c → new.made ≡ old.made → new ≡ old
same_state own old new c c' there e same made =
    state_same old new (e ∙ (ap (with_channel old.side own) same ∙ ap (λ l. record old.side { channels = l }) (set_same old.side.channels own c there))) made

weaker : (due : Option MuxFault) (f : MuxFault) (P Q : Type 0) → (P → Q) → IsRefused due f P → IsRefused due f Q
weaker None f P Q g h = h
weaker (Some d) f P Q g (e, p) = (e, g p)

on_err : {A E : Type 0} (r : Result A E) (P Q : E → Type 0) → ((e : E) → P e → Q e) → IfErr r P → IfErr r Q
on_err (Ok x) P Q f h = tt
on_err (Err e) P Q f h = f e h

-- a call that is refused
pub refused_on : {A : Type 0} (r : Result A MuxFault) (own : ℕ) (call : Call) (old new : MuxState) (c c' : Channel) → slice_get old.side.channels own ≡ Some c
    → new.side ≡ with_channel old.side own c' → IfErr r (λ f. IsRefused (call_fault call own c.end) f ((c' ≡ c) × (new.made ≡ old.made)))
    → IfErr r (λ f. IsRefused (request_fault (On own call) old.side) f (new ≡ old))
refused_on r own call old new c c' there e h =
    on_err r _ _ (λ f k. subst (λ o. IsRefused o f (new ≡ old)) (ap (call_fault_at call own) (sym there)) (weaker (call_fault call own c.end) f _ _ (λ p. same_state own old new c c' there e p.0 p.1) k)) h

-- a message that is refused
pub refused_message : {A : Type 0} (r : Result A MuxFault) (own : ℕ) (m : Message) (old new : MuxState) (c c' : Channel) → slice_get old.side.channels own ≡ Some c
    → new.side ≡ with_channel old.side own c' → IfErr r (λ f. IsRefused (message_fault m own c) f ((c' ≡ c) × (new.made ≡ old.made)))
    → IfErr r (λ f. IsRefused (message_fault_at m own (slice_get old.side.channels own)) f (new ≡ old))
refused_message r own m old new c c' there e h =
    on_err r _ _ (λ f k. subst (λ o. IsRefused o f (new ≡ old)) (ap (message_fault_at m own) (sym there)) (weaker (message_fault m own c) f _ _ (λ p. same_state own old new c c' there e p.0 p.1) k)) h

-- what is read is taken, or refused as it is read
pub taken_as : (payload : List ℕ) (p : Packet) (old new : MuxState) → packet_of payload ≡ Ok p → TakesPacket p old new → TakesPayload payload old new
taken_as payload p old new e h = (p, e, h)

pub refused_as : {A : Type 0} (r : Result A MuxFault) (payload : List ℕ) (p : Packet) (old new : MuxState) → packet_of payload ≡ Ok p
    → IfErr r (λ f. IsRefused (packet_fault_to p.to p.message old.side) f (new ≡ old)) → IfErr r (λ f. IsRefused (payload_fault payload old.side) f (new ≡ old))
refused_as r payload p old new e h = on_err r _ _ (λ f k. subst (λ o. IsRefused o f (new ≡ old)) (ap (λ x. payload_fault_in x old.side) (sym e)) k) h

told_fault : (read : Result Packet PacketFault) (f : MuxFault) (side : Mux) → read_fault read ≡ Some f → payload_fault_in read side ≡ Some f
told_fault (Ok p) f side e = cc
told_fault (Err x) f side e = e

pub unread : (payload : List ℕ) (f : MuxFault) (old : MuxState) → read_fault (packet_of payload) ≡ Some f → IsRefused (payload_fault payload old.side) f (old ≡ old)
unread payload f old e = subst (λ o. IsRefused o f (old ≡ old)) (sym (told_fault (packet_of payload) f old.side e)) (refl, refl)

-- the same, where the channel is lent, of a side that is seen by its fields
pub there : (l : List Channel) (i : ℕ) (c : Channel) → i < length l → c ≡ get_or l i c → slice_get l i ≡ Some c
there l i c h e = slice_get_read l (length l) i c refl h e

on_ok : {A E : Type 0} (r : Result A E) (P Q : Type 0) → (P → Q) → OnOk r P → OnOk r Q
on_ok (Ok x) P Q f h = f h
on_ok (Err e) P Q f h = tt

if_ok : {A E : Type 0} (r : Result A E) (P Q : A → Type 0) → ((x : A) → P x → Q x) → IfOk r P → IfOk r Q
if_ok (Ok x) P Q f h = f x h
if_ok (Err e) P Q f h = tt

pub on_place : {A : Type 0} (r : Result A MuxFault) (own : ℕ) (call : Call) (view old new : MuxState) (c c' : Channel) → view ≡ old → slice_get view.side.channels own ≡ Some c
    → new.side ≡ with_channel view.side own c' → OnOk r (CallsOn own call c view.made c' new.made) → OnOk r (Answers (On own call) old new)
on_place r own call view old new c c' v t e h = subst (λ o. OnOk r (Answers (On own call) o new)) v (on_ok r _ _ (λ k. on_channel own call view new c c' t k e) h)

pub on_each : {A : Type 0} (r : Result A MuxFault) (own : ℕ) (call : Call) (view old new : MuxState) (c c' : Channel) → view ≡ old → slice_get view.side.channels own ≡ Some c
    → new.side ≡ with_channel view.side own c' → OnOk r ((n : ℕ) → CallsOn n call c view.made c' new.made) → OnOk r (Answers (On own call) old new)
on_each r own call view old new c c' v t e h = on_place r own call view old new c c' v t e (on_ok r _ _ (λ k. k own) h)

pub refused_place : {A : Type 0} (r : Result A MuxFault) (own : ℕ) (call : Call) (view old new : MuxState) (c c' : Channel) → view ≡ old → slice_get view.side.channels own ≡ Some c
    → new.side ≡ with_channel view.side own c' → IfErr r (λ f. IsRefused (call_fault call own c.end) f ((c' ≡ c) × (new.made ≡ view.made)))
    → IfErr r (λ f. IsRefused (request_fault (On own call) old.side) f (new ≡ old))
refused_place r own call view old new c c' v t e h = subst (λ o. IfErr r (λ f. IsRefused (request_fault (On own call) o.side) f (new ≡ o))) v (refused_on r own call view new c c' t e h)

pub wanting_place : {A : Type 0} (r : Result A MuxFault) (own n : ℕ) (view old new : MuxState) (c : Channel) → view ≡ old → slice_get view.side.channels own ≡ Some c
    → IfErr r (λ f. f ≡ Memory) → IfErr r (λ f. IsRefused (request_fault (On own (Read n)) old.side) f (new ≡ old))
wanting_place r own n view old new c v t h =
    subst (λ o. IfErr r (λ f. IsRefused (request_fault (On own (Read n)) o.side) f (new ≡ o))) v
    (on_err r _ _ (λ f k. subst (λ o. IsRefused (call_fault_at (Read n) own o) f (new ≡ view)) (sym t) k) h)

pub read_place : (r : Result (List ℕ) MuxFault) (own n : ℕ) (view old : MuxState) (c : Channel) → view ≡ old → slice_get view.side.channels own ≡ Some c
    → IfOk r (λ p. p ≡ take (taken c.end n) (drop c.end.read c.end.received)) → IfOk r (λ p. IsReadFrom (slice_get old.side.channels own) n p)
read_place r own n view old c v t h =
    subst (λ o. IfOk r (λ p. IsReadFrom (slice_get o.side.channels own) n p)) v
    (if_ok r _ _ (λ p k. subst (λ o. IsReadFrom o n p) (sym t) k) h)

pub unknown_place : (own : ℕ) (call : Call) (view old : MuxState) → view ≡ old → slice_get view.side.channels own ≡ None
    → IsRefused (call_fault_at call own (slice_get old.side.channels own)) (Unknown own) (view ≡ old)
unknown_place own call view old v t =
    subst (λ o. IsRefused (call_fault_at call own (slice_get o.side.channels own)) (Unknown own) (view ≡ o)) v
    (subst (λ o. IsRefused (call_fault_at call own o) (Unknown own) (view ≡ view)) (sym t) (refl, refl))

pub heard_place : {A : Type 0} (r : Result A MuxFault) (own told : ℕ) (m : Message) (view old new : MuxState) (c c' : Channel) → view ≡ old → slice_get view.side.channels own ≡ Some c
    → new.side ≡ with_channel view.side own c' → OnOk r (HearsOn own told m c view.made c' new.made) → OnOk r (TakesPacket (packet_on own told m) old new)
heard_place r own told m view old new c c' v t e h = subst (λ o. OnOk r (TakesPacket (packet_on own told m) o new)) v (on_ok r _ _ (λ k. heard_on own told m view new c c' t k e) h)

pub unheard_place : {A : Type 0} (r : Result A MuxFault) (own : ℕ) (m : Message) (view old new : MuxState) (c c' : Channel) → view ≡ old → slice_get view.side.channels own ≡ Some c
    → new.side ≡ with_channel view.side own c' → IfErr r (λ f. IsRefused (message_fault m own c) f ((c' ≡ c) × (new.made ≡ view.made)))
    → IfErr r (λ f. IsRefused (message_fault_at m own (slice_get old.side.channels own)) f (new ≡ old))
unheard_place r own m view old new c c' v t e h = subst (λ o. IfErr r (λ f. IsRefused (message_fault_at m own (slice_get o.side.channels own)) f (new ≡ o))) v (refused_message r own m view new c c' t e h)

pub unexpected_place : (own type : ℕ) (f : MuxFault) (m : Message) (view old : MuxState) → view ≡ old → slice_get view.side.channels own ≡ None → type ≡ type_of m → f ≡ Unexpected type own
    → IsRefused (message_fault_at m own (slice_get old.side.channels own)) f (view ≡ old)
unexpected_place own type f m view old v t e k =
    subst (λ o. IsRefused (message_fault_at m own (slice_get o.side.channels own)) f (view ≡ o)) v
    (subst (λ o. IsRefused (message_fault_at m own o) f (view ≡ view)) (sym t) (k ∙ ap (λ n. Unexpected n own) e, refl))

-- what a side tells of itself to its next channel
abbrev pub telling_of : MuxState → Telling
telling_of m = record { own = length m.side.channels; window = m.side.window; most = m.side.most }

abbrev pub more_channels : Mux → List Channel → Mux
more_channels side l = record side { channels = l }

pub started_place : (view old new : MuxState) (telling : Telling) (t : List ℕ) (c : Channel) (l : List Channel) → view ≡ old → length view.side.channels < most_channels
    → telling ≡ telling_of old
    → t ≡ text_of None telling.own (Open telling.window telling.most) → c ≡ record { started = true; peer = 0; end = fresh telling.window telling.most Talking }
    → new.side ≡ more_channels view.side l → l ≡ view.side.channels ++ c ∷ [] → new.made ≡ view.made ++ t ∷ [] → Answers Start old new
started_place view old new telling t c l v few same k h n m d =
    let e : telling ≡ telling_of view = same ∙ ap telling_of (sym v) in
    subst (λ o. Answers Start o new) v (started view new few
    (n ∙ ap (more_channels view.side) (m ∙ ap (λ x. view.side.channels ++ x ∷ []) (h ∙ ap (λ (x : Telling). let y : Channel = record { started = true; peer = 0; end = fresh x.window x.most Talking } in y) e)))
    (d ∙ ap (λ x. view.made ++ x ∷ []) (k ∙ ap (λ (x : Telling). text_of None x.own (Open x.window x.most)) e)))

pub granted_place : (from w m : ℕ) (view old new : MuxState) (telling : Telling) (t : List ℕ) (c : Channel) (l : List Channel) → view ≡ old → length view.side.channels < most_channels
    → telling ≡ telling_of old
    → t ≡ text_of (Some from) telling.own (Confirmation telling.window telling.most)
    → c ≡ record { started = false; peer = from; end = record (fresh telling.window telling.most Talking) { heard = Talking; granted = w; largest = m } }
    → new.side ≡ more_channels view.side l → l ≡ view.side.channels ++ c ∷ [] → new.made ≡ view.made ++ t ∷ [] → TakesPacket (record { to = None; from = from; message = Open w m }) old new
granted_place from w m view old new telling t c l v few same k h n i d =
    let e : telling ≡ telling_of view = same ∙ ap telling_of (sym v) in
    subst (λ o. TakesPacket (record { to = None; from = from; message = Open w m }) o new) v (granted from w m view new few
    (n ∙ ap (more_channels view.side) (i ∙ ap (λ x. view.side.channels ++ x ∷ []) (h ∙ ap (λ (x : Telling). let y : Channel = record { started = false; peer = from; end = record (fresh x.window x.most Talking) { heard = Talking; granted = w; largest = m } } in y) e)))
    (d ∙ ap (λ x. view.made ++ x ∷ []) (k ∙ ap (λ (x : Telling). text_of (Some from) x.own (Confirmation x.window x.most)) e)))

pub filled_place : (from w m : ℕ) (view old new : MuxState) (t : List ℕ) → view ≡ old → most_channels ≤ length view.side.channels → new.side ≡ view.side
    → t ≡ text_of (Some from) 0 Failure → new.made ≡ view.made ++ t ∷ [] → TakesPacket (record { to = None; from = from; message = Open w m }) old new
filled_place from w m view old new t v full s k d =
    subst (λ o. TakesPacket (record { to = None; from = from; message = Open w m }) o new) v (filled from w m view new full s (d ∙ ap (λ x. view.made ++ x ∷ []) k))

pub past : (l : List Channel) (i : ℕ) → length l ≤ i → slice_get l i ≡ None
past l i h = slice_get_past l i h
