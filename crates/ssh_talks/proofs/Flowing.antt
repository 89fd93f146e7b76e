-- What follows for every channel: it flows well, it ends as its callers asked, and nothing that comes is refused.
use Rattle.std.proofs.Common.{◌≡◌, ℕ, zero, suc, ◌+◌, ◌-◌, ◌^◌, ◌<◌, min, nat_le, nat_lt, ◌||◌, Bool, true, false, List, [], ◌∷◌, length, take, slice_get, Option, Some, None, inl, inr, refl, sym, ap, ◌∙◌, subst, arith}
use Rattle.std.proofs.lemmas.Bool.{leb-true, ltb-true}
use Rattle.ssh_wire.specs.declared.side.Side.TheVariants.{Client, Server}
use Rattle.ssh_channels.specs.Phases.{Message, Open, Confirmation, Failure, Adjust, Data, Eof, Close, has_told, next}
use Rattle.ssh_channels.specs.declared.end.Phase.{Phase}
use Rattle.ssh_channels.specs.declared.end.End.{End}
use Rattle.ssh_channels.specs.Asking.{excess, fault_in, message_fault_at, packet_fault_to}
use Rattle.ssh_channels.specs.Ends.{IsTooMuch}
use Rattle.ssh_channels.specs.Conversation.{Talk, opened}
use Rattle.ssh_channels.specs.Laws.{AreSettings, Finishes, Reached}
use Rattle.ssh_channels.specs.Muxes.{Asks, Channel, Mux, On, Packet, Request, Start, TakesAt}
use Rattle.ssh_channels.proofs.Lemmas.{all_comes, all_ends, comes_in_order, fixed, keeps_windows, nothing_refused, only_called}
use Rattle.ssh_talks.specs.Talks.{Asked, Came, CameAll, ChannelsCome, ChannelsEnd, ChannelsFinish, ChannelsFlow, EndsAsCalled, FlowsWell, Happens, HappensOn, MuxPair, NoPacketRefused, both_new, for_channel, with_mux}
use Rattle.ssh_talks.proofs.Packets.{if_false}
use Rattle.ssh_talks.proofs.Halves.{answering, one_some}
use Rattle.ssh_talks.proofs.Talking.{Joined, are_joined, head_for, swapped}

-- ---- the talk of a channel that was accepted

-- the talk whose other end this channel of `a` is
pub record OtherOf (a b : Mux) (to_b to_a : List Packet) (n : ℕ) (c : Channel) : Type 0 where
  pub opener : Channel
  pub at : slice_get b.channels c.peer ≡ Some opener
  pub started : opener.started ≡ true
  pub talk : Talk
  pub reached : Reached (opened b.window b.most a.window a.most) talk
  pub opener_is : talk.opener ≡ opener.end
  pub other_is : talk.other ≡ c.end
  pub to_other_is : talk.to_other ≡ for_channel n to_a
  pub to_opener_is : talk.to_opener ≡ for_channel c.peer to_b
  pub told : has_told talk.other.said ≡ true

pub other_of : (a b : Mux) (to_b to_a : List Packet) (n : ℕ) (c : Channel) → Joined a b to_b to_a → slice_get a.channels n ≡ Some c → c.started ≡ false → OtherOf a b to_b to_a n c
other_of a b to_b to_a n c j at s =
    let x = j.other.accepted n c at s in
    let o = j.other.each c.peer x.1.0 x.1.1 x.1.2 in
    let u = answering c.peer n a to_a (j.other_answers c.peer) o.talk o.other_is x.0 in
    record {
      opener = x.1.0;
      at = x.1.1;
      started = x.1.2;
      talk = o.talk;
      reached = o.reached;
      opener_is = o.own_is;
      other_is = u.4 ∙ ap (λ (y : Channel). y.end) (one_some u.0 c (slice_get a.channels n) u.1 at);
      to_other_is = u.5;
      to_opener_is = o.to_own_is;
      told = o.answered n x.0;
    }

-- the windows that ends of a reached talk tell are those of its sides
flows : (a b : Mux) (to_b to_a : List Packet) (n : ℕ) (c : Channel) → (o : OtherOf a b to_b to_a n c) → FlowsWell o.opener.end c.end × FlowsWell c.end o.opener.end
flows a b to_b to_a n c o =
    let order = comes_in_order b.window b.most a.window a.most o.talk o.reached in
    let windows = keeps_windows b.window b.most a.window a.most o.talk o.reached in
    let same = fixed o.reached.0 (opened b.window b.most a.window a.most) o.talk o.reached.1 in
    let to : FlowsWell o.talk.opener o.talk.other = record { in_order = order.0; passed = windows.0; granted = (let x = windows.1 in let y = same.other.window in omega (arith, x, y)); told = windows.4 } in
    let back : FlowsWell o.talk.other o.talk.opener = record { in_order = order.1; passed = windows.2; granted = (let x = windows.3 in let y = same.opener.window in omega (arith, x, y)); told = windows.5 } in (
      subst (λ e. FlowsWell o.opener.end e) o.other_is (subst (λ e. FlowsWell e o.talk.other) o.opener_is to),
      subst (λ e. FlowsWell e o.opener.end) o.other_is (subst (λ e. FlowsWell o.talk.other e) o.opener_is back),
    )

pub channels_flow : ChannelsFlow
channels_flow w m v k mids b happens Client n c at s =
    let j = are_joined w m v k mids b happens in
    let o = other_of b.client b.server b.to_server b.to_client n c j at s in
    let f = flows b.client b.server b.to_server b.to_client n c o in
    (o.opener, o.at, o.started, f.0, f.1)
channels_flow w m v k mids b happens Server n c at s =
    let j = swapped b.client b.server b.to_server b.to_client (are_joined w m v k mids b happens) in
    let o = other_of b.server b.client b.to_client b.to_server n c j at s in
    let f = flows b.server b.client b.to_client b.to_server n c o in
    (o.opener, o.at, o.started, f.0, f.1)

-- ---- where nothing is on the way

comes : (a b : Mux) (to_b to_a : List Packet) (n : ℕ) (c : Channel) → AreSettings b.window b.most a.window a.most → to_b ≡ [] → to_a ≡ [] → (o : OtherOf a b to_b to_a n c) → c.end.close_called ≡ false → o.opener.end.close_called ≡ false
    → CameAll o.opener.end c.end × CameAll c.end o.opener.end
comes a b to_b to_a n c are none_to_b none_to_a o unshut opener_open =
    let x = all_comes b.window b.most a.window a.most are o.talk o.reached (record {
      to_other = o.to_other_is ∙ ap (for_channel n) none_to_a;
      to_opener = o.to_opener_is ∙ ap (for_channel c.peer) none_to_b;
      accepted = o.told;
      opener_open = ap (λ (e : End). e.close_called) o.opener_is ∙ opener_open;
      other_open = ap (λ (e : End). e.close_called) o.other_is ∙ unshut;
    }) in
    let same = fixed o.reached.0 (opened b.window b.most a.window a.most) o.talk o.reached.1 in
    let to : CameAll o.talk.opener o.talk.other = x.0 ∙ ap (λ z. take (min (length o.talk.opener.written) (z + o.talk.other.read)) o.talk.opener.written) (sym same.other.window) in
    let back : CameAll o.talk.other o.talk.opener = x.1 ∙ ap (λ z. take (min (length o.talk.other.written) (z + o.talk.opener.read)) o.talk.other.written) (sym same.opener.window) in (
      subst (λ e. CameAll o.opener.end e) o.other_is (subst (λ e. CameAll e o.talk.other) o.opener_is to),
      subst (λ e. CameAll e o.opener.end) o.other_is (subst (λ e. CameAll o.talk.other e) o.opener_is back),
    )

pub turned : (w m v k : ℕ) → AreSettings w m v k → AreSettings v k w m
turned w m v k s = record { of_opener = s.of_other; of_other = s.of_opener; packet = s.other_packet; other_packet = s.packet }

-- the settings stay what they were
pub record Settled (w m v k : ℕ) (b : MuxPair) : Type 0 where
  pub client_window : b.client.window ≡ w
  pub client_most : b.client.most ≡ m
  pub server_window : b.server.window ≡ v
  pub server_most : b.server.most ≡ k

kept_by_request : (request : Request) (old new : Mux) (packets : List Packet) → Asks request old packets new → (new.window ≡ old.window) × (new.most ≡ old.most)
kept_by_request Start old new packets h = (ap (λ (x : Mux). x.window) h.2, ap (λ (x : Mux). x.most) h.2)
kept_by_request (On n call) old new packets h = (ap (λ (x : Mux). x.window) h.6, ap (λ (x : Mux). x.most) h.6)

kept_by_packet : (to : Option ℕ) (p : Packet) (old new : Mux) (packets : List Packet) → TakesAt to p old packets new → (new.window ≡ old.window) × (new.most ≡ old.most)
kept_by_packet None p old new packets (inl h) = (ap (λ (x : Mux). x.window) h.6, ap (λ (x : Mux). x.most) h.6)
kept_by_packet None p old new packets (inr h) = (ap (λ (x : Mux). x.window) h.2, ap (λ (x : Mux). x.most) h.2)
kept_by_packet (Some n) p old new packets h = (ap (λ (x : Mux). x.window) h.6, ap (λ (x : Mux). x.most) h.6)

settled_client : (w m v k : ℕ) (old : MuxPair) (mux : Mux) (to from : List Packet) → Settled w m v k old → (mux.window ≡ old.client.window) × (mux.most ≡ old.client.most) → Settled w m v k (with_mux Client mux to from old)
settled_client w m v k old mux to from s e = record { client_window = e.0 ∙ s.client_window; client_most = e.1 ∙ s.client_most; server_window = s.server_window; server_most = s.server_most }

settled_server : (w m v k : ℕ) (old : MuxPair) (mux : Mux) (to from : List Packet) → Settled w m v k old → (mux.window ≡ old.server.window) × (mux.most ≡ old.server.most) → Settled w m v k (with_mux Server mux to from old)
settled_server w m v k old mux to from s e = record { client_window = s.client_window; client_most = s.client_most; server_window = e.0 ∙ s.server_window; server_most = e.1 ∙ s.server_most }

settled_next : (w m v k : ℕ) (old new : MuxPair) → Settled w m v k old → Happens old new → Settled w m v k new
settled_next w m v k old new s (Asked Client request packets mux h e) = subst (Settled w m v k) (sym e) (settled_client w m v k old mux _ _ s (kept_by_request request old.client mux packets h))
settled_next w m v k old new s (Asked Server request packets mux h e) = subst (Settled w m v k) (sym e) (settled_server w m v k old mux _ _ s (kept_by_request request old.server mux packets h))
settled_next w m v k old new s (Came Client p rest packets mux way h e) = subst (Settled w m v k) (sym e) (settled_client w m v k old mux _ _ s (kept_by_packet p.to p old.client mux packets h))
settled_next w m v k old new s (Came Server p rest packets mux way h e) = subst (Settled w m v k) (sym e) (settled_server w m v k old mux _ _ s (kept_by_packet p.to p old.server mux packets h))

settled_on : (w m v k : ℕ) (mids : List MuxPair) (start b : MuxPair) → Settled w m v k start → HappensOn mids start b → Settled w m v k b
settled_on w m v k [] start b s e = subst (Settled w m v k) (sym e) s
settled_on w m v k (mid ∷ mids) start b s h = settled_on w m v k mids mid b (settled_next w m v k start mid s h.0) h.1

pub settled : (w m v k : ℕ) (mids : List MuxPair) (b : MuxPair) → HappensOn mids (both_new w m v k) b → Settled w m v k b
settled w m v k mids b h = settled_on w m v k mids (both_new w m v k) b (record { client_window = refl; client_most = refl; server_window = refl; server_most = refl }) h

-- so they are within their bounds at every moment
bounds : (w m v k a b c d : ℕ) → a ≡ w → b ≡ m → c ≡ v → d ≡ k → AreSettings w m v k → AreSettings a b c d
bounds w m v k a b c d e f g h s = record {
  of_opener = (let x = s.of_opener in omega (arith, x, e));
  of_other = (let x = s.of_other in omega (arith, x, g));
  packet = (let x = s.packet.0 in let y = s.packet.1 in (omega (arith, x, f), omega (arith, y, f)));
  other_packet = (let x = s.other_packet.0 in let y = s.other_packet.1 in (omega (arith, x, h), omega (arith, y, h)));
}

pub client_bounds : (w m v k : ℕ) (b : MuxPair) → AreSettings w m v k → Settled w m v k b → AreSettings b.client.window b.client.most b.server.window b.server.most
client_bounds w m v k b s t = bounds w m v k b.client.window b.client.most b.server.window b.server.most t.client_window t.client_most t.server_window t.server_most s

pub channels_come : ChannelsCome
channels_come w m v k are mids b happens quiet Client n c at s unshut =
    let j = are_joined w m v k mids b happens in
    let t = client_bounds w m v k b are (settled w m v k mids b happens) in
    let o = other_of b.client b.server b.to_server b.to_client n c j at s in
    (o.opener, o.at, o.started, λ other. comes b.client b.server b.to_server b.to_client n c (turned _ _ _ _ t) quiet.1 quiet.0 o unshut other)
channels_come w m v k are mids b happens quiet Server n c at s unshut =
    let j = swapped b.client b.server b.to_server b.to_client (are_joined w m v k mids b happens) in
    let t = client_bounds w m v k b are (settled w m v k mids b happens) in
    let o = other_of b.server b.client b.to_client b.to_server n c j at s in
    (o.opener, o.at, o.started, λ other. comes b.server b.client b.to_client b.to_server n c t quiet.0 quiet.1 o unshut other)

-- ---- how a channel ends

ends : (a b : Mux) (to_b to_a : List Packet) (n : ℕ) (c : Channel) → (o : OtherOf a b to_b to_a n c) → EndsAsCalled o.opener.end c.end
ends a b to_b to_a n c o =
    let x = only_called b.window b.most a.window a.most o.talk o.reached in
    let of_talk : EndsAsCalled o.talk.opener o.talk.other = record { ended = x.0; ended_back = x.1; closed = x.2 } in
    subst (λ e. EndsAsCalled o.opener.end e) o.other_is (subst (λ e. EndsAsCalled e o.talk.other) o.opener_is of_talk)

pub channels_end : ChannelsEnd
channels_end w m v k mids b happens Client n c at s =
    let j = are_joined w m v k mids b happens in
    let o = other_of b.client b.server b.to_server b.to_client n c j at s in
    (o.opener, o.at, o.started, ends b.client b.server b.to_server b.to_client n c o)
channels_end w m v k mids b happens Server n c at s =
    let j = swapped b.client b.server b.to_server b.to_client (are_joined w m v k mids b happens) in
    let o = other_of b.server b.client b.to_client b.to_server n c j at s in
    (o.opener, o.at, o.started, ends b.server b.client b.to_client b.to_server n c o)

finish : (a b : Mux) (to_b to_a : List Packet) (n : ℕ) (c : Channel) → to_b ≡ [] → to_a ≡ [] → (o : OtherOf a b to_b to_a n c) → Finishes o.opener.end c.end × Finishes c.end o.opener.end
finish a b to_b to_a n c none_to_b none_to_a o =
    let x = all_ends b.window b.most a.window a.most o.talk o.reached (record {
      to_other = o.to_other_is ∙ ap (for_channel n) none_to_a;
      to_opener = o.to_opener_is ∙ ap (for_channel c.peer) none_to_b;
      accepted = o.told;
    }) in (
      subst (λ e. Finishes o.opener.end e) o.other_is (subst (λ e. Finishes e o.talk.other) o.opener_is x.0),
      subst (λ e. Finishes e o.opener.end) o.other_is (subst (λ e. Finishes o.talk.other e) o.opener_is x.1),
    )

pub channels_finish : ChannelsFinish
channels_finish w m v k mids b happens quiet Client n c at s =
    let j = are_joined w m v k mids b happens in
    let o = other_of b.client b.server b.to_server b.to_client n c j at s in
    let f = finish b.client b.server b.to_server b.to_client n c quiet.1 quiet.0 o in
    (o.opener, o.at, o.started, f.0, f.1)
channels_finish w m v k mids b happens quiet Server n c at s =
    let j = swapped b.client b.server b.to_server b.to_client (are_joined w m v k mids b happens) in
    let o = other_of b.server b.client b.to_client b.to_server n c j at s in
    let f = finish b.server b.client b.to_client b.to_server n c quiet.0 quiet.1 o in
    (o.opener, o.at, o.started, f.0, f.1)

-- ---- nothing is refused

pub stands : {A : Type 0} (l : List A) (n : ℕ) → n < length l → (x : A) × (slice_get l n ≡ Some x)
stands [] n h = absurd (omega (arith, h))
stands (x ∷ l) zero h = (x, refl)
stands (x ∷ l) (suc n) h = stands l n (omega (arith, h))

no_excess : (m : Message) (n : ℕ) (e : End) → (IsTooMuch m e → ⊥) → excess m n e ≡ None
no_excess (Open w k) n e h = refl
no_excess (Confirmation w k) n e h = refl
no_excess Failure n e h = refl
no_excess (Adjust k) n e h = if_false (nat_le (2 ^ 32) ((e.granted - e.gone) + k)) _ None (below (nat_le (2 ^ 32) ((e.granted - e.gone) + k)) refl)
  where
    below : (t : Bool) → nat_le (2 ^ 32) ((e.granted - e.gone) + k) ≡ t → nat_le (2 ^ 32) ((e.granted - e.gone) + k) ≡ false
    below true q = absurd (h (leb-true (2 ^ 32) ((e.granted - e.gone) + k) q))
    below false q = q
no_excess (Data bytes) n e h = if_false (nat_lt e.most (length bytes) || nat_lt ((e.window + e.told) - length e.received) (length bytes)) _ None
    (both (nat_lt e.most (length bytes)) (nat_lt ((e.window + e.told) - length e.received) (length bytes)) (λ q. h (inl (ltb-true e.most (length bytes) q))) (λ q. h (inr (ltb-true ((e.window + e.told) - length e.received) (length bytes) q))))
  where
    both : (t u : Bool) → (t ≡ true → ⊥) → (u ≡ true → ⊥) → (t || u) ≡ false
    both true u f g = absurd (f refl)
    both false true f g = absurd (g refl)
    both false false f g = refl
no_excess Eof n e h = refl
no_excess Close n e h = refl

in_place : (kind : Bool) (e : End) (m : Message) (n : ℕ) (q : Phase) → next kind e.heard m ≡ Some q → (IsTooMuch m e → ⊥) → fault_in (next kind e.heard m) m n e ≡ None
in_place kind e m n q d h = ap (λ o. fault_in o m n e) d ∙ no_excess m n e h

message_passes : (a b : Mux) (to_b rest : List Packet) (p : Packet) (n : ℕ) (c : Channel) → AreSettings a.window a.most b.window b.most → Joined a b to_b (p ∷ rest) → p.to ≡ Some n → slice_get a.channels n ≡ Some c → message_fault_at p.message n (Some c) ≡ None
message_passes a b to_b rest p n c are j to at = on c.started refl
  where
    on : (s : Bool) → c.started ≡ s → fault_in (next c.started c.end.heard p.message) p.message n c.end ≡ None
    on true s =
        let o = j.own.each n c at s in
        let x = (nothing_refused a.window a.most b.window b.most are o.talk o.reached).1 p.message (for_channel n rest) (o.to_own_is ∙ head_for n p rest to) in
        let here = in_place true o.talk.opener p.message n x.0.0 x.0.1 x.1 in
        subst (λ t. fault_in (next t c.end.heard p.message) p.message n c.end ≡ None) (sym s) (subst (λ (e : End). fault_in (next true e.heard p.message) p.message n e ≡ None) o.own_is here)
    on false s =
        let o = other_of a b to_b (p ∷ rest) n c j at s in
        let x = (nothing_refused b.window b.most a.window a.most (turned _ _ _ _ are) o.talk o.reached).0 p.message (for_channel n rest) (o.to_other_is ∙ head_for n p rest to) in
        let here = in_place false o.talk.other p.message n x.0.0 x.0.1 x.1 in
        subst (λ t. fault_in (next t c.end.heard p.message) p.message n c.end ≡ None) (sym s) (subst (λ (e : End). fault_in (next false e.heard p.message) p.message n e ≡ None) o.other_is here)

packet_passes : (to : Option ℕ) (a b : Mux) (to_b rest : List Packet) (p : Packet) → AreSettings a.window a.most b.window b.most → Joined a b to_b (p ∷ rest) → p.to ≡ to → packet_fault_to to p.message a ≡ None
packet_passes None a b to_b rest p are j to = refl
packet_passes (Some n) a b to_b rest p are j to =
    let c = stands a.channels n (j.own.there.0 n to) in
    ap (λ o. message_fault_at p.message n o) c.1 ∙ message_passes a b to_b rest p n c.0 are j to c.1

pub no_packet_refused : NoPacketRefused
no_packet_refused w m v k are mids b happens Client p rest way =
    let j = are_joined w m v k mids b happens in
    let t = client_bounds w m v k b are (settled w m v k mids b happens) in
    packet_passes p.to b.client b.server b.to_server rest p t (subst (λ l. Joined b.client b.server b.to_server l) way j) refl
no_packet_refused w m v k are mids b happens Server p rest way =
    let j = swapped b.client b.server b.to_server b.to_client (are_joined w m v k mids b happens) in
    let t = client_bounds w m v k b are (settled w m v k mids b happens) in
    packet_passes p.to b.server b.client b.to_client rest p (turned _ _ _ _ t) (subst (λ l. Joined b.server b.client b.to_client l) way j) refl
