-- The messages that answer one of an exchange.
use Rattle.std.proofs.Common.{◌≡◌, ℕ, ◌==◌, Bool, true, false, ◌&&◌, ◌||◌, List, [], ◌∷◌, ◌++◌, length, Option, Some, refl, sym, ap, ◌∙◌, subst, append_assoc, append-nil, ◌⊎◌, inl, inr}
use Rattle.rand_core.specs.Stream.{Stream}
use Rattle.ssh_wire.specs.declared.side.Side.{Side}
use Rattle.ssh_wire.specs.declared.side.Side.TheVariants.{Client, Server}
use Rattle.ssh_negotiate.specs.Causes.{was_strict}
use Rattle.ssh_negotiate.proofs.Lemmas.{read_flags}
use Rattle.ssh_packet.specs.Sealing.{Clear, Block, Gcm, Item, Sealing, IsPadded, item_of, padding_length, sealed_packet}
use Rattle.ssh_packet.specs.Stream.{message_type}
use Rattle.ssh_packet.specs.Writing.{SameButRoom, Writer, with_item}
use Rattle.ssh_kex.specs.Messages.{is_gex, newkeys, reply_message}
use Rattle.ssh_kex.specs.Setting.{Says, Setting, Opened, offers_of}
use Rattle.ssh_kex.specs.Stages.{AwaitsGroup, AwaitsNewkeys, AwaitsReply, AwaitsRequest, AwaitsValue, Created, OpensBy, Stage, Takes, guess_dropped, names_in_stage, resets}
use Rattle.ssh_kex.specs.Stepping.{Puts, PutsAll}
use Rattle.ssh_kex.specs.declared.config.Config.{Config}
use Rattle.ssh_kex.specs.declared.exchange.Exchange.{Exchange}
use Rattle.ssh_kex.specs.declared.exchange.FinishedExchange.{FinishedExchange}
use Rattle.ssh_kex.specs.declared.exchange.ServerHost.{ServerHost}
use Rattle.ssh_rules.specs.Log.{causes_in, delivered_in, read_bytes, sent_bytes, submitted_in}
use Rattle.ssh_rules.specs.Machine.{AnswerSent, Event, Inside, SendsAnswer, SideState, Spot, Steps, spot_after, spot_renumbered, strict_now}
use Rattle.ssh_rules.specs.Standing.{HearsNone}
use Rattle.ssh_transport.specs.Handling.{IsFlagged}
use Rattle.ssh_transport.proofs.Kexinits.{sends_item}

-- ---- one message

padded_item : (sealing : Sealing) (payload : List ℕ) (stream : Stream)
    → length (item_of sealing payload stream).padding ≡ padding_length sealing (length payload)
    → IsPadded sealing (item_of sealing payload stream)
padded_item Clear payload stream h = refl
padded_item (Block running mac) payload stream h = h
padded_item (Gcm key nonce) payload stream h = h

abbrev pub spot_of : Writer → Spot
spot_of w = record { sealing = w.sealing; number = w.number }

-- where these messages are owed, and so much is written
abbrev pub answering : SideState → List (List ℕ) → Spot → ℕ → SideState
answering st owed at count = record st { owed = owed; writing = at; written = count }

pub moved : (w w' : Writer) (p : List ℕ) (h : Puts w p w')
    → w' ≡ record (with_item w (item_of w.sealing p h.stream)) { room = w'.room }
moved w w' p h = sends_item w w' p h.stream h.admissible.payload h.sends

puts_step : (st : SideState) (w w' : Writer) (p : List ℕ) (more : List (List ℕ)) (again : Bool)
    → again ≡ (strict_now st.stands && (message_type p == 21)) → (h : Puts w p w')
    → SendsAnswer (answering st (p ∷ more) (spot_of w) w.count) (item_of w.sealing p h.stream) again
    (answering st more (spot_renumbered again (spot_of w')) w'.count)
puts_step st w w' p more again a h = record {
  more = more;
  owes = refl;
  is_written = record { admissible = h.admissible; padded = padded_item w.sealing p h.stream h.padded };
  again_is = a;
  becomes = ap (λ (x : Writer). answering st more (spot_renumbered again (spot_of x)) x.count) (moved w w' p h);
}

-- ---- all of them

-- these messages were written, and the next one is written at a spot
pub record Answered (says : Says) (side : Side) (config : Config) (own : List ℕ) (st : SideState)
    (written : List (List ℕ)) (w w' : Writer) (at' : Spot) : Type 0 where
  pub events : List Event
  pub steps : Steps says side config own (answering st written (spot_of w) w.count) events
      (answering st [] at' w'.count)
  pub output : w'.output ≡ w.output ++ sent_bytes side (spot_of w) events
  pub bytes : (at : Spot) → read_bytes side at events ≡ []
  pub delivered : delivered_in events ≡ []
  pub submitted : submitted_in events ≡ []
  pub causes : causes_in events ≡ []
  pub silent : HearsNone events

answered_none : (says : Says) (side : Side) (config : Config) (own : List ℕ) (st : SideState) (w w' : Writer)
    → SameButRoom w w' → Answered says side config own st [] w w' (spot_of w')
answered_none says side config own st w w' e = record {
  events = [];
  steps = ap (λ (x : Writer). answering st [] (spot_of x) x.count) e;
  output = ap (λ (x : Writer). x.output) e ∙ sym (append-nil w.output);
  bytes = λ at. refl;
  delivered = refl;
  submitted = refl;
  causes = refl;
  silent = tt;
}

answered_more : (says : Says) (side : Side) (config : Config) (own : List ℕ) (st : SideState) (p : List ℕ)
    (more : List (List ℕ)) (w mid w' : Writer) (at' : Spot) → (strict_now st.stands && (message_type p == 21)) ≡ false
    → Puts w p mid → Answered says side config own st more mid w' at'
    → Answered says side config own st (p ∷ more) w w' at'
answered_more says side config own st p more w mid w' at' e h k = record {
  events = AnswerSent item false ∷ k.events;
  steps = (answering st more (spot_of mid) mid.count, puts_step st w mid p more false (sym e) h, k.steps);
  output = k.output ∙ ap (λ (x : Writer). x.output ++ sent_bytes side (spot_of x) k.events) (moved w mid p h)
      ∙ append_assoc w.output (sealed_packet w.sealing w.number item)
      (sent_bytes side (spot_after (spot_of w) item) k.events);
  bytes = k.bytes;
  delivered = k.delivered;
  submitted = k.submitted;
  causes = k.causes;
  silent = k.silent;
} where
  item : Item
  item = item_of w.sealing p h.stream

answered_last : (says : Says) (side : Side) (config : Config) (own : List ℕ) (st : SideState) (p : List ℕ)
    (w mid w' : Writer) → (strict_now st.stands && (message_type p == 21)) ≡ true → Puts w p mid → SameButRoom mid w'
    → Answered says side config own st (p ∷ []) w w' (spot_renumbered true (spot_of w'))
answered_last says side config own st p w mid w' e h k = record {
  events = AnswerSent item true ∷ [];
  steps = (
    answering st [] (spot_renumbered true (spot_of mid)) mid.count,
    puts_step st w mid p [] true (sym e) h,
    ap
        (λ (x : Writer). answering st [] (spot_renumbered true (spot_of x)) x.count) k,
  );
  output = ap (λ (x : Writer). x.output) k ∙ ap (λ (x : Writer). x.output) (moved w mid p h)
      ∙ ap (λ (t : List ℕ). w.output ++ t) (sym (append-nil (sealed_packet w.sealing w.number item)));
  bytes = λ at. refl;
  delivered = refl;
  submitted = refl;
  causes = refl;
  silent = tt;
} where
  item : Item
  item = item_of w.sealing p h.stream

and_no : (a b : Bool) → a ≡ false → (a && b) ≡ false
and_no true b e = cc
and_no false b e = refl

and_not : (a b : Bool) → b ≡ false → (a && b) ≡ false
and_not true b e = e
and_not false b e = refl

and_yes : (a b : Bool) → a ≡ true → b ≡ true → (a && b) ≡ true
and_yes true b e f = f
and_yes false b e f = cc

-- where no numbers begin again
answered_all : (says : Says) (side : Side) (config : Config) (own : List ℕ) (st : SideState) (written : List (List ℕ))
    (w w' : Writer) → strict_now st.stands ≡ false → PutsAll w written w'
    → Answered says side config own st written w w' (spot_of w')
answered_all says side config own st [] w w' e h = answered_none says side config own st w w' h
answered_all says side config own st (p ∷ more) w w' e h = answered_more says side config own st p more w h.0 w'
    (spot_of w') (and_no (strict_now st.stands) (message_type p == 21) e) h.1
    (answered_all says side config own st more h.0 w' e h.2)

-- NEWKEYS is the last of them, and the only one
abbrev pub EndsInNewkeys : List (List ℕ) → Type 0
EndsInNewkeys written = (written ≡ newkeys ∷ []) ⊎ ((r : List ℕ) × (written ≡ r ∷ newkeys ∷ [])
    × ((message_type r == 21) ≡ false))

answered_strict : (says : Says) (side : Side) (config : Config) (own : List ℕ) (st : SideState)
    (written : List (List ℕ)) (w w' : Writer) → strict_now st.stands ≡ true → EndsInNewkeys written
    → PutsAll w written w' → Answered says side config own st written w w' (spot_renumbered true (spot_of w'))
answered_strict says side config own st written w w' e (inl f) h =
    let k : PutsAll w (newkeys ∷ []) w' = subst (λ (ps : List (List ℕ)). PutsAll w ps w') f h in
    subst (λ (ps : List (List ℕ)). Answered says side config own st ps w w' (spot_renumbered true (spot_of w'))) (sym f)
    (answered_last says side config own st newkeys w k.0 w' (and_yes (strict_now st.stands) true e refl) k.1 k.2)
answered_strict says side config own st written w w' e (inr f) h =
    let k : PutsAll w (f.0 ∷ newkeys ∷ []) w' = subst (λ (ps : List (List ℕ)). PutsAll w ps w') f.1 h in
    subst (λ (ps : List (List ℕ)). Answered says side config own st ps w w' (spot_renumbered true (spot_of w')))
    (sym f.1)
    (answered_more says side config own st f.0 (newkeys ∷ []) w k.0 w' (spot_renumbered true (spot_of w'))
    (and_not (strict_now st.stands) (message_type f.0 == 21) f.2) k.1
    (answered_last says side config own st newkeys k.0 (k.2).0 w' (and_yes (strict_now st.stands) true e refl) (k.2).1
    (k.2).2))

-- ---- which they are

reply_other : (b : Bool) (host value signature : List ℕ)
    → (message_type (reply_message b host value signature) == 21) ≡ false
reply_other true host value signature = refl
reply_other false host value signature = refl

opens_on : (says : Says) (side : Side) (kind : Bool) (s : Setting) (o : Opened) (written : List (List ℕ))
    (exchange : Exchange) (made : FinishedExchange) (host : Option ServerHost)
    → OpensBy side kind says s o written (AwaitsNewkeys exchange made host) → ⊥
opens_on says Client true s o written exchange made host h = let e = h.next_is in cc
opens_on says Client false s o written exchange made host h = let e = h.leads.next_is in cc
opens_on says Server true s o written exchange made host h = let e = h.next_is in cc
opens_on says Server false s o written exchange made host h = let e = h.next_is in cc

ends_in_newkeys : (says : Says) (s : Setting) (stage : Stage) (seqn : ℕ) (payload : List ℕ) (written : List (List ℕ))
    (exchange : Exchange) (made : FinishedExchange) (host : Option ServerHost)
    → Takes says s stage seqn payload written (AwaitsNewkeys exchange made host) → EndsInNewkeys written
ends_in_newkeys says s (Created own) seqn payload written exchange made host h = absurd
    (opens_on says s.side (is_gex h.names.kex) s _ written exchange made host h.opens)
ends_in_newkeys says s (AwaitsGroup o) seqn payload written exchange made host h = absurd
    (let e = h.leads.next_is in cc)
ends_in_newkeys says s (AwaitsReply o gex local public) seqn payload written exchange made host h = inl
    h.leads.written_is
ends_in_newkeys says s (AwaitsRequest o) seqn payload written exchange made host h = absurd
    (let e = h.leads.next_is in cc)
ends_in_newkeys says s (AwaitsValue o gex) seqn payload written exchange made host h = inr (
  reply_message (is_gex o.names.kex) h.shown.blob h.own_value h.signature,
  h.leads.written_is,
  reply_other
      (is_gex o.names.kex) h.shown.blob h.own_value h.signature,
)
ends_in_newkeys says s (AwaitsNewkeys x m k) seqn payload written exchange made host h = absurd h

or_same : (a b : Bool) → (b ≡ true → a ≡ true) → (a || b) ≡ a
or_same true b h = refl
or_same false true h = sym (h refl)
or_same false false h = refl

answered_by : (says : Says) (side : Side) (config : Config) (own : List ℕ) (st : SideState) (written : List (List ℕ))
    (w w' : Writer) (again : Bool) → strict_now st.stands ≡ again → EndsInNewkeys written → PutsAll w written w'
    → Answered says side config own st written w w' (spot_renumbered again (spot_of w'))
answered_by says side config own st written w w' true e k h = answered_strict says side config own st written w w' e k h
answered_by says side config own st written w w' false e k h = answered_all says side config own st written w w' e h

answered_still : (says : Says) (side : Side) (config : Config) (own : List ℕ) (st : SideState) (written : List (List ℕ))
    (w w' : Writer) (reset : Bool) → reset ≡ false → strict_now st.stands ≡ false → PutsAll w written w'
    → Answered says side config own st written w w' (spot_renumbered reset (spot_of w'))
answered_still says side config own st written w w' reset r e h = subst
    (λ (b : Bool). Answered says side config own st written w w' (spot_renumbered b (spot_of w'))) (sym r)
    (answered_all says side config own st written w w' e h)

-- what a message that is taken makes a side write
pub answered_taken : (says : Says) (side : Side) (config : Config) (own : List ℕ) (s : Setting) (stage next : Stage)
    (seqn : ℕ) (payload : List ℕ) (written : List (List ℕ)) (st : SideState) (w w' : Writer) (reset : Bool)
    → strict_now st.stands ≡ strict_now (Inside next) → IsFlagged s (names_in_stage next) → reset ≡ resets s.cause next
    → Takes says s stage seqn payload written next → PutsAll w written w'
    → Answered says side config own st written w w' (spot_renumbered reset (spot_of w'))
answered_taken says side config own s stage (Created k) seqn payload written st w w' reset e f r t h = answered_still
    says side config own st written w w' reset r e h
answered_taken says side config own s stage (AwaitsGroup o) seqn payload written st w w' reset e f r t h =
    answered_still says side config own st written w w' reset r e h
answered_taken says side config own s stage (AwaitsReply o gex local public) seqn payload written st w w' reset e f r t
    h = answered_still says side config own st written w w' reset r e h
answered_taken says side config own s stage (AwaitsRequest o) seqn payload written st w w' reset e f r t h =
    answered_still says side config own st written w w' reset r e h
answered_taken says side config own s stage (AwaitsValue o gex) seqn payload written st w w' reset e f r t h =
    answered_still says side config own st written w w' reset r e h
answered_taken says side config own s stage (AwaitsNewkeys exchange made host) seqn payload written st w w' reset e f r
    t h =
    answered_by says side config own st written w w' reset
    (e ∙ sym (r ∙ or_same made.names.strict_kex (was_strict s.cause) f))
    (ends_in_newkeys says s stage seqn payload written exchange made host t) h

-- ---- the flags of the names

opens_flagged : (says : Says) (side : Side) (kind : Bool) (s : Setting) (o : Opened) (written : List (List ℕ))
    (next : Stage) → OpensBy side kind says s o written next → IsFlagged s (Some o.names)
    → IsFlagged s (names_in_stage next)
opens_flagged says Client true s o written next h f = subst (λ (x : Stage). IsFlagged s (names_in_stage x))
    (sym h.next_is) f
opens_flagged says Client false s o written next h f = subst (λ (x : Stage). IsFlagged s (names_in_stage x))
    (sym h.leads.next_is) f
opens_flagged says Server true s o written next h f = subst (λ (x : Stage). IsFlagged s (names_in_stage x))
    (sym h.next_is) f
opens_flagged says Server false s o written next h f = subst (λ (x : Stage). IsFlagged s (names_in_stage x))
    (sym h.next_is) f

pub taken_flagged : (says : Says) (s : Setting) (stage next : Stage) (seqn : ℕ) (payload : List ℕ)
    (written : List (List ℕ)) → Takes says s stage seqn payload written next → IsFlagged s (names_in_stage stage)
    → IsFlagged s (names_in_stage next)
taken_flagged says s (Created own) next seqn payload written h f =
    let k = read_flags s.side (offers_of s.side s.config) (was_strict s.cause) payload h.names h.reads.read in
    opens_flagged says s.side (is_gex h.names.kex) s _ written next h.opens (λ w. k.strict w)
taken_flagged says s (AwaitsGroup o) next seqn payload written h f = subst
    (λ (x : Stage). IsFlagged s (names_in_stage x)) (sym h.leads.next_is) f
taken_flagged says s (AwaitsReply o gex local public) next seqn payload written h f = subst
    (λ (x : Stage). IsFlagged s (names_in_stage x)) (sym h.leads.next_is) f
taken_flagged says s (AwaitsRequest o) next seqn payload written h f = subst
    (λ (x : Stage). IsFlagged s (names_in_stage x)) (sym h.leads.next_is) f
taken_flagged says s (AwaitsValue o gex) next seqn payload written h f = subst
    (λ (x : Stage). IsFlagged s (names_in_stage x)) (sym h.leads.next_is) f
taken_flagged says s (AwaitsNewkeys x m k) next seqn payload written h f = absurd h

pub dropped_flagged : (s : Setting) (stage : Stage) → IsFlagged s (names_in_stage stage)
    → IsFlagged s (names_in_stage (guess_dropped stage))
dropped_flagged s (Created own) f = f
dropped_flagged s (AwaitsGroup o) f = f
dropped_flagged s (AwaitsReply o gex local public) f = f
dropped_flagged s (AwaitsRequest o) f = f
dropped_flagged s (AwaitsValue o gex) f = f
dropped_flagged s (AwaitsNewkeys x m k) f = f
