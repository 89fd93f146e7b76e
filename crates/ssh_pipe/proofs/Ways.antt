-- Moves of a side, one behind the other, and what was written of its output.
use Rattle.std.proofs.Common.{inl, inr, ◌≡◌, ℕ, List, [], ◌∷◌, ◌++◌, take, drop, map, Option, Some, None, IfSome, Result, Ok, Err, OnOk, OnErr, IfErr, unwrap_or, ◌⊎◌, Bool, true, false, refl, sym, ap, ◌∙◌, subst, append_assoc, append-nil}
use Rattle.std.proofs.lemmas.List.{take-append-drop}
use Rattle.ssh_wire.specs.Lines.{id_text}
use Rattle.ssh_wire.specs.Reading.{IdReading}
use Rattle.ssh_wire.specs.Outside.{Appends, AppendsFront, IsAtEnd, ReachesEnd, TakesFront, TakesNext}
use Rattle.ssh_wire.specs.declared.error.Error.{Error}
use Rattle.ssh_wire.specs.declared.error.Error.TheVariants as errors
use Rattle.ssh_kex.specs.Refusals.{Denies}
use Rattle.ssh_kex.specs.Setting.{Says}
use Rattle.ssh_kex.specs.declared.config.Config.{Config}
use Rattle.ssh_kex.specs.declared.exchange.FinishedExchange.{FinishedExchange}
use Rattle.ssh_kex.specs.declared.exchange.ServerHost.{ServerHost}
use Rattle.ssh_rules.specs.Refusing.{RefusesPiece}
use Rattle.ssh_rules.specs.Log.{sent_bytes, delivered_in}
use Rattle.ssh_rules.specs.Machine.{Event}
use Rattle.ssh_wire.specs.declared.side.Side.TheVariants.{Client, Server}
use Rattle.ssh_wire.specs.declared.side.Side.{Side}
use Rattle.ssh_rules.specs.Standing.{Acts, HearsBy, OfFault, OfMemory, OfPacket, OfVersion, RefusalCause, RefusesInput, Standing, Submitted, TakesInput, is_outside}
use Rattle.ssh_rules.specs.Valid.{is_good_payload}
use Rattle.ssh_rules.proofs.any_bytes.FedSides.{none_delivered}
use Rattle.ssh_service.proofs.Lemmas.{grant_good}
use Rattle.ssh_transport.proofs.Lemmas.{Denying, Weaker, input_still, piece_still, steps_weaker, submitted_still}
use Rattle.ssh_service.specs.Messages.{spelling}
use Rattle.ssh_service.specs.declared.message.ServiceMessage.TheVariants.{Request}
use Rattle.ssh_pipe.specs.Desks.{AreReplies, DeskState, HasAnswered, IsAsking, IsSaid, LetsNobodyIn, SaysBefore, first_of, first_said, login_service, reply_to, was_granted}
use Rattle.ssh_pipe.specs.declared.desk.Reply.{Reply}
use Rattle.ssh_pipe.specs.declared.desk.Reply.TheVariants as replies
use Rattle.ssh_pipe.specs.declared.desk.Reply.TheVariants.{Message}
use Rattle.ssh_pipe.specs.Talks.{AnswersMore, Ends, EndsRefused, EndsWell, GetsReply, HandsReplies, HasFault, IsCutAt, IsEndFor, IsGranted, LeavesNone, Fed, FedLast, Follows, Goes, Handed, Move, Moves, MovesBy, SaysBack, SaysFirst, TalksOn, fed_in, piece_of, said_in, untouched}
use Rattle.ssh_pipe.specs.declared.end.TalkEnd.{TalkEnd}
use Rattle.ssh_pipe.specs.declared.end.TalkEnd.TheVariants.{Disconnected, Exhausted, Granted, InputEnded, NotServed, Refused, SinkFailed, SourceFailed}

-- ---- what stands in front of the output and of what was delivered changes no move

acts_under : (says : Says) (s : List ℕ) (d : List (List ℕ)) (old : Standing) (es : List Event) (new : Standing) → Acts says old es new → Acts says (untouched s d old) es (untouched s d new)
acts_under says s d old es new h = record {
  side = h.side;
  config = h.config;
  steps = h.steps;
  output = ap (λ x. s ++ x) h.output ∙ sym (append_assoc s old.output (sent_bytes old.side old.state.writing es));
  delivered = ap (λ x. d ++ x) h.delivered ∙ sym (append_assoc d old.delivered (delivered_in es));
  quiet = h.quiet;
  live = h.live;
}

hears_under : (cause : RefusalCause) (s : List ℕ) (d : List (List ℕ)) (old : Standing) (piece : List ℕ) (es : List Event) (line : IdReading) (behind : List ℕ) → HearsBy cause old piece es line behind → HearsBy cause (untouched s d old) piece es line behind
hears_under (OfFault fault) s d old piece es line behind h = h
hears_under (OfPacket i) s d old piece es line behind h = h
hears_under OfVersion s d old piece es line behind h = h
hears_under OfMemory s d old piece es line behind h = h

says_under : (says : Says) (s : List ℕ) (d : List (List ℕ)) (m : Move) (old new : Standing) → MovesBy says old m new → MovesBy says (untouched s d old) m (untouched s d new)
says_under says s d (Fed piece) old new h = record {
  events = h.events;
  acts = acts_under says s d old h.events new h.acts;
  input = h.input;
  behind = h.behind;
  line = h.line;
  read = h.read;
  part = h.part;
  small = h.small;
}
says_under says s d (FedLast piece) old new (cause, h) = (
  cause,
  record {
    at = h.at;
    events = h.events;
    side = h.side;
    config = h.config;
    steps = h.steps;
    input = h.input;
    output = ap (λ x. s ++ x) h.output ∙ sym (append_assoc s old.output (sent_bytes old.side old.state.writing h.events));
    delivered = ap (λ x. d ++ x) h.delivered ∙ sym (append_assoc d old.delivered (delivered_in h.events));
    records = h.records;
    failed = h.failed;
    nothing = h.nothing;
    done = h.done;
    line = h.line;
    behind = h.behind;
    heard = hears_under cause s d old piece h.events h.line h.behind h.heard;
    left = h.left;
    read = h.read;
    next = h.next;
  },
)
says_under says s d (Handed payload) old new (said, h) = (
  said,
  record {
    events = h.events;
    acts = acts_under says s d old h.events new h.acts;
    one = h.one;
    none_read = h.none_read;
    unasked = h.unasked;
    silent = h.silent;
    line = h.line;
    waiting = h.waiting;
  },
)

move_under : (says : Says) (s : List ℕ) (d : List (List ℕ)) (m : Move) (old new : Standing) → Moves says old m new → Moves says (untouched s d old) m (untouched s d new)
move_under says s d m old new h = (h.0, says_under says s d m old new h.1)

follows_under : (says : Says) (s : List ℕ) (d : List (List ℕ)) (ms : List Move) (old new : Standing) → Follows says old ms new → Follows says (untouched s d old) ms (untouched s d new)
follows_under says s d [] old new h = ap (untouched s d) h
follows_under says s d (m ∷ ms) old new h = (untouched s d h.0, move_under says s d m old h.0 h.1, follows_under says s d ms h.0 new h.2)

follows_join : (says : Says) (ms ns : List Move) (old mid new : Standing) → Follows says old ms mid → Follows says mid ns new → Follows says old (ms ++ ns) new
follows_join says [] ns old mid new h k = subst (λ t. Follows says t ns new) h k
follows_join says (m ∷ ms) ns old mid new h k = (h.0, h.1, follows_join says ms ns h.0 mid new h.2 k)

fed_join : (ms ns : List Move) → fed_in (ms ++ ns) ≡ fed_in ms ++ fed_in ns
fed_join [] ns = refl
fed_join (m ∷ ms) ns = ap (λ x. piece_of m ++ x) (fed_join ms ns) ∙ sym (append_assoc (piece_of m) (fed_in ms) (fed_in ns))

said_join : (ms ns : List Move) → said_in (ms ++ ns) ≡ said_in ms ++ said_in ns
said_join [] ns = refl
said_join (Fed piece ∷ ms) ns = said_join ms ns
said_join (FedLast piece ∷ ms) ns = said_join ms ns
said_join (Handed payload ∷ ms) ns = ap (λ l. payload ∷ l) (said_join ms ns)

said_handed : (payloads : List (List ℕ)) → said_in (map Handed payloads) ≡ payloads
said_handed [] = refl
said_handed (p ∷ payloads) = ap (λ l. p ∷ l) (said_handed payloads)

-- ---- sources and sinks

pub appends_join : (a b : List ℕ) (old mid new : Option (List ℕ)) → Appends a old mid → Appends b mid new → Appends (a ++ b) old new
appends_join a b None mid new h k = tt
appends_join a b (Some held) mid new h k =
    let more = subst (λ m. Appends b m new) h k in
    more ∙ ap Some (append_assoc held a b)

pub appends_none : (held : Option (List ℕ)) → Appends [] held held
appends_none None = tt
appends_none (Some held) = ap Some (sym (append-nil held))

pub takes_none : (left : Option (List ℕ)) → TakesFront [] left left
takes_none None = tt
takes_none (Some left) = (left, refl, refl)

pub takes_join : (a b : List ℕ) (old mid new : Option (List ℕ)) → TakesFront a old mid → TakesFront b mid new → TakesFront (a ++ b) old new
takes_join a b None mid new h k = tt
takes_join a b (Some left) mid new (rest, split, at) k =
    let more = subst (λ m. TakesFront b m new) at k in
    (more.0, split ∙ (ap (λ r. a ++ r) more.1 ∙ sym (append_assoc a b more.0)), more.2)

-- ---- ways

-- nothing was done
pub goes_nowhere : (says : Says) (t : Standing) (held : Option (List ℕ)) → Goes says t held [] t held
goes_nowhere says t held = record { moves = []; sent = []; answered = []; follows = refl; fed_is = refl; written = appends_none held }

-- one way behind another
pub goes_join : (says : Says) (a : Standing) (h0 : Option (List ℕ)) (f : List ℕ) (b : Standing) (h1 : Option (List ℕ)) (g : List ℕ) (c : Standing) (h2 : Option (List ℕ))
    → Goes says a h0 f b h1 → Goes says b h1 g c h2 → Goes says a h0 (f ++ g) c h2
goes_join says a h0 f b h1 g c h2 x y = record {
  moves = x.moves ++ y.moves;
  sent = x.sent ++ y.sent;
  answered = x.answered ++ y.answered;
  follows = follows_join says x.moves y.moves a (untouched x.sent x.answered b) (untouched (x.sent ++ y.sent) (x.answered ++ y.answered) c) x.follows
      (subst (λ t. Follows says (untouched x.sent x.answered b) y.moves t) both (follows_under says x.sent x.answered y.moves b (untouched y.sent y.answered c) y.follows));
  fed_is = fed_join x.moves y.moves ∙ (ap (λ l. l ++ fed_in y.moves) x.fed_is ∙ ap (λ l. f ++ l) y.fed_is);
  written = appends_join x.sent y.sent h0 h1 h2 x.written y.written;
} where
  both : untouched x.sent x.answered (untouched y.sent y.answered c) ≡ untouched (x.sent ++ y.sent) (x.answered ++ y.answered) c
  both = ap (λ (o : List ℕ). record c { output = o; delivered = x.answered ++ (y.answered ++ c.delivered) }) (sym (append_assoc x.sent y.sent c.output))
      ∙ ap (λ (d : List (List ℕ)). record c { output = (x.sent ++ y.sent) ++ c.output; delivered = d }) (sym (append_assoc x.answered y.answered c.delivered))

-- one that feeds nothing behind another
pub goes_on : (says : Says) (a : Standing) (h0 : Option (List ℕ)) (f : List ℕ) (b : Standing) (h1 : Option (List ℕ)) (c : Standing) (h2 : Option (List ℕ))
    → Goes says a h0 f b h1 → Goes says b h1 [] c h2 → Goes says a h0 f c h2
goes_on says a h0 f b h1 c h2 x y =
    let j = goes_join says a h0 f b h1 [] c h2 x y in
    record { moves = j.moves; sent = j.sent; answered = j.answered; follows = j.follows; fed_is = j.fed_is ∙ append-nil f; written = j.written }

-- all of the output was written
pub goes_sent : (says : Says) (t new : Standing) (held held' : Option (List ℕ)) → new ≡ record t { output = [] } → Appends t.output held held' → Goes says t held [] new held'
goes_sent says t new held held' is w = record {
  moves = [];
  sent = t.output;
  answered = [];
  follows = ap (untouched t.output []) is ∙ ap (λ (o : List ℕ). record t { output = o }) (append-nil t.output);
  fed_is = refl;
  written = w;
}

-- a front of it
pub goes_front : (says : Says) (t : Standing) (held held' : Option (List ℕ)) (front : AppendsFront t.output held held') → Goes says t held [] (record t { output = drop front.0 t.output }) held'
goes_front says t held held' (n, within, w) = record {
  moves = [];
  sent = take n t.output;
  answered = [];
  follows = ap (λ (o : List ℕ). record t { output = o }) (take-append-drop n t.output);
  fed_is = refl;
  written = w;
}

-- a piece was taken, and what it delivered was taken to be answered
pub goes_fed : (says : Says) (t : Standing) (piece : List ℕ) (fed new : Standing) (held : Option (List ℕ)) → t.failed ≡ false → TakesInput says t piece fed → new ≡ record fed { delivered = [] } → Goes says t held piece new held
goes_fed says t piece fed new held live h is = record {
  moves = Fed piece ∷ [];
  sent = [];
  answered = fed.delivered;
  follows = (fed, (live, h), ap (untouched [] fed.delivered) is ∙ ap (λ (d : List (List ℕ)). record fed { delivered = d }) (append-nil fed.delivered));
  fed_is = append-nil piece;
  written = appends_none held;
}

-- a piece was taken, and nothing was made of what it delivered
pub goes_taken : (says : Says) (t : Standing) (piece : List ℕ) (new : Standing) (held : Option (List ℕ)) → t.failed ≡ false → TakesInput says t piece new → Goes says t held piece new held
goes_taken says t piece new held live h = record {
  moves = Fed piece ∷ [];
  sent = [];
  answered = [];
  follows = (new, (live, h), refl);
  fed_is = append-nil piece;
  written = appends_none held;
}

-- a piece was refused
pub goes_refused : (says : Says) (t : Standing) (piece : List ℕ) (new : Standing) (held : Option (List ℕ)) (cause : RefusalCause) → t.failed ≡ false → RefusesInput says t piece cause new → Goes says t held piece new held
goes_refused says t piece new held cause live h = record {
  moves = FedLast piece ∷ [];
  sent = [];
  answered = [];
  follows = (new, (live, (cause, h)), refl);
  fed_is = append-nil piece;
  written = appends_none held;
}

-- payloads were submitted
submits_feed : (payloads : List (List ℕ)) → fed_in (map Handed payloads) ≡ []
submits_feed [] = refl
submits_feed (p ∷ payloads) = submits_feed payloads

pub goes_submitted : (says : Says) (t : Standing) (payloads : List (List ℕ)) (new : Standing) (held : Option (List ℕ)) → Follows says t (map Handed payloads) new → Goes says t held [] new held
goes_submitted says t payloads new held h = record {
  moves = map Handed payloads;
  sent = [];
  answered = [];
  follows = h;
  fed_is = submits_feed payloads;
  written = appends_none held;
}

-- ---- what parts say later they say of themselves as they were

says_weaker : (x y : Says) → Weaker x y → (m : Move) (old new : Standing) → MovesBy x old m new → MovesBy y old m new
says_weaker x y w (Fed piece) old new h = (input_still x y w old piece new h).0
says_weaker x y w (FedLast piece) old new (cause, h) = (
  cause,
  record {
    at = h.at;
    events = h.events;
    side = h.side;
    config = h.config;
    steps = steps_weaker x y w old.side old.config (id_text old.config.id) h.events old.state h.at h.steps;
    input = h.input;
    output = h.output;
    delivered = h.delivered;
    records = h.records;
    failed = h.failed;
    nothing = h.nothing;
    done = h.done;
    line = h.line;
    behind = h.behind;
    heard = h.heard;
    left = h.left;
    read = h.read;
    next = h.next;
  },
)
says_weaker x y w (Handed payload) old new (said, h) = (said, submitted_still x y w old payload new h)

move_weaker : (x y : Says) → Weaker x y → (m : Move) (old new : Standing) → Moves x old m new → Moves y old m new
move_weaker x y w m old new h = (h.0, says_weaker x y w m old new h.1)

follows_weaker : (x y : Says) → Weaker x y → (ms : List Move) (old new : Standing) → Follows x old ms new → Follows y old ms new
follows_weaker x y w [] old new h = h
follows_weaker x y w (m ∷ ms) old new h = (h.0, move_weaker x y w m old h.0 h.1, follows_weaker x y w ms h.0 new h.2)

pub goes_weaker : (x y : Says) → Weaker x y → (a : Standing) (h0 : Option (List ℕ)) (f : List ℕ) (b : Standing) (h1 : Option (List ℕ)) → Goes x a h0 f b h1 → Goes y a h0 f b h1
goes_weaker x y w a h0 f b h1 g = record {
  moves = g.moves;
  sent = g.sent;
  answered = g.answered;
  follows = follows_weaker x y w g.moves a (untouched g.sent g.answered b) g.follows;
  fed_is = g.fed_is;
  written = g.written;
}

-- ---- what a desk answered

before_more : (reply : Reply) (said rest more : List (List ℕ)) → SaysBefore reply said rest → SaysBefore reply (said ++ more) (rest ++ more)
before_more replies.Silent said rest more h = ap (λ l. l ++ more) h
before_more (Message payload) said rest more h = ap (λ l. l ++ more) h
before_more replies.NotServed said rest more h = h
before_more (replies.Bad e) said rest more h = h

replies_join : (side : Side) (earlier xs ys a b : List (List ℕ)) → AreReplies side earlier xs a → AreReplies side (earlier ++ xs) ys b → AreReplies side earlier (xs ++ ys) (a ++ b)
replies_join side earlier [] ys a b h k = subst (λ l. AreReplies side earlier ys (l ++ b)) (sym h) (subst (λ l. AreReplies side l ys b) (append-nil earlier) k)
replies_join side earlier (p ∷ xs) ys a b h k =
    (h.0 ++ b, before_more (reply_to side earlier p) a h.0 b h.1, replies_join side (earlier ++ p ∷ []) xs ys h.0 b h.2 (subst (λ l. AreReplies side l ys b) (sym (append_assoc earlier (p ∷ []) xs)) k))

pub answers_none : (d : DeskState) → AnswersMore d [] [] d
answers_none d = (refl, λ earlier h. subst (λ l. HasAnswered d l) (sym (append-nil earlier)) h, λ earlier h. refl)

pub answers_join : (d mid d' : DeskState) (xs ys a b : List (List ℕ)) → AnswersMore d xs a mid → AnswersMore mid ys b d' → AnswersMore d (xs ++ ys) (a ++ b) d'
answers_join d mid d' xs ys a b h k = (
  k.0 ∙ h.0,
  λ earlier z. subst (λ l. HasAnswered d' l) (append_assoc earlier xs ys) (k.1 (earlier ++ xs) (h.1 earlier z)),
  λ earlier z. replies_join d.side earlier xs ys a b (h.2 earlier z) (subst (λ s. AreReplies s (earlier ++ xs) ys b) h.0 (k.2 (earlier ++ xs) (h.1 earlier z))),
)

-- what is said behind a way
said_behind : (p q : DeskState) (end : TalkEnd) (first xs ys a : List (List ℕ)) (ms ns : List Move) → said_in ms ≡ first ++ a → AnswersMore p xs a q → SaysBack q [] ys ns end → SaysBack p first (xs ++ ys) (ms ++ ns) end
said_behind p q end first xs ys a ms ns is k (inl (e, at, unmoved, unanswered)) = inr (λ earlier z. (
  a,
  said_join ms ns ∙ (ap (λ (l : List Move). said_in ms ++ said_in l) unmoved ∙ (append-nil (said_in ms) ∙ is)),
  subst (λ l. AreReplies p.side earlier (xs ++ l) a) (sym unanswered) (subst (λ l. AreReplies p.side earlier l a) (sym (append-nil xs)) (k.2 earlier z)),
))
said_behind p q end first xs ys a ms ns is k (inr f) = inr (λ earlier z.
    let r = f (earlier ++ xs) (k.1 earlier z) in (
      a ++ r.0,
      said_join ms ns ∙ (ap (λ l. l ++ said_in ns) is ∙ (append_assoc first a (said_in ns) ∙ ap (λ l. first ++ (a ++ l)) r.1)),
      replies_join p.side earlier xs ys a r.0 (k.2 earlier z) (subst (λ s. AreReplies s (earlier ++ xs) ys r.0) k.0 r.2),
    ))

-- where nothing was answered, nothing is said
said_none : (d : DeskState) (moves : List Move) (end : TalkEnd) → said_in moves ≡ [] → SaysBack d [] [] moves end
said_none d moves end is = inr (λ earlier z. ([], is, refl))

pub reply_behind : (d mid : DeskState) (xs ys a : List (List ℕ)) (reply : Reply) → AnswersMore d xs a mid → GetsReply mid ys reply → GetsReply d (xs ++ ys) reply
reply_behind d mid xs ys a reply h g = record {
  before = xs ++ g.before;
  payload = g.payload;
  behind = g.behind;
  all = append_assoc xs g.before (g.payload ∷ g.behind) ∙ ap (λ l. xs ++ l) g.all;
  reply_is = λ earlier a. ap (λ s. reply_to s (earlier ++ (xs ++ g.before)) g.payload) (sym h.0)
      ∙ (ap (λ l. reply_to mid.side l g.payload) (sym (append_assoc earlier xs g.before)) ∙ g.reply_is (earlier ++ xs) (h.1 earlier a));
}

-- ---- what is left of what was delivered

-- payloads that are handed to a side deliver none
handed_keeps : (says : Says) (payloads : List (List ℕ)) (old new : Standing) → Follows says old (map Handed payloads) new → new.delivered ≡ old.delivered
handed_keeps says [] old new h = ap (λ (t : Standing). t.delivered) h
handed_keeps says (p ∷ payloads) old new h =
    let sends = h.1.1.1 in
    handed_keeps says payloads h.0 new h.2 ∙ (sends.acts.delivered ∙ (ap (λ l. old.delivered ++ l) (none_delivered sends.events sends.none_read) ∙ append-nil old.delivered))

left_nowhere : (end : TalkEnd) (at : Standing) → at.delivered ≡ [] → LeavesNone end at
left_nowhere InputEnded at n = n
left_nowhere Disconnected at n = tt
left_nowhere Granted at n = n
left_nowhere (Refused e) at n = tt
left_nowhere NotServed at n = tt
left_nowhere SourceFailed at n = n
left_nowhere SinkFailed at n = tt
left_nowhere Exhausted at n = n

left_cut : (p : DeskState) (payloads : List (List ℕ)) (end : TalkEnd) (at : Standing) → IsCutAt p payloads end → LeavesNone end at
left_cut p payloads InputEnded at cut = absurd cut
left_cut p payloads Disconnected at cut = tt
left_cut p payloads Granted at cut = absurd cut
left_cut p payloads (Refused e) at cut = tt
left_cut p payloads NotServed at cut = tt
left_cut p payloads SourceFailed at cut = absurd cut
left_cut p payloads SinkFailed at cut = tt
left_cut p payloads Exhausted at cut = absurd cut

left_refused : (e : Error) (end : TalkEnd) (at : Standing) → IsEndFor e end → LeavesNone end at
left_refused e end at (inl h) = subst (λ x. LeavesNone x at) (sym h.1) tt
left_refused e end at (inr h) = subst (λ x. LeavesNone x at) (sym h.1) tt

-- ---- ends

-- what is told of a piece that was refused stands under what was written and answered
piece_under : (says : Says) (denies : Denies) (untrusted : ServerHost → Type 0) (s : List ℕ) (d : List (List ℕ)) (old : Standing) (piece : List ℕ) (e : Error) (new : Standing)
    → RefusesPiece says denies untrusted old piece e new → RefusesPiece says denies untrusted (untouched s d old) piece e (untouched s d new)
unfolding says_under
piece_under says denies untrusted s d old piece e new h = record {
  cause = h.cause;
  refuses = (says_under says s d (FedLast piece) old new (h.cause, h.refuses)).1;
  answers = h.answers;
}

untouched_join : (s s' : List ℕ) (d d' : List (List ℕ)) (c : Standing) → untouched s d (untouched s' d' c) ≡ untouched (s ++ s') (d ++ d') c
untouched_join s s' d d' c =
    ap (λ (o : List ℕ). record c { output = o; delivered = d ++ (d' ++ c.delivered) }) (sym (append_assoc s s' c.output))
    ∙ ap (λ (l : List (List ℕ)). record c { output = (s ++ s') ++ c.output; delivered = l }) (sym (append_assoc d d' c.delivered))

refused_behind : (says : Says) (denies : Denies) (untrusted : ServerHost → Type 0) (a b : Standing) (ms ns : List Move) (s s' : List ℕ) (d d' : List (List ℕ)) (e : Error) (at : Standing)
    → Follows says a ms (untouched s d b) → EndsRefused says denies untrusted b ns e (untouched s' d' at) → EndsRefused says denies untrusted a (ms ++ ns) e (untouched (s ++ s') (d ++ d') at)
refused_behind says denies untrusted a b ms ns s s' d d' e at h r = record {
  earlier = ms ++ r.earlier;
  piece = r.piece;
  mid = untouched s d r.mid;
  moves_are = ap (λ l. ms ++ l) r.moves_are ∙ sym (append_assoc ms r.earlier (FedLast r.piece ∷ []));
  follows = follows_join says ms r.earlier a (untouched s d b) (untouched s d r.mid) h (follows_under says s d r.earlier b r.mid r.follows);
  refuses = subst (λ t. RefusesPiece says denies untrusted (untouched s d r.mid) r.piece e t) (untouched_join s s' d d' at) (piece_under says denies untrusted s d r.mid r.piece e (untouched s' d' at) r.refuses);
}

refused_weaker : (x y : Says) (d e : Denies) (u v : ServerHost → Type 0) → Denying y x e d → ((host : ServerHost) → v host → u host) → (old : Standing) (moves : List Move) (error : Error) (new : Standing)
    → EndsRefused y e v old moves error new → EndsRefused x d u old moves error new
refused_weaker x y d e u v w t old moves error new r = record {
  earlier = r.earlier;
  piece = r.piece;
  mid = r.mid;
  moves_are = r.moves_are;
  follows = follows_weaker y x w.weaker r.earlier old r.mid r.follows;
  refuses = piece_still y x e d v u w t r.mid r.piece error new r.refuses;
}

well_behind : (refused refused' : Error → Type 0) → ((e : Error) → refused e → refused' e) → (p q : DeskState) (xs ys a : List (List ℕ)) → AnswersMore p xs a q → (end : TalkEnd) (at : Standing) → EndsWell refused q ys end at → EndsWell refused' p (xs ++ ys) end at
well_behind refused refused' f p q xs ys a h InputEnded at w = w
well_behind refused refused' f p q xs ys a h Disconnected at w = (w.0, w.1, f errors.Disconnect w.2)
well_behind refused refused' f p q xs ys a h Granted at w = (
  w.0,
  w.1,
  record {
    client = sym h.0 ∙ w.2.client;
    granted = λ earlier a. ap (λ s. was_granted s (earlier ++ (xs ++ ys))) (sym h.0)
        ∙ (ap (λ l. was_granted q.side l) (sym (append_assoc earlier xs ys)) ∙ w.2.granted (earlier ++ xs) (h.1 earlier a));
    outside = w.2.outside;
  },
)
well_behind refused refused' f p q xs ys a h (Refused e) at (inl w) = inl (w.0, w.1, w.2, f e w.3)
well_behind refused refused' f p q xs ys a h (Refused e) at (inr w) = inr (w.0, cause w.1) where
  cause : ((e ≡ errors.Memory) ⊎ (HasFault at e ⊎ GetsReply q (ys ++ at.delivered) (replies.Bad e)))
      → ((e ≡ errors.Memory) ⊎ (HasFault at e ⊎ GetsReply p ((xs ++ ys) ++ at.delivered) (replies.Bad e)))
  cause (inl m) = inl m
  cause (inr (inl k)) = inr (inl k)
  cause (inr (inr g)) = inr (inr (subst (λ l. GetsReply p l (replies.Bad e)) (sym (append_assoc xs ys at.delivered)) (reply_behind p q xs (ys ++ at.delivered) a (replies.Bad e) h g)))
well_behind refused refused' f p q xs ys a h NotServed at w =
    (w.0, subst (λ l. GetsReply p l replies.NotServed) (sym (append_assoc xs ys at.delivered)) (reply_behind p q xs (ys ++ at.delivered) a replies.NotServed h w.1))
well_behind refused refused' f p q xs ys a h SourceFailed at w = w
well_behind refused refused' f p q xs ys a h SinkFailed at w = w
well_behind refused refused' f p q xs ys a h Exhausted at w = w

-- an end behind a way on which a side said what it says first, and replies
ends_after_way : (says : Says) (denies : Denies) (untrusted : ServerHost → Type 0) (p q : DeskState) (first said : List (List ℕ)) (a : Standing) (h0 : Option (List ℕ)) (f : List ℕ) (b : Standing) (h1 : Option (List ℕ)) (g : List ℕ) (h2 : Option (List ℕ)) (end : TalkEnd) (finished : List FinishedExchange)
    → (way : Goes says a h0 f b h1) → said_in way.moves ≡ first ++ said → AnswersMore p way.answered said q → (a.delivered ≡ [] → b.delivered ≡ []) → Ends says denies untrusted q [] b h1 g h2 end finished → Ends says denies untrusted p first a h0 (f ++ g) h2 end finished
unfolding goes_join
ends_after_way says denies untrusted p q first said a h0 f b h1 g h2 end finished way is answers all e = record {
  at = e.at;
  goes = goes_join says a h0 f b h1 g e.at h2 way e.goes;
  said = said_behind p q end first way.answered e.goes.answered said way.moves e.goes.moves is answers e.said;
  all = λ n. e.all (all n);
  records = e.records;
  well = well_behind
      (λ error. EndsRefused says denies untrusted b e.goes.moves error (untouched e.goes.sent e.goes.answered e.at))
      (λ error. EndsRefused says denies untrusted a (way.moves ++ e.goes.moves) error (untouched (way.sent ++ e.goes.sent) (way.answered ++ e.goes.answered) e.at))
      (λ error r. refused_behind says denies untrusted a b way.moves e.goes.moves way.sent e.goes.sent way.answered e.goes.answered error e.at way.follows r)
      p q way.answered e.goes.answered said answers end e.at e.well;
}

pub ends_after : (says : Says) (denies : Denies) (untrusted : ServerHost → Type 0) (p q : DeskState) (a : Standing) (h0 : Option (List ℕ)) (f : List ℕ) (b : Standing) (h1 : Option (List ℕ)) (g : List ℕ) (h2 : Option (List ℕ)) (end : TalkEnd) (finished : List FinishedExchange)
    → TalksOn says p a h0 f q b h1 → Ends says denies untrusted q [] b h1 g h2 end finished → Ends says denies untrusted p [] a h0 (f ++ g) h2 end finished
ends_after says denies untrusted p q a h0 f b h1 g h2 end finished on e = ends_after_way says denies untrusted p q [] (said_in on.goes.moves) a h0 f b h1 g h2 end finished on.goes refl on.answers on.all e

ends_weaker : (x y : Says) (d e : Denies) (u v : ServerHost → Type 0) → Denying y x e d → ((host : ServerHost) → v host → u host) → (p : DeskState) (first : List (List ℕ)) (a : Standing) (h0 : Option (List ℕ)) (f : List ℕ) (h1 : Option (List ℕ)) (end : TalkEnd) (finished : List FinishedExchange)
    → Ends y e v p first a h0 f h1 end finished → Ends x d u p first a h0 f h1 end finished
unfolding goes_weaker
ends_weaker x y d e u v w t p first a h0 f h1 end finished ends = record {
  at = ends.at;
  goes = goes_weaker y x w.weaker a h0 f ends.at h1 ends.goes;
  said = ends.said;
  all = ends.all;
  records = ends.records;
  well = well_behind
      (λ error. EndsRefused y e v a ends.goes.moves error (untouched ends.goes.sent ends.goes.answered ends.at))
      (λ error. EndsRefused x d u a ends.goes.moves error (untouched ends.goes.sent ends.goes.answered ends.at))
      (λ error r. refused_weaker x y d e u v w t a ends.goes.moves error (untouched ends.goes.sent ends.goes.answered ends.at) r)
      p p [] ends.goes.answered [] (answers_none p) end ends.at ends.well;
}

-- the same, of what the parts say under the configuration of each
pub ends_behind : (x y : Config → Says) (d e : Denies) (u v : ServerHost → Type 0) → ((k : Config) → Denying (y k) (x k) e d) → ((host : ServerHost) → v host → u host) → (p q : DeskState) (a : Standing) (h0 : Option (List ℕ)) (f : List ℕ) (b : Standing) (h1 : Option (List ℕ)) (g : List ℕ) (h2 : Option (List ℕ)) (end : TalkEnd) (finished : List FinishedExchange)
    → b.config ≡ a.config → TalksOn (x a.config) p a h0 f q b h1 → Ends (y b.config) e v q [] b h1 g h2 end finished → Ends (x a.config) d u p [] a h0 (f ++ g) h2 end finished
ends_behind x y d e u v w t p q a h0 f b h1 g h2 end finished same on ends =
    let P : Config → Type 0 = λ k. Ends (y k) e v q [] b h1 g h2 end finished in
    ends_after (x a.config) d u p q a h0 f b h1 g h2 end finished on (ends_weaker (x a.config) (y a.config) d e u v (w a.config) t q [] b h1 g h2 end finished (subst P same ends))

-- an end at which no turn is left
pub ends_spent : (says : Says) (denies : Denies) (untrusted : ServerHost → Type 0) (p q : DeskState) (a : Standing) (h0 : Option (List ℕ)) (f : List ℕ) (b : Standing) (h1 : Option (List ℕ)) → b.failed ≡ false → TalksOn says p a h0 f q b h1 → Ends says denies untrusted p [] a h0 f h1 Exhausted b.state.records
ends_spent says denies untrusted p q a h0 f b h1 live on = record {
  at = b;
  goes = on.goes;
  said = inr (λ earlier z. (said_in on.goes.moves, refl, on.answers.2 earlier z));
  all = on.all;
  records = refl;
  well = live;
}

-- a way behind a way
pub talks_nowhere : (says : Says) (p : DeskState) (t : Standing) (held : Option (List ℕ)) → TalksOn says p t held [] p t held
unfolding goes_nowhere
talks_nowhere says p t held = record { goes = goes_nowhere says t held; answers = answers_none p; all = λ n. n }

pub talks_after : (says : Says) (p q r : DeskState) (a : Standing) (h0 : Option (List ℕ)) (f : List ℕ) (b : Standing) (h1 : Option (List ℕ)) (g : List ℕ) (c : Standing) (h2 : Option (List ℕ))
    → TalksOn says p a h0 f q b h1 → TalksOn says q b h1 g r c h2 → TalksOn says p a h0 (f ++ g) r c h2
unfolding goes_join
talks_after says p q r a h0 f b h1 g c h2 x y = record {
  goes = goes_join says a h0 f b h1 g c h2 x.goes y.goes;
  answers = subst (λ l. AnswersMore p (x.goes.answered ++ y.goes.answered) l r) (sym (said_join x.goes.moves y.goes.moves)) (answers_join p q r x.goes.answered y.goes.answered (said_in x.goes.moves) (said_in y.goes.moves) x.answers y.answers);
  all = λ n. y.all (x.all n);
}

talks_weaker : (x y : Says) → Weaker x y → (p q : DeskState) (a : Standing) (h0 : Option (List ℕ)) (f : List ℕ) (b : Standing) (h1 : Option (List ℕ)) → TalksOn x p a h0 f q b h1 → TalksOn y p a h0 f q b h1
unfolding goes_weaker
talks_weaker x y w p q a h0 f b h1 on = record { goes = goes_weaker x y w a h0 f b h1 on.goes; answers = on.answers; all = on.all }

pub talks_behind : (x y : Config → Says) → ((k : Config) → Weaker (y k) (x k)) → (p q r : DeskState) (a : Standing) (h0 : Option (List ℕ)) (f : List ℕ) (b : Standing) (h1 : Option (List ℕ)) (g : List ℕ) (c : Standing) (h2 : Option (List ℕ))
    → b.config ≡ a.config → TalksOn (x a.config) p a h0 f q b h1 → TalksOn (y b.config) q b h1 g r c h2 → TalksOn (x a.config) p a h0 (f ++ g) r c h2
talks_behind x y w p q r a h0 f b h1 g c h2 same go on =
    let P : Config → Type 0 = λ k. TalksOn (y k) q b h1 g r c h2 in
    talks_after (x a.config) p q r a h0 f b h1 g c h2 go (talks_weaker (y a.config) (x a.config) (w a.config) q r b h1 g c h2 (subst P same on))

-- ---- what the functions of the talk do

submits_join : (says : Says) (ps qs : List (List ℕ)) (a b c : Standing) → Follows says a (map Handed ps) b → Follows says b (map Handed qs) c → Follows says a (map Handed (ps ++ qs)) c
submits_join says [] qs a b c h k = subst (λ t. Follows says t (map Handed qs) c) h k
submits_join says (p ∷ ps) qs a b c h k = (h.0, h.1, submits_join says ps qs h.0 b c h.2 k)

-- replies behind replies, where the parts are as they were
pub answers_more : {A H G : Type 0} (says : Config → A → H → G → Says) (config config' : Config) (a a' : A) (h h' : H) (g g' : G) (p q r : DeskState) (xs ys : List (List ℕ)) (old mid new : Standing)
    → config' ≡ config → a' ≡ a → h' ≡ h → g' ≡ g → HandsReplies (says config a h g) p old xs q mid → HandsReplies (says config' a' h' g') q mid ys r new → HandsReplies (says config a h g) p old (xs ++ ys) r new
answers_more says config config' a a' h h' g g' p q r xs ys old mid new c e k m first more =
    let same : HandsReplies (says config a h g) q mid ys r new =
    subst (λ x. HandsReplies (says x a h g) q mid ys r new) c
    (subst (λ x. HandsReplies (says config' x h g) q mid ys r new) e
    (subst (λ x. HandsReplies (says config' a' x g) q mid ys r new) k
    (subst (λ x. HandsReplies (says config' a' h' x) q mid ys r new) m more))) in
    (first.0 ++ same.0, submits_join (says config a h g) first.0 same.0 old mid new first.1 same.1, answers_join p q r xs ys first.0 same.0 first.2 same.2)

follows_one : (says : Says) (t : Standing) (payload : List ℕ) (new : Standing) → t.failed ≡ false → IsSaid payload → Submitted says t payload new → Follows says t (Handed payload ∷ []) new
follows_one says t payload new live said h = (new, (live, (said, h)), refl)

-- one payload was answered: by silence, or by a message
pub answers_silent : (says : Says) (d d' : DeskState) (t : Standing) (payload : List ℕ) (r : Reply) → r ≡ replies.Silent → d'.side ≡ d.side → ((earlier : List (List ℕ)) → HasAnswered d earlier → HasAnswered d' (earlier ++ payload ∷ [])) → ((earlier : List (List ℕ)) → HasAnswered d earlier → r ≡ reply_to d.side earlier payload)
    → HandsReplies says d t (payload ∷ []) d' t
answers_silent says d d' t payload r is side answered reply =
    ([], refl, (side, answered, λ earlier z. ([], subst (λ x. SaysBefore x [] []) (sym is ∙ reply earlier z) refl, refl)))

pub answers_message : (says : Says) (d d' : DeskState) (t new : Standing) (payload message slice : List ℕ) (r : Reply) → t.failed ≡ false → IsSaid message → slice ≡ message → Submitted says t slice new → r ≡ Message message → d'.side ≡ d.side → ((earlier : List (List ℕ)) → HasAnswered d earlier → HasAnswered d' (earlier ++ payload ∷ [])) → ((earlier : List (List ℕ)) → HasAnswered d earlier → r ≡ reply_to d.side earlier payload)
    → HandsReplies says d t (payload ∷ []) d' new
answers_message says d d' t new payload message slice r live said same h is side answered reply =
    (message ∷ [], follows_one says t message new live said (subst (λ s. Submitted says t s new) same h), (side, answered, λ earlier z. ([], subst (λ x. SaysBefore x (message ∷ []) []) (sym is ∙ reply earlier z) refl, refl)))

-- a piece was taken, and what it delivered was answered
pub talks_sends : (x y : Config → Says) → ((k : Config) → Weaker (y k) (x k)) → (p q : DeskState) (a : Standing) (held held' : Option (List ℕ)) (piece : List ℕ) (fed c : Standing)
    → a.failed ≡ false → fed.config ≡ a.config → held' ≡ held → TakesInput (x a.config) a piece fed → HandsReplies (y fed.config) p (record fed { delivered = [] }) fed.delivered q c → TalksOn (x a.config) p a held piece q c held'
unfolding goes_on goes_join goes_fed goes_weaker goes_submitted
talks_sends x y w p q a held held' piece fed c live same still takes answers =
    let b : Standing = record fed { delivered = [] } in
    let P : Config → Type 0 = λ k. HandsReplies (y k) p b fed.delivered q c in
    let s = subst P same answers in
    let later = goes_weaker (y a.config) (x a.config) (w a.config) b held [] c held (goes_submitted (y a.config) b s.0 c held s.1) in
    let on : TalksOn (x a.config) p a held piece q c held = record {
      goes = goes_on (x a.config) a held piece b held c held (goes_fed (x a.config) a piece fed b held live takes refl) later;
      answers = subst (λ l. AnswersMore p l (said_in (map Handed s.0)) q) (sym (append-nil fed.delivered)) (subst (λ l. AnswersMore p fed.delivered l q) (sym (said_handed s.0)) s.2);
      all = λ n. handed_keeps (y a.config) s.0 b c s.1;
    } in
    subst (λ h. TalksOn (x a.config) p a held piece q c h) (sym still) on

cut_well : (refused : Error → Type 0) (p : DeskState) (end : TalkEnd) (at : Standing) → at.failed ≡ false → IsCutAt p at.delivered end → EndsWell refused p [] end at
cut_well refused p InputEnded at live cut = absurd cut
cut_well refused p Disconnected at live cut = absurd cut
cut_well refused p Granted at live cut = absurd cut
cut_well refused p (Refused e) at live (inl m) = inr (live, inl m)
cut_well refused p (Refused e) at live (inr g) = inr (live, inr (inr g))
cut_well refused p NotServed at live cut = (live, cut)
cut_well refused p SourceFailed at live cut = absurd cut
cut_well refused p SinkFailed at live cut = absurd cut
cut_well refused p Exhausted at live cut = absurd cut

-- a piece was taken, and the talk ended at what it delivered
pub ends_cut : (says : Says) (denies : Denies) (untrusted : ServerHost → Type 0) (p : DeskState) (a : Standing) (held held' : Option (List ℕ)) (piece : List ℕ) (fed : Standing) (end : TalkEnd) (finished : List FinishedExchange)
    → a.failed ≡ false → held' ≡ held → TakesInput says a piece fed → IsCutAt p fed.delivered end → finished ≡ fed.state.records → Ends says denies untrusted p [] a held piece held' end finished
unfolding goes_taken
ends_cut says denies untrusted p a held held' piece fed end finished live still takes cut same =
    let ends : Ends says denies untrusted p [] a held piece held end finished = record {
      at = fed;
      goes = goes_taken says a piece fed held live takes;
      said = said_none p (Fed piece ∷ []) end refl;
      all = λ n. left_cut p fed.delivered end fed cut;
      records = sym same;
      well = cut_well (λ e. EndsRefused says denies untrusted a (Fed piece ∷ []) e (untouched [] [] fed)) p end fed takes.acts.live cut;
    } in
    subst (λ h. Ends says denies untrusted p [] a held piece h end finished) (sym still) ends

end_well : (refused : Error → Type 0) (p : DeskState) (answered : List (List ℕ)) (e : Error) (end : TalkEnd) (at : Standing) → at.output ≡ [] → at.failed ≡ true → refused e → IsEndFor e end → EndsWell refused p answered end at
end_well refused p answered e end at sent failed r (inl h) = subst (λ t. EndsWell refused p answered t at) (sym h.1) (sent, failed, subst refused h.0 r)
end_well refused p answered e end at sent failed r (inr h) = subst (λ t. EndsWell refused p answered t at) (sym h.1) (inl (sent, failed, h.0, r))

-- a piece was refused, and what was due before was written
pub ends_refused : (says : Says) (denies : Denies) (untrusted : ServerHost → Type 0) (p : DeskState) (a : Standing) (held held' : Option (List ℕ)) (piece : List ℕ) (fed new : Standing) (e : Error) (end : TalkEnd)
    → a.failed ≡ false → RefusesPiece says denies untrusted a piece e fed → (new ≡ record fed { output = [] }) × Appends fed.output held held' → IsEndFor e end → Ends says denies untrusted p [] a held piece held' end new.state.records
unfolding goes_on goes_join goes_refused goes_sent
ends_refused says denies untrusted p a held held' piece fed new e end live r sent is = record {
  at = new;
  goes = goes_on says a held piece fed held new held' (goes_refused says a piece fed held r.cause live r.refuses) (goes_sent says fed new held held' sent.0 sent.1);
  said = said_none p (FedLast piece ∷ []) end refl;
  all = λ n. left_refused e end new is;
  records = refl;
  well = end_well (λ error. EndsRefused says denies untrusted a (FedLast piece ∷ []) error (untouched fed.output [] new)) p [] e end new
      (ap (λ (t : Standing). t.output) sent.0) (ap (λ (t : Standing). t.failed) sent.0 ∙ r.refuses.failed)
      (record { earlier = []; piece = piece; mid = a; moves_are = refl; follows = refl; refuses = subst (λ t. RefusesPiece says denies untrusted a piece e t) (sym back) r }) is;
} where
  back : untouched fed.output [] new ≡ fed
  back = ap (untouched fed.output []) sent.0 ∙ ap (λ (o : List ℕ). record fed { output = o }) (append-nil fed.output)

-- and where the sink failed then
pub ends_unsent : (says : Says) (denies : Denies) (untrusted : ServerHost → Type 0) (p : DeskState) (a : Standing) (held held' : Option (List ℕ)) (piece : List ℕ) (fed new : Standing) (cause : RefusalCause)
    → a.failed ≡ false → RefusesInput says a piece cause fed → new ≡ fed → AppendsFront fed.output held held' → Ends says denies untrusted p [] a held piece held' SinkFailed new.state.records
unfolding goes_on goes_join goes_refused goes_front
ends_unsent says denies untrusted p a held held' piece fed new cause live refuses same (n, within, w) = record {
  at = record fed { output = drop n fed.output };
  goes = goes_on says a held piece fed held (record fed { output = drop n fed.output }) held' (goes_refused says a piece fed held cause live refuses) (goes_front says fed held held' (n, within, w));
  said = said_none p (FedLast piece ∷ []) SinkFailed refl;
  all = λ n. tt;
  records = sym (ap (λ (t : Standing). t.state.records) same);
  well = tt;
}

-- the sink failed
pub ends_front : (says : Says) (denies : Denies) (untrusted : ServerHost → Type 0) (p : DeskState) (t new : Standing) (held held' : Option (List ℕ)) → new ≡ t → AppendsFront t.output held held' → Ends says denies untrusted p [] t held [] held' SinkFailed new.state.records
unfolding goes_front
ends_front says denies untrusted p t new held held' same (n, within, w) = record {
  at = record t { output = drop n t.output };
  goes = goes_front says t held held' (n, within, w);
  said = said_none p [] SinkFailed refl;
  all = λ n. tt;
  records = sym (ap (λ (s : Standing). s.state.records) same);
  well = tt;
}

-- all was written before
talks_sent : (says : Says) (p : DeskState) (t mid : Standing) (held held' : Option (List ℕ)) → (mid ≡ record t { output = [] }) × Appends t.output held held' → TalksOn says p t held [] p mid held'
unfolding goes_sent
talks_sent says p t mid held held' sent = record { goes = goes_sent says t mid held held' sent.0 sent.1; answers = answers_none p; all = λ n. ap (λ (s : Standing). s.delivered) sent.0 ∙ n }

pub talks_sent_before : (x : Config → Says) (p q : DeskState) (t mid : Standing) (held held' held'' : Option (List ℕ)) (piece : List ℕ) (new : Standing) → (mid ≡ record t { output = [] }) × Appends t.output held held'
    → TalksOn (x mid.config) p mid held' piece q new held'' → TalksOn (x t.config) p t held piece q new held''
talks_sent_before x p q t mid held held' held'' piece new sent on =
    let P : Config → Type 0 = λ k. TalksOn (x k) p mid held' piece q new held'' in
    talks_after (x t.config) p p q t held [] mid held' piece new held'' (talks_sent (x t.config) p t mid held held' sent) (subst P (ap (λ (s : Standing). s.config) sent.0) on)

pub ends_sent_before : (x : Config → Says) (denies : Denies) (untrusted : ServerHost → Type 0) (p : DeskState) (t mid : Standing) (held held' held'' : Option (List ℕ)) (piece : List ℕ) (end : TalkEnd) (finished : List FinishedExchange) → (mid ≡ record t { output = [] }) × Appends t.output held held'
    → Ends (x mid.config) denies untrusted p [] mid held' piece held'' end finished → Ends (x t.config) denies untrusted p [] t held piece held'' end finished
ends_sent_before x denies untrusted p t mid held held' held'' piece end finished sent e =
    let P : Config → Type 0 = λ k. Ends (x k) denies untrusted p [] mid held' piece held'' end finished in
    ends_after (x t.config) denies untrusted p p t held [] mid held' piece held'' end finished (talks_sent (x t.config) p t mid held held' sent) (subst P (ap (λ (s : Standing). s.config) sent.0) e)

-- what a source gave
pub takes_next : (n : ℕ) (buffer : List ℕ) (old new : Option (List ℕ)) → TakesNext n buffer old new → TakesFront (take n buffer) old new
takes_next n buffer None new h = tt
takes_next n buffer (Some left) new h = (drop n left, sym (ap (λ b. b ++ drop n left) h.1 ∙ take-append-drop n left), h.2)

pub takes_nothing : (n : ℕ) (buffer : List ℕ) (old new : Option (List ℕ)) → n ≡ 0 → TakesNext n buffer old new → TakesFront [] old new
takes_nothing n buffer None new z h = tt
takes_nothing n buffer (Some left) new z h = (left, refl, h.2 ∙ ap (λ (k : ℕ). Some (drop k left)) z)

pub takes_same : (old new : Option (List ℕ)) → new ≡ old → TakesFront [] old new
takes_same old new is = subst (λ m. TakesFront [] old m) (sym is) (takes_none old)

ok_no_err : {A E : Type 0} (a : A) (e : E) → Ok a ≡ Err e → ⊥
ok_no_err a e h = cc

not_true : (b : Bool) → (b ≡ true → ⊥) → b ≡ false
not_true true never = absurd (never refl)
not_true false never = refl

-- a side that has failed submits nothing
pub on_ok_first : {A E : Type 0} (r : Result A E) (e : E) (says : Says) (side : Side) (t : Standing) (o : Option (List ℕ)) (payload slice : List ℕ) (new : Standing) → (t.failed ≡ true → r ≡ Err e) → IsSaid slice → o ≡ Some payload → o ≡ first_of side → slice ≡ payload → OnOk r (Submitted says t slice new) → OnOk r (SaysFirst says side t new)
on_ok_first (Ok a) e says side t o payload slice new dead said is first same h =
    subst (λ (x : Option (List ℕ)). Follows says t (map Handed (first_said x)) new) (ap Some same ∙ (sym is ∙ first)) (follows_one says t slice new (not_true t.failed (λ f. ok_no_err a e (dead f))) said h)
on_ok_first (Err f) e says side t o payload slice new dead said is first same h = tt

-- a side that says nothing first
pub none_first : (says : Says) (side : Side) (t : Standing) (o : Option (List ℕ)) → o ≡ None → o ≡ first_of side → SaysFirst says side t t
none_first says side t o is first = subst (λ (x : Option (List ℕ)). Follows says t (map Handed (first_said x)) t) (sym is ∙ first) refl

pub some_weaker : {A : Type 0} (o : Option A) (P Q : A → Type 0) → ((x : A) → P x → Q x) → IfSome o P → IfSome o Q
some_weaker None P Q f h = tt
some_weaker (Some x) P Q f h = f x h

-- nothing was done, and the talk ended
pub ends_nowhere : (says : Says) (denies : Denies) (untrusted : ServerHost → Type 0) (p : DeskState) (t : Standing) (held : Option (List ℕ)) (end : TalkEnd) → EndsWell (λ e. EndsRefused says denies untrusted t [] e (untouched [] [] t)) p [] end t → Ends says denies untrusted p [] t held [] held end t.state.records
unfolding goes_nowhere
ends_nowhere says denies untrusted p t held end well = record { at = t; goes = goes_nowhere says t held; said = said_none p [] end refl; all = left_nowhere end t; records = refl; well = well }

-- and it was not even begun
pub ends_unbegun : (says : Says) (denies : Denies) (untrusted : ServerHost → Type 0) (p : DeskState) (first : List (List ℕ)) (t : Standing) (held : Option (List ℕ)) (e : Error) (finished : List FinishedExchange) → EndsWell (λ e. EndsRefused says denies untrusted t [] e (untouched [] [] t)) p [] (Refused e) t → finished ≡ t.state.records → Ends says denies untrusted p first t held [] held (Refused e) finished
unfolding goes_nowhere
ends_unbegun says denies untrusted p first t held e finished well same = record { at = t; goes = goes_nowhere says t held; said = inl (e, refl, refl, refl); all = λ n. tt; records = sym same; well = well }

-- payloads were submitted first, by parts that are as they were
pub ends_begun : {A H G : Type 0} (says : Config → A → H → G → Says) (denies : A → H → G → Denies) (untrusted : H → ServerHost → Type 0) (p : DeskState) (a a' : A) (h h' : H) (g g' : G) (t mid : Standing) (held : Option (List ℕ)) (fed : List ℕ) (held' : Option (List ℕ)) (end : TalkEnd) (finished : List FinishedExchange)
    → mid.config ≡ t.config → a' ≡ a → h' ≡ h → g' ≡ g → SaysFirst (says t.config a h g) p.side t mid → Ends (says mid.config a' h' g') (denies a' h' g') (untrusted h') p [] mid held fed held' end finished → Ends (says t.config a h g) (denies a h g) (untrusted h) p (first_said (first_of p.side)) t held fed held' end finished
unfolding goes_submitted
ends_begun says denies untrusted p a a' h h' g g' t mid held fed held' end finished c e k m begun ends =
    let first = first_said (first_of p.side) in
    let same : Ends (says t.config a h g) (denies a h g) (untrusted h) p [] mid held fed held' end finished =
    subst (λ x. Ends (says x a h g) (denies a h g) (untrusted h) p [] mid held fed held' end finished) c
    (subst (λ x. Ends (says mid.config x h g) (denies x h g) (untrusted h) p [] mid held fed held' end finished) e
    (subst (λ x. Ends (says mid.config a' x g) (denies a' x g) (untrusted x) p [] mid held fed held' end finished) k
    (subst (λ x. Ends (says mid.config a' h' x) (denies a' h' x) (untrusted h') p [] mid held fed held' end finished) m ends))) in
    ends_after_way (says t.config a h g) (denies a h g) (untrusted h) p p first [] t held [] mid held fed held' end finished (goes_submitted (says t.config a h g) t first mid held begun) (said_handed first ∙ sym (append-nil first)) (answers_none p) (λ n. handed_keeps (says t.config a h g) first t mid begun ∙ n) same

-- the end is reached where none is left
pub at_end : (buffer : List ℕ) (old new : Option (List ℕ)) → TakesNext 0 buffer old new → IsAtEnd old → ReachesEnd old new
at_end buffer None new h k = tt
at_end buffer (Some left) new h k = h.2 ∙ ap Some k

pub reaches_later : (bytes : List ℕ) (old mid new : Option (List ℕ)) → TakesFront bytes old mid → ReachesEnd mid new → ReachesEnd old new
reaches_later bytes None mid new h k = tt
reaches_later bytes (Some left) mid new h k = subst (λ m. ReachesEnd m new) h.2 k

-- what a side makes of a payload, where it is a message
pub said_of : (r : Reply) (payload : List ℕ) → r ≡ Message payload → LetsNobodyIn r → IsSaid payload
said_of r payload is h = inl (subst LetsNobodyIn is h)

pub asked_of : (o : Option (List ℕ)) (payload : List ℕ) → o ≡ Some payload → IfSome o IsAsking → IsSaid payload
asked_of o payload is h =
    let P : Option (List ℕ) → Type 0 = λ x. IfSome x IsAsking in
    inr (subst P is h)

-- what a side makes of a payload may be submitted
pub message_good : (r : Reply) (payload : List ℕ) → r ≡ Message payload → LetsNobodyIn r → is_good_payload payload ≡ true
message_good r payload is h = by (subst LetsNobodyIn is h) where
  by : LetsNobodyIn (Message payload) → is_good_payload payload ≡ true
  by (inl failure) = ap is_good_payload failure
  by (inr grant) = grant_good payload grant

-- one payload of some ends the talk
pub cut_behind : (d mid : DeskState) (xs said : List (List ℕ)) (payload : List ℕ) (behind payloads : List (List ℕ)) (end : TalkEnd) → AnswersMore d xs said mid → xs ++ payload ∷ behind ≡ payloads → IsCutAt mid (payload ∷ []) end → IsCutAt d payloads end
cut_behind d mid xs said payload behind payloads end h all cut = by end cut where
  replied : (reply : Reply) → GetsReply mid (payload ∷ []) reply → GetsReply d payloads reply
  replied reply g =
      let k = reply_behind d mid xs (payload ∷ []) said reply h g in
      record {
        before = k.before;
        payload = k.payload;
        behind = k.behind ++ behind;
        all = sym (append_assoc k.before (k.payload ∷ k.behind) behind) ∙ (ap (λ l. l ++ behind) k.all ∙ (append_assoc xs (payload ∷ []) behind ∙ all));
        reply_is = k.reply_is;
      }

  by : (end : TalkEnd) → IsCutAt mid (payload ∷ []) end → IsCutAt d payloads end
  by InputEnded cut = cut
  by Disconnected cut = cut
  by Granted cut = cut
  by (Refused e) (inl m) = inl m
  by (Refused e) (inr g) = inr (replied (replies.Bad e) g)
  by NotServed cut = replied replies.NotServed cut
  by SourceFailed cut = cut
  by SinkFailed cut = cut
  by Exhausted cut = cut

-- the one payload gets this reply
pub one_reply : (d : DeskState) (payload : List ℕ) (r reply : Reply) → r ≡ reply → ((earlier : List (List ℕ)) → HasAnswered d earlier → r ≡ reply_to d.side earlier payload) → GetsReply d (payload ∷ []) reply
one_reply d payload r reply is h = record {
  before = [];
  payload = payload;
  behind = [];
  all = refl;
  reply_is = λ earlier a. ap (λ l. reply_to d.side l payload) (append-nil earlier) ∙ (sym (h earlier a) ∙ is);
}

-- a client's service was granted, and no exchange is open
pub granted_here : (d : DeskState) (t : Standing) → d.side ≡ Client → d.granted ≡ true → is_outside t.state.stands ≡ true → IsGranted d [] t
granted_here d t client granted outside = record {
  client = client;
  granted = λ earlier a. ap (λ l. was_granted d.side l) (append-nil earlier) ∙ (sym a.granted ∙ granted);
  outside = outside;
}

-- what a client sends first may be submitted
pub first_good : (o : Option (List ℕ)) (payload slice : List ℕ) → o ≡ Some payload → (side : Side) → o ≡ first_of side → slice ≡ payload → is_good_payload slice ≡ true
first_good o payload slice is Client first same =
    let text : spelling (Request login_service) ≡ payload = ap (λ (x : Option (List ℕ)). unwrap_or x []) (sym first ∙ is) in
    ap is_good_payload (same ∙ sym text)
first_good o payload slice is Server first same = let both : Some payload ≡ None = sym is ∙ first in cc

pub wants_memory : {A : Type 0} (r : Result A Error) (P : Type 0) → OnErr r ((r ≡ Err errors.Memory) × P) → IfErr r (λ e. e ≡ errors.Memory)
wants_memory (Ok a) P h = tt
wants_memory (Err e) P h = let is = h.0 in cc
