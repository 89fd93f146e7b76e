-- How often the calls on a link ask the parts of its sides.
use Rattle.std.proofs.Common.{◌≡◌, ℕ, ◌-◌, length, length-drop, min, Bool, true, false, List, [], ◌∷◌, ◌++◌, take, drop, refl, sym, ap, ◌∙◌, subst, arith, ◌⊎◌, inl, inr, Result, Ok, Err, OnOk, OnErr}
use Rattle.ssh_wire.specs.Lines.{id_text}
use Rattle.ssh_wire.specs.Reading.{Failed}
use Rattle.ssh_wire.specs.declared.error.Error.{Error}
use Rattle.ssh_wire.specs.declared.side.Side.{Side}
use Rattle.ssh_kex.specs.Refusals.{Denies}
use Rattle.ssh_kex.specs.Setting.{Says}
use Rattle.ssh_kex.specs.declared.exchange.ServerHost.{ServerHost}
use Rattle.ssh_rules.specs.Asking.{AsksUntil, AsksWithin, PartCalls, RefusesAsking}
use Rattle.ssh_rules.specs.Machine.{Asked, Event, ExchangeBegun}
use Rattle.ssh_rules.specs.Refusing.{RefusesPiece, RefusesPieceAsking}
use Rattle.ssh_rules.specs.Standing.{Acts, OfMemory, Rekeyed, RekeyedFrom, Standing, Submitted, TakesInput, is_outside}
use Rattle.ssh_rules.specs.declared.link.Mark.{Mark}
use Rattle.ssh_rules.specs.declared.link.Step.{Step}
use Rattle.ssh_rules.proofs.Lemmas.{asks_join, asks_steps, asks_still, begun_steps, refused_asking, refused_few}
use Rattle.ssh_transport.proofs.Lemmas.{Weaker, steps_weaker}
use Rattle.ssh_run.specs.Asking.{LinkAsks, PartAsks, PieceAsks, SideAsks, TurnsAsk}
use Rattle.ssh_run.specs.Carrying.{CarriedEnd, CarriedLink, CarriesTo, all_bytes, carried_count, last_link}
use Rattle.ssh_run.specs.RefusedCarrying.{RefusesCarrying, Telling}
use Rattle.ssh_run.proofs.LinkSoFar.{BothLive, RunsSoFar, TurnsSoFar, carries_weaker, repeats_live, repeats_weaker, steps_live}

-- the calls that were counted where no part changed
abbrev tally : {A H G : Type 0} (agreement : A → ℕ) (hosts : H → ℕ) (lookups : G → ℕ) → A → H → G → PartCalls
tally agreement hosts lookups a h g = record { agreement = agreement a; hosts = hosts h; lookups = lookups g }

pub counted_same : {A H G : Type 0} (agreement : A → ℕ) (hosts : H → ℕ) (lookups : G → ℕ) (a a' : A) (h h' : H) (g g' : G) → a' ≡ a → h' ≡ h → g' ≡ g → tally agreement hosts lookups a' h' g' ≡ tally agreement hosts lookups a h g
counted_same agreement hosts lookups a a' h h' g g' e f k = ap (λ x. tally agreement hosts lookups x h' g') e ∙ ap (λ x. tally agreement hosts lookups a x g') f ∙ ap (λ x. tally agreement hosts lookups a h x) k

-- ---- one side

acts_asks : (says : Says) (old new : Standing) (events : List Event) (n n' : PartCalls) → Acts says old events new → AsksWithin old.side old.state new.state n n' → SideAsks old new n n'
acts_asks says old new events n n' a w = record { side = a.side; later = begun_steps says old.side old.config (id_text old.config.id) events old.state new.state a.steps; within = w }

-- events without a piece ask nothing
pub acts_none : (says : Says) (old new : Standing) (events : List Event) (n : PartCalls) → Acts says old events new → SideAsks old new n n
acts_none says old new events n a = acts_asks says old new events n n a (asks_steps says old.side old.config (id_text old.config.id) events old.state new.state n a.steps)

-- where nothing happened
pub side_still : (old new : Standing) (n : PartCalls) → new ≡ old → SideAsks old new n n
side_still old new n e = subst (λ (t : Standing). SideAsks old t n n) (sym e) (record { side = refl; later = omega arith; within = asks_still old.side old.state old.state n refl refl })

pub side_join : (a b c : Standing) (n m k : PartCalls) → SideAsks a b n m → SideAsks b c m k → SideAsks a c n k
side_join a b c n m k p q = record {
  side = q.side ∙ p.side;
  later = (let x = p.later in let y = q.later in omega (arith, x, y));
  within = asks_join a.side a.state b.state c.state n m k p.later q.later p.within (subst (λ (s : Side). AsksWithin s b.state c.state m k) p.side q.within);
}

-- a piece that was taken, whose payloads were taken over
pub fed_asks : (says : Says) (old fed new : Standing) (piece : List ℕ) (n n' : PartCalls) → TakesInput says old piece fed → new ≡ record fed { delivered = [] } → AsksWithin old.side old.state fed.state n n' → SideAsks old new n n'
fed_asks says old fed new piece n n' t e w =
    let s = acts_asks says old fed t.events n n' t.acts w in
    subst (λ (x : Standing). SideAsks old x n n') (sym e) (record { side = s.side; later = s.later; within = s.within })

-- a payload that was submitted
pub submitted_asks : (says : Says) (old : Standing) (payload : List ℕ) (new : Standing) (n : PartCalls) → Submitted says old payload new → SideAsks old new n n
submitted_asks says old payload new n h = acts_none says old new h.events n h.acts

-- an exchange that was asked for
pub rekeyed_asks : (says : Says) (old new : Standing) (n : PartCalls) → Rekeyed says old new → SideAsks old new n n
rekeyed_asks says old new n h = by (is_outside old.state.stands) h where
  by : (b : Bool) → RekeyedFrom b says old new → SideAsks old new n n
  by true k = acts_none says old new (ExchangeBegun Asked k.item ∷ []) n k.acts
  by false k = side_still old new n k

-- where the counts stayed
pub side_same : (old new : Standing) (n n' : PartCalls) → n' ≡ n → SideAsks old new n n → SideAsks old new n n'
side_same old new n n' e a = subst (λ q. SideAsks old new n q) (sym e) a

-- ---- a piece that broke off

-- the bytes that are carried
pub piece_is : (wire waiting : List ℕ) (taken n k : ℕ) → waiting ≡ drop taken wire → k ≡ min n (length waiting) → take k waiting ≡ take (min n (length wire - taken)) (drop taken wire)
piece_is wire waiting taken n k e f = ap (λ q. take k q) e ∙ ap (λ j. take j (drop taken wire)) (f ∙ (ap (λ q. min n (length q)) e ∙ ap (λ m. min n m) (length-drop taken wire)))

-- as want of memory behind it leaves a transport
abbrev pub broken : Standing → Standing
broken t = record t { line = Failed; waiting = []; failed = true }

-- behind a piece that was taken
pub kept_asks : (says : Says) (old fed : Standing) (piece : List ℕ) (n n' : PartCalls) → TakesInput says old piece fed → AsksWithin old.side old.state fed.state n n' → RefusesAsking says old piece (broken fed) n n'
kept_asks says old fed piece n n' t w = record {
  cause = OfMemory;
  refuses = record {
    at = fed.state;
    events = t.events;
    side = t.acts.side;
    config = t.acts.config;
    steps = t.acts.steps;
    input = t.input;
    output = t.acts.output;
    delivered = t.acts.delivered;
    records = refl;
    failed = refl;
    nothing = refl;
    done = t.acts.quiet.not_called;
    line = fed.line;
    behind = t.behind;
    heard = inr t.line;
    left = fed.waiting;
    read = t.read;
    next = tt;
  };
  asks = until;
  few = refused_few says old.side old.config (id_text old.config.id) t.events OfMemory old.state fed.state n n' t.acts.steps until;
} where
  until : AsksUntil old.side OfMemory old.state fed.state n n'
  until = record { mid = n'; before = w; last = refl }

-- so where what it delivered isn't taken over
pub kept_piece : (says : Says) (e : CarriedEnd) (fed : Standing) (wire waiting : List ℕ) (n k : ℕ) (m m' : PartCalls) → waiting ≡ drop e.taken wire → k ≡ min n (length waiting) → TakesInput says e.transport (take k waiting) fed → AsksWithin e.transport.side e.transport.state fed.state m m' → PieceAsks says e wire n m m'
kept_piece says e fed wire waiting n k m m' w f t a = inr (record {
  left = broken fed;
  asks = subst (λ q. RefusesAsking says e.transport q (broken fed) m m') (piece_is wire waiting e.taken n k w f) (kept_asks says e.transport fed (take k waiting) m m' t a);
})

-- ---- a piece that is refused

pub refused_piece : (says : Says) (denies : Denies) (untrusted : ServerHost → Type 0) (e : CarriedEnd) (left : Standing) (wire waiting : List ℕ) (n k : ℕ) (error : Error) (m m' : PartCalls) → waiting ≡ drop e.taken wire → k ≡ min n (length waiting) → RefusesPieceAsking says denies untrusted e.transport (take k waiting) error left m m' → PieceAsks says e wire n m m'
refused_piece says denies untrusted e left wire waiting n k error m m' w f r = inr (record {
  left = left;
  asks = subst (λ q. RefusesAsking says e.transport q left m m') (piece_is wire waiting e.taken n k w f) (refused_asking says denies untrusted e.transport left (take k waiting) error m m' r);
})

-- and why
pub refuses_bytes : (t : Telling) (e : CarriedEnd) (left : Standing) (wire waiting : List ℕ) (n k : ℕ) (error : Error) (m m' : PartCalls) → waiting ≡ drop e.taken wire → k ≡ min n (length waiting) → RefusesPieceAsking t.says t.denies t.untrusted e.transport (take k waiting) error left m m' → RefusesCarrying t e wire n error
refuses_bytes t e left wire waiting n k error m m' w f r = inr (record {
  left = left;
  call = subst (λ q. RefusesPiece t.says t.denies t.untrusted e.transport q error left) (piece_is wire waiting e.taken n k w f) r.refused;
})

-- ---- both sides

-- a piece of which nothing was taken
piece_none : (says : Says) (e : CarriedEnd) (wire : List ℕ) (n : PartCalls) → PieceAsks says e wire 0 n n
piece_none says e wire n = inl refl

-- bytes that were carried to the client broke off
pub client_part : (client server : Says) (l : CarriedLink) (k : ℕ) (n n' m : PartCalls) → PieceAsks client l.client l.server.transport.output k n n' → PartAsks client server l n n' m m
client_part client server l k n n' m p = record {
  half = l;
  taken = inl refl;
  client_before = n;
  of_client = side_still l.client.transport l.client.transport n refl;
  client_count = k;
  client_last = p;
  server_before = m;
  of_server = side_still l.server.transport l.server.transport m refl;
  server_count = 0;
  server_last = piece_none server l.server l.client.transport.output m;
}

-- or to the server
pub server_part : (client server : Says) (l : CarriedLink) (k : ℕ) (n m m' : PartCalls) → PieceAsks server l.server l.client.transport.output k m m' → PartAsks client server l n n m m'
server_part client server l k n m m' p = record {
  half = l;
  taken = inl refl;
  client_before = n;
  of_client = side_still l.client.transport l.client.transport n refl;
  client_count = 0;
  client_last = piece_none client l.client l.server.transport.output n;
  server_before = m;
  of_server = side_still l.server.transport l.server.transport m refl;
  server_count = k;
  server_last = p;
}

-- of a wire that is the other's output
pub client_part_of : (client server : Says) (l : CarriedLink) (wire : List ℕ) (k : ℕ) (n n' m : PartCalls) → wire ≡ l.server.transport.output → PieceAsks client l.client wire k n n' → PartAsks client server l n n' m m
client_part_of client server l wire k n n' m e p = client_part client server l k n n' m (subst (λ (o : List ℕ). PieceAsks client l.client o k n n') e p)

pub server_part_of : (client server : Says) (l : CarriedLink) (wire : List ℕ) (k : ℕ) (n m m' : PartCalls) → wire ≡ l.client.transport.output → PieceAsks server l.server wire k m m' → PartAsks client server l n n m m'
server_part_of client server l wire k n m m' e p = server_part client server l k n m m' (subst (λ (o : List ℕ). PieceAsks server l.server o k m m') e p)

pub part_none : (client server : Says) (l : CarriedLink) (n m : PartCalls) → PartAsks client server l n n m m
part_none client server l n m = client_part client server l 0 n n m (piece_none client l.client l.server.transport.output n)

-- the server took all that waits, and what the client took broke off
pub half_part : (client server : Says) (l : CarriedLink) (e : CarriedEnd) (n n' m m' : PartCalls) → CarriesTo server l.server l.client.transport.output all_bytes e → SideAsks l.server.transport e.transport m m' → PieceAsks client l.client e.transport.output all_bytes n n' → PartAsks client server l n n' m m'
half_part client server l e n n' m m' t a p = record {
  half = record { client = l.client; server = e };
  taken = inr (t, refl);
  client_before = n;
  of_client = side_still l.client.transport l.client.transport n refl;
  client_count = all_bytes;
  client_last = p;
  server_before = m';
  of_server = a;
  server_count = 0;
  server_last = piece_none server e l.client.transport.output m';
}

pub half_part_of : (client server : Says) (l : CarriedLink) (e : CarriedEnd) (own theirs : List ℕ) (n n' m m' : PartCalls) → own ≡ l.client.transport.output → theirs ≡ e.transport.output → CarriesTo server l.server own all_bytes e → SideAsks l.server.transport e.transport m m' → PieceAsks client l.client theirs all_bytes n n' → PartAsks client server l n n' m m'
half_part_of client server l e own theirs n n' m m' x y t a p = half_part client server l e n n' m m' (subst (λ (o : List ℕ). CarriesTo server l.server o all_bytes e) x t) a (subst (λ (o : List ℕ). PieceAsks client l.client o all_bytes n n') y p)

-- ---- what later parts say of earlier ones

asking_weaker : (a b : Says) → Weaker a b → (old : Standing) (piece : List ℕ) (new : Standing) (n n' : PartCalls) → RefusesAsking a old piece new n n' → RefusesAsking b old piece new n n'
asking_weaker a b w old piece new n n' h =
    let r = h.refuses in
    record {
      cause = h.cause;
      refuses = record {
        at = r.at;
        events = r.events;
        side = r.side;
        config = r.config;
        steps = steps_weaker a b w old.side old.config (id_text old.config.id) r.events old.state r.at r.steps;
        input = r.input;
        output = r.output;
        delivered = r.delivered;
        records = r.records;
        failed = r.failed;
        nothing = r.nothing;
        done = r.done;
        line = r.line;
        behind = r.behind;
        heard = r.heard;
        left = r.left;
        read = r.read;
        next = r.next;
      };
      asks = h.asks;
      few = h.few;
    }

piece_weaker : (a b : Says) → Weaker a b → (e : CarriedEnd) (wire : List ℕ) (k : ℕ) (n n' : PartCalls) → PieceAsks a e wire k n n' → PieceAsks b e wire k n n'
piece_weaker a b w e wire k n n' (inl q) = inl q
piece_weaker a b w e wire k n n' (inr p) = inr (record { left = p.left; asks = asking_weaker a b w e.transport (take (carried_count e wire k) (drop e.taken wire)) p.left n n' p.asks })

part_weaker : (c c' s s' : Says) → Weaker c c' → Weaker s s' → (l : CarriedLink) (n n' m m' : PartCalls) → PartAsks c s l n n' m m' → PartAsks c' s' l n n' m m'
part_weaker c c' s s' v w l n n' m m' p = record {
  half = p.half;
  taken = by p.taken;
  client_before = p.client_before;
  of_client = p.of_client;
  client_count = p.client_count;
  client_last = piece_weaker c c' v p.half.client p.half.server.transport.output p.client_count p.client_before n' p.client_last;
  server_before = p.server_before;
  of_server = p.of_server;
  server_count = p.server_count;
  server_last = piece_weaker s s' w p.half.server p.half.client.transport.output p.server_count p.server_before m' p.server_last;
} where
  by : (p.half ≡ l) ⊎ (CarriesTo s l.server l.client.transport.output all_bytes p.half.server × (p.half.client ≡ l.client)) → (p.half ≡ l) ⊎ (CarriesTo s' l.server l.client.transport.output all_bytes p.half.server × (p.half.client ≡ l.client))
  by (inl e) = inl e
  by (inr t) = inr (carries_weaker s s' w l.server l.client.transport.output all_bytes p.half.server t.0, t.1)

turns_weaker_asks : (c c' s s' : Says) → Weaker c c' → Weaker s s' → (l : CarriedLink) (n n' m m' : PartCalls) → TurnsAsk c s l n n' m m' → TurnsAsk c' s' l n n' m m'
turns_weaker_asks c c' s s' v w l n n' m m' t = record {
  times = t.times;
  mid = t.mid;
  turns = repeats_weaker c c' s s' v w t.times l t.mid t.turns;
  client_before = t.client_before;
  of_client = t.of_client;
  server_before = t.server_before;
  of_server = t.of_server;
  part = part_weaker c c' s s' v w t.mid t.client_before n' t.server_before m' t.part;
}

-- ---- turns

-- a part of the first
pub turns_part : (c s : Says) (l : CarriedLink) (n n' m m' : PartCalls) → PartAsks c s l n n' m m' → TurnsAsk c s l n n' m m'
turns_part c s l n n' m m' p = record {
  times = 0;
  mid = l;
  turns = refl;
  client_before = n;
  of_client = side_still l.client.transport l.client.transport n refl;
  server_before = m;
  of_server = side_still l.server.transport l.server.transport m refl;
  part = p;
}

pub turns_none : (c s : Says) (l : CarriedLink) (n m : PartCalls) → TurnsAsk c s l n n m m
turns_none c s l n m = turns_part c s l n n m m (part_none c s l n m)

-- where the counts stayed
pub turns_still : (c s : Says) (l : CarriedLink) (n n' m m' : PartCalls) → n' ≡ n → m' ≡ m → TurnsAsk c s l n n' m m'
turns_still c s l n n' m m' e f = subst (λ q. TurnsAsk c s l n q m m') (sym e) (subst (λ q. TurnsAsk c s l n n m q) (sym f) (turns_none c s l n m))

-- a part behind some
pub turns_behind : (c c' s s' : Says) (times : ℕ) (old mid : CarriedLink) (n n1 n' m m1 m' : PartCalls) → Weaker c' c → Weaker s' s → TurnsSoFar c s times old mid → SideAsks old.client.transport mid.client.transport n n1 → SideAsks old.server.transport mid.server.transport m m1 → (mid.client.transport.failed ≡ false → mid.server.transport.failed ≡ false → PartAsks c' s' mid n1 n' m1 m') → old.client.transport.failed ≡ false → old.server.transport.failed ≡ false → TurnsAsk c s old n n' m m'
turns_behind c c' s s' times old mid n n1 n' m m1 m' v w h a b p lc ls =
    let l = repeats_live c s times old mid h.turns (record { of_client = lc; of_server = ls }) in
    record {
      times = times;
      mid = mid;
      turns = h.turns;
      client_before = n1;
      of_client = a;
      server_before = m1;
      of_server = b;
      part = part_weaker c' c s' s v w mid n1 n' m1 m' (p l.of_client l.of_server);
    }

-- none behind some
pub turns_end : (c s : Says) (times : ℕ) (old mid : CarriedLink) (n n1 m m1 : PartCalls) → TurnsSoFar c s times old mid → SideAsks old.client.transport mid.client.transport n n1 → SideAsks old.server.transport mid.server.transport m m1 → TurnsAsk c s old n n1 m m1
turns_end c s times old mid n n1 m m1 h a b = record {
  times = times;
  mid = mid;
  turns = h.turns;
  client_before = n1;
  of_client = a;
  server_before = m1;
  of_server = b;
  part = part_none c s mid n1 m1;
}

-- ---- steps

-- a part behind some
pub link_behind : (c c' s s' : Says) (first : ℕ) (steps done more : List Step) (old mid : CarriedLink) (marks : List Mark) (n n1 n' m m1 m' : PartCalls) → steps ≡ done ++ more → Weaker c' c → Weaker s' s → RunsSoFar c s first done old mid marks → SideAsks old.client.transport mid.client.transport n n1 → SideAsks old.server.transport mid.server.transport m m1 → (mid.client.transport.failed ≡ false → mid.server.transport.failed ≡ false → TurnsAsk c' s' mid n1 n' m1 m') → old.client.transport.failed ≡ false → old.server.transport.failed ≡ false → LinkAsks c s steps old n n' m m'
link_behind c c' s s' first steps done more old mid marks n n1 n' m m1 m' e v w h a b p lc ls =
    let l = subst BothLive h.on.last (steps_live c s done old h.on.links h.on.each (record { of_client = lc; of_server = ls })) in
    record {
      done = done;
      more = more;
      steps_are = e;
      links = h.on.links;
      each = h.on.each;
      client_before = n1;
      of_client = subst (λ (x : CarriedLink). SideAsks old.client.transport x.client.transport n n1) (sym h.on.last) a;
      server_before = m1;
      of_server = subst (λ (x : CarriedLink). SideAsks old.server.transport x.server.transport m m1) (sym h.on.last) b;
      part = subst (λ (x : CarriedLink). TurnsAsk c s x n1 n' m1 m') (sym h.on.last) (turns_weaker_asks c' c s' s v w mid n1 n' m1 m' (p l.of_client l.of_server));
    }

-- none behind some
pub link_end : (c s : Says) (first : ℕ) (steps done more : List Step) (old mid : CarriedLink) (marks : List Mark) (n n1 m m1 : PartCalls) → steps ≡ done ++ more → RunsSoFar c s first done old mid marks → SideAsks old.client.transport mid.client.transport n n1 → SideAsks old.server.transport mid.server.transport m m1 → LinkAsks c s steps old n n1 m m1
link_end c s first steps done more old mid marks n n1 m m1 e h a b = record {
  done = done;
  more = more;
  steps_are = e;
  links = h.on.links;
  each = h.on.each;
  client_before = n1;
  of_client = subst (λ (x : CarriedLink). SideAsks old.client.transport x.client.transport n n1) (sym h.on.last) a;
  server_before = m1;
  of_server = subst (λ (x : CarriedLink). SideAsks old.server.transport x.server.transport m m1) (sym h.on.last) b;
  part = turns_none c s (last_link old h.on.links) n1 m1;
}

-- none
pub link_none : (c s : Says) (steps : List Step) (l : CarriedLink) (n m : PartCalls) → LinkAsks c s steps l n n m m
link_none c s steps l n m = record {
  done = [];
  more = steps;
  steps_are = refl;
  links = [];
  each = tt;
  client_before = n;
  of_client = side_still l.client.transport l.client.transport n refl;
  server_before = m;
  of_server = side_still l.server.transport l.server.transport m refl;
  part = turns_none c s l n m;
}

-- ---- as calls answer

pub where_ok : {A E : Type 0} (r : Result A E) (P Q : Type 0) → (P → Q) → OnOk r P → OnOk r Q
where_ok (Ok x) P Q f h = f h
where_ok (Err e) P Q f h = tt

pub where_err : {A E : Type 0} (r : Result A E) (P Q : Type 0) → (P → Q) → OnErr r P → OnErr r Q
where_err (Ok x) P Q f h = tt
where_err (Err e) P Q f h = f h

pub always_ok : {A E : Type 0} (r : Result A E) (P : Type 0) → P → OnOk r P
always_ok (Ok x) P h = h
always_ok (Err e) P h = tt

pub always_err : {A E : Type 0} (r : Result A E) (P : Type 0) → P → OnErr r P
always_err (Ok x) P h = tt
always_err (Err e) P h = h
