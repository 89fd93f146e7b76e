-- Why an exchange was begun in a step: the side has a reason of its own behind the step, or it read the other's
-- KEXINIT, and the other began the exchange in an earlier step, or in this one for a reason of its own.
use Rattle.std.proofs.Common.{◌≡◌, ℕ, zero, suc, ◌<◌, ◌≤◌, List, [], ◌∷◌, ◌++◌, slice_get, sym, ap, subst, arith, Some, ◌⊎◌, inl, inr, append_assoc, append-nil}
use Rattle.ssh_wire.specs.declared.side.Side.{Side}
use Rattle.ssh_wire.specs.declared.side.Side.TheVariants.{Client, Server}
use Rattle.ssh_kex.specs.declared.config.Config.{Config}
use Rattle.ssh_rules.specs.Wire.{HasFront, exchange_block}
use Rattle.ssh_rules.specs.Run.{epoch_bytes}
use Rattle.ssh_rules.specs.Machine.{Asked, Event}
use Rattle.ssh_rules.specs.Log.{wrote, handled, causes_in, kept_in}
use Rattle.ssh_rules.proofs.side.Reasons.{Reason, NonNil}
use Rattle.ssh_rules.specs.Counting.{begun}
use Rattle.ssh_rules.proofs.side.StageFits.{no_trace}
use Rattle.ssh_rules.specs.Turns.{Turn, LinkEnd, World, Talkers, PlaysTurn, Plays}
use Rattle.ssh_rules.proofs.side.Accounts.{trace_of}
use Rattle.ssh_rules.proofs.turns.Answered.{OwnReason}
use Rattle.ssh_rules.proofs.side.Epochs.{block_more, epoch_more}
use Rattle.ssh_rules.proofs.turns.LinkBounded.{HaveLimits, began, block_begun, front_of_held, kept_of, causes_more}
use Rattle.ssh_rules.specs.Snapshots.{IsReached, client_log, server_log, if_client, if_server}
use Rattle.ssh_rules.proofs.turns.Turns.{AreFit, client_held, server_held}
use Rattle.ssh_rules.proofs.pair.Whole.{handled_more, written_more, get_front}

-- a reason of its own, by what a side did
abbrev pub OwnOf : Config → List Event → ℕ → Type 0
OwnOf config log k = OwnReason config (causes_in log) (wrote log) (handled log) k

-- it stays where more is done
pub own_more : (config : Config) (a b : List Event) (k : ℕ) → OwnOf config a k → OwnOf config (a ++ b) k
own_more config a b k (inl h) = inl (subst (λ q. slice_get q k ≡ Some Asked) (sym (causes_more a b)) (get_front (causes_in a) (causes_in b) k Asked h))
own_more config a b k (inr (inl h)) = inr (inl (subst (λ q. config.limits.rekey_write_limit ≤ epoch_bytes k q) (sym (written_more a b)) (let m = epoch_more k (wrote a) (wrote b) in omega (arith, h, m))))
own_more config a b k (inr (inr h)) = inr (inr (subst (λ q. config.limits.rekey_read_limit ≤ epoch_bytes k q) (sym (handled_more a b)) (let m = epoch_more k (handled a) (handled b) in omega (arith, h, m))))

read_more : (a b : List Event) (k : ℕ) → NonNil (exchange_block k (handled a)) → NonNil (exchange_block k (handled (a ++ b)))
read_more a b k h = subst (λ q. NonNil (exchange_block k q)) (sym (handled_more a b)) (let m = block_more k (handled a) (handled b) in omega (arith, h, m))

-- `pb` is how many the other had begun before the step
abbrev pub Because : (config other : Config) (k pb : ℕ) (log plog : List Event) (pn : ℕ) → Type 0
Because config other k pb log plog pn = OwnOf config log k ⊎ (NonNil (exchange_block k (handled log)) × ((k < pb) ⊎ ((k < pn) × OwnOf other plog k)))

-- by what either side did on
because_more : (config other : Config) (k pb : ℕ) (log more plog : List Event) (pn : ℕ) → Because config other k pb log plog pn → Because config other k pb (log ++ more) plog pn
because_more config other k pb log more plog pn (inl h) = inl (own_more config log more k h)
because_more config other k pb log more plog pn (inr h) = inr (read_more log more k h.0, h.1)

because_later : (config other : Config) (k pb : ℕ) (log plog more : List Event) (pn pn' : ℕ) → pn ≤ pn' → Because config other k pb log plog pn → Because config other k pb log (plog ++ more) pn'
because_later config other k pb log plog more pn pn' l (inl h) = inl h
because_later config other k pb log plog more pn pn' l (inr h) = inr (h.0, elim h.1 [ inl a ↦ inl a | inr a ↦ inr (let b = a.0 in omega (arith, b, l), own_more other plog more k a.1) ])

split : (k n : ℕ) → (k < n) ⊎ (n ≤ k)
split zero zero = inr (omega arith)
split zero (suc n) = inl (omega arith)
split (suc k) zero = inr (omega arith)
split (suc k) (suc n) = elim (split k n) [ inl l ↦ inl (omega (arith, l)) | inr l ↦ inr (omega (arith, l)) ]

-- the turn in which a side begins the exchange
because_now : (config other : Config) (k b pb : ℕ) (log plog : List Event) (n pn : ℕ) → b ≤ k → n ≤ k → HasFront (wrote plog) (handled log) → (NonNil (exchange_block k (wrote plog)) → k < pn) → (pb ≤ k → k < pn → Because other config k b plog (log) n) → Reason config (causes_in log) (wrote log) (handled log) k → Because config other k pb log plog pn
because_now config other k b pb log plog n pn old new front begins theirs (inl h) = inl (inl h)
because_now config other k b pb log plog n pn old new front begins theirs (inr (inl h)) = inl (inr (inl h))
because_now config other k b pb log plog n pn old new front begins theirs (inr (inr (inl h))) = inl (inr (inr h))
because_now config other k b pb log plog n pn old new front begins theirs (inr (inr (inr h))) =
    let now : k < pn = begins (subst (λ q. NonNil (exchange_block k q)) front.1 (let m = block_more k (handled log) front.0 in omega (arith, h, m))) in
    inr (
      h,
      elim (split k pb) [
        | inl l ↦ inl l
        | inr l ↦ inr (now, own (theirs l now))
      ],
    )
  where
    own : Because other config k b plog log n → OwnOf other plog k
    own (inl r) = r
    own (inr r) = absurd (elim r.1 [ inl a ↦ omega (arith, a, old) | inr a ↦ (let c = a.0 in omega (arith, c, new)) ])

-- of a world within a step: what each side has begun since the step's start has its cause
pub record Reasoned (t : Talkers) (k cb sb : ℕ) (w : World) (cl sl : List Event) : Type 0 where
  pub held : IsReached t w cl sl
  pub client : cb ≤ k → k < begun w.client.state → Because (t.config Client) (t.config Server) k sb cl sl (begun w.server.state)
  pub server : sb ≤ k → k < begun w.server.state → Because (t.config Server) (t.config Client) k cb sl cl (begun w.client.state)

reasoned_client : (t : Talkers) (k cb sb : ℕ) (w : World) (cl sl : List Event) (piece : List ℕ) (events : List Event) (w' : World) → AreFit t → HaveLimits t → 1 ≤ k → Reasoned t k cb sb w cl sl → PlaysTurn t w Client piece events w' → Reasoned t k cb sb w' (cl ++ events) sl
reasoned_client t k cb sb w cl sl piece events w' fit limits some h p = record { held = now; client = client; server = server } where
  now : IsReached t w' (cl ++ events) sl
  now = client_held t w cl sl piece events w' fit h.held p

  fronts : HasFront (wrote sl) (handled (cl ++ events)) × HasFront (wrote (cl ++ events)) (handled sl)
  fronts = front_of_held t w' (cl ++ events) sl fit now

  same : begun w'.server.state ≡ begun w.server.state
  same = ap (λ (x : LinkEnd). begun x.state) p.1

  grown : begun w.client.state ≤ begun w'.client.state
  grown = Rattle.ssh_rules.proofs.side.Left.begun_steps (t.says Client) Client (t.config Client) (t.own_id Client) events w.client.state w'.client.state p.0.steps

  server : sb ≤ k → k < begun w'.server.state → Because (t.config Server) (t.config Client) k cb sl (cl ++ events) (begun w'.client.state)
  server a b = because_later (t.config Server) (t.config Client) k cb sl cl events (begun w.client.state) (begun w'.client.state) grown (h.server a (omega (arith, b, same)))

  begins : NonNil (exchange_block k (wrote sl)) → k < begun w'.server.state
  begins q = block_begun (t.says Server) Server (t.config Server) (t.own_id Server) (wrote sl) (kept_in sl) w'.server.state (trace_of no_trace sl) k (kept_of t Server sl w'.server now.server) q

  client : cb ≤ k → k < begun w'.client.state → Because (t.config Client) (t.config Server) k sb (cl ++ events) sl (begun w'.server.state)
  client a b = elim (split k (begun w.client.state)) [
    | inl l ↦ because_more (t.config Client) (t.config Server) k sb cl events sl (begun w'.server.state) (subst (λ n. Because (t.config Client) (t.config Server) k sb cl sl n) (sym same) (h.client a l))
    | inr l ↦ because_now (t.config Client) (t.config Server) k cb sb (cl ++ events) sl (begun w.client.state) (begun w'.server.state) a l fronts.0 begins
        (λ c d. because_later (t.config Server) (t.config Client) k cb sl cl events (begun w.client.state) (begun w.client.state) (omega arith) (h.server c (omega (arith, d, same))))
        ((began t Client (cl ++ events) sl w'.client w'.server limits.client now.client now.server fronts.0).reason k some b)
  ]

reasoned_server : (t : Talkers) (k cb sb : ℕ) (w : World) (cl sl : List Event) (piece : List ℕ) (events : List Event) (w' : World) → AreFit t → HaveLimits t → 1 ≤ k → Reasoned t k cb sb w cl sl → PlaysTurn t w Server piece events w' → Reasoned t k cb sb w' cl (sl ++ events)
reasoned_server t k cb sb w cl sl piece events w' fit limits some h p = record { held = now; client = client; server = server } where
  now : IsReached t w' cl (sl ++ events)
  now = server_held t w cl sl piece events w' fit h.held p

  fronts : HasFront (wrote (sl ++ events)) (handled cl) × HasFront (wrote cl) (handled (sl ++ events))
  fronts = front_of_held t w' cl (sl ++ events) fit now

  same : begun w'.client.state ≡ begun w.client.state
  same = ap (λ (x : LinkEnd). begun x.state) p.1

  grown : begun w.server.state ≤ begun w'.server.state
  grown = Rattle.ssh_rules.proofs.side.Left.begun_steps (t.says Server) Server (t.config Server) (t.own_id Server) events w.server.state w'.server.state p.0.steps

  client : cb ≤ k → k < begun w'.client.state → Because (t.config Client) (t.config Server) k sb cl (sl ++ events) (begun w'.server.state)
  client a b = because_later (t.config Client) (t.config Server) k sb cl sl events (begun w.server.state) (begun w'.server.state) grown (h.client a (omega (arith, b, same)))

  begins : NonNil (exchange_block k (wrote cl)) → k < begun w'.client.state
  begins q = block_begun (t.says Client) Client (t.config Client) (t.own_id Client) (wrote cl) (kept_in cl) w'.client.state (trace_of no_trace cl) k (kept_of t Client cl w'.client now.client) q

  server : sb ≤ k → k < begun w'.server.state → Because (t.config Server) (t.config Client) k cb (sl ++ events) cl (begun w'.client.state)
  server a b = elim (split k (begun w.server.state)) [
    | inl l ↦ because_more (t.config Server) (t.config Client) k cb sl events cl (begun w'.client.state) (subst (λ n. Because (t.config Server) (t.config Client) k cb sl cl n) (sym same) (h.server a l))
    | inr l ↦ because_now (t.config Server) (t.config Client) k sb cb (sl ++ events) cl (begun w.server.state) (begun w'.client.state) a l fronts.1 begins
        (λ c d. because_later (t.config Client) (t.config Server) k sb cl sl events (begun w.server.state) (begun w.server.state) (omega arith) (h.client c (omega (arith, d, same))))
        ((began t Server (sl ++ events) cl w'.server w'.client limits.server now.server now.client fronts.1).reason k some b)
  ]

-- through the turns of a step
pub reasoned_turns : (t : Talkers) (k cb sb : ℕ) (turns : List Turn) (w : World) (cl sl : List Event) (w' : World) → AreFit t → HaveLimits t → 1 ≤ k → Reasoned t k cb sb w cl sl → Plays t w turns w' → Reasoned t k cb sb w' (cl ++ client_log turns) (sl ++ server_log turns)
reasoned_turns t k cb sb [] w cl sl w' fit limits some h p = subst (λ v. Reasoned t k cb sb v (cl ++ []) (sl ++ [])) (sym p) (subst (λ q. Reasoned t k cb sb w q (sl ++ [])) (sym (append-nil cl)) (subst (λ q. Reasoned t k cb sb w cl q) (sym (append-nil sl)) h))
reasoned_turns t k cb sb (u ∷ turns) w cl sl w' fit limits some h p = by u.side p.1 (λ dl tl g. reasoned_turns t k cb sb turns p.0 dl tl w' fit limits some g p.2) where
  by : (s : Side) → PlaysTurn t w s u.piece u.events p.0 → ((dl tl : List Event) → Reasoned t k cb sb p.0 dl tl → Reasoned t k cb sb w' (dl ++ client_log turns) (tl ++ server_log turns)) → Reasoned t k cb sb w' (cl ++ if_client s u.events (client_log turns)) (sl ++ if_server s u.events (server_log turns))
  by Client q rest = subst (λ x. Reasoned t k cb sb w' x (sl ++ server_log turns)) (append_assoc cl u.events (client_log turns)) (rest (cl ++ u.events) sl (reasoned_client t k cb sb w cl sl u.piece u.events p.0 fit limits some h q))
  by Server q rest = subst (λ x. Reasoned t k cb sb w' (cl ++ client_log turns) x) (append_assoc sl u.events (server_log turns)) (rest cl (sl ++ u.events) (reasoned_server t k cb sb w cl sl u.piece u.events p.0 fit limits some h q))

-- from the step's start on
pub step_reasons : (t : Talkers) (k : ℕ) (turns : List Turn) (w : World) (cl sl : List Event) (w' : World) → AreFit t → HaveLimits t → 1 ≤ k → IsReached t w cl sl → Plays t w turns w' → Reasoned t k (begun w.client.state) (begun w.server.state) w' (cl ++ client_log turns) (sl ++ server_log turns)
step_reasons t k turns w cl sl w' fit limits some h p = reasoned_turns t k (begun w.client.state) (begun w.server.state) turns w cl sl w' fit limits some (record { held = h; client = λ a b. absurd (omega (arith, a, b)); server = λ a b. absurd (omega (arith, a, b)) }) p
