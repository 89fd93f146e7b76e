-- In an honest link each record is what the headline says of it, whichever side made it first.
use Rattle.std.proofs.Common.{◌≡◌, ℕ, zero, suc, ◌+◌, ◌<◌, ◌≤◌, List, [], ◌∷◌, ◌++◌, length, take, slice_get, refl, sym, ◌∙◌, ap, subst, arith, Option, Some, Bool, true, false, if◌then◌else◌, inr}
use Rattle.ssh_wire.specs.Lines.{id_text}
use Rattle.ssh_wire.specs.Sides.{other_side}
use Rattle.ssh_wire.specs.declared.side.Side.{Side}
use Rattle.ssh_wire.specs.declared.side.Side.TheVariants.{Client, Server}
use Rattle.ssh_negotiate.specs.Laws.{IsWithin}
use Rattle.ssh_rules.specs.Parts.{ClientPairs, Secrets, ServerValues}
use Rattle.ssh_kex.specs.Setting.{Says, offers_of}
use Rattle.ssh_kex.specs.declared.config.Config.{Config}
use Rattle.ssh_kex.specs.declared.exchange.Exchange.{Exchange}
use Rattle.ssh_kex.specs.declared.exchange.FinishedExchange.{FinishedExchange}
use Rattle.ssh_kex.specs.declared.exchange.ServerHost.{ServerHost}
use Rattle.ssh_rules.specs.Headline.{IsMadeOf, chosen_by}
use Rattle.ssh_rules.proofs.pair.Facts.{InStep}
use Rattle.ssh_rules.specs.Laws.{OneSecret, FindsCanonical}
use Rattle.ssh_rules.proofs.side.Ledgers.{setting_at}
use Rattle.ssh_rules.specs.Log.{wrote, handled, recorded, kept_in}
use Rattle.ssh_rules.specs.Machine.{Silent, SideState, Event, first_state}
use Rattle.ssh_rules.specs.Made.{IsRecorded, MadeBy}
use Rattle.ssh_rules.specs.Turns.{LinkEnd, World, Talkers, talkers}
use Rattle.ssh_rules.specs.Wire.{HasFront, exchange_block, epochs_ended}
use Rattle.ssh_rules.proofs.side.Accounts.{Kept, kept_run}
use Rattle.ssh_rules.proofs.side.Fronts.{block_front, block_grows, ends_front}
use Rattle.ssh_rules.proofs.headline.ReportedRecords.{ended_knows, same_theirs}
use Rattle.ssh_rules.proofs.side.LedgerSteps.{closed_trace}
use Rattle.ssh_rules.proofs.pair.SameRecords.{makes_one_record}
use Rattle.ssh_rules.proofs.headline.KnownExchanges.{AreChosen, is_made_of}
use Rattle.ssh_rules.specs.Snapshots.{TellsParts, RunsInLink, IsReached}
use Rattle.ssh_rules.proofs.side.Ran.{recorded_is, kept_all}
use Rattle.ssh_rules.proofs.turns.Turns.{facts, heard_loud}
use Rattle.ssh_rules.proofs.side.Ledgers as local
use Rattle.ssh_rules.proofs.side.StageFits.{Trace}

get_below : {A : Type 0} (xs : List A) (k : ℕ) (x : A) → slice_get xs k ≡ Some x → k < length xs
get_below [] k x e = cc
get_below (y ∷ xs) zero x e = omega arith
get_below (y ∷ xs) (suc k) x e = omega (arith, get_below xs k x e)

get_at : {A : Type 0} (xs : List A) (k : ℕ) → k < length xs → (x : A) × (slice_get xs k ≡ Some x)
get_at [] k h = absurd (omega (arith, h))
get_at (x ∷ xs) zero h = (x, refl)
get_at (x ∷ xs) (suc k) h = get_at xs k (omega (arith, h))

same_take : (n : ℕ) (xs ys : List FinishedExchange) → n ≤ length xs → n ≤ length ys → ((j : ℕ) (x y : FinishedExchange) → slice_get xs j ≡ Some x → slice_get ys j ≡ Some y → x ≡ y) → take n xs ≡ take n ys
same_take zero xs ys a b h = refl
same_take (suc n) [] ys a b h = absurd (omega (arith, a))
same_take (suc n) (x ∷ xs) [] a b h = absurd (omega (arith, b))
same_take (suc n) (x ∷ xs) (y ∷ ys) a b h = ap (λ q. q ∷ take n xs) (h 0 x y refl refl) ∙ ap (λ q. y ∷ q) (same_take n xs ys (omega (arith, a)) (omega (arith, b)) (λ j p q e f. h (suc j) p q e f))

most_one : (b : Bool) (n m : ℕ) → m ≡ n + (if b then 1 else 0) → m ≤ n + 1
most_one true n m e = omega (arith, e)
most_one false n m e = omega (arith, e)

-- a side that has written a NEWKEYS isn't silent
loud : (says : Says) (side : Side) (config : Config) (own_id : List ℕ) (w r : List Rattle.ssh_packet.specs.Sealing.Item) (st : SideState) (t : Trace) (k : ℕ) → Kept says side config own_id w r st t → k < epochs_ended w → st.stands ≡ Silent → ⊥
loud says side config own_id w r st t k kept l e =
    let c = (closed_trace says side config own_id st t kept.tidy.fits (inr e)).0 in
    let n : length st.records ≡ 0 = ap length (kept.accounts.silent e) in
    let m : epochs_ended w ≡ length st.records + 0 = kept.accounts.own.ends_is ∙ ap (λ b. length st.records + (if local.has_newkeys b then 1 else 0)) c in
    omega (arith, l, n, m)

-- what both sides know of an exchange that one of them recorded
pub record BothKnow (t : Talkers) (side : Side) (before : List FinishedExchange) (own read peer_own : List (List ℕ)) (x : FinishedExchange) : Type 0 where
  pub mine : IsRecorded side (t.says side) (setting_at side (t.config side) (t.own_id side) (Some (t.own_id (other_side side))) before) own read x
  pub exchange : Exchange
  pub made : FinishedExchange
  pub host : Option ServerHost
  pub theirs : MadeBy (other_side side) (t.says (other_side side)) (setting_at (other_side side) (t.config (other_side side)) (t.own_id (other_side side)) (Some (t.own_id (other_side (other_side side)))) before) read own exchange made host
  pub same : read ≡ peer_own

pub both_know : (t : Talkers) (side : Side) (log plog : List Event) (h peer : LinkEnd) → RunsInLink t side log h → RunsInLink t (other_side side) plog peer → HasFront (wrote plog) (handled log) → HasFront (wrote log) (handled plog)
    → ((j : ℕ) (x y : FinishedExchange) → slice_get (recorded log) j ≡ Some x → slice_get (recorded plog) j ≡ Some y → x ≡ y)
    → (k : ℕ) (x : FinishedExchange) → slice_get (recorded log) k ≡ Some x → BothKnow t side (take k (recorded log)) (exchange_block k (wrote log)) (exchange_block k (handled log)) (exchange_block k (wrote plog)) x
both_know t side log plog h peer run prun front pfront agree k x e =
    let o = other_side side in
    let f = facts t side log h.state h.sent h.fed h.unfinished run.heard run.guesses run.ran in
    let mine = f.each k x e in
    let l : k < epochs_ended (handled log) = omega (arith, get_below (recorded log) k x e, f.ended) in
    let same : exchange_block k (wrote plog) ≡ exchange_block k (handled log) = ap (exchange_block k) (sym front.1) ∙ block_front k (handled log) front.0 l in
    let written : epochs_ended (handled log ++ front.0) ≡ epochs_ended (wrote plog) = ap epochs_ended front.1 in
    let pl : k < epochs_ended (wrote plog) = omega (arith, l, ends_front (handled log) front.0, written) in
    let kept = kept_run (t.says o) o (t.config o) (t.own_id o) plog peer.state prun.ran.steps in
    let knows = ended_knows (t.says o) o (t.config o) (t.own_id o) (wrote plog) (kept_in plog) peer.state _ k kept pl in
    let heard : peer.state.heard ≡ Some (t.own_id (other_side o)) = heard_loud (t.says o) o (t.config o) (t.own_id o) (t.own_id (other_side o)) plog peer.state prun.heard prun.ran.steps (loud (t.says o) o (t.config o) (t.own_id o) (wrote plog) (kept_in plog) peer.state _ k kept pl) in
    let records : peer.state.records ≡ recorded plog = recorded_is (t.says o) o (t.config o) (t.own_id o) plog first_state peer.state prun.ran.steps in
    let few : k ≤ length (recorded plog) = (let m = most_one _ (length peer.state.records) (epochs_ended (wrote plog)) kept.accounts.own.ends_is in let n : length peer.state.records ≡ length (recorded plog) = ap length records in omega (arith, pl, m, n)) in
    let before : take k peer.state.records ≡ take k (recorded log) = ap (take k) records ∙ sym (same_take k (recorded log) (recorded plog) (omega (arith, get_below (recorded log) k x e)) few agree) in
    let made : MadeBy o (t.says o) (setting_at o (t.config o) (t.own_id o) (Some (t.own_id (other_side o))) (take k (recorded log))) (exchange_block k (handled log)) knows.theirs knows.exchange knows.made knows.host =
    subst (λ b. MadeBy o (t.says o) (setting_at o (t.config o) (t.own_id o) (Some (t.own_id (other_side o))) (take k (recorded log))) b knows.theirs knows.exchange knows.made knows.host) same
    (subst (λ q. MadeBy o (t.says o) (setting_at o (t.config o) (t.own_id o) (Some (t.own_id (other_side o))) q) (exchange_block k (wrote plog)) knows.theirs knows.exchange knows.made knows.host) before
    (subst (λ q. MadeBy o (t.says o) (setting_at o (t.config o) (t.own_id o) q (take k peer.state.records)) (exchange_block k (wrote plog)) knows.theirs knows.exchange knows.made knows.host) heard knows.knows)) in
    let read : exchange_block k (kept_in plog) ≡ exchange_block k (handled plog) = ap (exchange_block k) (kept_all plog prun.guesses) in
    let grows : HasFront (exchange_block k (wrote log)) (exchange_block k (kept_in plog)) = subst (HasFront (exchange_block k (wrote log))) (sym read) (subst (λ v. HasFront (exchange_block k v) (exchange_block k (handled plog))) pfront.1 (block_grows k (handled plog) pfront.0)) in
    let all = same_theirs side o (t.says side) (t.says o) _ _ (exchange_block k (wrote log)) (exchange_block k (handled log)) knows.theirs mine.exchange knows.exchange x knows.made mine.host knows.host (exchange_block k (kept_in plog)) mine.made made grows knows.theirs_is in
    record {
      mine = mine;
      exchange = knows.exchange;
      made = knows.made;
      host = knows.host;
      theirs = subst (λ b. MadeBy o (t.says o) (setting_at o (t.config o) (t.own_id o) (Some (t.own_id (other_side o))) (take k (recorded log))) (exchange_block k (handled log)) b knows.exchange knows.made knows.host) all made;
      same = sym same;
    }

pub record Parts (says : Side → Says) (config : Side → Config) (client_makes : ClientPairs) (server_makes : ServerValues) (agrees : Secrets) : Type 0 where
  pub tells : TellsParts (says Client) (says Server) client_makes server_makes agrees
  pub secret : OneSecret (says Client) (says Server)
  pub canonical : FindsCanonical (says Server)
  pub client_within : IsWithin (offers_of Client (config Client))
  pub server_within : IsWithin (offers_of Server (config Server))

client_at : (says : Side → Says) (config : Side → Config) (client_makes : ClientPairs) (server_makes : ServerValues) (agrees : Secrets) (before : List FinishedExchange) (own read peer_own : List (List ℕ)) (x : FinishedExchange)
    → Parts says config client_makes server_makes agrees → AreChosen (chosen_by (config Client) (config Server)) before → BothKnow (talkers says config) Client before own read peer_own x → IsMadeOf client_makes server_makes agrees (config Client) (config Server) before own peer_own x
client_at says config cm sm ag before own read peer_own x p c b =
    subst (λ q. IsMadeOf cm sm ag (config Client) (config Server) before own q x) b.same
    (is_made_of (says Client) (says Server) cm sm ag (config Client) (config Server) before own read b.mine.exchange b.exchange x b.made b.mine.host b.host p.tells p.secret p.canonical p.client_within p.server_within c b.mine.made b.theirs)

server_at : (says : Side → Says) (config : Side → Config) (client_makes : ClientPairs) (server_makes : ServerValues) (agrees : Secrets) (before : List FinishedExchange) (own read peer_own : List (List ℕ)) (x : FinishedExchange)
    → Parts says config client_makes server_makes agrees → AreChosen (chosen_by (config Client) (config Server)) before → BothKnow (talkers says config) Server before own read peer_own x → IsMadeOf client_makes server_makes agrees (config Client) (config Server) before peer_own own x
server_at says config cm sm ag before own read peer_own x p c b =
    let one = makes_one_record (says Client) (says Server) p.secret p.canonical (setting_at Client (config Client) (id_text (config Client).id) (Some (id_text (config Server).id)) before) (setting_at Server (config Server) (id_text (config Server).id) (Some (id_text (config Client).id)) before) read own b.exchange b.mine.exchange b.made x b.host b.mine.host p.client_within p.server_within (record { client_id = refl; server_id = refl; cause = refl }) b.theirs b.mine.made in
    subst (λ q. IsMadeOf cm sm ag (config Client) (config Server) before q own x) b.same
    (subst (λ z. IsMadeOf cm sm ag (config Client) (config Server) before read own z) one.0
    (is_made_of (says Client) (says Server) cm sm ag (config Client) (config Server) before read own b.exchange b.mine.exchange b.made x b.host b.mine.host p.tells p.secret p.canonical p.client_within p.server_within c b.theirs b.mine.made))

-- the names of the first record are chosen, so those of all before are
chosen_before : (config : Side → Config) (xs : List FinishedExchange) (k : ℕ) → ((x : FinishedExchange) → slice_get xs 0 ≡ Some x → chosen_by (config Client) (config Server) ≡ Rattle.std.specs.Prelude.Ok x.names) → AreChosen (chosen_by (config Client) (config Server)) (take k xs)
chosen_before config [] zero h = tt
chosen_before config [] (suc k) h = tt
chosen_before config (x ∷ xs) zero h = tt
chosen_before config (x ∷ xs) (suc k) h = h x refl

pub client_made : (says : Side → Says) (config : Side → Config) (client_makes : ClientPairs) (server_makes : ServerValues) (agrees : Secrets) (w : World) (cl sl : List Event) → Parts says config client_makes server_makes agrees → IsReached (talkers says config) w cl sl → InStep (wrote cl) (handled cl) (wrote sl) (handled sl) (recorded cl) (recorded sl)
    → (k : ℕ) (x : FinishedExchange) → slice_get (recorded cl) k ≡ Some x → IsMadeOf client_makes server_makes agrees (config Client) (config Server) (take k (recorded cl)) (exchange_block k (wrote cl)) (exchange_block k (wrote sl)) x
client_made says config cm sm ag w cl sl p h s k x e =
    let know : (k : ℕ) (x : FinishedExchange) → slice_get (recorded cl) k ≡ Some x → BothKnow (talkers says config) Client (take k (recorded cl)) (exchange_block k (wrote cl)) (exchange_block k (handled cl)) (exchange_block k (wrote sl)) x =
    both_know (talkers says config) Client cl sl w.client w.server h.client h.server s.to_client s.to_server s.records in
    client_at says config cm sm ag (take k (recorded cl)) _ _ _ x p (chosen_before config (recorded cl) k (λ y f. (client_at says config cm sm ag [] _ _ _ y p tt (know 0 y f)).names)) (know k x e)

pub server_made : (says : Side → Says) (config : Side → Config) (client_makes : ClientPairs) (server_makes : ServerValues) (agrees : Secrets) (w : World) (cl sl : List Event) → Parts says config client_makes server_makes agrees → IsReached (talkers says config) w cl sl → InStep (wrote cl) (handled cl) (wrote sl) (handled sl) (recorded cl) (recorded sl)
    → (k : ℕ) (x : FinishedExchange) → slice_get (recorded sl) k ≡ Some x → IsMadeOf client_makes server_makes agrees (config Client) (config Server) (take k (recorded sl)) (exchange_block k (wrote cl)) (exchange_block k (wrote sl)) x
server_made says config cm sm ag w cl sl p h s k x e =
    let know : (k : ℕ) (x : FinishedExchange) → slice_get (recorded sl) k ≡ Some x → BothKnow (talkers says config) Server (take k (recorded sl)) (exchange_block k (wrote sl)) (exchange_block k (handled sl)) (exchange_block k (wrote cl)) x =
    both_know (talkers says config) Server sl cl w.server w.client h.server h.client s.to_server s.to_client (λ j a b f g. sym (s.records j b a g f)) in
    server_at says config cm sm ag (take k (recorded sl)) _ _ _ x p (chosen_before config (recorded sl) k (λ y f. (server_at says config cm sm ag [] _ _ _ y p tt (know 0 y f)).names)) (know k x e)
