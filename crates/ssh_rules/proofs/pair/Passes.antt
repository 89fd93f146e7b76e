-- The order test lets an honest peer's messages pass.
use Rattle.std.proofs.Common.{◌≡◌, ℕ, zero, suc, ◌-◌, List, [], ◌∷◌, ◌++◌, length, refl, sym, ◌∙◌, ap, subst, arith, Option, Some, None, Bool, true, false, if◌then◌else◌}
use Rattle.ssh_wire.specs.declared.side.Side.{Side}
use Rattle.ssh_wire.specs.declared.side.Side.TheVariants.{Client, Server}
use Rattle.ssh_packet.specs.Sealing.{Item}
use Rattle.ssh_packet.specs.Stream.{message_type}
use Rattle.ssh_negotiate.specs.declared.negotiation.Names.{Names}
use Rattle.ssh_kex.specs.declared.config.Config.{Config}
use Rattle.ssh_kex.specs.declared.exchange.FinishedExchange.{FinishedExchange}
use Rattle.ssh_kex.specs.declared.exchange.ServerHost.{ServerHost}
use Rattle.ssh_kex.specs.Messages.{is_gex, newkeys, value_message, reply_message}
use Rattle.ssh_wire.specs.Sides.{other_side}
use Rattle.ssh_kex.specs.Setting.{Says, Setting}
use Rattle.ssh_kex.specs.Stages.{Stage, Created, AwaitsGroup, AwaitsReply, AwaitsRequest, AwaitsValue, AwaitsNewkeys}
use Rattle.ssh_rules.specs.MessageTypes.{type_of, is_violation}
use Rattle.ssh_rules.specs.Machine.{Inside, names_now, OrderBy, guesses}
use Rattle.ssh_kex.specs.declared.exchange.Exchange.{Exchange}
use Rattle.ssh_rules.specs.Made.{MadeBy}
use Rattle.ssh_rules.proofs.side.StageFits.{FitsStage}
use Rattle.ssh_rules.proofs.pair.Awaited.{IsReadable}
use Rattle.ssh_kex.specs.declared.exchange.GexChosen.{GexChosen}
use Rattle.ssh_rules.proofs.side.OneMessage.{spoken, client_spoken, server_spoken}

passes : (side : Side) (number : ℕ) (j : Item) (records : List FinishedExchange) (n : Names) (t place : ℕ) → type_of j ≡ t → number ≡ place → n.guessed_ignored ≡ false → is_violation (other_side side) t place ≡ false → OrderBy side number j records (Some n)
passes side number j (x ∷ xs) n t place e f u v = tt
passes side number j [] n t place e f u v = λ s. ap (λ q. is_violation (other_side side) q (number - guesses n)) e ∙ ap (λ b. is_violation (other_side side) t (number - (if b then 1 else 0))) u ∙ ap (λ m. is_violation (other_side side) t m) (minus number ∙ f) ∙ v where
  minus : (m : ℕ) → m - 0 ≡ m
  minus m = omega (arith)

reply_type : (b c : Bool) (host value signature payload : List ℕ) → b ≡ c → payload ≡ reply_message b host value signature → message_type payload ≡ (if c then 33 else 31)
reply_type true true host value signature payload e f = ap message_type f
reply_type false false host value signature payload e f = ap message_type f
reply_type true false host value signature payload e f = cc
reply_type false true host value signature payload e f = cc

value_type : (b c : Bool) (value payload : List ℕ) → b ≡ c → payload ≡ value_message b value → message_type payload ≡ (if c then 32 else 30)
value_type true true value payload e f = ap message_type f
value_type false false value payload e f = ap message_type f
value_type true false value payload e f = cc
value_type false true value payload e f = cc

one_less : (xs : List (List ℕ)) (p : List ℕ) (n : ℕ) → length (xs ++ p ∷ []) ≡ suc n → length xs ≡ n
one_less [] p n e = omega (arith, e)
one_less (x ∷ xs) p zero e = absurd (nothing xs (let f : suc (length (xs ++ p ∷ [])) ≡ 1 = e in omega (arith, f))) where
  nothing : (ys : List (List ℕ)) → length (ys ++ p ∷ []) ≡ 0 → ⊥
  nothing [] e = cc
  nothing (y ∷ ys) e = cc
one_less (x ∷ xs) p (suc n) e = ap suc (one_less xs p n (let f : suc (length (xs ++ p ∷ [])) ≡ suc (suc n) = e in omega (arith, f)))

last_passes : (side : Side) (says : Says) (s : Setting) (own theirs : List (List ℕ)) (exchange : Exchange) (x : FinishedExchange) (host : Option ServerHost) (number : ℕ) (j : Item) (records : List FinishedExchange) → MadeBy side says s own (theirs ++ newkeys ∷ []) exchange x host → number ≡ length theirs → x.names.guessed_ignored ≡ false → j.payload ≡ newkeys → OrderBy side number j records (Some x.names)
last_passes Client says s own theirs exchange x host number j records m f u e = by exchange.gex (m.theirs_is) where
  by : (g : Option GexChosen) → theirs ++ newkeys ∷ [] ≡ server_spoken (spoken exchange m.host m.signature) g → OrderBy Client number j records (Some x.names)
  by None q = passes Client number j records x.names 21 2 (ap message_type e) (f ∙ one_less theirs newkeys 2 (ap length q)) u refl
  by (Some g) q = passes Client number j records x.names 21 3 (ap message_type e) (f ∙ one_less theirs newkeys 3 (ap length q)) u refl
last_passes Server says s own theirs exchange x host number j records m f u e = by exchange.gex (m.theirs_is) where
  by : (g : Option GexChosen) → theirs ++ newkeys ∷ [] ≡ client_spoken (spoken exchange m.shown.blob m.signature) g → OrderBy Server number j records (Some x.names)
  by None q = passes Server number j records x.names 21 2 (ap message_type e) (f ∙ one_less theirs newkeys 2 (ap length q)) u refl
  by (Some g) q = passes Server number j records x.names 21 3 (ap message_type e) (f ∙ one_less theirs newkeys 3 (ap length q)) u refl

side_of : (s : Side) (number : ℕ) (j : Item) (records : List FinishedExchange) (n : Names) (side : Side) → side ≡ s → OrderBy s number j records (Some n) → OrderBy side number j records (Some n)
side_of s number j records n side e h = subst (λ q. OrderBy q number j records (Some n)) (sym e) h

-- What a stage awaits of an honest peer passes the order test, where as many packets came before as messages.
pub order_passes : (says : Says) (s : Setting) (stage : Stage) (own theirs : List (List ℕ)) (writer : Side) (peer : Config) (number : ℕ) (j : Item) (records : List FinishedExchange)
    → FitsStage says s stage own theirs → number ≡ length theirs
    → ((n : Names) → names_now (Inside stage) ≡ Some n → n.guessed_ignored ≡ false)
    → IsReadable writer peer stage j.payload
    → OrderBy s.side number j records (names_now (Inside stage))
order_passes says s (Created k) own theirs writer peer number j records f e u r = by records where
  by : (xs : List FinishedExchange) → OrderBy s.side number j xs None
  by [] = tt
  by (x ∷ xs) = tt
order_passes says s (AwaitsGroup o) own theirs writer peer number j records f e u r = side_of Client number j records o.names s.side f.client (passes Client number j records o.names 31 1 (ap message_type r.1) (e ∙ ap length f.theirs_is) (u o.names refl) refl)
order_passes says s (AwaitsReply o None l p) own theirs writer peer number j records f e u r = side_of Client number j records o.names s.side f.client (passes Client number j records o.names 31 1 (reply_type (is_gex o.names.kex) false r.0 r.1 r.2 j.payload f.kind r.3) (e ∙ ap length f.theirs_is) (u o.names refl) refl)
order_passes says s (AwaitsReply o (Some g) l p) own theirs writer peer number j records f e u r = side_of Client number j records o.names s.side f.client (passes Client number j records o.names 33 2 (reply_type (is_gex o.names.kex) true r.0 r.1 r.2 j.payload f.kind r.3) (e ∙ ap length f.theirs_is) (u o.names refl) refl)
order_passes says s (AwaitsRequest o) own theirs writer peer number j records f e u r = side_of Server number j records o.names s.side f.server (passes Server number j records o.names 34 1 (ap message_type r) (e ∙ ap length f.theirs_is) (u o.names refl) refl)
order_passes says s (AwaitsValue o None) own theirs writer peer number j records f e u r = side_of Server number j records o.names s.side f.server (passes Server number j records o.names 30 1 (value_type (is_gex o.names.kex) false r.0 j.payload f.kind r.1) (e ∙ ap length f.theirs_is) (u o.names refl) refl)
order_passes says s (AwaitsValue o (Some g)) own theirs writer peer number j records f e u r = side_of Server number j records o.names s.side f.server (passes Server number j records o.names 32 2 (value_type (is_gex o.names.kex) true r.0 j.payload f.kind r.1) (e ∙ ap length f.theirs_is) (u o.names refl) refl)
order_passes says s (AwaitsNewkeys exchange x host) own theirs writer peer number j records f e u r = last_passes s.side says s own theirs exchange x host number j records f e (u x.names refl) r
