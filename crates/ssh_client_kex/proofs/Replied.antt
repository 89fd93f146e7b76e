-- A reply that is read.
use Rattle.std.proofs.Common.{◌≡◌, ◌∙◌, ap, sym, ℕ, ◌+◌, Bool, true, false, List, [], ◌∷◌, ◌++◌, ◌<◌, ◌≤◌, ◌^◌, length, Result, Ok, Err, ◌⊎◌, inl, inr, arith}
use Rattle.std.proofs.lemmas.List.{length-append, length-drop}
use Rattle.std.specs.Prelude.{IfErr}
use Rattle.ssh_negotiate.specs.declared.kex.KexCause.{KexCause}
use Rattle.ssh_negotiate.specs.declared.negotiation.Names.{Names}
use Rattle.ssh_packet.specs.Stream.{message_type}
use Rattle.ssh_wire.specs.Forms.{string, u32be}
use Rattle.ssh_wire.specs.declared.error.Error.{Error}
use Rattle.ssh_wire.specs.declared.error.Error.TheVariants.{Memory, WrongServerSig}
use Rattle.ssh_kex.specs.Agreeing.{Agreeing, IsWhole}
use Rattle.ssh_client_kex.specs.ClientRows.{AgreesOnReply, RefusesReply, made_with}
use Rattle.ssh_client_kex.specs.ClientViews.{HasValue}
use Rattle.ssh_kex.specs.Messages.{host_with, is_gex, reply_message}
use Rattle.ssh_kex.specs.Fields.{fields}
use Rattle.ssh_kex.specs.Signature.{judged}
use Rattle.ssh_kex.specs.Stages.{Machine}
use Rattle.ssh_kex.specs.Views.{HasShortSides}
use Rattle.ssh_kex.specs.declared.exchange.Exchange.{Exchange}
use Rattle.ssh_kex.specs.declared.exchange.ServerHost.{ServerHost}
use Rattle.ssh_kex.specs.declared.progress.KexProgress.{KexProgress}
use Rattle.ssh_client_kex.proofs.Grouped.{typed}

behind_string : (s rest : List ℕ) → length s + length rest ≤ length (string s ++ rest)
behind_string s rest =
    let a = length-append (string s) rest in let b = length-append (u32be (length s)) s in omega (arith, a, b)

pub parts_short : (payload host value behind signature : List ℕ) → length payload < 2 ^ 31 → fields payload ≡ string host ++ (string value ++ behind) → behind ≡ string signature → (length host < 2 ^ 31) × (length value < 2 ^ 31) × (length signature < 2 ^ 31)
parts_short payload host value behind signature short e f =
    let d = length-drop 1 payload in
    let a = ap length e in
    let b = behind_string host (string value ++ behind) in
    let c = behind_string value behind in
    let g = ap length f in
    let h = length-append (u32be (length signature)) signature in
    (omega (arith, short, d, a, b), omega (arith, short, d, a, b, c), omega (arith, short, d, a, b, c, g, h))

pub reply_short : (makes : List ℕ → List ℕ → List ℕ → Type 0) (old new : Agreeing) (payload host value signature : List ℕ) → length payload < 2 ^ 31 → AgreesOnReply makes old new payload host value signature → (length host < 2 ^ 31) × (length value < 2 ^ 31) × (length signature < 2 ^ 31)
reply_short makes old new payload host value signature short h = parts_short payload host value h.behind signature short h.front.spelled h.spelled

pub whole_reply : (makes : List ℕ → List ℕ → List ℕ → Type 0) (x : Exchange) (n : Names) (old new : Agreeing) (payload host value signature : List ℕ) → length payload < 2 ^ 31 → HasShortSides x → HasValue x n old → AgreesOnReply makes old new payload host value signature → IsWhole new.name host (record x { server_ephemeral = value })
whole_reply makes x n old new payload host value signature short sides has h =
    let parts = reply_short makes old new payload host value signature short h in
    record {
      host_short = parts.0;
      client_id = sides.client_id;
      server_id = sides.server_id;
      client_kex_init = sides.client_kex_init;
      server_kex_init = sides.server_kex_init;
      client_ephemeral = has.value_short;
      server_ephemeral = parts.1;
      group = has.group_short;
      kind = has.kind ∙ ap is_gex (sym has.name_is ∙ sym (ap (λ (a : Agreeing). a.name) h.kept));
    }

pub refuses_signature : (r : Result (KexProgress Machine) Error) (denied : List ℕ → List ℕ → Type 0) (makes : List ℕ → List ℕ → List ℕ → Type 0) (missigned : ServerHost → List ℕ → List ℕ → Type 0) (cause : KexCause) (x : Exchange) (n : Names) (algorithm next : Agreeing) (payload host value signature : List ℕ) → AgreesOnReply makes algorithm next payload host value signature → IfErr r (λ e. (e ≡ Memory) ⊎ ((e ≡ WrongServerSig) × missigned (host_with n host) (made_with cause n x next.secret host value).hash (judged signature))) → IfErr r (RefusesReply denied makes missigned cause x n algorithm payload)
refuses_signature (Ok p) denied makes missigned cause x n algorithm next payload host value signature a h = tt
refuses_signature (Err e) denied makes missigned cause x n algorithm next payload host value signature a (inl m) = inl (inl m)
refuses_signature (Err e) denied makes missigned cause x n algorithm next payload host value signature a (inr h) =
    inr (record { next = next; host = host; value = value; signature = signature; agrees = a; denied_it = h.1; error_is = h.0 })

pub reply_spelled : (b : Bool) (payload host value signature : List ℕ) → message_type payload ≡ message_type (reply_message b [] [] []) → fields payload ≡ string host ++ (string value ++ string signature) → payload ≡ reply_message b host value signature
reply_spelled true payload host value signature t e = typed payload 33 (omega arith) t ∙ ap (λ f. 33 ∷ f) e
reply_spelled false payload host value signature t e = typed payload 31 (omega arith) t ∙ ap (λ f. 31 ∷ f) e
