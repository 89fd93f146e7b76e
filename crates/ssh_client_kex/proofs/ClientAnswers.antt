-- What a client's rows of a group and of a reply answer is what its stages take.
use Rattle.std.proofs.Common.{◌≡◌, ◌∙◌, ap, refl, sym, subst, ℕ, true, false, List, [], ◌∷◌, ◌++◌, ◌<◌, ◌^◌, length, Option, Some, Result, Ok, Err, ◌⊎◌, inl, inr}
use Rattle.std.specs.Prelude.{IfOk, IfErr}
use Rattle.ssh_negotiate.specs.declared.kex.KexCause.{KexCause}
use Rattle.ssh_negotiate.specs.declared.kex.Name as kexes
use Rattle.ssh_negotiate.specs.declared.negotiation.Names.{Names}
use Rattle.ssh_packet.specs.Stream.{message_type}
use Rattle.ssh_packet.specs.Writing.{Writer}
use Rattle.ssh_packet.specs.declared.reader.Incoming.{Incoming}
use Rattle.ssh_wire.specs.Forms.{string}
use Rattle.ssh_wire.specs.declared.error.Error.{Error}
use Rattle.ssh_wire.specs.declared.error.Error.TheVariants as errors
use Rattle.ssh_kex.specs.Agreeing.{Agreeing}
use Rattle.ssh_client_kex.specs.ClientRows as rows
use Rattle.ssh_client_kex.specs.ClientViews.{client_behind_guess, client_machine, client_setting, client_stage, client_drops_guess, local_of, ClientHolds, HasValue}
use Rattle.ssh_kex.specs.Messages.{host_with, is_gex, newkeys, reply_message, value_message}
use Rattle.ssh_wire.specs.Fields.{answer_of}
use Rattle.ssh_kex.specs.Refusals.{Denies, IsDue, RefusesMessage}
use Rattle.ssh_kex.specs.Fields.{value_in}
use Rattle.ssh_kex.specs.Setting.{Says, group_of, made_of}
use Rattle.ssh_kex.specs.Signature.{judged}
use Rattle.ssh_kex.specs.Stages.{Machine}
use Rattle.ssh_kex.specs.Stepping.{Progresses, Puts, RefusesStep}
use Rattle.ssh_client_kex.specs.declared.client_kex.ClientState.{ClientState}
use Rattle.ssh_client_kex.specs.declared.client_kex.ClientState.TheVariants as states
use Rattle.ssh_kex.specs.declared.config.Config.{Config}
use Rattle.ssh_kex.specs.declared.exchange.Exchange.{Exchange}
use Rattle.ssh_kex.specs.declared.exchange.FinishedExchange.{FinishedExchange}
use Rattle.ssh_kex.specs.declared.group.DhGroup.{DhGroup}
use Rattle.ssh_kex.specs.declared.progress.KexProgress.{KexProgress}
use Rattle.ssh_client_kex.proofs.ClientRefusals.{step_refuses}
use Rattle.ssh_client_kex.proofs.ClientSteps.{one_put}
use Rattle.ssh_client_kex.proofs.Faults.{fault_of}
use Rattle.ssh_client_kex.proofs.Replied.{reply_short, reply_spelled}

-- ---- a wrong guess

-- the names of a state in which none is dropped
pub kept_group : (n : Names) (state : ClientState) → state ≡ states.AwaitsGroup n → client_drops_guess state ≡ false → n.ignore_guessed ≡ false
kept_group n state is kept = ap client_drops_guess (sym is) ∙ kept

pub kept_reply : (n : Names) (algorithm : Agreeing) (state : ClientState) → state ≡ states.AwaitsReply n algorithm → client_drops_guess state ≡ false → n.ignore_guessed ≡ false
kept_reply n algorithm state is kept = ap client_drops_guess (sym is) ∙ kept

pub still_holds : (config : Config) (x : Exchange) (state : ClientState) → ClientHolds config x state → ClientHolds config x (client_behind_guess state)
still_holds config x states.Created h = h
still_holds config x (states.AwaitsGroup n) h = h
still_holds config x (states.AwaitsReply n algorithm) h = (h.0, record { name_is = (h.1).name_is; group_is = (h.1).group_is; local_is = (h.1).local_is; exchanges = (h.1).exchanges; value_short = (h.1).value_short; group_short = (h.1).group_short; kind = (h.1).kind })
still_holds config x (states.AwaitsNewkeys host made cipher) h = h

-- ---- the group

takes_group : (says : Says) (config : Config) (cause : KexCause) (x : Exchange) (n : Names) (i : Incoming) (p : KexProgress Machine) (w w' : Writer) → n.ignore_guessed ≡ false → is_gex n.kex ≡ true → rows.AnswersGroup (λ g l v. says.client_makes n.kex (Some g) l v) config cause x n i.payload.now p w w' → Progresses says (client_machine config cause x (states.AwaitsGroup n)) (Some i) w p w'
takes_group says config cause x n i p w w' kept gex h =
    let s = h.sends in let v = s.sends in
    subst (λ q. Progresses says (client_machine config cause x (states.AwaitsGroup n)) (Some i) w q w') (sym s.done)
    (inr (record {
      kept = kept;
      written = value_message true s.value ∷ [];
      takes = record {
        group = h.group;
        local = v.local;
        public = s.value;
        payload_is = h.payload_is;
        canonical = h.canonical;
        short = record { prime = h.prime; generator = h.generator; least = s.sizes.0; preferred = s.sizes.1; most = s.sizes.2 };
        least = h.inside.least;
        most = h.inside.most;
        starts = record { makes = v.made; short = v.short };
        leads = record {
          written_is = refl;
          next_is = ap (λ (a : Agreeing). client_stage (record x { client_ephemeral = s.value; gex = Some (record { params = config.gex; group = h.group }) }) (states.AwaitsReply n a)) v.kept;
        };
      };
      setting_is = refl;
      reset_is = refl;
      puts = one_put w w' (value_message true s.value) (subst (λ b. Puts w (value_message b s.value) w') gex v.puts);
    }))

pub group_progresses : (says : Says) (config : Config) (cause : KexCause) (x : Exchange) (n : Names) (state : ClientState) (m : Machine) (i : Incoming) (r : Result (KexProgress Machine) Error) (w w' : Writer) → client_machine config cause x state ≡ m → state ≡ states.AwaitsGroup n → client_drops_guess state ≡ false → is_gex n.kex ≡ true → IfOk r (λ p. rows.AnswersGroup (λ g l v. says.client_makes n.kex (Some g) l v) config cause x n i.payload.now p w w') → IfOk r (λ p. Progresses says m (Some i) w p w')
group_progresses says config cause x n state m i (Err e) w w' view is kept gex h = tt
group_progresses says config cause x n state m i (Ok p) w w' view is kept gex h =
    subst (λ (k : Machine). Progresses says k (Some i) w p w') (sym (ap (client_machine config cause x) is) ∙ view) (takes_group says config cause x n i p w w' (kept_group n state is kept) gex h)

-- ---- the reply

-- what is made of a local and a public value, by name and group
abbrev Family : Type 1
Family = kexes.Name → Option DhGroup → List ℕ → List ℕ → List ℕ → Type 0

takes_reply : (says : Says) (makes : Family) → ((k : kexes.Name) (q : Option DhGroup) (l v z public : List ℕ) → makes k q l v z → says.client_makes k q l public → says.agrees k q public v z) → (config : Config) (cause : KexCause) (x : Exchange) (n : Names) (algorithm : Agreeing) (i : Incoming) (p : KexProgress Machine) (w w' : Writer) → n.ignore_guessed ≡ false → length i.payload.now < 2 ^ 31 → HasValue x n algorithm → rows.AnswersReply (makes algorithm.name algorithm.group) says.accepts config cause x n algorithm i.payload.now p w w' → Progresses says (client_machine config cause x (states.AwaitsReply n algorithm)) (Some i) w p w'
takes_reply says makes agrees config cause x n algorithm i p w w' kept short has h =
    let a = h.agrees in let t = h.accepted in
    let parts = reply_short (makes algorithm.name algorithm.group) algorithm h.next i.payload.now h.host h.value h.signature short a in
    let secret : h.next.secret ≡ Some a.secret = ap (λ (k : Agreeing). k.secret) a.kept in
    let made : made_of cause n (record x { server_ephemeral = h.value }) h.host h.next.secret ≡ made_of cause n (record x { server_ephemeral = h.value }) h.host (Some a.secret)
    = ap (made_of cause n (record x { server_ephemeral = h.value }) h.host) secret in
    subst (λ q. Progresses says (client_machine config cause x (states.AwaitsReply n algorithm)) (Some i) w q w') (sym t.done)
    (inr (record {
      kept = kept;
      written = newkeys ∷ [];
      takes = record {
        host = h.host;
        value = h.value;
        signature = h.signature;
        secret = a.secret;
        payload_is = reply_spelled (is_gex n.kex) i.payload.now h.host h.value h.signature
            (a.type_is ∙ ap (λ k. message_type (reply_message (is_gex k) [] [] [])) has.name_is)
            (a.front.spelled ∙ ap (λ b. string h.host ++ (string h.value ++ b)) a.spelled);
        host_short = parts.0;
        value_short = parts.1;
        signature_short = parts.2;
        agrees = agrees n.kex (group_of x.gex) (local_of algorithm.local) h.value a.secret x.client_ephemeral
            (subst (λ q. makes n.kex q (local_of algorithm.local) h.value a.secret) has.group_is (subst (λ k. makes k algorithm.group (local_of algorithm.local) h.value a.secret) has.name_is a.made));
        accepts = subst (λ (f : FinishedExchange). says.accepts (host_with n h.host) f.hash (judged h.signature)) made t.accepted;
        leads = record {
          written_is = refl;
          next_is = ap (λ (f : FinishedExchange). client_stage (record x { server_ephemeral = h.value }) (states.AwaitsNewkeys (host_with n h.host) f t.cipher)) made;
        };
      };
      setting_is = refl;
      reset_is = refl;
      puts = one_put w w' newkeys t.puts;
    }))

pub reply_progresses : (says : Says) (makes : Family) → ((k : kexes.Name) (q : Option DhGroup) (l v z public : List ℕ) → makes k q l v z → says.client_makes k q l public → says.agrees k q public v z) → (config : Config) (cause : KexCause) (x : Exchange) (n : Names) (algorithm : Agreeing) (state : ClientState) (m : Machine) (i : Incoming) (r : Result (KexProgress Machine) Error) (w w' : Writer) → client_machine config cause x state ≡ m → state ≡ states.AwaitsReply n algorithm → client_drops_guess state ≡ false → length i.payload.now < 2 ^ 31 → HasValue x n algorithm → IfOk r (λ p. rows.AnswersReply (makes algorithm.name algorithm.group) says.accepts config cause x n algorithm i.payload.now p w w') → IfOk r (λ p. Progresses says m (Some i) w p w')
reply_progresses says makes agrees config cause x n algorithm state m i (Err e) w w' view is kept short has h = tt
reply_progresses says makes agrees config cause x n algorithm state m i (Ok p) w w' view is kept short has h =
    subst (λ (k : Machine). Progresses says k (Some i) w p w') (sym (ap (client_machine config cause x) is) ∙ view)
    (takes_reply says makes agrees config cause x n algorithm i p w w' (kept_reply n algorithm state is kept) short has h)

is_due : (x : Exchange) (n : Names) (algorithm : Agreeing) (payload : List ℕ) → n.ignore_guessed ≡ false → HasValue x n algorithm → message_type payload ≡ message_type (reply_message (is_gex algorithm.name) [] [] []) → IsDue (client_stage x (states.AwaitsReply n algorithm)) payload
is_due x n algorithm payload kept has t = record { kept = kept; type_is = t ∙ ap (λ k. message_type (reply_message (is_gex k) [] [] [])) has.name_is }

refuses_to_agree : (says : Says) (denies : Denies) (makes : Family) (config : Config) (cause : KexCause) (x : Exchange) (n : Names) (algorithm : Agreeing) (i : Incoming) (e : Error) → n.ignore_guessed ≡ false → HasValue x n algorithm → rows.RefusesToAgree (denies.reply algorithm.name algorithm.group) (makes algorithm.name algorithm.group) algorithm i.payload.now e → RefusesMessage says denies (client_setting config cause x) (client_stage x (states.AwaitsReply n algorithm)) i.seqn i.payload.now e
refuses_to_agree says denies makes config cause x n algorithm i e kept has h = by h where
  refused : Error → Type 0
  refused error = RefusesMessage says denies (client_setting config cause x) (client_stage x (states.AwaitsReply n algorithm)) i.seqn i.payload.now error

  by : rows.RefusesToAgree (denies.reply algorithm.name algorithm.group) (makes algorithm.name algorithm.group) algorithm i.payload.now e → refused e
  by (inl m) = subst refused (sym m) tt
  by (inr (inl k)) = subst refused (sym k.1) (inl (refl, record { kept = kept; type_is = λ t. k.0 (t ∙ ap (λ a. message_type (reply_message (is_gex a) [] [] [])) (sym has.name_is)) }))
  by (inr (inr (inl k))) =
      let f = fault_of _ e k.1 in subst refused (sym f.2) (is_due x n algorithm i.payload.now kept has k.0, inl f.1)
  by (inr (inr (inr k))) = behind k.why where
    behind : ((e ≡ errors.Kex) × denies.reply algorithm.name algorithm.group (local_of algorithm.local) k.value) ⊎ (answer_of (value_in k.behind) ≡ Err e) → refused e
    behind (inl d) =
        subst refused (sym d.0) (inr (
          is_due x n algorithm i.payload.now kept has k.type_is,
          record {
            front = record { host = k.host; value = k.value; behind = k.behind };
            read = k.front.read;
            denied = subst (λ q. denies.reply n.kex q (local_of algorithm.local) k.value) has.group_is (subst (λ a. denies.reply a algorithm.group (local_of algorithm.local) k.value) has.name_is d.1);
          },
        ))
    behind (inr a) =
        let f = fault_of _ e a in
        subst refused (sym f.2) (is_due x n algorithm i.payload.now kept has k.type_is, inr (record { host = k.host; value = k.value; behind = k.behind }, k.front.read, f.1))

missigns : (says : Says) (denies : Denies) (makes : Family) → ((k : kexes.Name) (q : Option DhGroup) (l v z public : List ℕ) → makes k q l v z → says.client_makes k q l public → says.agrees k q public v z) → (config : Config) (cause : KexCause) (x : Exchange) (n : Names) (algorithm : Agreeing) (i : Incoming) (e : Error) → n.ignore_guessed ≡ false → HasValue x n algorithm → rows.Missigns (makes algorithm.name algorithm.group) denies.verify cause x n algorithm i.payload.now e → RefusesMessage says denies (client_setting config cause x) (client_stage x (states.AwaitsReply n algorithm)) i.seqn i.payload.now e
missigns says denies makes agrees config cause x n algorithm i e kept has h =
    let a = h.agrees in
    let secret : h.next.secret ≡ Some a.secret = ap (λ (k : Agreeing). k.secret) a.kept in
    subst (RefusesMessage says denies (client_setting config cause x) (client_stage x (states.AwaitsReply n algorithm)) i.seqn i.payload.now) (sym h.error_is) (
      is_due x n algorithm i.payload.now kept has a.type_is,
      record {
        front = record { host = h.host; value = h.value; behind = a.behind };
        signature = h.signature;
        secret = a.secret;
        read = a.front.read;
        rest = a.rest;
        agrees = agrees n.kex (group_of x.gex) (local_of algorithm.local) h.value a.secret x.client_ephemeral
            (subst (λ q. makes n.kex q (local_of algorithm.local) h.value a.secret) has.group_is (subst (λ k. makes k algorithm.group (local_of algorithm.local) h.value a.secret) has.name_is a.made));
        denied = subst (λ z. denies.verify (host_with n h.host) (made_of cause n (record x { server_ephemeral = h.value }) h.host z).hash (judged h.signature)) secret h.denied_it;
      },
    )

refuses_reply : (says : Says) (denies : Denies) (makes : Family) → ((k : kexes.Name) (q : Option DhGroup) (l v z public : List ℕ) → makes k q l v z → says.client_makes k q l public → says.agrees k q public v z) → (config : Config) (cause : KexCause) (x : Exchange) (n : Names) (algorithm : Agreeing) (i : Incoming) (e : Error) → n.ignore_guessed ≡ false → HasValue x n algorithm → rows.RefusesReply (denies.reply algorithm.name algorithm.group) (makes algorithm.name algorithm.group) denies.verify cause x n algorithm i.payload.now e → RefusesMessage says denies (client_setting config cause x) (client_stage x (states.AwaitsReply n algorithm)) i.seqn i.payload.now e
refuses_reply says denies makes agrees config cause x n algorithm i e kept has (inl h) = refuses_to_agree says denies makes config cause x n algorithm i e kept has h
refuses_reply says denies makes agrees config cause x n algorithm i e kept has (inr h) = missigns says denies makes agrees config cause x n algorithm i e kept has h

pub reply_refused : (says : Says) (denies : Denies) (makes : Family) → ((k : kexes.Name) (q : Option DhGroup) (l v z public : List ℕ) → makes k q l v z → says.client_makes k q l public → says.agrees k q public v z) → (config : Config) (cause : KexCause) (x : Exchange) (n : Names) (algorithm : Agreeing) (state : ClientState) (m : Machine) (i : Incoming) (r : Result (KexProgress Machine) Error) → client_machine config cause x state ≡ m → state ≡ states.AwaitsReply n algorithm → client_drops_guess state ≡ false → HasValue x n algorithm → IfErr r (rows.RefusesReply (denies.reply algorithm.name algorithm.group) (makes algorithm.name algorithm.group) denies.verify cause x n algorithm i.payload.now) → IfErr r (λ e. RefusesStep says denies m (Some i) e)
reply_refused says denies makes agrees config cause x n algorithm state m i (Ok p) view is kept has h = tt
reply_refused says denies makes agrees config cause x n algorithm state m i (Err e) view is kept has h =
    step_refuses says denies config cause x state (states.AwaitsReply n algorithm) m i e view is (refuses_reply says denies makes agrees config cause x n algorithm i e (kept_reply n algorithm state is kept) has h)
