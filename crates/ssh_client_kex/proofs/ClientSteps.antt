-- What a client's rows answer is what its stages take.
use Rattle.std.proofs.Common.{◌≡◌, ◌∙◌, ap, refl, sym, subst, ℕ, Bool, true, false, List, [], ◌∷◌, ◌<◌, ◌^◌, length, Option, None, Some, Result, Ok, Err, inr}
use Rattle.std.specs.Prelude.{IfOk}
use Rattle.ssh_negotiate.specs.Tables.{shape_of}
use Rattle.ssh_negotiate.specs.declared.kex.KexCause.{KexCause}
use Rattle.ssh_negotiate.specs.declared.negotiation.Names.{Names}
use Rattle.ssh_packet.specs.Writing.{Writer}
use Rattle.ssh_packet.specs.declared.reader.Incoming.{Incoming}
use Rattle.ssh_wire.specs.declared.error.Error.{Error}
use Rattle.ssh_wire.specs.declared.side.Side.TheVariants.{Client}
use Rattle.ssh_kex.specs.Agreeing.{Agreeing}
use Rattle.ssh_client_kex.specs.ClientRows as rows
use Rattle.ssh_client_kex.specs.ClientViews.{client_machine, client_setting, client_stage, HasNoValues}
use Rattle.ssh_kex.specs.Messages.{is_gex, newkeys, request_message, value_message}
use Rattle.ssh_kex.specs.Opening.{Reads}
use Rattle.ssh_kex.specs.Setting.{Says, kept_of, offers_of}
use Rattle.ssh_kex.specs.Stages.{Machine, OpensBy, TakesKexinit}
use Rattle.ssh_kex.specs.Stepping.{Progresses, Puts, PutsAll}
use Rattle.ssh_kex.specs.Views.{EndsAtOnce}
use Rattle.ssh_client_kex.specs.declared.client_kex.ClientState.{ClientState}
use Rattle.ssh_client_kex.specs.declared.client_kex.ClientState.TheVariants as states
use Rattle.ssh_kex.specs.declared.config.Config.{Config}
use Rattle.ssh_kex.specs.declared.exchange.Exchange.{Exchange}
use Rattle.ssh_kex.specs.declared.exchange.GexChosen.{GexChosen}
use Rattle.ssh_kex.specs.declared.progress.KexProgress.{KexProgress}
use Rattle.ssh_kex.proofs.Lemmas.{reads_kexinit}

-- one packet
pub one_put : (w w' : Writer) (p : List ℕ) → Puts w p w' → PutsAll w (p ∷ []) w'
one_put w w' p h = (w', h, refl)

-- an exchange of no values
bare : (x : Exchange) (c : List ℕ) → HasNoValues x → x ≡ record x { client_ephemeral = []; server_ephemeral = []; gex = None }
bare x c h = ap (λ v. record x { client_ephemeral = v }) h.client ∙ (ap (λ v. record x { client_ephemeral = []; server_ephemeral = v }) h.server ∙ ap (λ v. record x { client_ephemeral = []; server_ephemeral = []; gex = v }) h.gex)

ends_at_once : (says : Says) (config : Config) (cause : KexCause) (x : Exchange) (i : Incoming) (p : KexProgress Machine) (w w' : Writer) (n : Names) → HasNoValues x → Reads Client (offers_of Client config) cause i.seqn i.payload.now n → (shape_of n.kex).skip ≡ true → EndsAtOnce Client cause (record x { server_kex_init = i.payload.now }) n p w w' → Progresses says (client_machine config cause x states.Created) (Some i) w p w'
ends_at_once says config cause x i p w w' n none reads skips h =
    subst (λ q. Progresses says (client_machine config cause x states.Created) (Some i) w q w') (sym h.done)
    (record {
      exchange = record x { server_kex_init = i.payload.now };
      made = kept_of cause n None [];
      written = newkeys ∷ [];
      ends = inr (record {
        names = n;
        reads = reads_kexinit (client_setting config cause x) i.seqn i.payload.now n reads;
        skips = skips;
        written_is = refl;
        exchange_is = ap (λ (y : Exchange). record y { server_kex_init = i.payload.now }) (bare x [] none);
        made_is = refl;
        host_is = refl;
      });
      newkeys = record { exchange_is = refl; names_is = refl; hash_is = refl; session_is = refl; keys_is = refl; seals = h.keys.seals; opens = h.keys.opens };
      puts = one_put w w' newkeys h.puts;
    })

opens_group : (says : Says) (config : Config) (cause : KexCause) (x : Exchange) (i : Incoming) (w w' : Writer) (n : Names) → Reads Client (offers_of Client config) cause i.seqn i.payload.now n → (shape_of n.kex).skip ≡ false → says.offers n.kex → is_gex n.kex ≡ true → Puts w (request_message config.gex) w' → TakesKexinit says (client_setting config cause x) x.client_kex_init i.seqn i.payload.now (request_message config.gex ∷ []) (client_stage (record x { server_kex_init = i.payload.now }) (states.AwaitsGroup n))
opens_group says config cause x i w w' n reads exchanges offered gex puts =
    record {
      names = n;
      reads = reads_kexinit (client_setting config cause x) i.seqn i.payload.now n reads;
      exchanges = exchanges;
      offered = offered;
      opens = subst (λ b. OpensBy Client b says (client_setting config cause x) (record { names = n; own_kexinit = x.client_kex_init; peer_kexinit = i.payload.now }) (request_message config.gex ∷ []) (client_stage (record x { server_kex_init = i.payload.now }) (states.AwaitsGroup n))) (sym gex) (record { written_is = refl; next_is = refl });
    }

opens_value : (says : Says) (config : Config) (cause : KexCause) (x : Exchange) (i : Incoming) (n : Names) (algorithm : Agreeing) (local value : List ℕ) → HasNoValues x → Reads Client (offers_of Client config) cause i.seqn i.payload.now n → (shape_of n.kex).skip ≡ false → says.offers n.kex → is_gex n.kex ≡ false → says.client_makes n.kex None local value → length value < 2 ^ 31 → algorithm ≡ record { name = n.kex; group = None; local = Some local; secret = None } → TakesKexinit says (client_setting config cause x) x.client_kex_init i.seqn i.payload.now (value_message false value ∷ []) (client_stage (record x { server_kex_init = i.payload.now; client_ephemeral = value }) (states.AwaitsReply n algorithm))
opens_value says config cause x i n algorithm local value none reads exchanges offered plain makes short kept =
    record {
      names = n;
      reads = reads_kexinit (client_setting config cause x) i.seqn i.payload.now n reads;
      exchanges = exchanges;
      offered = offered;
      opens = subst (λ b. OpensBy Client b says (client_setting config cause x) (record { names = n; own_kexinit = x.client_kex_init; peer_kexinit = i.payload.now }) (value_message false value ∷ []) (client_stage (record x { server_kex_init = i.payload.now; client_ephemeral = value }) (states.AwaitsReply n algorithm))) (sym plain)
          (record {
            local = local;
            public = value;
            starts = record { makes = makes; short = short };
            leads = record {
              written_is = refl;
              next_is = ap (λ (g : Option GexChosen). client_stage (record x { server_kex_init = i.payload.now; client_ephemeral = value; gex = g }) (states.AwaitsReply n algorithm)) none.gex
                  ∙ ap (λ (a : Agreeing). client_stage (record x { server_kex_init = i.payload.now; client_ephemeral = value; gex = None }) (states.AwaitsReply n a)) kept;
            };
          });
    }

opens_by : (says : Says) (config : Config) (cause : KexCause) (x : Exchange) (i : Incoming) (p : KexProgress Machine) (w w' : Writer) (n : Names) (gex : Bool) → is_gex n.kex ≡ gex → HasNoValues x → Reads Client (offers_of Client config) cause i.seqn i.payload.now n → (shape_of n.kex).skip ≡ false → says.offers n.kex → rows.ClientOpens gex (λ l v. says.client_makes n.kex None l v) config cause (record x { server_kex_init = i.payload.now }) n p w w' → Progresses says (client_machine config cause x states.Created) (Some i) w p w'
opens_by says config cause x i p w w' n true e none reads exchanges offered h =
    subst (λ q. Progresses says (client_machine config cause x states.Created) (Some i) w q w') (sym h.0)
    (inr (record {
      kept = refl;
      written = request_message config.gex ∷ [];
      takes = opens_group says config cause x i w w' n reads exchanges offered e h.1;
      setting_is = refl;
      reset_is = refl;
      puts = one_put w w' (request_message config.gex) h.1;
    }))
opens_by says config cause x i p w w' n false e none reads exchanges offered h =
    subst (λ q. Progresses says (client_machine config cause x states.Created) (Some i) w q w') (sym h.done)
    (inr (record {
      kept = refl;
      written = value_message false h.value ∷ [];
      takes = opens_value says config cause x i n h.algorithm h.sends.local h.value none reads exchanges offered e h.sends.made h.sends.short h.sends.kept;
      setting_is = refl;
      reset_is = refl;
      puts = one_put w w' (value_message false h.value) (subst (λ b. Puts w (value_message b h.value) w') e h.sends.puts);
    }))

opens_or_ends : (says : Says) (config : Config) (cause : KexCause) (x : Exchange) (i : Incoming) (p : KexProgress Machine) (w w' : Writer) (n : Names) (skip : Bool) → (shape_of n.kex).skip ≡ skip → HasNoValues x → Reads Client (offers_of Client config) cause i.seqn i.payload.now n → rows.OpensOrEnds skip says.offers (λ k l v. says.client_makes k None l v) config cause (record x { server_kex_init = i.payload.now }) n p w w' → Progresses says (client_machine config cause x states.Created) (Some i) w p w'
opens_or_ends says config cause x i p w w' n true e none reads h = ends_at_once says config cause x i p w w' n none reads e h
opens_or_ends says config cause x i p w w' n false e none reads h = opens_by says config cause x i p w w' n (is_gex n.kex) refl none reads e h.0 h.1

-- the peer's KEXINIT
pub kexinit_progresses : (says : Says) (config : Config) (cause : KexCause) (x : Exchange) (state : ClientState) (m : Machine) (i : Incoming) (r : Result (KexProgress Machine) Error) (w w' : Writer) → client_machine config cause x state ≡ m → state ≡ states.Created → HasNoValues x → IfOk r (λ p. rows.AnswersKexinit says.offers (λ k l v. says.client_makes k None l v) config cause x i p w w') → IfOk r (λ p. Progresses says m (Some i) w p w')
kexinit_progresses says config cause x state m i (Err e) w w' view is none h = tt
kexinit_progresses says config cause x state m i (Ok p) w w' view is none h =
    subst (λ (n : Machine). Progresses says n (Some i) w p w') (sym (ap (client_machine config cause x) is) ∙ view)
    (opens_or_ends says config cause x i p w w' h.names (shape_of h.names.kex).skip refl none h.reads h.opens)
