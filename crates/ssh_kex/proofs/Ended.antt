-- The peer's NEWKEYS ends an exchange.
use Rattle.std.proofs.Common.{◌≡◌, ℕ, Bool, true, [], refl, sym, subst, arith, Option, Some, Result, Ok, Err, inl, inr}
use Rattle.std.specs.Prelude.{IfOk, IfErr, OnOk}
use Rattle.std.specs.Global.{Box}
use Rattle.ssh_packet.specs.Keys.{sealing_of, opening_of}
use Rattle.ssh_packet.specs.Writing.{Writer}
use Rattle.ssh_packet.specs.declared.keys.CipherPair.{CipherPair}
use Rattle.ssh_packet.specs.declared.reader.Incoming.{Incoming}
use Rattle.ssh_wire.specs.Sides.{other_side}
use Rattle.ssh_wire.specs.declared.error.Error.{Error}
use Rattle.ssh_wire.specs.declared.side.Side.{Side}
use Rattle.ssh_kex.specs.Exchange.{sealing_after}
use Rattle.ssh_kex.specs.Members.{AgreementMembers, GroupLookupMembers, HostKeysMembers}
use Rattle.ssh_kex.specs.Parts.{Answers, PartsAnswer}
use Rattle.ssh_kex.specs.Refusals.{Denies, RefusesMessage}
use Rattle.ssh_kex.specs.Setting.{Says}
use Rattle.ssh_kex.specs.Stages.{Machine, Stage, AwaitsNewkeys, Finishes}
use Rattle.ssh_kex.specs.Stepping.{Progresses, RefusesStep, answers_agreement, asks_groups, asks_hosts, next_of}
use Rattle.ssh_kex.specs.Views.{HasKeys, Lasts}
use Rattle.ssh_kex.specs.declared.exchange.Exchange.{Exchange}
use Rattle.ssh_kex.specs.declared.exchange.FinishedExchange.{FinishedExchange}
use Rattle.ssh_kex.specs.declared.exchange.ServerHost.{ServerHost}
use Rattle.ssh_kex.specs.declared.progress.KexProgress.{KexProgress}

pub last_done : (says : Says) (side : Side) (m : Machine) (i : Incoming) (w : Writer) (x : Exchange) (host : Option ServerHost) (made : FinishedExchange) (cipher : Box CipherPair) (r : Result (KexProgress Machine) Error) → m.stage ≡ AwaitsNewkeys x made host → m.setting.side ≡ side → HasKeys side made cipher → Lasts x host made cipher i.payload.now r → IfOk r (λ p. Progresses says m (Some i) w p w)
last_done says my m i w x host made cipher (Ok p) stage side keys h =
    subst (λ q. Progresses says m (Some i) w q w) (sym h.done)
    (record {
      exchange = x;
      made = made;
      written = [];
      ends = inl (subst (λ s. Finishes s i.payload.now x made host) (sym stage) (record { payload_is = h.payload_is; exchange_is = refl; made_is = refl; host_is = refl }), refl);
      newkeys = record {
        exchange_is = refl;
        names_is = refl;
        hash_is = refl;
        session_is = refl;
        keys_is = refl;
        seals = subst (λ s. sealing_of cipher.value.local_to_remote ≡ sealing_after s made.names made.keys) (sym side) keys.seals;
        opens = subst (λ s. opening_of cipher.value.remote_to_local ≡ sealing_after (other_side s) made.names made.keys) (sym side) keys.opens;
      };
      puts = refl;
    })
last_done says my m i w x host made cipher (Err e) stage side keys h = tt

pub last_refused : (says : Says) (denies : Denies) (m : Machine) (i : Incoming) (x : Exchange) (host : Option ServerHost) (made : FinishedExchange) (cipher : Box CipherPair) (e : Error) → m.stage ≡ AwaitsNewkeys x made host → Lasts {K = Machine} x host made cipher i.payload.now (Err e) → RefusesMessage says denies m.setting m.stage i.seqn i.payload.now e
last_refused says denies m i x host made cipher e stage (inl h) =
    subst (λ (s : Stage). RefusesMessage says denies m.setting s i.seqn i.payload.now e) (sym stage)
    (subst (RefusesMessage says denies m.setting (AwaitsNewkeys x made host) i.seqn i.payload.now) (sym h.1) (inl (refl, record { kept = refl; type_is = h.0 })))
last_refused says denies m i x host made cipher e stage (inr h) =
    subst (λ (s : Stage). RefusesMessage says denies m.setting s i.seqn i.payload.now e) (sym stage)
    (subst (RefusesMessage says denies m.setting (AwaitsNewkeys x made host) i.seqn i.payload.now) (sym h.2) (record { kept = refl; type_is = h.0 }, (refl, h.1)))

pub last_refused_if : (says : Says) (denies : Denies) (m : Machine) (i : Incoming) (x : Exchange) (host : Option ServerHost) (made : FinishedExchange) (cipher : Box CipherPair) (r : Result (KexProgress Machine) Error) → m.stage ≡ AwaitsNewkeys x made host → Lasts x host made cipher i.payload.now r → IfErr r (λ e. RefusesStep says denies m (Some i) e)
last_refused_if says denies m i x host made cipher (Ok p) stage h = tt
last_refused_if says denies m i x host made cipher (Err e) stage h = last_refused says denies m i x host made cipher e stage h

-- no part is asked
pub last_answers : {A H G : Type 0} (ma : AgreementMembers A) (mh : HostKeysMembers H) (mg : GroupLookupMembers G) (side : Side) (stage : Stage) (a : A) (h : H) (g : G) (x : Exchange) (made : FinishedExchange) (host : Option ServerHost) (r : Result (KexProgress Machine) Error) → stage ≡ AwaitsNewkeys x made host → OnOk r (PartsAnswer (Answers ma.answered (answers_agreement side stage (next_of r)) a a) (Answers mh.answered (asks_hosts stage) h h) (Answers mg.answered (asks_groups stage) g g))
last_answers {A} {H} {G} ma mh mg side stage a h g x made host (Ok p) e = subst (λ (s : Stage). PartsAnswer (Answers ma.answered (answers_agreement side s (next_of (Ok p))) a a) (Answers mh.answered (asks_hosts s) h h) (Answers mg.answered (asks_groups s) g g)) (sym e) (record { agreement = none ma.answered a; hosts = none mh.answered h; groups = none mg.answered g }) where
  none : {T : Type 0} (answered : T → ℕ → ℕ → Bool) (t : T) → Answers answered 0 t t
  none answered t known n q = subst (λ k. answered t known k ≡ true) (omega arith) q
last_answers ma mh mg side stage a h g x made host (Err k) e = tt
