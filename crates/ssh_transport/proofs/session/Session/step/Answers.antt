use Rattle.ssh_kex.specs.declared.exchange.ServerHost.{ServerHost}
use Rattle.ssh_rules.specs.Answering.{tests_by}
use Rattle.ssh_rules.specs.Asking.{counted_by}
use Rattle.ssh_transport.proofs.Appending.{appends_done, appends_still}
use Rattle.ssh_transport.proofs.Asking.{answered_ended, by_answer, ended_asks, ends_on, ends_refused, moves_on, refused_asks, step_ended}
use Rattle.ssh_transport.proofs.Saying.{on_err}
use Rattle.std.proofs.Common.{rules, refl, subst, sym, true}
use Rattle.ssh_transport.proofs.Denying.{kept_untrusting}
use Rattle.ssh_kex.specs.declared.session_state.SessionKexState.TheVariants.{InProgress}
use Rattle.ssh_transport.specs.Handling.{outcome_of}
use Rattle.ssh_transport.specs.Saying.{Stays}
use Rattle.ssh_transport.proofs.Moving.{IsRenumbered, awaits_in, installs_key, numbered_on, renumbered}
use Rattle.ssh_transport.proofs.Refusing.{distrusted_later, done_at, if_err, moves_host}
use Rattle.ssh_transport.specs.Sending.{MadeBy, SendsDrawn, sender_at, sender_of}
use Rattle.ssh_transport.specs.declared.session.Session.{Session}
use Rattle.ssh_transport.proofs.Sending.{numbers_sent, sends_join, sends_still, step_sent}
use Rattle.ssh_transport.proofs.Serving.{installs_sent}
use Rattle.ssh_transport.proofs.session.Session.step.Goals as goal
use Rattle.ssh_transport.proofs.session.Session.step.Goals.{then-reset_seqn, else-reset_seqn}

pub returns-in-Done : goal.returns-in-Done
returns-in-Done g c = record {
  stays = search rules;
  unheard = search rules;
  keeps = search rules;
  asks = by_answer c.end_exchange.result _ _ _ (λ h i a. record {
    asks = ended_asks (record c.args.self.now { writer = c.step.new.output }) c.end_exchange.new.self c.in-Done.newkeys
        (outcome_of h c.end_exchange.new.opening) c.args.kex _ _ i
        (λ records. ends_on c.args.kex c.args.incoming c.args.self.now.writer c.step.new.output
        c.in-Done.server_host c.in-Done.newkeys records _ _
        (done_at _ c.args.kex c.args.incoming c.args.self.now.writer c.in_ok-kex.field-0 c.in-Done.server_host
        c.in-Done.newkeys c.step.new.output c.in-Done.is c.in_ok-kex.ensures.goes)
        (record {
          mid = counted_by g.A.Agreement g.H.HostKeys g.G.GroupLookup c.step.new.parts.agreement
              c.step.new.parts.hosts
              c.step.new.parts.groups;
          step = step_ended _ _ c.step.result c.in_ok-kex.field-0 c.in-Done.server_host c.in-Done.newkeys _ _
              c.in_ok-kex.was c.in-Done.is c.step.ensures.asks;
          agreement = refl;
          hosts_later = c.end_exchange.ensures.keeps.calls_later;
          hosts = c.end_exchange.ensures.calls;
          lookups = refl;
        })
        (record {
          mid = tests_by g.A.Agreement g.H.HostKeys g.G.GroupLookup c.step.new.parts.agreement c.step.new.parts.hosts
              c.step.new.parts.groups;
          step = answered_ended _ _ c.in_ok-kex.field-0 c.in-Done.server_host c.in-Done.newkeys _ _ c.in-Done.is
              c.in_ok-kex.ensures.answers;
          agreement = refl;
          hosts = a;
          lookups = refl;
        }));
    drawn = sends_join (MadeBy g.A.Agreement.client_draws g.A.Agreement.server_draws c.args.kex.setting.side)
        c.args.kex.setting.side c.args.self.now.config.now _ _ _
        (step_sent g.A.Agreement.client_draws g.A.Agreement.server_draws c.args.kex.setting.side
        c.args.self.now.config.now c.args.self.now.writer c.step.new.output c.args.self.now.finished.items
        (g.R.Rng.stream c.args.parts.now.rng) (g.R.Rng.stream c.step.new.parts.rng) c.args.kex.stage _
        c.in_ok-kex.ensures.drawn)
        (installs_sent _ c.args.kex c.args.incoming c.args.self.now.writer c.step.new.output c.in-Done.server_host
        c.in-Done.newkeys (record c.args.self.now { writer = c.step.new.output }) c.end_exchange.new.self
        c.args.self.now.config.now (outcome_of h c.end_exchange.new.opening)
        (g.R.Rng.stream c.step.new.parts.rng)
        (done_at _ c.args.kex c.args.incoming c.args.self.now.writer c.in_ok-kex.field-0 c.in-Done.server_host
        c.in-Done.newkeys c.step.new.output c.in-Done.is c.in_ok-kex.ensures.goes) i);
  }) c.end_exchange.ensures.installs c.end_exchange.ensures.answers;
  asked = on_err c.end_exchange.result _ (ends_refused c.args.kex c.args.incoming c.args.self.now.writer
      c.step.new.output c.in-Done.server_host c.in-Done.newkeys _ _
      (done_at _ c.args.kex c.args.incoming c.args.self.now.writer c.in_ok-kex.field-0 c.in-Done.server_host
      c.in-Done.newkeys c.step.new.output c.in-Done.is c.in_ok-kex.ensures.goes)
      (record {
        mid = counted_by g.A.Agreement g.H.HostKeys g.G.GroupLookup c.step.new.parts.agreement c.step.new.parts.hosts
            c.step.new.parts.groups;
        step = step_ended _ _ c.step.result c.in_ok-kex.field-0 c.in-Done.server_host c.in-Done.newkeys _ _
            c.in_ok-kex.was c.in-Done.is c.step.ensures.asks;
        agreement = refl;
        hosts_later = c.end_exchange.ensures.keeps.calls_later;
        hosts = c.end_exchange.ensures.calls;
        lookups = refl;
      }));
  moves = search rules;
  key_is = installs_key (record c.args.self.now { writer = c.step.new.output }) c.in-Done.newkeys
      c.end_exchange.new.self c.args.opening.now c.end_exchange.new.opening c.end_exchange.result
      c.end_exchange.ensures.installs;
  refuses = if_err c.end_exchange.result _ _ (λ e h. moves_host _ _ _ c.args.kex c.args.incoming c.args.self.now.writer
      c.step.new.output c.in-Done.server_host c.in-Done.newkeys e
      (done_at _ c.args.kex c.args.incoming c.args.self.now.writer c.in_ok-kex.field-0 c.in-Done.server_host
      c.in-Done.newkeys c.step.new.output c.in-Done.is c.in_ok-kex.ensures.goes)
      (distrusted_later _ _ c.in-Done.server_host e (λ (x : ServerHost) u. kept_untrusting g.H.HostKeys _ _ _ x
      c.step.ensures.keeps.hosts u) h)) c.end_exchange.ensures.refused;
  appends = appends_still c.args.self.now _ c.end_exchange.new.self c.end_exchange.result
      (appends_done c.args.self.now c.args.kex c.args.incoming c.in-Done.server_host c.in-Done.newkeys c.step.new.output
      (done_at _ c.args.kex c.args.incoming c.args.self.now.writer c.in_ok-kex.field-0 c.in-Done.server_host
      c.in-Done.newkeys c.step.new.output c.in-Done.is c.in_ok-kex.ensures.goes))
      c.end_exchange.ensures.rests;
}

pub returns-after-reset_seqn : goal.returns-after-reset_seqn
returns-after-reset_seqn g c = record {
  stays = elim c.if-reset_seqn.branch [
    | then-reset_seqn w ↦ subst (λ (x : Session). Stays c.args.self.now
        (record x { kex = InProgress c.in-NeedsReply.kex })) (sym w.self-is)
        (record { valid = c.requires.begins.valid; short = c.requires.begins.short }, refl, refl, (refl, refl))
    | else-reset_seqn w ↦ subst (λ (x : Session). Stays c.args.self.now
        (record x { kex = InProgress c.in-NeedsReply.kex })) (sym w.self-is)
        (record { valid = c.requires.begins.valid; short = c.requires.begins.short }, refl, refl, (refl, refl))
  ];
  unheard = search rules;
  keeps = search rules;
  asks = (let sent = step_sent g.A.Agreement.client_draws g.A.Agreement.server_draws c.args.kex.setting.side
      c.args.self.now.config.now c.args.self.now.writer c.step.new.output c.args.self.now.finished.items
      (g.R.Rng.stream c.args.parts.now.rng) (g.R.Rng.stream c.step.new.parts.rng) c.args.kex.stage _
      c.in_ok-kex.ensures.drawn in
      record {
        asks = moves_on _ c.args.kex c.args.incoming c.args.self.now.writer c.step.new.output c.step.result
            c.in_ok-kex.field-0 c.in-NeedsReply.kex c.in-NeedsReply.reset_seqn _ _ c.in_ok-kex.was c.in-NeedsReply.is
            c.in_ok-kex.ensures.goes
            c.step.ensures.asks
            c.in_ok-kex.ensures.answers;
        drawn = sends_join (MadeBy g.A.Agreement.client_draws g.A.Agreement.server_draws c.args.kex.setting.side)
            c.args.kex.setting.side c.args.self.now.config.now
            (sender_of c.args.self.now (g.R.Rng.stream c.args.parts.now.rng))
            (sender_at c.step.new.output c.args.self.now.finished.items (g.R.Rng.stream c.step.new.parts.rng))
            (sender_of c.if-reset_seqn.self (g.R.Rng.stream c.step.new.parts.rng)) sent (elim c.if-reset_seqn.branch [
              | then-reset_seqn w ↦ subst (λ (x : Session). SendsDrawn
                  (MadeBy g.A.Agreement.client_draws g.A.Agreement.server_draws c.args.kex.setting.side)
                  c.args.kex.setting.side c.args.self.now.config.now
                  (sender_at c.step.new.output c.args.self.now.finished.items (g.R.Rng.stream c.step.new.parts.rng))
                  (sender_of x (g.R.Rng.stream c.step.new.parts.rng))) (sym w.self-is)
                  (numbers_sent (MadeBy g.A.Agreement.client_draws g.A.Agreement.server_draws c.args.kex.setting.side)
                  c.args.kex.setting.side c.args.self.now.config.now true c.step.new.output w.reset_seqn.new.self
                  c.args.self.now.finished.items (g.R.Rng.stream c.step.new.parts.rng) w.reset_seqn.ensures)
              | else-reset_seqn w ↦ subst (λ (x : Session). SendsDrawn
                  (MadeBy g.A.Agreement.client_draws g.A.Agreement.server_draws c.args.kex.setting.side)
                  c.args.kex.setting.side c.args.self.now.config.now
                  (sender_at c.step.new.output c.args.self.now.finished.items (g.R.Rng.stream c.step.new.parts.rng))
                  (sender_of x (g.R.Rng.stream c.step.new.parts.rng))) (sym w.self-is)
                  (sends_still (MadeBy g.A.Agreement.client_draws g.A.Agreement.server_draws c.args.kex.setting.side)
                  c.args.kex.setting.side c.args.self.now.config.now
                  (sender_at c.step.new.output c.args.self.now.finished.items (g.R.Rng.stream c.step.new.parts.rng)))
            ]);
      });
  asked = search rules;
  moves = awaits_in _ c.args.self.now c.args.kex c.args.incoming c.in_ok-kex.field-0 c.in-NeedsReply.kex
      c.in-NeedsReply.reset_seqn c.step.new.output c.if-reset_seqn.self c.in-NeedsReply.is c.in_ok-kex.ensures.goes
      (elim c.if-reset_seqn.branch [
        | then-reset_seqn w ↦ subst (λ (x : Session). IsRenumbered c.args.self.now c.in-NeedsReply.reset_seqn
            c.step.new.output x) (sym w.self-is) (renumbered c.args.self.now c.in-NeedsReply.reset_seqn c.step.new.output
            w.reset_seqn.new.self w.if-reset_seqn.true w.reset_seqn.ensures)
        | else-reset_seqn w ↦ subst (λ (x : Session). IsRenumbered c.args.self.now c.in-NeedsReply.reset_seqn
            c.step.new.output x) (sym w.self-is) (numbered_on c.args.self.now c.in-NeedsReply.reset_seqn c.step.new.output
            w.if-reset_seqn.false)
      ]);
  key_is = search rules;
  refuses = search rules;
  appends = search rules;
}

pub returns-in_err-kex : goal.returns-in_err-kex
returns-in_err-kex g c = record {
  stays = search rules;
  unheard = search rules;
  keeps = search rules;
  asks = search rules;
  asked = on_err _ _ (refused_asks _ _ c.step.result c.in_err-kex.field-0.0 _ _ c.in_err-kex.was
      c.step.ensures.asks);
  moves = search rules;
  key_is = search rules;
  refuses = search rules;
  appends = search rules;
}
