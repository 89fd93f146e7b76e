use Rattle.std.proofs.Common.{[], ◌∷◌, ◌++◌, refl, sym, ap, ◌∙◌, append_assoc, append-nil}
use Rattle.ssh_kex.specs.declared.config.Config.{Config}
use Rattle.ssh_transport.proofs.Lemmas.{agreement_after, agreement_same, groups_after, groups_same, hosts_after, hosts_same, kept_weaker}
use Rattle.uses.proofs.Joining.{kept_none, kept_some, some_shorter}
use Rattle.uses.proofs.streams.read_kept.Goals as goal
use Rattle.ssh_kex.specs.Stepping.{says_of}

pub payloads-init : goal.payloads-init
payloads-init g c = record {
  so_far = ([], sym (append-nil c.args.lent.now.items), λ rest end f. f);
  config = refl;
  agreement = agreement_same _ _ _ _ _ _;
  hosts = hosts_same _ _ _ _ _ _ _ _ _ _;
  groups = groups_same _ _ _ _ _ _;
}

pub payloads-preserved : goal.payloads-preserved
payloads-preserved g c =
    let so = c.payloads.invariant.so_far in
    record {
      so_far = (
        so.0 ++ c.in-Some.payload ∷ [],
        c.in_ok-push-in-Some.ensures.items ∙ (ap (λ x. x ++ c.in-Some.payload ∷ []) so.1 ∙ append_assoc c.args.lent.now.items so.0 (c.in-Some.payload ∷ [])),
        kept_some (λ (x : Config). says_of g.A.Agreement g.H.HostKeys g.G.GroupLookup x c.args.parts.now.agreement c.args.parts.now.hosts c.args.parts.now.groups) (λ (x : Config). says_of g.A.Agreement g.H.HostKeys g.G.GroupLookup x c.payloads.parts.agreement c.payloads.parts.hosts c.payloads.parts.groups) (λ (x : Config). kept_weaker g.A.Agreement g.H.HostKeys g.G.GroupLookup _ _ _ _ _ _ _ c.payloads.invariant.agreement c.payloads.invariant.hosts c.payloads.invariant.groups) c.args.transport.now c.payloads.transport c.read_payload.new.transport so.0 c.in_ok-payload.field-0 c.in-Some.payload c.in-Some.is c.payloads.invariant.config so.2 c.in_ok-payload.ensures.polled,
      );
      config = c.read_payload.ensures.config ∙ c.payloads.invariant.config;
      agreement = agreement_after _ _ _ _ _ _ _ _ c.payloads.invariant.agreement c.read_payload.ensures.keeps.agreement;
      hosts = hosts_after _ _ _ _ _ _ _ _ _ _ _ _ c.payloads.invariant.hosts c.read_payload.ensures.keeps.hosts;
      groups = groups_after _ _ _ _ _ _ _ _ c.payloads.invariant.groups c.read_payload.ensures.keeps.groups;
    }

pub payloads-smaller : goal.payloads-smaller
payloads-smaller g c = some_shorter _ c.payloads.transport c.read_payload.new.transport c.in_ok-payload.field-0 c.in-Some.payload c.in-Some.is c.in_ok-payload.ensures.polled

pub returns-in-None-clause-read : goal.returns-in-None-clause-read
returns-in-None-clause-read g c =
    let so = c.payloads.invariant.so_far in
    (so.0, so.1, kept_none (λ (x : Config). says_of g.A.Agreement g.H.HostKeys g.G.GroupLookup x c.args.parts.now.agreement c.args.parts.now.hosts c.args.parts.now.groups) (λ (x : Config). says_of g.A.Agreement g.H.HostKeys g.G.GroupLookup x c.payloads.parts.agreement c.payloads.parts.hosts c.payloads.parts.groups) (λ (x : Config). kept_weaker g.A.Agreement g.H.HostKeys g.G.GroupLookup _ _ _ _ _ _ _ c.payloads.invariant.agreement c.payloads.invariant.hosts c.payloads.invariant.groups) c.args.transport.now c.payloads.transport c.read_payload.new.transport so.0 c.in_ok-payload.field-0 c.in-None.is c.payloads.invariant.config so.2 c.in_ok-payload.ensures.polled)
