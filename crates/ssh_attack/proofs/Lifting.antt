-- What later states of the parts say of a side is said by earlier ones, and what was denied stays denied.
use Rattle.std.proofs.Common.{ℕ, ◌≤◌, arith}
use Rattle.ssh_wire.specs.Outside.{Rose}
use Rattle.ssh_kex.specs.Setting.{Says}
use Rattle.ssh_kex.specs.declared.config.Config.{Config}
use Rattle.ssh_kex.specs.declared.exchange.ServerHost.{ServerHost}
use Rattle.ssh_rules.specs.Attacking.{Tells, tells_by}
use Rattle.ssh_rules.proofs.Lemmas.{Lifts}
use Rattle.ssh_transport.proofs.Lemmas.{Denying, Weaker, asking_still, input_still, kept_denying, kept_untrusting, rekeyed_still, submitted_still}
use Rattle.ssh_kex.specs.Members.{AgreementKept, AgreementMembers, GroupLookupMembers, GroupsKept, HostKeysMembers, HostsKept}

-- the words alone
by_denying : (t u : Tells) → Denying t.says u.says t.denies u.denies → ((host : ServerHost) → t.untrusted host → u.untrusted host) → Lifts t u
by_denying t u d w = record {
  input = λ old bytes new i. input_still t.says u.says d.weaker old bytes new i;
  piece = λ old bytes e new n n' r. asking_still t.says u.says t.denies u.denies t.untrusted u.untrusted d w old bytes e new n n' r;
  submitted = λ old payload new s. submitted_still t.says u.says d.weaker old payload new s;
  rekeyed = λ old new r. rekeyed_still t.says u.says d.weaker old new r;
}

-- from the states behind some calls to those before them
pub earlier_lifts : {A H G : Type 0} (ma : AgreementMembers A) (mh : HostKeysMembers H) (mg : GroupLookupMembers G) (config : Config) (a a' a'' : A) (h h' h'' : H) (g g' g'' : G)
    → AgreementKept ma a a' → HostsKept mh h h' → GroupsKept mg g g'
    → Lifts (tells_by ma mh mg config a' a'' h' h'' g' g'')
    (tells_by ma mh mg config a a'' h h'' g g'')
earlier_lifts ma mh mg config a a' a'' h h' h'' g g' g'' ka kh kg =
    by_denying _ _
    (kept_denying ma mh mg config a a' a'' h h' h'' g g' g'' ka kh kg)
    (λ host u. kept_untrusting mh h h' h'' host kh u)

same_weaker : (a : Says) → Weaker a a
same_weaker a = record {
  agrees = λ n q c v x k. k;
  client_makes = λ n q l c k. k;
  server_makes = λ n q c v k. k;
  reply = λ n q l c v x k m. k m;
  finds = λ sizes q k. k;
  signs = λ host hash signature k. k;
  accepts = λ host hash signature k. k;
  trusts = λ host k. k;
  offers = λ n k. k;
}

rose_more : (x y z : ℕ) → Rose x y → y ≤ z → Rose x z
rose_more x y z r h = omega (arith, h, r)

-- and what was denied behind some calls was denied behind more
pub later_lifts : {A H G : Type 0} (ma : AgreementMembers A) (mh : HostKeysMembers H) (mg : GroupLookupMembers G) (config : Config) (a a' a'' : A) (h h' h'' : H) (g g' g'' : G)
    → AgreementKept ma a' a'' → HostsKept mh h' h'' → GroupsKept mg g' g''
    → Lifts (tells_by ma mh mg config a a' h h' g g')
    (tells_by ma mh mg config a a'' h h'' g g'')
later_lifts ma mh mg config a a' a'' h h' h'' g g' g'' ka kh kg =
    by_denying _ _
    (record {
      weaker = same_weaker _;
      offers = λ n o. o;
      value_small = λ v k. k;
      signature_small = λ v k. k;
      start = λ n q k. (rose_more (ma.refusals a) (ma.refusals a') (ma.refusals a'') k.0 ka.refusals_later, λ s o. k.1 s (ka.obliging_sooner a s q o));
      value = λ n q v k. (rose_more (ma.refusals a) (ma.refusals a') (ma.refusals a'') k.0 ka.refusals_later, λ s l o. k.1 s l (ka.obliging_sooner a s q o));
      reply = λ n q l v k. (rose_more (ma.refusals a) (ma.refusals a') (ma.refusals a'') k.0 ka.refusals_later, λ s c o. k.1 s c (ka.obliging_sooner a s q o));
      lookup = λ sizes k. (rose_more (mg.refusals g) (mg.refusals g') (mg.refusals g'') k.0 kg.refusals_later, λ s o. k.1 s (kg.obliging_sooner g s o));
      sign = λ config k. (rose_more (mh.refused_sign h) (mh.refused_sign h') (mh.refused_sign h'') k.0 kh.sign_later, λ s e o. k.1 s e (kh.signs_sooner h s o));
      verify = λ host hash signature k. (rose_more (mh.refused_verify h) (mh.refused_verify h') (mh.refused_verify h'') k.0 kh.verify_later, λ s o. k.1 s (kh.judges_sooner h s o));
    })
    (λ host u. (rose_more (mh.refused_check h) (mh.refused_check h') (mh.refused_check h'') u.0 kh.check_later, λ s o. u.1 s (kh.judges_sooner h s o)))
