-- What the calls of the parts keep, one after the other.
use Rattle.std.proofs.Common.{ℕ, Bool, List, refl, ◌∙◌, arith, Option}
use Rattle.ssh_negotiate.specs.declared.kex.Name as kexes
use Rattle.ssh_kex.specs.Parts.{KeepsAgreement, KeepsGroups, KeepsHosts, KeepsParts, Setup}
use Rattle.ssh_kex.specs.declared.exchange.ServerHost.{ServerHost}
use Rattle.ssh_kex.specs.declared.group.DhGroup.{DhGroup}
use Rattle.ssh_kex.specs.declared.group.GexParams.{GexParams}

pub agreement_same : {A : Type 0} (lawful : A → Setup → Type 0) (obliging : A → A → Setup → Option DhGroup → Type 0)
    (offered : A → kexes.Name → Bool) (refusals calls : A → ℕ) (a : A)
    → KeepsAgreement lawful obliging offered refusals calls a a
agreement_same lawful obliging offered refusals calls a = record {
  refusals_later = omega arith;
  calls_later = omega arith;
  lawful_kept = λ s h. h;
  obliging_kept = λ w s q h. h;
  obliging_sooner = λ v s q h. h;
  offered_kept = refl;
}

pub agreement_after : {A : Type 0} (lawful : A → Setup → Type 0) (obliging : A → A → Setup → Option DhGroup → Type 0)
    (offered : A → kexes.Name → Bool) (refusals calls : A → ℕ) (a b c : A)
    → KeepsAgreement lawful obliging offered refusals calls a b
    → KeepsAgreement lawful obliging offered refusals calls b c
    → KeepsAgreement lawful obliging offered refusals calls a c
agreement_after lawful obliging offered refusals calls a b c h k = record {
  refusals_later = (let x = h.refusals_later in let y = k.refusals_later in omega (arith, x, y));
  calls_later = (let x = h.calls_later in let y = k.calls_later in omega (arith, x, y));
  lawful_kept = λ s l. k.lawful_kept s (h.lawful_kept s l);
  obliging_kept = λ w s q l. k.obliging_kept w s q (h.obliging_kept w s q l);
  obliging_sooner = λ v s q l. h.obliging_sooner v s q (k.obliging_sooner v s q l);
  offered_kept = k.offered_kept ∙ h.offered_kept;
}

pub hosts_same : {H : Type 0} (lawful : H → Setup → Type 0) (signs judges : H → H → Setup → Type 0)
    (accepts : H → ServerHost → List ℕ → List ℕ → Bool) (trusts : H → ServerHost → Bool)
    (refused_sign refused_verify refused_check calls : H → ℕ) (a : H)
    → KeepsHosts lawful signs judges accepts trusts refused_sign refused_verify refused_check calls a a
hosts_same lawful signs judges accepts trusts rs rv rc calls a = record {
  sign_later = omega arith;
  verify_later = omega arith;
  check_later = omega arith;
  calls_later = omega arith;
  lawful_kept = λ s h. h;
  signs_kept = λ w s h. h;
  signs_sooner = λ v s h. h;
  judges_kept = λ w s h. h;
  judges_sooner
      = λ v s h. h;
  accepts_kept = refl;
  trusts_kept = refl;
}

pub hosts_after : {H : Type 0} (lawful : H → Setup → Type 0) (signs judges : H → H → Setup → Type 0)
    (accepts : H → ServerHost → List ℕ → List ℕ → Bool) (trusts : H → ServerHost → Bool)
    (refused_sign refused_verify refused_check calls : H → ℕ) (a b c : H)
    → KeepsHosts lawful signs judges accepts trusts refused_sign refused_verify refused_check calls a b
    → KeepsHosts lawful signs judges accepts trusts refused_sign refused_verify refused_check calls b c
    → KeepsHosts lawful signs judges accepts trusts refused_sign refused_verify refused_check calls a c
hosts_after lawful signs judges accepts trusts rs rv rc calls a b c h k = record {
  sign_later = (let x = h.sign_later in let y = k.sign_later in omega (arith, x, y));
  verify_later = (let x = h.verify_later in let y = k.verify_later in omega (arith, x, y));
  check_later = (let x = h.check_later in let y = k.check_later in omega (arith, x, y));
  calls_later = (let x = h.calls_later in let y = k.calls_later in omega (arith, x, y));
  lawful_kept = λ s l. k.lawful_kept s (h.lawful_kept s l);
  signs_kept = λ w s l. k.signs_kept w s (h.signs_kept w s l);
  signs_sooner = λ v s l. h.signs_sooner v s (k.signs_sooner v s l);
  judges_kept = λ w s l. k.judges_kept w s (h.judges_kept w s l);
  judges_sooner = λ v s l. h.judges_sooner v s (k.judges_sooner v s l);
  accepts_kept = k.accepts_kept ∙ h.accepts_kept;
  trusts_kept = k.trusts_kept ∙ h.trusts_kept;
}

pub groups_same : {G : Type 0} (lawful : G → Setup → Type 0) (obliging : G → G → Setup → Type 0)
    (group : G → GexParams → DhGroup) (refusals calls : G → ℕ) (a : G)
    → KeepsGroups lawful obliging group refusals calls a a
groups_same lawful obliging group refusals calls a = record {
  refusals_later = omega arith;
  calls_later = omega arith;
  lawful_kept = λ s h. h;
  obliging_kept = λ w s h. h;
  obliging_sooner = λ v s h. h;
  group_kept = refl;
}

pub groups_after : {G : Type 0} (lawful : G → Setup → Type 0) (obliging : G → G → Setup → Type 0)
    (group : G → GexParams → DhGroup) (refusals calls : G → ℕ) (a b c : G)
    → KeepsGroups lawful obliging group refusals calls a b → KeepsGroups lawful obliging group refusals calls b c
    → KeepsGroups lawful obliging group refusals calls a c
groups_after lawful obliging group refusals calls a b c h k = record {
  refusals_later = (let x = h.refusals_later in let y = k.refusals_later in omega (arith, x, y));
  calls_later = (let x = h.calls_later in let y = k.calls_later in omega (arith, x, y));
  lawful_kept = λ s l. k.lawful_kept s (h.lawful_kept s l);
  obliging_kept = λ w s l. k.obliging_kept w s (h.obliging_kept w s l);
  obliging_sooner = λ v s l. h.obliging_sooner v s (k.obliging_sooner v s l);
  group_kept = k.group_kept ∙ h.group_kept;
}

pub parts_same : {A H G : Type 0} (lawful : A → Setup → Type 0) (obliging : A → A → Setup → Option DhGroup → Type 0)
    (offered : A → kexes.Name → Bool) (refusals calls : A → ℕ)
    (lawful_hosts : H → Setup → Type 0) (signs judges : H → H → Setup → Type 0)
    (accepts : H → ServerHost → List ℕ → List ℕ → Bool) (trusts : H → ServerHost → Bool)
    (refused_sign refused_verify refused_check calls_hosts : H → ℕ)
    (lawful_groups : G → Setup → Type 0) (obliging_groups : G → G → Setup → Type 0) (group : G → GexParams → DhGroup)
    (refusals_groups calls_groups : G → ℕ) (a : A) (h : H) (g : G)
    → KeepsParts (KeepsAgreement lawful obliging offered refusals calls a a)
    (KeepsHosts lawful_hosts signs judges accepts trusts refused_sign refused_verify refused_check calls_hosts h h)
    (KeepsGroups lawful_groups obliging_groups group refusals_groups calls_groups g g)
parts_same lawful obliging offered refusals calls lh sg jd accepts trusts rs rv rc ch lg og group rg cg a h g = record {
  agreement = agreement_same lawful obliging offered refusals calls a;
  hosts = hosts_same lh sg jd accepts trusts rs rv rc ch h;
  groups = groups_same lg og group rg cg g;
}
