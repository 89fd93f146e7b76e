-- What the members of the parts' traits owe in a link, from their laws.
use Rattle.std.proofs.Common.{◌≡◌, ℕ, ◌≤◌, List, refl, sym, ◌∙◌, ap, subst, Bool, true, if◌then◌else◌, Option, Some, None}
use Rattle.ssh_wire.specs.Sides.{other_side}
use Rattle.ssh_wire.specs.declared.side.Side.{Side}
use Rattle.ssh_wire.specs.declared.side.Side.TheVariants.{Client, Server}
use Rattle.ssh_negotiate.specs.declared.kex.Name.{Name as KexName}
use Rattle.ssh_negotiate.specs.declared.preferred.HostKey.{HostKey}
use Rattle.ssh_kex.specs.Fields.{IsInside}
use Rattle.ssh_kex.specs.Members.{AgreementKept, AgreementMembers, GroupLookupMembers, GroupsKept, HostKeysMembers, HostsKept}
use Rattle.ssh_kex.specs.Messages.{bit_size, is_gex}
use Rattle.ssh_kex.specs.Setting.{Says}
use Rattle.ssh_kex.specs.Parts.{IsSmall, Presents, Setup}
use Rattle.ssh_kex.specs.Stepping.{denies_of, says_of}
use Rattle.ssh_kex.specs.declared.exchange.ServerHost.{ServerHost}
use Rattle.ssh_kex.specs.declared.group.DhGroup.{DhGroup}
use Rattle.ssh_rules.specs.Headline.{chosen_by, kind_by}
use Rattle.ssh_rules.specs.Refused.{group_due, one_of}
use Rattle.ssh_rules.specs.RunLaws.{config_of, says_by}
use Rattle.ssh_rules.proofs.refusals.Obliged.{AreSmall, Duties, IsDue, Owes}
use Rattle.ssh_rules.specs.LinkCauses.{unobliged_of}

wrong_side : Client ≡ Server → ⊥
wrong_side e = cc

-- the laws of the members that obliging parts are judged by
pub record PartLaws {A H G : Type 0} (ma : AgreementMembers A) (mh : HostKeysMembers H) (mg : GroupLookupMembers G) : Type 0 where
  pub agreement : (v w : A) (s : Setup) (q : Option DhGroup) → ma.obliging v w s q → ma.lawful v s
  pub lookup : (v w : G) (s : Setup) → mg.obliging v w s → mg.lawful v s
  pub fits : (v w : G) (s : Setup) → mg.obliging v w s → (s.client.gex.min_group_size ≤ bit_size (mg.group v s.client.gex).prime) × (bit_size (mg.group v s.client.gex).prime ≤ s.client.gex.max_group_size)
  pub accepted : (v w : H) (s : Setup) (host : ServerHost) (hash signature : List ℕ) → mh.judges v w s → mh.makes s.server host hash signature → mh.accepts v host hash signature ≡ true
  pub trusted : (v w : H) (s : Setup) (host : ServerHost) (key : HostKey) → mh.judges v w s → Presents s.server host key host.algorithm → mh.trusts v host ≡ true

-- the group that is due, by what the server's lookup finds
due_is : (says : Side → Says) (t : Setup) (found : DhGroup) (kex : KexName) (group : Option DhGroup) → kind_by (chosen_by t.client t.server) ≡ is_gex kex → ((g : DhGroup) → (says Server).finds t.client.gex g → g ≡ found) → IsDue says (config_of t) kex group → group_due t found ≡ group
due_is says t found kex None kind only d = ap (λ (b : Bool). if b then Some found else None) (kind ∙ d)
due_is says t found kex (Some g) kind only d = ap (λ (b : Bool). if b then Some found else None) (kind ∙ d.0) ∙ ap (λ (q : DhGroup). Some q) (sym (only g d.1))

-- where the agreements of both sides and the server's lookup are lawful, a part that refuses what it owes doesn't oblige
pub owes_of : {A H G : Type 0} (ma : AgreementMembers A) (mh : HostKeysMembers H) (mg : GroupLookupMembers G)
    → PartLaws ma mh mg
    → (t : Setup) (a b : A) (h i : H) (g j : G) (kex : KexName) (side : Side) (v v' : A) (x x' : H) (y y' : G) → ma.lawful a t → ma.lawful b t → mg.lawful j t → kind_by (chosen_by t.client t.server) ≡ is_gex kex → ma.offered v ≡ ma.offered (one_of side a b)
    → Owes (says_by (says_of ma mh mg) t a b h i g j) (config_of t) side kex (denies_of ma mh mg v v' x x' y y')
    (unobliged_of ma mh mg t i j v v' x x' y y')
owes_of ma mh mg laws t a b h i g j kex Client v v' x x' y y' la lb lj kind same = record {
  start = λ name q u k f d. (d.0, λ o. d.1 t (at q u o) k (ap (λ (z : KexName → Bool). z name) same ∙ f));
  value = λ name q l p u k f m d. (d.0, λ o. d.1 t l (at q u o) k (ap (λ (z : KexName → Bool). z name) same ∙ f) (m t la));
  reply = λ name q l p w u k f m n d. (d.0, λ o. d.1 t p (at q u o) k (ap (λ (z : KexName → Bool). z name) same ∙ f) (m t la) (n t lb));
  lookup = λ e k sizes d. (d.0, kind ∙ k, λ o. d.1 t o);
  sign = λ e d. (d.0, λ o. d.1 t refl o);
  verify = λ e host hash signature m d. (d.0, λ later o p. d.1 t o (laws.accepted x x' t host hash signature o (m later t refl p)));
} where
  at : (q : Option DhGroup) → IsDue (says_by (says_of ma mh mg) t a b h i g j) (config_of t) kex q → ma.obliging v v' t (group_due t (mg.group j t.client.gex)) → ma.obliging v v' t q
  at q u o = subst (ma.obliging v v' t) (due_is (says_by (says_of ma mh mg) t a b h i g j) t (mg.group j t.client.gex) kex q kind (λ z f. (f t lj).0) u) o
owes_of ma mh mg laws t a b h i g j kex Server v v' x x' y y' la lb lj kind same = record {
  start = λ name q u k f d. (d.0, λ o. d.1 t (at q u o) k (ap (λ (z : KexName → Bool). z name) same ∙ f));
  value = λ name q l p u k f m d. (d.0, λ o. d.1 t l (at q u o) k (ap (λ (z : KexName → Bool). z name) same ∙ f) (m t la));
  reply = λ name q l p w u k f m n d. (d.0, λ o. d.1 t p (at q u o) k (ap (λ (z : KexName → Bool). z name) same ∙ f) (m t la) (n t lb));
  lookup = λ e k sizes d. (d.0, kind ∙ k, λ o. d.1 t o);
  sign = λ e d. (d.0, λ o. d.1 t refl o);
  verify = λ e host hash signature m d. (d.0, λ later o p. d.1 t o (laws.accepted x x' t host hash signature o (m later t refl p)));
} where
  at : (q : Option DhGroup) → IsDue (says_by (says_of ma mh mg) t a b h i g j) (config_of t) kex q → ma.obliging v v' t (group_due t (mg.group j t.client.gex)) → ma.obliging v v' t q
  at q u o = subst (ma.obliging v v' t) (due_is (says_by (says_of ma mh mg) t a b h i g j) t (mg.group j t.client.gex) kex q kind (λ z f. (f t lj).0) u) o

-- so obliging parts do what they owe: those that are asked are those at the start, after some calls
pub duties_of : {A H G : Type 0} (ma : AgreementMembers A) (mh : HostKeysMembers H) (mg : GroupLookupMembers G)
    → PartLaws ma mh mg
    → (t : Setup) (a a' b b' : A) (h h' i i' : H) (g g' j j' : G) (kex : KexName) (side : Side) (v : A) (x : H) (y : G)
    → ma.obliging a a' t (group_due t (mg.group j t.client.gex)) → ma.obliging b b' t (group_due t (mg.group j t.client.gex)) → mh.judges h h' t → mh.signs i i' t → mg.lawful j t → kind_by (chosen_by t.client t.server) ≡ is_gex kex → (is_gex kex ≡ true → mg.obliging j j' t) → ma.offered (one_of side a b) kex ≡ true
    → AgreementKept ma (one_of side a b) v → HostsKept mh (one_of side h i) x → GroupsKept mg (one_of side g j) y
    → Duties (says_by (says_of ma mh mg) t a b h i g j) (config_of t) side kex
    (denies_of ma mh mg v (one_of side a' b') x (one_of side h' i') y (one_of side g' j'))
duties_of ma mh mg laws t a a' b b' h h' i i' g g' j j' kex Client v x y oa ob jh si lj kind oj o ka kh kg =
    let d = owes_of ma mh mg laws t a b h i g j kex Client v a' x h' y g' (laws.agreement a a' t _ oa) (laws.agreement b b' t _ ob) lj kind ka.offered_kept in record {
      offered = o;
      owes = record {
        start = λ name q u k f r. (d.start name q u k f r).1 (ka.obliging_kept a' t _ oa);
        value = λ name q l p u k f m r. (d.value name q l p u k f m r).1 (ka.obliging_kept a' t _ oa);
        reply = λ name q l p w u k f m n r. (d.reply name q l p w u k f m n r).1 (ka.obliging_kept a' t _ oa);
        lookup = λ e. absurd (wrong_side e);
        sign = λ e. absurd (wrong_side e);
        verify = λ e host hash signature m r. (d.verify e host hash signature m r).1 i' (kh.judges_kept h' t jh) si;
      };
      fits = λ k q f. fits_by (f t lj).0 (laws.fits j j' t (oj k));
    } where
      fits_by : {q : DhGroup} → q ≡ mg.group j t.client.gex → (t.client.gex.min_group_size ≤ bit_size (mg.group j t.client.gex).prime) × (bit_size (mg.group j t.client.gex).prime ≤ t.client.gex.max_group_size) → IsInside t.client.gex q
      fits_by e l = record { least = subst (λ (z : DhGroup). t.client.gex.min_group_size ≤ bit_size z.prime) (sym e) l.0; most = subst (λ (z : DhGroup). bit_size z.prime ≤ t.client.gex.max_group_size) (sym e) l.1 }
duties_of ma mh mg laws t a a' b b' h h' i i' g g' j j' kex Server v x y oa ob jh si lj kind oj o ka kh kg =
    let d = owes_of ma mh mg laws t a b h i g j kex Server v b' x i' y j' (laws.agreement a a' t _ oa) (laws.agreement b b' t _ ob) lj kind ka.offered_kept in record {
      offered = o;
      owes = record {
        start = λ name q u k f r. (d.start name q u k f r).1 (ka.obliging_kept b' t _ ob);
        value = λ name q l p u k f m r. (d.value name q l p u k f m r).1 (ka.obliging_kept b' t _ ob);
        reply = λ name q l p w u k f m n r. (d.reply name q l p w u k f m n r).1 (ka.obliging_kept b' t _ ob);
        lookup = λ e k sizes r. (d.lookup e k sizes r).2 (kg.obliging_kept j' t (oj k));
        sign = λ e r. (d.sign e r).1 (kh.signs_kept i' t si);
        verify = λ e. absurd (wrong_side (sym e));
      };
      fits = λ k q f. fits_by (f t lj).0 (laws.fits j j' t (oj k));
    } where
      fits_by : {q : DhGroup} → q ≡ mg.group j t.client.gex → (t.client.gex.min_group_size ≤ bit_size (mg.group j t.client.gex).prime) × (bit_size (mg.group j t.client.gex).prime ≤ t.client.gex.max_group_size) → IsInside t.client.gex q
      fits_by e l = record { least = subst (λ (z : DhGroup). t.client.gex.min_group_size ≤ bit_size z.prime) (sym e) l.0; most = subst (λ (z : DhGroup). bit_size z.prime ≤ t.client.gex.max_group_size) (sym e) l.1 }

-- what lawful parts make is small
pub small_of : {A H G : Type 0} (ma : AgreementMembers A) (mh : HostKeysMembers H) (mg : GroupLookupMembers G)
    → ((v : G) (s : Setup) → mg.lawful v s → IsSmall (mg.group v s.client.gex).prime × IsSmall (mg.group v s.client.gex).generator)
    → (t : Setup) (a b : A) (h i : H) (g j : G) (side : Side) → ma.lawful a t → ma.lawful b t → mh.lawful h t → mh.lawful i t → mg.lawful j t
    → AreSmall (says_by (says_of ma mh mg) t a b h i g j side) side (config_of t (other_side side)).gex
small_of ma mh mg small t a b h i g j Client la lb lhh li lj = record {
  value = λ w f. f t la;
  signature = λ w f. f t lhh;
  group = λ e. absurd (wrong_side e);
}
small_of ma mh mg small t a b h i g j Server la lb lhh li lj = record {
  value = λ w f. f t lb;
  signature = λ w f. f t li;
  group = λ e q f. subst (λ (z : DhGroup). IsSmall z.prime × IsSmall z.generator) (sym (f t lj).0) (small j t lj);
}
