-- What one side's parts do in an attacked run, by the members of their traits.
use Rattle.std.proofs.Common.{◌≡◌, ℕ, List, Bool, true, Option, None, refl, subst, sym}
use Rattle.std.specs.Prelude.{Result}
use Rattle.ssh_wire.specs.declared.error.Error.{Error}
use Rattle.ssh_rules.specs.declared.link.AttackStep.{AttackStep}
use Rattle.ssh_rules.specs.Standing.{IsNew, Standing}
use Rattle.ssh_wire.specs.declared.side.Side.{Side}
use Rattle.ssh_wire.specs.declared.side.Side.TheVariants.{Client, Server}
use Rattle.ssh_rules.specs.Valid.{HasSizes, config_fault}
use Rattle.ssh_rules.proofs.any_bytes.FedReports.{Told}
use Rattle.ssh_kex.specs.Parts.{Setup}
use Rattle.ssh_kex.specs.declared.config.Config.{Config}
use Rattle.ssh_kex.specs.declared.group.DhGroup.{DhGroup}
use Rattle.ssh_rules.specs.AttackCauses.{IsAttackedRun, parts_of}
use Rattle.ssh_rules.specs.Attacking.{AttackedEnd, AttacksSide, attacked_report, tells_by}
use Rattle.ssh_rules.proofs.any_bytes.AttackAnswers.{PartsTold, attacked_run}
use Rattle.ssh_rules.proofs.any_bytes.AttackedLinks.{first_end}
use Rattle.ssh_kex.specs.Members.{AgreementMembers, GroupLookupMembers, HostKeysMembers}
use Rattle.ssh_rules.specs.Asking.{counted_by}

pub parts_told : {A H G : Type 0} (ma : AgreementMembers A) (mh : HostKeysMembers H) (mg : GroupLookupMembers G)
    → ((v w : A) (s : Setup) (q : Option DhGroup) → ma.obliging v w s q → ma.lawful v s) → (side : Side) (config : Config) (s : Setup) (a a' : A) (h h' : H) (g g' : G) → (side ≡ Server → s.server ≡ config)
    → PartsTold (tells_by ma mh mg config a a' h h' g g')
    (parts_of ma mh mg s a a' h h' g g') side config
parts_told ma mh mg law side config s a a' h h' g g' same = record {
  tells = record {
    start = λ n q d. (d.0, λ o i f. d.1 s o i f);
    value = λ n q c d. (d.0, λ o i f l m. d.1 s l o i f m);
    reply = λ n q l v d. (d.0, λ o i f c m w. d.1 s c o i f m w);
    lookup = λ sizes d. (d.0, λ o. d.1 s o);
    sign = λ e d. (d.0, λ o. d.1 s (same e) o);
    verify = λ host hash signature d. (d.0, λ o k. d.1 s o k);
    check = λ host d. (d.0, λ o k. d.1 s o k);
    offers = λ n o. o;
    obliging_lawful = λ q o. law a a' s q o;
    makes = λ n q l c w m. m s w;
    agrees = λ n q c v x w m. m s w;
    value_small = λ v w m. m s w;
    signature_small = λ v w m. m s w;
    finds = λ sizes q w m. (m s w).0;
  };
  offered = λ n o. o;
  before = Rattle.std.proofs.Common.refl;
}

-- what the laws of a run ask of a side's words: a client's host keys judge, a server's don't
pub told_by : {A H G : Type 0} (ma : AgreementMembers A) (mh : HostKeysMembers H) (mg : GroupLookupMembers G) (side : Side) (config : Config) (s : Setup) (a a' : A) (h h' judge : H) (g g' : G)
    → config_fault side config ≡ None → HasSizes config → (side ≡ Client → judge ≡ h)
    → Told (tells_by ma mh mg config a a' h h' g g').says ma.agrees (ma.lawful a s) (mh.accepts judge) (mh.trusts judge) side config
told_by ma mh mg side config s a a' h h' judge g g' valid sizes same = record {
  valid = valid;
  sizes = sizes;
  tells = λ l n q c v x k. k s l;
  answered = λ e. (λ host hash signature k. subst (λ j. mh.accepts j host hash signature ≡ true) (sym (same e)) k, λ host k. subst (λ j. mh.trusts j host ≡ true) (sym (same e)) k);
}

server_only : Server ≡ Client → ⊥
server_only e = cc

-- The report of an attacked run is what such a report says, of all parts whose obliging agreements are lawful.
pub attack_report : {A H G : Type 0} (ma : AgreementMembers A) (mh : HostKeysMembers H) (mg : GroupLookupMembers G)
    → ((v w : A) (s : Setup) (q : Option DhGroup) → ma.obliging v w s q → ma.lawful v s) → (client server : Config) (steps : List AttackStep) (answers : List (Result (Unit {0}) Error))
    → (a a' : A) (h h' : H) (g g' : G) (b b' : A) (i i' : H) (j j' : G) (c s : Standing) (cn sn : AttackedEnd)
    → config_fault Client client ≡ None → config_fault Server server ≡ None → HasSizes client → HasSizes server → IsNew Client client c → IsNew Server server s
    → AttacksSide (tells_by ma mh mg client a a' h h' g g') Client steps answers (first_end (counted_by ma mh mg a h g) c) cn
    → AttacksSide (tells_by ma mh mg server b b' i i' j j') Server steps answers (first_end (counted_by ma mh mg b i j) s) sn
    → cn.calls ≡ counted_by ma mh mg a' h' g' → sn.calls ≡ counted_by ma mh mg b' i' j'
    → IsAttackedRun (parts_of ma mh mg (record { client = client; server = server }) a a' h h' g g') (parts_of ma mh mg (record { client = client; server = server }) b b' i i' j j') client server steps
    (record { client = attacked_report cn; server = attacked_report sn; answers = answers })
attack_report ma mh mg law client server steps answers a a' h h' g g' b b' i i' j j' c s cn sn vc vs zc zs nc ns hc hs ec es =
    attacked_run (tells_by ma mh mg client a a' h h' g g') (tells_by ma mh mg server b b' i i' j j') (parts_of ma mh mg (record { client = client; server = server }) a a' h h' g g') (parts_of ma mh mg (record { client = client; server = server }) b b' i i' j j') client server steps answers c s cn sn
    (parts_told ma mh mg law Client client (record { client = client; server = server }) a a' h h' g g' (λ e. absurd (server_only (sym e)))) (parts_told ma mh mg law Server server (record { client = client; server = server }) b b' i i' j j' (λ e. refl)) ec es
    (told_by ma mh mg Client client (record { client = client; server = server }) a a' h h' h g g' vc zc (λ e. refl)) (told_by ma mh mg Server server (record { client = client; server = server }) b b' i i' h j j' vs zs (λ e. absurd (server_only e)))
    nc ns hc hs
