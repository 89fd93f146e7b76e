-- All members of a part's trait, as one record, and what they say that each call keeps.
use Rattle.ssh_kex.specs.Parts.{KeepsAgreement, KeepsGroups, KeepsHosts}
use Rattle.ssh_kex.specs.declared.parts.Agreement as agreement
use Rattle.ssh_kex.specs.declared.parts.HostKeys as hosts
use Rattle.ssh_kex.specs.declared.parts.GroupLookup as lookup

-- the members of a key agreement's trait
abbrev pub AgreementMembers : Type 0 → Type 1
AgreementMembers A = agreement.Ghosts A

-- the members of the trait of host keys
abbrev pub HostKeysMembers : Type 0 → Type 1
HostKeysMembers H = hosts.Ghosts H

-- the members of the trait of a group lookup
abbrev pub GroupLookupMembers : Type 0 → Type 1
GroupLookupMembers G = lookup.Ghosts G

-- what each call keeps of an agreement, from one state to the next
abbrev pub AgreementKept : {A : Type 0} → AgreementMembers A → A → A → Type 0
AgreementKept ma a a' = KeepsAgreement ma.lawful ma.obliging ma.offered ma.refusals ma.calls a a'

-- what each call keeps of host keys
abbrev pub HostsKept : {H : Type 0} → HostKeysMembers H → H → H → Type 0
HostsKept mh h h' = KeepsHosts mh.lawful mh.signs mh.judges mh.accepts mh.trusts mh.refused_sign mh.refused_verify
    mh.refused_check mh.calls h h'

-- what each call keeps of a group lookup
abbrev pub GroupsKept : {G : Type 0} → GroupLookupMembers G → G → G → Type 0
GroupsKept mg g g' = KeepsGroups mg.lawful mg.obliging mg.group mg.refusals mg.calls g g'
