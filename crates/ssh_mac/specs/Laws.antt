-- What is true of every digest and of every tag.
use Rattle.std.specs.Prelude.{◌≡◌, ℕ, ◌≤◌, true, List, length}
use Rattle.ssh_mac.specs.declared.digest.DigestKind.{DigestKind}
use Rattle.ssh_mac.specs.Digests.{digest_of, digest_length}
use Rattle.ssh_mac.specs.Tags.{MacOf, tag_of, tag_length, takes_tag}

-- a digest has as many bytes as its hash function says
abbrev pub DigestsHaveLength : Type 0
DigestsHaveLength = (kind : DigestKind) (text : List ℕ) → length (digest_of kind text) ≡ digest_length kind

-- a tag has as many bytes as its MAC says, at most 64
abbrev pub TagsHaveLength : Type 0
TagsHaveLength = (mac : MacOf) (number : ℕ) (text : List ℕ) → length (tag_of mac number text) ≡ tag_length mac

abbrev pub TagsAreShort : Type 0
TagsAreShort = (mac : MacOf) → tag_length mac ≤ 64

-- a tag is taken for itself
abbrev pub OwnTagTaken : Type 0
OwnTagTaken = (mac : MacOf) (number : ℕ) (text : List ℕ) → takes_tag mac number text (tag_of mac number text) ≡ true

-- what is taken for a tag, and has its length, is the tag
abbrev pub TakenIsTag : Type 0
TakenIsTag = (mac : MacOf) (number : ℕ) (text given : List ℕ) → takes_tag mac number text given ≡ true → length given ≡ tag_length mac → given ≡ tag_of mac number text
