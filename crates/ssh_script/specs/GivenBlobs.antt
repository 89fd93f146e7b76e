-- Which blobs the lines of a script gave the server so far.
use Rattle.std.specs.Prelude.{◌≡◌, ℕ, Bool, List}
use Rattle.std.specs.BTreeSet.{contains_by}
use Rattle.std.specs.Cmp.Lexicographic.{slice_cmp}
use Rattle.std.specs.Ordering.{nat_cmp}
use Rattle.ssh_negotiate.specs.Preferences.{Hosts}
use Rattle.ssh_script.specs.RunScript.{has_blob}
use Rattle.ssh_script.specs.declared.given_blobs.GivenBlobs.{GivenBlobs}

-- whether it is one of them
abbrev pub is_given : GivenBlobs → List ℕ → Bool
is_given given blob = contains_by (λ k. slice_cmp nat_cmp blob k.items) given.blobs

-- they are the blobs of the server's host keys and certificates
abbrev pub AreBlobsOf : Hosts → GivenBlobs → Type 0
AreBlobsOf host given = (blob : List ℕ) → is_given given blob ≡ has_blob host blob
