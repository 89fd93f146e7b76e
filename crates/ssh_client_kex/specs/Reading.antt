-- The fields of messages as they are read.
use Rattle.std.specs.Prelude.{◌≡◌, ℕ, ◌++◌, List, Ok}
use Rattle.ssh_wire.specs.Forms.{mpint, string}
use Rattle.ssh_kex.specs.Messages.{IsCanonical}
use Rattle.ssh_kex.specs.Fields.{group_in, reply_front}
use Rattle.ssh_kex.specs.declared.group.DhGroup.{DhGroup}

-- the fields of a group
pub record ReadsGroup (fields : List ℕ) (g : DhGroup) : Type 0 where
  pub read : group_in fields ≡ Ok g
  pub spelled : fields ≡ mpint g.prime ++ mpint g.generator
  pub canonical : IsCanonical g

-- the host's blob and the server's value at the front of a reply
pub record ReadsFront (fields host value behind : List ℕ) : Type 0 where
  pub read : reply_front fields ≡ Ok (record { host = host; value = value; behind = behind })
  pub spelled : fields ≡ string host ++ (string value ++ behind)
