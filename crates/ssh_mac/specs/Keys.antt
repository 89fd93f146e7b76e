-- What the keys of a MAC are for a contract.
use Rattle.ssh_mac.specs.Tags as T
use Rattle.ssh_mac.specs.Tags.{MacOf}
use Rattle.ssh_mac.specs.declared.keys.MacKey.{MacKey}
use Rattle.ssh_mac.specs.declared.keys.MacKey.TheVariants.{Plain, Etm, Without}

-- the meaning of a key is that of its variant
abbrev pub mac_of : MacKey → MacOf
mac_of (Plain mac) = T.Plain mac.digest mac.key
mac_of (Etm mac) = T.Etm mac.digest mac.key
mac_of (Without mac) = T.NoMac
