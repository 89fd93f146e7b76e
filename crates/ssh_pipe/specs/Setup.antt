-- How a side is set up.
use Rattle.std.specs.Prelude.{ℕ, List, [], ◌∷◌, codes, map, Some, None}
use Rattle.ssh_wire.specs.declared.algorithm.Algorithm.TheVariants.{Rsa}
use Rattle.ssh_wire.specs.declared.algorithm.HashAlg.TheVariants.{Sha256, Sha512}
use Rattle.ssh_wire.specs.declared.ssh_id.SshId.TheVariants.{Standard}
use Rattle.ssh_mac.specs.declared.mac.Name.TheVariants as macs
use Rattle.ssh_packet.specs.declared.cipher.Name.TheVariants as ciphers
use Rattle.ssh_packet.specs.declared.compression.Name.TheVariants as compressions
use Rattle.ssh_negotiate.specs.Preferences.{Preferences}
use Rattle.ssh_negotiate.specs.declared.kex.Name.TheVariants.{DhGexSha256, DhG16Sha512, DhG15Sha512, DhG14Sha256, ExtInfoC, ExtInfoS, StrictC, StrictS}
use Rattle.ssh_negotiate.specs.declared.preferred.HostKey.{HostKey}
use Rattle.ssh_kex.specs.declared.config.Config.{Config}

-- What is offered: the exchanges and signatures that the parts have, and each cipher and MAC that isn't broken, the
-- strongest first.
unfoldable pub pipe_preferences : Preferences
pipe_preferences = record {
  kex = DhGexSha256 ∷ DhG16Sha512 ∷ DhG15Sha512 ∷ DhG14Sha256 ∷ ExtInfoC ∷ ExtInfoS ∷ StrictC ∷ StrictS ∷ [];
  key = Rsa (Some Sha512) ∷ Rsa (Some Sha256) ∷ [];
  host_key_certificates = [];
  cipher = ciphers.Aes256Gcm ∷ ciphers.Aes128Gcm ∷ ciphers.Aes256Ctr ∷ ciphers.Aes192Ctr ∷ ciphers.Aes128Ctr
      ∷ ciphers.Aes256Cbc ∷ ciphers.Aes192Cbc ∷ ciphers.Aes128Cbc ∷ [];
  mac = macs.HmacSha512Etm ∷ macs.HmacSha256Etm ∷ macs.HmacSha512 ∷ macs.HmacSha256 ∷ macs.HmacSha1Etm
      ∷ macs.HmacSha1 ∷ [];
  compression = compressions.None ∷ [];
}

-- the host key of a blob
abbrev pub rsa_host : List ℕ → HostKey
rsa_host blob = record { algorithm = Rsa None; blob = blob }

-- The configuration of a side that presents the keys of these blobs, and exchanges keys again after so many bytes. A
-- group exchange asks for 2048 to 8192 bits, and for 3072 where it can have them.
abbrev pub pipe_config : (blobs : List (List ℕ)) → (limit : ℕ) → Config
pipe_config blobs limit = record {
  id = Standard (codes "SSH-2.0-sshpipe");
  preferred = pipe_preferences;
  limits = record { rekey_write_limit = limit; rekey_read_limit = limit; rekey_time_limit = 3600 };
  gex = record { min_group_size = 2048; preferred_group_size = 3072; max_group_size = 8192 };
  host = record { keys = map rsa_host blobs; certificates = [] };
}
