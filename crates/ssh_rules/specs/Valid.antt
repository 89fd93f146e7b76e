-- Which configurations and payloads are valid.
use Rattle.std.specs.Prelude.{ℕ, ◌-◌, ◌^◌, ◌==◌, ◌||◌, ◌&&◌, nat_le, nat_lt, nat_eq, not, Bool, true, false, if◌then◌else◌, List, length, take, slice_index, codes, Option, Some, None, ◌<◌}
use Rattle.std.specs.List.{list_any, starts_with}
use Rattle.ssh_wire.specs.Lines.{is_line_end, id_line, without_cr}
use Rattle.ssh_wire.specs.declared.error.ConfigFault.{ConfigFault}
use Rattle.ssh_wire.specs.declared.error.ConfigFault.TheVariants as faults
use Rattle.ssh_wire.specs.declared.side.Side.{Side}
use Rattle.ssh_wire.specs.declared.ssh_id.SshId.{SshId}
use Rattle.ssh_wire.specs.declared.ssh_id.SshId.TheVariants.{Standard, Raw}
use Rattle.ssh_packet.specs.Sealing.{longest_payload}
use Rattle.ssh_packet.specs.Stream.{message_type}
use Rattle.ssh_negotiate.specs.declared.kex.Name.{Name as KexName}
use Rattle.ssh_negotiate.specs.declared.kex.Name.TheVariants.{NoKex}
use Rattle.ssh_kex.specs.declared.config.Config.{Config}
use Rattle.ssh_negotiate.specs.declared.preferred.HostKey.{HostKey}
use Rattle.ssh_negotiate.specs.declared.preferred.HostCertificate.{HostCertificate}
use Rattle.ssh_negotiate.specs.Advertised.{Offers, advertised_lists}
use Rattle.ssh_wire.specs.Forms.{joined_names}
use Rattle.ssh_kex.specs.Setting.{offers_of}
use Rattle.ssh_wire.specs.Names.{name_limit, name_list_limit}
use Rattle.ssh_rules.specs.MessageTypes.{is_payload_type}

-- ---- configurations, by the first test that refuses

-- the text of an id line without one line ending; a Raw line that doesn't end in LF has none
abbrev pub id_line_text : SshId → Option (List ℕ)
id_line_text (Standard text) = Some text
id_line_text (Raw text) =
    if slice_index text (length text - 1) == 10 then Some (without_cr (take (length text - 1) text)) else None

-- it begins as an id does, and ends no line within
abbrev pub is_id_line_text : Option (List ℕ) → Bool
is_id_line_text None = false
is_id_line_text (Some text) =
    (starts_with nat_eq text (codes "SSH-2.0-") || starts_with nat_eq text (codes "SSH-1.99-"))
    && not (list_any is_line_end text)

-- an id line of at most 255 bytes (RFC 4253 section 4.2)
abbrev pub is_good_id : SshId → Bool
is_good_id id = is_id_line_text (id_line_text id) && nat_le (length (id_line id)) 255

-- between one byte and a gigabyte
abbrev pub is_good_limit : ℕ → Bool
is_good_limit n = nat_le 1 n && nat_le n (2 ^ 30)

-- the name that stands for no exchange of values
abbrev pub is_no_kex : KexName → Bool
is_no_kex NoKex = true
is_no_kex name = false

-- a list that can't be read
abbrev pub is_long_list : List (List ℕ) → Bool
is_long_list names = nat_lt name_limit (length names) || nat_lt name_list_limit (length (joined_names names))

-- some list of those that are advertised
abbrev pub some_list_long : Offers → Bool
some_list_long o = list_any is_long_list (advertised_lists o)

-- the longest blob of a host
abbrev pub longest_blob : ℕ
longest_blob = 65536

-- some blob of a key or a certificate
abbrev pub some_blob_long : Config → Bool
some_blob_long config = list_any (λ (k : HostKey). nat_lt longest_blob (length k.blob)) config.host.keys
    || list_any (λ (c : HostCertificate). nat_lt longest_blob (length c.blob)) config.host.certificates

-- what refuses a configuration of a side, if anything does
unfoldable pub config_fault : Side → Config → Option ConfigFault
config_fault side config =
    if not (is_good_id config.id) then Some faults.Id
    else if not (is_good_limit config.limits.rekey_write_limit && is_good_limit config.limits.rekey_read_limit)
    then Some faults.Limit
    else if not (nat_le config.gex.min_group_size config.gex.preferred_group_size
    && nat_le config.gex.preferred_group_size config.gex.max_group_size) then Some faults.GroupSizes
    else if list_any is_no_kex config.preferred.kex then Some faults.KexNone
    else if some_list_long (offers_of side config) then Some faults.NameList
    else if some_blob_long config then Some faults.HostBlob
    else None

-- of two, the first fault
abbrev pub first_config_fault : Option ConfigFault → Option ConfigFault → Option ConfigFault
first_config_fault None other = other
first_config_fault (Some fault) other = Some fault

-- ---- payloads

-- how many bytes a payload may not have
abbrev pub is_bad_size : ℕ → Bool
is_bad_size n = (n == 0) || nat_lt longest_payload n

-- a payload that may be submitted
abbrev pub is_good_payload : List ℕ → Bool
is_good_payload payload = not (is_bad_size (length payload)) && is_payload_type (message_type payload)

-- the sizes of a configuration are u32
pub record HasSizes (config : Config) : Type 0 where
  pub least : config.gex.min_group_size < 2 ^ 32
  pub wanted : config.gex.preferred_group_size < 2 ^ 32
  pub most : config.gex.max_group_size < 2 ^ 32
