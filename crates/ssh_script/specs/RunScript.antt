-- The text of a script of the commands `run` and `attack`: what each line says, and what it makes of those before it.
use Rattle.std.specs.Prelude.{◌≡◌, ℕ, ◌^◌, ◌||◌, Bool, true, false, ◌++◌, refl, if◌then◌else◌, List, [], ◌∷◌, find, codes, Option, Some, None, Result, Ok, Err}
use Rattle.std.specs.List.{list_any}
use Rattle.std.specs.Option.{option_map}
use Rattle.std.specs.Str.{bytes_eq, is_utf8}
use Rattle.ssh_wire.specs.Algorithms.{algorithm_name, algorithms}
use Rattle.ssh_wire.specs.declared.algorithm.Algorithm.{Algorithm}
use Rattle.ssh_wire.specs.declared.algorithm.Algorithm.TheVariants.{Ed25519}
use Rattle.ssh_wire.specs.declared.side.Side.{Side}
use Rattle.ssh_wire.specs.declared.side.Side.TheVariants.{Client, Server}
use Rattle.ssh_wire.specs.declared.ssh_id.SshId.{SshId}
use Rattle.ssh_wire.specs.declared.ssh_id.SshId.TheVariants.{Standard, Raw}
use Rattle.ssh_mac.specs.declared.mac.Name as macs
use Rattle.ssh_mac.specs.declared.mac.Name.TheVariants as mac
use Rattle.ssh_packet.specs.declared.cipher.Name as ciphers
use Rattle.ssh_packet.specs.declared.cipher.Name.TheVariants as cipher
use Rattle.ssh_negotiate.specs.Advertised.{cipher_text, mac_text}
use Rattle.ssh_negotiate.specs.Defaults.{default_preferences}
use Rattle.ssh_negotiate.specs.Preferences.{Preferences, Hosts}
use Rattle.ssh_negotiate.specs.Tables.{kex_text, kex_names}
use Rattle.ssh_negotiate.specs.declared.kex.Name as kexes
use Rattle.ssh_negotiate.specs.declared.kex.Name.TheVariants.{ExtInfoC, ExtInfoS, StrictC, StrictS}
use Rattle.ssh_negotiate.specs.declared.preferred.HostKey.{HostKey}
use Rattle.ssh_negotiate.specs.declared.preferred.HostCertificate.{HostCertificate}
use Rattle.ssh_kex.specs.declared.config.Config.{Config}
use Rattle.ssh_kex.specs.declared.group.GexParams.{GexParams}
use Rattle.ssh_rules.specs.declared.link.AttackStep.{AttackStep}
use Rattle.ssh_rules.specs.declared.link.AttackStep.TheVariants as fed
use Rattle.ssh_rules.specs.declared.link.Step.{Step}
use Rattle.ssh_rules.specs.declared.link.Step.TheVariants.{Submit, Deliver, Rekey, Settle}
use Rattle.ssh_script.specs.Plans.{Plan}
use Rattle.ssh_lines.specs.Fields.{form_makes, from_three, from_two, from_word, hex_of, number_of, side_bytes, side_number, side_of, size_of}
use Rattle.ssh_lines.specs.Lines.{pieces, said_by}
use Rattle.ssh_lines.specs.declared.script.ScriptFault.{ScriptFault}
use Rattle.ssh_lines.specs.declared.script.ScriptKind.{ScriptKind}
use Rattle.ssh_lines.specs.declared.script.ScriptKind.TheVariants.{NotBuilt, Malformed}
use Rattle.ssh_script.specs.declared.setting.Part.{Part}
use Rattle.ssh_script.specs.declared.setting.Part.TheVariants as part
use Rattle.ssh_script.specs.declared.setting.Setting.{Setting}
use Rattle.ssh_script.specs.declared.setting.Setting.TheVariants as setting
use Rattle.ssh_script.specs.declared.setup.SideSetup.{SideSetup}

-- the one of these that has the text
abbrev pub named_by : {X : Type 0} → (X → List ℕ) → List X → List ℕ → Option X
named_by text all word = find (λ name. bytes_eq (text name) word) all

abbrev pub before_names : {X : Type 0} → Option X → Option (List X) → Option (List X)
before_names None more = None
before_names (Some name) None = None
before_names (Some name) (Some more) = Some (name ∷ more)

-- the names of all words, where each has one
abbrev pub all_named : {X : Type 0} → (X → List ℕ) → List X → List (List ℕ) → Option (List X)
all_named text all [] = Some []
all_named text all (word ∷ words) = before_names (named_by text all word) (all_named text all words)

-- LIST: `-` for no names, or names with single commas between
abbrev pub list_of : {X : Type 0} → (X → List ℕ) → List X → List ℕ → Option (List X)
list_of text all word = if bytes_eq word (codes "-") then Some [] else all_named text all (pieces 44 word)

-- the names of key exchanges, and those of extensions
abbrev pub all_kex_names : List kexes.Name
all_kex_names = kex_names ++ ExtInfoC ∷ ExtInfoS ∷ StrictC ∷ StrictS ∷ []

abbrev pub cipher_names : List ciphers.Name
cipher_names = cipher.Clear ∷ cipher.NoCipher ∷ cipher.Aes128Ctr ∷ cipher.Aes192Ctr ∷ cipher.Aes256Ctr
    ∷ cipher.Aes128Gcm ∷ cipher.Aes256Gcm ∷ cipher.Aes128Cbc ∷ cipher.Aes192Cbc ∷ cipher.Aes256Cbc ∷ []

abbrev pub mac_names : List macs.Name
mac_names = mac.NoMac ∷ mac.HmacSha1 ∷ mac.HmacSha256 ∷ mac.HmacSha512 ∷ mac.HmacSha1Etm ∷ mac.HmacSha256Etm ∷ mac.HmacSha512Etm ∷ []

-- ALGORITHM
abbrev pub algorithm_for : List ℕ → Option Algorithm
algorithm_for word = named_by algorithm_name algorithms word

-- what a word sets
abbrev pub setting_in : List ℕ → Option Setting
setting_in word =
    if bytes_eq word (codes "id") then Some setting.Id
    else if bytes_eq word (codes "rawid") then Some setting.RawId
    else if bytes_eq word (codes "kex") then Some setting.Kex
    else if bytes_eq word (codes "key") then Some setting.Key
    else if bytes_eq word (codes "cert") then Some setting.Certificates
    else if bytes_eq word (codes "cipher") then Some setting.Cipher
    else if bytes_eq word (codes "mac") then Some setting.Mac
    else if bytes_eq word (codes "limits") then Some setting.Limits
    else if bytes_eq word (codes "gex") then Some setting.GroupSizes
    else if bytes_eq word (codes "host") then Some setting.Host
    else if bytes_eq word (codes "hostcert") then Some setting.HostCertificate
    else if bytes_eq word (codes "seed") then Some setting.Seed
    else if bytes_eq word (codes "refuse") then Some setting.Refuse
    else if bytes_eq word (codes "group") then Some setting.Group
    else None

-- PART
abbrev pub part_of : List ℕ → Option Part
part_of word =
    if bytes_eq word (codes "agreement") then Some part.Agreement
    else if bytes_eq word (codes "hosts") then Some part.Hosts
    else if bytes_eq word (codes "groups") then Some part.Groups
    else None

-- bytes that are UTF-8
abbrev pub utf8_of : List ℕ → Option (List ℕ)
utf8_of bytes = if is_utf8 bytes then Some bytes else None

-- TEXT, to be sent with CR LF behind it
abbrev pub standard_of : List ℕ → Option SshId
standard_of word = option_map Standard (utf8_of word)

abbrev pub raw_from : Option (List ℕ) → Option SshId
raw_from None = None
raw_from (Some bytes) = option_map Raw (utf8_of bytes)

-- HEX, of a text that is sent as it is
abbrev pub raw_of : List ℕ → Option SshId
raw_of word = raw_from (hex_of word)

abbrev pub with_config : SideSetup → Config → SideSetup
with_config s config = record s { config = config }

abbrev pub with_preferred : SideSetup → Preferences → SideSetup
with_preferred s preferred = with_config s (record s.config { preferred = preferred })

abbrev pub with_hosts : SideSetup → Hosts → SideSetup
with_hosts s host = with_config s (record s.config { host = host })

abbrev pub with_limits : SideSetup → ℕ → ℕ → SideSetup
with_limits s write read = with_config s (record s.config { limits = record s.config.limits { rekey_write_limit = write; rekey_read_limit = read } })

abbrev pub sizes : ℕ → ℕ → ℕ → GexParams
sizes least wanted most = record { min_group_size = least; preferred_group_size = wanted; max_group_size = most }

abbrev pub with_refusal : SideSetup → Part → ℕ → SideSetup
with_refusal s part.Agreement call = record s { refuse_agreement = call }
with_refusal s part.Hosts call = record s { refuse_hosts = call }
with_refusal s part.Groups call = record s { refuse_groups = call }

-- whether a line gave this blob
abbrev pub has_blob : Hosts → List ℕ → Bool
has_blob host blob = list_any (λ (key : HostKey). bytes_eq key.blob blob) host.keys
    || list_any (λ (certificate : HostCertificate). bytes_eq certificate.blob blob) host.certificates

abbrev pub with_key : Hosts → Option HostKey → Option Hosts
with_key host None = None
with_key host (Some key) = if has_blob host key.blob then None else Some (record host { keys = host.keys ++ key ∷ [] })

abbrev pub with_certificate : Hosts → Option HostCertificate → Option Hosts
with_certificate host None = None
with_certificate host (Some certificate) =
    if has_blob host certificate.blob then None else Some (record host { certificates = host.certificates ++ certificate ∷ [] })

abbrev pub host_key : Algorithm → List ℕ → HostKey
host_key algorithm blob = record { algorithm = algorithm; blob = blob }

abbrev pub host_certificate : Algorithm → List ℕ → List ℕ → HostCertificate
host_certificate algorithm blob key_blob = record { algorithm = algorithm; blob = blob; key_blob = key_blob }

-- the words behind what is set of either side
abbrev pub set_side : Setting → List (List ℕ) → SideSetup → Option SideSetup
set_side setting.Id words s = option_map (λ id. with_config s (record s.config { id = id })) (from_word standard_of words)
set_side setting.RawId words s = option_map (λ id. with_config s (record s.config { id = id })) (from_word raw_of words)
set_side setting.Kex words s =
    option_map (λ names. with_preferred s (record s.config.preferred { kex = names })) (from_word (list_of kex_text all_kex_names) words)
set_side setting.Key words s =
    option_map (λ names. with_preferred s (record s.config.preferred { key = names })) (from_word (list_of algorithm_name algorithms) words)
set_side setting.Certificates words s =
    option_map (λ names. with_preferred s (record s.config.preferred { host_key_certificates = names }))
    (from_word (list_of algorithm_name algorithms) words)
set_side setting.Cipher words s =
    option_map (λ names. with_preferred s (record s.config.preferred { cipher = names })) (from_word (list_of cipher_text cipher_names) words)
set_side setting.Mac words s =
    option_map (λ names. with_preferred s (record s.config.preferred { mac = names })) (from_word (list_of mac_text mac_names) words)
set_side setting.Limits words s = from_two (with_limits s) number_of number_of words
set_side setting.GroupSizes words s = option_map (λ gex. with_config s (record s.config { gex = gex })) (from_three sizes size_of size_of size_of words)
set_side setting.Host words s = None
set_side setting.HostCertificate words s = None
set_side setting.Seed words s = option_map (λ n. record s { seed = n }) (from_word number_of words)
set_side setting.Refuse words s = from_two (with_refusal s) part_of number_of words
set_side setting.Group words s = None

-- the words behind what is set of the server
abbrev pub set_server : Setting → List (List ℕ) → SideSetup → Option SideSetup
set_server setting.Id words s = set_side setting.Id words s
set_server setting.RawId words s = set_side setting.RawId words s
set_server setting.Kex words s = set_side setting.Kex words s
set_server setting.Key words s = set_side setting.Key words s
set_server setting.Certificates words s = set_side setting.Certificates words s
set_server setting.Cipher words s = set_side setting.Cipher words s
set_server setting.Mac words s = set_side setting.Mac words s
set_server setting.Limits words s = set_side setting.Limits words s
set_server setting.GroupSizes words s = set_side setting.GroupSizes words s
set_server setting.Host words s = option_map (with_hosts s) (with_key s.config.host (from_two host_key algorithm_for hex_of words))
set_server setting.HostCertificate words s =
    option_map (with_hosts s) (with_certificate s.config.host (from_three host_certificate algorithm_for hex_of hex_of words))
set_server setting.Seed words s = set_side setting.Seed words s
set_server setting.Refuse words s = set_side setting.Refuse words s
set_server setting.Group words s = option_map (λ bits. record s { group_bits = bits }) (from_word size_of words)

abbrev pub set_by : Option Side → Option Setting → List (List ℕ) → Plan → Option Plan
set_by None what words plan = None
set_by (Some side) None words plan = None
set_by (Some Client) (Some what) words plan = option_map (λ s. record plan { client = s }) (set_side what words plan.client)
set_by (Some Server) (Some what) words plan = option_map (λ s. record plan { server = s }) (set_server what words plan.server)

abbrev pub set_words : List (List ℕ) → Plan → Option Plan
set_words [] plan = None
set_words (side ∷ []) plan = None
set_words (side ∷ what ∷ words) plan = set_by (side_of side) (setting_in what) words plan

-- the words behind `set`: nothing is set behind a step
abbrev pub set_before : List Step → List AttackStep → List (List ℕ) → Plan → Option Plan
set_before [] [] words plan = set_words words plan
set_before [] (step ∷ steps) words plan = None
set_before (step ∷ steps) attacks words plan = None

-- the words behind `settle`: none
abbrev pub settle_of : List (List ℕ) → Option Step
settle_of [] = Some Settle
settle_of (word ∷ words) = None

-- a line of the command `run` that sets nothing, by its first word and those behind it
abbrev pub run_step : List ℕ → List (List ℕ) → Result Step ScriptKind
run_step word words =
    if bytes_eq word (codes "submit") then form_makes (option_map (λ said. Submit said.0 said.1) (side_bytes words))
    else if bytes_eq word (codes "deliver") then form_makes (option_map (λ said. Deliver said.0 said.1) (side_number words))
    else if bytes_eq word (codes "rekey") then form_makes (from_word (λ word. option_map Rekey (side_of word)) words)
    else if bytes_eq word (codes "settle") then form_makes (settle_of words)
    else Err NotBuilt

-- one of the command `attack`
abbrev pub attack_step : List ℕ → List (List ℕ) → Result AttackStep ScriptKind
attack_step word words =
    if bytes_eq word (codes "submit") then form_makes (option_map (λ said. fed.Submit said.0 said.1) (side_bytes words))
    else if bytes_eq word (codes "feed") then form_makes (option_map (λ said. fed.Feed said.0 said.1) (side_bytes words))
    else if bytes_eq word (codes "rekey") then form_makes (from_word (λ word. option_map fed.Rekey (side_of word)) words)
    else Err NotBuilt

-- one step more
abbrev pub with_step : Plan → Result Step ScriptKind → Result Plan ScriptKind
with_step plan (Err kind) = Err kind
with_step plan (Ok step) = Ok (record plan { steps = plan.steps ++ step ∷ [] })

abbrev pub with_attack : Plan → Result AttackStep ScriptKind → Result Plan ScriptKind
with_attack plan (Err kind) = Err kind
with_attack plan (Ok step) = Ok (record plan { attack = plan.attack ++ step ∷ [] })

-- what a line makes of a plan, by its first word and those behind it; the flag is that of the command `attack`
abbrev pub link_form : Bool → Plan → List ℕ → List (List ℕ) → Result Plan ScriptKind
link_form attacked plan word words =
    if bytes_eq word (codes "set") then form_makes (set_before plan.steps plan.attack words plan)
    else if attacked then with_attack plan (attack_step word words)
    else with_step plan (run_step word words)

-- a side of which a script says nothing
abbrev pub first_setup : List ℕ → ℕ → SideSetup
first_setup id seed = record {
  config = record {
    id = Standard id;
    preferred = default_preferences;
    limits = record { rekey_write_limit = 2 ^ 30; rekey_read_limit = 2 ^ 30; rekey_time_limit = 3600 };
    gex = sizes 2048 3072 8192;
    host = record { keys = []; certificates = [] };
  };
  seed = seed;
  refuse_agreement = 0;
  refuse_hosts = 0;
  refuse_groups = 0;
  group_bits = 0;
}

-- a script without lines
abbrev pub first_plan : Plan
first_plan = record {
  client = first_setup (codes "SSH-2.0-sshlink_client") 1;
  server = first_setup (codes "SSH-2.0-sshlink_server") 2;
  steps = [];
  attack = [];
}

-- the server's key where no line gives it one
abbrev pub keys_or_default : List HostKey → List HostKey
keys_or_default [] = host_key Ed25519 (codes "sshlink-test-key") ∷ []
keys_or_default (key ∷ keys) = key ∷ keys

abbrev pub with_default_key : Plan → Plan
with_default_key plan = record plan { server = with_hosts plan.server (record plan.server.config.host { keys = keys_or_default plan.server.config.host.keys }) }

abbrev pub completed : Result Plan ScriptFault → Result Plan ScriptFault
completed (Err fault) = Err fault
completed (Ok plan) = Ok (with_default_key plan)

-- what a whole script asks for, or its fault
abbrev pub link_script : Bool → List ℕ → Result Plan ScriptFault
link_script attacked text = completed (said_by (link_form attacked) first_plan text)

-- a step of each kind, behind a line that sets the client's seed
plan-example : link_script false (codes "set client seed 7\nrekey server\nsettle")
    ≡ Ok (record (with_default_key first_plan) { client = record (first_plan.client) { seed = 7 }; steps = Rekey Server ∷ Settle ∷ [] })
plan-example = refl

behind-example : link_script false (codes "settle\nset client seed 1") ≡ Err (record { line = 2; kind = Malformed })
behind-example = refl

again-example : link_script false (codes "set server host ssh-rsa -\nset server hostcert ssh-rsa - -") ≡ Err (record { line = 2; kind = Malformed })
again-example = refl

unknown-example : link_script false (codes "fly") ≡ Err (record { line = 1; kind = NotBuilt })
unknown-example = refl

-- the same of the command `attack`
attack-example : link_script true (codes "feed server -\nrekey client")
    ≡ Ok (record (with_default_key first_plan) { attack = fed.Feed Server [] ∷ fed.Rekey Client ∷ [] })
attack-example = refl

other-example : link_script true (codes "settle") ≡ Err (record { line = 1; kind = NotBuilt })
other-example = refl

fed-example : link_script false (codes "feed client -") ≡ Err (record { line = 1; kind = NotBuilt })
fed-example = refl

late-example : link_script true (codes "feed client -\nset client seed 1") ≡ Err (record { line = 2; kind = Malformed })
late-example = refl
