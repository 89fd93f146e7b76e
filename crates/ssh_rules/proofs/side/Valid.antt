-- What the tests of a configuration give the theory.
use Rattle.std.proofs.Common.{◌≡◌, ℕ, ◌^◌, ◌≤◌, List, [], ◌∷◌, length, refl, arith, Some, None, Bool, true, false, if◌then◌else◌, ◌||◌, ◌&&◌, nat_le, nat_lt}
use Rattle.std.specs.Prelude.{not}
use Rattle.std.specs.List.{list_any}
use Rattle.std.proofs.lemmas.Bool.Decides.{nat_tests}
use Rattle.ssh_wire.specs.Forms.{joined_names}
use Rattle.ssh_wire.specs.Names.{name_limit, name_list_limit}
use Rattle.ssh_wire.specs.declared.error.ConfigFault.{ConfigFault}
use Rattle.ssh_wire.specs.declared.error.ConfigFault.TheVariants as faults
use Rattle.ssh_wire.specs.declared.side.Side.{Side}
use Rattle.ssh_wire.specs.declared.side.Side.TheVariants.{Client, Server}
use Rattle.ssh_negotiate.specs.Advertised.{Offers, kex_texts, key_texts, cipher_texts, mac_texts, compression_texts}
use Rattle.ssh_negotiate.specs.Laws.{IsListed, IsWithin}
use Rattle.ssh_kex.specs.Setting.{Says, offers_of}
use Rattle.ssh_kex.specs.declared.config.Config.{Config}
use Rattle.ssh_rules.specs.Laws.{OneSecret, FindsCanonical}
use Rattle.ssh_rules.specs.Valid.{config_fault, is_good_id, is_no_kex, is_long_list, some_list_long, some_blob_long, is_good_limit, HasSizes}
use Rattle.ssh_rules.proofs.side.Discharged.{reads_no_guess}
use Rattle.ssh_rules.proofs.turns.LinkBounded.{HaveLimits}
use Rattle.ssh_rules.specs.Turns.{talkers}
use Rattle.ssh_rules.proofs.marks.Moments.{SmallLimits}
use Rattle.ssh_rules.proofs.pair.OneRecord.{makes_one_link}
use Rattle.ssh_rules.proofs.turns.Turns.{AreFit}

or_parts : (a b : Bool) → (a || b) ≡ false → (a ≡ false) × (b ≡ false)
or_parts true b e = cc
or_parts false b e = (refl, e)

and_parts : (a b : Bool) → (a && b) ≡ true → (a ≡ true) × (b ≡ true)
and_parts true b e = (refl, e)
and_parts false b e = cc

not_false : (b : Bool) → not b ≡ false → b ≡ true
not_false true e = refl
not_false false e = cc

at_most : (limit n : ℕ) → nat_lt limit n ≡ false → n ≤ limit
at_most limit n h = grind (arith, nat_tests)

at_least : (n limit : ℕ) → nat_le n limit ≡ true → n ≤ limit
at_least n limit h = grind (arith, nat_tests)

listed : (names : List (List ℕ)) → is_long_list names ≡ false → IsListed names
listed names h =
    let p = or_parts (nat_lt name_limit (length names)) (nat_lt name_list_limit (length (joined_names names))) h in
    record { count = at_most name_limit (length names) p.0; size = at_most name_list_limit (length (joined_names names)) p.1 }

-- a list of tests that all fail
any_parts : (names : List (List ℕ)) (more : List (List (List ℕ))) → list_any is_long_list (names ∷ more) ≡ false → (is_long_list names ≡ false) × (list_any is_long_list more ≡ false)
any_parts names more h = or_parts (is_long_list names) (list_any is_long_list more) h

short_within : (o : Offers) → some_list_long o ≡ false → IsWithin o
short_within o h =
    let a = any_parts (kex_texts o) (key_texts o ∷ cipher_texts o ∷ cipher_texts o ∷ mac_texts o ∷ mac_texts o ∷ compression_texts o ∷ compression_texts o ∷ []) h in
    let b = any_parts (key_texts o) (cipher_texts o ∷ cipher_texts o ∷ mac_texts o ∷ mac_texts o ∷ compression_texts o ∷ compression_texts o ∷ []) a.1 in
    let c = any_parts (cipher_texts o) (cipher_texts o ∷ mac_texts o ∷ mac_texts o ∷ compression_texts o ∷ compression_texts o ∷ []) b.1 in
    let d = any_parts (cipher_texts o) (mac_texts o ∷ mac_texts o ∷ compression_texts o ∷ compression_texts o ∷ []) c.1 in
    let e = any_parts (mac_texts o) (mac_texts o ∷ compression_texts o ∷ compression_texts o ∷ []) d.1 in
    let f = any_parts (mac_texts o) (compression_texts o ∷ compression_texts o ∷ []) e.1 in
    let g = any_parts (compression_texts o) (compression_texts o ∷ []) f.1 in
    record { kex = listed _ a.0; key = listed _ b.0; cipher = listed _ c.0; mac = listed _ e.0; compression = listed _ g.0 }

-- the tests of a chain that names no fault
none_of : (a b c d e f : Bool) (i j k l m n : ConfigFault) → (if a then Some i else if b then Some j else if c then Some k else if d then Some l else if e then Some m else if f then Some n else None) ≡ None → (a ≡ false) × (b ≡ false) × (c ≡ false) × (d ≡ false) × (e ≡ false) × (f ≡ false)
none_of true b c d e f i j k l m n h = cc
none_of false true c d e f i j k l m n h = cc
none_of false false true d e f i j k l m n h = cc
none_of false false false true e f i j k l m n h = cc
none_of false false false false true f i j k l m n h = cc
none_of false false false false false true i j k l m n h = cc
none_of false false false false false false i j k l m n h = (refl, refl, refl, refl, refl, refl)

abbrev limits_good : Config → Bool
limits_good config = is_good_limit config.limits.rekey_write_limit && is_good_limit config.limits.rekey_read_limit

abbrev sizes_good : Config → Bool
sizes_good config = nat_le config.gex.min_group_size config.gex.preferred_group_size && nat_le config.gex.preferred_group_size config.gex.max_group_size

pub tests : (side : Side) (config : Config) → config_fault side config ≡ None → (not (is_good_id config.id) ≡ false) × (not (limits_good config) ≡ false) × (not (sizes_good config) ≡ false) × (list_any is_no_kex config.preferred.kex ≡ false) × (some_list_long (offers_of side config) ≡ false) × (some_blob_long config ≡ false)
unfolding config_fault
tests side config h = none_of (not (is_good_id config.id)) (not (limits_good config)) (not (sizes_good config)) (list_any is_no_kex config.preferred.kex) (some_list_long (offers_of side config)) (some_blob_long config) faults.Id faults.Limit faults.GroupSizes faults.KexNone faults.NameList faults.HostBlob h

pub is_within : (side : Side) (config : Config) → config_fault side config ≡ None → IsWithin (offers_of side config)
is_within side config h = short_within (offers_of side config) (tests side config h).4

-- limits are between one byte and a gigabyte
record GoodLimits (config : Config) : Type 0 where
  pub least_write : 1 ≤ config.limits.rekey_write_limit
  pub most_write : config.limits.rekey_write_limit ≤ 2 ^ 30
  pub least_read : 1 ≤ config.limits.rekey_read_limit
  pub most_read : config.limits.rekey_read_limit ≤ 2 ^ 30

good_limits : (side : Side) (config : Config) → config_fault side config ≡ None → GoodLimits config
good_limits side config h =
    let g = and_parts (is_good_limit config.limits.rekey_write_limit) (is_good_limit config.limits.rekey_read_limit) (not_false (limits_good config) (tests side config h).1) in
    let w = and_parts (nat_le 1 config.limits.rekey_write_limit) (nat_le config.limits.rekey_write_limit (2 ^ 30)) g.0 in
    let r = and_parts (nat_le 1 config.limits.rekey_read_limit) (nat_le config.limits.rekey_read_limit (2 ^ 30)) g.1 in
    record {
      least_write = at_least 1 config.limits.rekey_write_limit w.0;
      most_write = at_least config.limits.rekey_write_limit (2 ^ 30) w.1;
      least_read = at_least 1 config.limits.rekey_read_limit r.0;
      most_read = at_least config.limits.rekey_read_limit (2 ^ 30) r.1;
    }

pub write_limit : (side : Side) (config : Config) → config_fault side config ≡ None → config.limits.rekey_write_limit ≤ 2 ^ 30
write_limit side config h = (good_limits side config h).most_write

pub small_limits : (side : Side) (config : Config) → config_fault side config ≡ None → SmallLimits config
small_limits side config h = let g = good_limits side config h in record { write = g.most_write; read = g.most_read }

pub have_limits : (says : Side → Says) (config : Side → Config) → ((side : Side) → config_fault side (config side) ≡ None) → HaveLimits (talkers says config)
have_limits says config valid =
    let c = good_limits Client (config Client) (valid Client) in
    let s = good_limits Server (config Server) (valid Server) in
    record { client = record { write = c.least_write; read = c.least_read }; server = record { write = s.least_write; read = s.least_read } }

-- Two configurations that pass, and parts that agree on one secret, are what the theorem of turns asks for.
pub are_fit : (says : Side → Says) (config : Side → Config) → ((side : Side) → config_fault side (config side) ≡ None) → ((side : Side) → HasSizes (config side)) → OneSecret (says Client) (says Server) → FindsCanonical (says Server) → AreFit (talkers says config)
are_fit says config valid sizes secret canonical = record {
  one = makes_one_link (talkers says config) secret canonical (is_within Client (config Client) (valid Client)) (is_within Server (config Server) (valid Server));
  sizes = sizes;
  follows = by;
} where
  by : (side : Side) → Rattle.ssh_rules.proofs.pair.NoGuess.FollowsNone side (config side) (config (Rattle.ssh_wire.specs.Sides.other_side side))
  by Client = reads_no_guess Client (config Client) (config Server) (is_within Server (config Server) (valid Server))
  by Server = reads_no_guess Server (config Server) (config Client) (is_within Client (config Client) (valid Client))
