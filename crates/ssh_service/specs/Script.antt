-- The text of a script of services.
use Rattle.std.specs.Prelude.{◌≡◌, ℕ, refl, if◌then◌else◌, List, [], ◌∷◌, ◌++◌, codes, Option, Some, None, Result, Ok, Err}
use Rattle.std.specs.Option.{option_map}
use Rattle.std.specs.Str.{bytes_eq}
use Rattle.hex.specs.Hex.{decode_pairs}
use Rattle.ssh_lines.specs.Fields.{form_makes, from_word, hex_of}
use Rattle.ssh_lines.specs.Lines.{said_by}
use Rattle.ssh_lines.specs.declared.script.ScriptFault.{ScriptFault}
use Rattle.ssh_lines.specs.declared.script.ScriptKind.{ScriptKind}
use Rattle.ssh_lines.specs.declared.script.ScriptKind.TheVariants.{NotBuilt, Malformed}
use Rattle.ssh_wire.specs.declared.error.EncodingFault.{EncodingFault}
use Rattle.ssh_service.specs.ServiceNames.{name_fault}

-- What a script says: the services that are offered, and the payloads that are delivered.
pub record ServicePlan : Type 0 where
  pub offered : List (List ℕ)
  pub payloads : List (List ℕ)

-- a name, where it has no fault
abbrev pub faultless_name : Option EncodingFault → List ℕ → Option (List ℕ)
faultless_name None name = Some name
faultless_name (Some fault) name = None

-- NAME: the name of a service
abbrev pub name_in : List ℕ → Option (List ℕ)
name_in word = faultless_name (name_fault word) word

-- one offered service more
abbrev pub with_offer : ServicePlan → List ℕ → ServicePlan
with_offer plan name = record plan { offered = plan.offered ++ name ∷ [] }

-- one payload more
abbrev pub with_message : ServicePlan → List ℕ → ServicePlan
with_message plan payload = record plan { payloads = plan.payloads ++ payload ∷ [] }

-- a service is offered where these payloads came before: there must be none
abbrev pub offer_behind : List (List ℕ) → Option ServicePlan → Option ServicePlan
offer_behind [] plan = plan
offer_behind (payload ∷ payloads) plan = None

-- what a line makes of what those before it said, by its first word and those behind it
abbrev pub service_form : ServicePlan → List ℕ → List (List ℕ) → Result ServicePlan ScriptKind
service_form plan word words =
    if bytes_eq word (codes "offer") then
    form_makes (offer_behind plan.payloads (option_map (with_offer plan) (from_word name_in words)))
    else if bytes_eq word (codes "message") then form_makes (option_map (with_message plan) (from_word hex_of words))
    else Err NotBuilt

-- what is said before the first line
abbrev pub empty_plan : ServicePlan
empty_plan = record { offered = []; payloads = [] }

-- what a script of services says, or its fault
abbrev pub service_script : List ℕ → Result ServicePlan ScriptFault
service_script text = said_by service_form empty_plan text

script-example : service_script (codes "offer x\n# y\noffer x\nmessage 05\nmessage -\n")
    ≡ Ok (record { offered = codes "x" ∷ codes "x" ∷ []; payloads = (5 ∷ []) ∷ [] ∷ [] })
unfolding decode_pairs
script-example = refl

behind-example : service_script (codes "message -\noffer x") ≡ Err (record { line = 2; kind = Malformed })
behind-example = refl

wide-example : service_script (codes "offer " ++ 0xc3 ∷ 0xa9 ∷ []) ≡ Err (record { line = 1; kind = Malformed })
wide-example = refl

first-example : service_script (codes "accept x\noffer") ≡ Err (record { line = 1; kind = NotBuilt })
first-example = refl
