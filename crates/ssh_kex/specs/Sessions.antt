-- Whether a session has an exchange under way.
use Rattle.std.specs.Prelude.{Bool, true, false}
use Rattle.ssh_kex.specs.declared.session_state.SessionKexState.{SessionKexState}
use Rattle.ssh_kex.specs.declared.session_state.SessionKexState.TheVariants.{Idle, InProgress, Taken}

abbrev pub is_active : {K : Type 0} → SessionKexState K → Bool
is_active Idle = false
is_active (InProgress kex) = true
is_active Taken = true

-- what is left where it was handed out
abbrev pub left_of : {K : Type 0} → SessionKexState K → SessionKexState K
left_of Idle = Idle
left_of (InProgress kex) = Taken
left_of Taken = Taken

abbrev pub same_variant : {K : Type 0} → SessionKexState K → SessionKexState K → Bool
same_variant Idle Idle = true
same_variant Idle (InProgress other) = false
same_variant Idle Taken = false
same_variant (InProgress kex) Idle = false
same_variant (InProgress kex) (InProgress other) = true
same_variant (InProgress kex) Taken = false
same_variant Taken Idle = false
same_variant Taken (InProgress other) = false
same_variant Taken Taken = true
