-- Each row asks no more than is left.
use Rattle.std.proofs.Common.{ℕ, ◌+◌, ◌≤◌, List, sym, subst, arith, Bool, true, false, Some}
use Rattle.ssh_wire.specs.declared.side.Side.{Side}
use Rattle.ssh_wire.specs.declared.side.Side.TheVariants.{Client, Server}
use Rattle.ssh_kex.specs.Messages.{is_gex}
use Rattle.ssh_kex.specs.Setting.{Says, Setting, Opened}
use Rattle.ssh_kex.specs.Stages.{Stage, Created, AwaitsGroup, AwaitsReply, AwaitsRequest, AwaitsValue, AwaitsNewkeys, Takes, OpensBy}
use Rattle.ssh_kex.specs.Stepping.{asks_agreement, asks_hosts, asks_groups, once_unless}
use Rattle.ssh_rules.specs.Calls.{agreement_left, hosts_left, lookups_left}

opened : (says : Says) (s : Setting) (o : Opened) (side : Side) (kind : Bool) (own : List ℕ) (written : List (List ℕ)) (next : Stage) → OpensBy side kind says s o written next → (asks_agreement side (Created own) (Some next) + agreement_left side next ≤ agreement_left side (Created own)) × (asks_hosts (Created own) + hosts_left side next ≤ hosts_left side (Created own))
opened says s o Client true own written next h = subst (λ n. (asks_agreement Client (Created own) (Some n) + agreement_left Client n ≤ 2) × (0 + hosts_left Client n ≤ 2)) (sym h.next_is) (omega arith, omega arith)
opened says s o Client false own written next h = subst (λ n. (asks_agreement Client (Created own) (Some n) + agreement_left Client n ≤ 2) × (0 + hosts_left Client n ≤ 2)) (sym h.leads.next_is) (omega arith, omega arith)
opened says s o Server true own written next h = subst (λ n. (0 + agreement_left Server n ≤ 1) × (0 + hosts_left Server n ≤ 1)) (sym h.next_is) (omega arith, omega arith)
opened says s o Server false own written next h = subst (λ n. (0 + agreement_left Server n ≤ 1) × (0 + hosts_left Server n ≤ 1)) (sym h.next_is) (omega arith, omega arith)

pub at_most_one : (dropped : Bool) → once_unless dropped ≤ 1
at_most_one true = omega arith
at_most_one false = omega arith

-- what a row asks and what is left behind it is what was left
pub asks_left : (says : Says) (s : Setting) (stage : Stage) (seqn : ℕ) (payload : List ℕ) (written : List (List ℕ)) (next : Stage) → Takes says s stage seqn payload written next → (asks_agreement s.side stage (Some next) + agreement_left s.side next ≤ agreement_left s.side stage) × (asks_hosts stage + hosts_left s.side next ≤ hosts_left s.side stage)
asks_left says s (Created own) seqn payload written next h = opened says s _ s.side (is_gex h.names.kex) own written next h.opens
asks_left says s (AwaitsGroup o) seqn payload written next h = let a = at_most_one o.names.ignore_guessed in subst (λ n. (once_unless o.names.ignore_guessed + agreement_left s.side n ≤ 2) × (0 + hosts_left s.side n ≤ 2)) (sym h.leads.next_is) (omega (arith, a), omega arith)
asks_left says s (AwaitsReply o gex local public) seqn payload written next h = let a = at_most_one o.names.ignore_guessed in subst (λ n. (once_unless o.names.ignore_guessed + agreement_left s.side n ≤ 1) × (once_unless o.names.ignore_guessed + hosts_left s.side n ≤ 2)) (sym h.leads.next_is) (omega (arith, a), omega (arith, a))
asks_left says s (AwaitsRequest o) seqn payload written next h = subst (λ n. (0 + agreement_left s.side n ≤ 1) × (0 + hosts_left s.side n ≤ 1)) (sym h.leads.next_is) (omega arith, omega arith)
asks_left says s (AwaitsValue o gex) seqn payload written next h = let a = at_most_one o.names.ignore_guessed in subst (λ n. (once_unless o.names.ignore_guessed + agreement_left s.side n ≤ 1) × (once_unless o.names.ignore_guessed + hosts_left s.side n ≤ 1)) (sym h.leads.next_is) (omega (arith, a), omega (arith, a))
asks_left says s (AwaitsNewkeys e x host) seqn payload written next h = absurd h

opened_lookups : (says : Says) (s : Setting) (o : Opened) (side : Side) (kind : Bool) (own : List ℕ) (written : List (List ℕ)) (next : Stage) → OpensBy side kind says s o written next → lookups_left side next ≤ lookups_left side (Created own)
opened_lookups says s o Client true own written next h = subst (λ n. lookups_left Client n ≤ 0) (sym h.next_is) (omega arith)
opened_lookups says s o Client false own written next h = subst (λ n. lookups_left Client n ≤ 0) (sym h.leads.next_is) (omega arith)
opened_lookups says s o Server true own written next h = subst (λ n. lookups_left Server n ≤ 1) (sym h.next_is) (omega arith)
opened_lookups says s o Server false own written next h = subst (λ n. lookups_left Server n ≤ 1) (sym h.next_is) (omega arith)

-- the same of the lookup
pub asks_lookups : (says : Says) (s : Setting) (stage : Stage) (seqn : ℕ) (payload : List ℕ) (written : List (List ℕ)) (next : Stage) → Takes says s stage seqn payload written next → asks_groups stage + lookups_left s.side next ≤ lookups_left s.side stage
asks_lookups says s (Created own) seqn payload written next h = let r = opened_lookups says s _ s.side (is_gex h.names.kex) own written next h.opens in omega (arith, r)
asks_lookups says s (AwaitsGroup o) seqn payload written next h = subst (λ n. 0 + lookups_left s.side n ≤ 0) (sym h.leads.next_is) (omega arith)
asks_lookups says s (AwaitsReply o gex local public) seqn payload written next h = subst (λ n. 0 + lookups_left s.side n ≤ 0) (sym h.leads.next_is) (omega arith)
asks_lookups says s (AwaitsRequest o) seqn payload written next h = let a = at_most_one o.names.ignore_guessed in subst (λ n. once_unless o.names.ignore_guessed + lookups_left s.side n ≤ 1) (sym h.leads.next_is) (omega (arith, a))
asks_lookups says s (AwaitsValue o gex) seqn payload written next h = subst (λ n. 0 + lookups_left s.side n ≤ 0) (sym h.leads.next_is) (omega arith)
asks_lookups says s (AwaitsNewkeys e x host) seqn payload written next h = absurd h
