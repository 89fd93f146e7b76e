-- What each report of a link tells: a mark before the first step and one behind each, and what both sides did.
use Rattle.std.specs.Prelude.{◌≡◌, ◌+◌, ◌≤◌, ℕ, suc, List, length, slice_get, take, Some, false}
use Rattle.ssh_rules.specs.Headline.{IsLastMark, bound_of}
use Rattle.ssh_rules.specs.declared.link.LinkReport.{LinkReport}
use Rattle.ssh_rules.specs.declared.link.Mark.{Mark}
use Rattle.ssh_rules.specs.declared.link.Step.{Step}
use Rattle.ssh_rules.specs.declared.link.Step.TheVariants.{Settle}

-- Both sides took all that the other sent, are outside an exchange, and have begun no more exchanges than may be begun:
-- outside, each that was begun is finished.
pub record BothRest (bound : ℕ) (m : Mark) : Type 0 where
  pub to_client : m.client.taken ≡ m.server.sent
  pub to_server : m.server.taken ≡ m.client.sent
  pub client_outside : m.client.inside ≡ false
  pub server_outside : m.server.inside ≡ false
  pub client_few : m.client.finished ≤ bound
  pub server_few : m.server.finished ≤ bound

-- so they are behind each settle, where so many exchanges may be begun as the steps up to there let them
abbrev pub RestBehindSettles : List Step → List Mark → Type 0
RestBehindSettles steps marks = (j : ℕ) (m : Mark) → slice_get steps j ≡ Some Settle → slice_get marks (suc j) ≡ Some m
    → BothRest (bound_of (take j steps)) m

-- the marks are one more than the steps, both sides rest behind each settle, and the last mark is what the report says
pub record IsWholeReport (steps : List Step) (report : LinkReport) : Type 0 where
  pub marks : length report.marks ≡ length steps + 1
  pub settled : RestBehindSettles steps report.marks
  pub last : (m : Mark) × (slice_get report.marks (length steps) ≡ Some m) × IsLastMark report.client m.client
      × IsLastMark report.server m.server
