-- Marks of a side before a step and behind it.
use Rattle.std.proofs.Common.{◌≡◌, ℕ, Bool, ap, ◌∙◌}
use Rattle.ssh_rules.specs.declared.link.Mark.{Mark}
use Rattle.ssh_rules.specs.declared.link.SideMark.{SideMark}
use Rattle.ssh_record.specs.Runs.{sent_at}
use Rattle.ssh_record.specs.declared.recording.SentPair.{SentPair}

abbrev mark_with : ℕ → ℕ → ℕ → ℕ → Bool → ℕ → SideMark
mark_with a b c d e f = record { sent = a; taken = b; delivered = c; finished = d; inside = e; submitted = f }

pub one_mark : (m n : SideMark) → m.sent ≡ n.sent → m.taken ≡ n.taken → m.delivered ≡ n.delivered → m.finished ≡ n.finished → m.inside ≡ n.inside → m.submitted ≡ n.submitted → m ≡ n
one_mark m n p q r s t u =
    ap (λ x. mark_with x m.taken m.delivered m.finished m.inside m.submitted) p ∙ (ap (λ x. mark_with n.sent x m.delivered m.finished m.inside m.submitted) q
    ∙ (ap (λ x. mark_with n.sent n.taken x m.finished m.inside m.submitted) r ∙ (ap (λ x. mark_with n.sent n.taken n.delivered x m.inside m.submitted) s
    ∙ (ap (λ x. mark_with n.sent n.taken n.delivered n.finished x m.submitted) t ∙ ap (mark_with n.sent n.taken n.delivered n.finished n.inside) u))))

abbrev pair : ℕ → ℕ → SentPair
pair a b = record { client = a; server = b }

pub sent_pair_is : (m : Mark) (p : SentPair) → m.client.sent ≡ p.client → m.server.sent ≡ p.server → sent_at m ≡ p
sent_pair_is m p a b = ap (λ x. pair x m.server.sent) a ∙ ap (λ y. pair p.client y) b
