use Rattle.std.proofs.Common.{◌≡◌, ◌∙◌, ap, subst, OnOk, IfOk, length, List, ℕ}
use Rattle.std.specs.Option.{option_copied}
use Rattle.rand_core.specs.Stream.{Stream, fill_bytes}
use Rattle.ssh_packet.specs.Sealing.{IsAdmissible, IsPadded, item_of, stream_after}
use Rattle.ssh_packet.specs.Writing.{Sends}
use Rattle.ssh_wire.specs.Forms.{AreBytes}
use Rattle.ssh_negotiate.specs.Advertised.{kexinit}
use Rattle.ssh_negotiate.specs.Reading.{offered_by}
use Rattle.ssh_negotiate.proofs.Built.{offers_are, kexinit_is, short_still, built_some, built_short, carried, on_ok}
use Rattle.ssh_negotiate.proofs.write.write_kex.Given.{Over}
use Rattle.ssh_negotiate.proofs.write.write_kex.Goals as goal
use Rattle.ssh_negotiate.proofs.write.write_kex.Goals.{After-drop-kex-2}

pub kexinit_payload-requires : goal.kexinit_payload-requires
kexinit_payload-requires g c = short_still _ _ (offers_are c.args.prefs.now (option_copied c.args.server_config) c.as_slice.result.now c.as_slice-2.result.now (c.as_slice.ensures.value ∙ c.in_ok-kex.ensures) (c.as_slice-2.ensures.value ∙ c.in_ok-hosts.ensures.ok)) c.requires

pub send_payload-requires-clause-some : goal.send_payload-requires-clause-some
send_payload-requires-clause-some g c = built_some _ _ _ c.in_ok-payload.ensures.ok

pub send_payload-requires-clause-short : goal.send_payload-requires-clause-short
send_payload-requires-clause-short g c =
    let sixteen : length c.fill_bytes.new.dst ≡ 16 = c.fill_bytes.auto.dst in
    built_short (offered_by c.args.prefs.now (option_copied c.args.server_config)) c.fill_bytes.new.dst c.in_ok-payload.payload.items c.requires sixteen
    (kexinit_is _ _ _ _ c.in_ok-payload.payload.items (offers_are c.args.prefs.now (option_copied c.args.server_config) c.as_slice.result.now c.as_slice-2.result.now (c.as_slice.ensures.value ∙ c.in_ok-kex.ensures) (c.as_slice-2.ensures.value ∙ c.in_ok-hosts.ensures.ok)) (λ i. c.fill_bytes.new.dst) c.in_ok-payload.ensures.ok)

-- the payload, and what is left of the stream
is_payload : (g : Over) (c : After-drop-kex-2 g) → c.in_ok-payload.payload.items ≡ kexinit (offered_by c.args.prefs.now (option_copied c.args.server_config)) (fill_bytes 16 (g.R.Rng.stream c.args.rng.now)).0
is_payload g c =
    kexinit_is _ _ _ _ c.in_ok-payload.payload.items (offers_are c.args.prefs.now (option_copied c.args.server_config) c.as_slice.result.now c.as_slice-2.result.now (c.as_slice.ensures.value ∙ c.in_ok-kex.ensures) (c.as_slice-2.ensures.value ∙ c.in_ok-hosts.ensures.ok)) (ap (λ (p : List ℕ × Stream). p.0) c.fill_bytes.ensures) c.in_ok-payload.ensures.ok

is_left : (g : Over) (c : After-drop-kex-2 g) → g.R.Rng.stream c.fill_bytes.new.self ≡ (fill_bytes 16 (g.R.Rng.stream c.args.rng.now)).1
is_left g c = ap (λ (p : List ℕ × Stream). p.1) c.fill_bytes.ensures

pub returns-clause-answer : goal.returns-clause-answer
returns-clause-answer g c = subst (λ p. IfOk c.send_payload.result (λ b. b ≡ p)) (is_payload g c) c.send_payload.ensures.answer

pub returns-clause-sent : goal.returns-clause-sent
returns-clause-sent g c = carried (λ p s. OnOk c.send_payload.result (Sends c.args.writer.now p s c.send_payload.new.writer)) _ _ _ _ (is_payload g c) (is_left g c) c.send_payload.ensures.sent

pub returns-clause-stream : goal.returns-clause-stream
returns-clause-stream g c = carried (λ p s. OnOk c.send_payload.result (g.R.Rng.stream c.send_payload.new.rng ≡ stream_after c.args.writer.now.sealing p s)) _ _ _ _ (is_payload g c) (is_left g c) c.send_payload.ensures.stream

pub returns-clause-admissible : goal.returns-clause-admissible
returns-clause-admissible g c = carried (λ p s. OnOk c.send_payload.result (IsAdmissible c.args.writer.now.sealing (item_of c.args.writer.now.sealing p s))) _ _ _ _ (is_payload g c) (is_left g c) c.send_payload.ensures.admissible

pub returns-clause-padded : goal.returns-clause-padded
returns-clause-padded g c = carried (λ p s. OnOk c.send_payload.result (IsPadded c.args.writer.now.sealing (item_of c.args.writer.now.sealing p s))) _ _ _ _ (is_payload g c) (is_left g c) c.send_payload.ensures.padded

pub returns-clause-bytes : goal.returns-clause-bytes
returns-clause-bytes g c = on_ok c.send_payload.result _ (subst AreBytes (ap (λ (p : List ℕ × Stream). p.0) c.fill_bytes.ensures) c.kexinit_payload.ensures.bytes)
