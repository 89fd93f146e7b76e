use Rattle.std.proofs.Common.{◌≡◌, ℕ, ◌≤◌, List, [], ◌++◌, length, ap, sym, subst, ◌∙◌, arith}
use Rattle.ssh_wire.specs.Forms.{string}
use Rattle.ssh_vectors.specs.Hosts.{body_of, test_signature}
use Rattle.ssh_vectors.proofs.Signing.{body_short, test_short}
use Rattle.ssh_vectors.proofs.hosts.signature.Goals as goal

pub put_string-requires-2 : goal.put_string-requires-2
put_string-requires-2 c =
    let size = ap length c.as_bytes.ensures.value ∙ c.digest-digest.ensures.size in
    let body = ap length (c.as_slice.ensures.value ∙ (c.in_ok-put_body.ensures ∙ ap (λ x. x ++ body_of c.args.algorithm c.as_bytes.result.now) c.new-body.ensures.items)) in
    omega (arith, body, body_short c.args.algorithm c.as_bytes.result.now size)

is_whole : (out name body name' body' : List ℕ) → out ≡ ([] ++ string name) ++ string body → name ≡ name' → body ≡ body' → out ≡ string name' ++ string body'
is_whole out name body name' body' p q r = p ∙ (ap (λ x. string x ++ string body) q ∙ ap (λ x. string name' ++ string x) r)

whole : (c : goal.After-drop-body-2) → c.new.result ≡ test_signature c.args.algorithm c.args.key_blob.now c.args.hash.now
unfolding test_signature
whole c =
    let body = c.as_slice.ensures.value ∙ (c.in_ok-put_body.ensures ∙ (ap (λ x. x ++ body_of c.args.algorithm c.as_bytes.result.now) c.new-body.ensures.items ∙ ap (body_of c.args.algorithm) (c.as_bytes.ensures.value ∙ c.digest-digest.ensures.exact))) in
    let out = c.in_ok-put_string-2.ensures.ok ∙ ap (λ x. x ++ string c.as_slice.result.now) (c.in_ok-put_string.ensures.ok ∙ ap (λ x. x ++ string c.as_bytes-2.result.now) c.new-bytes.ensures.items) in
    c.new.ensures ∙ is_whole _ _ _ _ _ out (c.as_bytes-2.ensures.value ∙ c.as_str.ensures) body

pub returns-clause-exact : goal.returns-clause-exact
returns-clause-exact c = whole c

pub returns-clause-small : goal.returns-clause-small
returns-clause-small c = subst (λ (b : List ℕ). length b ≤ 65536) (sym (whole c)) (test_short c.args.algorithm c.args.key_blob.now c.args.hash.now)
