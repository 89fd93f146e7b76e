use Rattle.std.proofs.Common.{◌≡◌, ◌∙◌, ◌+◌, ◌-◌, ◌++◌, ◌∷◌, [], ◌≤◌, ◌<◌, List, ℕ, ap, drop, length, length-drop, min, refl, take, arith, sym}
use Rattle.std.proofs.lemmas.List.{length-take-le}
use Rattle.ssh_channels.specs.Phases.{Data}
use Rattle.ssh_channels.specs.Texts.{text}
use Rattle.ssh_channels.proofs.Pumping.{one_piece}
use Rattle.ssh_channels.proofs.end.send_data.Goals as goal

pub loop-end-preserved : goal.loop-end-preserved
loop-end-preserved c =
    let inv = c.loop-end.invariant in
    let old = c.args.end.now in
    let mid = c.loop-end.end in
    let n = c.min.result in
    let same : mid.written ≡ old.written = ap (λ x. x.written) inv.so_far.same in
    let size : length mid.written ≡ length old.written = ap length same in
    let least = c.min.ensures in
    let until = inv.until in
    let most = inv.most in
    let test = c.loop-end-test.true in
    let some = inv.some in
    let p : List ℕ = take n (drop mid.gone old.written) in
    let width : (mid.gone + n) - mid.gone ≡ n = omega arith in
    let told : c.in_ok-data_text.field-0 ≡ text 0 c.args.peer (Data p) =
    c.in_ok-data_text.ensures ∙ ap (λ l. text 0 c.args.peer (Data l)) (ap (λ k. take k (drop mid.gone c.as_slice.result.now)) width ∙ ap (λ l. take n (drop mid.gone l)) (c.as_slice.ensures ∙ same)) in
    let long : length (take n (drop mid.gone old.written)) ≡ n = length-take-le n (drop mid.gone old.written) (let d = length-drop mid.gone old.written in omega arith) in
    record {
      so_far = one_piece c.args.peer old mid _ c.args.out.now.items c.loop-end.out.items c.push.new.self.items p n inv.so_far refl refl long (omega arith) (omega arith) (c.in_ok-push.ensures.items ∙ ap (λ t. c.loop-end.out.items ++ t ∷ []) told);
      until = inv.until;
      most = inv.most;
      some = inv.some;
      can = inv.can;
      reached = omega arith;
    }
