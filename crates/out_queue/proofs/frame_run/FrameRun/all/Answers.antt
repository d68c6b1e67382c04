use Rattle.std.proofs.Common.{◌≡◌, ◌+◌, ◌-◌, ◌≤◌, length, drop, sum, sym, ◌∙◌, ap, arith, length-drop}
use Rattle.std.specs.List.{concat}
use Rattle.std.proofs.lemmas.List.{take_all}
use Rattle.out_queue.proofs.RunLemmas.{concat-frames_in}
use Rattle.out_queue.proofs.frame_run.FrameRun.all.Goals as goal

pub returns : goal.returns
returns c =
    let gone = c.self.inside.gone in
    let bytes = c.self.inside.bytes.items in
    let lens = c.self.inside.lens in
    let seen = c.deref.result.now in
    let all : gone + sum lens ≡ length bytes = c.self.invariant in
    let left : sum lens ≡ length (drop gone bytes) = omega (arith, all, length-drop gone bytes) in
    let whole : length (drop gone seen) ≤ length seen - gone = omega (arith, length-drop gone seen) in
    ap concat (sym c.self.view_is) ∙ concat-frames_in lens (drop gone bytes) left
    ∙ ap (drop gone) (sym c.deref.ensures.value) ∙ sym (take_all (length seen - gone) (drop gone seen) whole)
