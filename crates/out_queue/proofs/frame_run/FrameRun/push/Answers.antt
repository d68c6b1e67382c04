use Rattle.std.proofs.Common.{◌≡◌, ◌+◌, ◌≤◌, ◌∷◌, [], ◌++◌, length, drop, sum, ◌∙◌, ap, arith, length-drop}
use Rattle.std.proofs.lemmas.List.{drop-append-le}
use Rattle.out_queue.specs.Runs.{frames_in}
use Rattle.out_queue.proofs.RunLemmas.{frames_in-append}
use Rattle.out_queue.proofs.frame_run.FrameRun.push.Goals as goal

pub returns-in-Ok-clause-ok : goal.returns-in-Ok-clause-ok
returns-in-Ok-clause-ok c =
    let frame = c.args.frame.now in
    let gone = c.self.inside.gone in
    let bytes = c.self.inside.bytes.items in
    let lens = c.self.inside.lens in
    let all : gone + sum lens ≡ length bytes = c.self.invariant in
    let lens_is = c.in-Ok.ensures.ok in
    let inside : gone ≤ length bytes = omega (arith, all) in
    let run_is = ap (drop gone) c.in_ok-extend_from_slice.ensures.items ∙ drop-append-le gone bytes frame inside in
    let left : sum lens ≡ length (drop gone bytes) = omega (arith, all, length-drop gone bytes) in
    ap (λ ls. frames_in ls (drop gone c.extend_from_slice.new.self.items)) lens_is
    ∙ ap (frames_in (lens ++ length frame ∷ [])) run_is
    ∙ frames_in-append lens (drop gone bytes) frame left
    ∙ ap (λ fs. fs ++ frame ∷ []) (c.self.view_is ∙ c.close_up.ensures)
