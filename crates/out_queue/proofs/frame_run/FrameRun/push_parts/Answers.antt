use Rattle.std.proofs.Common.{◌≡◌, ◌+◌, ◌≤◌, ◌∷◌, [], ◌++◌, length, drop, sum, sym, ◌∙◌, ap, arith, length-drop, length-append}
use Rattle.std.proofs.lemmas.List.{drop-append-le}
use Rattle.out_queue.specs.Runs.{frames_in}
use Rattle.out_queue.proofs.RunLemmas.{frames_in-append}
use Rattle.out_queue.proofs.frame_run.FrameRun.push_parts.Goals as goal

pub returns-in-Ok-clause-ok : goal.returns-in-Ok-clause-ok
returns-in-Ok-clause-ok c =
    let front = c.args.front.now in
    let rest = c.args.rest.now in
    let frame = front ++ rest in
    let gone = c.self.inside.gone in
    let bytes = c.self.inside.bytes.items in
    let lens = c.self.inside.lens in
    let all : gone + sum lens ≡ length bytes = c.self.invariant in
    let lens_is = c.in-Ok.ensures.ok ∙ ap (λ n. lens ++ n ∷ []) (sym (length-append front rest)) in
    let inside : gone ≤ length bytes = omega (arith, all) in
    let run_is = ap (drop gone) c.in_ok-append_parts.ensures.ok ∙ drop-append-le gone bytes frame inside in
    let left : sum lens ≡ length (drop gone bytes) = omega (arith, all, length-drop gone bytes) in
    ap (λ ls. frames_in ls (drop gone c.append_parts.new.bytes.items)) lens_is
    ∙ ap (frames_in (lens ++ length frame ∷ [])) run_is
    ∙ frames_in-append lens (drop gone bytes) frame left
    ∙ ap (λ fs. fs ++ frame ∷ []) (c.self.view_is ∙ c.close_up.ensures)
