use Rattle.std.proofs.Common.{◌≡◌, ◌-◌, ◌≤◌, List, ℕ, length, drop, sym, ◌∙◌, ap, subst, arith, length-drop}
use Rattle.std.proofs.lemmas.List.{take_all}
use Rattle.out_queue.specs.Kept.{left_of}
use Rattle.out_queue.specs.Queue.{QUEUE_LIMIT, queued}
use Rattle.out_queue.proofs.RunLemmas.{concat-left_of, length-concat}
use Rattle.out_queue.proofs.out_queue.OutQueue.run.Goals as goal

pub returns-clause-bound : goal.returns-clause-bound
returns-clause-bound c =
    let taken = c.self.inside.taken in
    let left = left_of taken c.self.inside.frames in
    let run = c.all.result.now in
    let kept = c.self.invariant in
    let same = take_all (length run - taken) (drop taken run) (omega (arith, length-drop taken run)) in
    let waits : queued left ≡ length (drop taken run) =
    sym (length-concat left) ∙ ap (λ (bs : List ℕ). length bs)
    (concat-left_of taken c.self.inside.frames kept.0 ∙ ap (drop taken) c.all.ensures) in
    subst (λ (bs : List ℕ). length bs ≤ QUEUE_LIMIT) (sym same) (omega (arith, waits, kept.1, kept.2))
