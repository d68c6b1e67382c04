use Rattle.std.proofs.Common.{ℕ, List, length, drop, sym, ◌∙◌, ap, subst}
use Rattle.out_queue.specs.Kept.{left_of, CanStand}
use Rattle.out_queue.specs.Runs.{frames_in}
use Rattle.out_queue.proofs.OpenLemmas.{closed}
use Rattle.out_queue.proofs.open_queue.OpenQueue.close.Goals as goal

pub of-requires : goal.of-requires
of-requires c = (closed c.args.self c.requires.open c.requires.tail).all ∙ ap (λ (bs : List ℕ). length bs) (sym c.into_vec.ensures)

pub of-requires-2 : goal.of-requires-2
of-requires-2 c =
    let o = c.args.self in
    subst (λ (fs : List (List ℕ)). CanStand o.taken o.queued fs)
    (sym (c.of.ensures ∙ ap (λ (bs : List ℕ). frames_in o.lens (drop o.gone bs)) c.into_vec.ensures))
    (closed o c.requires.open c.requires.tail).stands

pub returns : goal.returns
returns c =
    let o = c.args.self in
    c.of-2.ensures ∙ ap (left_of o.taken) (c.of.ensures ∙ ap (λ (bs : List ℕ). frames_in o.lens (drop o.gone bs)) c.into_vec.ensures)
    ∙ (closed o c.requires.open c.requires.tail).frames_
