use Rattle.std.proofs.Common.{ℕ, List, ◌+◌, ◌-◌, ◌++◌, ◌∷◌, [], refl, ap, ◌∙◌, arith}
use Rattle.out_queue.proofs.OpenLemmas.{cut_away, admitted_at, tail_counts}
use Rattle.out_queue.proofs.open_queue.OpenQueue.admit.Goals as goal

pub returns-then-len-self-clause-over : goal.returns-then-len-self-clause-over
returns-then-len-self-clause-over c =
    let n = tail_counts c.args.self.now c.requires in
    let tail = n.tail in
    let waits = n.waits in
    let room = n.room in
    (λ e. omega (arith, tail, waits, room, c.if-len-self.true, c.len-all.ensures), λ over. refl)

pub returns-then-len-self-clause-unchanged : goal.returns-then-len-self-clause-unchanged
returns-then-len-self-clause-unchanged c = λ e. (cut_away c.args.self.now _ c.requires c.cut.ensures refl refl refl refl).frames_

pub returns-then-len-self-clause-open : goal.returns-then-len-self-clause-open
returns-then-len-self-clause-open c = (cut_away c.args.self.now _ c.requires c.cut.ensures refl refl refl refl).open_

pub returns-then-len-self-clause-tail : goal.returns-then-len-self-clause-tail
returns-then-len-self-clause-tail c = (cut_away c.args.self.now _ c.requires c.cut.ensures refl refl refl refl).tail

pub returns-in-Ok-clause-over : goal.returns-in-Ok-clause-over
returns-in-Ok-clause-over c =
    let n = tail_counts c.args.self.now c.requires in
    let tail = n.tail in
    let waits = n.waits in
    let room = n.room in
    (λ e. absurd (let clash = e in cc), λ over. absurd (omega (arith, tail, waits, room, c.if-len-self.false, c.len-all.ensures, over)))

pub returns-in-Ok-clause-done : goal.returns-in-Ok-clause-done
returns-in-Ok-clause-done c = λ e.
    let o = c.args.self.now in
    let n = c.len-all.result - (o.gone + o.taken + o.queued) in
    (admitted_at o _ c.len-all.result c.requires c.len-all.ensures c.if-len-self.false refl refl refl
    c.in-Ok.ensures.ok refl).frames_

pub returns-in-Ok-clause-open : goal.returns-in-Ok-clause-open
returns-in-Ok-clause-open c =
    let o = c.args.self.now in
    let n = c.len-all.result - (o.gone + o.taken + o.queued) in
    (admitted_at o _ c.len-all.result c.requires c.len-all.ensures c.if-len-self.false refl refl refl
    c.in-Ok.ensures.ok refl).open_

pub returns-in-Ok-clause-tail : goal.returns-in-Ok-clause-tail
returns-in-Ok-clause-tail c =
    let o = c.args.self.now in
    let n = c.len-all.result - (o.gone + o.taken + o.queued) in
    (admitted_at o _ c.len-all.result c.requires c.len-all.ensures c.if-len-self.false refl refl refl
    c.in-Ok.ensures.ok refl).tail

pub returns-in-Err-clause-no_memory : goal.returns-in-Err-clause-no_memory
returns-in-Err-clause-no_memory c = (cut_away c.args.self.now _ c.requires c.cut-in-Err.ensures c.in-Err.ensures.no_memory refl refl refl).frames_

pub returns-in-Err-clause-open : goal.returns-in-Err-clause-open
returns-in-Err-clause-open c = (cut_away c.args.self.now _ c.requires c.cut-in-Err.ensures c.in-Err.ensures.no_memory refl refl refl).open_

pub returns-in-Err-clause-tail : goal.returns-in-Err-clause-tail
returns-in-Err-clause-tail c = (cut_away c.args.self.now _ c.requires c.cut-in-Err.ensures c.in-Err.ensures.no_memory refl refl refl).tail
