use Rattle.std.proofs.Common.{◌≤◌, ◌+◌, length, Ok, inl, inr, ap, sym, ◌∙◌}
use Rattle.std.proofs.lemmas.Bool.{cases_lt}
use Rattle.out_queue.specs.Queue.{queued}
use Rattle.out_queue.specs.Open.{frames_of, tail_of}
use Rattle.server_core.specs.Stands.{outlet_with}
use Rattle.server_core.proofs.WrittenLemmas.{waits_fitting, waits_over}
use Rattle.server_core.proofs.taking.reply.Goals as goal

pub returns-in-Done-clause-waits : goal.returns-in-Done-clause-waits
returns-in-Done-clause-waits c =
    let queue = c.args.queue.now in
    let frame = tail_of queue in
    let room : queued (frames_of queue) + length frame ≤ 4194304 = elim (cases_lt 4194304 (queued (frames_of queue) + length frame)) [
      | inl over ↦ absurd (let both = sym c.in-Done.is ∙ c.in_ok-admit.ensures.over.1 over in cc)
      | inr fits ↦ fits
    ] in
    waits_fitting frame (outlet_with queue c.args.closes.now) (frames_of c.admit.new.self) c.args.summary.now c.count_reply.new.self
    c.requires.open room (c.in_ok-admit.ensures.done (ap (λ p. Ok p) c.in-Done.is)) c.count_reply.ensures

pub returns-in-Over-clause-waits : goal.returns-in-Over-clause-waits
returns-in-Over-clause-waits c =
    let queue = c.args.queue.now in
    waits_over (tail_of queue) (outlet_with queue c.args.closes.now) (frames_of c.admit.new.self) c.args.summary.now c.requires.open
    (c.in_ok-admit.ensures.over.0 c.in-Over.is) (c.in_ok-admit.ensures.unchanged (ap (λ p. Ok p) c.in-Over.is))
