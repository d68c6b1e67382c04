use Rattle.std.proofs.Common.{◌≡◌, ◌<◌, ◌∷◌, ◌++◌, [], ap, sym, ◌∙◌, arith, map, length, true}
use Rattle.std.proofs.lemmas.List.{length-take-le}
use Rattle.std.proofs.lemmas.List.Elements.{All-more}
use Rattle.notify_table.specs.Table.{handle_of}
use Rattle.notify_table.specs.Turns.{is_turn_due}
use Rattle.notify_table.proofs.TurnLemmas.{due_before, due_at_least, due_all, handles_more}
use Rattle.notify_table.proofs.ring.due_of_ring.Goals as goal

pub returns-then-not-is_due-clause-due : goal.returns-then-not-is_due-clause-due
returns-then-not-is_due-clause-due g c =
    let within : c.loop-i.i < length c.args.ring.now.items = omega (arith, c.args.ring.now.ok.0) in
    c.loop-i.invariant.handles
    ∙ ap (map handle_of) (sym (due_before c.args.now c.args.ring.now.items c.loop-i.i c.index-record.result.now c.requires within
    c.loop-i.invariant.due (sym (ap (is_turn_due c.args.now) c.index-record.ensures) ∙ (sym c.is_due.ensures.value ∙ c.if-not-is_due.true))))

pub returns-then-not-is_due-clause-cost : goal.returns-then-not-is_due-clause-cost
returns-then-not-is_due-clause-cost g c =
    omega (arith, due_at_least c.args.now c.args.ring.now.items c.loop-i.i (omega (arith, c.args.ring.now.ok.0)) c.loop-i.invariant.due)

pub returns-then-not-is_due-clause-counted : goal.returns-then-not-is_due-clause-counted
returns-then-not-is_due-clause-counted g c =
    let within : c.loop-i.i < length c.args.ring.now.items = omega (arith, c.args.ring.now.ok.0) in
    let all = ap length (due_before c.args.now c.args.ring.now.items c.loop-i.i c.index-record.result.now c.requires within
    c.loop-i.invariant.due (sym (ap (is_turn_due c.args.now) c.index-record.ensures) ∙ (sym c.is_due.ensures.value ∙ c.if-not-is_due.true))) in
    omega (arith, all, length-take-le c.loop-i.i c.args.ring.now.items (omega (arith, c.args.ring.now.ok.0)))

pub returns-in_err-push-clause-cost : goal.returns-in_err-push-clause-cost
returns-in_err-push-clause-cost g c =
    omega (arith, due_at_least c.args.now c.args.ring.now.items c.loop-i.i (omega (arith, c.args.ring.now.ok.0)) c.loop-i.invariant.due)

pub loop-i-preserved : goal.loop-i-preserved
loop-i-preserved g c =
    let within : c.loop-i.i < length c.args.ring.now.items = omega (arith, c.args.ring.now.ok.0) in
    record {
      handles = c.in_ok-push.ensures.items ∙ (ap (λ h. c.loop-i.handles.items ++ h ∷ []) (c.handle.ensures ∙ ap handle_of c.index-record.ensures)
          ∙ handles_more c.args.ring.now.items c.loop-i.i c.index-record.result.now c.loop-i.handles.items within c.loop-i.invariant.handles);
      due = All-more (λ w. is_turn_due c.args.now w ≡ true) c.args.ring.now.items c.loop-i.i c.index-record.result.now within
          c.loop-i.invariant.due (sym (ap (is_turn_due c.args.now) c.index-record.ensures) ∙ (sym c.is_due.ensures.value ∙ c.if-not-is_due.false));
      steps = omega (arith, c.args.ring.now.ok.0);
    }

pub returns-clause-due : goal.returns-clause-due
returns-clause-due g c =
    c.loop-i.invariant.handles
    ∙ ap (map handle_of) (sym (due_all c.args.now c.args.ring.now.items c.loop-i.i (omega (arith, c.args.ring.now.ok.0)) c.loop-i.invariant.due))

pub returns-clause-cost : goal.returns-clause-cost
returns-clause-cost g c =
    omega (arith, due_at_least c.args.now c.args.ring.now.items c.loop-i.i (omega (arith, c.args.ring.now.ok.0)) c.loop-i.invariant.due)

pub returns-clause-counted : goal.returns-clause-counted
returns-clause-counted g c =
    let all = ap length (due_all c.args.now c.args.ring.now.items c.loop-i.i (omega (arith, c.args.ring.now.ok.0)) c.loop-i.invariant.due) in
    omega (arith, all, length-take-le c.loop-i.i c.args.ring.now.items (omega (arith, c.args.ring.now.ok.0)))
