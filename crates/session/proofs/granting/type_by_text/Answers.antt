use Rattle.std.proofs.Common.{List, ℕ, subst, IfOk}
use Rattle.spec_plant.specs.World.{PlantPort}
use Rattle.spec_machine.specs.World.{World}
use Rattle.spec_machine.specs.TypesByText.{tree_of_text}
use Rattle.spec_machine.specs.MoreActs.{if_type}
use Rattle.port_device.specs.Holds.{HoldsPort}
use Rattle.port_device.specs.Answers.{AnswersAct}
use Rattle.session.proofs.granting.type_by_text.Goals as goal

pub returns-clause-answer : goal.returns-clause-answer
returns-clause-answer c =
    let len = c.args.asked.now.len in
    subst (λ (t : List ℕ). IfOk c.entry_of_type.result (λ answer. (w : World) (p : PlantPort) → HoldsPort w p c.args.port.now
    → AnswersAct w (if_type (tree_of_text w.plant.types t) len) answer c.args.out.now c.entry_of_type.new.out))
    c.up_to_nul.ensures c.entry_of_type.ensures.answer
