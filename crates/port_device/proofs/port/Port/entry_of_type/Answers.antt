use Rattle.std.proofs.Common.{ap, subst}
use Rattle.std.specs.Prelude.{IfOk}
use Rattle.spec_plant.specs.World.{PlantPort}
use Rattle.spec_machine.specs.World.{World}
use Rattle.spec_machine.specs.MoreActs.{if_type}
use Rattle.spec_machine.specs.TypesByText.{tree_of_text}
use Rattle.type_layout.specs.NamedTypes.{types_of}
use Rattle.port_device.specs.Answers.{AnswersAct}
use Rattle.port_device.specs.Holds.{HoldsPort}
use Rattle.port_device.specs.PortMemory.{PortMemory}
use Rattle.port_device.specs.Ports.{memory_in}
use Rattle.port_device.proofs.TypesPut.{typed_passed}
use Rattle.port_device.proofs.port.Port.entry_of_type.Goals as goal

pub returns-clause-answer : goal.returns-clause-answer
returns-clause-answer c =
    let m : PortMemory = memory_in c.self.inside in
    let P : PortMemory → Type 0 = λ x. IfOk c.entry_by_text.result (λ answer. (w : World) (p : PlantPort) → HoldsPort w p x
    → AnswersAct w (if_type (tree_of_text w.plant.types c.args.text.now) c.args.len) answer c.args.out.now c.entry_by_text.new.out) in
    subst P c.self.view_is (typed_passed m (types_of c.deref.result.now) c.args.len c.args.text.now c.entry_by_text.result
    c.args.out.now c.entry_by_text.new.out (ap types_of c.deref.ensures) c.entry_by_text.ensures.answer)
