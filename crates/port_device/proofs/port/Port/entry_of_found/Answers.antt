use Rattle.std.proofs.Common.{map, sym, ap, subst}
use Rattle.std.specs.Prelude.{Some, IfOk}
use Rattle.spec_plant.specs.Description.{Port}
use Rattle.spec_plant.specs.Finding.{found_of_steps}
use Rattle.spec_plant.specs.World.{PlantPort, plant_symbol}
use Rattle.spec_machine.specs.World.{World}
use Rattle.symbol_table.specs.FoundPlaces.{Finds}
use Rattle.symbol_table.specs.Tables.{IsTableOf}
use Rattle.type_layout.specs.NamedTypes.{types_of}
use Rattle.port_device.specs.Answers.{AnswersAct, path_entry_act}
use Rattle.port_device.specs.Holds.{HoldsPort}
use Rattle.port_device.specs.PortMemory.{PortMemory}
use Rattle.port_device.specs.Ports.{memory_in}
use Rattle.port_device.proofs.FoundEntries.{IsWritten, is_written, written_short, entry_passed}
use Rattle.port_device.proofs.port.Port.entry_of_found.Goals as goal

pub put_whole-requires : goal.put_whole-requires
put_whole-requires c =
    let m : PortMemory = memory_in c.self.inside in
    let found = c.args.found.now in
    let path = c.args.path.now in
    let Q : PortMemory → Type 0 = λ x. (port : Port) → IsTableOf x.types port x.table
    → Finds x.types (map (plant_symbol x.types) port.symbols) (found_of_steps (map (plant_symbol x.types) port.symbols) path) (Some found) in
    let finds = subst Q (sym c.self.view_is) c.requires in
    let written : IsWritten m.manner m.types m.table path found c.put_name.new.out c.type_text.new.out c.entry_at-entry.result =
    is_written m.manner m.types (types_of c.deref.result.now) (types_of c.deref-2.result.now) (types_of c.deref-3.result.now) m.table path found
    c.new-name.result c.put_name.new.out c.new-kind.result c.type_text.new.out c.as_slice.result.now c.as_slice-2.result.now c.entry_at-entry.result
    (ap types_of c.deref.ensures) (ap types_of c.deref-2.ensures) (ap types_of c.deref-3.ensures) c.new-name.ensures c.new-kind.ensures
    c.as_slice.ensures c.as_slice-2.ensures c.in_ok-put_name.ensures.ok c.in_ok-type_text.ensures.ok c.entry_at-entry.ensures in
    written_short m.manner m.types m.table c.self.invariant.port path found c.put_name.new.out c.type_text.new.out c.entry_at-entry.result
    c.self.invariant.table c.self.invariant.texts (finds c.self.invariant.port c.self.invariant.table) written

pub returns-clause-answer : goal.returns-clause-answer
returns-clause-answer c =
    let m : PortMemory = memory_in c.self.inside in
    let found = c.args.found.now in
    let path = c.args.path.now in
    let Q : PortMemory → Type 0 = λ x. (port : Port) → IsTableOf x.types port x.table
    → Finds x.types (map (plant_symbol x.types) port.symbols) (found_of_steps (map (plant_symbol x.types) port.symbols) path) (Some found) in
    let finds = subst Q (sym c.self.view_is) c.requires in
    let written : IsWritten m.manner m.types m.table path found c.put_name.new.out c.type_text.new.out c.entry_at-entry.result =
    is_written m.manner m.types (types_of c.deref.result.now) (types_of c.deref-2.result.now) (types_of c.deref-3.result.now) m.table path found
    c.new-name.result c.put_name.new.out c.new-kind.result c.type_text.new.out c.as_slice.result.now c.as_slice-2.result.now c.entry_at-entry.result
    (ap types_of c.deref.ensures) (ap types_of c.deref-2.ensures) (ap types_of c.deref-3.ensures) c.new-name.ensures c.new-kind.ensures
    c.as_slice.ensures c.as_slice-2.ensures c.in_ok-put_name.ensures.ok c.in_ok-type_text.ensures.ok c.entry_at-entry.ensures in
    let P : PortMemory → Type 0 = λ x. IfOk c.put_whole.result (λ answer. (w : World) (p : PlantPort) → HoldsPort w p x
    → AnswersAct w (path_entry_act w.profile.manner p path c.args.len) answer c.args.out.now c.put_whole.new.out) in
    subst P c.self.view_is (entry_passed m c.put_whole.result c.entry_at-entry.result path found c.put_name.new.out c.type_text.new.out c.args.len
    c.args.out.now c.put_whole.new.out finds written c.put_whole.ensures.answer)
