use Rattle.std.proofs.Common.{List, ◌+◌, ◌≤◌, ℕ, length, sym, ◌∙◌, subst}
use Rattle.std.proofs.lemmas.Bool.{false≢true}
use Rattle.spec_plant.specs.Description.{size_in}
use Rattle.spec_machine.specs.WritableBytes.{MayWriteSymbolsAt}
use Rattle.type_layout.specs.Descriptions.{area_of}
use Rattle.port_device.specs.Holds.{HoldsPort}
use Rattle.port_device.specs.PortMemory.{PortMemory}
use Rattle.port_device.specs.Ports.{memory_in}
use Rattle.port_device.proofs.WriteLemmas.{bytes_written, bytes_not_put}
use Rattle.port_device.proofs.port.Port.write_bytes.Goals as goal

pub returns-then-not-may_write-clause-answer : goal.returns-then-not-may_write-clause-answer
returns-then-not-may_write-clause-answer c = λ w k h net.
    let P : List ℕ → Type 0 = λ n. MayWriteSymbolsAt n k.port (area_of c.args.area) c.args.«at» (length c.args.bytes.now) in
    bytes_not_put w k c.args.self.now (area_of c.args.area) c.args.«at» c.args.bytes.now h
    (λ may. false≢true (sym c.if-not-may_write.true ∙ (c.may_write.ensures w k.port h).1 (subst P net may)))

pub returns-clause-answer : goal.returns-clause-answer
returns-clause-answer c = λ w k h net.
    let m : PortMemory = memory_in c.self.inside in
    let held : HoldsPort w k.port m = subst (HoldsPort w k.port) (sym c.self.view_is) h in
    let Q : PortMemory → Type 0 = λ x. c.args.«at» + length c.args.bytes.now ≤ size_in x.table.sizes (area_of c.args.area) in
    let within = subst Q (sym c.self.view_is) c.requires in
    let P : List ℕ → Type 0 = λ n. MayWriteSymbolsAt n k.port (area_of c.args.area) c.args.«at» (length c.args.bytes.now) in
    let may = subst P (sym net) ((c.may_write.ensures w k.port h).0 c.if-not-may_write.false) in
    bytes_written w k m _ (area_of c.args.area) c.args.«at» c.args.bytes.now c.put_bytes.new.image held c.self.invariant.sizes_are within
    may c.put_bytes.ensures
