use Rattle.std.proofs.Common.{List, ◌<◌, ℕ, length, sym, ◌∙◌, ap, subst}
use Rattle.std.proofs.lemmas.Bool.{false≢true}
use Rattle.spec_plant.specs.Description.{size_in}
use Rattle.spec_plant.proofs.BlockLemmas.{nth-length}
use Rattle.spec_machine.specs.WritableBytes.{MayWriteSymbolsAt}
use Rattle.type_layout.specs.Descriptions.{area_of}
use Rattle.port_device.specs.Holds.{HoldsPort}
use Rattle.port_device.specs.PortMemory.{PortMemory}
use Rattle.port_device.specs.Ports.{memory_in}
use Rattle.port_device.proofs.WriteLemmas.{bit_written, bit_not_put}
use Rattle.port_device.proofs.port.Port.write_bit.Goals as goal

pub returns-then-not-may_write-clause-answer : goal.returns-then-not-may_write-clause-answer
returns-then-not-may_write-clause-answer c = λ w k h net.
    let P : List ℕ → Type 0 = λ n. MayWriteSymbolsAt n k.port (area_of c.args.area) c.args.«at» 1 in
    bit_not_put w k c.args.self.now (area_of c.args.area) c.args.«at» c.args.bit c.args.value h
    (λ may. false≢true (sym c.if-not-may_write.true ∙ (c.may_write.ensures w k.port h).1 (subst P net may)))

pub invariant_of-self : goal.invariant_of-self
invariant_of-self c = record {
  port = c.self.invariant.port;
  table = c.self.invariant.table;
  sizes_are = c.self.invariant.sizes_are;
  few = c.self.invariant.few;
  bytes = ap length c.put_bit.ensures ∙ nth-length _ _ _ ∙ c.self.invariant.bytes;
  texts = c.self.invariant.texts;
  uploads_are = c.self.invariant.uploads_are;
  bound_are = c.self.invariant.bound_are;
  marks_are = c.self.invariant.marks_are;
}

pub returns-clause-answer : goal.returns-clause-answer
returns-clause-answer c = λ w k h net.
    let m : PortMemory = memory_in c.self.inside in
    let held : HoldsPort w k.port m = subst (HoldsPort w k.port) (sym c.self.view_is) h in
    let Q : PortMemory → Type 0 = λ x. c.args.«at» < size_in x.table.sizes (area_of c.args.area) in
    let within = subst Q (sym c.self.view_is) c.requires.within in
    let P : List ℕ → Type 0 = λ n. MayWriteSymbolsAt n k.port (area_of c.args.area) c.args.«at» 1 in
    let may = subst P (sym net) ((c.may_write.ensures w k.port h).0 c.if-not-may_write.false) in
    bit_written w k m _ (area_of c.args.area) c.args.«at» c.args.bit c.args.value c.put_bit.new.image held c.self.invariant.sizes_are
    within may c.put_bit.ensures
