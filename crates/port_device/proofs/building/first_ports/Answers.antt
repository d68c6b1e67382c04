use Rattle.std.proofs.Common.{◌≡◌, ◌+◌, List, [], ◌∷◌, ◌++◌, take, sym, ◌∙◌, ap, subst}
use Rattle.std.specs.Arc.{arc_value}
use Rattle.std.proofs.lemmas.List.{take_more, map-append}
use Rattle.spec_plant.specs.Description.{Port}
use Rattle.type_layout.specs.Descriptions.{port_of, ports_of}
use Rattle.type_layout.specs.NamedTypes.{types_of}
use Rattle.type_layout.specs.declared.port.PortDesc.{PortDesc}
use Rattle.port_device.specs.Manners.{manner_of}
use Rattle.port_device.specs.FirstPorts.{IsOfAccepted, AreFirstPorts}
use Rattle.port_device.proofs.FirstPortLemmas.{first_ports-more}
use Rattle.port_device.proofs.building.first_ports.Goals as goal

pub first_port-requires-clause-accepted : goal.first_port-requires-clause-accepted
first_port-requires-clause-accepted c =
    let types = types_of (arc_value c.args.types.now) in
    subst (λ (p : PortDesc). IsOfAccepted types (port_of p)) (sym c.d-item.is) (c.requires.each c.loop-d.d-index c.d-item.result c.loop-d-test.true)

pub loop-d-preserved : goal.loop-d-preserved
loop-d-preserved c =
    let types = types_of (arc_value c.args.types.now) in
    let i = c.loop-d.d-index in
    let x : PortDesc = c.d-item.result in
    let before : List PortDesc = take i c.args.ports.now in
    let taken : take (i + 1) c.args.ports.now ≡ before ++ x ∷ []
    = take_more c.args.ports.now i x c.loop-d-test.true ∙ ap (λ y. before ++ y ∷ []) (sym c.d-item.is) in
    let ports : ports_of (take (i + 1) c.args.ports.now) ≡ ports_of before ++ port_of x ∷ [] = ap ports_of taken ∙ map-append port_of before (x ∷ []) in
    let built = c.loop-d.built.items in
    let more = first_ports-more types c.args.version (manner_of c.args.manner) (ports_of before) built (port_of x) c.in_ok-port.port
    c.loop-d.invariant c.in_ok-port.ensures in
    let P : List Port → Type 0 = λ ps. AreFirstPorts types c.args.version (manner_of c.args.manner) ps (c.loop-d.built.items ++ c.in_ok-port.port ∷ []) in
    subst (AreFirstPorts types c.args.version (manner_of c.args.manner) (ports_of (take (i + 1) c.args.ports.now)))
    (sym c.in_ok-push.ensures.items) (subst P (sym ports) more)
