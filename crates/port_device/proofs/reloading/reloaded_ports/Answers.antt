use Rattle.std.proofs.Common.{◌≡◌, ◌+◌, List, [], ◌∷◌, ◌++◌, take, sym, ◌∙◌, ap, subst}
use Rattle.std.specs.Arc.{arc_value}
use Rattle.std.proofs.lemmas.List.{take_more, map-append}
use Rattle.spec_plant.specs.Description.{Port}
use Rattle.type_layout.specs.Descriptions.{port_of, ports_of}
use Rattle.type_layout.specs.NamedTypes.{types_of}
use Rattle.type_layout.specs.declared.port.PortDesc.{PortDesc}
use Rattle.port_device.specs.Manners.{manner_of}
use Rattle.port_device.specs.FirstPorts.{IsOfAccepted}
use Rattle.port_device.specs.ReloadedPorts.{AreReloadedPorts}
use Rattle.port_device.proofs.ReloadedPorts.{reloaded-more}
use Rattle.port_device.proofs.reloading.reloaded_ports.Goals as goal

pub reloaded_port-requires-clause-accepted : goal.reloaded_port-requires-clause-accepted
reloaded_port-requires-clause-accepted c =
    let types = types_of (arc_value c.args.types.now) in
    subst (λ (p : PortDesc). IsOfAccepted types (port_of p)) (sym c.d-item.is) (c.requires.each c.loop-d.d-index c.d-item.result c.loop-d-test.true)

pub loop-d-preserved : goal.loop-d-preserved
loop-d-preserved c = λ before compared all.
    let types = types_of (arc_value c.args.types.now) in
    let old = c.args.old.now.ports in
    let i = c.loop-d.d-index in
    let x : PortDesc = c.d-item.result in
    let first : List PortDesc = take i c.args.ports.now in
    let taken : take (i + 1) c.args.ports.now ≡ first ++ x ∷ []
    = take_more c.args.ports.now i x c.loop-d-test.true ∙ ap (λ y. first ++ y ∷ []) (sym c.d-item.is) in
    let ports : ports_of (take (i + 1) c.args.ports.now) ≡ ports_of first ++ port_of x ∷ [] = ap ports_of taken ∙ map-append port_of first (x ∷ []) in
    let more = reloaded-more old types c.args.version (manner_of c.args.manner) (ports_of first) c.loop-d.built.items (port_of x) c.in_ok-port.port
    (c.loop-d.invariant before compared all) (c.in_ok-port.ensures before compared all) in
    let P : List Port → Type 0 = λ ps.
    AreReloadedPorts old types c.args.version (manner_of c.args.manner) ps (c.loop-d.built.items ++ c.in_ok-port.port ∷ []) in
    subst (AreReloadedPorts old types c.args.version (manner_of c.args.manner) (ports_of (take (i + 1) c.args.ports.now)))
    (sym c.in_ok-push.ensures.items) (subst P (sym ports) more)
