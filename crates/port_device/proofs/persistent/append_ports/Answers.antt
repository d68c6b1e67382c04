use Rattle.std.proofs.Common.{◌≡◌, ◌+◌, ◌++◌, [], ◌∷◌, List, take, sym, ◌∙◌, ap, subst}
use Rattle.std.specs.Prelude.{flat_map}
use Rattle.std.specs.List.{All}
use Rattle.std.proofs.lemmas.List.{take_more}
use Rattle.spec_store.specs.BodyText.{entry_bytes, FitsEntry}
use Rattle.port_device.specs.PortMemory.{PortMemory}
use Rattle.port_device.specs.PersistentRows.{port_entries, ports_entries}
use Rattle.port_device.proofs.PersistentLemmas.{text-more, fit-more}
use Rattle.port_device.proofs.persistent.append_ports.Goals as goal

pub loop-port-preserved : goal.loop-port-preserved
loop-port-preserved c =
    let ports = c.args.ports.now in
    let i = c.loop-port.port-index in
    let port = c.port-item.result in
    let start = c.args.out.now in
    let old = c.loop-port.out in
    let new = c.append_entries.new.out in
    let next : take (i + 1) ports ≡ take i ports ++ port ∷ [] =
    take_more ports i port c.loop-port-test.true ∙ ap (λ r. take i ports ++ r ∷ []) (sym c.port-item.is) in
    let P : List PortMemory → Type 0 = λ ms. (new ≡ start ++ flat_map entry_bytes (ports_entries ms)) × All FitsEntry (ports_entries ms) in
    subst P (sym next) (
      text-more port_entries (take i ports) port start old new c.loop-port.invariant.0 c.in_ok-append_entries.ensures.ok,
      fit-more port_entries (take i ports) port c.loop-port.invariant.1 c.in_ok-append_entries.ensures.fit,
    )
