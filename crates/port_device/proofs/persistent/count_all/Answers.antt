use Rattle.std.proofs.Common.{◌≡◌, ℕ, ◌<◌, ◌+◌, ◌^◌, ◌++◌, [], ◌∷◌, List, length, take, sym, ◌∙◌, ap, subst, arith}
use Rattle.std.specs.Prelude.{◌%◌}
use Rattle.std.specs.List.{All}
use Rattle.std.proofs.lemmas.List.{take_more, length-append, flat_map_more}
use Rattle.std.proofs.lemmas.List.Elements.{All-push}
use Rattle.port_device.specs.PortMemory.{PortMemory}
use Rattle.port_device.specs.PersistentRows.{port_entries, ports_entries, HasNumber}
use Rattle.port_device.proofs.persistent.count_all.Goals as goal

pub loop-port-preserved : goal.loop-port-preserved
loop-port-preserved c =
    let ports = c.args.ports.now in
    let i = c.loop-port.port-index in
    let port = c.port-item.result in
    let before = take i ports in
    let next : take (i + 1) ports ≡ before ++ port ∷ [] =
    take_more ports i port c.loop-port-test.true ∙ ap (λ r. take i ports ++ r ∷ []) (sym c.port-item.is) in
    let n : ℕ = (c.loop-port.count + c.persistent_count.result) % 4294967296 in
    let P : List PortMemory → Type 0 = λ ms. (length (ports_entries ms) < 2 ^ 32 → n ≡ length (ports_entries ms)) × All HasNumber ms in
    let more = ap length (flat_map_more port_entries [] before port) in
    let parts = length-append (ports_entries before) (port_entries port) in
    let counted = c.loop-port.invariant.0 in
    let own = c.persistent_count.ensures.count in
    subst P (sym next) (
      λ few. let was = counted (omega (arith, few, more, parts)) in omega (arith, few, more, parts, was, own),
      All-push HasNumber before port c.loop-port.invariant.1 c.persistent_count.ensures.number,
    )
