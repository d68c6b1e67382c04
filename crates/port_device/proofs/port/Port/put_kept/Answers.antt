use Rattle.std.proofs.Common.{◌≡◌, List, ◌++◌, sym, ◌∙◌, ap, subst}
use Rattle.std.specs.Prelude.{All}
use Rattle.spec_plant.specs.Listed.{NamedType}
use Rattle.symbol_table.specs.Tables.{IsTableWith}
use Rattle.port_device.specs.KeptSymbols.{kept_symbols_of}
use Rattle.port_device.specs.Moved.{entries_from, entries_of, HasTypes}
use Rattle.port_device.specs.PortMemory.{PortMemory, memory_numbered}
use Rattle.port_device.specs.Ports.{memory_in}
use Rattle.port_device.specs.Reloaded.{AreCompared}
use Rattle.port_device.proofs.EntryLemmas.{all_end_in_reach, numbered_has}
use Rattle.port_device.proofs.ReloadLemmas.{typed_rows}
use Rattle.port_device.proofs.port.Port.put_kept.Goals as goal

pub put_entries-requires-clause-ends : goal.put_entries-requires-clause-ends
put_entries-requires-clause-ends c =
    let m : PortMemory = memory_in c.self.inside in
    all_end_in_reach m.types m.table c.symbols.result.now (record { port = c.self.invariant.port; is_of = c.self.invariant.table }) c.self.invariant.few
    c.symbols.ensures.rows

pub returns-in_ok-put_entries-in-Some-clause-kept : goal.returns-in_ok-put_entries-in-Some-clause-kept
returns-in_ok-put_entries-in-Some-clause-kept c = λ types.
    let m : PortMemory = memory_in c.self.inside in
    let now = c.in-Some.now.now in
    let found = sym c.in-Some.ensures in
    let P : PortMemory → Type 0 = λ x. AreCompared x.types types c.args.same.now → All (HasTypes types) c.args.new.now.ports
    → kept_symbols_of c.put_entries.new.kept ≡ kept_symbols_of c.args.kept.now ++ entries_of x (memory_numbered x.number c.args.new.now.ports) in
    subst P c.self.view_is (λ compared all.
    let same = numbered_has types m.number c.args.new.now.ports now all found in
    let with_ : IsTableWith m.types m.table = record { port = c.self.invariant.port; is_of = c.self.invariant.table } in
    c.in_ok-put_entries-in-Some.ensures.kept m.types (subst (λ (ts : List NamedType). AreCompared m.types ts c.args.same.now) (sym same) compared)
    (typed_rows m.types m.table c.symbols.result.now with_ c.symbols.ensures.rows)
    ∙ ap (λ ss. kept_symbols_of c.args.kept.now ++ entries_from m.types now m.number 0 ss) c.symbols.ensures.rows
    ∙ sym (ap (λ o. kept_symbols_of c.args.kept.now ++ entries_of m o) found))
