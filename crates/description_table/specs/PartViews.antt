-- For private contracts, and cited by no public clause: what the parts that the code reads are to the rules.
use Rattle.std.specs.Prelude.{ℕ, List, Bool, ℤ}
use Rattle.description_table.specs.declared.parts.SymbolPlace.{SymbolPlace}
use Rattle.description_table.specs.declared.parts.SymbolFlags.{SymbolFlags}
use Rattle.description_table.specs.declared.parts.PortFacts.{PortFacts}
use Rattle.description_table.specs.declared.parts.AreaSizes.{AreaSizes}

abbrev pub place_view : SymbolPlace → List ℕ × List ℕ × List ℕ × ℤ
place_view p = (p.name.now, p.kind.now, p.area.now, p.offset)

abbrev pub flags_view : SymbolFlags → List ℕ × Bool × Bool
flags_view f = (f.comment.now, f.persistent, f.read_only)

abbrev pub facts_view : PortFacts → ℤ × List ℕ × ℤ × ℤ × ℤ
facts_view f = (f.number, f.name.now, f.major, f.minor, f.build)

abbrev pub sizes_view : AreaSizes → ℤ × ℤ × ℤ × ℤ
sizes_view s = (s.inputs, s.outputs, s.memory, s.process)
