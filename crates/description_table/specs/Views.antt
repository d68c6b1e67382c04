-- What the code's borrowed records are: a document as the rules have it.
use Rattle.std.specs.Prelude.{ℕ, List, map, option_map}
use Rattle.spec_rules.specs.Written as rules
use Rattle.description_table.specs.declared.written.WrittenRoute.{WrittenRoute}
use Rattle.description_table.specs.declared.written.WrittenMember.{WrittenMember}
use Rattle.description_table.specs.declared.written.WrittenValue.{WrittenValue}
use Rattle.description_table.specs.declared.written.WrittenStructure.{WrittenStructure}
use Rattle.description_table.specs.declared.written.WrittenEnumeration.{WrittenEnumeration}
use Rattle.description_table.specs.declared.written.WrittenType.{WrittenType}
use Rattle.description_table.specs.declared.written.WrittenType.TheVariants as type
use Rattle.description_table.specs.declared.written.WrittenSymbol.{WrittenSymbol}
use Rattle.description_table.specs.declared.written.WrittenPort.{WrittenPort}
use Rattle.description_table.specs.declared.written.Document.{Document}
use Rattle.std.specs.Borrow.{Bor}

abbrev pub route_view : WrittenRoute → rules.WrittenRoute
route_view r = record { net = r.net.now; rights = r.rights.now }

abbrev pub member_view : WrittenMember → rules.WrittenMember
member_view m = record { name = m.name.now; type = m.kind.now; comment = m.comment.now }

abbrev pub value_view : WrittenValue → rules.EnumValue
value_view v = record { name = v.name.now; number = v.number }

abbrev pub structure_view : WrittenStructure → rules.WrittenType
structure_view s = rules.WrittenStructure s.name.now (map member_view s.members.items)

abbrev pub enumeration_view : WrittenEnumeration → rules.WrittenType
enumeration_view e = rules.WrittenEnumeration e.name.now e.base.now (map value_view e.values.items)

abbrev pub type_view : WrittenType → rules.WrittenType
type_view (type.Structure s) = structure_view s
type_view (type.Enumeration e) = enumeration_view e

abbrev pub text_view : Bor (List ℕ) → List ℕ
text_view text = text.now

abbrev pub symbol_view : WrittenSymbol → rules.WrittenSymbol
symbol_view s = record {
  name = s.name.now;
  type = s.kind.now;
  area = s.area.now;
  offset = s.offset;
  comment = s.comment.now;
  persistent = s.persistent;
  read_only = s.read_only;
  initial = option_map text_view s.initial;
  signal = s.signal;
  writers = option_map (λ v. map text_view v.items) s.writers;
}

abbrev pub port_view : WrittenPort → rules.WrittenPort
port_view p = record {
  number = p.number;
  name = p.name.now;
  major = p.major;
  minor = p.minor;
  build = p.build;
  inputs = p.inputs;
  outputs = p.outputs;
  memory = p.memory;
  process = p.process;
  symbols = map symbol_view p.symbols.items;
}

abbrev pub document_view : Document → rules.Document
document_view d = record {
  schema = d.schema;
  net = d.net.now;
  routes = map route_view d.routes.items;
  types = map type_view d.types.items;
  ports = map port_view d.ports.items;
}
