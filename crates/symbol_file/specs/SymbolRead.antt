-- For private contracts, and cited by no public clause: a symbol whose shape and first bytes are known.
use Rattle.std.specs.Prelude.{ℕ, List, option_map, unwrap_or}
use Rattle.spec_plant.specs.Listed.{Shape}
use Rattle.spec_plant.specs.Description.{Symbol, Inputs}
use Rattle.spec_rules.specs.Written.{WrittenSymbol}
use Rattle.spec_rules.specs.Described.{area_of, natural_of, nets_described}

abbrev pub symbol_read : Shape → List ℕ → WrittenSymbol → Symbol
symbol_read shape initial s = record {
  name = s.name;
  shape = shape;
  area = unwrap_or (area_of s.area) Inputs;
  offset = natural_of s.offset;
  comment = s.comment;
  persistent = s.persistent;
  read_only = s.read_only;
  initial = initial;
  signal = option_map natural_of s.signal;
  writers = nets_described s.writers;
}
