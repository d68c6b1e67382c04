-- What a recording prints: of each of its names, all rows of the table. This project's own format.
use Rattle.std.specs.Prelude.{ℕ, List, ◌++◌, codes, flat_map, Option, Some, None}
use Rattle.std.specs.Fmt.{decimal}
use Rattle.spec_formats.specs.SymbolEntry.{SymbolEntry}
use Rattle.spec_formats.specs.ValueText.{value_text}
use Rattle.spec_samples.specs.Row.{Row}
use Rattle.spec_samples.specs.Totals.{Total, total_of}
use Rattle.spec_client.specs.Printed.{line, escaped}

-- how many rows there are, and the moment and the value of the last one
abbrev pub total_text : ℕ → Option Total → List ℕ
total_text type_id None = codes "0"
total_text type_id (Some t) = decimal t.count ++ codes " last " ++ decimal t.time ++ codes " " ++ value_text type_id t.bytes

abbrev pub total_line : List Row → SymbolEntry → List ℕ
total_line rows e = line (escaped e.name ++ codes " count " ++ total_text e.type_id (total_of e.name rows))

-- one line a name, in the order of the names
abbrev pub total_lines : List Row → List SymbolEntry → List ℕ
total_lines rows entries = flat_map (total_line rows) entries
