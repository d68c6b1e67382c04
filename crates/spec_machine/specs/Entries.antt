-- The entries that uploads and the extended info by name give. Beckhoff Information System,
-- "AdsSymbolEntry", "AdsDatatypeEntry". Which fields a part has is this project's own choice.
use Rattle.std.specs.Prelude.{ℕ, ◌+◌, List, ◌++◌, length, map, if◌then◌else◌}
use Rattle.std.specs.Int.{w32, to_le_bytes}
use Rattle.spec_plant.specs.Description.{Area, Inputs, Outputs, Memory, Process}
use Rattle.spec_plant.specs.Trees.{TypeTree, ArrayTree, trees_of}
use Rattle.spec_plant.specs.Sizes.{type_size}
use Rattle.spec_plant.specs.Spelling.{type_text}
use Rattle.spec_plant.specs.Entries.{type_id}
use Rattle.spec_plant.specs.World.{Plant, PlantSymbol, PlantPort}
use Rattle.spec_plant.specs.Finding.{Found}
use Rattle.spec_plant.specs.PartTexts.{name_of_found, comment_of_found}
use Rattle.spec_formats.specs.Groups.{memory_bytes, process_bytes, input_bytes, output_bytes}
use Rattle.spec_formats.specs.SymbolEntry.{SymbolEntry, upload_bytes}
use Rattle.spec_formats.specs.TypeEntry.{type_upload_bytes}
use Rattle.spec_formats.specs.TypeUpload.{entries_of_types}
use Rattle.spec_machine.specs.Manner.{Manner, Strict, Wide}

-- the byte group of an area
abbrev pub group_of_area : Area → ℕ
group_of_area Inputs = input_bytes
group_of_area Outputs = output_bytes
group_of_area Memory = memory_bytes
group_of_area Process = process_bytes

-- the flags of an entry: persistent, and read-only
abbrev pub PERSISTENT : ℕ
PERSISTENT = 0x0001

abbrev pub READ_ONLY : ℕ
READ_ONLY = 0x0020

abbrev pub symbol_flags : PlantSymbol → ℕ
symbol_flags s = (if s.persistent then PERSISTENT else 0) + (if s.read_only then READ_ONLY else 0)

-- the id of an array is its element's
abbrev pub id_of_element : TypeTree → ℕ
id_of_element (ArrayTree bounds element) = type_id element
id_of_element type = type_id type

-- the id of a type in an entry of a symbol: to TwinCAT's clients, which the wide server is for, that of an array is its
-- element's
abbrev pub type_id_in : Manner → TypeTree → ℕ
type_id_in Strict type = type_id type
type_id_in Wide type = id_of_element type

-- the entry of a part of a symbol; the whole symbol has its own comment
unfoldable pub entry_of_part : Manner → Found → SymbolEntry
entry_of_part manner f = record {
  group = group_of_area f.symbol.area;
  offset = f.symbol.offset + f.part.first;
  size = type_size f.part.type;
  type_id = type_id_in manner f.part.type;
  flags = symbol_flags f.symbol;
  name = name_of_found f;
  type_name = type_text f.part.type;
  comment = comment_of_found f;
}

abbrev pub entry_of_symbol : Manner → PlantSymbol → SymbolEntry
entry_of_symbol manner s = record {
  group = group_of_area s.area;
  offset = s.offset;
  size = type_size s.type;
  type_id = type_id_in manner s.type;
  flags = symbol_flags s;
  name = s.name;
  type_name = type_text s.type;
  comment = s.comment;
}

-- the entries of all symbols, in the description's order
abbrev pub symbol_upload_of : Manner → PlantPort → List ℕ
symbol_upload_of manner p = upload_bytes (map (entry_of_symbol manner) p.symbols)

-- symbol count 4, upload size 4
abbrev pub upload_info_of : Manner → PlantPort → List ℕ
upload_info_of manner p =
    to_le_bytes w32 (length p.symbols) ++ to_le_bytes w32 (length (symbol_upload_of manner p))

-- the entries of all named types, in the description's order
abbrev pub type_upload_of : Plant → List ℕ
type_upload_of plant = type_upload_bytes (entries_of_types (trees_of plant.types))

-- symbols 4, symbol upload size 4, types 4, type upload size 4, and two numbers of 4 that are 0
abbrev pub upload_info_with_types_of : Manner → Plant → PlantPort → List ℕ
upload_info_with_types_of manner plant p =
    to_le_bytes w32 (length p.symbols) ++ to_le_bytes w32 (length (symbol_upload_of manner p))
    ++ to_le_bytes w32 (length plant.types) ++ to_le_bytes w32 (length (type_upload_of plant))
    ++ to_le_bytes w32 0 ++ to_le_bytes w32 0
