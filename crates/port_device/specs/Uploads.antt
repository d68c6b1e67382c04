-- The uploads of a port, by what its memory keeps of its symbols and types.
use Rattle.std.specs.Prelude.{◌≡◌, ℕ, List, length, map, Bool, ◌&&◌, nat_le}
use Rattle.spec_plant.specs.Listed.{NamedType}
use Rattle.spec_plant.specs.Description.{Symbol}
use Rattle.spec_plant.specs.Trees.{trees_of}
use Rattle.spec_plant.specs.Entries.{upload_size}
use Rattle.spec_plant.specs.World.{plant_symbol, PlantPort}
use Rattle.spec_formats.specs.SymbolEntry.{upload_bytes}
use Rattle.spec_formats.specs.TypeEntry.{type_upload_bytes}
use Rattle.spec_formats.specs.TypeUpload.{entries_of_types}
use Rattle.spec_machine.specs.Acts.{Act}
use Rattle.spec_machine.specs.Manner.{Manner}
use Rattle.spec_machine.specs.World.{Setup}
use Rattle.spec_machine.specs.Entries.{entry_of_symbol, symbol_upload_of, type_upload_of, upload_info_of, upload_info_with_types_of}
use Rattle.spec_machine.specs.Reads.{fixed_reply, type_upload_reply}
use Rattle.symbol_table.specs.Tables.{TableSymbol, SymbolTable, declared}
use Rattle.index_groups.specs.declared.groups.UploadGroup.{UploadGroup}
use Rattle.index_groups.specs.declared.groups.UploadGroup.TheVariants.{Symbols, Info, Types, InfoWithTypes}
use Rattle.port_device.specs.declared.uploads.UploadSizes.{UploadSizes}

-- a read of an upload, or of the sizes of uploads
abbrev pub upload_act : Setup → PlantPort → UploadGroup → ℕ → Act
upload_act d p Symbols len = fixed_reply len (symbol_upload_of d.profile.manner p)
upload_act d p Info len = fixed_reply len (upload_info_of d.profile.manner p)
upload_act d p Types len = type_upload_reply len (type_upload_of d.plant)
upload_act d p InfoWithTypes len = fixed_reply len (upload_info_with_types_of d.profile.manner d.plant p)

-- the symbols of the description, in its order
abbrev pub described : SymbolTable → List Symbol
described table = map declared table.symbols

-- the entries of all symbols, and those of all types
abbrev pub symbols_upload : Manner → List NamedType → SymbolTable → List ℕ
symbols_upload manner types table = upload_bytes (map (entry_of_symbol manner) (map (plant_symbol types) (described table)))

abbrev pub types_upload : List NamedType → List ℕ
types_upload types = type_upload_bytes (entries_of_types (trees_of types))

-- these are their lengths
pub record AreUploadSizes (types : List NamedType) (table : SymbolTable) (sizes : UploadSizes) : Type 0 where
  pub of_symbols : sizes.symbols ≡ upload_size types (described table)
  pub of_types : sizes.types ≡ length (types_upload types)

-- a name and a comment that an entry can hold, which those of an accepted description are
abbrev pub has_short_texts : TableSymbol → Bool
has_short_texts s = nat_le (length s.name) 255 && nat_le (length s.comment) 255
