-- Index groups: what each number names, and which commands answer it.
-- Beckhoff Information System, "Index Group/Offset Specification".
use Rattle.std.specs.Prelude.{ℕ, List, [], ◌∷◌, Bool, true, false, Option, Some, None, ◌==◌, if◌then◌else◌}
use Rattle.spec_plant.specs.Description.{Area, Inputs, Outputs, Memory, Process}
pub use Rattle.spec_formats.specs.GroupNumbers.{memory_bytes, memory_bit, memory_size, process_bytes, process_size}
pub use Rattle.spec_formats.specs.GroupNumbers.{handle_by_name, value_by_name, value_by_handle, release_handle, info_by_name, symbol_version}
pub use Rattle.spec_formats.specs.GroupNumbers.{extended_info_by_name}
pub use Rattle.spec_formats.specs.GroupNumbers.{symbol_upload, upload_info, type_upload, upload_info_with_types}
pub use Rattle.spec_formats.specs.GroupNumbers.{input_bytes, input_bit, input_size, output_bytes, output_bit, output_size, sum_read, sum_write, sum_read_write}

pub data Group : Type 0 where
  AreaBytes : Area → Group
  AreaBit : Area → Group
  AreaSize : Area → Group
  HandleByName : Group
  ValueByName : Group
  ValueByHandle : Group
  ReleaseHandle : Group
  InfoByName : Group
  SymbolVersion : Group
  ExtendedInfoByName : Group
  SymbolUpload : Group
  UploadInfo : Group
  TypeUpload : Group
  UploadInfoWithTypes : Group
  SumRead : Group
  SumWrite : Group
  SumReadWrite : Group

-- a group's number and what it names
pub record GroupRow : Type 0 where
  pub number : ℕ
  pub group : Group

abbrev row : ℕ → Group → GroupRow
row number group = record { number = number; group = group }

-- the table, in the order of the numbers
abbrev pub group_table : List GroupRow
group_table =
    row memory_bytes (AreaBytes Memory) ∷ row memory_bit (AreaBit Memory) ∷ row memory_size (AreaSize Memory)
    ∷ row process_bytes (AreaBytes Process) ∷ row process_size (AreaSize Process)
    ∷ row handle_by_name HandleByName ∷ row value_by_name ValueByName ∷ row value_by_handle ValueByHandle
    ∷ row release_handle ReleaseHandle ∷ row info_by_name InfoByName ∷ row symbol_version SymbolVersion
    ∷ row extended_info_by_name ExtendedInfoByName ∷ row symbol_upload SymbolUpload ∷ row upload_info UploadInfo
    ∷ row type_upload TypeUpload ∷ row upload_info_with_types UploadInfoWithTypes
    ∷ row input_bytes (AreaBytes Inputs) ∷ row input_bit (AreaBit Inputs) ∷ row input_size (AreaSize Inputs)
    ∷ row output_bytes (AreaBytes Outputs) ∷ row output_bit (AreaBit Outputs) ∷ row output_size (AreaSize Outputs)
    ∷ row sum_read SumRead ∷ row sum_write SumWrite ∷ row sum_read_write SumReadWrite
    ∷ []

unfoldable pub group_in : List GroupRow → ℕ → Option Group
group_in [] number = None
group_in (r ∷ rows) number = if r.number == number then Some r.group else group_in rows number

-- what the number names
unfoldable pub group_of : ℕ → Option Group
group_of number = group_in group_table number

-- Read answers it
abbrev pub is_read : Group → Bool
is_read (AreaBytes area) = true
is_read (AreaBit area) = true
is_read (AreaSize area) = true
is_read ValueByHandle = true
is_read SymbolVersion = true
is_read SymbolUpload = true
is_read UploadInfo = true
is_read TypeUpload = true
is_read UploadInfoWithTypes = true
is_read _ = false

-- Write answers it
abbrev pub is_written : Group → Bool
is_written (AreaBytes area) = true
is_written (AreaBit area) = true
is_written ValueByHandle = true
is_written ReleaseHandle = true
is_written _ = false

-- ReadWrite answers it
abbrev pub is_read_written : Group → Bool
is_read_written HandleByName = true
is_read_written ValueByName = true
is_read_written InfoByName = true
is_read_written ExtendedInfoByName = true
is_read_written SumRead = true
is_read_written SumWrite = true
is_read_written SumReadWrite = true
is_read_written _ = false

-- bytes, a bit, or a value by handle: what Read and Write reach, and what a notification may watch
abbrev pub is_value_group : Group → Bool
is_value_group (AreaBytes area) = true
is_value_group (AreaBit area) = true
is_value_group ValueByHandle = true
is_value_group _ = false
