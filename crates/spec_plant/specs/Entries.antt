-- Type ids, and the lengths of symbol entries and of a port's upload. Topic: upload of symbols, index group 0xF00B.
use Rattle.std.specs.Prelude.{ℕ, ◌+◌, List, length, sum_by}
use Rattle.spec_plant.specs.Plain.{kind_id}
use Rattle.spec_plant.specs.Listed.{NamedType}
use Rattle.spec_plant.specs.Trees.{TypeTree, PlainTree, TextTree, EnumTree, ArrayTree, StructTree, tree_of}
use Rattle.spec_plant.specs.Spelling.{type_text}
use Rattle.spec_plant.specs.Description.{Symbol}

-- That each array and each structure has the id 65 is this project's own choice.
abbrev pub type_id : TypeTree → ℕ
type_id (PlainTree kind) = kind_id kind
type_id (TextTree n) = 30
type_id (EnumTree name base) = kind_id base
type_id (ArrayTree bounds element) = 65
type_id (StructTree name members) = 65

-- entry length 4, group 4, offset 4, size 4, type id 4, flags 4, three text lengths of 2; then name, type and comment,
-- each with a NUL behind it
abbrev pub entry_length : List ℕ → TypeTree → List ℕ → ℕ
entry_length name type comment = 33 + length name + length (type_text type) + length comment

-- the entry length of a symbol, where these are the types of its description
abbrev pub symbol_entry_length : List NamedType → Symbol → ℕ
symbol_entry_length types s = entry_length s.name (tree_of types s.shape) s.comment

-- the bytes of the upload of these symbols
abbrev pub upload_size : List NamedType → List Symbol → ℕ
upload_size types symbols = sum_by (symbol_entry_length types) symbols
