-- The calls of the client, and the requests that they are made of. Beckhoff Information System, "ADS Commands".
use Rattle.std.specs.Prelude.{ℕ, ◌≤◌, List, [], ◌∷◌, length}
use Rattle.std.specs.Int.{w32, to_le_bytes}
use Rattle.spec_formats.specs.Groups.{handle_by_name, value_by_name, value_by_handle, release_handle}
use Rattle.spec_formats.specs.Groups.{extended_info_by_name, symbol_upload, upload_info, type_upload}
use Rattle.spec_formats.specs.Groups.{upload_info_with_types}
use Rattle.spec_formats.specs.Request.{Request, Read, Write, ReadWrite, AddDeviceNotification}
use Rattle.spec_formats.specs.SymbolEntry.{SymbolEntry}

-- the transmission modes that a call asks for: at each cycle, and on a change
abbrev pub SERVER_CYCLE : ℕ
SERVER_CYCLE = 3

abbrev pub SERVER_ON_CHANGE : ℕ
SERVER_ON_CHANGE = 4

-- a notification's transmission mode and its cycle in 100 ns, and how many samples are taken
pub record Watching : Type 0 where
  pub mode : ℕ
  pub cycle : ℕ
  pub count : ℕ

pub data Call : Type 0 where
  Info : Call
  State : Call
  Control : (ads device : ℕ) → Call
  Get : (name : List ℕ) → Call
  Set : (name text : List ℕ) → Call
  Symbols : Call
  Watch : (name : List ℕ) → Watching → Call
  Show : (name : List ℕ) → Call
  -- the rows have the numbers from a first one on
  Record : (names : List (List ℕ)) → Watching → (first : ℕ) → Call

-- This project's own choice: the greatest read length of an entry, and the greatest size of a symbol.
abbrev pub ENTRY_LEN : ℕ
ENTRY_LEN = 65536

abbrev pub MAX_SIZE : ℕ
MAX_SIZE = 1048576

-- the greatest length of a text of a call
abbrev pub MAX_TEXT : ℕ
MAX_TEXT = 65536

abbrev pub AreShort : List (List ℕ) → Type 0
AreShort [] = Unit {0}
AreShort (name ∷ names) = (length name ≤ MAX_TEXT) × AreShort names

abbrev pub entry_request : List ℕ → Request
entry_request name = ReadWrite extended_info_by_name 0 ENTRY_LEN name

abbrev pub value_request : List ℕ → ℕ → Request
value_request name size = ReadWrite value_by_name 0 size name

abbrev pub handle_request : List ℕ → Request
handle_request name = ReadWrite handle_by_name 0 4 name

abbrev pub write_request : ℕ → List ℕ → Request
write_request handle bytes = Write value_by_handle handle bytes

abbrev pub release_request : ℕ → Request
release_request handle = Write release_handle 0 (to_le_bytes w32 handle)

abbrev pub upload_info_request : Request
upload_info_request = Read upload_info 0 8

abbrev pub upload_request : ℕ → Request
upload_request size = Read symbol_upload 0 size

abbrev pub type_info_request : Request
type_info_request = Read upload_info_with_types 0 24

abbrev pub type_upload_request : ℕ → Request
type_upload_request size = Read type_upload 0 size

-- all of the symbol, without a delay
abbrev pub addition_request : SymbolEntry → Watching → Request
addition_request e w = AddDeviceNotification e.group e.offset e.size w.mode 0 w.cycle
