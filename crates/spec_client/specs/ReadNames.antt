-- One sum command that reads several symbols by their handles. Beckhoff Information System, "ADS-sum command: Read".
use Rattle.std.specs.Prelude.{ℕ, ◌+◌, ◌*◌, List, [], ◌∷◌, ◌++◌, length, sum}
use Rattle.spec_formats.specs.Groups.{value_by_handle, sum_read}
use Rattle.spec_formats.specs.Request.{Request, ReadWrite, access_bytes}

-- group 4, handle 4, length 4 a part
unfoldable pub handle_parts : List ℕ → List ℕ → List ℕ
handle_parts [] sizes = []
handle_parts (h ∷ hs) [] = []
handle_parts (h ∷ hs) (size ∷ sizes) = access_bytes value_by_handle h size ++ handle_parts hs sizes

-- the reply has a result of 4 bytes a part, and then the bytes of all parts
abbrev pub read_names_request : List ℕ → List ℕ → Request
read_names_request handles sizes =
    ReadWrite sum_read (length handles) (4 * length handles + sum sizes) (handle_parts handles sizes)
