-- What the owner of a raw block holds, and what a reference to it lends. No public clause cites this.
use Rattle.std.specs.Prelude.{ℕ, ◌+◌, ◌^◌, List, length}
use base.Fml.{Lft, Fml, ffalse, fsep, flt, froom}
use mir.Syntax.{Ty, ty_array, ty_int, w8}
use mir.Raw.{raw}
use denote.Builtin.{u8}
use denote.Memory.{mem}
use denote.RawPtr.{Ptr, block_ptr, null_ptr}
use denote.Sharing.{said, beside}
use denote.Slice.{elements_shared}
use types.SemTy.{cells}

-- n bytes, as the machine lays them out
abbrev pub bytes_type : ℕ → Ty
bytes_type n = ty_array (ty_int w8) n

-- bytes and room together are less than half of the address space
abbrev pub fit : List ℕ → ℕ → Fml
fit bytes room = flt (length bytes + room) (2 ^ 63)

-- the bytes from the place on, and behind them room for more
abbrev pub block_owned : Ptr → List ℕ → ℕ → Fml
block_owned (block_ptr b o) bytes room =
    fsep (fit bytes room) (fsep (cells (mem u8) bytes b o) (froom (bytes_type room) b (length bytes + o)))
block_owned null_ptr bytes room = ffalse

-- the bytes, for reading
abbrev pub block_lent : Ptr → List ℕ → ℕ → Lft → Fml
block_lent (block_ptr b o) bytes room = beside (said (fit bytes room)) (elements_shared u8 bytes b o)
block_lent null_ptr bytes room = said ffalse

-- the allocator's token for a block of n bytes
abbrev pub deed_owned : (Ty → Ptr → Fml) → Ptr → ℕ → Fml
deed_owned token p n = token (raw (bytes_type n)) p
