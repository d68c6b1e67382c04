-- A reference to a block is made where one to each of its bytes is, and what it holds names no thread. Assumes `Logic`.
use Rattle.std.specs.Prelude.{ℕ, ◌+◌, List, [], ◌∷◌, length, refl}
use seplogic.Ra.Ura.{Ura}
use base.Fraction.{full_share}
use base.Fml.{Lft, Incl, ftrue, ffalse, fsep, froom}
use base.Shift.{Keyless}
use types.Logic.{Logic}
use types.SemTy.{cells}
use denote.Builtin.{u8}
use denote.Memory.{mem, part_at, shared_of}
use denote.Param.Laws.{Laws, of_field}
use denote.Param.Send.{IsSend, IsSync, Common, part_keyless, sendable}
use denote.Param.Shared.{copy_shared}
use denote.Plain.{uint_row_laws}
use denote.RawPtr.{Ptr, block_ptr, null_ptr}
use denote.Shares.{Shares-less}
use denote.Sharing.{ShrLaws, said}
use denote.SharingLaws.{beside_shr_laws, said_shr_laws}
use denote.Slice.{elements_shared, elements_shr_laws}
use denote.Struct.Field.{u8-field}
use denote.Struct.Laws.{u8-laws, u8-copy}
use denote.Struct.Lending.{Lends, Lends-both, Lends-first, Lends-nothing, Lends-said, Lends-false}
use mir.Syntax.{w8}
use Rattle.process_image.specs.Ownership.{fit, bytes_type, block_owned, block_lent}

pub byte_laws : Laws u8
byte_laws = of_field u8-field u8-laws refl (copy_shared u8-field u8-copy)

pub block_lent-laws : (p : Ptr) (bytes : List ℕ) (room : ℕ) → ShrLaws (block_lent p bytes room)
block_lent-laws (block_ptr b o) bytes room = beside_shr_laws _ _ (said_shr_laws (fit bytes room) tt) (elements_shr_laws u8 (uint_row_laws w8) bytes b o)
block_lent-laws null_ptr bytes room = said_shr_laws ffalse tt

module _ {M : Type 1} {𝓤 : Ura M} (𝓛 : Logic 𝓤) (l : Lft) (inc : Incl l []) where
  Lends-bytes : (b o : ℕ) (bytes : List ℕ) → Lends 𝓛 (cells (mem u8) bytes b o) (elements_shared u8 bytes b o) l
  Lends-bytes b o [] = Lends-nothing 𝓛 ftrue l
  Lends-bytes b o (x ∷ xs) =
      Lends-both 𝓛 (part_at u8 full_share x b o) (cells (mem u8) xs b (o + 1)) (shared_of u8 x b o) (elements_shared u8 xs b (o + 1)) l
      (λ κ ts. Shares-less 𝓛 u8 [] l inc (byte_laws.shares 𝓛) x κ ts b o) (Lends-bytes b (o + 1) xs)

  pub Lends-block : (p : Ptr) (bytes : List ℕ) (room : ℕ) → Lends 𝓛 (block_owned p bytes room) (block_lent p bytes room) l
  Lends-block (block_ptr b o) bytes room =
      Lends-both 𝓛 (fit bytes room) (fsep (cells (mem u8) bytes b o) (froom (bytes_type room) b (length bytes + o)))
      (said (fit bytes room)) (elements_shared u8 bytes b o) l
      (Lends-said 𝓛 (fit bytes room) tt l)
      (Lends-first 𝓛 (cells (mem u8) bytes b o) (froom (bytes_type room) b (length bytes + o)) (elements_shared u8 bytes b o) l (Lends-bytes b o bytes))
  Lends-block null_ptr bytes room = Lends-false 𝓛 (said ffalse) l

byte-send : IsSend u8
byte-send = search sendable

byte-sync : IsSync u8
byte-sync = search sendable

cells-keyless : (b o : ℕ) (bytes : List ℕ) → Keyless (cells (mem u8) bytes b o)
cells-keyless b o [] = tt
cells-keyless b o (x ∷ xs) = (part_keyless u8 byte-send full_share x b o, cells-keyless b (o + 1) xs)

pub block_owned-keyless : (p : Ptr) (bytes : List ℕ) (room : ℕ) → Keyless (block_owned p bytes room)
block_owned-keyless (block_ptr b o) bytes room = (tt, (cells-keyless b o bytes, tt))
block_owned-keyless null_ptr bytes room = tt

bytes-common : (b o : ℕ) (bytes : List ℕ) → Common (elements_shared u8 bytes b o)
bytes-common b o [] κ = tt
bytes-common b o (x ∷ xs) κ = (byte-sync.shared x b o κ, bytes-common b (o + 1) xs κ)

pub block_lent-common : (p : Ptr) (bytes : List ℕ) (room : ℕ) → Common (block_lent p bytes room)
block_lent-common (block_ptr b o) bytes room κ = (tt, bytes-common b o bytes κ)
block_lent-common null_ptr bytes room κ = tt
