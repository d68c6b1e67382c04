-- For private contracts, and cited by no public clause: bytes that are put into an image one list after another.
use Rattle.std.specs.Prelude.{◌≡◌, ℕ, ◌+◌, ◌≤◌, List, [], ◌∷◌, length, Bool, true, false}
use Rattle.spec_plant.specs.Description.{Area, Sizes, size_in}
use Rattle.spec_plant.specs.Covering.{is_byte_of}
use Rattle.spec_plant.specs.Sound.{Each}
use Rattle.spec_machine.specs.PortBytes.{with_image_bytes}
use Rattle.symbol_table.specs.Tables.{TableSymbol}

-- bytes for an area, from an offset on
pub record PlacedBytes : Type 0 where
  pub area : Area
  pub offset : ℕ
  pub bytes : List ℕ

-- bytes of a symbol of a table, at its place
abbrev pub placed_symbol : (TableSymbol → List ℕ) → TableSymbol → PlacedBytes
placed_symbol f s = record { area = s.area; offset = s.offset; bytes = f s }

-- an image after all of them were put
abbrev pub with_all_bytes : Sizes → List ℕ → List PlacedBytes → List ℕ
with_all_bytes sizes image [] = image
with_all_bytes sizes image (b ∷ bs) = with_all_bytes sizes (with_image_bytes sizes image b.area b.offset b.bytes) bs

-- whether one of them is put at a byte of an area
abbrev pub is_put_at : Area → ℕ → PlacedBytes → Bool
is_put_at area offset b = is_byte_of b.area b.offset (length b.bytes) area offset

-- they lie in their area
abbrev pub FitsArea : Sizes → PlacedBytes → Type 0
FitsArea sizes b = b.offset + length b.bytes ≤ size_in sizes b.area

-- no byte is put by both
abbrev pub PutNoByteTwice : PlacedBytes → PlacedBytes → Type 0
PutNoByteTwice a b = (area : Area) (offset : ℕ) → is_put_at area offset a ≡ true → is_put_at area offset b ≡ false

-- no byte is put by two of them
abbrev pub ArePutApart : List PlacedBytes → Type 0
ArePutApart [] = Unit {0}
ArePutApart (b ∷ bs) = Each (PutNoByteTwice b) bs × ArePutApart bs
