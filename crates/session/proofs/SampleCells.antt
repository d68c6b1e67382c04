-- A sample of four bytes and one of two, byte by byte.
use Rattle.std.proofs.Common.{◌≡◌, ℕ, List, [], ◌∷◌, ◌++◌, length, get_or, refl, arith}
use Rattle.std.specs.Int.{w32, to_le_bytes}
use Rattle.spec_formats.specs.Notification.{sample_bytes}
use Rattle.session.specs.NoteGroups.{sample}

pub sample_cells : (head bytes : List ℕ) (handle : ℕ) → head ≡ to_le_bytes w32 handle ++ to_le_bytes w32 4 → length bytes ≡ 4
    → get_or head 0 0 ∷ get_or head 1 0 ∷ get_or head 2 0 ∷ get_or head 3 0 ∷ get_or head 4 0 ∷ get_or head 5 0 ∷ get_or head 6 0 ∷ get_or head 7 0
    ∷ get_or bytes 0 0 ∷ get_or bytes 1 0 ∷ get_or bytes 2 0 ∷ get_or bytes 3 0 ∷ []
    ≡ sample_bytes (sample handle bytes)
sample_cells head (a ∷ b ∷ c ∷ d ∷ []) handle is four = rw is refl
sample_cells head [] handle is four = absurd (omega (arith, four))
sample_cells head (a ∷ []) handle is four = absurd (omega (arith, four))
sample_cells head (a ∷ b ∷ []) handle is four = absurd (omega (arith, four))
sample_cells head (a ∷ b ∷ c ∷ []) handle is four = absurd (omega (arith, four))
sample_cells head (a ∷ b ∷ c ∷ d ∷ e ∷ rest) handle is four = absurd (omega (arith, four))

pub sample_cells_of_two : (head bytes : List ℕ) (handle : ℕ) → head ≡ to_le_bytes w32 handle ++ to_le_bytes w32 2 → length bytes ≡ 2
    → get_or head 0 0 ∷ get_or head 1 0 ∷ get_or head 2 0 ∷ get_or head 3 0 ∷ get_or head 4 0 ∷ get_or head 5 0 ∷ get_or head 6 0 ∷ get_or head 7 0
    ∷ get_or bytes 0 0 ∷ get_or bytes 1 0 ∷ []
    ≡ sample_bytes (sample handle bytes)
sample_cells_of_two head (a ∷ b ∷ []) handle is two = rw is refl
sample_cells_of_two head [] handle is two = absurd (omega (arith, two))
sample_cells_of_two head (a ∷ []) handle is two = absurd (omega (arith, two))
sample_cells_of_two head (a ∷ b ∷ c ∷ rest) handle is two = absurd (omega (arith, two))
