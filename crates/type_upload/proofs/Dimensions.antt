-- Dimensions, read one after another.
use Rattle.std.proofs.Common.{◌≡◌, ℕ, zero, suc, ◌+◌, ◌-◌, ◌*◌, ◌^◌, ◌<◌, ◌≤◌, List, [], ◌∷◌, ◌++◌, length}
use Rattle.std.proofs.Common.{drop, refl, sym, ap, subst, ◌∙◌, append_assoc, arith}
use Rattle.std.specs.Int.{w32, to_le_bytes}
use Rattle.std.specs.List.{flat_map, AllByRecursion}
use Rattle.std.proofs.lemmas.List.{length-drop, drop-drop}
use Rattle.std.proofs.lemmas.Nat.{from_le_bytes-to_le_bytes_4}
use Rattle.spec_formats.specs.Numbers.{AreBytes, number32}
use Rattle.spec_formats.specs.TypeEntry.{Dimension, dimension_bytes}
use Rattle.spec_formats.specs.TypeEntryReading.{dimensions_in}
use Rattle.spec_formats.proofs.Fields.{AreBytes-drop, number32-front, number32-lt, next32}

abbrev dimension_at : List ℕ → Dimension
dimension_at bytes = record { low = number32 0 bytes; count = number32 4 bytes }

pub length-dimensions_in : (n : ℕ) (bytes : List ℕ) → length (dimensions_in n bytes) ≡ n
length-dimensions_in zero bytes = refl
length-dimensions_in (suc n) bytes = ap suc (length-dimensions_in n (drop 8 bytes))

first_dimension : (bytes : List ℕ) → AreBytes bytes → 8 ≤ length bytes → dimension_bytes (dimension_at bytes) ++ drop 8 bytes ≡ bytes
first_dimension bytes h long =
    next32 (to_le_bytes w32 (number32 0 bytes)) 4 bytes h long (number32-front 0 bytes h (omega arith))

pub dimensions-front : (n size : ℕ) (bytes : List ℕ) → size ≡ 8 * n → AreBytes bytes → size ≤ length bytes
    → flat_map dimension_bytes (dimensions_in n bytes) ++ drop size bytes ≡ bytes
dimensions-front zero size bytes e h long =
    let none : size ≡ 0 = omega arith in subst (λ (k : ℕ). drop k bytes ≡ bytes) (sym none) refl
dimensions-front (suc n) size bytes e h long =
    let first = dimension_bytes (dimension_at bytes) in
    let others = flat_map dimension_bytes (dimensions_in n (drop 8 bytes)) in
    let behind : others ++ drop (size - 8) (drop 8 bytes) ≡ drop 8 bytes =
    dimensions-front n (size - 8) (drop 8 bytes) (omega arith) (AreBytes-drop 8 bytes h) (omega (arith, length-drop 8 bytes)) in
    let end : 8 + (size - 8) ≡ size = omega arith in
    let last : drop (size - 8) (drop 8 bytes) ≡ drop size bytes = drop-drop (size - 8) 8 bytes ∙ ap (λ (k : ℕ). drop k bytes) end in
    append_assoc first others (drop size bytes)
    ∙ (ap (λ (l : List ℕ). first ++ (others ++ l)) (sym last)
    ∙ (ap (λ (l : List ℕ). first ++ l) behind ∙ first_dimension bytes h (omega arith)))

pub dimensions_fit : (n : ℕ) (bytes : List ℕ) → AreBytes bytes
    → AllByRecursion (λ (d : Dimension). (d.low < 2 ^ 32) × (d.count < 2 ^ 32)) (dimensions_in n bytes)
dimensions_fit zero bytes h = tt
dimensions_fit (suc n) bytes h =
    ((number32-lt 0 bytes h, number32-lt 4 bytes h), dimensions_fit n (drop 8 bytes) (AreBytes-drop 8 bytes h))

pub length-dimensions : (ds : List Dimension) → length (flat_map dimension_bytes ds) ≡ 8 * length ds
length-dimensions [] = refl
length-dimensions (d ∷ ds) = let others = length-dimensions ds in omega arith

-- ---- the text of dimensions is read as these dimensions

first_read : (d : Dimension) (rest : List ℕ) → (d.low < 2 ^ 32) × (d.count < 2 ^ 32) → dimension_at (dimension_bytes d ++ rest) ≡ d
first_read d rest fits =
    let low : number32 0 (dimension_bytes d ++ rest) ≡ d.low = from_le_bytes-to_le_bytes_4 d.low fits.0 in
    let count : number32 4 (dimension_bytes d ++ rest) ≡ d.count = from_le_bytes-to_le_bytes_4 d.count fits.1 in
    rw (low, count) refl

pub dimensions_read : (ds : List Dimension) (behind : List ℕ) → AllByRecursion (λ (d : Dimension). (d.low < 2 ^ 32) × (d.count < 2 ^ 32)) ds
    → dimensions_in (length ds) (flat_map dimension_bytes ds ++ behind) ≡ ds
dimensions_read [] behind fits = refl
dimensions_read (d ∷ ds) behind fits =
    let rest = flat_map dimension_bytes ds ++ behind in
    let first = first_read d rest fits.0 in
    let others : dimensions_in (length ds) rest ≡ ds = dimensions_read ds behind fits.1 in
    ap (λ (l : List ℕ). dimensions_in (suc (length ds)) l) (append_assoc (dimension_bytes d) (flat_map dimension_bytes ds) behind)
    ∙ (ap (λ (x : Dimension). x ∷ dimensions_in (length ds) rest) first ∙ ap (λ (l : List Dimension). d ∷ l) others)
