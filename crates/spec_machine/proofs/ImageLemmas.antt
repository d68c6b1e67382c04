-- Bytes of an image that are written one behind another, and which place of an image is which byte of an area.
use Rattle.std.proofs.Common.{◌≡◌, ℕ, zero, suc, ◌+◌, ◌<◌, ◌≤◌, List, [], ◌∷◌, ◌++◌, length, take, drop, refl, sym, ◌∙◌, ap, arith}
use Rattle.std.proofs.lemmas.List.{take-append-drop}
use Rattle.spec_plant.specs.Description.{Area, Inputs, Outputs, Memory, Process, Sizes, size_in}
use Rattle.spec_plant.specs.World.{with_nth_byte}
use Rattle.spec_plant.specs.Accepted.{image_size}
use Rattle.spec_machine.specs.AreaNames.{IsOneByte}
use Rattle.spec_machine.specs.PortBytes.{start_in}

-- bytes in the place of as many, from `at_` on
abbrev pub written : List ℕ → ℕ → List ℕ → List ℕ
written xs at_ bytes = take at_ xs ++ (bytes ++ drop (at_ + length bytes) xs)

pub written-nothing : (xs : List ℕ) (at_ : ℕ) → written xs at_ [] ≡ xs
written-nothing xs at_ = let e : at_ + 0 ≡ at_ = omega arith in ap (λ n. take at_ xs ++ drop n xs) e ∙ take-append-drop at_ xs

pub written-first : (xs : List ℕ) (at_ b : ℕ) (bs : List ℕ) → at_ + suc (length bs) ≤ length xs
    → written xs at_ (b ∷ bs) ≡ written (with_nth_byte xs at_ (λ old. b)) (at_ + 1) bs
written-first [] at_ b bs h = absurd (omega (arith, h))
written-first (x ∷ xs) zero b bs h =
    let e : 0 + suc (length bs) ≡ suc (length bs) = omega arith in
    let f : 1 + length bs ≡ suc (length bs) = omega arith in
    ap (λ n. b ∷ (bs ++ drop n (x ∷ xs))) e ∙ sym (ap (λ n. b ∷ (bs ++ drop n (b ∷ xs))) f)
written-first (x ∷ xs) (suc i) b bs h =
    let e : suc i + suc (length bs) ≡ suc (i + suc (length bs)) = omega arith in
    let f : suc i + 1 ≡ suc (i + 1) = omega arith in
    let g : suc (i + 1) + length bs ≡ suc ((i + 1) + length bs) = omega arith in
    let left = ap (λ n. x ∷ (take i xs ++ (b ∷ (bs ++ drop n (x ∷ xs))))) e in
    let changed : List ℕ = with_nth_byte xs i (λ old. b) in
    let right = ap (λ n. written (x ∷ changed) n bs) f ∙ ap (λ n. x ∷ (take (i + 1) changed ++ (bs ++ drop n (x ∷ changed)))) g in
    left ∙ ap (λ ys. x ∷ ys) (written-first xs i b bs (omega (arith, h))) ∙ sym right

-- a place of an image is that of one byte of one area
pub one_place : (sizes : Sizes) (a b : Area) (i j : ℕ) → i < size_in sizes a → j < size_in sizes b → start_in sizes a + i ≡ start_in sizes b + j
    → IsOneByte a b i j
one_place sizes Inputs Inputs i j h k e = record { same_area = refl; same_offset = omega (arith, e) }
one_place sizes Inputs Outputs i j h k e = absurd (omega (arith, h, k, e))
one_place sizes Inputs Memory i j h k e = absurd (omega (arith, h, k, e))
one_place sizes Inputs Process i j h k e = absurd (omega (arith, h, k, e))
one_place sizes Outputs Inputs i j h k e = absurd (omega (arith, h, k, e))
one_place sizes Outputs Outputs i j h k e = record { same_area = refl; same_offset = omega (arith, e) }
one_place sizes Outputs Memory i j h k e = absurd (omega (arith, h, k, e))
one_place sizes Outputs Process i j h k e = absurd (omega (arith, h, k, e))
one_place sizes Memory Inputs i j h k e = absurd (omega (arith, h, k, e))
one_place sizes Memory Outputs i j h k e = absurd (omega (arith, h, k, e))
one_place sizes Memory Memory i j h k e = record { same_area = refl; same_offset = omega (arith, e) }
one_place sizes Memory Process i j h k e = absurd (omega (arith, h, k, e))
one_place sizes Process Inputs i j h k e = absurd (omega (arith, h, k, e))
one_place sizes Process Outputs i j h k e = absurd (omega (arith, h, k, e))
one_place sizes Process Memory i j h k e = absurd (omega (arith, h, k, e))
one_place sizes Process Process i j h k e = record { same_area = refl; same_offset = omega (arith, e) }

-- an area lies within the image
pub area_within : (sizes : Sizes) (a : Area) → start_in sizes a + size_in sizes a ≤ image_size sizes
area_within sizes Inputs = omega arith
area_within sizes Outputs = omega arith
area_within sizes Memory = omega arith
area_within sizes Process = omega arith

pub same_place : (sizes : Sizes) (a b : Area) (i j : ℕ) → IsOneByte a b i j → start_in sizes a + i ≡ start_in sizes b + j
same_place sizes a b i j one = ap (λ c. start_in sizes c + i) one.same_area ∙ ap (λ k. start_in sizes b + k) one.same_offset
