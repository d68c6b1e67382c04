-- An image into which bytes were put that lie apart: each stands at its place, and all else is as before.
use Rattle.std.proofs.Common.{◌≡◌, ℕ, zero, suc, ◌+◌, ◌-◌, ◌<◌, ◌≤◌, List, [], ◌∷◌, ◌++◌, length, take, drop}
use Rattle.std.proofs.Common.{true, false, refl, sym, ◌∙◌, ap, inl, inr, subst, arith}
use Rattle.std.proofs.Common.{length-append, length-drop}
use Rattle.std.proofs.lemmas.List.{length-take-le}
use Rattle.std.specs.Prelude.{Bool, ◌||◌, ◌&&◌, Some, slice_get, nat_le, nat_lt}
use Rattle.std.specs.List.{list_any}
use Rattle.std.proofs.lemmas.Bool.{cases_lt, and_from, le-leb, lt-ltb, false≢true}
use Rattle.spec_plant.specs.Description.{Area, Sizes, size_in}
use Rattle.spec_plant.specs.World.{is_same_area}
use Rattle.spec_plant.specs.Accepted.{image_size}
use Rattle.spec_plant.specs.Sound.{Each}
use Rattle.spec_plant.proofs.BlockLemmas.{same_area-refl}
use Rattle.spec_machine.specs.PortBytes.{start_in, image_byte, with_image_bytes}
use Rattle.spec_machine.proofs.ImageLemmas.{written, one_place, area_within}
use Rattle.port_device.specs.PlacedBytes.{PlacedBytes, with_all_bytes, is_put_at, FitsArea, PutNoByteTwice, ArePutApart}

-- one list of bytes in the place of as many

front : (xs ys : List ℕ) (at_ i : ℕ) → i < at_ → at_ ≤ length xs → slice_get (take at_ xs ++ ys) i ≡ slice_get xs i
front [] ys at_ i h k = absurd (omega (arith, h, k))
front (x ∷ xs) ys zero i h k = absurd (omega (arith, h))
front (x ∷ xs) ys (suc at_) zero h k = refl
front (x ∷ xs) ys (suc at_) (suc i) h k = front xs ys at_ i (omega (arith, h)) (omega (arith, k))

behind : (xs ys : List ℕ) (at_ k : ℕ) → at_ ≤ length xs → slice_get (take at_ xs ++ ys) (at_ + k) ≡ slice_get ys k
behind [] ys zero k h = let e : 0 + k ≡ k = omega arith in ap (slice_get ys) e
behind [] ys (suc at_) k h = absurd (omega (arith, h))
behind (x ∷ xs) ys zero k h = let e : 0 + k ≡ k = omega arith in ap (slice_get ys) e
behind (x ∷ xs) ys (suc at_) k h =
    let e : suc at_ + k ≡ suc (at_ + k) = omega arith in
    ap (slice_get (x ∷ (take at_ xs ++ ys))) e ∙ behind xs ys at_ k (omega (arith, h))

head : (xs ys : List ℕ) (k : ℕ) → k < length xs → slice_get (xs ++ ys) k ≡ slice_get xs k
head [] ys k h = absurd (omega (arith, h))
head (x ∷ xs) ys zero h = refl
head (x ∷ xs) ys (suc k) h = head xs ys k (omega (arith, h))

tail : (xs ys : List ℕ) (k : ℕ) → slice_get (xs ++ ys) (length xs + k) ≡ slice_get ys k
tail [] ys k = let e : 0 + k ≡ k = omega arith in ap (slice_get ys) e
tail (x ∷ xs) ys k =
    let e : length (x ∷ xs) + k ≡ suc (length xs + k) = omega arith in ap (slice_get (x ∷ (xs ++ ys))) e ∙ tail xs ys k

pub dropped : (xs : List ℕ) (n k : ℕ) → slice_get (drop n xs) k ≡ slice_get xs (n + k)
dropped [] zero k = refl
dropped [] (suc n) k = refl
dropped (x ∷ xs) zero k = let e : k ≡ 0 + k = omega arith in ap (slice_get (x ∷ xs)) e
dropped (x ∷ xs) (suc n) k = let e : suc (n + k) ≡ suc n + k = omega arith in dropped xs n k ∙ ap (slice_get (x ∷ xs)) e

pub written-length : (xs : List ℕ) (at_ : ℕ) (bytes : List ℕ) → at_ + length bytes ≤ length xs → length (written xs at_ bytes) ≡ length xs
written-length xs at_ bytes h =
    let rest : List ℕ = drop (at_ + length bytes) xs in
    omega (
      arith,
      length-append (take at_ xs) (bytes ++ rest),
      length-append bytes rest,
      length-take-le at_ xs (omega (arith, h)),
      length-drop (at_ + length bytes) xs,
    )

written-inside : (xs : List ℕ) (at_ : ℕ) (bytes : List ℕ) (k : ℕ) → at_ + length bytes ≤ length xs → k < length bytes
    → slice_get (written xs at_ bytes) (at_ + k) ≡ slice_get bytes k
written-inside xs at_ bytes k h u =
    behind xs (bytes ++ drop (at_ + length bytes) xs) at_ k (omega (arith, h)) ∙ head bytes (drop (at_ + length bytes) xs) k u

written-before : (xs : List ℕ) (at_ : ℕ) (bytes : List ℕ) (i : ℕ) → at_ + length bytes ≤ length xs → i < at_
    → slice_get (written xs at_ bytes) i ≡ slice_get xs i
written-before xs at_ bytes i h u = front xs (bytes ++ drop (at_ + length bytes) xs) at_ i u (omega (arith, h))

written-behind : (xs : List ℕ) (at_ : ℕ) (bytes : List ℕ) (i : ℕ) → at_ + length bytes ≤ length xs → at_ + length bytes ≤ i
    → slice_get (written xs at_ bytes) i ≡ slice_get xs i
written-behind xs at_ bytes i h u =
    let rest : List ℕ = drop (at_ + length bytes) xs in
    let k : ℕ = i - (at_ + length bytes) in
    let place : i ≡ at_ + (length bytes + k) = omega (arith, u) in
    let back : (at_ + length bytes) + k ≡ i = omega (arith, u) in
    ap (slice_get (written xs at_ bytes)) place ∙ behind xs (bytes ++ rest) at_ (length bytes + k) (omega (arith, h))
    ∙ tail bytes rest k ∙ dropped xs (at_ + length bytes) k ∙ ap (slice_get xs) back

-- bytes that are put into an area

-- what stands at a place that is none of theirs
put-outside : (sizes : Sizes) (image : List ℕ) (b : PlacedBytes) (area : Area) (offset : ℕ) → length image ≡ image_size sizes → FitsArea sizes b
    → offset < size_in sizes area → is_put_at area offset b ≡ false
    → image_byte sizes (with_image_bytes sizes image b.area b.offset b.bytes) area offset ≡ image_byte sizes image area offset
put-outside sizes image b area offset long fits u f =
    elim (cases_lt (start_in sizes area + offset) (start_in sizes b.area + b.offset)) [
      | inl low ↦ written-before image (start_in sizes b.area + b.offset) b.bytes (start_in sizes area + offset) room low
      | inr high ↦
          elim (cases_lt (start_in sizes area + offset) (start_in sizes b.area + b.offset + length b.bytes)) [
            | inr past ↦ written-behind image (start_in sizes b.area + b.offset) b.bytes (start_in sizes area + offset) room past
            | inl within ↦ absurd (false≢true (sym f ∙ hit high within))
          ]
    ]
  where
    room : start_in sizes b.area + b.offset + length b.bytes ≤ length image
    room = let whole = area_within sizes b.area in omega (arith, whole, long, fits)

    hit : start_in sizes b.area + b.offset ≤ start_in sizes area + offset → start_in sizes area + offset < start_in sizes b.area + b.offset + length b.bytes
        → is_put_at area offset b ≡ true
    hit low high =
        let j : ℕ = start_in sizes area + offset - start_in sizes b.area in
        let place : start_in sizes b.area + j ≡ start_in sizes area + offset = omega (arith, low) in
        let one = one_place sizes b.area area j offset (omega (arith, low, high, fits)) u place in
        let same : is_same_area b.area area ≡ true = ap (λ a. is_same_area a area) one.same_area ∙ same_area-refl area in
        let at_ = one.same_offset in
        and_from (is_same_area b.area area && nat_le b.offset offset) (nat_lt offset (b.offset + length b.bytes))
        (and_from (is_same_area b.area area) (nat_le b.offset offset) same (le-leb b.offset offset (omega (arith, low, at_))))
        (lt-ltb offset (b.offset + length b.bytes) (omega (arith, high, low, at_)))

put-inside : (sizes : Sizes) (image : List ℕ) (b : PlacedBytes) (k : ℕ) → length image ≡ image_size sizes → FitsArea sizes b → k < length b.bytes
    → image_byte sizes (with_image_bytes sizes image b.area b.offset b.bytes) b.area (b.offset + k) ≡ slice_get b.bytes k
put-inside sizes image b k long fits u =
    let whole = area_within sizes b.area in
    let place : start_in sizes b.area + (b.offset + k) ≡ start_in sizes b.area + b.offset + k = omega arith in
    ap (slice_get (with_image_bytes sizes image b.area b.offset b.bytes)) place
    ∙ written-inside image (start_in sizes b.area + b.offset) b.bytes k (omega (arith, whole, long, fits)) u

pub put-length : (sizes : Sizes) (image : List ℕ) (b : PlacedBytes) → length image ≡ image_size sizes → FitsArea sizes b
    → length (with_image_bytes sizes image b.area b.offset b.bytes) ≡ image_size sizes
put-length sizes image b long fits =
    let whole = area_within sizes b.area in
    written-length image (start_in sizes b.area + b.offset) b.bytes (omega (arith, whole, long, fits)) ∙ long

-- a byte of one list is none of those behind it
none-behind : (b : PlacedBytes) (bs : List PlacedBytes) (area : Area) (offset : ℕ) → Each (PutNoByteTwice b) bs → is_put_at area offset b ≡ true
    → list_any (is_put_at area offset) bs ≡ false
none-behind b [] area offset e t = refl
none-behind b (c ∷ bs) area offset e t = let f = e.0 area offset t in rw f (none-behind b bs area offset (e.1) t)

own-byte : (b : PlacedBytes) (k : ℕ) → k < length b.bytes → is_put_at b.area (b.offset + k) b ≡ true
own-byte b k u =
    and_from (is_same_area b.area b.area && nat_le b.offset (b.offset + k)) (nat_lt (b.offset + k) (b.offset + length b.bytes))
    (and_from (is_same_area b.area b.area) (nat_le b.offset (b.offset + k)) (same_area-refl b.area) (le-leb b.offset (b.offset + k) (omega arith)))
    (lt-ltb (b.offset + k) (b.offset + length b.bytes) (omega (arith, u)))

-- each list stands at its place, and all else is as before
pub record ArePut (sizes : Sizes) (bytes : List PlacedBytes) (old new : List ℕ) : Type 0 where
  pub long : length new ≡ length old
  pub each : (n : ℕ) (b : PlacedBytes) (k : ℕ) → slice_get bytes n ≡ Some b → k < length b.bytes
      → image_byte sizes new b.area (b.offset + k) ≡ slice_get b.bytes k
  pub rest : (area : Area) (offset : ℕ) → offset < size_in sizes area → list_any (is_put_at area offset) bytes ≡ false
      → image_byte sizes new area offset ≡ image_byte sizes old area offset

neither : (x y : Bool) → (x || y) ≡ false → (x ≡ false) × (y ≡ false)
neither true y e = absurd (false≢true (sym e))
neither false y e = (refl, e)

first_put : (sizes : Sizes) (b : PlacedBytes) (bs : List PlacedBytes) (image new : List ℕ) → length image ≡ image_size sizes → FitsArea sizes b
    → Each (PutNoByteTwice b) bs → ArePut sizes bs (with_image_bytes sizes image b.area b.offset b.bytes) new → ArePut sizes (b ∷ bs) image new
first_put sizes b bs image new long fits apart are = record {
  long = are.long ∙ put-length sizes image b long fits ∙ sym long;
  each = stands;
  rest = λ area offset u f.
      let both = neither (is_put_at area offset b) (list_any (is_put_at area offset) bs) f in
      are.rest area offset u (both.1) ∙ put-outside sizes image b area offset long fits u (both.0);
}
  where
    own : (k : ℕ) → k < length b.bytes → image_byte sizes new b.area (b.offset + k) ≡ slice_get b.bytes k
    own k u =
        are.rest b.area (b.offset + k) (omega (arith, u, fits)) (none-behind b bs b.area (b.offset + k) apart (own-byte b k u))
        ∙ put-inside sizes image b k long fits u

    stands : (n : ℕ) (c : PlacedBytes) (k : ℕ) → slice_get (b ∷ bs) n ≡ Some c → k < length c.bytes
        → image_byte sizes new c.area (c.offset + k) ≡ slice_get c.bytes k
    stands zero c k g u =
        let same : b ≡ c = cc in
        let P : PlacedBytes → Type 0 = λ x. (i : ℕ) → i < length x.bytes → image_byte sizes new x.area (x.offset + i) ≡ slice_get x.bytes i in
        subst P same own k u
    stands (suc n) c k g u = are.each n c k g u

pub all_put : (sizes : Sizes) (bytes : List PlacedBytes) (image : List ℕ) → length image ≡ image_size sizes → Each (FitsArea sizes) bytes → ArePutApart bytes
    → ArePut sizes bytes image (with_all_bytes sizes image bytes)
all_put sizes [] image long fit apart = record { long = refl; each = λ n b k g u. cc; rest = λ area offset u f. refl }
all_put sizes (b ∷ bs) image long fit apart =
    first_put sizes b bs image (with_all_bytes sizes (with_image_bytes sizes image b.area b.offset b.bytes) bs) long (fit.0) (apart.0)
    (all_put sizes bs (with_image_bytes sizes image b.area b.offset b.bytes) (put-length sizes image b long (fit.0)) (fit.1) (apart.1))
