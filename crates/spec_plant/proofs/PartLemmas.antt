-- A part lies within its type; the place of an element is below the number of elements.
use Rattle.std.proofs.Common.{◌≡◌, ◌≢◌, ℕ, suc, ◌+◌, ◌*◌, ◌<◌, ◌≤◌, List, [], ◌∷◌, length, refl, sym, ◌∙◌, ap, subst, arith, inl, inr}
use Rattle.std.specs.Prelude.{Option, Some, None, option_map, option_and_then, nat_lt, bytes_eq, ℤ, pos, negsuc, ◌-ℤ◌}
use Rattle.std.proofs.lemmas.Bool.{cases_Bool, ltb-true}
use Rattle.std.proofs.Math.Nat.{mul_assoc}
use Rattle.std.proofs.lemmas.Nat.{mul-le}
use Rattle.name_paths.specs.Identifier.{lower}
use Rattle.name_paths.specs.Path.{Step, name_step, index_step}
use Rattle.spec_plant.specs.Listed.{Bound}
use Rattle.spec_plant.specs.Trees.{TypeTree, PlainTree, TextTree, EnumTree, ArrayTree, StructTree, MemberTrees, NoMember, MemberTree}
use Rattle.spec_plant.specs.Sizes.{element_count, type_size, members_end, member_start}
use Rattle.spec_plant.specs.Parts.{TypePart, MemberPart, below, within, element_from, element_of, member_from, member_of, part_of, part_behind, within_part}
use Rattle.spec_plant.proofs.SizeLemmas.{members_end-le}

below-lt : (count : ℕ) (z : ℤ) (k : ℕ) → below count z ≡ Some k → k < count
below-lt count (pos n) k e =
    elim (cases_Bool (nat_lt n count)) [
      | inl t ↦
          let f : Some n ≡ Some k = rw t at e in
          let less = ltb-true n count t in
          let same : n ≡ k = cc in
          omega (arith, less, same)
      | inr t ↦ let f = rw t at e in cc
    ]
below-lt count (negsuc n) k e = cc

-- an index within a bound is below its count
pub within-lt : (b : Bound) (i : ℤ) (k : ℕ) → within b i ≡ Some k → k < b.count
within-lt b i k e = below-lt b.count (i -ℤ b.low) k e

-- the elements before come first
pub element_from-before : (n : ℕ) (bs : List Bound) (indexes : List ℤ)
    → element_from n bs indexes ≡ option_map (λ r. n * element_count bs + r) (element_from 0 bs indexes)
element_from-before n [] [] = ap Some (omega arith)
element_from-before n [] (i ∷ others) = refl
element_from-before n (b ∷ bs) [] = refl
element_from-before n (b ∷ bs) (i ∷ others) = go (within b i) (λ m. element_from-before m bs others)
  where
    E : ℕ
    E = element_count bs

    deeper : (k : ℕ) (o : Option ℕ)
        → option_map (λ r. (n * b.count + k) * E + r) o ≡ option_map (λ r. n * (b.count * E) + r) (option_map (λ r. (0 * b.count + k) * E + r) o)
    deeper k None = refl
    deeper k (Some r) = ap Some (products n b.count k E r)
      where
        products : (n c k e r : ℕ) → (n * c + k) * e + r ≡ n * (c * e) + ((0 * c + k) * e + r)
        products n c k e r = grind arith

    go : (o : Option ℕ) → ((m : ℕ) → element_from m bs others ≡ option_map (λ r. m * E + r) (element_from 0 bs others))
        → option_and_then (λ k. element_from (n * b.count + k) bs others) o ≡ option_map
        (λ r. n * (b.count * E) + r) (option_and_then (λ k. element_from (0 * b.count + k) bs others) o)
    go None rest = refl
    go (Some k) rest =
        let left = rest (n * b.count + k) in
        let right = rest (0 * b.count + k) in
        left ∙ deeper k (element_from 0 bs others) ∙ ap (option_map (λ r. n * (b.count * E) + r)) (sym right)

element_from-le : (n : ℕ) (bs : List Bound) (indexes : List ℤ) (e : ℕ) → element_from n bs indexes ≡ Some e → e + 1 ≤ (n + 1) * element_count bs
element_from-le n [] [] e h = let q : n ≡ e = cc in omega (arith, q)
element_from-le n [] (i ∷ others) e h = cc
element_from-le n (b ∷ bs) [] e h = cc
element_from-le n (b ∷ bs) (i ∷ others) e h = go (within b i) refl h (λ m f. element_from-le m bs others e f)
  where
    products : (n c o k e : ℕ) → o < c → e ≤ (n * c + o + 1) * k → e ≤ (n + 1) * (c * k)
    products n c o k e l r =
        let m : n * c + o + 1 ≤ (n + 1) * c = omega (arith, l) in
        let q = mul-le (n * c + o + 1) k ((n + 1) * c) k m (omega arith) in
        let a = mul_assoc (n + 1) c k in
        omega (arith, r, q, a)

    go : (o : Option ℕ) → within b i ≡ o → option_and_then (λ k. element_from (n * b.count + k) bs others) o ≡ Some e
        → ((m : ℕ) → element_from m bs others ≡ Some e → e + 1 ≤ (m + 1) * element_count bs)
        → e + 1 ≤ (n + 1) * (b.count * element_count bs)
    go None q f rest = cc
    go (Some k) q f rest = products n b.count k (element_count bs) (e + 1) (within-lt b i k q) (rest (n * b.count + k) f)

-- the place of an element is below their number
pub element_from-lt : (bs : List Bound) (indexes : List ℤ) (e : ℕ) → element_from 0 bs indexes ≡ Some e → e < element_count bs
element_from-lt bs indexes e h = let most = element_from-le 0 bs indexes e h in omega (arith, most)

member_from-end : (at : ℕ) (ms : MemberTrees) (name : List ℕ) (m : MemberPart)
    → member_from at ms name ≡ Some m → m.first + type_size m.type ≤ members_end at ms
unfolding members_end
member_from-end at NoMember name m e = cc
member_from-end at (MemberTree n type comment ms) name m e =
    let next = member_start at type + type_size type in
    let here : MemberPart = record { name = n; first = member_start at type; type = type; comment = comment } in
    elim (cases_Bool (bytes_eq (lower n) (lower name))) [
      | inl t ↦
          let f : Some here ≡ Some m = rw t at e in
          let same : here ≡ m = cc in
          let rise = members_end-le next ms in
          let P : MemberPart → Type 0 = λ y. y.first + type_size y.type ≤ members_end next ms in
          subst P same (omega (arith, rise))
      | inr t ↦ let f : member_from next ms name ≡ Some m = rw t at e in member_from-end next ms name m f
    ]

-- a member ends where its structure ends, or before
pub member_of-end : (t : TypeTree) (name : List ℕ) (m : MemberPart) → member_of t name ≡ Some m → m.first + type_size m.type ≤ type_size t
unfolding type_size
member_of-end (StructTree n ms) name m e = let most = member_from-end 0 ms name m e in omega (arith, most)
member_of-end (PlainTree k) name m e = cc
member_of-end (TextTree n) name m e = cc
member_of-end (EnumTree n k) name m e = cc
member_of-end (ArrayTree bs t) name m e = cc

-- an element ends where its array ends, or before
pub element_of-end : (t : TypeTree) (indexes : List ℤ) (p : TypePart) → element_of t indexes ≡ Some p → p.first + type_size p.type ≤ type_size t
unfolding type_size
element_of-end (ArrayTree bs t) indexes p e = go (element_from 0 bs indexes) refl e
  where
    here : ℕ → TypePart
    here n = record { first = n * type_size t; type = t }

    fits : (n : ℕ) → n < element_count bs → n * type_size t + type_size t ≤ element_count bs * type_size t
    fits n l = let most = mul-le (n + 1) (type_size t) (element_count bs) (type_size t) (omega (arith, l)) (omega arith) in omega (arith, most)

    go : (o : Option ℕ) → element_from 0 bs indexes ≡ o → option_map here o ≡ Some p → p.first + type_size p.type ≤ element_count bs * type_size t
    go None q f = cc
    go (Some n) q f =
        let same : here n ≡ p = cc in
        let P : TypePart → Type 0 = λ y. y.first + type_size y.type ≤ element_count bs * type_size t in
        subst P same (fits n (element_from-lt bs indexes n q))
element_of-end (PlainTree k) indexes p e = cc
element_of-end (TextTree n) indexes p e = cc
element_of-end (EnumTree n k) indexes p e = cc
element_of-end (StructTree n ms) indexes p e = cc

-- a part ends where its type ends, or before
pub part_of-end : (t : TypeTree) (step : Step) (p : TypePart) → part_of t step ≡ Some p → p.first + type_size p.type ≤ type_size t
part_of-end t (index_step indexes) p e = element_of-end t indexes p e
part_of-end t (name_step name) p e = go (member_of t name) refl e
  where
    part : MemberPart → TypePart
    part m = record { first = m.first; type = m.type }

    go : (o : Option MemberPart) → member_of t name ≡ o → option_map part o ≡ Some p → p.first + type_size p.type ≤ type_size t
    go None q f = cc
    go (Some m) q f =
        let same : part m ≡ p = cc in
        let P : TypePart → Type 0 = λ y. y.first + type_size y.type ≤ type_size t in
        subst P same (member_of-end t name m q)

-- where steps lead lies within the whole
pub part_behind-end : (p : TypePart) (steps : List Step) (q : TypePart) → part_behind p steps ≡ Some q
    → (p.first ≤ q.first) × (q.first + type_size q.type ≤ p.first + type_size p.type)
unfolding part_behind
part_behind-end p [] q e =
    let same : p ≡ q = cc in
    let P : TypePart → Type 0 = λ z. (p.first ≤ z.first) × (z.first + type_size z.type ≤ p.first + type_size p.type) in
    subst P same (omega arith, omega arith)
part_behind-end p (step ∷ steps) q e = go (part_of p.type step) refl e (λ v f. part_behind-end (within_part p v) steps q f)
  where
    Rest : Type 0
    Rest = (v : TypePart) → part_behind (within_part p v) steps ≡ Some q
        → (p.first + v.first ≤ q.first) × (q.first + type_size q.type ≤ p.first + v.first + type_size v.type)

    go : (o : Option TypePart) → part_of p.type step ≡ o → option_and_then (λ z. part_behind (within_part p z) steps) o ≡ Some q
        → Rest → (p.first ≤ q.first) × (q.first + type_size q.type ≤ p.first + type_size p.type)
    go None s f rest = cc
    go (Some v) s f rest =
        let ends = part_of-end p.type step v s in
        let both = rest v f in
        let low = both.0 in
        let high = both.1 in
        (omega (arith, low), omega (arith, high, ends))

-- as many indexes as dimensions are needed
pub element_from-lengths : (n : ℕ) (bs : List Bound) (indexes : List ℤ) → length bs ≢ length indexes → element_from n bs indexes ≡ None
element_from-lengths n [] [] ne = absurd (ne refl)
element_from-lengths n [] (i ∷ others) ne = refl
element_from-lengths n (b ∷ bs) [] ne = refl
element_from-lengths n (b ∷ bs) (i ∷ others) ne = go (within b i) (λ m. element_from-lengths m bs others (λ e. ne (ap suc e)))
  where
    go : (o : Option ℕ) → ((m : ℕ) → element_from m bs others ≡ None) → option_and_then (λ k. element_from (n * b.count + k) bs others) o ≡ None
    go None rest = refl
    go (Some k) rest = rest (n * b.count + k)
