-- The types of an accepted description have short texts, and so have the names of their parts.
use Rattle.std.proofs.Common.{◌≡◌, ℕ, suc, ◌+◌, ◌-◌, ◌*◌, ◌<◌, ◌≤◌, List, [], ◌∷◌, ◌++◌, map, length, true, refl, sym, ◌∙◌, ap, subst, arith, inl, inr}
use Rattle.std.specs.Prelude.{Option, Some, None, nat_lt, nat_le, ◌^◌, max, bytes_eq, option_map, option_and_then, ℤ, pos, negsuc, ◌+ℤ◌, ◌-ℤ◌}
use Rattle.std.specs.List.{list_all}
use Rattle.std.specs.Int.Signed.{mag}
use Rattle.std.proofs.Math.IntN.{ -ℤ-+ℤ_cancel}
use Rattle.std.proofs.lemmas.Bool.{cases_Bool, and_parts, ltb-true, leb-true, leb-false, le-ltb}
use Rattle.std.proofs.lemmas.List.{length-append}
use Rattle.std.proofs.Math.Nat.{le-max_left, le-max_right}
use Rattle.name_paths.specs.Identifier.{lower}
use Rattle.name_paths.specs.Path.{Step, name_step, index_step}
use Rattle.spec_plant.specs.Listed.{Bound}
use Rattle.spec_plant.specs.Trees.{TypeTree, PlainTree, TextTree, EnumTree, ArrayTree, StructTree, MemberTrees, NoMember, MemberTree}
use Rattle.spec_plant.specs.Sizes.{type_size, member_start}
use Rattle.spec_plant.specs.Parts.{TypePart, MemberPart, below, within, element_from, element_of, member_from}
use Rattle.spec_plant.specs.Parts.{member_of, part_of, part_of_member, part_behind, within_part}
use Rattle.spec_plant.specs.Spelling.{integer_text, high_of, joined_by_comma, type_text}
use Rattle.spec_plant.specs.AcceptedTypes.{is_bound, are_bounds}
use Rattle.spec_plant.proofs.TextLengths.{index-mag, integer-short, bound_parts, three_bounds, commas, joined-short, kind-short, string-short, array-short}
use Rattle.spec_plant.specs.PartTexts.{text_of_step, type_behind, name_behind, comment_of_step, comment_behind}

-- numbers

sum-mag : (k : ℕ) (z : ℤ) → mag (pos k +ℤ z) ≤ k + mag z + 1
sum-mag k (pos n) = omega arith
sum-mag k (negsuc n) =
    elim (cases_Bool (nat_lt k (suc n))) [
      | inl t ↦ rw t (omega arith)
      | inr t ↦ rw t (omega arith)
    ]

-- an index within a bound whose count is small
below-is : (count : ℕ) (z : ℤ) (k : ℕ) → below count z ≡ Some k → (z ≡ pos k) × (k < count)
below-is count (pos n) k e =
    elim (cases_Bool (nat_lt n count)) [
      | inl t ↦
          let f : Some n ≡ Some k = rw t at e in
          let same : n ≡ k = cc in
          let l = ltb-true n count t in
          (ap pos same, omega (arith, l, same))
      | inr t ↦ let f = rw t at e in cc
    ]
below-is count (negsuc n) k e = cc

minus-one : (x : ℕ) → 1 ≤ x → pos x -ℤ pos 1 ≡ pos (x - 1)
minus-one x h = let t = le-ltb x 1 h in rw t refl

few : (z : ℤ) (n : ℕ) → mag z < 2 ^ 31 → mag ((z +ℤ pos n) -ℤ pos 1) < 2 ^ 31 → 4294967296 < n → ⊥
few (pos a) n h g l =
    let e = minus-one (a + n) (omega (arith, l)) in
    let m = subst (λ y. mag y < 2 ^ 31) e g in
    omega (arith, m, l)
few (negsuc a) n h g l =
    let t = le-ltb n (suc a) (omega (arith, h, l)) in
    let e : negsuc a +ℤ pos n ≡ pos (n - suc a) = rw t refl in
    let m = subst (λ y. mag (y -ℤ pos 1) < 2 ^ 31) e g in
    let f = minus-one (n - suc a) (omega (arith, h, l)) in
    let o = subst (λ y. mag y < 2 ^ 31) f m in
    omega (arith, o, h, l)

count-small : (b : Bound) → is_bound b ≡ true → b.count ≤ 4294967296
count-small b e =
    let p = bound_parts b e in
    elim (cases_Bool (nat_le b.count 4294967296)) [
      | inl t ↦ leb-true b.count 4294967296 t
      | inr t ↦ absurd (few b.low b.count (index-mag b.low (p.0)) (index-mag (high_of b) (p.1)) (leb-false b.count 4294967296 t))
    ]

index-short : (b : Bound) (z : ℤ) (k : ℕ) → is_bound b ≡ true → within b z ≡ Some k → length (integer_text z) ≤ 11
index-short b z k e w =
    let q = below-is b.count (z -ℤ b.low) k w in
    let p = bound_parts b e in
    let same : z ≡ pos k +ℤ b.low = sym (-ℤ-+ℤ_cancel z b.low) ∙ ap (λ y. y +ℤ b.low) (q.0) in
    let most = count-small b e in
    let less = q.1 in
    let m = index-mag b.low (p.0) in
    let s = sum-mag k b.low in
    integer-short z (subst (λ y. mag y < 8589934592) (sym same) (omega (arith, most, less, m, s)))

-- a type all of whose names, comments and bounds are accepted ones, at whatever depth

abbrev mutual
  pub IsTame : TypeTree → Type 0
  IsTame (PlainTree kind) = Unit {0}
  IsTame (TextTree n) = n ≤ 65534
  IsTame (EnumTree name base) = length name ≤ 255
  IsTame (ArrayTree bounds element) = (are_bounds bounds ≡ true) × ((length (type_text element) ≤ 300) × IsTame element)
  IsTame (StructTree name members) = (length name ≤ 255) × AreTame members

  pub AreTame : MemberTrees → Type 0
  AreTame NoMember = Unit {0}
  AreTame (MemberTree name type comment members) = (length name ≤ 255) × ((length comment ≤ 255) × (IsTame type × AreTame members))

pub text-short : (t : TypeTree) → IsTame t → length (type_text t) ≤ 400
unfolding type_text
text-short (PlainTree kind) h = let k = kind-short kind in omega (arith, k)
text-short (TextTree n) h =
    let l = string-short n h in
    omega (arith, l)
text-short (EnumTree name base) h = omega (arith, h)
text-short (ArrayTree bounds element) h =
    let own = h.1.0 in
    let whole = array-short bounds (type_text element) (h.0) in
    omega (arith, own, whole)
text-short (StructTree name members) h = let n = h.0 in omega (arith, n)

-- how long the name of a part may be behind that of the whole
abbrev mutual
  pub path_len : TypeTree → ℕ
  path_len (PlainTree kind) = 0
  path_len (TextTree n) = 0
  path_len (EnumTree name base) = 0
  path_len (ArrayTree bounds element) = 40 + path_len element
  path_len (StructTree name members) = members_path members

  pub members_path : MemberTrees → ℕ
  members_path NoMember = 0
  members_path (MemberTree name type comment members) = max (256 + path_len type) (members_path members)

-- the indexes of an element
indexes-short : (n : ℕ) (bs : List Bound) (is : List ℤ) (k : ℕ) → list_all is_bound bs ≡ true
    → element_from n bs is ≡ Some k → length (commas (map integer_text is)) ≤ 12 * length bs
indexes-short n [] [] k e f = omega arith
indexes-short n [] (i ∷ is) k e f = cc
indexes-short n (b ∷ bs) [] k e f = cc
indexes-short n (b ∷ bs) (i ∷ is) k e f =
    go (within b i) refl f (λ m g. indexes-short (n * b.count + m) bs is k (and_parts (is_bound b) (list_all is_bound bs) e).1 g)
  where
    go : (o : Option ℕ) → within b i ≡ o → option_and_then (λ m. element_from (n * b.count + m) bs is) o ≡ Some k
        → ((m : ℕ) → element_from (n * b.count + m) bs is ≡ Some k → length (commas (map integer_text is)) ≤ 12 * length bs)
        → length (commas (map integer_text (i ∷ is))) ≤ 12 * length (b ∷ bs)
    go None q g behind = cc
    go (Some m) q g behind =
        let p = and_parts (is_bound b) (list_all is_bound bs) e in
        let one = index-short b i m (p.0) q in
        let rest = behind m g in
        let all = length-append (44 ∷ integer_text i) (commas (map integer_text is)) in
        omega (arith, one, rest, all)

-- a step from a type to a part of it
pub record IsTameStep (t : TypeTree) (step : Step) (p : TypePart) : Type 0 where
  pub tame : IsTame p.type
  pub name : length (text_of_step t step) + path_len p.type ≤ path_len t
  pub comment : length (comment_of_step t step) ≤ 255

tame-member : (at : ℕ) (ms : MemberTrees) (name : List ℕ) (m : MemberPart) → AreTame ms → member_from at ms name ≡ Some m
    → IsTame m.type × (length m.name ≤ 255) × (length m.comment ≤ 255) × (256 + path_len m.type ≤ members_path ms)
tame-member at NoMember name m h e = cc
tame-member at (MemberTree n type comment ms) name m h e =
    let here : MemberPart = record { name = n; first = member_start at type; type = type; comment = comment } in
    elim (cases_Bool (bytes_eq (lower n) (lower name))) [
      | inl t ↦
          let f : Some here ≡ Some m = rw t at e in
          let same : here ≡ m = cc in
          let P : MemberPart → Type 0 =
          λ y. IsTame y.type × (length y.name ≤ 255) × (length y.comment ≤ 255) × (256 + path_len y.type ≤ max (256 + path_len type) (members_path ms)) in
          subst P same (h.1.1.0, h.0, h.1.0, le-max_left (256 + path_len type) (members_path ms))
      | inr t ↦
          let f : member_from (member_start at type + type_size type) ms name ≡ Some m = rw t at e in
          let r = tame-member (member_start at type + type_size type) ms name m (h.1.1.1) f in
          let l = r.3 in
          let g = le-max_right (256 + path_len type) (members_path ms) in
          (r.0, r.1, r.2, omega (arith, l, g))
    ]

tame-name : (t : TypeTree) (name : List ℕ) (o : Option MemberPart) (p : TypePart) → IsTame t
    → member_of t name ≡ o → option_map part_of_member o ≡ Some p → IsTameStep t (name_step name) p
tame-name t name None p h q f = cc
tame-name (PlainTree k) name (Some m) p h q f = cc
tame-name (TextTree n) name (Some m) p h q f = cc
tame-name (EnumTree n k) name (Some m) p h q f = cc
tame-name (ArrayTree bs e) name (Some m) p h q f = cc
tame-name (StructTree n ms) name (Some m) p h q f =
    let r = tame-member 0 ms name m (h.1) q in
    let same : part_of_member m ≡ p = cc in
    let len = r.1 in
    let path = r.3 in
    subst (IsTameStep (StructTree n ms) (name_step name)) same (record {
      tame = r.0;
      name = rw q (omega (arith, len, path));
      comment = rw q (r.2);
    })

tame-element : (t : TypeTree) (indexes : List ℤ) (p : TypePart) → IsTame t → element_of t indexes ≡ Some p → IsTameStep t (index_step indexes) p
tame-element (PlainTree k) indexes p h f = cc
tame-element (TextTree n) indexes p h f = cc
tame-element (EnumTree n k) indexes p h f = cc
tame-element (StructTree n ms) indexes p h f = cc
tame-element (ArrayTree bs t) indexes p h f = go (element_from 0 bs indexes) refl f
  where
    here : ℕ → TypePart
    here n = record { first = n * type_size t; type = t }

    go : (o : Option ℕ) → element_from 0 bs indexes ≡ o → option_map here o ≡ Some p → IsTameStep (ArrayTree bs t) (index_step indexes) p
    go None q g = cc
    go (Some n) q g =
        let same : here n ≡ p = cc in
        let b = three_bounds bs (h.0) in
        let few = b.0 in
        let all = indexes-short 0 bs indexes n (b.1) q in
        let joined = joined-short (map integer_text indexes) in
        let x = length-append (91 ∷ joined_by_comma (map integer_text indexes)) (93 ∷ []) in
        subst (IsTameStep (ArrayTree bs t) (index_step indexes)) same (record {
          tame = h.1.1;
          name = omega (arith, few, all, joined, x);
          comment = omega arith;
        })

tame-step : (t : TypeTree) (step : Step) (p : TypePart) → IsTame t → part_of t step ≡ Some p → IsTameStep t step p
tame-step t (name_step name) p h f = tame-name t name (member_of t name) p h refl f
tame-step t (index_step indexes) p h f = tame-element t indexes p h f

-- the entry of a part behind some steps
pub record IsTamePart (most : ℕ) (name comment : List ℕ) (p : TypePart) : Type 0 where
  pub tame : IsTame p.type
  pub short_name : length name ≤ most
  pub short_comment : length comment ≤ 255

pub tame-steps : (whole : TypePart) (steps : List Step) (name comment : List ℕ) (p : TypePart) (most : ℕ)
    → IsTame whole.type → length name + path_len whole.type ≤ most → length comment ≤ 255
    → part_behind whole steps ≡ Some p → IsTamePart most (name_behind name whole.type steps) (comment_behind comment whole.type steps) p
unfolding part_behind name_behind comment_behind
tame-steps whole [] name comment p most h l c e =
    let same : whole ≡ p = cc in
    subst (IsTamePart most name comment) same (record { tame = h; short_name = omega (arith, l); short_comment = c })
tame-steps whole (step ∷ steps) name comment p most h l c e =
    go (part_of whole.type step) refl e
    (λ v a b d f. tame-steps (within_part whole v) steps (name ++ text_of_step whole.type step) (comment_of_step whole.type step) p most a b d f)
  where
    next : List ℕ
    next = name ++ text_of_step whole.type step

    said : List ℕ
    said = comment_of_step whole.type step

    go : (o : Option TypePart) → part_of whole.type step ≡ o → option_and_then (λ v. part_behind (within_part whole v) steps) o ≡ Some p
        → ((v : TypePart) → IsTame v.type → length next + path_len v.type ≤ most → length said ≤ 255
        → part_behind (within_part whole v) steps ≡ Some p → IsTamePart most (name_behind next v.type steps) (comment_behind said v.type steps) p)
        → IsTamePart most (name_behind next (type_behind whole.type o) steps) (comment_behind said (type_behind whole.type o) steps) p
    go None q f rest = cc
    go (Some v) q f rest =
        let s = tame-step whole.type step v h q in
        let n = s.name in
        let x = length-append name (text_of_step whole.type step) in
        rest v s.tame (omega (arith, l, n, x)) s.comment f
