-- Where rules 6 to 8 hold, the types of a document are accepted.
use Rattle.std.proofs.Common.{◌≡◌, ℕ, suc, ◌≤◌, Bool, true, false, List, [], ◌∷◌, ◌++◌, length, map, refl, sym}
use Rattle.std.proofs.Common.{◌∙◌, ap, subst, arith, inl, inr, append_assoc, append-nil}
use Rattle.std.specs.Prelude.{Option, Some, None, is_some, unwrap_or, option_and_then, ◌&&◌, not, nat_lt, if◌then◌else◌}
use Rattle.std.specs.Option.{option_map_or}
use Rattle.std.specs.List.{list_all}
use Rattle.std.proofs.lemmas.Bool.{cases_Bool, and_parts, ltb-false}
use Rattle.std.proofs.lemmas.List.{length-map}
use Rattle.spec_plant.specs.Plain.{Kind, SINT, is_base}
use Rattle.spec_plant.specs.TypeTexts.{kind_named}
use Rattle.spec_plant.specs.Listed.{Shape, One, Plain, Member, EnumValue, NamedType, Enumeration, type_name}
use Rattle.spec_plant.specs.Trees.{trees_of, named_tree}
use Rattle.spec_plant.specs.AcceptedTypes.{AreTypes, are_types_behind, is_next_type, is_type_name, has_parts}
use Rattle.spec_plant.specs.AcceptedTypes.{is_member, is_short_identifier, is_comment, is_shape}
use Rattle.spec_plant.specs.AcceptedTypes.{is_small_shape, is_small_type, is_in_range, is_same_number}
use Rattle.spec_plant.specs.AcceptedTypes.{are_two_values, is_count, differ, all_pairs}
use Rattle.spec_rules.specs.Written.{WrittenMember, WrittenType, WrittenStructure, WrittenEnumeration, written_name, written_members}
use Rattle.spec_rules.specs.Places.{first_wrong, first_through, lesser}
use Rattle.spec_plant.specs.Shapes.{shape_of_text}
use Rattle.spec_rules.specs.Described.{shape_described, member_described, base_of, type_described, types_behind, types_described}
use Rattle.spec_rules.specs.TypeRules.{is_right_type_name, wrong_type_name, is_right_value, are_right_values}
use Rattle.spec_rules.specs.TypeRules.{has_right_parts, is_right_member, wrong_member_of, wrong_part}
use Rattle.spec_rules.specs.SizeRules.{members_of, is_right_size, wrong_size}
use Rattle.spec_rules.proofs.FirstWrong.{both_true, none_of, first_right, first_through-none, AreRight, are_right, list_all-mapped, all_pairs-mapped}
use Rattle.spec_plant.proofs.TextsRead.{shape_of_text-good}

-- a type that a text names is described as that
shape_described-good : (known : List NamedType) (text : List ℕ) → is_some (shape_of_text known text) ≡ true → is_shape known (shape_described known text) ≡ true
shape_described-good known text h = go (shape_of_text known text) refl h
  where
    go : (o : Option Shape) → shape_of_text known text ≡ o → is_some o ≡ true
        → is_shape known (unwrap_or o (One (Plain Rattle.spec_plant.specs.Plain.BOOL))) ≡ true
    go None q f = cc
    go (Some s) q f = shape_of_text-good known text s q

-- members
abbrev right_member : List NamedType → WrittenMember → Bool
right_member known m = is_short_identifier m.name && is_comment m.comment && is_some (shape_of_text known m.type)

right_members : (known : List NamedType) (ms : List WrittenMember) → first_wrong (is_right_member known) [] ms ≡ None
    → AreRight (right_member known) (λ (e m : WrittenMember). differ e.name m.name) [] ms
right_members known ms h = are_right (is_right_member known) (right_member known) (λ (e m : WrittenMember). differ e.name m.name) says [] ms h
  where
    says : (before : List WrittenMember) (m : WrittenMember) → is_right_member known before m ≡ true
        → (right_member known m ≡ true) × (list_all (λ (e : WrittenMember). differ e.name m.name) before ≡ true)
    says before m h =
        let a = and_parts _ _ h in
        let b = and_parts _ _ (a.0) in
        let c = and_parts _ _ (b.0) in (
          both_true (is_short_identifier m.name && is_comment m.comment) (is_some (shape_of_text known m.type))
              (both_true (is_short_identifier m.name) (is_comment m.comment) (c.0) (b.1)) (a.1),
          c.1,
        )

members_good : (known : List NamedType) (ms : List WrittenMember) → list_all (right_member known) ms ≡ true
    → list_all (λ (m : Member). is_small_shape m.shape) (map (member_described known) ms) ≡ true
    → list_all (is_member known) (map (member_described known) ms) ≡ true
members_good known [] h g = refl
members_good known (m ∷ ms) h g =
    let a = and_parts (right_member known m) (list_all (right_member known) ms) h in
    let b = and_parts (is_small_shape (shape_described known m.type)) (list_all (λ (x : Member). is_small_shape x.shape) (map (member_described known) ms)) g in
    let c = and_parts (is_short_identifier m.name && is_comment m.comment) (is_some (shape_of_text known m.type)) (a.0) in
    let shape = shape_described-good known m.type (c.1) in
    both_true (is_member known (member_described known m)) (list_all (is_member known) (map (member_described known) ms))
    (both_true (is_short_identifier m.name && is_comment m.comment && is_shape known (shape_described known m.type))
    (is_small_shape (shape_described known m.type))
    (both_true (is_short_identifier m.name && is_comment m.comment) (is_shape known (shape_described known m.type)) (c.0) shape) (b.0))
    (members_good known ms (a.1) (b.1))

-- values
right_values : (base : Kind) (vs : List EnumValue) → first_wrong (is_right_value base) [] vs ≡ None
    → AreRight (λ (v : EnumValue). is_short_identifier v.name && is_in_range base v.number)
    (λ (e v : EnumValue). differ e.name v.name && not (is_same_number e.number v.number)) [] vs
right_values base vs h =
    are_right (is_right_value base) (λ (v : EnumValue). is_short_identifier v.name && is_in_range base v.number)
    (λ (e v : EnumValue). differ e.name v.name && not (is_same_number e.number v.number)) (λ before v g. and_parts _ _ g) [] vs h

base_of-base : (text : List ℕ) (k : Kind) → base_of text ≡ Some k → is_base k ≡ true
base_of-base text k h = go (kind_named text) h
  where
    go : (o : Option Kind) → option_and_then (λ kind. if is_base kind then Some kind else None) o ≡ Some k → is_base k ≡ true
    go None f = cc
    go (Some j) f =
        elim (cases_Bool (is_base j)) [
          | inl t ↦
              let g : Some j ≡ Some k = rw t at f in
              let same : j ≡ k = cc in
              let P : Kind → Type 0 = λ x. is_base x ≡ true in
              subst P same t
          | inr t ↦ let g = rw t at f in cc
        ]

-- the parts of a type
parts_good : (known : List NamedType) (t : WrittenType) → has_right_parts t ≡ true → first_wrong (is_right_member known) [] (written_members t) ≡ None
    → list_all (λ (m : Member). is_small_shape m.shape) (members_of (type_described known t)) ≡ true → has_parts known (type_described known t) ≡ true
parts_good known (WrittenStructure name ms) count members small =
    let right = right_members known ms members in
    let counted : is_count (length (map (member_described known) ms)) ≡ true = rw (length-map ms (member_described known)) count in
    let each = members_good known ms right.each small in
    let pairs = all_pairs-mapped (member_described known) (λ (m n : Member). differ m.name n.name) ms right.pairs in
    both_true (is_count (length (map (member_described known) ms)) && list_all (is_member known) (map (member_described known) ms))
    (all_pairs (λ (m n : Member). differ m.name n.name) (map (member_described known) ms))
    (both_true (is_count (length (map (member_described known) ms))) (list_all (is_member known) (map (member_described known) ms)) counted each) pairs
parts_good known (WrittenEnumeration name base vs) right members small = bases (base_of base) refl ((and_parts _ _ right).1)
  where
    counted : is_count (length vs) ≡ true
    counted = (and_parts _ _ right).0

    bases : (o : Option Kind) → base_of base ≡ o → option_map_or (are_right_values vs) o false ≡ true
        → has_parts known (Enumeration name (unwrap_or o SINT) vs) ≡ true
    bases None q f = cc
    bases (Some k) q f =
        let good = right_values k vs (none_of (first_wrong (is_right_value k) [] vs) f) in
        let each = good.each in
        let pairs = good.pairs in
        both_true (is_count (length vs) && is_base k
        && list_all (λ (v : EnumValue). is_short_identifier v.name && is_in_range k v.number) vs)
        (all_pairs are_two_values vs)
        (both_true (is_count (length vs) && is_base k)
        (list_all (λ (v : EnumValue). is_short_identifier v.name && is_in_range k v.number) vs)
        (both_true (is_count (length vs)) (is_base k) counted (base_of-base base k q)) each) pairs

name-described : (known : List NamedType) (t : WrittenType) → type_name (type_described known t) ≡ written_name t
name-described known (WrittenStructure name ms) = refl
name-described known (WrittenEnumeration name base vs) = refl

-- the types behind those that are known
rest_of : List NamedType → List WrittenType → List NamedType
rest_of known [] = []
rest_of known (t ∷ ts) = type_described known t ∷ rest_of (known ++ type_described known t ∷ []) ts

types_behind-rest : (known : List NamedType) (ts : List WrittenType) → types_behind known ts ≡ known ++ rest_of known ts
unfolding types_behind rest_of
types_behind-rest known [] = sym (append-nil known)
types_behind-rest known (t ∷ ts) =
    types_behind-rest (known ++ type_described known t ∷ []) ts
    ∙ append_assoc known (type_described known t ∷ []) (rest_of (known ++ type_described known t ∷ []) ts)

types_behind-last : (known : List NamedType) (ts : List WrittenType) (t : WrittenType)
    → types_behind known (ts ++ t ∷ []) ≡ types_behind known ts ++ type_described (types_behind known ts) t ∷ []
unfolding types_behind
types_behind-last known [] t = refl
types_behind-last known (u ∷ us) t = types_behind-last (known ++ type_described known u ∷ []) us t

names_differ : (name : List ℕ) (known : List NamedType) (before : List WrittenType) → map type_name known ≡ map written_name before
    → list_all (λ e. differ (written_name e) name) before ≡ true → list_all (λ u. differ (type_name u) name) known ≡ true
names_differ name [] [] same h = refl
names_differ name [] (w ∷ ws) same h = cc
names_differ name (u ∷ us) [] same h = cc
names_differ name (u ∷ us) (w ∷ ws) same h =
    let parts = and_parts (differ (written_name w) name) (list_all (λ e. differ (written_name e) name) ws) h in
    let first : written_name w ≡ type_name u = cc in
    let rest : map type_name us ≡ map written_name ws = cc in
    let P : List ℕ → Type 0 = λ n. differ n name ≡ true in
    both_true (differ (type_name u) name) (list_all (λ v. differ (type_name v) name) us) (subst P first (parts.0)) (names_differ name us ws rest (parts.1))

-- each type is accepted behind those before it
record IsSoFar (before : List WrittenType) (known : List NamedType) : Type 0 where
  names : map type_name known ≡ map written_name before
  described : types_described before ≡ known

types_accepted : (before : List WrittenType) (known : List NamedType) (ts : List WrittenType)
    → IsSoFar before known → first_wrong is_right_type_name before ts ≡ None → list_all has_right_parts ts ≡ true
    → first_through (λ t. length (written_members t)) wrong_member_of before ts ≡ None
    → first_wrong is_right_size known (rest_of known ts) ≡ None → are_types_behind known (rest_of known ts) ≡ true
unfolding rest_of
types_accepted before known [] s names parts members sizes = refl
types_accepted before known (t ∷ ts) s names parts members sizes =
    let next = type_described known t in
    let name = first_right is_right_type_name before t ts names in
    let name_is = and_parts _ _ (name.0) in
    let part = and_parts (has_right_parts t) (list_all has_right_parts ts) parts in
    let member = first_through-none (λ u. length (written_members u)) wrong_member_of before t ts members in
    let size = first_right is_right_size known next (rest_of (known ++ next ∷ []) ts) sizes in
    let size_is = and_parts _ _ (size.0) in
    let P : List NamedType → Type 0 = λ k. first_wrong (is_right_member k) [] (written_members t) ≡ None in
    let right = subst P s.described (member.0) in
    let is_name : is_type_name (type_name next) ≡ true = rw (name-described known t) (name_is.0) in
    let apart : list_all (λ u. differ (type_name u) (type_name next)) known ≡ true =
    rw (name-described known t) (names_differ (written_name t) known before s.names (name_is.1)) in
    let has = parts_good known t (part.0) right (size_is.0) in
    let accepted : is_next_type known next ≡ true =
    both_true (is_type_name (type_name next) && list_all (λ u. differ (type_name u) (type_name next)) known && has_parts known next)
    (is_small_type (named_tree (trees_of known) next))
    (both_true (is_type_name (type_name next) && list_all (λ u. differ (type_name u) (type_name next)) known) (has_parts known next)
    (both_true (is_type_name (type_name next)) (list_all (λ u. differ (type_name u) (type_name next)) known) is_name apart) has) (size_is.1) in
    let so_far : IsSoFar (before ++ t ∷ []) (known ++ next ∷ []) = further before known t s in
    both_true (is_next_type known next) (are_types_behind (known ++ next ∷ []) (rest_of (known ++ next ∷ []) ts)) accepted
    (types_accepted (before ++ t ∷ []) (known ++ next ∷ []) ts so_far (name.1) (part.1) (member.1) (size.1))
  where
    map-last : {X Y : Type 0} (f : X → Y) (xs : List X) (x : X) → map f (xs ++ x ∷ []) ≡ map f xs ++ f x ∷ []
    map-last f [] x = refl
    map-last f (y ∷ ys) x = ap (λ rest. f y ∷ rest) (map-last f ys x)

    further : (before : List WrittenType) (known : List NamedType) (t : WrittenType)
        → IsSoFar before known → IsSoFar (before ++ t ∷ []) (known ++ type_described known t ∷ [])
    further before known t s = record {
      names = map-last type_name known (type_described known t) ∙ rw (s.names, name-described known t) (sym (map-last written_name before t));
      described = types_behind-last [] before t ∙ ap (λ k. k ++ type_described k t ∷ []) s.described;
    }

length-rest : (known : List NamedType) (ts : List WrittenType) → length (rest_of known ts) ≡ length ts
unfolding rest_of
length-rest known [] = refl
length-rest known (t ∷ ts) = ap suc (length-rest (known ++ type_described known t ∷ []) ts)

pub lesser-none : (a b : Option ℕ) → lesser a b ≡ None → (a ≡ None) × (b ≡ None)
lesser-none None b e = (refl, e)
lesser-none (Some i) None e = cc
lesser-none (Some i) (Some j) e = cc

abbrev too_many : ℕ → Option ℕ
too_many n = if nat_lt 1000 n then Some 1000 else None

at_most : (n : ℕ) → too_many n ≡ None → n ≤ 1000
at_most n h =
    elim (cases_Bool (nat_lt 1000 n)) [
      | inl t ↦ let f = rw t at h in cc
      | inr t ↦ ltb-false 1000 n t
    ]

pub when_all : (b : Bool) (o : Option ℕ) → (if b then o else Some 0) ≡ None → (b ≡ true) × (o ≡ None)
when_all true o h = (refl, h)
when_all false o h = cc

-- rules 6 to 8 make the types of a document accepted ones
pub accepted_types : (ts : List WrittenType) → wrong_type_name ts ≡ None → wrong_part ts ≡ None
    → wrong_size (types_described ts) ≡ None → AreTypes (types_described ts)
unfolding wrong_type_name wrong_part wrong_size rest_of
accepted_types ts names parts sizes =
    let name = lesser-none (first_wrong is_right_type_name [] ts) (too_many (length ts)) names in
    let part = when_all (list_all has_right_parts ts) (first_through (λ t. length (written_members t)) wrong_member_of [] ts) parts in
    let whole : types_described ts ≡ rest_of [] ts = types_behind-rest [] ts in
    let size : first_wrong is_right_size [] (rest_of [] ts) ≡ None = rw whole at sizes in
    let count = at_most (length ts) (name.1) in
    let length_is = length-rest [] ts in
    let start : IsSoFar [] [] = record { names = refl; described = nothing } in
    let each = types_accepted [] [] ts start (name.0) (part.0) (part.1) size in
    rw whole (record { count = omega (arith, count, length_is); each = each })
  where
    nothing : types_described [] ≡ []
    nothing = types_behind-rest [] []
