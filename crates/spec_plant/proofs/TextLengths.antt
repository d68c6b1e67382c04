-- The canonical texts of accepted types are short, and so are their names and comments.
use Rattle.std.proofs.Common.{◌≡◌, ℕ, ◌+◌, ◌*◌, ◌<◌, ◌≤◌, List, [], ◌∷◌, ◌++◌, map, length, true, arith}
use Rattle.std.specs.Prelude.{nat_lt, nat_le, ◌&&◌, ◌^◌, flat_map, codes, decimal, ℤ, pos, negsuc}
use Rattle.std.specs.List.{list_all}
use Rattle.std.specs.Int.Signed.{mag}
use Rattle.std.proofs.lemmas.Bool.{and_parts, ltb-true, leb-true}
use Rattle.std.proofs.lemmas.List.{length-append}
use Rattle.std.proofs.lemmas.Fmt.{length_signed_le, length-decimal-le}
use Rattle.name_paths.specs.Identifier.{is_identifier}
use Rattle.spec_plant.specs.Plain.{Kind, BOOL, SINT, USINT, BYTE, INT, UINT, WORD, DINT, UDINT, DWORD, TIME, LINT, ULINT, LWORD, REAL, LREAL, kind_name}
use Rattle.spec_plant.specs.Listed.{Bound}
use Rattle.spec_plant.specs.Spelling.{integer_text, high_of, bound_text, joined_by_comma}
use Rattle.spec_plant.specs.AcceptedTypes.{is_index, is_bound, are_bounds, is_type_name, is_short_identifier, is_comment, differ, type_words}

-- names and comments

pub short_name : (name : List ℕ) → is_short_identifier name ≡ true → length name ≤ 255
short_name name h = leb-true (length name) 255 (and_parts (is_identifier name) (nat_le (length name) 255) h).1

pub short_type_name : (name : List ℕ) → is_type_name name ≡ true → length name ≤ 255
short_type_name name h = short_name name (and_parts (is_short_identifier name) (list_all (differ name) type_words) h).0

pub short_comment : (text : List ℕ) → is_comment text ≡ true → length text ≤ 255
short_comment text h = leb-true (length text) 255 (and_parts (nat_le (length text) 255) (list_all (λ c. nat_le 0x20 c && nat_le c 0x7E) text) h).0

-- numbers and bounds

pub index-mag : (z : ℤ) → is_index z ≡ true → mag z < 2 ^ 31
index-mag (pos n) h = ltb-true n (2 ^ 31) h
index-mag (negsuc n) h = ltb-true n (2 ^ 31) h

-- of a magnitude below 2^33
pub integer-short : (z : ℤ) → mag z < 8589934592 → length (integer_text z) ≤ 11
integer-short z h = length_signed_le 10 z (omega (arith, h)) (omega (arith, h))

pub bound_parts : (b : Bound) → is_bound b ≡ true → (is_index b.low ≡ true) × (is_index (high_of b) ≡ true)
bound_parts b e =
    let p = and_parts (nat_lt 0 b.count && is_index b.low) (is_index (high_of b)) e in
    let q = and_parts (nat_lt 0 b.count) (is_index b.low) (p.0) in
    (q.1, p.1)

pub three_bounds : (bs : List Bound) → are_bounds bs ≡ true → (length bs ≤ 3) × (list_all is_bound bs ≡ true)
three_bounds bs e =
    let p = and_parts (nat_lt 0 (length bs) && nat_le (length bs) 3) (list_all is_bound bs) e in
    let q = and_parts (nat_lt 0 (length bs)) (nat_le (length bs) 3) (p.0) in
    (leb-true (length bs) 3 (q.1), p.1)

bound-short : (b : Bound) → is_bound b ≡ true → length (bound_text b) ≤ 24
bound-short b e =
    let p = bound_parts b e in
    let low = integer-short b.low (let m = index-mag b.low (p.0) in omega (arith, m)) in
    let high = integer-short (high_of b) (let m = index-mag (high_of b) (p.1) in omega (arith, m)) in
    let x = length-append (integer_text b.low ++ codes "..") (integer_text (high_of b)) in
    let y = length-append (integer_text b.low) (codes "..") in
    omega (arith, low, high, x, y)

-- texts, each behind a comma
abbrev pub commas : List (List ℕ) → List ℕ
commas ts = flat_map (λ (u : List ℕ). 44 ∷ u) ts

pub joined-short : (ts : List (List ℕ)) → length (joined_by_comma ts) ≤ length (commas ts)
joined-short [] = omega arith
joined-short (t ∷ ts) =
    let a = length-append t (commas ts) in
    let b = length-append (44 ∷ t) (commas ts) in
    omega (arith, a, b)

bounds-short : (bs : List Bound) → list_all is_bound bs ≡ true → length (commas (map bound_text bs)) ≤ 25 * length bs
bounds-short [] e = omega arith
bounds-short (b ∷ bs) e =
    let p = and_parts (is_bound b) (list_all is_bound bs) e in
    let one = bound-short b (p.0) in
    let rest = bounds-short bs (p.1) in
    let all = length-append (44 ∷ bound_text b) (commas (map bound_text bs)) in
    omega (arith, one, rest, all)

-- texts of types

pub kind-short : (k : Kind) → length (kind_name k) ≤ 6
kind-short BOOL = omega arith
kind-short SINT = omega arith
kind-short USINT = omega arith
kind-short BYTE = omega arith
kind-short INT = omega arith
kind-short UINT = omega arith
kind-short WORD = omega arith
kind-short DINT = omega arith
kind-short UDINT = omega arith
kind-short DWORD = omega arith
kind-short TIME = omega arith
kind-short LINT = omega arith
kind-short ULINT = omega arith
kind-short LWORD = omega arith
kind-short REAL = omega arith
kind-short LREAL = omega arith

-- of a STRING
pub string-short : (n : ℕ) → n ≤ 65534 → length (codes "STRING(" ++ decimal n ++ codes ")") ≤ 13
string-short n h =
    let d = length-decimal-le 5 n (omega arith) (omega (arith, h)) (omega (arith, h)) in
    let x = length-append (codes "STRING(" ++ decimal n) (codes ")") in
    let y = length-append (codes "STRING(") (decimal n) in
    omega (arith, d, x, y)

-- of an array of elements with that text
pub array-short : (bounds : List Bound) (text : List ℕ) → are_bounds bounds ≡ true
    → length (codes "ARRAY [" ++ joined_by_comma (map bound_text bounds) ++ codes "] OF " ++ text) ≤ 87 + length text
array-short bounds text h =
    let bs = three_bounds bounds h in
    let few = bs.0 in
    let all = bounds-short bounds (bs.1) in
    let joined = joined-short (map bound_text bounds) in
    let x = length-append (codes "ARRAY [" ++ joined_by_comma (map bound_text bounds) ++ codes "] OF ") text in
    let y = length-append (codes "ARRAY [" ++ joined_by_comma (map bound_text bounds)) (codes "] OF ") in
    let z = length-append (codes "ARRAY [") (joined_by_comma (map bound_text bounds)) in
    omega (arith, few, all, joined, x, y, z)
