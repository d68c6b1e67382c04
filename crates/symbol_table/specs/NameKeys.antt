-- For private contracts, and cited by no public clause: names of symbols in order, and how they stand to a path.
use Rattle.std.specs.Prelude.{◌≡◌, ℕ, ◌<◌, ◌≤◌, false, true, List, [], ◌∷◌, length, map, slice_index_or, bytes_eq}
use Rattle.std.specs.declared.cmp.Ordering.{Ordering}
use Rattle.std.specs.declared.cmp.Ordering.TheVariants.{Equal, Greater}
use Rattle.std.specs.Ordering.{ordering_then, nat_cmp, is_gt}
use Rattle.std.specs.Cmp.Lexicographic.{slice_cmp}
use Rattle.std.specs.List.{starts_with}
use Rattle.std.specs.Global.{Vec}

-- the identifiers of a name in lower case, and the number of its symbol
pub record NameKey : Type 0 where
  pub identifiers : List (List ℕ)
  pub symbol : ℕ

abbrev pub identifiers_in : List (Vec ℕ) → List (List ℕ)
identifiers_in = map (λ v. v.items)

-- the key that an entry of the code's list is
abbrev pub key_of : Vec (Vec ℕ) × ℕ → NameKey
key_of e = record { identifiers = identifiers_in e.0.items; symbol = e.1 }

-- how identifiers stand to the names of a path: equal where the path begins with all of them
abbrev pub order_to_path : List (List ℕ) → List (List ℕ) → Ordering
order_to_path [] names = Equal
order_to_path (i ∷ identifiers) [] = Greater
order_to_path (i ∷ identifiers) (n ∷ names) =
    ordering_then (slice_cmp nat_cmp i n) (order_to_path identifiers names)

-- how two names stand to each other, by their identifiers
abbrev pub name_cmp : List (List ℕ) → List (List ℕ) → Ordering
name_cmp = slice_cmp (slice_cmp nat_cmp)

abbrev pub identifiers_at : List NameKey → ℕ → List (List ℕ)
identifiers_at keys i = (slice_index_or keys i (record { identifiers = []; symbol = 0 })).identifiers

-- no name stands behind a later one
abbrev pub IsRising : List NameKey → Type 0
IsRising keys =
    (i j : ℕ) → i ≤ j → j < length keys → is_gt (name_cmp (identifiers_at keys i) (identifiers_at keys j)) ≡ false

-- a name that begins with all of another is the same name
abbrev pub IsPrefixFree : List NameKey → Type 0
IsPrefixFree keys =
    (i j : ℕ) → i < length keys → j < length keys
    → starts_with bytes_eq (identifiers_at keys j) (identifiers_at keys i) ≡ true
    → identifiers_at keys j ≡ identifiers_at keys i

-- a key of the list whose name the path begins with
pub record IsMatch (keys : List NameKey) (names : List (List ℕ)) (found : ℕ × ℕ) : Type 0 where
  pub place : ℕ
  pub there : place < length keys
  pub symbol : found.0 ≡ (slice_index_or keys place (record { identifiers = []; symbol = 0 })).symbol
  pub count : found.1 ≡ length (identifiers_at keys place)
  pub is_match : order_to_path (identifiers_at keys place) names ≡ Equal

-- the path begins with no name of the list
abbrev pub HasNoMatch : List NameKey → List (List ℕ) → Type 0
HasNoMatch keys names = (i : ℕ) → i < length keys → order_to_path (identifiers_at keys i) names ≡ Equal → ⊥
