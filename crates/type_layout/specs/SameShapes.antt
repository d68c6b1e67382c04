-- Which types of two lists are the same, where it is known which of their named types are.
use Rattle.std.specs.Prelude.{◌≡◌, ℕ, ◌<◌, ◌==◌, ◌&&◌, List, [], ◌∷◌, length, Bool, true, false, Option, Some, slice_get, bytes_eq}
use Rattle.std.specs.Option.{option_map_or}
use Rattle.name_paths.specs.Identifier.{lower}
use Rattle.spec_plant.specs.Listed.{Bound, Elem, Plain, Text, Struct, Enum, Shape, One, Array, Member, NamedType, Structure, Enumeration}
use Rattle.spec_plant.specs.AcceptedTypes.{is_same_number}
use Rattle.spec_plant.specs.SameTypes.{is_same_kind, is_same_type}
use Rattle.spec_plant.specs.Trees.{tree_at, trees_of}

-- of each named type of the one list the place of the same type in the other, where there is one
abbrev pub has_place : ℕ → Option ℕ → Bool
has_place q o = option_map_or (λ n. n == q) o false

abbrev pub is_partner : List (Option ℕ) → ℕ → ℕ → Bool
is_partner partners p q = option_map_or (has_place q) (slice_get partners p) false

-- this tells of the first so many types of the one list which types of the other are the same
pub record ArePartners (old new : List NamedType) (count : ℕ) (partners : List (Option ℕ)) : Type 0 where
  pub counted : length partners ≡ count
  pub each : (p q : ℕ) → p < count → q < length new
      → is_partner partners p q ≡ is_same_type (tree_at (trees_of old) p) (tree_at (trees_of new) q)

abbrev pub same_elem : List (Option ℕ) → Elem → Elem → Bool
same_elem partners (Plain k) (Plain l) = is_same_kind k l
same_elem partners (Text m) (Text n) = m == n
same_elem partners (Struct p) (Struct q) = is_partner partners p q
same_elem partners (Enum p) (Enum q) = is_partner partners p q
same_elem partners a b = false

abbrev pub same_bound : Bound → Bound → Bool
same_bound b c = is_same_number b.low c.low && (b.count == c.count)

abbrev pub same_bounds : List Bound → List Bound → Bool
same_bounds [] [] = true
same_bounds (b ∷ bs) (c ∷ cs) = same_bound b c && same_bounds bs cs
same_bounds bs cs = false

abbrev pub same_shape : List (Option ℕ) → Shape → Shape → Bool
same_shape partners (One a) (One b) = same_elem partners a b
same_shape partners (Array bs a) (Array cs b) = same_bounds bs cs && same_elem partners a b
same_shape partners s t = false

abbrev pub same_member : List (Option ℕ) → Member → Member → Bool
same_member partners m n = bytes_eq (lower m.name) (lower n.name) && same_shape partners m.shape n.shape

abbrev pub same_members : List (Option ℕ) → List Member → List Member → Bool
same_members partners [] [] = true
same_members partners (m ∷ ms) (n ∷ ns) = same_member partners m n && same_members partners ms ns
same_members partners ms ns = false

abbrev pub same_named : List (Option ℕ) → NamedType → NamedType → Bool
same_named partners (Structure name ms) (Structure other ns) = bytes_eq name other && same_members partners ms ns
same_named partners (Enumeration name k values) (Enumeration other l others) = bytes_eq name other && is_same_kind k l
same_named partners t u = false

-- the type at a place of a list is the same as this one; and no type of the list is

pub record IsPartnerAt (partners : List (Option ℕ)) (t : NamedType) (others : List NamedType) (place : ℕ) : Type 0 where
  pub other : NamedType
  pub there : slice_get others place ≡ Some other
  pub same : same_named partners t other ≡ true

abbrev pub HasNoPartner : List (Option ℕ) → NamedType → List NamedType → Type 0
HasNoPartner partners t others = (q : ℕ) (u : NamedType) → slice_get others q ≡ Some u → same_named partners t u ≡ false
