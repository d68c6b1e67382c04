-- Leaves of symbols, worked out by hand.
use Rattle.std.proofs.Common.{◌≡◌, ℕ, List, [], ◌∷◌, refl}
use Rattle.std.specs.Prelude.{codes, Some, None}
use Rattle.std.specs.Fmt.{digits}
use Rattle.spec_formats.specs.TypeEntry.{TypeEntry, TypeFields}
use Rattle.spec_client.specs.Leaves.{leaf, leaves_of_elem}
use Rattle.spec_client.specs.LeafTypes.{type_named, is_sound_elem}
use Rattle.client_leaves.specs.Found.{leaves_found}

abbrev field : List ℕ → List ℕ → ℕ → ℕ → ℕ → TypeFields
field name type_name offset size type_id = record {
  size = size;
  offset = offset;
  type_id = type_id;
  flags = 0;
  name = name;
  type_name = type_name;
  comment = [];
  dimensions = [];
}

abbrev typed : List ℕ → ℕ → ℕ → List TypeFields → TypeEntry
typed name size type_id subs = record { fields = field name [] 0 size type_id; subs = subs }

abbrev axis : TypeEntry
axis = typed (codes "Axis") 16 65
    (field (codes "active") (codes "BOOL") 0 1 33 ∷ field (codes "pos") (codes "DINT") 4 4 3 ∷ field (codes "mode") (codes "MODE") 8 2 18 ∷ [])

abbrev mode : TypeEntry
mode = typed (codes "Mode") 2 18 []

-- members in order, an enumeration by the id of its entry
structure : leaves_found 16 (codes "M.a") (codes "AXIS") (axis ∷ mode ∷ [])
    ≡ Some (leaf (codes "M.a.active") 0 33 1 ∷ leaf (codes "M.a.pos") 4 3 4 ∷ leaf (codes "M.a.mode") 8 18 2 ∷ [])
unfolding leaves_found leaves_of_elem is_sound_elem type_named
structure = refl

-- the last index moves fastest
array : leaves_found 4 (codes "M.b") (codes "ARRAY [-1..0,5..6] OF BYTE") []
    ≡ Some (leaf (codes "M.b[-1,5]") 0 17 1 ∷ leaf (codes "M.b[-1,6]") 1 17 1 ∷ leaf (codes "M.b[0,5]") 2 17 1 ∷ leaf (codes "M.b[0,6]") 3 17 1 ∷ [])
unfolding leaves_found leaves_of_elem is_sound_elem type_named digits
array = refl

-- the symbol has another size than its type
other_size : leaves_found 15 (codes "M.a") (codes "Axis") (axis ∷ mode ∷ []) ≡ None
unfolding leaves_found leaves_of_elem is_sound_elem type_named
other_size = refl

-- a type that a member names is not there
not_there : leaves_found 16 (codes "M.a") (codes "Axis") (axis ∷ []) ≡ None
unfolding leaves_found leaves_of_elem is_sound_elem type_named
not_there = refl

-- a structure that is its own member
endless : leaves_found 4 (codes "M.c") (codes "Loop") (typed (codes "Loop") 4 65 (field (codes "next") (codes "Loop") 0 4 65 ∷ []) ∷ []) ≡ None
unfolding leaves_found leaves_of_elem is_sound_elem type_named
endless = refl

-- of two types of one name the first counts, and it has no bytes
first_counts : leaves_found 2 (codes "M.d") (codes "Mode") (typed (codes "MODE") 0 18 [] ∷ mode ∷ []) ≡ None
unfolding leaves_found leaves_of_elem is_sound_elem type_named
first_counts = refl
