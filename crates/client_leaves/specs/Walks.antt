-- What the parts of a walk over a type find.
use Rattle.std.specs.Prelude.{ℕ, zero, suc, ◌≡◌, List, [], ◌++◌, Bool, true, Some}
use Rattle.spec_formats.specs.TypeEntry.{TypeEntry}
use Rattle.spec_client.specs.Leaves.{Leaf, leaves_of_named, leaves_of_member, leaves_of_elem}
use Rattle.spec_client.specs.LeafTypes.{is_enumeration, is_named_type, are_members, is_sound_elem}

-- a walk says whether the type's leaves can be taken, and where they can it has put them behind the others
pub record Walked (sound is_sound : Bool) (leaves old new : List Leaf) : Type 0 where
  pub same : sound ≡ is_sound
  pub leaves_are : sound ≡ true → new ≡ old ++ leaves

-- a named type whose leaves can be taken, when structures may be nested so deep in it
abbrev pub is_sound_type : ℕ → List TypeEntry → TypeEntry → Bool
is_sound_type zero types t = is_named_type (λ subs size. is_enumeration subs) (Some t)
is_sound_type (suc depth) types t = is_named_type (λ subs size. are_members (is_sound_elem depth types) types 0 size subs) (Some t)

abbrev pub leaves_of_type : ℕ → List TypeEntry → List ℕ → ℕ → TypeEntry → List Leaf
leaves_of_type zero types path place t = leaves_of_named (λ f. []) path place (Some t)
leaves_of_type (suc depth) types path place t =
    leaves_of_named (leaves_of_member (leaves_of_elem depth types) types path place) path place (Some t)
