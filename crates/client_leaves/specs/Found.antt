-- The leaves of a symbol, where its types can be taken.
use Rattle.std.specs.Prelude.{ℕ, List, Option, Some, None, if◌then◌else◌}
use Rattle.spec_plant.specs.TypeTexts.{type_text_of}
use Rattle.spec_formats.specs.TypeEntry.{TypeEntry}
use Rattle.spec_client.specs.Leaves.{Leaf, leaves_of}
use Rattle.spec_client.specs.LeafTypes.{is_sound_text}

-- the leaves of a symbol of this size, name and type, where it has the type of its text and its leaves can be taken
unfoldable pub leaves_found : ℕ → List ℕ → List ℕ → List TypeEntry → Option (List Leaf)
leaves_found size name type_name types =
    if is_sound_text types size (type_text_of type_name) then Some (leaves_of types name type_name) else None
