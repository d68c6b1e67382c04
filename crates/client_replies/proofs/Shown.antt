-- The leaves that are found of a symbol are those that are printed, and where none are found the peer is bad.
use Rattle.std.proofs.Common.{◌≡◌, ℕ, List, [], ◌∷◌, Bool, true, false, refl, ap}
use Rattle.std.specs.Prelude.{Option, Some, None, if◌then◌else◌, option_and_then}
use Rattle.spec_plant.specs.TypeTexts.{type_text_of}
use Rattle.spec_formats.specs.SymbolEntry.{SymbolEntry}
use Rattle.spec_formats.specs.TypeEntry.{TypeEntry}
use Rattle.spec_client.specs.Calls.{value_request}
use Rattle.spec_client.specs.Leaves.{Leaf, leaves_of}
use Rattle.spec_client.specs.LeafTypes.{is_sound_text}
use Rattle.spec_client.specs.Replies.{after_types}
use Rattle.spec_client.specs.Stages.{ToSend, AwaitsLeaves, Progress, progress, ended, bad_text}
use Rattle.client_leaves.specs.Found.{leaves_found}

none_by : (b : Bool) (found : List Leaf) (bad shown : Progress) → None ≡ (if b then Some found else None) → bad ≡ (if b then shown else bad)
none_by true found bad shown is = absurd cc
none_by false found bad shown is = refl

some_by : (b : Bool) (found leaves : List Leaf) (bad : Progress) (shown : List Leaf → Progress) → Some leaves ≡ (if b then Some found else None)
    → shown leaves ≡ (if b then shown found else bad)
some_by true found leaves bad shown is = let same : leaves ≡ found = cc in ap shown same
some_by false found leaves bad shown is = absurd cc

pub not_shown : (name : List ℕ) (e : SymbolEntry) (o : Option (List TypeEntry)) (payload : List ℕ)
    → None ≡ option_and_then (leaves_found e.size e.name e.type_name) o → ended (bad_text payload) ≡ after_types name e o payload
unfolding leaves_found
not_shown name e None payload is = refl
not_shown name e (Some types) payload is =
    none_by (is_sound_text types e.size (type_text_of e.type_name)) (leaves_of types e.name e.type_name) (ended (bad_text payload)) _ is

pub shown : (name : List ℕ) (e : SymbolEntry) (o : Option (List TypeEntry)) (payload : List ℕ) (leaves : List Leaf)
    → Some leaves ≡ option_and_then (leaves_found e.size e.name e.type_name) o
    → progress (AwaitsLeaves e.size leaves) (ToSend (value_request name e.size) ∷ []) ≡ after_types name e o payload
unfolding leaves_found
shown name e None payload leaves is = absurd cc
shown name e (Some types) payload leaves is =
    some_by (is_sound_text types e.size (type_text_of e.type_name)) (leaves_of types e.name e.type_name) leaves (ended (bad_text payload))
    (λ ls. progress (AwaitsLeaves e.size ls) (ToSend (value_request name e.size) ∷ [])) is
