-- Which entries of a body others leave out. This project's own choice.
use Rattle.std.specs.Prelude.{ℕ, List, map, filter, length, Bool, not}
use Rattle.std.specs.List.{list_any}
use Rattle.spec_store.specs.BodyText.{StoredEntry}
use Rattle.stored_values.specs.StoredBodies.{is_of}

-- whether an entry has the port, name (in any case), form and number of bytes of another, so that the symbol of this takes its bytes
abbrev pub fits : StoredEntry → StoredEntry → Bool
fits entry one = is_of one.port one.name one.form (length one.bytes) entry

-- whether an entry fits none of these
abbrev pub is_left_out : List StoredEntry → StoredEntry → Bool
is_left_out kept entry = not (list_any (fits entry) kept)

-- the names of the entries that fit none of the others, in their order
abbrev pub names_left_out : List StoredEntry → List StoredEntry → List (List ℕ)
names_left_out kept entries = map (λ (e : StoredEntry). e.name) (filter (is_left_out kept) entries)
