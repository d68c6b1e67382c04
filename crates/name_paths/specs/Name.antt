-- Names of symbols: identifiers joined by full stops.
use Rattle.std.specs.Prelude.{ℕ, Bool, ◌&&◌, ◌==◌, nat_le, List, map, length}
use Rattle.std.specs.List.{slice_split, list_all}
use Rattle.name_paths.specs.Identifier.{is_identifier, lower}

-- a full stop
abbrev pub is_full_stop : ℕ → Bool
is_full_stop c = c == 46

-- the parts of a name between its full stops
abbrev pub identifiers_of : List ℕ → List (List ℕ)
identifiers_of = slice_split is_full_stop

-- identifiers joined by full stops, at most 255 bytes in all
abbrev pub is_symbol_name : List ℕ → Bool
is_symbol_name text = nat_le (length text) 255 && list_all is_identifier (identifiers_of text)

-- the identifiers of a name in lower case, by which names are compared
abbrev pub lower_identifiers : List ℕ → List (List ℕ)
lower_identifiers text = map lower (identifiers_of text)
