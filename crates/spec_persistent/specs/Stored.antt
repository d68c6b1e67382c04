-- A description with stored bytes: each persistent symbol begins with those of the first entry that is of it.
-- This project's own choice.
use Rattle.std.specs.Prelude.{ℕ, List, map, find, length, Bool, ◌&&◌, ◌==◌, if◌then◌else◌, Option, Some, None, bytes_eq}
use Rattle.name_paths.specs.Identifier.{lower}
use Rattle.spec_plant.specs.Listed.{NamedType}
use Rattle.spec_plant.specs.Trees.{tree_of}
use Rattle.spec_plant.specs.Sizes.{type_size}
use Rattle.spec_plant.specs.Description.{Symbol, Port, Description}
use Rattle.spec_store.specs.BodyText.{StoredEntry}
use Rattle.type_layout.specs.Forms.{form_of}

-- whether an entry is of this symbol: the same port, name (ASCII case aside), form and size
abbrev pub is_stored_for : List NamedType → ℕ → Symbol → StoredEntry → Bool
is_stored_for types port s e =
    (e.port == port) && bytes_eq (lower e.name) (lower s.name)
    && bytes_eq e.form (form_of (tree_of types s.shape)) && (length e.bytes == type_size (tree_of types s.shape))

-- the symbol as it is, where no entry is of it
abbrev pub with_initial : Symbol → Option StoredEntry → Symbol
with_initial s None = s
with_initial s (Some e) = record s { initial = e.bytes }

-- a persistent symbol begins with the bytes of the first entry that is of it
abbrev pub symbol_with_stored : List StoredEntry → List NamedType → ℕ → Symbol → Symbol
symbol_with_stored entries types port s =
    if s.persistent then with_initial s (find (is_stored_for types port s) entries) else s

abbrev pub port_with_stored : List StoredEntry → List NamedType → Port → Port
port_with_stored entries types p =
    record p { symbols = map (symbol_with_stored entries types p.number) p.symbols }

-- the description with stored bytes as initial ones
abbrev pub description_with_stored : List StoredEntry → Description → Description
description_with_stored entries d = record d { ports = map (port_with_stored entries d.types) d.ports }
