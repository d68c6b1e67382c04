-- Bodies of worlds, and descriptions with stored bytes, computed.
use Rattle.std.specs.Prelude.{◌≡◌, refl, ℕ, List, [], ◌∷◌, ◌++◌, codes, replicate}
use Rattle.std.specs.Fmt.{digits}
use Rattle.spec_plant.specs.Description.{Description}
use Rattle.spec_plant.specs.Trees.{trees_of, trees_behind}
use Rattle.spec_plant.specs.Sizes.{type_size, members_end, type_align, greatest_align}
use Rattle.spec_plant.specs.World.{plant_of, Block, SymbolPart, byte_at, with_byte}
use Rattle.spec_machine.specs.World.{first_memory, FIRST_VERSION, numbers_from}
use Rattle.spec_store.specs.BodyText.{StoredEntry}
use Rattle.type_layout.specs.Forms.{form_of}
use Rattle.spec_persistent.specs.Persistent.{body_of, entries_of_ports}
use Rattle.spec_persistent.specs.Stored.{description_with_stored}
use Rattle.spec_plant.proofs.Plant.{count_symbol, title_symbol, symbols_with, description_with, plant, plant2}

abbrev memory_of : Description → List Block
memory_of d = first_memory FIRST_VERSION (plant_of d)

-- the entry of a title
abbrev title_entry : ℕ → List ℕ → List ℕ → List ℕ → StoredEntry
title_entry port name form bytes = record { port = port; name = name; form = form; bytes = bytes }

abbrev HELLO : List ℕ
HELLO = codes "Hello" ++ replicate 3 0

abbrev stored_title : List ℕ → StoredEntry
stored_title bytes = title_entry 851 (codes "main.TITLE") (codes "string(7)") bytes

-- `Main.title`, the one persistent symbol, under its declared name
first_entries : entries_of_ports (memory_of plant) (plant_of plant).ports
    ≡ title_entry 851 (codes "Main.title") (codes "string(7)") (codes "Mix" ++ replicate 5 0) ∷ []
unfolding numbers_from byte_at form_of digits trees_of trees_behind type_size members_end type_align greatest_align
first_entries = refl

first_body : body_of (plant_of plant) (memory_of plant)
    ≡ 1 ∷ 0 ∷ 0 ∷ 0 ∷ 83 ∷ 3 ∷ 10 ∷ 0 ∷ codes "Main.title" ++ 9 ∷ 0 ∷ 0 ∷ 0 ∷ 0 ∷ 0 ∷ 0 ∷ 0
    ∷ codes "string(7)" ++ 8 ∷ 0 ∷ 0 ∷ 0 ∷ codes "Mix" ++ replicate 5 0
unfolding body_of numbers_from byte_at form_of digits trees_of trees_behind type_size members_end type_align greatest_align
first_body = refl

-- the title's first byte is written
written : entries_of_ports
    (with_byte (memory_of plant) (record { port = 851; part = SymbolPart (codes "main.title"); index = 0 }) (λ byte. 70)) (plant_of plant).ports
    ≡ title_entry 851 (codes "Main.title") (codes "string(7)") (codes "Fix" ++ replicate 5 0) ∷ []
unfolding numbers_from byte_at with_byte form_of digits trees_of trees_behind type_size members_end type_align greatest_align
written = refl

-- a plant with no persistent symbol
nothing_persistent : body_of (plant_of (description_with (count_symbol 0 ∷ []))) (memory_of (description_with (count_symbol 0 ∷ []))) ≡ 0 ∷ 0 ∷ 0 ∷ 0 ∷ []
unfolding body_of
nothing_persistent = refl

-- stored bytes are taken, whatever the case of the name; of two entries the first
taken : description_with_stored (stored_title HELLO ∷ stored_title (replicate 8 1) ∷ []) plant
    ≡ description_with (symbols_with (count_symbol 0) (title_symbol 7 HELLO))
unfolding form_of digits trees_of trees_behind type_size members_end type_align greatest_align
taken = refl

-- another type, another form of as many bytes, another port, another size, and a symbol that is not persistent
other_type : description_with_stored (stored_title HELLO ∷ []) plant2 ≡ plant2
unfolding form_of digits trees_of trees_behind type_size members_end type_align greatest_align
other_type = refl

other_form : description_with_stored (title_entry 851 (codes "Main.title") (codes "lreal") HELLO ∷ []) plant ≡ plant
unfolding form_of digits trees_of trees_behind type_size members_end type_align greatest_align
other_form = refl

other_port : description_with_stored (title_entry 852 (codes "Main.title") (codes "string(7)") HELLO ∷ []) plant ≡ plant
unfolding form_of digits trees_of trees_behind type_size members_end type_align greatest_align
other_port = refl

other_size : description_with_stored (stored_title (codes "Hello") ∷ []) plant ≡ plant
unfolding form_of digits trees_of trees_behind type_size members_end type_align greatest_align
other_size = refl

not_persistent : description_with_stored (title_entry 851 (codes "Main.count") (codes "dint") (replicate 4 1) ∷ []) plant ≡ plant
unfolding form_of digits trees_of trees_behind type_size members_end type_align greatest_align
not_persistent = refl

-- no entry
nothing_stored : description_with_stored [] plant ≡ plant
nothing_stored = refl
