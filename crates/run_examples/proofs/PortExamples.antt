-- What a port keeps of its symbols, and what an accepted description gives, by computation.
use Rattle.std.specs.Prelude.{◌==◌, ◌≡◌, ◌≢◌, refl, ℕ, ◌+◌, List, [], ◌∷◌, ◌++◌, codes, map, replicate, true, false, Option, Some, None, pos}
use Rattle.std.specs.Prelude.{option_map}
use Rattle.std.proofs.Common.{ap, lit<, lit≤, sym}
use Rattle.std.proofs.lemmas.Bool.{false≢true}
use Rattle.std.specs.Fmt.{digits}
use Rattle.name_index.specs.Entries.{number_of}
use Rattle.name_index.specs.Numbered.{AreNumbered, NameNumbers}
use Rattle.spec_plant.specs.Description.{Inputs, Memory, Outputs, Port, Process, Sizes}
use Rattle.spec_plant.specs.Listed.{Array, NamedType, One, Plain as PlainElem, Struct, Text}
use Rattle.spec_plant.specs.Named.{AreNamedApart, AreNumberedApart, port_numbered, symbol_named}
use Rattle.spec_plant.specs.Plain.{BOOL, DINT, LREAL, TIME}
use Rattle.spec_plant.specs.Sizes.{type_size, members_end, type_align, greatest_align, type_depth, greatest_depth}
use Rattle.spec_plant.specs.Sound.{AcceptedAreSound, AreApart, HaveNoByteInCommon, IsSoundPlant}
use Rattle.spec_plant.specs.Spelling.{type_text}
use Rattle.spec_plant.specs.Trees.{trees_of, trees_behind}
use Rattle.spec_plant.specs.World.{PlantPort, PlantSymbol, plant_of, plant_port, plant_symbol}
use Rattle.spec_machine.specs.Manner.{Strict}
use Rattle.spec_machine.specs.PortBytes.{image_byte, start_in, with_image_bytes}
use Rattle.spec_machine.specs.World.{OWN_SIZE, World, world_of}
use Rattle.type_layout.specs.declared.kind.Kind.TheVariants as kind
use Rattle.type_layout.specs.declared.port.Area.TheVariants as area
use Rattle.type_layout.specs.declared.shape.Elem.TheVariants as elem
use Rattle.type_layout.specs.declared.shape.Shape.TheVariants as shape
use Rattle.type_layout.specs.Descriptions.{area_of}
use Rattle.type_layout.specs.Shapes.{kind_of, shape_of}
use Rattle.symbol_table.specs.PlaceOrders.{has_bytes, is_within, lies_before}
use Rattle.symbol_table.specs.Tables.{IsTableOf, SymbolTable, TableSymbol, declared, table_of, table_symbol}
use Rattle.port_device.specs.Holds.{HoldsPorts}
use Rattle.port_device.specs.Marks.{IsMarked, is_guarded, is_marked}
use Rattle.port_device.specs.PortMemory.{PortsMemory}
use Rattle.port_device.specs.Signals.{AreBound, bound_at, is_bound_to, symbol_bound_to}
use Rattle.port_device.specs.Uploads.{AreUploadSizes, has_short_texts}
use Rattle.spec_plant.proofs.Plant.{axis_type, count_symbol, plant, plain_symbol, port_with, symbols_with, title_symbol}

abbrev types : List NamedType
types = axis_type ∷ []

abbrev port : Port
port = port_with (symbols_with (count_symbol 0) (title_symbol 7 (codes "Mix" ++ replicate 5 0)))

abbrev table : SymbolTable
table = table_of types port

abbrev numbers_of : List TableSymbol → List ℕ
numbers_of symbols = map (λ (s : TableSymbol). s.size) symbols

record TableRows : Type 0 where
  -- what the table keeps beside the description: the bytes of each symbol, and those of each type
  sizes : numbers_of table.symbols ≡ 4 ∷ 48 ∷ 2 ∷ 2 ∷ 8 ∷ 1 ∷ []
  extents : table.extents ≡ record { size = 16; align = 4 } ∷ []
  same : map declared table.symbols ≡ port.symbols
  is_table : IsTableOf types port table
  -- which may not be written by everybody, and which a signal writes
  guarded : map is_guarded table.symbols ≡ false ∷ false ∷ true ∷ false ∷ false ∷ false ∷ []
  bound : map (λ n. symbol_bound_to n table.symbols) (0 ∷ 1 ∷ 2 ∷ []) ≡ None ∷ None ∷ Some 3 ∷ []
  second_wave : map (is_bound_to 2) table.symbols ≡ false ∷ false ∷ false ∷ true ∷ false ∷ false ∷ []
  -- names and comments are short, symbols have bytes, and these are in their areas
  short : map has_short_texts table.symbols ≡ replicate 6 true
  bytes : map has_bytes table.symbols ≡ replicate 6 true
  within : map (is_within port.sizes) table.symbols ≡ replicate 6 true
  -- the order of places: `Main.count` before `Main.axis`, and `Flags.bits`, of an earlier area, before both
  before : lies_before (table_symbol types (count_symbol 0)) (table_symbol types (count_symbol 4)) ≡ true
  overlaps : lies_before (table_symbol types (count_symbol 0)) (table_symbol types (count_symbol 3)) ≡ false
  -- the lengths of its uploads
  uploads : AreUploadSizes types table (record { symbols = 300; types = 215 })
  -- a symbol is found by its name in lower case, and a port by its number
  found : option_map (λ (s : PlantSymbol). s.name) (symbol_named (codes "main.title") (plant_port types port).symbols) ≡ Some (codes "Main.title")
  no_upper_case : symbol_named (codes "Main.title") (plant_port types port).symbols ≡ None
  number : option_map (λ (p : PlantPort). p.number) (port_numbered 851 (plant_of plant).ports) ≡ Some 851
  no_number : port_numbered 852 (plant_of plant).ports ≡ None

table_rows : TableRows
unfolding trees_of trees_behind type_size members_end type_align greatest_align type_depth greatest_depth type_text digits
table_rows = record {
  sizes = refl;
  extents = refl;
  same = refl;
  is_table = record {
    placed = record { types = record { count = lit≤ tt; each = refl }; count = lit≤ tt; each = refl; names = refl; apart = refl };
    same = refl;
  };
  guarded = refl;
  bound = refl;
  second_wave = refl;
  short = refl;
  bytes = refl;
  within = refl;
  before = refl;
  overlaps = refl;
  uploads = record { of_symbols = refl; of_types = refl };
  found = refl;
  no_upper_case = refl;
  number = refl;
  no_number = refl;
}

-- what acceptance gives of the plant
sound : AcceptedAreSound → IsSoundPlant (plant_of plant)
unfolding trees_of trees_behind type_size members_end type_align greatest_align type_depth greatest_depth type_text digits
sound s = s plant 3 (record {
  routes = refl;
  types = record { count = lit≤ tt; each = refl };
  some_port = lit< tt;
  few_ports = lit≤ tt;
  numbers = refl;
  each_port = refl;
  each_signal_once = refl;
})

-- two symbols at one place share a byte
share : HaveNoByteInCommon (plant_symbol types (count_symbol 0)) (plant_symbol types (count_symbol 3)) → ⊥
unfolding trees_of trees_behind type_size members_end type_align greatest_align
share h = false≢true (sym (h Process 3 refl))

apart_alone : AreApart (plant_symbol types (count_symbol 0) ∷ [])
apart_alone = (tt, tt)

one_name_twice : AreNamedApart (plant_symbol types (count_symbol 0) ∷ plant_symbol types (count_symbol 8) ∷ []) → ⊥
one_name_twice ((other, rest), more) = other refl

one_number_twice : AreNumberedApart (plant_port types port ∷ plant_port types port ∷ []) → ⊥
one_number_twice ((other, rest), more) = other refl

-- names in an index: the first of two that are one counts
abbrev index : NameNumbers
index = record { entries = (codes "a", 0) ∷ (codes "b", 1) ∷ []; count = 3 }

numbered_a : AreNumbered (codes "A" ∷ codes "b" ∷ codes "a" ∷ []) index → number_of (codes "a") index.entries ≡ Some 0
numbered_a n = n.first (codes "a")

not_counted : AreNumbered (codes "A" ∷ codes "b" ∷ []) index → ⊥
not_counted n = false≢true (ap (λ n. n == 2) n.counted)

-- where the areas begin in an image, and a byte of it
starts : map (start_in port.sizes) (Inputs ∷ Outputs ∷ Memory ∷ Process ∷ []) ≡ 0 ∷ 16 ∷ 32 ∷ 64 ∷ []
starts = refl

abbrev small : Sizes
small = record { inputs = 1; outputs = 2; memory = 3; process = 4 }

of_process : image_byte small (0 ∷ 1 ∷ 2 ∷ 3 ∷ 4 ∷ 5 ∷ 6 ∷ 7 ∷ 8 ∷ 9 ∷ []) Process 1 ≡ Some 7
of_process = refl

put_into : with_image_bytes small (0 ∷ 1 ∷ 2 ∷ 3 ∷ 4 ∷ 5 ∷ 6 ∷ 7 ∷ 8 ∷ 9 ∷ []) Memory 1 (40 ∷ 50 ∷ [])
    ≡ 0 ∷ 1 ∷ 2 ∷ 3 ∷ 40 ∷ 50 ∷ 6 ∷ 7 ∷ 8 ∷ 9 ∷ []
put_into = refl

own_bytes_of_a_port : OWN_SIZE ≡ 5
own_bytes_of_a_port = refl

-- marks: a bit for 64 bytes; a symbol that is guarded has those of all its bytes
marked : map (is_marked (false ∷ true ∷ [])) (0 ∷ 63 ∷ 64 ∷ 127 ∷ 128 ∷ []) ≡ false ∷ false ∷ true ∷ true ∷ false ∷ []
marked = refl

abbrev limit : TableSymbol
limit = table_symbol types (record (plain_symbol (codes "Main.limit") (One (PlainElem DINT)) Process 60 (0 ∷ 0 ∷ 0 ∷ 0 ∷ [])) { read_only = true })

not_marked : IsMarked port.sizes (true ∷ false ∷ []) limit → ⊥
unfolding trees_of trees_behind type_size members_end type_align greatest_align
not_marked m = false≢true (m refl 60 (lit≤ tt) (lit< tt))

-- a table of bound symbols
bound_table : map (bound_at (None ∷ Some 3 ∷ [])) (0 ∷ 1 ∷ 2 ∷ []) ≡ None ∷ Some 3 ∷ None ∷ []
bound_table = refl

abbrev number_in : Option ℕ → ℕ
number_in None = 9
number_in (Some n) = n

bound_to_none : AreBound [] table.symbols → ⊥
unfolding trees_of trees_behind type_size members_end type_align greatest_align
bound_to_none b = false≢true (ap (λ o. number_in o == 3) (b 2))

-- the values of the code that a description is
kinds : map kind_of (kind.Bool ∷ kind.Time ∷ kind.Lreal ∷ []) ≡ BOOL ∷ TIME ∷ LREAL ∷ []
kinds = refl

areas : map area_of (area.Inputs ∷ area.Outputs ∷ area.Memory ∷ area.Process ∷ []) ≡ Inputs ∷ Outputs ∷ Memory ∷ Process ∷ []
areas = refl

an_array : shape_of (shape.Array (record { low = pos 1; count = 3 } ∷ []) (elem.Struct 0)) ≡ Array (record { low = pos 1; count = 3 } ∷ []) (Struct 0)
an_array = refl

a_text : shape_of (shape.One (elem.Text 80)) ≡ One (Text 80)
a_text = refl

-- what holds a world of another version, or of a plant with fewer ports, does not hold this one
abbrev world : World
world = world_of plant []

abbrev held : ℕ → PortsMemory
held version = record { types = types; version = version; manner = Strict; ports = [] }

other_version : HoldsPorts world (held 2) → ⊥
other_version h = false≢true (ap (λ n. n == 1) h.version)

no_port : HoldsPorts world (held 1) → ⊥
no_port h = h.each
