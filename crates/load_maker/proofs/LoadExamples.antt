-- The plant and the script of small loads, by computation.
use Rattle.std.specs.Prelude.{◌≡◌, refl, List, [], ◌∷◌, ◌++◌, codes, length, map, pos, Some, None, slice_get, flat_map}
use Rattle.std.specs.Fmt.{digits}
use Rattle.hex.proofs.OnLiterals.{hex_on_literals}
use Rattle.ads_outside.specs.declared.event.Event.TheVariants as event
use Rattle.spec_formats.specs.Request.{Read, Write, AddDeviceNotification}
use Rattle.spec_frames.proofs.Hex.{hex}
use Rattle.spec_machine.specs.ScriptLine.{Happens}
use Rattle.spec_plant.specs.Description.{Symbol, Port, Route}
use Rattle.toml.specs.Data.{integer, string, get_member}
use Rattle.load_maker.specs.MadeLines.{Opens, Sends, Ticks, script_said, script_text}
use Rattle.load_maker.specs.LoadScript.{request_packet, request_line, watch_line, watch_lines, load_number, turn_request, tick_lines, first_turns, load_lines}
use Rattle.load_maker.specs.LoadDescription.{symbol_of, symbol_table, symbol_tables, route_table, route_tables, load_table, load_description}

abbrev symbols_of : List Port → List Symbol
symbols_of ports = flat_map (λ (p : Port). p.symbols) ports

-- the row of numbers that begins with 1 is that of this generator, modulo 2^31
numbers : map (load_number 1) (0 ∷ 1 ∷ 2 ∷ []) ≡ 1 ∷ 1103527590 ∷ 377401575 ∷ []
unfolding load_number
numbers = refl

-- the one request of a load of 1: client 3 reads four bytes at 388
one_turn : first_turns 1 1 ≡ request_line 3 11 (Read 0x4040 388 4) ∷ []
unfolding load_number request_packet
one_turn = refl

-- its frame
one_frame : request_line 3 11 (Read 0x4040 388 4) ≡ Sends 3 (hex (codes
    "00002c000000 0501020301015303 0a00000301010380 0200 0400 0c000000 00000000 0b000000 40400000 84010000 04000000"))
unfolding request_packet
one_frame = refl

-- a number decides between a read and a write, by its part of 400, and which of a hundred values is meant
reads_and_writes : map (λ x. turn_request x 5) (0 ∷ 399 ∷ 400 ∷ 803 ∷ [])
    ≡ Read 0x4040 0 4 ∷ Read 0x4040 396 4 ∷ Write 0x4040 0 (5 ∷ 0 ∷ 0 ∷ 0 ∷ []) ∷ Read 0x4040 0 4 ∷ []
reads_and_writes = refl

-- client 2 watches the values from the 25th on, on change, under the invoke ids from 1 on
watches : watch_line 2 3 ≡ request_line 2 4 (AddDeviceNotification 0x4040 112 4 4 0 0)
unfolding request_packet
watches = refl

ten_each : length (watch_lines 4) ≡ 10
unfolding watch_lines request_packet
ten_each = refl

-- a tick of ten milliseconds a request, behind each tenth of them and at the end
ticks : flat_map tick_lines (9 ∷ 10 ∷ 11 ∷ 20 ∷ []) ≡ Ticks 1000000 ∷ Ticks 2000000 ∷ []
ticks = refl

-- four open, then watch ten values each, then come the requests
no_request : length (load_lines 0) ≡ 45
unfolding watch_lines request_packet load_number
no_request = refl

first_line : slice_get (load_lines 1) 0 ≡ Some (Opens 1)
unfolding watch_lines request_packet load_number
first_line = refl

turn_behind_the_watches : slice_get (load_lines 1) 44 ≡ Some (request_line 3 11 (Read 0x4040 388 4))
unfolding watch_lines request_packet load_number
turn_behind_the_watches = refl

last_line : slice_get (load_lines 1) 45 ≡ Some (Ticks 200000)
unfolding watch_lines request_packet load_number
last_line = refl

nothing_behind : slice_get (load_lines 1) 46 ≡ None
unfolding watch_lines request_packet load_number
nothing_behind = refl

-- what lines say, and how they are written
said : script_said (Opens 2 ∷ Sends 2 (171 ∷ []) ∷ Ticks 7 ∷ [])
    ≡ Happens (event.Opened 2) ∷ Happens (event.Piece 2 (171 ∷ [])) ∷ Happens (event.Tick 7) ∷ []
said = refl

written : script_text (Opens 2 ∷ Sends 2 (0 ∷ 171 ∷ []) ∷ Ticks 100000 ∷ [])
    ≡ codes "open 2\nbytes 2 00ab\ntick 100000\n"
unfolding digits hex_on_literals
written = refl

-- the plant: a hundred numbers, one behind another
hundred : length (symbols_of load_description.ports) ≡ 100
unfolding load_description
hundred = refl

last_symbol : slice_get (symbols_of load_description.ports) 99 ≡ Some (symbol_of 99)
unfolding load_description
last_symbol = refl

its_name_and_place : (symbol_of 99).name ++ (symbol_of 99).offset ∷ [] ≡ codes "L.s99" ++ 396 ∷ []
unfolding digits
its_name_and_place = refl

routes : map (λ (r : Route). r.net) load_description.routes
    ≡ (10 ∷ 0 ∷ 0 ∷ 1 ∷ 1 ∷ 1 ∷ []) ∷ (10 ∷ 0 ∷ 0 ∷ 2 ∷ 1 ∷ 1 ∷ []) ∷ (10 ∷ 0 ∷ 0 ∷ 3 ∷ 1 ∷ 1 ∷ []) ∷ (10 ∷ 0 ∷ 0 ∷ 4 ∷ 1 ∷ 1 ∷ []) ∷ []
unfolding load_description
routes = refl

-- the document says the same
offset_in_it : get_member (codes "offset") (symbol_table 99) ≡ Some (integer (pos 396))
unfolding digits
offset_in_it = refl

schema_of_it : get_member (codes "schema") load_table ≡ Some (integer (pos 1))
unfolding load_table symbol_tables route_tables digits
schema_of_it = refl

rights_in_it : get_member (codes "rights") (route_table (codes "10.0.0.1.1.1")) ≡ Some (string (codes "control"))
rights_in_it = refl
