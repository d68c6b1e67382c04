-- The plant of a load: four machines that may do everything, and one port with a hundred numbers of 32 bits. Its
-- document, and the description that the document writes. This project's own choice.
use Rattle.std.specs.Prelude.{ℕ, ◌*◌, ◌++◌, List, [], ◌∷◌, codes, map, replicate, false, None, pos}
use Rattle.std.specs.List.{range_with_len}
use Rattle.std.specs.Fmt.{decimal}
use Rattle.toml.specs.Data.{Data, string, integer, array, table, Items, Members, no_members, member}
use Rattle.toml.specs.View.{items_of}
use Rattle.spec_plant.specs.Plain.{DINT}
use Rattle.spec_plant.specs.Listed.{Plain, One}
use Rattle.spec_plant.specs.Description.{Control, Process, Route, Symbol, Description}

-- the i-th symbol
abbrev pub symbol_name : ℕ → List ℕ
symbol_name i = codes "L.s" ++ decimal i

abbrev pub symbol_table : ℕ → Members
symbol_table i =
    member (codes "area") (string (codes "data"))
    (member (codes "name") (string (symbol_name i))
    (member (codes "offset") (integer (pos (4 * i))) (member (codes "type") (string (codes "DINT")) no_members)))

unfoldable pub symbol_tables : ℕ → List Data
symbol_tables count = map (λ i. table (symbol_table i)) (range_with_len 0 count)

abbrev pub route_table : List ℕ → Members
route_table net = member (codes "net") (string net) (member (codes "rights") (string (codes "control")) no_members)

unfoldable pub route_tables : List Data
route_tables = map (λ net. table (route_table net))
    (codes "10.0.0.1.1.1" ∷ codes "10.0.0.2.1.1" ∷ codes "10.0.0.3.1.1" ∷ codes "10.0.0.4.1.1" ∷ [])

-- the port, with these symbols
abbrev pub port_table : Items → Members
port_table symbols =
    member (codes "build") (integer (pos 0))
    (member (codes "data") (integer (pos 400))
    (member (codes "major") (integer (pos 1))
    (member (codes "minor") (integer (pos 0))
    (member (codes "name") (string (codes "Load"))
    (member (codes "port") (integer (pos 851)) (member (codes "symbol") (array symbols) no_members))))))

-- the document
unfoldable pub load_table : Members
load_table =
    member (codes "net") (string (codes "5.1.2.3.1.1"))
    (member (codes "port") (array (items_of (table (port_table (items_of (symbol_tables 100))) ∷ [])))
    (member (codes "route") (array (items_of route_tables)) (member (codes "schema") (integer (pos 1)) no_members)))

abbrev pub symbol_of : ℕ → Symbol
symbol_of i = record {
  name = symbol_name i;
  shape = One (Plain DINT);
  area = Process;
  offset = 4 * i;
  comment = [];
  persistent = false;
  read_only = false;
  initial = 0 ∷ 0 ∷ 0 ∷ 0 ∷ [];
  signal = None;
  writers = [];
}

abbrev pub route_of : ℕ → Route
route_of c = record { net = 10 ∷ 0 ∷ 0 ∷ c ∷ 1 ∷ 1 ∷ []; rights = Control }

-- the description
unfoldable pub load_description : Description
load_description = record {
  net = 5 ∷ 1 ∷ 2 ∷ 3 ∷ 1 ∷ 1 ∷ [];
  routes = map route_of (1 ∷ 2 ∷ 3 ∷ 4 ∷ []);
  types = [];
  ports = record {
    number = 851;
    facts = record { major = 1; minor = 0; build = 0; name = codes "Load" ++ replicate 12 0 };
    sizes = record { inputs = 0; outputs = 0; memory = 0; process = 400 };
    symbols = map symbol_of (range_with_len 0 100);
  } ∷ [];
}
