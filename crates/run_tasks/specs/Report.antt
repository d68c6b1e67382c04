-- What `check` prints of a description: a line a port, and a line of counts. This project's own format; 10 is the line
-- feed.
use Rattle.std.specs.Prelude.{ℕ, List, [], ◌∷◌, ◌++◌, length, flat_map, sum_by, take_while, not, ◌==◌, codes}
use Rattle.spec_plant.specs.Listed.{NamedType}
use Rattle.spec_plant.specs.Description.{Port, Description}
use Rattle.spec_plant.specs.Entries.{upload_size}
use Rattle.spec_plant.specs.Accepted.{image_size}
use Rattle.spec_machine.specs.SummaryText.{counted}

-- the bytes before the first NUL
abbrev pub before_nul : List ℕ → List ℕ
before_nul bytes = take_while (λ byte. not (byte == 0)) bytes

-- number, name, bytes of the image, symbols, and bytes of the upload
abbrev pub port_line : List NamedType → Port → List ℕ
port_line types p =
    counted (codes "port ") p.number ++ codes " name " ++ before_nul p.facts.name
    ++ counted (codes " image ") (image_size p.sizes)
    ++ counted (codes " symbols ") (length p.symbols)
    ++ counted (codes " upload ") (upload_size types p.symbols) ++ 10 ∷ []

-- the symbols of all ports
abbrev pub symbol_count : List Port → ℕ
symbol_count ports = sum_by (λ (p : Port). length p.symbols) ports

abbrev pub counts_line : Description → List ℕ
counts_line d =
    counted (codes "ok ports ") (length d.ports)
    ++ counted (codes " symbols ") (symbol_count d.ports)
    ++ counted (codes " types ") (length d.types) ++ 10 ∷ []

abbrev pub report_of : Description → List ℕ
report_of d = flat_map (port_line d.types) d.ports ++ counts_line d
