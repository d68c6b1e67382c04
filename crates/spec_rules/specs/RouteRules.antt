-- Description rules 3 to 5: the schema, NetIds, and the rights of routes.
use Rattle.std.specs.Prelude.{ℕ, suc, List, [], Bool, not, ◌&&◌, ◌||◌, Option, Some, None, is_some, option_map, if◌then◌else◌, bytes_eq, ℤ, pos}
use Rattle.std.specs.List.{list_all}
use Rattle.spec_rules.specs.Written.{WrittenRoute}
use Rattle.spec_rules.specs.Places.{first_wrong}
use Rattle.spec_rules.specs.Nets.{net_of}
use Rattle.spec_rules.specs.Described.{rights_of}
use Rattle.spec_plant.specs.AcceptedTypes.{is_same_number}

-- rule 3: the schema is 1 or 2
unfoldable pub wrong_schema : ℤ → Option ℕ
wrong_schema schema =
    if is_same_number schema (pos 1) || is_same_number schema (pos 2) then None else Some 0

-- a NetId that no earlier route has
abbrev pub is_right_route : List WrittenRoute → WrittenRoute → Bool
is_right_route before r =
    is_some (net_of r.net) && list_all (λ (e : WrittenRoute). not (bytes_eq e.net r.net)) before

-- rule 4: the machine's own NetId (item 0), and those of the routes (1 plus the place)
unfoldable pub wrong_net : List ℕ → List WrittenRoute → Option ℕ
wrong_net net routes =
    if is_some (net_of net) then option_map suc (first_wrong is_right_route [] routes) else Some 0

-- rule 5: the rights of each route
unfoldable pub wrong_rights : List WrittenRoute → Option ℕ
wrong_rights routes = first_wrong (λ before (r : WrittenRoute). is_some (rights_of r.rights)) [] routes
