-- Description rules 9 and 15: ports, and the size of their uploads.
use Rattle.std.specs.Prelude.{ℕ, List, [], length, map, Bool, true, false, not, ◌&&◌, nat_lt, nat_le, Option, Some, None, if◌then◌else◌, ℤ, pos, negsuc}
use Rattle.std.specs.List.{list_all}
use Rattle.spec_plant.specs.Listed.{NamedType}
use Rattle.spec_plant.specs.Entries.{upload_size}
use Rattle.spec_plant.specs.Accepted.{image_size, IMAGE_LIMIT}
use Rattle.spec_plant.specs.AcceptedTypes.{is_same_number}
use Rattle.spec_rules.specs.Written.{WrittenPort}
use Rattle.spec_rules.specs.Tables.{is_two}
use Rattle.spec_rules.specs.Places.{first_wrong, lesser}
use Rattle.spec_rules.specs.Described.{sizes_described, symbol_described}

-- a number from the least to the greatest
abbrev pub is_between : ℕ → ℕ → ℤ → Bool
is_between least greatest (pos n) = nat_le least n && nat_le n greatest
is_between least greatest (negsuc n) = false

-- a number that is not below 0
abbrev pub is_natural : ℤ → Bool
is_natural (pos n) = true
is_natural (negsuc n) = false

-- the greatest image of a port under a schema
abbrev pub image_limit : ℤ → ℕ
image_limit schema = if is_two schema then IMAGE_LIMIT else 1048576

-- at most 16 bytes, each from a space to a tilde
abbrev pub is_port_name : List ℕ → Bool
is_port_name text = nat_le (length text) 16 && list_all (λ c. nat_le 0x20 c && nat_le c 0x7E) text

-- each area's size is 0 or more, and their sum is not above the limit
abbrev pub has_right_sizes : ℕ → WrittenPort → Bool
has_right_sizes limit p =
    is_natural p.inputs && is_natural p.outputs && is_natural p.memory && is_natural p.process
    && nat_le (image_size (sizes_described p)) limit

abbrev pub is_right_port : ℕ → List WrittenPort → WrittenPort → Bool
is_right_port limit before p =
    is_between 1 65535 p.number && list_all (λ (e : WrittenPort). not (is_same_number e.number p.number)) before
    && is_port_name p.name
    && (is_between 0 255 p.major && is_between 0 255 p.minor && is_between 0 65535 p.build)
    && has_right_sizes limit p && nat_le (length p.symbols) 10000

-- rule 9: each port; there are 1 to 16 (item 16)
unfoldable pub wrong_port : ℤ → List WrittenPort → Option ℕ
wrong_port schema ports =
    lesser (first_wrong (is_right_port (image_limit schema)) [] ports)
    (if nat_lt 0 (length ports) && nat_le (length ports) 16 then None else Some 16)

-- rule 15: the upload of each port has at most 2,000,000 bytes
abbrev pub has_right_upload : List NamedType → WrittenPort → Bool
has_right_upload types p = nat_le (upload_size types (map (symbol_described types) p.symbols)) 2000000

unfoldable pub wrong_upload : List NamedType → List WrittenPort → Option ℕ
wrong_upload types ports = first_wrong (λ before p. has_right_upload types p) [] ports
