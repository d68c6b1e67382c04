-- The entries of a stored body, and which descriptions take them.
use Rattle.std.specs.Prelude.{ℕ, List, [], Bool, ◌&&◌, ◌==◌, length, Option, Some, None, option_map, unwrap_or, bytes_eq}
use Rattle.std.specs.List.{All}
use Rattle.std.specs.Borrow.{Bor}
use Rattle.name_paths.specs.Identifier.{lower}
use Rattle.spec_plant.specs.Listed.{NamedType}
use Rattle.spec_plant.specs.Description.{Symbol, Port, Description}
use Rattle.spec_plant.specs.Accepted.{IsAccepted}
use Rattle.spec_plant.specs.AcceptedTypes.{IsSized}
use Rattle.spec_store.specs.BodyText.{StoredEntry, entries_of}

-- a description that is accepted for some number of signals
pub record IsAcceptedForSome (d : Description) : Type 0 where
  pub signals : ℕ
  pub accepted : IsAccepted d signals

-- the entries of a body text; none where there is no body, or the bytes are no body text
abbrev pub entries_stored : Option (List ℕ) → List StoredEntry
entries_stored None = []
entries_stored (Some body) = unwrap_or (entries_of body) []

-- the bytes of a body that was lent, if there is one
abbrev pub bytes_lent : Option (Bor (List ℕ)) → Option (List ℕ)
bytes_lent body = option_map (λ (b : Bor (List ℕ)). b.now) body

-- whether an entry is of the symbol with this port, name, form and size
abbrev pub is_of : ℕ → List ℕ → List ℕ → ℕ → StoredEntry → Bool
is_of port name form size e =
    (e.port == port) && bytes_eq (lower e.name) (lower name) && bytes_eq e.form form && (length e.bytes == size)

-- the types of all these symbols name only types of the list, and are not too large
abbrev pub AreSized : List NamedType → List Symbol → Type 0
AreSized types symbols = All (λ (s : Symbol). IsSized types s.shape) symbols

abbrev pub AreSizedPorts : List NamedType → List Port → Type 0
AreSizedPorts types ports = All (λ (p : Port). AreSized types p.symbols) ports
