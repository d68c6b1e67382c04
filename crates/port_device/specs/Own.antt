-- A port's own bytes, as an access reaches them.
use Rattle.std.specs.Prelude.{◌≡◌, ℕ, List, map, Result, Ok, Err}
use Rattle.return_codes.specs.declared.code.Code.{Code}
use Rattle.return_codes.specs.Code.{number_of}
use Rattle.spec_machine.specs.World.{own_names}
use Rattle.spec_machine.specs.Access.{Addressed, WholeByte}

-- so many of the port's own bytes, from one of them on, are what an access reaches; or the code refuses both
abbrev pub ReachesOwn : ℕ → ℕ → ℕ → Result (List Addressed) ℕ → Result (Unit {0}) Code → Type 0
ReachesOwn port first len reached (Ok done) = reached ≡ Ok (map WholeByte (own_names port first len))
ReachesOwn port first len reached (Err code) = reached ≡ Err (number_of code)
