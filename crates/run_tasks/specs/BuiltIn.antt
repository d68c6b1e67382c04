-- The description that `selftest` plays on: one machine that may do everything, and one port without symbols.
-- This project's own choice.
use Rattle.std.specs.Prelude.{[], ◌∷◌, ◌++◌, codes}
use Rattle.spec_plant.specs.Description.{Control, Description}

abbrev pub built_in : Description
built_in = record {
  net = 5 ∷ 1 ∷ 2 ∷ 3 ∷ 1 ∷ 1 ∷ [];
  routes = record { net = 192 ∷ 168 ∷ 0 ∷ 9 ∷ 1 ∷ 1 ∷ []; rights = Control } ∷ [];
  types = [];
  ports = record {
    number = 851;
    facts = record { major = 1; minor = 0; build = 0; name = codes "ADS Self Test" ++ 0 ∷ 0 ∷ 0 ∷ [] };
    sizes = record { inputs = 0; outputs = 0; memory = 0; process = 0 };
    symbols = [];
  } ∷ [];
}
