-- The connections of a machine that are there.
use Rattle.std.specs.Prelude.{List, not, filter}
use Rattle.spec_machine.specs.Connection.{Connection}

abbrev pub present : {C : Type 0} → List (Connection C) → List (Connection C)
present {C} ks = filter (λ (k : Connection C). not k.gone) ks
