-- Counts of looks.
use Rattle.std.specs.Prelude.{ℕ, Bool, if◌then◌else◌}
use Rattle.ads_outside.specs.Rose.{raised}

-- one more where that is so
abbrev pub raised_if : Bool → ℕ → ℕ
raised_if so count = if so then raised count else count
