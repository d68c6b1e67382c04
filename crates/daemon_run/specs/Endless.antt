-- How many events a daemon serves.
use Rattle.std.specs.Prelude.{ℕ, ◌-◌, ◌^◌}

-- as many events as a wire can count
abbrev pub endless : ℕ
endless = 2 ^ 64 - 1

-- one less, with a store
abbrev pub endless_kept : ℕ
endless_kept = 2 ^ 64 - 2
