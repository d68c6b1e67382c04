-- For private contracts, and cited by no public clause: elements whose place is in a list of so many types.
use Rattle.std.specs.Prelude.{ℕ, ◌<◌}
use Rattle.type_layout.specs.declared.shape.Elem.{Elem}
use Rattle.type_layout.specs.declared.shape.Elem.TheVariants as elem

abbrev pub IsWithin : ℕ → Elem → Type 0
IsWithin n (elem.Plain kind) = Unit {0}
IsWithin n (elem.Text length) = Unit {0}
IsWithin n (elem.Struct place) = place < n
IsWithin n (elem.Enum place) = place < n
