-- The step that a value of the code's `Step` is.
use Rattle.name_paths.specs.Path as path
use Rattle.name_paths.specs.Path.{name_step, index_step}
use Rattle.name_paths.specs.Indexes.{numbers_of_indexes, HasBlanks}
use Rattle.name_paths.specs.declared.step.Step.{Step}
use Rattle.name_paths.specs.declared.step.Step.TheVariants.{Name, Index}

-- the step by name or by index
abbrev pub step_of : Step → path.Step
step_of (Name text) = name_step text.now
step_of (Index indexes) = index_step (numbers_of_indexes indexes)

-- a step by index has 0 in each unused place
abbrev pub HasBlankPlaces : Step → Type 0
HasBlankPlaces (Name text) = Unit {0}
HasBlankPlaces (Index indexes) = HasBlanks indexes
