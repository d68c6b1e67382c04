-- The dimensions that the code reads before the element. No public clause cites this file.
use Rattle.std.specs.Prelude.{◌≡◌, ◌==◌, List, MatchBool}
use Rattle.spec_plant.specs.TypeTexts as texts
use Rattle.type_layout.specs.ReadTexts.{ends_among, IsBlank}
use Rattle.type_layout.specs.declared.reading.Dimensions.{Dimensions}

abbrev pub all_ends : Dimensions → List texts.Ends
all_ends d = ends_among d.count d.first d.second d.third

abbrev pub HasBlanks : Dimensions → Type 0
HasBlanks d = MatchBool (d.count == 1) (IsBlank d.second × IsBlank d.third)
    (MatchBool (d.count == 2) (IsBlank d.third) (d.count ≡ 3))
