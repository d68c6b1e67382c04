-- Scripts open each connection once.
use Rattle.std.specs.Prelude.{◌≡◌, ℕ, false, List, [], ◌∷◌, ◌++◌}
use Rattle.spec_machine.specs.Reading.{is_among, opened_by}
use Rattle.spec_machine.specs.ScriptLine.{ScriptLine}

-- none of these numbers is among the others
abbrev pub AreNew : List ℕ → List ℕ → Type 0
AreNew [] opened = Unit {0}
AreNew (c ∷ cs) opened = (is_among c opened ≡ false) × AreNew cs opened

-- each line opens a number that is none of these and that no line before it opens
unfoldable pub OpenNew : List ℕ → List ScriptLine → Type 0
OpenNew opened [] = Unit {0}
OpenNew opened (line ∷ lines) =
    AreNew (opened_by line) opened × OpenNew (opened ++ opened_by line) lines
