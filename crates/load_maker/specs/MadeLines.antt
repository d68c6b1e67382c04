-- Lines of a script that is made: what each says, and how it is written. This project's own format.
use Rattle.std.specs.Prelude.{ℕ, ◌++◌, List, [], ◌∷◌, codes, map, flat_map}
use Rattle.std.specs.Fmt.{decimal}
use Rattle.hex.specs.Hex.{encode_lower}
use Rattle.ads_outside.specs.declared.event.Event.TheVariants as event
use Rattle.spec_machine.specs.ScriptLine.{ScriptLine, Happens}

-- a connection begins, bytes come on one, or the clock says a moment
pub data MadeLine : Type 0 where
  Opens : ℕ → MadeLine
  Sends : ℕ → List ℕ → MadeLine
  Ticks : ℕ → MadeLine

-- what a line says
abbrev pub line_said : MadeLine → ScriptLine
line_said (Opens c) = Happens (event.Opened c)
line_said (Sends c bytes) = Happens (event.Piece c bytes)
line_said (Ticks t) = Happens (event.Tick t)

-- its text, with the line feed: one hex word, in lower case
abbrev pub line_text : MadeLine → List ℕ
line_text (Opens c) = codes "open " ++ decimal c ++ 10 ∷ []
line_text (Sends c bytes) = codes "bytes " ++ decimal c ++ codes " " ++ encode_lower bytes ++ 10 ∷ []
line_text (Ticks t) = codes "tick " ++ decimal t ++ 10 ∷ []

abbrev pub script_said : List MadeLine → List ScriptLine
script_said lines = map line_said lines

abbrev pub script_text : List MadeLine → List ℕ
script_text lines = flat_map line_text lines
