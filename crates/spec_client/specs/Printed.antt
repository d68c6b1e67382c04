-- What client commands print. This project's own format.
use Rattle.std.specs.Prelude.{ℕ, List, [], ◌∷◌, ◌++◌, flat_map, codes, true, nat_le, ◌&&◌, if◌then◌else◌}
use Rattle.std.specs.Fmt.{decimal, digits}
use Rattle.hex.specs.Hex.{encode_lower}
use Rattle.spec_plant.specs.Description.{Facts}
use Rattle.spec_formats.specs.SymbolEntry.{SymbolEntry}
use Rattle.spec_formats.specs.ValueText.{before_nul}

-- 10 is the line feed
abbrev pub line : List ℕ → List ℕ
line text = text ++ 10 ∷ []

-- a byte from 0x20 to 0x7E is itself, and any other is `\x` and two lower-case hexadecimal digits
abbrev pub escaped_byte : ℕ → List ℕ
escaped_byte byte =
    if nat_le 32 byte && nat_le byte 126 then byte ∷ [] else 92 ∷ 120 ∷ encode_lower (byte ∷ [])

unfoldable pub escaped : List ℕ → List ℕ
escaped bytes = flat_map escaped_byte bytes

-- a name: its bytes before the first NUL
abbrev pub name_text : List ℕ → List ℕ
name_text bytes = escaped (before_nul bytes)

-- `0x` and upper-case hexadecimal digits
abbrev pub hexadecimal : ℕ → List ℕ
hexadecimal n = codes "0x" ++ digits 16 true n

abbrev pub facts_line : Facts → List ℕ
facts_line f = line (codes "name " ++ name_text f.name ++ codes " version " ++ decimal f.major ++ codes "."
    ++ decimal f.minor ++ codes "." ++ decimal f.build)

abbrev pub state_line : ℕ → ℕ → List ℕ
state_line ads device = line (codes "ads " ++ decimal ads ++ codes " device " ++ decimal device)

abbrev pub ok_line : List ℕ
ok_line = line (codes "ok")

abbrev pub ended_line : List ℕ
ended_line = line (codes "ended")

-- name, group, offset, size, flags, type
abbrev pub entry_line : SymbolEntry → List ℕ
entry_line e = line (name_text e.name ++ codes " " ++ hexadecimal e.group ++ codes " " ++ decimal e.offset ++ codes " "
    ++ decimal e.size ++ codes " " ++ hexadecimal e.flags ++ codes " " ++ name_text e.type_name)

-- a moment and a value's text
abbrev pub sample_line : ℕ → List ℕ → List ℕ
sample_line time text = line (decimal time ++ codes " " ++ text)
