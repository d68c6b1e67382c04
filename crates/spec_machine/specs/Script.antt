-- The grammar of scripts: what a line says, and the script of some bytes.
-- This project's own format.
use Rattle.std.specs.Prelude.{ℕ, ◌+◌, ◌&&◌, Bool, true, not, List, [], ◌∷◌, length, nat_lt, ◌==◌, if◌then◌else◌, Option, Some, None, Result, Ok, Err, codes}
use Rattle.std.specs.Option.{option_map, option_map_or, option_and_then}
use Rattle.std.specs.Str.{bytes_eq}
use Rattle.ads_outside.specs.declared.event.Event.TheVariants as event
use Rattle.spec_machine.specs.BuiltLines.{BuiltLines, LineKind, Blank, Open, Bytes, Close, Tick, Reload, Room, Fail}
use Rattle.spec_machine.specs.Reading.{Reading, Block, nothing_read, is_among, is_open, one_more_line, line_said, reload_begun, reload_goes_on, reload_ended}
use Rattle.spec_machine.specs.ScriptLine.{ScriptLine, Happens, TakesAtMost, FailsNext}
use Rattle.spec_machine.specs.ScriptLines.{lines_of, text_of, words_of}
use Rattle.spec_machine.specs.ScriptWords.{number_of_word, connection_of_word, bytes_of_words}

-- an open connection of this number
abbrev pub open_connection : Reading → List ℕ → Option ℕ
open_connection r word =
    option_and_then (λ c. if is_open r c then Some c else None) (connection_of_word word)

-- a number that no line opened, where one more connection may be opened
abbrev pub fresh_number : BuiltLines → Reading → List ℕ → Option ℕ
fresh_number built r word = option_and_then
    (λ c. if nat_lt (length r.opened) built.most_opened && not (is_among c r.opened)
    then Some c else None)
    (connection_of_word word)

-- what is read after a line of this kind with these words behind the first; none is off the grammar
abbrev pub after_words : BuiltLines → Reading → LineKind → List (List ℕ) → Option Reading
after_words built r Open (c ∷ []) =
    option_map (λ c. line_said (Happens (event.Opened c)) r) (fresh_number built r c)
after_words built r Bytes (c ∷ word ∷ words) = option_and_then
    (λ c. option_map (λ bytes. line_said (Happens (event.Piece c bytes)) r)
    (bytes_of_words (word ∷ words)))
    (open_connection r c)
after_words built r Close (c ∷ []) =
    option_map (λ c. line_said (Happens (event.Closed c)) r) (open_connection r c)
after_words built r Tick (t ∷ []) =
    option_map (λ t. line_said (Happens (event.Tick t)) r) (number_of_word t)
after_words built r Reload [] = Some (reload_begun r)
after_words built r Room (c ∷ n ∷ []) = option_and_then
    (λ c. option_map (λ n. line_said (TakesAtMost c n) r) (number_of_word n)) (open_connection r c)
after_words built r Fail (c ∷ []) =
    option_map (λ c. line_said (FailsNext c) r) (open_connection r c)
after_words built r kind words = None

-- the kind of a line with this first word
unfoldable pub kind_of : List ℕ → Option LineKind
kind_of word =
    if bytes_eq word (codes "open") then Some Open
    else if bytes_eq word (codes "bytes") then Some Bytes
    else if bytes_eq word (codes "close") then Some Close
    else if bytes_eq word (codes "tick") then Some Tick
    else if bytes_eq word (codes "reload") then Some Reload
    else if bytes_eq word (codes "room") then Some Room
    else if bytes_eq word (codes "fail") then Some Fail
    else None

abbrev pub after_built : BuiltLines → Reading → List (List ℕ) → LineKind → Option Reading
after_built built r words kind =
    if built.is_built kind then after_words built r kind words else None

-- what is read after a line of these words
abbrev pub after_line_of_words : BuiltLines → Reading → List (List ℕ) → Option Reading
after_line_of_words built r [] = None
after_line_of_words built r (word ∷ words) =
    option_and_then (after_built built r words) (kind_of word)

-- an empty line, or one that begins with `#`
abbrev pub is_blank_line : List ℕ → Bool
is_blank_line [] = true
is_blank_line (b ∷ bs) = b == 35

-- after a line outside a reload's text
abbrev pub after_plain_line : BuiltLines → Reading → List ℕ → Option Reading
after_plain_line built r text =
    if built.is_built Blank && is_blank_line text then Some (one_more_line r)
    else after_line_of_words built r (words_of text)

-- after a line below `reload`: a full stop alone ends its text
abbrev pub after_text_line : Block → List ℕ → Reading → Reading
after_text_line b line r =
    if bytes_eq (text_of line) (codes ".") then reload_ended b r else reload_goes_on b line r

-- what is read after one more line
abbrev pub after_line : BuiltLines → Reading → List ℕ → Option Reading
after_line built r line = option_map_or (λ b. Some (after_text_line b line r)) r.block
    (after_plain_line built r (text_of line))

-- what all lines said; a reload whose text goes on to the end is off the grammar at its line
abbrev pub said_by : Reading → Result (List ScriptLine) ℕ
said_by r = option_map_or (λ b. Err b.line) r.block (Ok r.said)

-- what further lines say, or the number of the first that is off the grammar
unfoldable pub script_after : BuiltLines → Reading → List (List ℕ) → Result (List ScriptLine) ℕ
script_after built r [] = said_by r
script_after built r (line ∷ lines) =
    option_map_or (λ s. script_after built s lines) (after_line built r line) (Err (r.lines + 1))

-- the script of some bytes, or the number of its first line off the grammar, counted from 1
abbrev pub script_of : BuiltLines → List ℕ → Result (List ScriptLine) ℕ
script_of built bytes = script_after built nothing_read (lines_of bytes)
