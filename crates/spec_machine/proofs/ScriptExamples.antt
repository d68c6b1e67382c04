-- Worked scripts, lines and texts.
use Rattle.std.proofs.Common.{◌≡◌, ℕ, ◌++◌, List, [], ◌∷◌, Ok, Err, codes, Bool, true, false, refl}
use Rattle.std.specs.Prelude.{Result}
use Rattle.hex.proofs.OnLiterals.{hex_on_literals}
use Rattle.ads_outside.specs.declared.event.Event.TheVariants as event
use Rattle.ads_outside.specs.declared.moves.Move.TheVariants as move
use Rattle.ads_outside.specs.declared.reload_note.ReloadNote.TheVariants as note
use Rattle.spec_machine.specs.BuiltLines.{BuiltLines, LineKind, Open, Bytes}
use Rattle.spec_machine.specs.LogText.{log_text_of}
use Rattle.spec_machine.specs.Script.{kind_of, script_after, script_of}
use Rattle.spec_machine.specs.ScriptLine.{ScriptLine, Happens, TakesAtMost, FailsNext}
use Rattle.spec_machine.specs.ScriptLines.{lines_of}
use Rattle.spec_machine.specs.ScriptWords.{bytes_of_words}
use Rattle.spec_machine.specs.SummaryText.{summary_text_of}
use Rattle.std.specs.Fmt.{digits}

-- a line with its LF
lf : List ℕ → List ℕ
lf text = text ++ 10 ∷ []

crlf : List ℕ → List ℕ
crlf text = text ++ 13 ∷ 10 ∷ []

-- one connection, and its bytes
is_first_line : LineKind → Bool
is_first_line Open = true
is_first_line Bytes = true
is_first_line kind = false

first_lines : BuiltLines
first_lines = record { is_built = is_first_line; most_opened = 1 }

read : List ℕ → Result (List ScriptLine) ℕ
read bytes = script_of first_lines bytes

-- every line is built
whole : BuiltLines
whole = record { is_built = λ (kind : LineKind). true; most_opened = 4294967295 }

read_whole : List ℕ → Result (List ScriptLine) ℕ
read_whole bytes = script_of whole bytes

empty_script : read [] ≡ Ok []
unfolding read first_lines is_first_line lines_of script_after
empty_script = refl

-- hex digits in either case, one word or more
two_lines : read (lf (codes "open 4294967295") ++ codes "bytes 4294967295 00fF A0b1C2 9e") ≡ Ok
    (Happens (event.Opened 4294967295) ∷ Happens (event.Piece 4294967295 (0 ∷ 255 ∷ 160 ∷ 177 ∷ 194 ∷ 158 ∷ [])) ∷ [])
unfolding read first_lines is_first_line lf lines_of script_after kind_of bytes_of_words hex_on_literals
two_lines = refl

-- a CR before an LF is dropped, and one at the end of the text is not
carriage_returns : read (crlf (codes "open 1") ++ crlf (codes "bytes 1 00")) ≡ Ok (Happens (event.Opened 1) ∷ Happens (event.Piece 1 (0 ∷ [])) ∷ [])
unfolding read first_lines is_first_line crlf lines_of script_after kind_of bytes_of_words hex_on_literals
carriage_returns = refl

carriage_return_at_the_end : read (codes "open 1" ++ 13 ∷ []) ≡ Err 1
unfolding read first_lines is_first_line lines_of script_after kind_of bytes_of_words hex_on_literals
carriage_return_at_the_end = refl

opened_twice : read (lf (codes "open 1") ++ lf (codes "open 1")) ≡ Err 2
unfolding read first_lines is_first_line lf lines_of script_after kind_of bytes_of_words hex_on_literals
opened_twice = refl

never_opened : read (lf (codes "open 1") ++ lf (codes "bytes 2 00")) ≡ Err 2
unfolding read first_lines is_first_line lf lines_of script_after kind_of bytes_of_words hex_on_literals
never_opened = refl

no_zero : read (codes "open 0") ≡ Err 1
unfolding read first_lines is_first_line lines_of script_after kind_of bytes_of_words hex_on_literals
no_zero = refl

no_leading_zero : read (codes "open 01") ≡ Err 1
unfolding read first_lines is_first_line lines_of script_after kind_of bytes_of_words hex_on_literals
no_leading_zero = refl

no_greater_number : read (codes "open 4294967296") ≡ Err 1
unfolding read first_lines is_first_line lines_of script_after kind_of bytes_of_words hex_on_literals
no_greater_number = refl

two_spaces : read (lf (codes "open 1") ++ codes "bytes  1 00") ≡ Err 2
unfolding read first_lines is_first_line lf lines_of script_after kind_of bytes_of_words hex_on_literals
two_spaces = refl

odd_digits : read (lf (codes "open 1") ++ codes "bytes 1 00 000") ≡ Err 2
unfolding read first_lines is_first_line lf lines_of script_after kind_of bytes_of_words hex_on_literals
odd_digits = refl

no_bytes : read (lf (codes "open 1") ++ lf (codes "bytes 1 ")) ≡ Err 2
unfolding read first_lines is_first_line lf lines_of script_after kind_of bytes_of_words hex_on_literals
no_bytes = refl

not_built : read (lf (codes "open 1") ++ lf (codes "close 1")) ≡ Err 2
unfolding read first_lines is_first_line lf lines_of script_after kind_of bytes_of_words hex_on_literals
not_built = refl

empty_line : read (10 ∷ []) ≡ Err 1
unfolding read first_lines is_first_line lines_of script_after kind_of bytes_of_words hex_on_literals
empty_line = refl

-- all lines of the grammar, with a reload of two lines of text
all_lines : read_whole
    (lf (codes "# a comment") ++ lf [] ++ lf (codes "open 7") ++ lf (codes "tick 18446744073709551615") ++ lf (codes "reload")
    ++ crlf (codes "a") ++ lf [] ++ crlf (codes ".") ++ lf (codes "room 7 0") ++ lf (codes "fail 7") ++ codes "close 7") ≡ Ok
    (Happens (event.Opened 7) ∷ Happens (event.Tick 18446744073709551615)
    ∷ Happens (event.Reload (97 ∷ 13 ∷ 10 ∷ 10 ∷ [])) ∷ TakesAtMost 7 0 ∷ FailsNext 7 ∷ Happens (event.Closed 7) ∷ [])
unfolding read_whole whole lf crlf lines_of script_after kind_of bytes_of_words hex_on_literals
all_lines = refl

-- a connection is not opened again, and takes nothing once it is closed
closed_for_good : read_whole (lf (codes "open 7") ++ lf (codes "close 7") ++ lf (codes "fail 7")) ≡ Err 3
unfolding read_whole whole lf lines_of script_after kind_of bytes_of_words hex_on_literals
closed_for_good = refl

-- a reload without its full stop is off the grammar at its own line
no_full_stop : read_whole (lf (codes "tick 0") ++ lf (codes "reload") ++ lf (codes "a") ++ lf (codes "b")) ≡ Err 2
unfolding read_whole whole lf lines_of script_after kind_of bytes_of_words hex_on_literals
no_full_stop = refl

-- the second reload has no note, and so no line; nothing is printed of an offer that took nothing
log_lines : log_text_of (note.Ok 255 ∷ [])
    (move.Event (event.Reload []) ∷ move.Took 1 3 (0 ∷ 254 ∷ []) ∷ move.Took 1 1 [] ∷ move.Event (event.Reload []) ∷ move.Lost 1 ∷ move.Shut 20 ∷ []) ≡ lf
    (codes "reload ok 255") ++ lf (codes "out 1 00fe") ++ lf (codes "lost 1") ++ lf (codes "shut 20")
unfolding lf log_text_of hex_on_literals digits
log_lines = refl

refused_note : log_text_of (note.Refused 0 ∷ []) (move.Event (event.Reload []) ∷ []) ≡ lf (codes "reload refused 0")
unfolding lf log_text_of digits
refused_note = refl

summary_line : summary_text_of (record { connections = 1; requests = 1; replies = 1; samples = 0; accepted = 0; refused = 0 }) ≡ lf
    (codes "connections 1 requests 1 replies 1 samples 0 reloads 0 0")
unfolding lf digits
summary_line = refl
