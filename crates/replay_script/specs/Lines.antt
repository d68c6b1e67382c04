-- What functions for lines say of what was read. No public clause cites it.
use Rattle.std.specs.Prelude.{◌≡◌, ℕ, Bool, false, List, [], ◌∷◌, ◌++◌, Option, Some, None, MatchBool, IsSomeAnd}
use Rattle.std.specs.Option.{option_map}
use Rattle.ads_outside.specs.declared.event.Event.TheVariants as event
use Rattle.spec_machine.specs.BuiltLines.{LineKind, Open, Bytes, Close, Tick, Reload, Room, Fail}
use Rattle.spec_machine.specs.Reading.{Reading, Block, line_said, is_among}
use Rattle.spec_machine.specs.ScriptLines.{words_of}
use Rattle.spec_machine.specs.ScriptWords.{bytes_of_word}
use Rattle.replay_script.specs.declared.line_kind.LineKind as declared
use Rattle.replay_script.specs.declared.line_kind.LineKind.TheVariants as kind
use Rattle.replay_script.specs.declared.progress.TextBlock.{TextBlock}
use Rattle.replay_script.specs.declared.script_line.ScriptLine.{ScriptLine}
use Rattle.replay_script.specs.declared.script_line.ScriptLine.TheVariants as line
use Rattle.replay_script.specs.Script.{line_meant}

abbrev pub kind_meant : declared.LineKind → LineKind
kind_meant kind.Open = Open
kind_meant kind.Bytes = Bytes
kind_meant kind.Close = Close
kind_meant kind.Tick = Tick
kind_meant kind.Reload = Reload
kind_meant kind.Room = Room
kind_meant kind.Fail = Fail

-- the text of a reload that goes on
abbrev pub block_meant : TextBlock → Block
block_meant b = record { line = b.line; bytes = b.bytes }

-- the words behind a word: those of the text behind its space
abbrev pub words_behind : Option (List ℕ) → List (List ℕ)
words_behind None = []
words_behind (Some text) = words_of text

-- the word of a list that has no other
abbrev pub only_of : List (List ℕ) → Option (List ℕ)
only_of [] = None
only_of (word ∷ []) = Some word
only_of (word ∷ second ∷ words) = None

-- what is read after a line that said this, if it said something
abbrev pub after_said : Reading → Option ScriptLine → Option Reading
after_said r said = option_map (λ l. line_said (line_meant l) r) said

-- a line opens no connection that is among these
abbrev pub OpensNew : ScriptLine → List ℕ → Type 0
OpensNew (line.Happens (event.Opened c)) opened = is_among c opened ≡ false
OpensNew l opened = Unit {0}

-- a line closes no connection that is among these
abbrev pub ClosesNew : ScriptLine → List ℕ → Type 0
ClosesNew (line.Happens (event.Closed c)) closed = is_among c closed ≡ false
ClosesNew l closed = Unit {0}

-- a line opens and closes each connection once
abbrev pub CanFollow : Reading → ScriptLine → Type 0
CanFollow r l = OpensNew l r.opened × ClosesNew l r.closed

-- the bytes of a hex word stand behind the others, or it is none
abbrev pub AppendsWord : Bool → List ℕ → List ℕ → List ℕ → Type 0
AppendsWord is_hex old new word = MatchBool is_hex
    (IsSomeAnd (bytes_of_word word) (λ bytes. new ≡ old ++ bytes)) (bytes_of_word word ≡ None)
