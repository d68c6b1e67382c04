-- What a line says, by its words.
use Rattle.std.proofs.Common.{◌≡◌, ℕ, List, [], ◌∷◌, Option, Some, None, refl, sym, ap, ◌∙◌, subst, ◌+◌, Err}
use Rattle.std.specs.Option.{option_map, option_and_then}
use Rattle.ads_outside.specs.declared.event.Event.TheVariants as event
use Rattle.spec_machine.specs.BuiltLines.{Open, Bytes, Close, Tick, Reload, Room, Fail, all_lines}
use Rattle.spec_machine.specs.Reading.{Reading, line_said}
use Rattle.spec_machine.specs.Script.{script_after, after_words, after_line, open_connection, fresh_number, said_by}
use Rattle.spec_machine.specs.ScriptLine.{ScriptLine, Happens, TakesAtMost, FailsNext}
use Rattle.spec_machine.specs.ScriptLines.{words_of}
use Rattle.spec_machine.specs.ScriptWords.{bytes_of_words, number_of_word}
use Rattle.replay_script.specs.Lines.{words_behind, only_of}
use Rattle.replay_script.proofs.LineLemmas.{words_of-has_first}

-- a line of one word behind the first
abbrev pub after_one : Reading → Option ℕ → (ℕ → ScriptLine) → Option Reading
after_one r number line = option_map (λ n. line_said (line n) r) number

pub after_open : (r : Reading) (words : List (List ℕ)) → after_words all_lines r Open words
    ≡ option_and_then (λ word. after_one r (fresh_number all_lines r word) (λ c. Happens (event.Opened c))) (only_of words)
after_open r [] = refl
after_open r (word ∷ []) = refl
after_open r (word ∷ second ∷ words) = refl

pub after_close : (r : Reading) (words : List (List ℕ)) → after_words all_lines r Close words
    ≡ option_and_then (λ word. after_one r (open_connection r word) (λ c. Happens (event.Closed c))) (only_of words)
after_close r [] = refl
after_close r (word ∷ []) = refl
after_close r (word ∷ second ∷ words) = refl

pub after_tick : (r : Reading) (words : List (List ℕ)) → after_words all_lines r Tick words
    ≡ option_and_then (λ word. after_one r (number_of_word word) (λ t. Happens (event.Tick t))) (only_of words)
after_tick r [] = refl
after_tick r (word ∷ []) = refl
after_tick r (word ∷ second ∷ words) = refl

pub after_fail : (r : Reading) (words : List (List ℕ)) → after_words all_lines r Fail words
    ≡ option_and_then (λ word. after_one r (open_connection r word) (λ c. FailsNext c)) (only_of words)
after_fail r [] = refl
after_fail r (word ∷ []) = refl
after_fail r (word ∷ second ∷ words) = refl

-- a line of two words behind the first
pub after_room : (r : Reading) (word : List ℕ) (words : List (List ℕ)) → after_words all_lines r Room (word ∷ words)
    ≡ option_and_then (λ number. option_and_then (λ c. after_one r (number_of_word number) (λ n. TakesAtMost c n)) (open_connection r word)) (only_of words)
after_room r word [] = refl
after_room r word (number ∷ []) = refl
after_room r word (number ∷ second ∷ words) = refl

-- `bytes` has two words or more
pub after_bytes : (r : Reading) (word text : List ℕ) → after_words all_lines r Bytes (word ∷ words_of text)
    ≡ option_and_then (λ c. option_map (λ bytes. line_said (Happens (event.Piece c bytes)) r) (bytes_of_words (words_of text))) (open_connection r word)
after_bytes r word text = let h = words_of-has_first text in
    let P : List (List ℕ) → Type 0 = λ words. after_words all_lines r Bytes (word ∷ words)
    ≡ option_and_then (λ c. option_map (λ bytes. line_said (Happens (event.Piece c bytes)) r) (bytes_of_words words)) (open_connection r word) in
    subst P (sym h.is) refl

-- `reload` has no word behind it
pub after_reload : (r : Reading) (text : List ℕ) → after_words all_lines r Reload (words_of text) ≡ None
after_reload r text = let h = words_of-has_first text in
    let P : List (List ℕ) → Type 0 = λ words. after_words all_lines r Reload words ≡ None in
    subst P (sym h.is) refl

-- a line that is read, one that is refused, and the end
pub script_after-read : (r s : Reading) (line : List ℕ) (lines : List (List ℕ)) → after_line all_lines r line ≡ Some s
    → script_after all_lines r (line ∷ lines) ≡ script_after all_lines s lines
unfolding script_after
script_after-read r s line lines e = rw e refl

pub script_after-refused : (r : Reading) (line : List ℕ) (lines : List (List ℕ)) → after_line all_lines r line ≡ None
    → script_after all_lines r (line ∷ lines) ≡ Err (r.lines + 1)
unfolding script_after
script_after-refused r line lines e = rw e refl

pub script_after-end : (r : Reading) → script_after all_lines r [] ≡ said_by r
unfolding script_after
script_after-end r = refl

-- a whole `bytes` line
pub after_bytes-piece : (r : Reading) (rest others : Option (List ℕ)) (text word further bytes : List ℕ) (c : ℕ) → rest ≡ Some text
    → words_of text ≡ word ∷ words_behind others → others ≡ Some further → open_connection r word ≡ Some c
    → bytes_of_words (words_of further) ≡ Some bytes
    → after_words all_lines r Bytes (words_behind rest) ≡ Some (line_said (Happens (event.Piece c bytes)) r)
after_bytes-piece r rest others text word further bytes c is words more opened hex =
    ap (λ o. after_words all_lines r Bytes (words_behind o)) is ∙ (ap (after_words all_lines r Bytes) words
    ∙ (ap (λ o. after_words all_lines r Bytes (word ∷ words_behind o)) more ∙ (after_bytes r word further ∙ rw (opened, hex) refl)))

-- two words are not one
only_of-two : (word text : List ℕ) → None ≡ only_of (word ∷ words_of text)
only_of-two word text = let h = words_of-has_first text in
    let P : List (List ℕ) → Type 0 = λ words. None ≡ only_of (word ∷ words) in subst P (sym h.is) refl

pub only_of-more : (rest : Option (List ℕ)) (text word : List ℕ) (others : Option (List ℕ)) (further : List ℕ) → rest ≡ Some text
    → words_of text ≡ word ∷ words_behind others → others ≡ Some further → None ≡ only_of (words_behind rest)
only_of-more rest text word others further is words more =
    only_of-two word further ∙ sym (ap (λ o. only_of (words_behind o)) is ∙ (ap only_of words ∙ ap (λ o. only_of (word ∷ words_behind o)) more))
