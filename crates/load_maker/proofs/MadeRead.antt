-- A script that is made is read as its lines say.
use Rattle.std.proofs.Common.{◌≡◌, ℕ, ◌+◌, ◌^◌, ◌<◌, true, List, [], ◌∷◌, ◌++◌, length, map, Some, None, refl, sym, ap, ◌∙◌, append_assoc, append-nil, arith}
use Rattle.std.specs.Prelude.{Ok, Err, codes, if◌then◌else◌}
use Rattle.std.specs.Fmt.{decimal, digits}
use Rattle.std.specs.List.{list_all}
use Rattle.std.specs.Option.{option_map, option_map_or, option_and_then}
use Rattle.std.proofs.lemmas.List.Folds.{list_all-append}
use Rattle.hex.specs.Hex.{encode_lower}
use Rattle.ads_outside.specs.declared.event.Event.TheVariants as event
use Rattle.spec_machine.specs.BuiltLines.{all_lines}
use Rattle.spec_machine.specs.Reading.{Reading, nothing_read, is_among, is_open, line_said}
use Rattle.spec_machine.specs.ScriptLine.{ScriptLine, Happens}
use Rattle.spec_machine.specs.ScriptLines.{lines_of, words_of}
use Rattle.spec_machine.specs.ScriptWords.{bytes_of_words}
use Rattle.spec_machine.specs.Script.{open_connection, kind_of, after_line_of_words, after_plain_line, after_line, script_after, script_of}
use Rattle.load_maker.specs.MadeLines.{MadeLine, Opens, Sends, Ticks, line_text, script_text, script_said}
use Rattle.load_maker.specs.MadeLines as made
use Rattle.load_maker.specs.LoadScript.{clients}
use Rattle.load_maker.proofs.LineTexts.{is_inked, is_byte, inked_of, lines_of-line, text_of-line}
use Rattle.load_maker.proofs.LineTexts.{words_of-word, words_of-last, solid_decimal, number_read}
use Rattle.load_maker.proofs.LineTexts.{connection_read, hex_read, solid_hex}

-- so many lines were read behind the openings, and all lines said this
abbrev so_far : ℕ → List ScriptLine → Reading
so_far k said = record { lines = k; opened = clients; closed = []; block = None; said = said }

-- bytes of a client
pub record IsSending (c : ℕ) (bytes : List ℕ) : Type 0 where
  pub above : 0 < c
  pub below : c < 2 ^ 32
  pub client : is_among c clients ≡ true
  pub some : 0 < length bytes
  pub are_bytes : list_all is_byte bytes ≡ true

-- a line that may stand behind the openings
abbrev pub Follows : MadeLine → Type 0
Follows (Opens c) = ⊥
Follows (Sends c bytes) = IsSending c bytes
Follows (Ticks t) = t < 2 ^ 64

abbrev pub AllFollow : List MadeLine → Type 0
AllFollow [] = Unit {0}
AllFollow (line ∷ lines) = Follows line × AllFollow lines

-- the text of a line without its end
abbrev inside : MadeLine → List ℕ
inside (Opens c) = codes "open " ++ decimal c
inside (Sends c bytes) = codes "bytes " ++ decimal c ++ codes " " ++ encode_lower bytes
inside (Ticks t) = codes "tick " ++ decimal t

both_inked : (xs ys : List ℕ) → list_all is_inked xs ≡ true → list_all is_inked ys ≡ true → list_all is_inked (xs ++ ys) ≡ true
both_inked xs ys a b = list_all-append is_inked xs ys ∙ rw (a, b) refl

inside_inked : (line : MadeLine) → Follows line → list_all is_inked (inside line) ≡ true
inside_inked (Opens c) h = absurd h
inside_inked (Sends c bytes) h =
    let below = h.below in
    let number = inked_of (decimal c) (solid_decimal c (omega arith)) in
    let hex = inked_of (encode_lower bytes) (solid_hex bytes h.are_bytes) in
    both_inked (decimal c ++ 32 ∷ []) (encode_lower bytes) (both_inked (decimal c) (32 ∷ []) number refl) hex
inside_inked (Ticks t) h = inked_of (decimal t) (solid_decimal t h)

inside_is : (line : MadeLine) → line_text line ≡ inside line ++ 10 ∷ []
inside_is (Opens c) = refl
inside_is (Sends c bytes) = refl
inside_is (Ticks t) = refl

open_read : (k : ℕ) (said : List ScriptLine) (c : ℕ) (bytes : List ℕ) → IsSending c bytes → open_connection (so_far k said) (decimal c) ≡ Some c
open_read k said c bytes h =
    ap (option_and_then (λ n. if is_open (so_far k said) n then Some n else None)) (connection_read c h.above h.below) ∙ rw h.client refl

sends_words : (c : ℕ) (bytes : List ℕ) → IsSending c bytes → words_of (inside (Sends c bytes)) ≡ codes "bytes" ∷ decimal c ∷ encode_lower bytes ∷ []
sends_words c bytes h =
    let below = h.below in
    ap (λ (ws : List (List ℕ)). codes "bytes" ∷ ws) (words_of-word (decimal c) (encode_lower bytes) (solid_decimal c (omega arith))
    ∙ ap (λ (ws : List (List ℕ)). decimal c ∷ ws) (words_of-last (encode_lower bytes) (solid_hex bytes h.are_bytes)))

after_sends : (k : ℕ) (said : List ScriptLine) (c : ℕ) (bytes : List ℕ) → IsSending c bytes
    → after_line_of_words all_lines (so_far k said) (codes "bytes" ∷ decimal c ∷ encode_lower bytes ∷ [])
    ≡ Some (so_far (k + 1) (said ++ Happens (event.Piece c bytes) ∷ []))
unfolding kind_of
after_sends k said c bytes h =
    ap (option_and_then (λ n. option_map (λ b. line_said (Happens (event.Piece n b)) (so_far k said)) (bytes_of_words (encode_lower bytes ∷ []))))
    (open_read k said c bytes h)
    ∙ ap (option_map (λ b. line_said (Happens (event.Piece c b)) (so_far k said))) (hex_read bytes h.are_bytes h.some)

ticks_words : (t : ℕ) → t < 2 ^ 64 → words_of (inside (Ticks t)) ≡ codes "tick" ∷ decimal t ∷ []
ticks_words t h = ap (λ (ws : List (List ℕ)). codes "tick" ∷ ws) (words_of-last (decimal t) (solid_decimal t h))

after_ticks : (k : ℕ) (said : List ScriptLine) (t : ℕ) → t < 2 ^ 64
    → after_line_of_words all_lines (so_far k said) (codes "tick" ∷ decimal t ∷ []) ≡ Some (so_far (k + 1) (said ++ Happens (event.Tick t) ∷ []))
unfolding kind_of
after_ticks k said t h = ap (option_map (λ n. line_said (Happens (event.Tick n)) (so_far k said))) (number_read t h)

after_inside : (line : MadeLine) (k : ℕ) (said : List ScriptLine) → Follows line
    → after_plain_line all_lines (so_far k said) (inside line) ≡ Some (so_far (k + 1) (said ++ made.line_said line ∷ []))
after_inside (Opens c) k said h = absurd h
after_inside (Sends c bytes) k said h = ap (after_line_of_words all_lines (so_far k said)) (sends_words c bytes h) ∙ after_sends k said c bytes h
after_inside (Ticks t) k said h = ap (after_line_of_words all_lines (so_far k said)) (ticks_words t h) ∙ after_ticks k said t h

after_made : (line : MadeLine) (k : ℕ) (said : List ScriptLine) → Follows line
    → after_line all_lines (so_far k said) (line_text line) ≡ Some (so_far (k + 1) (said ++ made.line_said line ∷ []))
after_made line k said h =
    ap (after_line all_lines (so_far k said)) (inside_is line)
    ∙ (ap (after_plain_line all_lines (so_far k said)) (text_of-line (inside line) (inside_inked line h)) ∙ after_inside line k said h)

lines_of-made : (line : MadeLine) (rest : List ℕ) → Follows line → lines_of (line_text line ++ rest) ≡ line_text line ∷ lines_of rest
lines_of-made line rest h =
    ap (λ t. lines_of (t ++ rest)) (inside_is line)
    ∙ (lines_of-line (inside line) rest (inside_inked line h) ∙ ap (λ t. t ∷ lines_of rest) (sym (inside_is line)))

script_after-line : (r : Reading) (line : List ℕ) (lines : List (List ℕ))
    → script_after all_lines r (line ∷ lines) ≡ option_map_or (λ s. script_after all_lines s lines) (after_line all_lines r line) (Err (r.lines + 1))
unfolding script_after
script_after-line r line lines = refl

none_left : (k : ℕ) (said : List ScriptLine) → script_after all_lines (so_far k said) (lines_of []) ≡ Ok said
unfolding script_after lines_of
none_left k said = refl

read_on : (lines : List MadeLine) (k : ℕ) (said : List ScriptLine) → AllFollow lines
    → script_after all_lines (so_far k said) (lines_of (script_text lines)) ≡ Ok (said ++ script_said lines)
read_on [] k said h = none_left k said ∙ ap (λ (s : List ScriptLine). Ok s) (sym (append-nil said))
read_on (line ∷ lines) k said h =
    let rest = lines_of (script_text lines) in
    let said' = said ++ made.line_said line ∷ [] in
    ap (script_after all_lines (so_far k said)) (lines_of-made line (script_text lines) h.0)
    ∙ (script_after-line (so_far k said) (line_text line) rest
    ∙ (ap (λ o. option_map_or (λ s. script_after all_lines s rest) o (Err (k + 1))) (after_made line k said h.0)
    ∙ (read_on lines (k + 1) said' h.1 ∙ ap (λ (s : List ScriptLine). Ok s) (append_assoc said (made.line_said line ∷ []) (script_said lines)))))

-- the four openings
opened : (rest : List ℕ)
    → script_after all_lines nothing_read (lines_of (script_text (map Opens clients) ++ rest))
    ≡ script_after all_lines (so_far 4 (script_said (map Opens clients))) (lines_of rest)
unfolding script_after lines_of kind_of digits
opened rest = refl

-- a script of the four openings and what may follow
pub made_read : (lines : List MadeLine) → AllFollow lines
    → script_of all_lines (script_text (map Opens clients) ++ script_text lines) ≡ Ok (script_said (map Opens clients) ++ script_said lines)
made_read lines h = opened (script_text lines) ∙ read_on lines 4 (script_said (map Opens clients)) h
