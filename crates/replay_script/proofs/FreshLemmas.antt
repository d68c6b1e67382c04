-- Each line of a script opens a number that no line before it opens.
use Rattle.std.proofs.Common.{codes, nat_lt, length, if◌then◌else◌, ◌≡◌, ℕ, ◌+◌, Bool, true, false, not, ◌&&◌}
use Rattle.std.proofs.Common.{cond, List, [], ◌∷◌, ◌++◌, append_assoc, append-nil, Option, Some, None, Result}
use Rattle.std.proofs.Common.{Ok, Err, IfSome, IfOk, refl, sym, ap, ◌∙◌, subst}
use Rattle.std.specs.Option.{option_map, option_and_then, option_map_or}
use Rattle.std.specs.Str.{bytes_eq}
use Rattle.ads_outside.specs.declared.event.Event.TheVariants as event
use Rattle.spec_machine.specs.BuiltLines.{BuiltLines, LineKind, Blank, Open, Bytes, Close, Tick, Reload, Room, Fail}
use Rattle.spec_machine.specs.Reading.{Reading, Block, nothing_read, is_among, opened_by, one_more_line, line_said, reload_begun, reload_goes_on, reload_ended}
use Rattle.spec_machine.specs.ScriptLine.{ScriptLine, Happens, TakesAtMost, FailsNext}
use Rattle.spec_machine.specs.ScriptLines.{lines_of, text_of, words_of}
use Rattle.spec_machine.specs.ScriptWords.{number_of_word, connection_of_word, bytes_of_words}
use Rattle.spec_machine.specs.Script.{open_connection, after_words, kind_of, after_built, after_line_of_words}
use Rattle.spec_machine.specs.Script.{is_blank_line, after_plain_line, after_text_line, after_line, said_by}
use Rattle.spec_machine.specs.Script.{script_after, script_of}
use Rattle.replay_script.specs.Fresh.{AreNew, OpenNew}

-- the numbers that lines open
opened_in : List ScriptLine → List ℕ
opened_in [] = []
opened_in (line ∷ lines) = opened_by line ++ opened_in lines

-- what was read opens new numbers, and is what is noted
record IsFresh (r : Reading) : Type 0 where
  noted : (cs : List ℕ) → opened_in r.said ++ cs ≡ r.opened ++ cs
  new : OpenNew [] r.said

opened_in-append : (lines : List ScriptLine) (line : ScriptLine) (cs : List ℕ)
    → opened_in (lines ++ line ∷ []) ++ cs ≡ opened_in lines ++ (opened_by line ++ cs)
unfolding opened_in
opened_in-append [] line cs = ap (λ os. os ++ cs) (append-nil (opened_by line))
opened_in-append (l ∷ ls) line cs =
    append_assoc (opened_by l) (opened_in (ls ++ line ∷ [])) cs
    ∙ (ap (λ os. opened_by l ++ os) (opened_in-append ls line cs) ∙ sym (append_assoc (opened_by l) (opened_in ls) (opened_by line ++ cs)))

-- one more line that opens new numbers
OpenNew-append : (opened : List ℕ) (lines : List ScriptLine) (line : ScriptLine) → OpenNew opened lines
    → AreNew (opened_by line) (opened ++ opened_in lines) → OpenNew opened (lines ++ line ∷ [])
unfolding OpenNew opened_in
OpenNew-append opened [] line all new =
    let P : List ℕ → Type 0 = λ os. AreNew (opened_by line) os in
    (subst P (append-nil opened) new, tt)
OpenNew-append opened (l ∷ ls) line all new =
    let P : List ℕ → Type 0 = λ os. AreNew (opened_by line) os in
    (all.0, OpenNew-append (opened ++ opened_by l) ls line all.1 (subst P (sym (append_assoc opened (opened_by l) (opened_in ls))) new))

said_fresh : (line : ScriptLine) (r : Reading) → IsFresh r → AreNew (opened_by line) r.opened → IsFresh (line_said line r)
said_fresh line r fresh new =
    let P : List ℕ → Type 0 = λ os. AreNew (opened_by line) os in
    let noted : opened_in r.said ≡ r.opened = sym (append-nil (opened_in r.said)) ∙ (fresh.noted [] ∙ append-nil r.opened) in
    record {
      noted = λ cs. opened_in-append r.said line cs ∙ (fresh.noted (opened_by line ++ cs) ∙ sym (append_assoc r.opened (opened_by line) cs));
      new = OpenNew-append [] r.said line fresh.new (subst P (sym noted) new);
    }

reload_fresh : (b : Block) (r : Reading) → IsFresh r → IsFresh (reload_ended b r)
reload_fresh b r fresh = record {
  noted = λ cs. opened_in-append r.said (Happens (event.Reload b.bytes)) cs ∙ fresh.noted cs;
  new = OpenNew-append [] r.said (Happens (event.Reload b.bytes)) fresh.new tt;
}

same_fresh : (r s : Reading) → IsFresh r → s.said ≡ r.said → s.opened ≡ r.opened → IsFresh s
same_fresh r s fresh said opened =
    let P : List ScriptLine → Type 0 = λ lines. OpenNew [] lines in
    record {
      noted = λ cs. ap (λ lines. opened_in lines ++ cs) said ∙ (fresh.noted cs ∙ ap (λ os. os ++ cs) (sym opened));
      new = subst P (sym said) fresh.new;
    }

if_map : {X : Type 0} (f : X → Reading) (o : Option X) → ((x : X) → IsFresh (f x)) → IfSome (option_map f o) IsFresh
if_map f None all = tt
if_map f (Some x) all = all x

if_then : {X : Type 0} (f : X → Option Reading) (o : Option X) → ((x : X) → IfSome (f x) IsFresh) → IfSome (option_and_then f o) IsFresh
if_then f None all = tt
if_then f (Some x) all = all x

if_cond : (b : Bool) (o p : Option Reading) → IfSome o IsFresh → IfSome p IsFresh → IfSome (cond b o p) IsFresh
if_cond true o p first second = first
if_cond false o p first second = second

-- a number that passes the test for a new connection
new_number : (built : BuiltLines) (r : Reading) (o : Option ℕ) → IsFresh r → IfSome (option_map (λ c. line_said (Happens (event.Opened c)) r)
    (option_and_then (λ c. if nat_lt (length r.opened) built.most_opened && not (is_among c r.opened) then Some c else None) o)) IsFresh
new_number built r None fresh = tt
new_number built r (Some c) fresh =
    tested (nat_lt (length r.opened) built.most_opened) (is_among c r.opened) refl
  where
    tested : (few among : Bool) → among ≡ is_among c r.opened
        → IfSome (option_map (λ d. line_said (Happens (event.Opened d)) r) (cond (few && not among) (Some c) None)) IsFresh
    tested true false e = said_fresh (Happens (event.Opened c)) r fresh (sym e, tt)
    tested true true e = tt
    tested false among e = tt

words_fresh : (built : BuiltLines) (r : Reading) (kind : LineKind) (words : List (List ℕ)) → IsFresh r → IfSome (after_words built r kind words) IsFresh
words_fresh built r Open (c ∷ []) fresh = new_number built r (connection_of_word c) fresh
words_fresh built r Bytes (c ∷ word ∷ words) fresh =
    if_then _ (open_connection r c) (λ c. if_map _ (bytes_of_words (word ∷ words)) (λ bytes. said_fresh (Happens (event.Piece c bytes)) r fresh tt))
words_fresh built r Close (c ∷ []) fresh = if_map _ (open_connection r c) (λ c. said_fresh (Happens (event.Closed c)) r fresh tt)
words_fresh built r Tick (t ∷ []) fresh = if_map _ (number_of_word t) (λ t. said_fresh (Happens (event.Tick t)) r fresh tt)
words_fresh built r Reload [] fresh = same_fresh r (reload_begun r) fresh refl refl
words_fresh built r Room (c ∷ n ∷ []) fresh =
    if_then _ (open_connection r c) (λ c. if_map _ (number_of_word n) (λ n. said_fresh (TakesAtMost c n) r fresh tt))
words_fresh built r Fail (c ∷ []) fresh = if_map _ (open_connection r c) (λ c. said_fresh (FailsNext c) r fresh tt)
words_fresh built r kind words fresh = tt

plain_fresh : (built : BuiltLines) (r : Reading) (words : List (List ℕ)) → IsFresh r → IfSome (after_line_of_words built r words) IsFresh
plain_fresh built r [] fresh = tt
plain_fresh built r (word ∷ words) fresh =
    if_then (after_built built r words) (kind_of word)
    (λ kind. if_cond (built.is_built kind) (after_words built r kind words) None (words_fresh built r kind words fresh) tt)

text_fresh : (b : Block) (line : List ℕ) (r : Reading) (ends : Bool) → IsFresh r → IsFresh (cond ends (reload_ended b r) (reload_goes_on b line r))
text_fresh b line r true fresh = reload_fresh b r fresh
text_fresh b line r false fresh = same_fresh r (reload_goes_on b line r) fresh refl refl

line_fresh : (built : BuiltLines) (r : Reading) (line : List ℕ) → IsFresh r → IfSome (after_line built r line) IsFresh
line_fresh built r line fresh = by_block r.block
  where
    by_block : (o : Option Block) → IfSome (option_map_or (λ b. Some (after_text_line b line r)) o (after_plain_line built r (text_of line))) IsFresh
    by_block (Some b) = text_fresh b line r (bytes_eq (text_of line) (codes ".")) fresh
    by_block None = if_cond (built.is_built Blank && is_blank_line (text_of line))
        (Some (one_more_line r)) (after_line_of_words built r (words_of (text_of line)))
        (same_fresh r (one_more_line r) fresh refl refl) (plain_fresh built r (words_of (text_of line)) fresh)

said_by_fresh : (r : Reading) → IsFresh r → IfOk (said_by r) (OpenNew [])
said_by_fresh r fresh = by_block r.block
  where
    by_block : (o : Option Block) → IfOk (option_map_or (λ (b : Block). Err b.line) o (Ok r.said)) (OpenNew [])
    by_block (Some b) = tt
    by_block None = fresh.new

next_fresh : (f : Reading → Result (List ScriptLine) ℕ) (o : Option Reading) (n : ℕ) → IfSome o IsFresh
    → ((s : Reading) → IsFresh s → IfOk (f s) (OpenNew [])) → IfOk (option_map_or f o (Err n)) (OpenNew [])
next_fresh f None n some all = tt
next_fresh f (Some s) n some all = all s some

after_fresh : (built : BuiltLines) (lines : List (List ℕ)) (r : Reading) → IsFresh r → IfOk (script_after built r lines) (OpenNew [])
unfolding script_after
after_fresh built [] r fresh = said_by_fresh r fresh
after_fresh built (line ∷ lines) r fresh =
    next_fresh (λ s. script_after built s lines) (after_line built r line) (r.lines + 1)
    (line_fresh built r line fresh) (λ s more. after_fresh built lines s more)

nothing_fresh : IsFresh nothing_read
unfolding OpenNew opened_in
nothing_fresh = record { noted = λ cs. refl; new = tt }

-- a script opens new numbers
pub script_fresh : (built : BuiltLines) (bytes : List ℕ) (lines : List ScriptLine) → script_of built bytes ≡ Ok lines → OpenNew [] lines
script_fresh built bytes lines e =
    let P : Result (List ScriptLine) ℕ → Type 0 = λ r. IfOk r (OpenNew []) in
    subst P e (after_fresh built (lines_of bytes) nothing_read nothing_fresh)
