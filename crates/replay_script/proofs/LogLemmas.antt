-- The text of a log, move by move.
use Rattle.std.proofs.Common.{◌≡◌, ℕ, suc, ◌+◌, ◌<◌, ◌≤◌, List, [], ◌∷◌, ◌++◌, length, drop, get_or, refl, sym, ap, ◌∙◌, append_assoc, append-nil, add-one}
use Rattle.std.proofs.Math.Seq.{drop-cons}
use Rattle.std.proofs.Math.ListN.{drop_of_length-le}
use Rattle.ads_outside.specs.declared.moves.Move.{Move}
use Rattle.ads_outside.specs.declared.reload_note.ReloadNote.{ReloadNote}
use Rattle.spec_machine.specs.LogText.{log_text_of, move_text, notes_after}

log_text_of-move : (notes : List ReloadNote) (m : Move) (ms : List Move)
    → log_text_of notes (m ∷ ms) ≡ move_text notes m ++ log_text_of (notes_after notes m) ms
unfolding log_text_of
log_text_of-move notes m ms = refl

log_text_of-nil : (notes : List ReloadNote) → log_text_of notes [] ≡ []
unfolding log_text_of
log_text_of-nil notes = refl

-- the lines so far, one more line, and the rest
pub log_text_of-more : (lines new all : List ℕ) (left after : List ReloadNote) (ms : List Move) (place : ℕ) (m : Move)
    → lines ++ log_text_of left (drop place ms) ≡ all → place < length ms → m ≡ get_or ms place m
    → new ≡ lines ++ move_text left m → after ≡ notes_after left m → new ++ log_text_of after (drop (place + 1) ms) ≡ all
log_text_of-more lines new all left after ms place m so_far within here line notes =
    let next : drop place ms ≡ m ∷ drop (place + 1) ms = rw add-one (drop-cons ms place m within ∙ ap (λ x. x ∷ drop (suc place) ms) (sym here)) in
    let rest = log_text_of (notes_after left m) (drop (place + 1) ms) in
    let this = ap (λ t. lines ++ t) (ap (log_text_of left) next ∙ log_text_of-move left m (drop (place + 1) ms)) in
    rw (line, notes) (append_assoc lines (move_text left m) rest ∙ (sym this ∙ so_far))

-- all lines
pub log_text_of-end : (lines all : List ℕ) (left : List ReloadNote) (ms : List Move) (place : ℕ)
    → lines ++ log_text_of left (drop place ms) ≡ all → length ms ≤ place → lines ≡ all
log_text_of-end lines all left ms place so_far past =
    let none = ap (log_text_of left) (drop_of_length-le ms past) ∙ log_text_of-nil left in
    sym (append-nil lines) ∙ (sym (ap (λ t. lines ++ t) none) ∙ so_far)
