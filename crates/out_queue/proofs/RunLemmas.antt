-- Frames in a run of bytes.
use Rattle.std.proofs.Common.{◌≡◌, ℕ, ◌+◌, ◌≤◌, List, [], ◌∷◌, ◌++◌, length, take, drop, sum, refl, sym, ◌∙◌, ap, arith, length-drop}
use Rattle.std.proofs.lemmas.List.{take_all, take-append-le, drop-append-le, nil_from_length, take-append-drop, length-append}
use Rattle.std.proofs.lemmas.List.Sums.{sum_by-cons}
use Rattle.std.specs.List.{concat}
use Rattle.out_queue.specs.Kept.{left_of, IsTaken}
use Rattle.out_queue.specs.Queue.{queued}
use Rattle.out_queue.specs.Runs.{frames_in}

-- a frame behind the others
pub frames_in-append : (lens run frame : List ℕ) → sum lens ≡ length run
    → frames_in (lens ++ length frame ∷ []) (run ++ frame) ≡ frames_in lens run ++ frame ∷ []
frames_in-append [] run frame e =
    let none : run ≡ [] = nil_from_length run (sym e) in
    ap (λ x. take (length frame) (x ++ frame) ∷ []) none ∙ ap (λ x. x ∷ []) (take_all (length frame) frame (omega arith))
frames_in-append (len ∷ lens) run frame e =
    let all : len + sum lens ≡ length run = sym (sum_by-cons (λ x. x) len lens) ∙ e in
    let inside : len ≤ length run = omega (arith, all) in
    let rest : sum lens ≡ length (drop len run) = omega (arith, all, length-drop len run) in
    ap (λ x. x ∷ frames_in (lens ++ length frame ∷ []) (drop len (run ++ frame))) (take-append-le len run frame inside)
    ∙ ap (λ x. take len run ∷ frames_in (lens ++ length frame ∷ []) x) (drop-append-le len run frame inside)
    ∙ ap (λ x. take len run ∷ x) (frames_in-append lens (drop len run) frame rest)

-- the frames one behind the other are the run
pub concat-frames_in : (lens run : List ℕ) → sum lens ≡ length run → concat (frames_in lens run) ≡ run
concat-frames_in [] run e = sym (nil_from_length run (sym e))
concat-frames_in (len ∷ lens) run e =
    let all : len + sum lens ≡ length run = sym (sum_by-cons (λ x. x) len lens) ∙ e in
    let rest : sum lens ≡ length (drop len run) = omega (arith, all, length-drop len run) in
    ap (λ x. take len run ++ x) (concat-frames_in lens (drop len run) rest) ∙ take-append-drop len run

-- what is left, one frame behind the other, is what is left of all
pub concat-left_of : (taken : ℕ) (frames : List (List ℕ)) → IsTaken taken frames → concat (left_of taken frames) ≡ drop taken (concat frames)
concat-left_of taken [] e = ap (λ n. drop n []) (sym e)
concat-left_of taken (frame ∷ frames) fits = sym (drop-append-le taken frame (concat frames) fits)

-- so many bytes wait
pub length-concat : (frames : List (List ℕ)) → length (concat frames) ≡ queued frames
length-concat [] = refl
length-concat (frame ∷ frames) = length-append frame (concat frames) ∙ ap (λ n. length frame + n) (length-concat frames) ∙ sym (sum_by-cons length frame frames)
