-- A name that is filled up with NULs, byte by byte.
use Rattle.std.proofs.Common.{◌≡◌, ℕ, suc, ◌+◌, ◌-◌, ◌<◌, ◌≤◌, List, [], ◌∷◌, ◌++◌, length, take, get_or, replicate, sym, ap, ◌∙◌, arith, append_assoc}
use Rattle.std.proofs.lemmas.List.{take_more, length-take-le}
use Rattle.std.proofs.Math.Seq.{set-append_seam}
use Rattle.std.proofs.Math.ListN.{set}

pub filled-more : (text : List ℕ) (i x : ℕ) → i < length text → length text ≤ 16 → x ≡ get_or text i x
    → set (take i text ++ replicate (16 - i) 0) i x ≡ take (i + 1) text ++ replicate (16 - (i + 1)) 0
filled-more text i x within most is =
    let left : 16 - i ≡ suc (16 - (i + 1)) = omega arith in
    let zeros = replicate (16 - (i + 1)) 0 in
    let before : i ≤ length text = omega arith in
    let seam = set-append_seam (take i text) 0 zeros x in
    let at : set (take i text ++ 0 ∷ zeros) i x ≡ take i text ++ x ∷ zeros = rw (length-take-le i text before) at seam in
    let more : take (i + 1) text ≡ take i text ++ x ∷ [] = take_more text i x within ∙ ap (λ y. take i text ++ y ∷ []) (sym is) in
    ap (λ n. set (take i text ++ replicate n 0) i x) left ∙ at ∙ sym (append_assoc (take i text) (x ∷ []) zeros) ∙ ap (λ t. t ++ zeros) (sym more)
