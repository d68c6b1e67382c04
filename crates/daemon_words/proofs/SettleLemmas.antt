-- A text of a greater number is that of no smaller one.
use Rattle.std.proofs.Common.{◌≡◌, ◌≢◌, ℕ, ◌<◌, ◌≤◌, ◌^◌, List, sym, ◌∙◌, arith}
use Rattle.std.specs.Fmt.{decimal}
use Rattle.std.proofs.lemmas.Fmt.{decimal_injective}

pub not_within : (most count : ℕ) (text : List ℕ) → count < 2 ^ 64 → text ≡ decimal count → most < count → (n : ℕ) → n ≤ most → text ≢ decimal n
not_within most count text small is over n within e =
    let same : count ≡ n = decimal_injective count n small (omega (arith, small, over, within)) (sym is ∙ e) in omega (arith, same, over, within)
