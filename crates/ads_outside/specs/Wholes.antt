-- Frames that a connection took whole, each by an offer of its own.
use Rattle.std.specs.Prelude.{ℕ, List, length, map}
use Rattle.ads_outside.specs.declared.moves.Move.{Move}
use Rattle.ads_outside.specs.declared.moves.Move.TheVariants as move

-- one offer a frame
abbrev pub wholes : ℕ → List (List ℕ) → List Move
wholes c frames = map (λ f. move.Took c (length f) f) frames
