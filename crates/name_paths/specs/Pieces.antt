-- For private contracts, and cited by no public clause: what stands behind a piece of a path.
use Rattle.std.specs.Prelude.{ℕ, List, [], ◌∷◌, drop, IsTrue, is_some}
use Rattle.name_paths.specs.Path.{begins_step, pieces_of, later_steps_of}

-- nothing, or a text that begins a step
abbrev pub IsRest : List ℕ → Type 0
IsRest [] = Unit {0}
IsRest (c ∷ cs) = IsTrue (begins_step c)

-- nothing, or a text that writes steps
pub record AreRests (text : List ℕ) : Type 0 where
  pub rest : IsRest text
  pub steps : IsTrue (is_some (later_steps_of (drop 1 (pieces_of text))))
