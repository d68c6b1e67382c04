-- One step, and the steps behind it.
use Rattle.std.proofs.Common.{◌≡◌, ℕ, List, [], ◌∷◌, refl, ap}
use Rattle.std.specs.Prelude.{Option, Some, None, option_map}
use Rattle.name_paths.specs.Path.{Step}
use Rattle.spec_plant.specs.Listed.{NamedType}
use Rattle.spec_plant.specs.Parts.{TypePart, part_of, part_behind, within_part}
use Rattle.spec_plant.specs.PartTexts.{comment_of_step, comment_behind}
use Rattle.symbol_table.specs.FoundParts.{part_in, Tells, IsSound}
use Rattle.symbol_table.specs.declared.parts.Part.{Part}

-- no step is left
pub tells_here : (types : List NamedType) (p : Part) (steps : List Step) → IsSound types p → steps ≡ []
    → Tells types (comment_behind p.comment.now (part_in types p).type steps) (part_behind (part_in types p) steps) (Some p)
unfolding part_behind comment_behind
tells_here types p steps sound none = rw none (record { sound = sound; is = refl; comment_is = refl })

step_none : (types : List NamedType) (comment : List ℕ) (p : TypePart) (step : Step) (rest : List Step) (o : Option TypePart) → part_of p.type step ≡ o
    → Tells types (comment_of_step p.type step) (option_map (within_part p) o) None
    → Tells types (comment_behind comment p.type (step ∷ rest)) (part_behind p (step ∷ rest)) None
unfolding part_behind comment_behind
step_none types comment p step rest None e t = rw e tt
step_none types comment p step rest (Some inner) e t = absurd t

-- the step leads to nothing
pub tells_none : (types : List NamedType) (comment : List ℕ) (p : TypePart) (step : Step) (steps rest : List Step) → steps ≡ step ∷ rest
    → Tells types (comment_of_step p.type step) (option_map (within_part p) (part_of p.type step)) None
    → Tells types (comment_behind comment p.type steps) (part_behind p steps) None
tells_none types comment p step steps rest same t = rw same (step_none types comment p step rest (part_of p.type step) refl t)

step_some : (types : List NamedType) (comment : List ℕ) (p : TypePart) (step : Step) (rest : List Step)
    (next : Part) (result : Option Part) (o : Option TypePart) → part_of p.type step ≡ o
    → Tells types (comment_of_step p.type step) (option_map (within_part p) o) (Some next)
    → Tells types (comment_behind next.comment.now (part_in types next).type rest) (part_behind (part_in types next) rest) result
    → Tells types (comment_behind comment p.type (step ∷ rest)) (part_behind p (step ∷ rest)) result
unfolding part_behind comment_behind
step_some types comment p step rest next result None e t more = absurd t
step_some types comment p step rest next result (Some inner) e t more =
    let type : (part_in types next).type ≡ inner.type = ap (λ (q : TypePart). q.type) t.is in
    rw e (rw (t.is, t.comment_is, type) at more)

-- the step leads to a part, and the others go on from it
pub tells_on : (types : List NamedType) (comment : List ℕ) (p : TypePart) (step : Step) (steps rest : List Step) (next : Part) (result : Option Part)
    → steps ≡ step ∷ rest
    → Tells types (comment_of_step p.type step) (option_map (within_part p) (part_of p.type step)) (Some next)
    → Tells types (comment_behind next.comment.now (part_in types next).type rest) (part_behind (part_in types next) rest) result
    → Tells types (comment_behind comment p.type steps) (part_behind p steps) result
tells_on types comment p step steps rest next result same t more = rw same (step_some types comment p step rest next result (part_of p.type step) refl t more)
