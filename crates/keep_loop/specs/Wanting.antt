-- Why a run with a store answered that memory was wanting.
use Rattle.std.specs.Prelude.{◌⊎◌, ℕ, ◌+◌}
use Rattle.ads_outside.specs.WireState.{WireState}
use Rattle.spec_machine.specs.Moves.{EventStep}
use Rattle.ads_served.specs.Standing.{Standing, Noting}
use Rattle.serve_loop.specs.TurnTaken.{EndsBefore}
use Rattle.serve_loop.specs.Wanting.{WasWanting}
use Rattle.keep_loop.specs.Keeping.{EndsAfter}

-- in a save: whole turns were taken, and nothing came of the wire behind them but its end
abbrev pub WantsInSave : {W C : Type 0} → EventStep W C → Noting W C → (Standing W C → Type 0) → (Standing W C → Type 0)
    → WireState → WireState → ℕ → Type 0
WantsInSave step noted old_serves new_serves old new limit =
    EndsBefore step noted old_serves new_serves old.history (limit + 1) (λ last. EndsAfter old new last)

-- a call of the wire wanted it, what is served was refused it, or a save was
abbrev pub WantsToKeep : {W C : Type 0} → EventStep W C → Noting W C → (Standing W C → Type 0) → (Standing W C → Type 0)
    → Type 0 → WireState → WireState → ℕ → Type 0
WantsToKeep step noted old_serves new_serves has_failed old new limit =
    WasWanting has_failed old new ⊎ WantsInSave step noted old_serves new_serves old new limit
