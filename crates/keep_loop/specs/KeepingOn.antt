-- What a run leads to that serves on where a save fails: turns, the saves that were begun, and what a stop leaves of them.
use Rattle.std.specs.Prelude.{◌≡◌, ◌⊎◌, ℕ, ◌<◌, List, [], ◌∷◌, ◌++◌, map, filter, length, Bool, true, false, Option, Some, None, option_map}
use Rattle.ads_outside.specs.declared.end.End.{End}
use Rattle.ads_outside.specs.declared.end.End.TheVariants as end
use Rattle.ads_outside.specs.declared.moves.Move.{Move}
use Rattle.ads_outside.specs.WireState.{WireState}
use Rattle.spec_machine.specs.MachineState.{MachineState}
use Rattle.spec_machine.specs.Moves.{EventStep, state_after}
use Rattle.ads_served.specs.Standing as served
use Rattle.ads_served.specs.Standing.{Noting}
use Rattle.spec_store.specs.Disk.{LeavesOnly}
use Rattle.spec_store.specs.Slots.{Standing, standing_of, standing_body}
use Rattle.spec_store.specs.Saves.{is_over_limit, standing_after}
use Rattle.serve_loop.specs.TurnTaken.{StandsOver, AfterServe}
use Rattle.persist_store.specs.Steps.{IsAt}
use Rattle.keep_loop.specs.declared.kept_on.KeptOn.{KeptOn}
use Rattle.keep_loop.specs.declared.save_counts.SaveCounts.{SaveCounts}
use Rattle.keep_loop.specs.declared.save_end.SaveEnd.{SaveEnd}
use Rattle.keep_loop.specs.declared.save_end.SaveEnd.TheVariants as save
use Rattle.keep_loop.specs.Bodies.{BodyOf, bodies_looked_at, bodies_to_end, saves_in, is_any_over}
use Rattle.keep_loop.specs.Keeping.{StandsAfterSaves}

-- a save that was begun: its body, and whether it was done
pub record Begun : Type 0 where
  pub body : List ℕ
  pub done : Bool

-- what may stand behind saves that were begun: of one that was done its body; of another its body, or what stood before it
unfoldable pub MayStand : Option Standing → List Begun → Option Standing → Type 0
MayStand standing [] one = one ≡ standing
MayStand standing (b ∷ bs) one = MayStand (Some (standing_after standing b.body)) bs one ⊎ ((b.done ≡ false) × MayStand standing bs one)

-- what may have stood at some moment before, in or behind them
unfoldable pub StoodOnce : Option Standing → List Begun → Option Standing → Type 0
StoodOnce standing [] one = one ≡ standing
StoodOnce standing (b ∷ bs) one =
    (one ≡ standing) ⊎ StoodOnce (Some (standing_after standing b.body)) bs one ⊎ ((b.done ≡ false) × StoodOnce standing bs one)

-- these are some of those, in their order
unfoldable pub AreSomeOf : List (List ℕ) → List (List ℕ) → Type 0
AreSomeOf [] all = Unit {0}
AreSomeOf (b ∷ bs) [] = ⊥
AreSomeOf (b ∷ bs) (c ∷ cs) = ((b ≡ c) × AreSomeOf bs cs) ⊎ AreSomeOf (b ∷ bs) cs

abbrev pub bodies_begun : List Begun → List (List ℕ)
bodies_begun begun = map (λ (b : Begun). b.body) begun

-- something stands, and its body is one of these
pub record StandsForOneOf (bodies : List (List ℕ)) (one : Option Standing) : Type 0 where
  pub standing : Standing
  pub is : one ≡ Some standing
  pub is_in : AreSomeOf (standing.slot.body ∷ []) bodies

-- saves of these bodies, all of them done
abbrev pub all_done : List (List ℕ) → List Begun
all_done bodies = map (λ body. record { body = body; done = true }) bodies

-- how many were done
abbrev pub done_in : List Begun → ℕ
done_in begun = length (filter (λ (b : Begun). b.done) begun)

-- one of these bodies is over the limit of something that stood
pub record IsAnyOver (looked : List (List ℕ)) : Type 0 where
  pub standing : Option Standing
  pub body : List ℕ
  pub is_in : AreSomeOf (body ∷ []) looked
  pub over : is_over_limit standing body ≡ true

-- at no look a save failed or wanted memory, or a body was over the limit
pub record IsWhole (counts : SaveCounts) : Type 0 where
  pub failed : counts.failed ≡ 0
  pub wanted : counts.wanted ≡ 0
  pub over : counts.over ≡ 0

-- the body that was looked at last was saved, or stood already
abbrev pub is_kept : Option SaveEnd → Bool
is_kept None = false
is_kept (Some save.Same) = true
is_kept (Some save.Saved) = true
is_kept (Some save.Failed) = false
is_kept (Some save.Limit) = false
is_kept (Some save.Memory) = false

-- the file stands for this body, and nothing is pending
pub record FileHolds {D : Type 0} (contents : D → Option (List ℕ)) (may_leave : D → List ℕ → Type 0) (disk : D) (body : List ℕ) : Type 0 where
  pub now : List ℕ
  pub here : IsAt contents may_leave disk now
  pub stands : standing_body now ≡ Some body

-- All saves of bodies that differ from the one before were done, the first of them from what stood; the file stands for the last.
pub record SavedEach {D : Type 0} (contents : D → Option (List ℕ)) (may_leave : D → List ℕ → Type 0) (old new : D)
    (standing : Option Standing) (stood : Option (List ℕ)) (looked : List (List ℕ)) (begun : List Begun) : Type 0 where
  pub are : begun ≡ all_done (saves_in stood looked)
  pub within : is_any_over standing (saves_in stood looked) ≡ false
  pub stands : StandsAfterSaves contents may_leave old new standing (saves_in stood looked)

abbrev pub body_standing : Option Standing → Option (List ℕ)
body_standing standing = option_map (λ (s : Standing). s.slot.body) standing

-- What became of the bodies that were looked at. The last of them, at the end of the moves, is named.
pub record KeepsOn {D : Type 0} (r : KeptOn) (Looked : List (List ℕ) → Type 0) (last : List ℕ) (contents : D → Option (List ℕ))
    (may_leave : D → List ℕ → Type 0) (moment : D → ℕ) (left_since : D → ℕ → List ℕ → Type 0) (old new : D) (standing : Option Standing)
    : Type 0 where
  pub looked : List (List ℕ)
  pub are : Looked looked
  -- the saves that were begun, each of a body that was looked at
  pub begun : List Begun
  pub some : AreSomeOf (bodies_begun begun) looked
  pub counted : r.counts.saved ≡ done_in begun
  pub over : 0 < r.counts.over → IsAnyOver looked
  pub each : IsWhole r.counts → SavedEach contents may_leave old new standing (body_standing standing) looked begun
  -- where the disk told its file: what a stop at any moment of the run left, what one leaves now, and the body at the end
  pub left : (file : List ℕ) → contents old ≡ Some file → LeavesOnly moment left_since old new (λ c. StoodOnce standing begun (standing_of c))
  pub leaves : (file : List ℕ) → contents old ≡ Some file → (c : List ℕ) → may_leave new c → MayStand standing begun (standing_of c)
  pub holds : is_kept r.last ≡ true → (file : List ℕ) → contents old ≡ Some file → FileHolds contents may_leave new last

-- the moves of a run over a wire
abbrev pub moves_served : {W C : Type 0} (r : End) (step : EventStep W C) (noted : Noting W C) (old_serves new_serves : served.Standing W C → Type 0)
    (old new : WireState) (limit : ℕ) → AfterServe r step noted old_serves new_serves old new limit → List Move
moves_served end.Done step noted old_serves new_serves old new limit after = after.turns.moves
moves_served end.Budget step noted old_serves new_serves old new limit after = after.moves
moves_served end.LinkFault step noted old_serves new_serves old new limit after = after.turns.moves
moves_served end.Memory step noted old_serves new_serves old new limit after = after.breaks.moves

-- these are a first part of those
pub record AreFirstOf (first all : List (List ℕ)) : Type 0 where
  pub rest : List (List ℕ)
  pub is : all ≡ first ++ rest

-- which bodies of these moves were looked at: that after each so manieth tick, and that at the end; where memory ended the
-- run a first part of the former
abbrev pub LooksAt : {W C : Type 0} → End → ℕ → BodyOf W → EventStep W C → MachineState W C → List Move → List (List ℕ) → Type 0
LooksAt end.Done every body_of step s moves looked = looked ≡ bodies_to_end every body_of step s moves
LooksAt end.Budget every body_of step s moves looked = looked ≡ bodies_to_end every body_of step s moves
LooksAt end.LinkFault every body_of step s moves looked = looked ≡ bodies_to_end every body_of step s moves
LooksAt end.Memory every body_of step s moves looked = AreFirstOf looked (bodies_looked_at every body_of step s moves)

-- A run: its turns, and whatever was served before, what became of the bodies of its moves.
pub record ServesAndKeeps {W C D : Type 0} (r : KeptOn) (every : ℕ) (body_of : BodyOf W) (step : EventStep W C) (noted : Noting W C)
    (old_serves new_serves : served.Standing W C → Type 0) (contents : D → Option (List ℕ)) (may_leave : D → List ℕ → Type 0) (moment : D → ℕ)
    (left_since : D → ℕ → List ℕ → Type 0) (old_disk new_disk : D) (standing : Option Standing) (old new : WireState) (limit : ℕ)
    : Type 0 where
  pub serve : AfterServe r.ended step noted old_serves new_serves old new limit
  pub keeps : (x : served.Standing W C) → StandsOver old_serves old.history.opened x
      → KeepsOn r (LooksAt r.ended every body_of step x.running.state (moves_served r.ended step noted old_serves new_serves old new limit serve))
      (body_of (state_after step x.running.state (moves_served r.ended step noted old_serves new_serves old new limit serve)).world)
      contents may_leave moment left_since old_disk new_disk standing
