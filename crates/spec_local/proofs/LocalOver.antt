-- A call over a machine is the call over the answers that the machine gives.
use Rattle.std.proofs.Common.{◌≡◌, ℕ, zero, suc, [], ◌∷◌, Bool, true, false, refl}
use Rattle.std.specs.Prelude.{is_some, if◌then◌else◌}
use Rattle.spec_machine.specs.Moves.{EventStep}
use Rattle.spec_client.specs.CallOver.{conversation_after_all}
use Rattle.spec_local.specs.LocalCall.{Cutting, LocalScene, scene_after, answer_in, scene_behind, scene_begun, scene_after_answers, answers_in}
use Rattle.spec_local.specs.Laws.{LocalIsOver}

over_answers : {W C : Type 0} (step : EventStep W C) (cutting : Cutting) (n : ℕ) (x : LocalScene W C)
    → (scene_after_answers step cutting n x).conversation ≡ conversation_after_all x.conversation (answers_in step cutting n x)
unfolding scene_after_answers answers_in conversation_after_all scene_after
over_answers step cutting zero x = refl
over_answers {W} {C} step cutting (suc n) x = go (is_some x.conversation.end) (over_answers step cutting n (scene_behind step cutting x))
  where
    go : (b : Bool)
        → (scene_after_answers step cutting n (scene_behind step cutting x)).conversation
        ≡ conversation_after_all (scene_behind step cutting x).conversation (answers_in step cutting n (scene_behind step cutting x))
        → (if b then x else scene_after_answers step cutting n (scene_behind step cutting x)).conversation
        ≡ conversation_after_all x.conversation
        (if b then [] else (answer_in step cutting x).answer ∷ answers_in step cutting n (scene_behind step cutting x))
    go true later = refl
    go false later = later

pub local_is_over : {W C : Type 0} → LocalIsOver W C
local_is_over step cutting s me peer call = over_answers step cutting _ (scene_begun step s me peer call)
