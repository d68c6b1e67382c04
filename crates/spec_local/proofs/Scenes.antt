-- A scene of a local call, answer by answer, and a call that is over.
use Rattle.std.proofs.Common.{◌≡◌, ℕ, zero, suc, ◌+◌, ◌≤◌, ◌==◌, List, [], ◌∷◌, refl, ap, ◌∙◌, arith}
use Rattle.std.specs.Prelude.{is_some, Option, Some, None}
use Rattle.std.proofs.lemmas.Bool.{cond-true, cond-false}
use Rattle.spec_machine.specs.Moves.{EventStep}
use Rattle.spec_machine.proofs.Find.{test_same, test_other}
use Rattle.spec_client.specs.Conversation.{LinkAnswer, LoopEnd, Conversation, conversation_after, conversation_going_on, conversation_after_turns, unless_ended}
use Rattle.spec_client.specs.CallOver.{conversation_after_all}
use Rattle.spec_local.specs.LocalCall.{Cutting, LocalScene, scene_after_answers, scene_behind}
use Rattle.spec_local.specs.LinkLog.{most_of, cutting_from}

-- a call that is over takes nothing more
pub over_stays : (c : Conversation) (e : LoopEnd) (a : LinkAnswer) → c.end ≡ Some e → conversation_after c a ≡ c
unfolding conversation_after
over_stays c e a over = rw over refl

pub all_over : (c : Conversation) (e : LoopEnd) (answers : List LinkAnswer) → c.end ≡ Some e → conversation_after_all c answers ≡ c
unfolding conversation_after_all
all_over c e [] over = refl
all_over c e (a ∷ answers) over =
    ap (λ d. conversation_after_all d answers) (over_stays c e a over) ∙ all_over c e answers over

pub going_on : (c : Conversation) (a : LinkAnswer) → c.end ≡ None → conversation_after c a ≡ conversation_going_on c a
unfolding conversation_after
going_on c a on = rw on refl

unless_same : (c : Conversation) (a : LinkAnswer) (end : Option LoopEnd) → (unless_ended c a end).answers ≡ c.answers
unless_same c a None = refl
unless_same c a (Some e) = refl

-- one answer more
pub one_more : (c : Conversation) (a : LinkAnswer) → c.end ≡ None → (conversation_after c a).answers ≡ c.answers + 1
unfolding conversation_going_on conversation_after_turns
one_more c a on = ap (λ (d : Conversation). d.answers) (going_on c a on) ∙ unless_same _ a _

-- a scene that is over stays
pub scene_stays : {W C : Type 0} (step : EventStep W C) (cutting : Cutting) (n : ℕ) (x : LocalScene W C) (e : LoopEnd)
    → x.conversation.end ≡ Some e → scene_after_answers step cutting n x ≡ x
unfolding scene_after_answers
scene_stays step cutting zero x e over = refl
scene_stays step cutting (suc n) x e over = cond-true (is_some x.conversation.end) _ _ (ap is_some over)

pub scene_goes_on : {W C : Type 0} (step : EventStep W C) (cutting : Cutting) (n : ℕ) (x : LocalScene W C) → x.conversation.end ≡ None
    → scene_after_answers step cutting (suc n) x ≡ scene_after_answers step cutting n (scene_behind step cutting x)
unfolding scene_after_answers
scene_goes_on step cutting n x on = cond-false (is_some x.conversation.end) _ _ (ap is_some on)

-- the cutting cuts each of these answers as it was, the first behind so many others
abbrev pub CutsAs : Cutting → ℕ → List LinkAnswer → Type 0
CutsAs cutting first [] = Unit {0}
CutsAs cutting first (a ∷ answers) = (cutting first ≡ most_of a) × CutsAs cutting (first + 1) answers

cuts_like : (f g : Cutting) (first : ℕ) (answers : List LinkAnswer) → ((n : ℕ) → first ≤ n → f n ≡ g n) → CutsAs g first answers → CutsAs f first answers
cuts_like f g first [] same cuts = tt
cuts_like f g first (a ∷ answers) same cuts =
    (same first (omega arith) ∙ cuts.0, cuts_like f g (first + 1) answers (λ n le. same n (omega (arith, le))) cuts.1)

pub cuts_as : (first : ℕ) (answers : List LinkAnswer) → CutsAs (cutting_from first answers) first answers
cuts_as first [] = tt
cuts_as first (a ∷ answers) =
    let here : cutting_from first (a ∷ answers) first ≡ most_of a = cond-true (first == first) _ _ (test_same first first refl) in (
      here,
      cuts_like _ (cutting_from (first + 1) answers) (first + 1) answers
          (λ n le. cond-false (n == first) _ _ (test_other n first (λ e. absurd (omega (arith, le, e))))) (cuts_as (first + 1) answers),
    )
