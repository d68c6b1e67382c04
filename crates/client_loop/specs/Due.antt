-- What is due of a call's text where it breaks off: all that the answers before the last one gave, and of what the last one gives all up to
-- the step that could not be given.
use Rattle.std.specs.Prelude.{◌≡◌, ℕ, List, [], ◌∷◌, ◌++◌, Option, take}
use Rattle.spec_formats.specs.Header.{AmsAddress}
use Rattle.ads_outside.specs.Puts.{Appends, AppendsPart}
use Rattle.spec_client.specs.Calls.{Call}
use Rattle.spec_client.specs.Conversation.{LinkAnswer, Conversation, moment_of, printed_by, runner_after_answer}
use Rattle.spec_client.specs.Conversation.{conversation_begun, conversation_after}
use Rattle.spec_client.specs.Runner.{CallStep, Send, Print, Turns, turns, new_runner}

-- what a call gives before it hears anything
abbrev pub first_steps : AmsAddress → AmsAddress → Call → ℕ → List CallStep
first_steps me peer call now = (turns now (new_runner me peer call)).steps

-- the turns behind an answer
abbrev pub turns_after : Conversation → LinkAnswer → Turns
turns_after c a = turns (moment_of a) (runner_after_answer c.runner a)

-- what is given behind the last of these answers; where none came, what is still to be given
unfoldable pub steps_last : List CallStep → Conversation → List LinkAnswer → List CallStep
steps_last steps c [] = steps
steps_last steps c (answer ∷ answers) = steps_last (turns_after c answer).steps (conversation_after c answer) answers

-- the text of a conversation before the last of these answers; where none came, what stood there
unfoldable pub text_up_to : List ℕ → Conversation → List LinkAnswer → List ℕ
text_up_to text c [] = text
text_up_to text c (answer ∷ answers) = text_up_to c.text (conversation_after c answer) answers

-- what a call gives behind the last of these answers, or at once where none came
abbrev pub call_steps_last : AmsAddress → AmsAddress → Call → ℕ → List LinkAnswer → List CallStep
call_steps_last me peer call now answers = steps_last (first_steps me peer call now) (conversation_begun me peer call now) answers

-- its text before that
abbrev pub call_text_up_to : AmsAddress → AmsAddress → Call → ℕ → List LinkAnswer → List ℕ
call_text_up_to me peer call now answers = text_up_to [] (conversation_begun me peer call now) answers

-- the step that could not be given, the first of these, sends
abbrev pub AtSend : List CallStep → Type 0
AtSend (Send bytes ∷ steps) = Unit {0}
AtSend steps = ⊥

-- it prints
abbrev pub AtPrint : List CallStep → Type 0
AtPrint (Print text ∷ steps) = Unit {0}
AtPrint steps = ⊥

-- it is any step, or none is left
abbrev pub Anywhere : List CallStep → Type 0
Anywhere steps = Unit {0}

-- Behind this text the steps stop at one of them. Of those before it all text was put whole, of its own some first bytes, and nothing of
-- those behind it.
pub record StopsAt (IsStop : List CallStep → Type 0) (before : List ℕ) (steps : List CallStep) (held new_held : Option (List ℕ)) : Type 0 where
  pub given : List CallStep
  pub left : List CallStep
  pub all : steps ≡ given ++ left
  pub stop : IsStop left
  -- what the sink held there
  pub mid : Option (List ℕ)
  pub put : Appends held mid (before ++ printed_by given)
  pub part : AppendsPart mid new_held (printed_by (take 1 left))
