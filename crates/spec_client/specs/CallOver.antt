-- A call over a list of a link's answers: the bytes that it sends, its text and its end.
use Rattle.std.specs.Prelude.{ℕ, List, [], ◌∷◌}
use Rattle.spec_formats.specs.Header.{AmsAddress}
use Rattle.spec_client.specs.Calls.{Call}
use Rattle.spec_client.specs.Conversation.{LinkAnswer, Conversation, conversation_begun, conversation_after}

unfoldable pub conversation_after_all : Conversation → List LinkAnswer → Conversation
conversation_after_all c [] = c
conversation_after_all c (answer ∷ answers) = conversation_after_all (conversation_after c answer) answers

-- a call over the moment at which the link was connected, and the link's answers
abbrev pub call_over : AmsAddress → AmsAddress → Call → ℕ → List LinkAnswer → Conversation
call_over me peer call now answers = conversation_after_all (conversation_begun me peer call now) answers

-- a call, between which addresses it is made, and what the link is connected to
pub record Calling : Type 0 where
  pub me : AmsAddress
  pub peer : AmsAddress
  pub call : Call
  pub to : List ℕ

abbrev pub calling : AmsAddress → AmsAddress → Call → List ℕ → Calling
calling me peer call to = record { me = me; peer = peer; call = call; to = to }
