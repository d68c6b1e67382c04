-- Answers of a link that are cut otherwise: the same bytes come at the same moments, in fewer answers or in more.
use Rattle.std.specs.Prelude.{◌≡◌, ℕ, List, [], ◌∷◌, ◌++◌, map, ◌==◌, if◌then◌else◌}
use Rattle.spec_client.specs.Conversation.{LinkAnswer, Bytes, Sent, Conversation}
use Rattle.spec_client.specs.Stages.{entries_taken}

-- an answer before others; bytes that come next to one another at one moment are one answer
abbrev pub before : LinkAnswer → List LinkAnswer → List LinkAnswer
before (Bytes bytes now) (Bytes more later ∷ answers) =
    if now == later then Bytes (bytes ++ more) now ∷ answers else Bytes bytes now ∷ Bytes more later ∷ answers
before answer answers = answer ∷ answers

-- answers that are not cut: all bytes that came next to one another at one moment are one answer
abbrev pub uncut : List LinkAnswer → List LinkAnswer
uncut [] = []
uncut (answer ∷ answers) = before answer (uncut answers)

-- the bytes that a call sent, request by request
abbrev pub bytes_sent : Conversation → List (List ℕ)
bytes_sent c = map (λ (s : Sent). s.bytes) c.sent

-- calls that sent the same, printed the same, kept the same rows, took the same entries and ended alike
pub record IsSameCall (c d : Conversation) : Type 0 where
  pub sent : bytes_sent c ≡ bytes_sent d
  pub text : c.text ≡ d.text
  pub kept : c.kept ≡ d.kept
  pub entries : entries_taken c.runner.stage ≡ entries_taken d.runner.stage
  pub end : c.end ≡ d.end
