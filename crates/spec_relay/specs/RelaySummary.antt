-- The counts of a relay, and what it prints: the text of its log, which has no line for a reload, and a line of counts.
-- This project's own format.
use Rattle.std.specs.Prelude.{ℕ, List, [], ◌∷◌, ◌++◌, codes, length, map, sum}
use Rattle.ads_outside.specs.declared.moves.Move.{Move}
use Rattle.spec_machine.specs.Summary.{count_of}
use Rattle.spec_machine.specs.SummaryText.{counted}
use Rattle.spec_machine.specs.LogText.{log_text_of}
use Rattle.spec_machine.specs.ScriptLine.{ScriptLine}
use Rattle.spec_relay.specs.RelayState.{RelayConnection, RelayState}
use Rattle.spec_relay.specs.RelayMoves.{relay_after_event}
use Rattle.spec_machine.specs.Moves.{state_after}
use Rattle.spec_machine.specs.Play.{play_of}

-- each stands still at 2^64 - 1
pub record RelaySummary : Type 0 where
  -- those that were opened
  pub connections : ℕ
  -- the whole frames that were taken
  pub frames : ℕ
  -- those that were given to a connection
  pub passed : ℕ
  -- those whose target nobody owned, or had no room
  pub unknown : ℕ

abbrev pub relay_summary_of : RelayState → RelaySummary
relay_summary_of s = record {
  connections = count_of (length s.connections);
  frames = count_of (sum (map (λ (k : RelayConnection). k.frames_taken) s.connections));
  passed = count_of s.world.passed;
  unknown = count_of s.world.unknown;
}

abbrev pub relay_summary_text : RelaySummary → List ℕ
relay_summary_text r =
    counted (codes "connections ") r.connections ++ counted (codes " frames ") r.frames
    ++ counted (codes " passed ") r.passed ++ counted (codes " unknown ") r.unknown ++ 10 ∷ []

-- the log of a script
abbrev pub relay_play : RelayState → List ScriptLine → List Move
relay_play s lines = play_of relay_after_event s lines

-- what a script prints
abbrev pub relay_text : RelayState → List ScriptLine → List ℕ
relay_text s lines =
    log_text_of [] (relay_play s lines)
    ++ relay_summary_text (relay_summary_of (state_after relay_after_event s (relay_play s lines)))
