-- The counts of a summary, as the code keeps them, against those read off a state.
use Rattle.std.specs.Prelude.{◌≡◌, ℕ, ◌+◌, sum, map}
use Rattle.spec_machine.specs.Summary.{Summary as CountsOfState, count_of, replies_in, samples_in}
use Rattle.server_core.specs.declared.summary.Summary.{Summary}
use Rattle.server_core.specs.Served.{ServedConnection}

abbrev pub counts_in : Summary → CountsOfState
counts_in s = record {
  connections = s.connections;
  requests = s.requests;
  replies = s.replies;
  samples = s.samples;
  accepted = s.accepted;
  refused = s.refused;
}

-- a count grows as one of its addends does, whatever the others are
abbrev pub Grows : ℕ → ℕ → ℕ → ℕ → Type 0
Grows old new before after = (others : ℕ) → old ≡ count_of (others + before) → new ≡ count_of (others + after)

abbrev pub replies_of : ServedConnection → ℕ
replies_of k = sum (map replies_in k.produced)

abbrev pub samples_of : ServedConnection → ℕ
samples_of k = sum (map samples_in k.produced)

-- the counts follow a change of one connection
pub record Counts (old new : Summary) (before after : ServedConnection) : Type 0 where
  pub connections : new.connections ≡ old.connections
  pub requests : Grows old.requests new.requests before.frames_taken after.frames_taken
  pub replies : Grows old.replies new.replies (replies_of before) (replies_of after)
  pub samples : Grows old.samples new.samples (samples_of before) (samples_of after)
  pub accepted : new.accepted ≡ old.accepted
  pub refused : new.refused ≡ old.refused
