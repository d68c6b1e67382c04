-- What is known of a sink: what it holds, and how many pieces failed or wanted memory.
use Rattle.std.specs.Prelude.{ℕ, ◌≤◌, List, Option}

pub record SinkState : Type 0 where
  -- all bytes, where they are told
  pub held : Option (List ℕ)
  -- how many pieces failed
  pub faults : ℕ
  -- for how many pieces memory was wanting
  pub wants : ℕ

-- neither count falls
pub record NeverFalls (old new : SinkState) : Type 0 where
  pub faults : old.faults ≤ new.faults
  pub wants : old.wants ≤ new.wants
