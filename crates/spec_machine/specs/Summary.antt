-- The counts of a run, read off its last state. Each stands still at 2^64 - 1.
use Rattle.std.specs.Prelude.{ℕ, ◌-◌, ◌^◌, List, min, length, map, flat_map, sum}
use Rattle.spec_machine.specs.Device.{Produced, Reply, Notification}
use Rattle.spec_machine.specs.Connection.{Connection}
use Rattle.spec_machine.specs.MachineState.{MachineState}

pub record Summary : Type 0 where
  -- those that were opened
  pub connections : ℕ
  -- the whole frames that were taken
  pub requests : ℕ
  -- the produced frames that are replies
  pub replies : ℕ
  -- those in produced notifications, also of size 0
  pub samples : ℕ
  -- the reloads
  pub accepted : ℕ
  pub refused : ℕ

-- a count of 64 bits
abbrev pub count_of : ℕ → ℕ
count_of n = min n (2 ^ 64 - 1)

abbrev pub replies_in : Produced → ℕ
replies_in (Reply bytes) = 1
replies_in (Notification samples bytes) = 0

abbrev pub samples_in : Produced → ℕ
samples_in (Reply bytes) = 0
samples_in (Notification samples bytes) = samples

-- all frames that were produced, for any connection
abbrev pub all_produced : {W C : Type 0} → MachineState W C → List Produced
all_produced {W} {C} s = flat_map (λ (k : Connection C). k.produced) s.connections

abbrev pub summary_of : {W C : Type 0} → MachineState W C → Summary
summary_of {W} {C} s = record {
  connections = count_of (length s.connections);
  requests = count_of (sum (map (λ (k : Connection C). k.frames_taken) s.connections));
  replies = count_of (sum (map replies_in (all_produced s)));
  samples = count_of (sum (map samples_in (all_produced s)));
  accepted = count_of s.accepted;
  refused = count_of s.refused;
}
