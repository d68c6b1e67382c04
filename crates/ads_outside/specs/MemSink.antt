-- A sink in memory.
use Rattle.std.specs.Prelude.{ℕ, List, ◌++◌, take, unwrap_or, slice_get, if◌then◌else◌}
use Rattle.ads_outside.specs.declared.put.Put.{Put}
use Rattle.ads_outside.specs.declared.put.Put.TheVariants as put
use Rattle.ads_outside.specs.FailingCalls.{FailingCalls, fails_next, called, faulted}
use Rattle.ads_outside.specs.Rose.{raised}

-- the bytes, the calls that are to fail, how many bytes each of them leaves, and how often memory was wanting
pub record HeldBytes : Type 0 where
  pub bytes : List ℕ
  pub failing : FailingCalls
  pub parts : List ℕ
  pub wants : ℕ

-- what the next call answers, want of memory aside
abbrev pub answer_of : HeldBytes → Put
answer_of held = if fails_next held.failing then put.Failed else put.All

-- how many bytes the next call that fails leaves: none where no number is given
abbrev pub part_of : HeldBytes → ℕ
part_of held = unwrap_or (slice_get held.parts held.failing.faults) 0

-- what is held after a piece that was answered so: where memory was wanting, nothing of it
abbrev pub held_after : Put → HeldBytes → List ℕ → HeldBytes
held_after put.All held piece =
    record held { bytes = held.bytes ++ piece; failing = called held.failing }
held_after put.Failed held piece =
    record held { bytes = held.bytes ++ take (part_of held) piece; failing = faulted held.failing }
held_after put.Memory held piece =
    record held { failing = called held.failing; wants = raised held.wants }
