-- A disk in memory: its file, the names that were opened, the writes that were made, and the calls that fail.
use Rattle.std.specs.Prelude.{◌≡◌, ◌⊎◌, ℕ, ◌+◌, List, [], ◌∷◌, ◌++◌, length, take, Bool, false, ◌||◌, ◌==◌}
use Rattle.std.specs.Prelude.{nat_lt, nat_le, if◌then◌else◌, Option, Some, None, unwrap_or}
use Rattle.std.specs.Option.{option_map_or}
use Rattle.std.specs.List.{list_all}
use Rattle.std.proofs.Common.{inl, inr, sym, ap, not-le_of_lt}
use Rattle.ads_outside.specs.FailingCalls.{FailingCalls, fails_next, called, faulted}
use Rattle.ads_outside.specs.Rose.{raised}
use Rattle.persist_store.specs.Past.{of_period, LeftIn, LeftInPast}
use Rattle.persist_store.specs.declared.past_write.PastWrite.{PastWrite}
use Rattle.persist_store.specs.declared.stop.Stop.{Stop}

pub record HeldFile : Type 0 where
  -- what a read gives
  pub file : List ℕ
  -- the names that were opened, in order
  pub names : List (List ℕ)
  -- the writes that were made, each with the number of syncs before it
  pub writes : List PastWrite
  -- the number of syncs that were done
  pub period : ℕ
  pub failing : FailingCalls
  pub stop : Option Stop

-- what a stop now may leave
abbrev pub leaves_now : HeldFile → List ℕ → Type 0
leaves_now m c = (c ≡ m.file) ⊎ LeftIn (of_period m.period m.writes) c

-- what a stop may have left since so many syncs were done
abbrev pub leaves_since : HeldFile → ℕ → List ℕ → Type 0
leaves_since m t c = leaves_now m c ⊎ LeftInPast m.writes t m.period c

pub leaves_told : (m : HeldFile) (file : List ℕ) → Some m.file ≡ Some file → leaves_now m file
leaves_told m file told = inl (sym (ap (λ o. unwrap_or o []) told))

-- since now nothing else was left than what a stop now leaves
pub only_left : (m : HeldFile) (c : List ℕ) → leaves_since m m.period c → leaves_now m c
only_left m c (inl now) = now
only_left m c (inr past) = absurd (not-le_of_lt past.before past.from)

-- no write was made behind this many syncs
abbrev pub are_made_by : ℕ → List PastWrite → Bool
are_made_by period writes = list_all (λ (w : PastWrite). nat_le w.period period) writes

-- whether the machine stops in the next call, and whether it has stopped
abbrev pub stops_next : HeldFile → Bool
stops_next m = option_map_or (λ (s : Stop). s.call == raised m.failing.calls) m.stop false

abbrev pub has_stopped : HeldFile → Bool
has_stopped m = option_map_or (λ (s : Stop). nat_lt s.call (raised m.failing.calls)) m.stop false

-- whether the next call fails
abbrev pub is_to_fail : HeldFile → Bool
is_to_fail m = fails_next m.failing || (stops_next m || has_stopped m)

-- the first bytes of the tail, where there is one
abbrev pub some_of : List ℕ → Option (List ℕ)
some_of [] = None
some_of (b ∷ bs) = Some (b ∷ bs)

-- what the next call, a write of these bytes, puts at its place; nothing where it fails by its number or behind a stop
abbrev pub put_next : HeldFile → List ℕ → Option (List ℕ)
put_next m bytes =
    if stops_next m then option_map_or (λ (s : Stop). some_of (take (length bytes) s.tail)) m.stop None
    else (if is_to_fail m then None else Some bytes)

-- the disk after a call that fails or does not, and writes nothing
abbrev pub after_call : Bool → HeldFile → HeldFile
after_call fails m = record m { failing = if fails then faulted m.failing else called m.failing }

-- the disk after a name that is opened
abbrev pub after_name : HeldFile → List ℕ → HeldFile
after_name m name = record m { names = m.names ++ name ∷ [] }

-- the disk after a write at a place that left this file
abbrev pub after_put : HeldFile → ℕ → ℕ → List ℕ → HeldFile
after_put m place size file = record m {
  file = file;
  writes = m.writes ++ record { before = m.file; place = place; size = size; period = m.period } ∷ [];
}

-- the disk after a sync
abbrev pub after_sync : HeldFile → HeldFile
after_sync m = record m { period = m.period + 1 }
