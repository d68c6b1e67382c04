-- What a writing took.
use Rattle.std.specs.Prelude.{ℕ, ◌≤◌, Bool, true, false}
use Rattle.ads_edge.specs.declared.written.Written.{Written}
use Rattle.ads_edge.specs.declared.written.Written.TheVariants as written

-- what was taken stands within so many bytes
abbrev pub WrittenWithin : Written → ℕ → Type 0
WrittenWithin (written.Bytes n) offered = n ≤ offered
WrittenWithin written.Full offered = Unit {0}
WrittenWithin written.Failed offered = Unit {0}

-- how many bytes were taken
abbrev pub taken_of : Written → ℕ
taken_of (written.Bytes n) = n
taken_of written.Full = 0
taken_of written.Failed = 0

-- the peer is there
abbrev pub is_there : Written → Bool
is_there (written.Bytes n) = true
is_there written.Full = true
is_there written.Failed = false

-- the beat of the last sign of life after a writing: this one where bytes were taken
abbrev pub alive_after : Written → ℕ → ℕ → ℕ
alive_after (written.Bytes n) now before = now
alive_after written.Full now before = before
alive_after written.Failed now before = before
