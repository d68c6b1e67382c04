-- Bytes of which a part is written anew.
use Rattle.std.specs.Prelude.{ℕ, ◌+◌, List, ◌++◌, take, drop}
use Rattle.std.specs.List.{refill}

-- the bytes with a part in the place of the len from the place at on
abbrev pub with_part : List ℕ → ℕ → ℕ → List ℕ → List ℕ
with_part bytes at len part = take at bytes ++ (part ++ drop (at + len) bytes)

-- the bytes after the len from the place at on were lent and `left` was left there;
-- a lent slice keeps its length
abbrev pub after_loan : List ℕ → ℕ → ℕ → List ℕ → List ℕ
after_loan bytes at len left =
    with_part bytes at len (refill len (take len (drop at bytes)) left)
