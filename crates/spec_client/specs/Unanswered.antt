-- The requests of a client that are not answered yet, their invoke ids, and when they time out.
use Rattle.std.specs.Prelude.{ℕ, zero, suc, ◌+◌, ◌-◌, List, [], ◌∷◌, filter, find, count_by, Bool, not, ◌==◌}
use Rattle.std.specs.Prelude.{◌&&◌, nat_le, nat_lt, Option, Some, None, is_some, is_none}
use Rattle.std.specs.Prelude.{if◌then◌else◌}
use Rattle.std.specs.Option.{option_and_then}
use Rattle.std.specs.List.{list_any}

-- a request without an answer: its invoke id, its command, the moment of its issue, and the moment of the tick
-- by which it timed out; it is kept until its timeout is told
pub record Unanswered : Type 0 where
  pub id : ℕ
  pub command : ℕ
  pub sent : ℕ
  pub timed_out : Option ℕ

-- This project's own choice: at most so many requests are outstanding.
abbrev pub MAX_OUTSTANDING : ℕ
MAX_OUTSTANDING = 64

-- the greatest invoke id; 1 follows it
abbrev pub MAX_ID : ℕ
MAX_ID = 4294967295

-- This project's own choice: a request times out after five seconds, counted in 100 ns.
abbrev pub TIMEOUT : ℕ
TIMEOUT = 50000000

-- the request waits for its answer
abbrev pub is_outstanding : Unanswered → Bool
is_outstanding u = is_none u.timed_out

-- its timeout is still to be told
abbrev pub is_timed_out : Unanswered → Bool
is_timed_out u = is_some u.timed_out

-- how many requests wait for their answers
abbrev pub outstanding_count : List Unanswered → ℕ
outstanding_count us = count_by is_outstanding us

-- the number after an id, and 1 where there is none yet
abbrev pub id_after : ℕ → ℕ
id_after id = if id == MAX_ID then 1 else id + 1

abbrev pub is_outstanding_at : ℕ → Unanswered → Bool
is_outstanding_at id u = is_outstanding u && (u.id == id)

-- an outstanding request has this id
abbrev pub has_outstanding : ℕ → List Unanswered → Bool
has_outstanding id us = list_any (is_outstanding_at id) us

-- the first number from this one on that no outstanding request has, where at most so many are passed over
unfoldable pub free_id : ℕ → List Unanswered → ℕ → ℕ
free_id zero us id = id
free_id (suc n) us id = if has_outstanding id us then free_id n us (id_after id) else id

-- the others, without the first that passes a test
unfoldable pub without_first : (Unanswered → Bool) → List Unanswered → List Unanswered
without_first test [] = []
without_first test (u ∷ us) = if test u then us else u ∷ without_first test us

abbrev pub is_overdue : ℕ → Unanswered → Bool
is_overdue now u = is_outstanding u && nat_le TIMEOUT (now - u.sent)

-- a request behind a tick
abbrev pub after_tick_of : ℕ → Unanswered → Unanswered
after_tick_of now u = if is_overdue now u then record u { timed_out = Some now } else u

-- the lesser id
abbrev pub lesser : ℕ → Option ℕ → ℕ
lesser id None = id
lesser id (Some other) = if nat_lt other id then other else id

-- the least id of those that timed out
unfoldable pub least_id : List Unanswered → Option ℕ
least_id [] = None
least_id (u ∷ us) = if is_timed_out u then Some (lesser u.id (least_id us)) else least_id us

abbrev pub is_timed_out_at : ℕ → Unanswered → Bool
is_timed_out_at id u = is_timed_out u && (u.id == id)

-- the timeout that is told next: that of the least id, and the first of these in the order of issue
abbrev pub next_timeout : List Unanswered → Option Unanswered
next_timeout us = option_and_then (λ id. find (is_timed_out_at id) us) (least_id us)
