-- What a notification gives over its life, and what it may not, by computation.
use Rattle.std.specs.Prelude.{◌≡◌, refl, ℕ, List, [], ◌∷◌, ◌++◌, bytes_eq, Bool, true, false}
use Rattle.std.proofs.Common.{inl, inr, lit<, lit≤, ap}
use Rattle.std.proofs.lemmas.Bool.{false≢true, le-leb}
use Rattle.spec_promises.specs.Notified.{TickSeen, IsByCycle, IsOnChange}

-- a tick at which the value, one byte, is this, and the samples that are given
abbrev seen : ℕ → ℕ → List (List ℕ) → TickSeen
seen moment value given = record { moment = moment; found = value ∷ []; given = given }

-- a sample of this value
abbrev sample : ℕ → List (List ℕ)
sample value = (value ∷ []) ∷ []

abbrev first_of : List (List ℕ) → List ℕ
first_of [] = []
first_of (s ∷ ss) = s

abbrev is_single : List (List ℕ) → Bool
is_single (s ∷ []) = true
is_single ss = false

abbrev is_none : List (List ℕ) → Bool
is_none [] = true
is_none (s ∷ ss) = false

-- in cycle mode, of a cycle of 1,000: a sample at 500; none at 1,499; then at 1,700, and so none at 2,500
abbrev cyclic_life : List TickSeen
cyclic_life = seen 500 1 (sample 1) ∷ seen 1499 1 [] ∷ seen 1700 2 (sample 2) ∷ seen 2500 3 [] ∷ seen 2700 3 (sample 3) ∷ []

-- these may not be: no sample at the first tick; one before the cycle has passed; none though it has; another value; two at once
abbrev late_life : List TickSeen
late_life = seen 500 1 [] ∷ seen 1500 1 (sample 1) ∷ []

abbrev early_life : List TickSeen
early_life = seen 500 1 (sample 1) ∷ seen 1499 2 (sample 2) ∷ []

abbrev missing_life : List TickSeen
missing_life = seen 500 1 (sample 1) ∷ seen 1500 2 [] ∷ []

abbrev stale_life : List TickSeen
stale_life = seen 500 1 (sample 1) ∷ seen 1500 2 (sample 1) ∷ []

abbrev double_life : List TickSeen
double_life = seen 500 1 (sample 1 ++ sample 1) ∷ []

-- the cycle counts from the last sample and not from the first
abbrev grid_life : List TickSeen
grid_life = seen 500 1 (sample 1) ∷ seen 1700 2 (sample 2) ∷ seen 2500 3 (sample 3) ∷ []

late : IsByCycle 1000 late_life → ⊥
late (first, rest) = false≢true (ap (λ l. bytes_eq (first_of l) (1 ∷ [])) first)

early : IsByCycle 1000 early_life → ⊥
early (first, inl (given, due, rest)) = false≢true (le-leb 1500 1499 due)
early (first, inr (none, not_due, rest)) = false≢true (ap is_none none)

missing : IsByCycle 1000 missing_life → ⊥
missing (first, inl (given, due, rest)) = false≢true (ap (λ l. bytes_eq (first_of l) (2 ∷ [])) given)
missing (first, inr (none, not_due, rest)) = false≢true (le-leb 1501 1500 not_due)

stale : IsByCycle 1000 stale_life → ⊥
stale (first, inl (given, due, rest)) = false≢true (ap (λ l. bytes_eq (first_of l) (2 ∷ [])) given)
stale (first, inr (none, not_due, rest)) = false≢true (ap is_none none)

double : IsByCycle 1000 double_life → ⊥
double (first, rest) = false≢true (ap is_single first)

grid : IsByCycle 1000 grid_life → ⊥
grid (first, inl (given, due, inl (second, too_early, rest))) = false≢true (le-leb 2700 2500 too_early)
grid (first, inl (given, due, inr (none, not_due, rest))) = false≢true (ap is_none none)
grid (first, inr (none, not_due, rest)) = false≢true (ap is_none none)

-- a cycle of 0 counts as 1, the least
twice : IsByCycle 0 (seen 500 1 (sample 1) ∷ seen 500 1 (sample 1) ∷ []) → ⊥
twice (first, inl (given, due, rest)) = false≢true (le-leb 501 500 due)
twice (first, inr (none, not_due, rest)) = false≢true (ap is_none none)

pub record CyclicRows : Type 0 where
  pub cyclic : IsByCycle 1000 cyclic_life
  pub each_tick : IsByCycle 0 (seen 500 1 (sample 1) ∷ seen 500 1 [] ∷ seen 501 1 (sample 1) ∷ [])
  pub no_first_sample : IsByCycle 1000 late_life → ⊥
  pub too_early : IsByCycle 1000 early_life → ⊥
  pub one_is_missing : IsByCycle 1000 missing_life → ⊥
  pub old_value : IsByCycle 1000 stale_life → ⊥
  pub two_at_once : IsByCycle 1000 double_life → ⊥
  pub by_a_grid : IsByCycle 1000 grid_life → ⊥
  pub two_in_no_time : IsByCycle 0 (seen 500 1 (sample 1) ∷ seen 500 1 (sample 1) ∷ []) → ⊥

pub cyclic_rows : CyclicRows
cyclic_rows = record {
  cyclic = (refl, inr (refl, lit< tt, inl (refl, lit≤ tt, inr (refl, lit< tt, inl (refl, lit≤ tt, tt)))));
  each_tick = (refl, inr (refl, lit< tt, inl (refl, lit≤ tt, tt)));
  no_first_sample = late;
  too_early = early;
  one_is_missing = missing;
  old_value = stale;
  two_at_once = double;
  by_a_grid = grid;
  two_in_no_time = twice;
}

-- on change, of a cycle of 1,000: the first; the same value; another one before the check is due; that one when it is due
abbrev changing_life : List TickSeen
changing_life = seen 500 1 (sample 1) ∷ seen 1500 1 [] ∷ seen 2499 2 [] ∷ seen 2500 2 (sample 2) ∷ []

-- these may not be: the same value again; a change that is not told; one that is told before the check is due
abbrev repeated_life : List TickSeen
repeated_life = seen 500 1 (sample 1) ∷ seen 1500 1 (sample 1) ∷ []

abbrev untold_life : List TickSeen
untold_life = seen 500 1 (sample 1) ∷ seen 1500 2 [] ∷ []

abbrev hasty_life : List TickSeen
hasty_life = seen 500 1 (sample 1) ∷ seen 1499 2 (sample 2) ∷ []

-- a change that is taken back before a check was never seen; but after a sample it is one
abbrev back_life : List TickSeen
back_life = seen 500 1 (sample 1) ∷ seen 1500 2 (sample 2) ∷ seen 2500 1 [] ∷ []

one_is_not_two : ◌≡◌ {A = List ℕ} (1 ∷ []) (2 ∷ []) → ⊥
one_is_not_two e = false≢true (ap (λ l. bytes_eq l (2 ∷ [])) e)

two_is_not_one : ◌≡◌ {A = List ℕ} (2 ∷ []) (1 ∷ []) → ⊥
two_is_not_one e = false≢true (ap (λ l. bytes_eq l (1 ∷ [])) e)

repeated : IsOnChange 1000 repeated_life → ⊥
repeated (first, inl (given, other, due, rest)) = other refl
repeated (first, inr (inl (none, same, due, rest))) = false≢true (ap is_none none)
repeated (first, inr (inr (none, not_due, rest))) = false≢true (ap is_none none)

untold : IsOnChange 1000 untold_life → ⊥
untold (first, inl (given, other, due, rest)) = false≢true (ap (λ l. bytes_eq (first_of l) (2 ∷ [])) given)
untold (first, inr (inl (none, same, due, rest))) = two_is_not_one same
untold (first, inr (inr (none, not_due, rest))) = false≢true (le-leb 1501 1500 not_due)

hasty : IsOnChange 1000 hasty_life → ⊥
hasty (first, inl (given, other, due, rest)) = false≢true (le-leb 1500 1499 due)
hasty (first, inr (inl (none, same, due, rest))) = false≢true (ap is_none none)
hasty (first, inr (inr (none, not_due, rest))) = false≢true (ap is_none none)

back : IsOnChange 1000 back_life → ⊥
back (first, inl (given, other, due, inl (second, changed, again, more))) = false≢true (ap (λ l. bytes_eq (first_of l) (1 ∷ [])) second)
back (first, inl (given, other, due, inr (inl (none, same, again, more)))) = one_is_not_two same
back (first, inl (given, other, due, inr (inr (none, not_due, more)))) = false≢true (le-leb 2501 2500 not_due)
back (first, inr (inl (none, same, due, rest))) = two_is_not_one same
back (first, inr (inr (none, not_due, rest))) = false≢true (le-leb 1501 1500 not_due)

pub record OnChangeRows : Type 0 where
  pub on_change : IsOnChange 1000 changing_life
  pub same_value_again : IsOnChange 1000 repeated_life → ⊥
  pub change_is_not_told : IsOnChange 1000 untold_life → ⊥
  pub before_it_is_due : IsOnChange 1000 hasty_life → ⊥
  pub changed_back : IsOnChange 1000 back_life → ⊥

pub on_change_rows : OnChangeRows
on_change_rows = record {
  on_change = (refl, inr (inl (refl, refl, lit≤ tt, inr (inr (refl, lit< tt, inl (refl, two_is_not_one, lit≤ tt, tt))))));
  same_value_again = repeated;
  change_is_not_told = untold;
  before_it_is_due = hasty;
  changed_back = back;
}
