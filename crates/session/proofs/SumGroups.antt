-- The groups of sums are three numbers, and four that a wide port knows.
use Rattle.std.proofs.Common.{◌≡◌, ℕ, List, [], ◌∷◌, Bool, true, false, cond, refl, sym, ap, ◌∙◌, inl, inr, subst, arith}
use Rattle.std.specs.Prelude.{Option, Some, None, is_some, ◌==◌, ◌||◌, not}
use Rattle.std.specs.List.{list_all}
use Rattle.std.proofs.lemmas.Bool.{cases_Bool, and_parts, or_parts, eqb-true, false≢true}
use Rattle.spec_formats.specs.Groups.{GroupRow, group_table, group_in, group_of, sum_read, sum_write, sum_read_write}
use Rattle.spec_machine.specs.Manner.{Manner, Strict, Wide}
use Rattle.spec_machine.specs.Profile.{Profile}
use Rattle.spec_machine.specs.Sums.{SumRequest}
use Rattle.spec_machine.specs.MoreSums.{wide_sums, sums_in_manner}
use Rattle.spec_machine.proofs.MoreSums.{EachSum, more_sums-cases}
use Rattle.port_device.specs.Manners.{is_wide}
use Rattle.session.specs.HandleGroups.{is_sum, takes_parts}
use Rattle.session.specs.Runs.{IsSumGroup, IsKnownSum, IsSumOf}

-- a row of a sum has one of the three numbers
abbrev is_right_row : GroupRow → Bool
is_right_row r = not (is_sum (Some r.group)) || ((r.number == sum_read) || ((r.number == sum_write) || (r.number == sum_read_write)))

one-of : (n : ℕ) → ((n == sum_read) || ((n == sum_write) || (n == sum_read_write))) ≡ true → IsSumGroup n
one-of n t = elim (cases_Bool (n == sum_read)) [
  | inl e ↦ inl (eqb-true n sum_read e)
  | inr e ↦ elim (cases_Bool (n == sum_write)) [
    | inl f ↦ inr (inl (eqb-true n sum_write f))
    | inr f ↦ inr (inr (eqb-true n sum_read_write (rw (e, f) at t)))
  ]
]

row-of : (rows : List GroupRow) (n : ℕ) → list_all is_right_row rows ≡ true → is_sum (group_in rows n) ≡ true → IsSumGroup n
unfolding group_in
row-of [] n h t = absurd (false≢true t)
row-of (r ∷ rs) n h t =
    let right = and_parts (is_right_row r) (list_all is_right_row rs) h in
    elim (cases_Bool (r.number == n)) [
      | inl e ↦ let is : is_sum (Some r.group) ≡ true = rw e at t in subst IsSumGroup (eqb-true r.number n e) (one-of r.number (rw is at right.0))
      | inr e ↦ row-of rs n right.1 (rw e at t)
    ]

table-rows : list_all is_right_row group_table ≡ true
table-rows = refl

pub sum-group : (n : ℕ) → is_sum (group_of n) ≡ true → IsSumGroup n
unfolding group_of
sum-group n t = row-of group_table n table-rows t

-- what a strict port knows, and a wide one

pub more-strict : (x : Manner) (n : ℕ) → is_wide x ≡ false → false ≡ is_some (sums_in_manner x n)
more-strict Strict n f = refl
more-strict Wide n f = absurd (false≢true (sym f))

pub more-wide : (x : Manner) (n : ℕ) → is_wide x ≡ true → is_some (wide_sums n) ≡ is_some (sums_in_manner x n)
more-wide Strict n t = absurd (false≢true t)
more-wide Wide n t = refl

more-sum : (x : Manner) (n : ℕ) → is_some (sums_in_manner x n) ≡ true → IsKnownSum (sums_in_manner x n) n
more-sum x n =
    let P : Option (ℕ → List ℕ → SumRequest) → Type 0 = λ o. is_some o ≡ true → IsKnownSum o n in
    let each : EachSum n P = record {
      no_more = λ t. absurd (false≢true t);
      told_reads = λ e t. record { from = omega (arith, e); to = omega (arith, e); own = rw e refl };
      short_reads = λ e t. record { from = omega (arith, e); to = omega (arith, e); own = rw e refl };
      additions = λ e t. record { from = omega (arith, e); to = omega (arith, e); own = rw e refl };
      deletions = λ e t. record { from = omega (arith, e); to = omega (arith, e); own = rw e refl };
    } in
    let profile : Profile = record { manner = x; others = None } in
    more_sums-cases profile n P each

pub parts-taken : (x : Manner) (n : ℕ) → takes_parts x n ≡ true → IsSumOf x n
parts-taken x n t = elim (cases_Bool (is_sum (group_of n))) [
  | inl e ↦ inl (sum-group n e)
  | inr e ↦ inr (more-sum x n (rw e at t))
]

none-of : (o : Option (ℕ → List ℕ → SumRequest)) → is_some o ≡ false → o ≡ None
none-of None f = refl
none-of (Some sum) f = absurd (false≢true (sym f))

-- no sum: neither of every server, nor of this one
pub record IsNoSum (x : Manner) (n : ℕ) : Type 0 where
  pub no_more : sums_in_manner x n ≡ None
  pub no_group : is_sum (group_of n) ≡ false

pub no-parts : (x : Manner) (n : ℕ) → takes_parts x n ≡ false → IsNoSum x n
no-parts x n f =
    let both = or_parts (is_sum (group_of n)) (is_some (sums_in_manner x n)) f in
    record { no_more = none-of (sums_in_manner x n) both.1; no_group = both.0 }
