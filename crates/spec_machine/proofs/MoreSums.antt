-- The sums that a server of a profile knows besides, case by case.
use Rattle.std.proofs.Common.{◌≡◌, ℕ, List, refl, inl, inr}
use Rattle.std.specs.Prelude.{Option, Some, None, ◌==◌}
use Rattle.std.proofs.lemmas.Bool.{cases_Bool, eqb-true}
use Rattle.spec_machine.specs.Manner.{Manner, Strict, Wide}
use Rattle.spec_machine.specs.Profile.{Profile}
use Rattle.spec_machine.specs.Sums.{SumRequest, sum_of_told_reads, sum_of_short_reads, sum_of_additions, sum_of_deletions}
use Rattle.spec_machine.specs.MoreSums.{sum_told_read, sum_short_read, sum_add, sum_delete, wide_sums, sums_in_manner, more_sums}

-- what holds where there is none, and of each where the group is its own
pub record EachSum (group : ℕ) (P : Option (ℕ → List ℕ → SumRequest) → Type 0) : Type 0 where
  pub no_more : P None
  pub told_reads : group ≡ sum_told_read → P (Some sum_of_told_reads)
  pub short_reads : group ≡ sum_short_read → P (Some sum_of_short_reads)
  pub additions : group ≡ sum_add → P (Some sum_of_additions)
  pub deletions : group ≡ sum_delete → P (Some sum_of_deletions)

wide-cases : (group : ℕ) (P : Option (ℕ → List ℕ → SumRequest) → Type 0) → EachSum group P → P (wide_sums group)
wide-cases group P each =
    elim (cases_Bool (group == sum_told_read)) [
      | inl t ↦ rw t (each.told_reads (eqb-true group sum_told_read t))
      | inr t ↦ rw t (elim (cases_Bool (group == sum_short_read)) [
        | inl u ↦ rw u (each.short_reads (eqb-true group sum_short_read u))
        | inr u ↦ rw u (elim (cases_Bool (group == sum_add)) [
          | inl v ↦ rw v (each.additions (eqb-true group sum_add v))
          | inr v ↦ rw v (elim (cases_Bool (group == sum_delete)) [
            | inl w ↦ rw w (each.deletions (eqb-true group sum_delete w))
            | inr w ↦ rw w each.no_more
          ])
        ])
      ])
    ]

in_manner-cases : (x : Manner) (group : ℕ) (P : Option (ℕ → List ℕ → SumRequest) → Type 0) → EachSum group P → P (sums_in_manner x group)
in_manner-cases Strict group P each = each.no_more
in_manner-cases Wide group P each = wide-cases group P each

-- holds of those of every profile
pub more_sums-cases : (x : Profile) (group : ℕ) (P : Option (ℕ → List ℕ → SumRequest) → Type 0) → EachSum group P → P (more_sums x group)
more_sums-cases x group P each = in_manner-cases x.manner group P each

in_manner-none : (x : Manner) (group : ℕ) → wide_sums group ≡ None → sums_in_manner x group ≡ None
in_manner-none Strict group none = refl
in_manner-none Wide group none = none

-- a group that the wide server does not know as a sum's, no server does
pub more_sums-none : (x : Profile) (group : ℕ) → wide_sums group ≡ None → more_sums x group ≡ None
more_sums-none x group none = in_manner-none x.manner group none
