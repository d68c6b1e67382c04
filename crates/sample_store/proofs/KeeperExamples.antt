-- What the calls of a keeper tell of its rows, by computation.
use Rattle.std.specs.Prelude.{refl, ℕ, List, [], ◌∷◌, codes, length, Option, Some, None, is_some, ◌==◌}
use Rattle.std.proofs.Common.{ap, arith, lit≤, sym}
use Rattle.std.proofs.lemmas.Bool.{false≢true}
use Rattle.spec_samples.specs.Row.{Row}
use Rattle.spec_samples.specs.Laws.{AreCountedFrom}
use Rattle.spec_samples.specs.Rows.{rows_after_put}
use Rattle.spec_samples.specs.Totals.{total_of, last_row}
use Rattle.sample_store.specs.declared.kept.Kept.TheVariants as kept
use Rattle.sample_store.specs.declared.keeper_open.KeeperOpen.TheVariants as open_
use Rattle.sample_store.specs.declared.totalled.Totalled.TheVariants as totalled
use Rattle.sample_store.specs.Keeper.{AreNumbered, Counts, IsNext, Keeps, Totals}

abbrev sample : ℕ → ℕ → Row
sample number value = record { number = number; name = codes "Main.count"; time = 5; bytes = value ∷ [] }

abbrev two : Option (List Row)
two = Some (sample 1 42 ∷ sample 2 43 ∷ [])

abbrev count_in : Option (List Row) → ℕ
count_in None = 0
count_in (Some rows) = length rows

numbered : AreNumbered two
unfolding AreCountedFrom
numbered = (refl, (refl, tt))

a_number_is_missing : AreNumbered (Some (sample 1 42 ∷ sample 3 43 ∷ [])) → ⊥
unfolding AreCountedFrom
a_number_is_missing n = false≢true (ap (λ m. m == 2) (n.1.0))

-- the number of the rows is told as it is
counted : Counts (open_.Ready 2) two
counted = refl

one_too_many : Counts (open_.Ready 3) two → ⊥
one_too_many e = false≢true (ap (λ n. n == 2) e)

-- a row is put behind the last one, or its number is there; where it is not done all is as before
next_number : IsNext two 3
next_number = lit≤ tt

over_a_number : IsNext two 4 → ⊥
over_a_number h = omega (arith, h)

put : Keeps kept.Done two (Some (sample 1 42 ∷ sample 2 43 ∷ sample 3 44 ∷ [])) (sample 3 44)
unfolding rows_after_put
put = refl

put_again : Keeps kept.Done two two (sample 2 99)
unfolding rows_after_put
put_again = refl

put_and_lost : Keeps kept.Done two two (sample 3 44) → ⊥
unfolding rows_after_put
put_and_lost e = false≢true (ap (λ o. count_in o == 3) e)

failed_and_put : Keeps kept.Failed two (Some (sample 1 42 ∷ sample 2 43 ∷ sample 3 44 ∷ [])) (sample 3 44) → ⊥
failed_and_put e = false≢true (ap (λ o. count_in o == 2) e)

-- there is no total exactly where no row has the name
no_total : Totals totalled.Nothing two (codes "Main.other")
unfolding total_of last_row
no_total = refl

total_withheld : Totals totalled.Nothing two (codes "Main.count") → ⊥
unfolding total_of last_row
total_withheld e = false≢true (sym (ap is_some e))
