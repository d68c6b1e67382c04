-- What a sample of a recording leads to goes by its row.
use Rattle.std.proofs.Common.{◌≡◌, ℕ, List, [], ◌∷◌, Bool, true, false, cond, refl, ap, ◌∙◌, inl, inr}
use Rattle.std.specs.Prelude.{Option, Some, None, find, option_map, ◌==◌}
use Rattle.std.proofs.lemmas.Bool.{cases_Bool}
use Rattle.spec_client.specs.Stages.{Recorded, Recording, RecordWait, Progress}
use Rattle.spec_client.specs.Recordings.{has_enough, recorded_at, after_record_sample}
use Rattle.client_replies.specs.RecordParts.{name_of_handle, row_named, row_due, behind_row}

name_found : (handle : ℕ) (ns : List Recorded)
    → name_of_handle handle ns ≡ option_map (λ (n : Recorded). n.name) (find (λ (n : Recorded). n.handle == handle) ns)
name_found handle [] = refl
name_found handle (n ∷ ns) = elim (cases_Bool (n.handle == handle)) [
  | inl here ↦ rw here refl
  | inr other ↦ rw other (name_found handle ns)
]

pub sample_parts : (wait : RecordWait) (r : Recording) (handle time : ℕ) (bytes : List ℕ)
    → behind_row wait r (row_due r handle time bytes) ≡ after_record_sample wait r time bytes (recorded_at r handle)
sample_parts wait r handle time bytes =
    ap (λ o. behind_row wait r (cond (has_enough r) None (option_map (row_named r time bytes) o))) (name_found handle r.notifications)
    ∙ by_found (recorded_at r handle) (has_enough r) refl
  where
    by_found : (o : Option Recorded) (b : Bool) → has_enough r ≡ b
        → behind_row wait r (cond b None (option_map (row_named r time bytes) (option_map (λ (n : Recorded). n.name) o)))
        ≡ after_record_sample wait r time bytes o
    by_found None true e = refl
    by_found None false e = refl
    by_found (Some n) true e = rw e refl
    by_found (Some n) false e = rw e refl
