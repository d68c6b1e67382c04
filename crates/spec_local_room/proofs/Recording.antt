-- What a recording does next where it waits for samples, and where it deletes its notifications.
use Rattle.std.proofs.Common.{◌≡◌, ◌⊎◌, ℕ, suc, ◌<◌, List, [], ◌∷◌, length, map, Bool, true, false, refl, sym, ap, subst, inl, inr, arith}
use Rattle.std.specs.Prelude.{Some, if◌then◌else◌}
use Rattle.std.specs.List.{list_all}
use Rattle.std.proofs.lemmas.Bool.{cases_Bool, cond-true, cond-false}
use Rattle.spec_formats.specs.Request.{DeleteDeviceNotification}
use Rattle.spec_client.specs.Conversation.{CallEnded, end_of_stage}
use Rattle.spec_client.specs.Recordings.{has_ended, handles_of, has_enough, recording_done, after_deletion, after_samples}
use Rattle.spec_client.specs.Runner.{is_over}
use Rattle.spec_client.specs.Stages.{CallEnd, Done, ToSend, Recorded, Recording, ForSamples, ForDeletion, Records, Progress, progress}

-- a call at any stage ends so
pub record IsEnd (end : CallEnd) (p : Progress) : Type 0 where
  pub is : end_of_stage p.stage ≡ Some (CallEnded end)
  pub over : is_over p.stage ≡ true
  pub silent : p.outputs ≡ []

-- one of at most so many notifications is deleted
pub record Deletes (most : ℕ) (r : Recording) (p : Progress) : Type 0 where
  pub handle : ℕ
  pub left : List ℕ
  pub is : p ≡ progress (Records (ForDeletion left) r) (ToSend (DeleteDeviceNotification handle) ∷ [])
  pub few : length left < most

done_now : (r : Recording) → IsEnd Done (recording_done r)
done_now r = record { is = refl; over = refl; silent = refl }

deletes_more : (n m : ℕ) (r : Recording) (p : Progress) → n < m → IsEnd Done p ⊎ Deletes n r p → IsEnd Done p ⊎ Deletes m r p
deletes_more n m r p less (inl end) = inl end
deletes_more n m r p less (inr d) =
    let few = d.few in inr (record { handle = d.handle; left = d.left; is = d.is; few = omega (arith, few, less) })

pub deletion_leads : (hs : List ℕ) (r : Recording) → IsEnd Done (after_deletion hs r) ⊎ Deletes (length hs) r (after_deletion hs r)
unfolding after_deletion
deletion_leads [] r = inl (done_now r)
deletion_leads (h ∷ hs) r = go (deletion_leads hs r) (has_ended r h)
  where
    Leads : Progress → Type 0
    Leads p = IsEnd Done p ⊎ Deletes (suc (length hs)) r p

    go : IsEnd Done (after_deletion hs r) ⊎ Deletes (length hs) r (after_deletion hs r) → (b : Bool)
        → Leads (if b then after_deletion hs r else progress (Records (ForDeletion hs) r) (ToSend (DeleteDeviceNotification h) ∷ []))
    go later true = deletes_more (length hs) (suc (length hs)) r (after_deletion hs r) (omega arith) later
    go later false = inr (record { handle = h; left = hs; is = refl; few = omega arith })

length-handles : (r : Recording) → length (handles_of r) ≡ length r.notifications
length-handles r = go r.notifications
  where
    go : (ns : List Recorded) → length (map (λ (n : Recorded). n.handle) ns) ≡ length ns
    go [] = refl
    go (n ∷ ns) = ap suc (go ns)

-- it waits for samples
pub record WaitsOn (r : Recording) (p : Progress) : Type 0 where
  pub enough : has_enough r ≡ false
  pub is : p ≡ progress (Records ForSamples r) []

abbrev pub SamplesLead : Recording → Progress → Type 0
SamplesLead r p = IsEnd Done p ⊎ (((has_enough r ≡ true) × Deletes (length r.notifications) r p) ⊎ WaitsOn r p)

pub samples_lead : (r : Recording) → SamplesLead r (after_samples r)
samples_lead r = elim (cases_Bool (has_enough r)) [
  | inl enough ↦
      subst (SamplesLead r) (sym (cond-true (has_enough r) _ _ enough)) (elim (deletion_leads (handles_of r) r) [
        | inl end ↦ inl end
        | inr d ↦ inr (inl (enough, subst (λ n. Deletes n r (after_deletion (handles_of r) r)) (length-handles r) d))
      ])
  | inr some ↦ subst (SamplesLead r) (sym (cond-false (has_enough r) _ _ some)) (go some (list_all (has_ended r) (handles_of r)))
]
  where
    go : has_enough r ≡ false → (b : Bool) → SamplesLead r (if b then recording_done r else progress (Records ForSamples r) [])
    go some true = inl (done_now r)
    go some false = inr (inr (record { enough = some; is = refl }))
