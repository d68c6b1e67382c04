-- A whole save: its steps one after another.
use Rattle.std.proofs.Common.{◌≡◌, ℕ, ◌+◌, ◌^◌, ◌<◌, List, [], ◌∷◌, ◌++◌, length, true, false, refl, sym, subst, ◌∙◌, ap, inl, inr}
use Rattle.std.specs.Prelude.{Option, Some}
use Rattle.std.proofs.lemmas.Bool.{cases_Bool}
use Rattle.spec_store.specs.Disk.{written, Torn}
use Rattle.spec_store.specs.Slots.{Slot, behind_gate, Standing, standing_of}
use Rattle.spec_store.specs.Stops.{DiskCall, WriteAt, Sync, file_after, torn_from, LeavesAlways, LeavesBehind}
use Rattle.spec_store.specs.Saves.{place_of, goes_second, next_place, next_sequence, next_slot, standing_after}
use Rattle.spec_store.specs.Saves.{has_closed_gate, calls_to_fill, calls_to_open, calls_of_save}
use Rattle.spec_store.specs.Laws.{MaySave, IsBeforeOrAfter, ClosesGate, IsFilled, FillsSlot, OpensGate, StepsSurvive, ClosedGateMayOpen, SaveSurvives}
use Rattle.spec_store.proofs.StepLemmas.{closes_gate, fills_slot, opens_gate}
use Rattle.spec_store.proofs.DiskLemmas.{torn-written}

pub steps_survive : StepsSurvive
steps_survive file body m =
    let b = goes_second (standing_of file) in (
      λ h. closes_gate b file refl h,
      λ h. fills_slot b file (next_slot (standing_of file) body) refl h m.short,
      λ filled. opens_gate b file body refl m.is_text m.short m.number filled,
    )

-- the calls behind a closed gate
abbrev pub calls_behind : ℕ → Slot → List DiskCall
calls_behind place slot = calls_to_fill place slot ++ calls_to_open place

-- they keep a property of what a stop leaves, and end in another
record Goes (P : List ℕ → Type 0) (file : List ℕ) (calls : List DiskCall) (after : Option Standing) : Type 0 where
  always : LeavesAlways P file (λ c. c ≡ file) calls
  behind : LeavesBehind (λ c. c ≡ file_after file calls) file (λ c. c ≡ file) calls
  standing : standing_of (file_after file calls) ≡ after

-- a write into a file of which nothing is pending
torn_alone : (P : List ℕ → Type 0) (at : ℕ) (bytes file : List ℕ)
    → ((c : List ℕ) → Torn at (length bytes) file c → P c) → (c : List ℕ) → torn_from at bytes (λ old. old ≡ file) c → P c
torn_alone P at bytes file h c (old, is, torn) =
    let Q : List ℕ → Type 0 = λ f. Torn at (length bytes) f c in
    h c (subst Q is torn)

-- a file that stands for what another one does, and whose gate is closed
goes_behind : (file body f : List ℕ) → MaySave file body → standing_of f ≡ standing_of file → has_closed_gate (next_place (standing_of file)) f ≡ true
    → Goes (IsBeforeOrAfter file body) f (calls_behind (next_place (standing_of file)) (next_slot (standing_of file) body))
    (Some (standing_after (standing_of file) body))
unfolding LeavesAlways LeavesBehind file_after
goes_behind file body f m same closed =
    let b = goes_second (standing_of file) in
    let place = place_of b in
    let slot = next_slot (standing_of file) body in
    let P : List ℕ → Type 0 = IsBeforeOrAfter file body in
    let fills : FillsSlot f place slot = fills_slot b f slot (ap goes_second same) closed m.short in
    let g : List ℕ = written (place + 1) (behind_gate slot) f in
    let same_g : standing_of g ≡ standing_of file = fills.standing ∙ same in
    let number : next_sequence (standing_of g) < 2 ^ 64 = subst (λ (s : Option Standing). next_sequence s < 2 ^ 64) (sym same_g) m.number in
    let opens : OpensGate g body place = opens_gate b g body (ap goes_second same_g) m.is_text m.short number
    (subst (λ (s : Option Standing). IsFilled place (next_slot s body) g) (sym same_g) fills.filled) in
    let w : List ℕ = written place (1 ∷ []) g in
    let new : standing_of w ≡ Some (standing_after (standing_of file) body) =
    opens.standing ∙ ap (λ (s : Option Standing). Some (standing_after s body)) same_g in
    let either : (c : List ℕ) → Torn place 1 g c → P c = λ c torn. as_before c g (opens.stop c torn) same_g in
    let stays : (c : List ℕ) → Torn (place + 1) (length (behind_gate slot)) f c → P c = λ c torn. inl (fills.stop c torn ∙ same) in
    let at_f : (c : List ℕ) → c ≡ f → P c = λ c e. inl (ap standing_of e ∙ same) in
    let at_g : (c : List ℕ) → c ≡ g → P c = λ c e. inl (ap standing_of e ∙ same_g) in
    let at_w : (c : List ℕ) → c ≡ w → P c = λ c e. inr (ap standing_of e ∙ new) in
    record {
      always = (at_f, (torn_alone P (place + 1) (behind_gate slot) f stays, (at_g, (torn_alone P place (1 ∷ []) g either, at_w))));
      behind = λ c e. e;
      standing = new;
    }
  where
    as_before : (c g : List ℕ) → IsBeforeOrAfter g body c → standing_of g ≡ standing_of file → IsBeforeOrAfter file body c
    as_before c g (inl e) same_g = inl (e ∙ same_g)
    as_before c g (inr e) same_g = inr (e ∙ ap (λ (s : Option Standing). Some (standing_after s body)) same_g)

-- the calls of a save, by its gate
calls-closed : (file body : List ℕ) → has_closed_gate (next_place (standing_of file)) file ≡ true
    → calls_of_save file body ≡ calls_behind (next_place (standing_of file)) (next_slot (standing_of file) body)
calls-closed file body h = rw h refl

calls-open : (file body : List ℕ) → has_closed_gate (next_place (standing_of file)) file ≡ false
    → calls_of_save file body ≡ WriteAt (next_place (standing_of file)) (0 ∷ []) ∷ Sync
    ∷ calls_behind (next_place (standing_of file)) (next_slot (standing_of file) body)
calls-open file body h = rw h refl

goes : (file body : List ℕ) → MaySave file body
    → Goes (IsBeforeOrAfter file body) file (calls_of_save file body) (Some (standing_after (standing_of file) body))
unfolding LeavesAlways LeavesBehind file_after
goes file body m =
    let place = next_place (standing_of file) in
    let P : List ℕ → Type 0 = IsBeforeOrAfter file body in
    let End : List DiskCall → Type 0 = λ calls. Goes P file calls (Some (standing_after (standing_of file) body)) in
    elim (cases_Bool (has_closed_gate place file)) [
      | inl h ↦ subst End (sym (calls-closed file body h)) (goes_behind file body file m refl h)
      | inr h ↦
          let closes : ClosesGate file place = closes_gate (goes_second (standing_of file)) file refl h in
          let f : List ℕ = written place (0 ∷ []) file in
          let r = goes_behind file body f m closes.standing closes.closed in
          let stays : (c : List ℕ) → Torn place 1 file c → P c = λ c torn. inl (closes.stop c torn) in
          subst End (sym (calls-open file body h)) (record {
            always = ((λ c e. inl (ap standing_of e)), (torn_alone P place (0 ∷ []) file stays, r.always));
            behind = r.behind;
            standing = r.standing;
          })
    ]

pub save_survives : SaveSurvives
save_survives file body m =
    let g = goes file body m in
    record { always = g.always; behind = g.behind; standing = g.standing }

pub closed_gate_may_open : ClosedGateMayOpen
closed_gate_may_open file body m filled =
    let place = next_place (standing_of file) in
    let opens = opens_gate (goes_second (standing_of file)) file body refl m.is_text m.short m.number filled in
    (written place (1 ∷ []) file, torn-written place (1 ∷ []) file, opens.standing)
