-- What is kept stands for a history, after each event too, and answers what the history says.
use Rattle.std.proofs.Common.{◌≡◌, ℕ, ◌+◌, ◌≤◌, List, [], ◌∷◌, ◌++◌, map, length, true, false, refl, sym, ◌∙◌, ap, subst, inl, inr, arith}
use Rattle.std.specs.Prelude.{Option, Some, None, Result, Ok, Err, ok_or}
use Rattle.std.proofs.lemmas.Bool.{or_cases, or_parts, leb-true, leb-false}
use Rattle.return_codes.specs.declared.code.Code.{Code}
use Rattle.return_codes.specs.declared.code.Code.TheVariants.{C710, C711}
use Rattle.symbol_table.specs.declared.kept.KeptPlace.{KeptPlace}
use Rattle.symbol_table.specs.declared.place.Place.{Place}
use Rattle.symbol_table.specs.Moves.{moved_place}
use Rattle.spec_machine.specs.ByName.{MAX_LIVE, MAX_NUMBER}
use Rattle.spec_machine.specs.Handles.{HandleStatus, Never, Released, Outdated, Live, HandleEvent, Grant}
use Rattle.spec_machine.specs.Handles.{Release, Reload, Handle, status_of, handles_after, handle_after_reload}
use Rattle.spec_machine.specs.HandleLaws.{handles_after_all, handles_of}
use Rattle.spec_machine.proofs.HandleStatuses.{status_is_history, length_granted, length_mapped, length_released}
use Rattle.sym_handles.specs.Kept.{KeptHandle, Kept, moved_handle, without}
use Rattle.sym_handles.specs.History.{History, IsFull, look_up, release_of, kept_from, Represents}
use Rattle.sym_handles.specs.Found.{kept_handle, place_or_code, look_among}
use Rattle.sym_handles.specs.Records.{live_among, is_full}
use Rattle.sym_handles.proofs.KeptHandles.{kept_from-granted, kept_from-moved, kept_from-released, live_count-kept, place_kept, place_found, place_found-kept}

handles_after_all-push : (es : History) (hs : List (Handle Place)) (e : HandleEvent Place)
    → handles_after_all hs (es ++ e ∷ []) ≡ handles_after (handles_after_all hs es) e
unfolding handles_after_all
handles_after_all-push [] hs e = refl
handles_after_all-push (x ∷ es) hs e = handles_after_all-push es (handles_after hs x) e

-- what is kept, by its parts
pub kept_is : (kept : Kept) (granted : ℕ) (handles : List KeptHandle) → kept.granted ≡ granted
    → kept.handles ≡ handles → kept ≡ record { granted = granted; handles = handles }
kept_is kept granted handles g h = ap (λ (n : ℕ). kept_of n kept.handles) g ∙ ap (kept_of granted) h
  where
    kept_of : ℕ → List KeptHandle → Kept
    kept_of n hs = record { granted = n; handles = hs }

-- nothing is kept of nothing
pub represents_nothing : Represents (record { granted = 0; handles = [] }) []
unfolding handles_after_all
represents_nothing = record { granted = refl; handles = refl }

pub represents_granted : (kept new : Kept) (h : History) (port : ℕ) (p : Place) → Represents kept h → new.granted ≡ kept.granted + 1
    → new.handles ≡ kept.handles ++ record { number = kept.granted + 1; port = port; place = Some p } ∷ [] → Represents new (h ++ Grant port p ∷ [])
unfolding handles_after
represents_granted kept new h port p r more last =
    let hs = handles_of h in
    let g : Handle Place = record { port = port; status = Live p } in
    let after = handles_after_all-push h [] (Grant port p) in
    let count = length_granted hs g in
    let n : kept.granted + 1 ≡ 1 + length hs = let e = r.granted in omega (arith, e) in
    record {
      granted = more ∙ (let e = r.granted in let c : kept.granted + 1 ≡ length (hs ++ g ∷ []) = omega (arith, e, count) in c) ∙ ap length (sym after);
      handles = last ∙ ap (λ (xs : List KeptHandle). xs ++ record { number = kept.granted + 1; port = port; place = Some p } ∷ []) r.handles
          ∙ ap (λ (k : ℕ). kept_from 1 hs ++ record { number = k; port = port; place = Some p } ∷ []) n
          ∙ sym (kept_from-granted hs 1 port p) ∙ ap (kept_from 1) (sym after);
    }

pub represents_released : (kept new : Kept) (h : History) (handle : ℕ) → Represents kept h
    → new.granted ≡ kept.granted → new.handles ≡ without handle kept.handles → Represents new (h ++ Release handle ∷ [])
unfolding handles_after
represents_released kept new h handle r same left =
    let hs = handles_of h in
    let after = handles_after_all-push h [] (Release handle) in
    record {
      granted = same ∙ r.granted ∙ sym (length_released hs handle) ∙ ap length (sym after);
      handles = left ∙ ap (without handle) r.handles ∙ sym (kept_from-released hs handle) ∙ ap (kept_from 1) (sym after);
    }

pub represents_moved : (kept new : Kept) (h : History) (places : List KeptPlace) → Represents kept h
    → new.granted ≡ kept.granted → new.handles ≡ map (moved_handle places) kept.handles
    → Represents new (h ++ Reload (moved_place places) ∷ [])
unfolding handles_after
represents_moved kept new h places r same moved =
    let hs = handles_of h in
    let after = handles_after_all-push h [] (Reload (moved_place places)) in
    record {
      granted = same ∙ r.granted ∙ sym (length_mapped (handle_after_reload (moved_place places)) hs) ∙ ap length (sym after);
      handles = moved ∙ ap (map (moved_handle places)) r.handles ∙ sym (kept_from-moved places hs 1) ∙ ap (kept_from 1) (sym after);
    }

abbrev look_on : Option (Option Place) → Result Place Code
look_on None = Err C710
look_on (Some o) = place_or_code o

abbrev release_on : Option (Option Place) → Result (Unit {0}) Code
release_on None = Err C710
release_on (Some o) = Ok tt

look_up-on : (s : HandleStatus Place) → look_up s ≡ look_on (place_kept s)
look_up-on Never = refl
look_up-on Released = refl
look_up-on Outdated = refl
look_up-on (Live p) = refl

release_of-on : (s : HandleStatus Place) → release_of s ≡ release_on (place_kept s)
release_of-on Never = refl
release_of-on Released = refl
release_of-on Outdated = refl
release_of-on (Live p) = refl

-- the place that is kept is that of the history's status
found_in : (kept : Kept) (h : History) (handle port : ℕ) → Represents kept h
    → place_kept (status_of h handle port) ≡ place_found (kept_handle handle port kept.handles)
found_in kept h handle port r =
    ap place_kept (sym (status_is_history Place h handle port)) ∙ place_found-kept (handles_of h) handle port
    ∙ ap (λ (hs : List KeptHandle). place_found (kept_handle handle port hs)) (sym r.handles)

look_on-among : (o : Option KeptHandle) → look_on (place_found o) ≡ look_among o
look_on-among None = refl
look_on-among (Some h) = refl

-- a look-up of the history is one among those that are kept
pub look_in : (kept : Kept) (h : History) (handle port : ℕ) → Represents kept h
    → look_up (status_of h handle port) ≡ look_among (kept_handle handle port kept.handles)
look_in kept h handle port r =
    look_up-on (status_of h handle port) ∙ ap look_on (found_in kept h handle port r) ∙ look_on-among (kept_handle handle port kept.handles)

-- a handle that is not kept is refused
pub release_none : (kept : Kept) (h : History) (handle port : ℕ) → Represents kept h
    → kept_handle handle port kept.handles ≡ None → release_of (status_of h handle port) ≡ Err C710
release_none kept h handle port r none =
    release_of-on (status_of h handle port) ∙ ap release_on (found_in kept h handle port r) ∙ ap (λ (o : Option KeptHandle). release_on (place_found o)) none

-- a handle that is kept can be released
pub release_some : (kept : Kept) (h : History) (handle port : ℕ) (k : KeptHandle) → Represents kept h
    → kept_handle handle port kept.handles ≡ Some k → release_of (status_of h handle port) ≡ Ok tt
release_some kept h handle port k r some =
    release_of-on (status_of h handle port) ∙ ap release_on (found_in kept h handle port r) ∙ ap (λ (o : Option KeptHandle). release_on (place_found o)) some

pub place_or_code-ok_or : (o : Option Place) → ok_or o C711 ≡ place_or_code o
place_or_code-ok_or None = refl
place_or_code-ok_or (Some p) = refl

-- the limits are those of the history

pub full_in : (kept : Kept) (h : History) → Represents kept h → is_full kept.granted kept.handles ≡ true → IsFull h
full_in kept h r t =
    elim (or_cases _ _ t) [
      | inl many ↦
          let e = leb-true MAX_LIVE (live_among kept.handles) many in
          let c = ap live_among r.handles ∙ sym (live_count-kept (handles_of h) 1) in
          inl (subst (λ (n : ℕ). MAX_LIVE ≤ n) c e)
      | inr last ↦
          let e = leb-true MAX_NUMBER kept.granted last in
          inr (subst (λ (n : ℕ). MAX_NUMBER ≤ n) r.granted e)
    ]

pub room_in : (kept : Kept) (h : History) → Represents kept h → is_full kept.granted kept.handles ≡ false → IsFull h → ⊥
room_in kept h r f (inl many) =
    let p = or_parts _ _ f in
    let e = leb-false MAX_LIVE (live_among kept.handles) p.0 in
    let c = live_count-kept (handles_of h) 1 ∙ ap live_among (sym r.handles) in
    omega (arith, subst (λ (n : ℕ). MAX_LIVE ≤ n) c many, e)
room_in kept h r f (inr last) =
    let p = or_parts _ _ f in
    let e = leb-false MAX_NUMBER kept.granted p.1 in
    omega (arith, subst (λ (n : ℕ). MAX_NUMBER ≤ n) (sym r.granted) last, e)
