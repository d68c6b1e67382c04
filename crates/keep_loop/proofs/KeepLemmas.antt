-- The save of one body more: whether there is one, and what stands then.
use Rattle.std.proofs.Common.{◌≡◌, ℕ, ◌+◌, List, [], ◌∷◌, ◌++◌, length, true, false, sym, ap, ◌∙◌}
use Rattle.std.proofs.lemmas.List.{length-append}
use Rattle.ads_served.specs.Standing.{Standing}
use Rattle.spec_store.specs.Runs as runs
use Rattle.serve_loop.specs.Leads.{serves_any}
use Rattle.serve_loop.specs.TurnTaken.{StandsOver}
use Rattle.persist_store.specs.Store.{StoreState, body_of}
use Rattle.keep_loop.specs.Bodies.{is_standing, saves_in}
use Rattle.keep_loop.proofs.SaveLemmas.{last_of, body_in, body_after, saves-same, saves-other}

pub any_over : {W C : Type 0} (serves : Standing W C → Type 0) (opened : List ℕ) (y : Standing W C) → StandsOver serves opened y
    → StandsOver serves_any opened y
any_over serves opened y over = record { stands = tt; numbers = over.numbers }

pub length_one : (saves : List (List ℕ)) (body : List ℕ) → length (saves ++ body ∷ []) ≡ length saves + 1
length_one saves body = length-append saves (body ∷ [])

-- the body that stands is the last one saved
stands_last : (first now : StoreState) (saves : List (List ℕ))
    → now.standing ≡ runs.standing_after_all first.standing saves → body_of now ≡ last_of (body_of first) saves
stands_last first now saves is = ap body_in is ∙ body_after saves first.standing

-- the saves of a body that stands, and of one that does not
pub same_adds : (first now : StoreState) (saves : List (List ℕ)) (body value : List ℕ) → now.standing ≡ runs.standing_after_all first.standing saves
    → is_standing (body_of now) body ≡ true → body ≡ value → saves_in (last_of (body_of first) saves) (value ∷ []) ≡ []
same_adds first now saves body value standing stands is =
    ap (λ v. saves_in (last_of (body_of first) saves) (v ∷ [])) (sym is)
    ∙ saves-same (last_of (body_of first) saves) body (ap (λ o. is_standing o body) (sym (stands_last first now saves standing)) ∙ stands)

pub other_adds : (first now : StoreState) (saves : List (List ℕ)) (body value : List ℕ) → now.standing ≡ runs.standing_after_all first.standing saves
    → is_standing (body_of now) body ≡ false → body ≡ value → saves_in (last_of (body_of first) saves) (value ∷ []) ≡ body ∷ []
other_adds first now saves body value standing differs is =
    ap (λ v. saves_in (last_of (body_of first) saves) (v ∷ [])) (sym is)
    ∙ saves-other (last_of (body_of first) saves) body (ap (λ o. is_standing o body) (sym (stands_last first now saves standing)) ∙ differs)
