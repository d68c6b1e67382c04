-- The status that is kept along is what the history says.
use Rattle.std.proofs.Common.{◌≡◌, ℕ, ◌+◌, ◌-◌, List, [], ◌∷◌, ◌++◌, map, length, Bool, true, false, cond, refl, ◌∙◌, ap, inl, inr, arith, length-append}
use Rattle.std.specs.Prelude.{Option, Some, None, ◌==◌, option_map, option_and_then}
use Rattle.std.proofs.lemmas.Bool.{cases_Bool, eqb-true, eqb-false}
use Rattle.std.proofs.lemmas.Bool.Decides.{nat_tests}
use Rattle.spec_machine.specs.Handles.{HandleStatus, Released, Outdated, Live, HandleEvent, Grant, Release}
use Rattle.spec_machine.specs.Handles.{Reload, GrantInHistory, grant_in, is_released_in, place_after}
use Rattle.spec_machine.specs.Handles.{live_or_outdated, status_of_grant, Handle, handle_in, status_of_handle}
use Rattle.spec_machine.specs.Handles.{with_released, status_after_reload, handle_after_reload, handles_after}
use Rattle.spec_machine.specs.HandleLaws.{handles_after_all, StatusIsHistory}

-- what becomes of one handle's status by further events
abbrev status_through : {P : Type 0} → List (HandleEvent P) → ℕ → ℕ → HandleStatus P → HandleStatus P
status_through [] n port s = s
status_through (Grant other place ∷ es) n port s = status_through es n port s
status_through (Release handle ∷ es) n port s = status_through es n port (cond (handle == n) Released s)
status_through (Reload moves ∷ es) n port s = status_through es n port (status_after_reload (moves port) s)

through-released : {P : Type 0} (es : List (HandleEvent P)) (n port : ℕ) → status_through es n port Released ≡ Released
through-released [] n port = refl
through-released (Grant other place ∷ es) n port = through-released es n port
through-released {P} (Release handle ∷ es) n port = ap (status_through es n port) (same (handle == n) Released) ∙ through-released es n port
  where
    same : (b : Bool) (s : HandleStatus P) → cond b s s ≡ s
    same true s = refl
    same false s = refl
through-released (Reload moves ∷ es) n port = through-released es n port

through-outdated : {P : Type 0} (es : List (HandleEvent P)) (n port : ℕ) → status_through es n port Outdated ≡ cond (is_released_in es n) Released Outdated
unfolding is_released_in
through-outdated [] n port = refl
through-outdated (Grant other place ∷ es) n port = through-outdated es n port
through-outdated (Release handle ∷ es) n port =
    elim (cases_Bool (handle == n)) [
      | inl b ↦ rw b (through-released es n port)
      | inr b ↦ rw b (through-outdated es n port)
    ]
through-outdated (Reload moves ∷ es) n port = through-outdated es n port

through-live : {P : Type 0} (es : List (HandleEvent P)) (n port : ℕ) (p : P)
    → status_through es n port (Live p) ≡ cond (is_released_in es n) Released (live_or_outdated (place_after es port p))
unfolding is_released_in place_after
through-live [] n port p = refl
through-live (Grant other place ∷ es) n port p = through-live es n port p
through-live (Release handle ∷ es) n port p =
    elim (cases_Bool (handle == n)) [
      | inl b ↦ rw b (through-released es n port)
      | inr b ↦ rw b (through-live es n port p)
    ]
through-live {P} (Reload moves ∷ es) n port p = go (λ q. through-live es n port q) (moves port p)
  where
    go : ((q : P) → status_through es n port (Live q) ≡ cond (is_released_in es n) Released (live_or_outdated (place_after es port q)))
        → (o : Option P) → status_through es n port (live_or_outdated o) ≡ cond
        (is_released_in es n) Released (live_or_outdated (option_and_then (place_after es port) o))
    go again None = through-outdated es n port
    go again (Some q) = again q

-- a handle that is there, after further events
abbrev handle_through : {P : Type 0} → List (HandleEvent P) → ℕ → Handle P → Handle P
handle_through es n h = record h { status = status_through es n h.port h.status }

-- a handle that is not granted yet: the grant that further events make it
abbrev granted_through : {P : Type 0} → ℕ → Option (GrantInHistory P) → Option (Handle P)
granted_through {P} n o = option_map (λ (g : GrantInHistory P). record { port = g.port; status = status_through g.later n g.port (Live g.place) }) o

-- the handle of a number after further events
abbrev found_through : {P : Type 0} → List (HandleEvent P) → ℕ → ℕ → Option (Handle P) → Option (Handle P)
found_through es n m (Some h) = Some (handle_through es n h)
found_through es n m None = granted_through n (grant_in es (n - m))

abbrev first_or : {P : Type 0} → Option (Handle P) → Option (Handle P) → Option (Handle P)
first_or None o = o
first_or (Some h) o = Some h

length_cons : {P : Type 0} (h : Handle P) (hs : List (Handle P)) → length (h ∷ hs) ≡ length hs + 1
length_cons h hs = omega arith

pub length_granted : {P : Type 0} (hs : List (Handle P)) (g : Handle P) → length (hs ++ g ∷ []) ≡ length hs + 1
length_granted hs g = let a = length-append hs (g ∷ []) in let b = length_cons g [] in omega (arith, a, b)

pub length_mapped : {P : Type 0} (f : Handle P → Handle P) (hs : List (Handle P)) → length (map f hs) ≡ length hs
length_mapped f [] = refl
length_mapped f (h ∷ hs) = let a = length_mapped f hs in let b = length_cons (f h) (map f hs) in let c = length_cons h hs in omega (arith, a, b, c)

pub length_released : {P : Type 0} (hs : List (Handle P)) (m : ℕ) → length (with_released hs m) ≡ length hs
unfolding with_released
length_released [] m = refl
length_released {P} (h ∷ hs) m =
    elim (cases_Bool (m == 1)) [
      | inl b ↦ rw b (let c = length_cons (record h { status = Released }) hs in let d = length_cons h hs in omega (arith, c, d))
      | inr b ↦ rw b (let a = length_released hs (m - 1) in
          let c = length_cons h (with_released hs (m - 1)) in let d = length_cons h hs in omega (arith, a, c, d))
    ]

handle_in-map : {P : Type 0} (f : Handle P → Handle P) (hs : List (Handle P)) (n : ℕ) → handle_in (map f hs) n ≡ option_map f (handle_in hs n)
unfolding handle_in
handle_in-map f [] n = refl
handle_in-map f (h ∷ hs) n = elim (cases_Bool (n == 1)) [ inl b ↦ rw b refl | inr b ↦ rw b (handle_in-map f hs (n - 1)) ]

-- a release changes one handle
abbrev releasing : {P : Type 0} → ℕ → ℕ → Handle P → Handle P
releasing m n h = record h { status = cond (m == n) Released h.status }

handle_in-released : {P : Type 0} (hs : List (Handle P)) (m n : ℕ) → handle_in (with_released hs m) n ≡ option_map (releasing m n) (handle_in hs n)
unfolding handle_in with_released
handle_in-released [] m n = refl
handle_in-released {P} (h ∷ hs) m n =
    elim (cases_Bool (m == 1)) [
      | inl b ↦
          elim (cases_Bool (n == 1)) [
            | inl d ↦ let e = eqb-true m 1 b in let f = eqb-true n 1 d in let t : (m == n) ≡ true = grind (arith, nat_tests, e, f) in rw b (rw d (rw t refl))
            | inr d ↦
                let e = eqb-true m 1 b in
                let f = eqb-false n 1 d in
                rw b (rw d (others e f hs))
          ]
      | inr b ↦
          elim (cases_Bool (n == 1)) [
            | inl d ↦ let e = eqb-false m 1 b in let f = eqb-true n 1 d in let t : (m == n) ≡ false = grind (arith, nat_tests, e, f) in rw b (rw d (rw t refl))
            | inr d ↦ rw b (rw d (handle_in-released hs (m - 1) (n - 1) ∙ again (eqb-false m 1 b) (eqb-false n 1 d)))
          ]
    ]
  where
    others : m ≡ 1 → (n ≡ 1 → ⊥) → (hs : List (Handle P)) → handle_in hs (n - 1) ≡ option_map (releasing m n) (handle_in hs (n - 1))
    others e f hs = let t : (m == n) ≡ false = grind (arith, nat_tests, e, f) in go t (handle_in hs (n - 1))
      where
        go : (m == n) ≡ false → (o : Option (Handle P)) → o ≡ option_map (releasing m n) o
        go t None = refl
        go t (Some k) = rw t refl

    again : (m ≡ 1 → ⊥) → (n ≡ 1 → ⊥) → option_map (releasing (m - 1) (n - 1)) (handle_in hs (n - 1)) ≡ option_map (releasing m n) (handle_in hs (n - 1))
    again e f =
        let t : (m - 1 == n - 1) ≡ (m == n) = grind (arith, nat_tests, e, f) in
        ap (λ (b : Bool). option_map (λ (h : Handle P). record h { status = cond b Released h.status }) (handle_in hs (n - 1))) t

-- a grant stands behind all others
handle_in-granted : {P : Type 0} (hs : List (Handle P)) (g : Handle P) (n : ℕ)
    → handle_in (hs ++ g ∷ []) n ≡ first_or (handle_in hs n) (handle_in (g ∷ []) (n - length hs))
unfolding handle_in
handle_in-granted {P} [] g n = let e : n ≡ n - 0 = omega arith in ap (λ i. handle_in (g ∷ []) i) e
handle_in-granted {P} (h ∷ hs) g n =
    elim (cases_Bool (n == 1)) [
      | inl b ↦ rw b refl
      | inr b ↦
          let e : n - 1 - length hs ≡ n - length (h ∷ hs) = let l = length_cons h hs in omega (arith, l) in
          rw b (handle_in-granted hs g (n - 1) ∙ ap (λ i. first_or (handle_in hs (n - 1)) (handle_in (g ∷ []) i)) e)
    ]

-- the handle of a number after an event
found-after : {P : Type 0} (hs : List (Handle P)) (e : HandleEvent P) (es : List (HandleEvent P)) (n : ℕ)
    → found_through es n (length (handles_after hs e)) (handle_in (handles_after hs e) n) ≡ found_through (e ∷ es) n (length hs) (handle_in hs n)
unfolding handles_after grant_in handle_in
found-after {P} hs (Grant port place) es n =
    rw (handle_in-granted hs (record { port = port; status = Live place }) n) (go (handle_in hs n))
  where
    new : Handle P
    new = record { port = port; status = Live place }

    longer : length (hs ++ new ∷ []) ≡ length hs + 1
    longer = length_granted hs new

    go : (o : Option (Handle P)) → found_through es n (length (hs ++ new ∷ [])) (first_or o (cond (n - length hs == 1) (Some new) None))
        ≡ found_through (Grant port place ∷ es) n (length hs) o
    go (Some h) = refl
    go None =
        elim (cases_Bool (n - length hs == 1)) [
          | inl b ↦ rw b refl
          | inr b ↦
              let d : n - length (hs ++ new ∷ []) ≡ n - length hs - 1 = omega (arith, longer) in
              rw b (ap (λ i. granted_through n (grant_in es i)) d)
        ]
found-after {P} hs (Release m) es n =
    rw (handle_in-released hs m n) (go (handle_in hs n))
  where
    go : (o : Option (Handle P))
        → found_through es n (length (with_released hs m)) (option_map (releasing m n) o) ≡ found_through (Release m ∷ es) n (length hs) o
    go (Some h) = refl
    go None = ap (λ i. granted_through n (grant_in es (n - i))) (length_released hs m)
found-after {P} hs (Reload moves) es n =
    rw (handle_in-map (handle_after_reload moves) hs n) (go (handle_in hs n))
  where
    go : (o : Option (Handle P))
        → found_through es n (length (map (handle_after_reload moves) hs))
        (option_map (handle_after_reload moves) o) ≡ found_through (Reload moves ∷ es) n (length hs) o
    go (Some h) = refl
    go None = ap (λ i. granted_through n (grant_in es (n - i))) (length_mapped (handle_after_reload moves) hs)

found-all : {P : Type 0} (es : List (HandleEvent P)) (hs : List (Handle P)) (n : ℕ)
    → handle_in (handles_after_all hs es) n ≡ found_through es n (length hs) (handle_in hs n)
unfolding handles_after_all grant_in
found-all {P} [] hs n = go (handle_in hs n)
  where
    go : (o : Option (Handle P)) → o ≡ found_through [] n (length hs) o
    go (Some h) = refl
    go None = refl
found-all (e ∷ es) hs n = found-all es (handles_after hs e) n ∙ found-after hs e es n

pub status_is_history : (P : Type 0) → StatusIsHistory P
unfolding handle_in
status_is_history P history n port = ap (status_of_handle port) (found-all history [] n ∙ at_zero) ∙ go (grant_in history n)
  where
    at_zero : granted_through n (grant_in history (n - 0)) ≡ granted_through n (grant_in history n)
    at_zero = let e : n - 0 ≡ n = omega arith in ap (λ i. granted_through n (grant_in history i)) e

    go : (o : Option (GrantInHistory P)) → status_of_handle port (granted_through n o) ≡ status_of_grant n port o
    go None = refl
    go (Some g) =
        elim (cases_Bool (g.port == port)) [
          | inl b ↦ rw b (through-live g.later n g.port g.place)
          | inr b ↦ rw b refl
        ]
