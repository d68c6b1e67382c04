-- Handles that agree do so after a grant and after a release, and as many of them are live.
use Rattle.std.proofs.Common.{◌≡◌, ℕ, ◌-◌, List, [], ◌∷◌, ◌++◌, length, cond, true, false, refl, sym, ◌∙◌, ap, subst, arith}
use Rattle.std.specs.Prelude.{◌==◌, filter}
use Rattle.spec_machine.specs.Handles.{Handle, HandleEvent, HandleStatus, Never, Released, Outdated, Live}
use Rattle.spec_machine.specs.Handles.{Grant, Release, is_live, live_count, with_released, handles_after}
use Rattle.spec_machine.specs.HandleLaws.{Test, AgreeingStatus, AgreeingHandles, handles_of, handles_after_all}

-- what is kept through one event more
after-append : {P : Type 0} (hs : List (Handle P)) (history : List (HandleEvent P)) (e : HandleEvent P)
    → handles_after_all hs (history ++ e ∷ []) ≡ handles_after (handles_after_all hs history) e
unfolding handles_after_all
after-append hs [] e = refl
after-append hs (x ∷ xs) e = after-append (handles_after hs x) xs e

pub handles_of-append : {P : Type 0} (history : List (HandleEvent P)) (e : HandleEvent P)
    → handles_of (history ++ e ∷ []) ≡ handles_after (handles_of history) e
handles_of-append history e = after-append [] history e

agree-append : {P Q : Type 0} (test : Test P Q) (hs : List (Handle P)) (ks : List (Handle Q)) (x : Handle P) (y : Handle Q) → AgreeingHandles test hs ks
    → y.port ≡ x.port → AgreeingStatus test x.port x.status y.status → AgreeingHandles test (hs ++ x ∷ []) (ks ++ y ∷ [])
agree-append test [] [] x y h port status = (port, status, tt)
agree-append test (a ∷ as_) (b ∷ bs) x y h port status = (h.0, h.1, agree-append test as_ bs x y h.2 port status)
agree-append test [] (b ∷ bs) x y h port status = absurd h
agree-append test (a ∷ as_) [] x y h port status = absurd h

pub grant-agrees : {P Q : Type 0} (test : Test P Q) (hs : List (Handle P)) (history : List (HandleEvent Q)) (port : ℕ) (p : P) (q : Q)
    → AgreeingHandles test hs (handles_of history) → test port p q ≡ true
    → AgreeingHandles test (handles_after hs (Grant port p)) (handles_of (history ++ Grant port q ∷ []))
unfolding handles_after
grant-agrees {P} {Q} test hs history port p q h same =
    let A : List (Handle Q) → Type 0 = λ ks. AgreeingHandles test (hs ++ record { port = port; status = Live p } ∷ []) ks in
    subst A (sym (handles_of-append history (Grant port q)))
    (agree-append test hs (handles_of history) (record { port = port; status = Live p }) (record { port = port; status = Live q }) h refl same)

released-agree : {P Q : Type 0} (test : Test P Q) (hs : List (Handle P)) (ks : List (Handle Q)) (n : ℕ) → AgreeingHandles test hs ks
    → AgreeingHandles test (with_released hs n) (with_released ks n)
unfolding with_released
released-agree test [] [] n h = tt
released-agree test (x ∷ xs) (y ∷ ys) n h =
    elim (n == 1) as (λ b. AgreeingHandles test (cond b (record x { status = Released } ∷ xs) (x ∷ with_released xs (n - 1)))
    (cond b (record y { status = Released } ∷ ys) (y ∷ with_released ys (n - 1)))) [
      | true ↦ (h.0, tt, h.2)
      | false ↦ (h.0, h.1, released-agree test xs ys (n - 1) h.2)
    ]
released-agree test [] (y ∷ ys) n h = absurd h
released-agree test (x ∷ xs) [] n h = absurd h

pub release-agrees : {P Q : Type 0} (test : Test P Q) (hs : List (Handle P)) (history : List (HandleEvent Q)) (n : ℕ)
    → AgreeingHandles test hs (handles_of history)
    → AgreeingHandles test (handles_after hs (Release n)) (handles_of (history ++ Release n ∷ []))
unfolding handles_after
release-agrees {P} {Q} test hs history n h =
    let A : List (Handle Q) → Type 0 = λ ks. AgreeingHandles test (with_released hs n) ks in
    subst A (sym (handles_of-append history (Release n))) (released-agree test hs (handles_of history) n h)

same-live : {P Q : Type 0} (test : Test P Q) (port : ℕ) (s : HandleStatus P) (t : HandleStatus Q) → AgreeingStatus test port s t → is_live s ≡ is_live t
same-live test port Never Never h = refl
same-live test port Released Released h = refl
same-live test port Outdated Outdated h = refl
same-live test port (Live p) (Live q) h = refl
same-live test port s t h = absurd h

pub same-count : {P Q : Type 0} (test : Test P Q) (hs : List (Handle P)) (ks : List (Handle Q)) → AgreeingHandles test hs ks → live_count hs ≡ live_count ks
same-count test [] [] h = refl
same-count {P} {Q} test (x ∷ xs) (y ∷ ys) h =
    let xs_live = filter (λ (a : Handle P). is_live a.status) xs in
    let ys_live = filter (λ (b : Handle Q). is_live b.status) ys in
    let same = same-live test x.port x.status y.status h.1 in
    let rest : length xs_live ≡ length ys_live = same-count test xs ys h.2 in
    ap (λ b. length (cond b (x ∷ xs_live) xs_live)) same
    ∙ elim (is_live y.status) as (λ b. length (cond b (x ∷ xs_live) xs_live) ≡ length (cond b (y ∷ ys_live) ys_live)) [
      | true ↦ omega (arith, rest)
      | false ↦ rest
    ]
same-count test [] (y ∷ ys) h = absurd h
same-count test (x ∷ xs) [] h = absurd h

pub same-length : {P Q : Type 0} (test : Test P Q) (hs : List (Handle P)) (ks : List (Handle Q)) → AgreeingHandles test hs ks → length hs ≡ length ks
same-length test [] [] h = refl
same-length test (x ∷ xs) (y ∷ ys) h = let rest = same-length test xs ys h.2 in omega (arith, rest)
same-length test [] (y ∷ ys) h = absurd h
same-length test (x ∷ xs) [] h = absurd h
