-- What the six tests of a header show of the front of a text.
use Rattle.std.proofs.Common.{◌≡◌, ◌≢◌, ℕ, ◌<◌, ◌≤◌, List, length, get_or, true, false}
use Rattle.std.proofs.lemmas.Bool.{and_from, and_left, and_right, eq-eqb, ne_eqb, le-leb, lt-leb}
use Rattle.spec_frames.specs.Division.{Broken, front_of, is_header, ams_length_of}
use Rattle.spec_frames.proofs.FrontLemmas.{front_of-broken}

pub is_header-true : (text : List ℕ) → get_or text 0 0 ≡ 0 → get_or text 1 0 ≡ 0
    → 32 ≤ ams_length_of text → ams_length_of text ≤ 2097152 → is_header text ≡ true
unfolding is_header
is_header-true text first second least most =
    and_from _ _ (and_from _ _ (and_from _ _ (eq-eqb _ 0 first) (eq-eqb _ 0 second)) (le-leb 32 (ams_length_of text) least))
    (le-leb (ams_length_of text) 2097152 most)

pub is_header-first : (text : List ℕ) → get_or text 0 0 ≢ 0 → is_header text ≡ false
unfolding is_header
is_header-first text first = and_left _ _ (and_left _ _ (and_left _ _ (ne_eqb _ 0 first)))

pub is_header-second : (text : List ℕ) → get_or text 1 0 ≢ 0 → is_header text ≡ false
unfolding is_header
is_header-second text second = and_left _ _ (and_left _ _ (and_right _ _ (ne_eqb _ 0 second)))

pub is_header-small : (text : List ℕ) → ams_length_of text < 32 → is_header text ≡ false
unfolding is_header
is_header-small text small = and_left _ _ (and_right _ _ (lt-leb 32 (ams_length_of text) small))

pub is_header-great : (text : List ℕ) → 2097152 < ams_length_of text → is_header text ≡ false
unfolding is_header
is_header-great text great = and_right _ _ (lt-leb (ams_length_of text) 2097152 great)

pub broken_header : (text : List ℕ) → 6 ≤ length text → is_header text ≡ false → front_of text ≡ Broken
broken_header text six header = front_of-broken text (record { six = six; header = header })
