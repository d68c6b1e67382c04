-- The frames of a stream and what is left of it: frame by frame, and under appended bytes.
use Rattle.std.proofs.Common.{◌≡◌, ◌≢◌, ◌⊎◌, ℕ, zero, suc, ◌+◌, ◌<◌, ◌≤◌, List, [], ◌∷◌, ◌++◌, length, drop}
use Rattle.std.proofs.Common.{get_or, false, refl, sym, ap, ◌∙◌, inl, inr, arith, add-one}
use Rattle.std.proofs.lemmas.Bool.{cases_lt}
use Rattle.std.proofs.lemmas.List.{drop_more}
use Rattle.spec_frames.specs.Division.{Front, Whole, Open, Broken, front_of, ams_length_of, is_whole}
use Rattle.spec_frames.specs.Division.{packet_of, behind_frame, frames_from, frames_of, left_behind, rest_of}
use Rattle.spec_frames.proofs.FrontLemmas.{has_frame, front_of-append_whole, front_of-short, packet_of-append, behind_frame-append, length-behind_frame}

-- three cases of a front
pub front_cases : (text : List ℕ) → (front_of text ≡ Whole) ⊎ (front_of text ≢ Whole)
front_cases text = elim (front_of text) as (λ f. (f ≡ Whole) ⊎ (f ≢ Whole)) [ Whole ↦ inl refl | Open ↦ inr (λ e. cc) | Broken ↦ inr (λ e. cc) ]

not_whole : (f : Front) → f ≢ Whole → is_whole f ≡ false
not_whole Whole n = absurd (n refl)
not_whole Open n = refl
not_whole Broken n = refl

front_of-nil : front_of [] ≡ Open
front_of-nil = front_of-short [] (omega arith)

passed_over : (skip : ℕ) (bs : List ℕ) → frames_from skip bs ≡ frames_from zero (drop skip bs)
unfolding frames_from
passed_over zero bs = refl
passed_over (suc skip) [] = refl
passed_over (suc skip) (b ∷ bs) = passed_over skip bs

-- a stream that begins with no whole frame has none
pub frames_of-none : (stream : List ℕ) → front_of stream ≢ Whole → frames_of stream ≡ []
unfolding frames_of frames_from
frames_of-none [] n = refl
frames_of-none (b ∷ bs) n = rw (not_whole (front_of (b ∷ bs)) n) refl

-- the first frame, and those behind it
pub frames_of-whole : (stream : List ℕ) → front_of stream ≡ Whole → frames_of stream ≡ packet_of stream ∷ frames_of (behind_frame stream)
unfolding frames_of frames_from behind_frame
frames_of-whole [] e = absurd (let not_so : Open ≡ Whole = sym front_of-nil ∙ e in cc)
frames_of-whole (b ∷ bs) e =
    let l = ams_length_of (b ∷ bs) in
    let more : 6 + l ≡ suc (5 + l) = omega arith in
    rw (e, more) (ap (λ fs. packet_of (b ∷ bs) ∷ fs) (passed_over (5 + l) bs))

pub rest_of-none : (stream : List ℕ) → front_of stream ≢ Whole → rest_of stream ≡ stream
unfolding rest_of left_behind
rest_of-none stream n = rw (frames_of-none stream n) refl

pub rest_of-whole : (stream : List ℕ) → front_of stream ≡ Whole → rest_of stream ≡ rest_of (behind_frame stream)
unfolding rest_of left_behind
rest_of-whole stream e = rw (frames_of-whole stream e) refl

-- what holds behind a frame holds before it: a walk over the frames of a stream
walked : (P : List ℕ → Type 0) → ((s : List ℕ) → front_of s ≢ Whole → P s)
    → ((s : List ℕ) → front_of s ≡ Whole → P (behind_frame s) → P s)
    → (n : ℕ) (s : List ℕ) → length s ≤ n → P s
walked P none more zero s fits = none s (λ e. let h = has_frame s e in absurd (omega (arith, h.six)))
walked P none more (suc n) s fits = elim (front_cases s) [
  | inl e ↦ more s e (walked P none more n (behind_frame s) (omega (arith, length-behind_frame s e)))
  | inr not_so ↦ none s not_so
]

pub by_frames : (P : List ℕ → Type 0) → ((s : List ℕ) → front_of s ≢ Whole → P s)
    → ((s : List ℕ) → front_of s ≡ Whole → P (behind_frame s) → P s) → (s : List ℕ) → P s
by_frames P none more s = walked P none more (length s) s (omega arith)

-- the rest begins with no whole frame
pub front_of-rest_of : (s : List ℕ) → front_of (rest_of s) ≢ Whole
front_of-rest_of = by_frames (λ s. front_of (rest_of s) ≢ Whole)
    (λ s not_so e. not_so (ap (λ t. front_of t) (sym (rest_of-none s not_so)) ∙ e))
    (λ s e behind whole. behind (ap (λ t. front_of t) (sym (rest_of-whole s e)) ∙ whole))

-- the frames of a longer stream begin with those that were there
pub frames_of-append : (more s : List ℕ) → frames_of (s ++ more) ≡ frames_of s ++ frames_of (rest_of s ++ more)
frames_of-append more = by_frames (λ s. frames_of (s ++ more) ≡ frames_of s ++ frames_of (rest_of s ++ more))
    (λ s not_so. rw (rest_of-none s not_so, frames_of-none s not_so) refl)
    (λ s e behind. frames_of-whole (s ++ more) (front_of-append_whole s more e)
    ∙ rw (packet_of-append s more e, behind_frame-append s more e, behind, frames_of-whole s e, rest_of-whole s e) refl)

pub rest_of-append : (more s : List ℕ) → rest_of (s ++ more) ≡ rest_of (rest_of s ++ more)
rest_of-append more = by_frames (λ s. rest_of (s ++ more) ≡ rest_of (rest_of s ++ more))
    (λ s not_so. rw (rest_of-none s not_so) refl)
    (λ s e behind. rest_of-whole (s ++ more) (front_of-append_whole s more e)
    ∙ rw (behind_frame-append s more e, rest_of-whole s e) behind)

-- a stream that has frames begins with one
pub has_first : (s : List ℕ) (n : ℕ) → suc n ≤ length (frames_of s) → front_of s ≡ Whole
has_first s n fits = elim (front_cases s) [
  | inl e ↦ e
  | inr not_so ↦ absurd (let none = ap (λ fs. length fs) (frames_of-none s not_so) in omega (arith, none))
]

-- what is left behind frames that are there: the frames, the rest, and appended bytes
pub frames_of-left_behind : (n : ℕ) (s : List ℕ) → n ≤ length (frames_of s) → frames_of (left_behind n s) ≡ drop n (frames_of s)
unfolding left_behind
frames_of-left_behind zero s fits = refl
frames_of-left_behind (suc n) s fits =
    let first = frames_of-whole s (has_first s n fits) in
    frames_of-left_behind n (behind_frame s) (omega (arith, ap (λ fs. length fs) first)) ∙ rw first refl

pub rest_of-left_behind : (n : ℕ) (s : List ℕ) → n ≤ length (frames_of s) → rest_of (left_behind n s) ≡ rest_of s
unfolding left_behind
rest_of-left_behind zero s fits = refl
rest_of-left_behind (suc n) s fits =
    let e = has_first s n fits in
    rest_of-left_behind n (behind_frame s) (omega (arith, ap (λ fs. length fs) (frames_of-whole s e))) ∙ sym (rest_of-whole s e)

pub left_behind-append : (n : ℕ) (s more : List ℕ) → n ≤ length (frames_of s) → left_behind n (s ++ more) ≡ left_behind n s ++ more
unfolding left_behind
left_behind-append zero s more fits = refl
left_behind-append (suc n) s more fits =
    let e = has_first s n fits in
    rw (behind_frame-append s more e)
    (left_behind-append n (behind_frame s) more (omega (arith, ap (λ fs. length fs) (frames_of-whole s e))))

one_more : (n : ℕ) (s : List ℕ) → left_behind (suc n) s ≡ behind_frame (left_behind n s)
unfolding left_behind
one_more zero s = refl
one_more (suc n) s = one_more n (behind_frame s)

-- one frame more
pub left_behind-more : (n : ℕ) (s : List ℕ) → left_behind (n + 1) s ≡ behind_frame (left_behind n s)
left_behind-more n s = rw add-one (one_more n s)

-- behind frames that are there stands the next frame, or the rest
pub record NextIs (n : ℕ) (s : List ℕ) : Type 0 where
  pub whole : front_of (left_behind n s) ≡ Whole
  pub packet : (d : List ℕ) → get_or (frames_of s) n d ≡ packet_of (left_behind n s)

pub next_frame : (n : ℕ) (s : List ℕ) → n < length (frames_of s) → NextIs n s
next_frame n s fits =
    let frames = λ (d : List ℕ). frames_of-left_behind n s (omega arith) ∙ drop_more (frames_of s) n d fits in
    let e = has_first (left_behind n s) 0 (let one = ap (λ fs. length fs) (frames []) in omega (arith, one)) in
    record { whole = e; packet = λ d. let both = sym (frames d) ∙ frames_of-whole (left_behind n s) e in cc }

-- behind all frames stands the rest
pub left_behind-all : (n : ℕ) (s : List ℕ) → n ≡ length (frames_of s) → left_behind n s ≡ rest_of s
unfolding rest_of
left_behind-all n s e = rw e refl

pub is_next : (n : ℕ) (s : List ℕ) → n ≤ length (frames_of s) → front_of (left_behind n s) ≡ Whole → n < length (frames_of s)
is_next n s fits e = elim (cases_lt n (length (frames_of s))) [
  | inl below ↦ below
  | inr above ↦ absurd (front_of-rest_of s (ap (λ t. front_of t) (sym (left_behind-all n s (omega arith))) ∙ e))
]

pub is_rest : (n : ℕ) (s : List ℕ) → n ≤ length (frames_of s) → front_of (left_behind n s) ≢ Whole → left_behind n s ≡ rest_of s
is_rest n s fits not_so = elim (cases_lt n (length (frames_of s))) [
  | inl below ↦ absurd (not_so (next_frame n s below).whole)
  | inr above ↦ left_behind-all n s (omega arith)
]
