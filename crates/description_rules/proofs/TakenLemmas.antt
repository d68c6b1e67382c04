-- One more range among those that are in order.
use Rattle.std.proofs.Common.{◌≡◌, ℕ, ◌+◌, ◌-◌, ◌≤◌, ◌<◌, Bool, true, false, ◌&&◌, ◌||◌, nat_le, List, ◌∷◌}
use Rattle.std.proofs.Common.{length, get_or, take, drop, take-append-drop, refl, ap, sym, ◌∙◌, arith, ◌⊎◌}
use Rattle.std.proofs.Common.{inl, inr, ⊎_elim}
use Rattle.std.specs.List.{list_all, insert}
use Rattle.std.proofs.lemmas.Bool.{cases_lt, le-leb, lt-leb, leb-true, eq-eqb, ne_eqb}
use Rattle.std.proofs.lemmas.List.{get_or_default}
use Rattle.std.proofs.lemmas.List.Edits.{length-insert, get_or-insert_below, get_or-insert_at, get_or-insert_above}
use Rattle.std.proofs.lemmas.List.Folds.{list_all-append, list_all_at}
use Rattle.std.proofs.lemmas.List.Sums.{list_all-from_AllPass}
use Rattle.description_rules.specs.Taken.{AreInOrder, IsPlaceOf, are_apart_ranges, is_free_at}
use Rattle.description_rules.specs.declared.taken.ByteRange.{ByteRange}

pub ends_rise : (rs : List ByteRange) (i j : ℕ) (d : ByteRange) → AreInOrder rs → i ≤ j → j < length rs → (get_or rs i d).end ≤ (get_or rs j d).end
ends_rise rs i j d order le below =
    ⊎_elim (λ k. let one = order.apart i j d k below in let two = order.wide j d below in omega arith)
    (λ k. let same : i ≡ j = omega arith in let ends = ap (λ n. (get_or rs n d).end) same in omega arith) (cases_lt i j)

-- a range that does not end behind the one place its place does not end behind any later one
free_behind : (rs : List ByteRange) (place k end : ℕ) (d : ByteRange) → AreInOrder rs → end ≤ (get_or rs place d).start → place ≤ k → k < length rs
    → end ≤ (get_or rs k d).start
free_behind rs place k end d order free le below =
    ⊎_elim (λ h. let one = order.apart place k d h below in let two = order.wide place d (omega arith) in omega arith)
    (λ h. let same : k ≡ place = omega arith in rw same free) (cases_lt place k)

apart_before : (r p : ByteRange) → r.end ≤ p.start → are_apart_ranges r p ≡ true
apart_before r p le = rw (le-leb r.end p.start le) refl

apart_behind : (r p : ByteRange) → p.end ≤ r.start → are_apart_ranges r p ≡ true
apart_behind r p le = either (nat_le r.end p.start) (nat_le p.end r.start) (le-leb p.end r.start le)
  where
    either : (a b : Bool) → b ≡ true → (a || b) ≡ true
    either true b e = refl
    either false b e = e

meets : (r p : ByteRange) → p.start < r.end → r.start < p.end → are_apart_ranges r p ≡ false
meets r p one two = rw (lt-leb r.end p.start one, lt-leb p.end r.start two) refl

module _ (rs : List ByteRange) (place : ℕ) (p : ByteRange) (order : AreInOrder rs) (point : IsPlaceOf p.start rs place) where
  bound : place ≤ length rs
  bound = point.bound

  apart_with : place < length rs → p.end ≤ (get_or rs place p).start → list_all (λ r. are_apart_ranges r p) rs ≡ true
  apart_with below free = list_all-from_AllPass (λ r. are_apart_ranges r p) rs (λ k d within.
      ⊎_elim (λ h. apart_before (get_or rs k d) p (point.before k d h))
      (λ h. apart_behind (get_or rs k d) p (free_behind rs place k p.end d order (rw (get_or_default rs place p d below) at free) h within)) (cases_lt k place))

  apart_all : length rs ≤ place → list_all (λ r. are_apart_ranges r p) rs ≡ true
  apart_all end = list_all-from_AllPass (λ r. are_apart_ranges r p) rs
      (λ k d within. apart_before (get_or rs k d) p (point.before k d (let b = point.bound in omega arith)))

  is_free-there : place < length rs → is_free_at rs place p ≡ nat_le p.end (get_or rs place p).start
  is_free-there below = rw (ne_eqb place (length rs) (λ e. omega arith)) refl

  is_free-end : length rs ≤ place → is_free_at rs place p ≡ true
  is_free-end end = rw (eq-eqb place (length rs) (let b = point.bound in omega arith)) refl

  -- the range place the place tells of all
  pub is_free-answer : is_free_at rs place p ≡ list_all (λ r. are_apart_ranges r p) rs
  is_free-answer =
      ⊎_elim (λ below. is_free-there below ∙ ⊎_elim
      (λ large. lt-leb p.end (get_or rs place p).start large
      ∙ sym (list_all_at (λ r. are_apart_ranges r p) rs place p below (meets (get_or rs place p) p (point.behind place p (omega arith) below) large)))
      (λ free. le-leb p.end (get_or rs place p).start free ∙ sym (apart_with below free)) (cases_lt (get_or rs place p).start p.end))
      (λ end. is_free-end end ∙ sym (apart_all end)) (cases_lt place (length rs))

  -- what stands place a place after the range has gone in
  stands : (k : ℕ) (d : ByteRange) → k < length rs + 1 → ((k < place) × (get_or (insert rs place p) k d ≡ get_or rs k d))
      ⊎ (((k ≡ place) × (get_or (insert rs place p) k d ≡ p)) ⊎ ((place < k) × (get_or (insert rs place p) k d ≡ get_or rs (k - 1) d)))
  stands k d within =
      ⊎_elim (λ h. inl (h, get_or-insert_below rs place p d k h bound))
      (λ h. ⊎_elim (λ g. let one : (k - 1) + 1 ≡ k = omega arith in inr (inr (g, rw one at (get_or-insert_above rs place p d (k - 1) (omega arith) bound))))
      (λ g. let same : k ≡ place = omega arith in inr (inl (same, rw same (get_or-insert_at rs place p d bound)))) (cases_lt place k)) (cases_lt k place)

  module _ (wide : p.start ≤ p.end) (free : is_free_at rs place p ≡ true) where
    starts_behind : (k : ℕ) (d : ByteRange) → place ≤ k → k < length rs → p.end ≤ (get_or rs k d).start
    starts_behind k d le within =
        let here : p.end ≤ (get_or rs place p).start = leb-true p.end (get_or rs place p).start (sym (is_free-there (omega arith)) ∙ free) in
        let there : p.end ≤ (get_or rs place d).start = rw (get_or_default rs place p d (omega arith)) at here in
        free_behind rs place k p.end d order there le within

    wide-insert : (k : ℕ) (d : ByteRange) → k < length rs + 1 → (get_or (insert rs place p) k d).start ≤ (get_or (insert rs place p) k d).end
    wide-insert k d within =
        ⊎_elim (λ a. rw a.1 (order.wide k d (omega arith)))
        (λ b. ⊎_elim (λ c. rw c.1 wide) (λ c. rw c.1 (order.wide (k - 1) d (omega arith))) b) (stands k d within)

    apart-insert : (i j : ℕ) (d : ByteRange) → i < j → j < length rs + 1 → (get_or (insert rs place p) i d).end ≤ (get_or (insert rs place p) j d).start
    apart-insert i j d less within =
        ⊎_elim (λ a. ⊎_elim (λ b. rw (a.1, b.1) (order.apart i j d less (omega arith)))
        (λ b. ⊎_elim (λ c. rw (a.1, c.1) (point.before i d a.0)) (λ c. rw (a.1, c.1) (order.apart i (j - 1) d (omega arith) (omega arith))) b)
        (stands j d within))
        (λ a. ⊎_elim (λ e. ⊎_elim (λ b. absurd (omega arith))
        (λ b. ⊎_elim (λ c. absurd (omega arith)) (λ c. rw (e.1, c.1) (starts_behind (j - 1) d (omega arith) (omega arith))) b) (stands j d within))
        (λ e. ⊎_elim (λ b. absurd (omega arith))
        (λ b. ⊎_elim (λ c. absurd (omega arith)) (λ c. rw (e.1, c.1) (order.apart (i - 1) (j - 1) d (omega arith) (omega arith))) b) (stands j d within)) a)
        (stands i d (omega arith))

    pub in_order-insert : AreInOrder (insert rs place p)
    in_order-insert =
        let longer = length-insert rs place p bound in
        record {
          wide = λ k d within. wide-insert k d (omega arith);
          apart = λ i j d less within. apart-insert i j d less (omega arith);
        }

moved : (a b c : Bool) → (a && (b && c)) ≡ ((a && c) && b)
moved true true true = refl
moved true true false = refl
moved true false true = refl
moved true false false = refl
moved false b c = refl

pub list_all-insert : {X : Type 0} (q : X → Bool) (xs : List X) (place : ℕ) (y : X) → list_all q (insert xs place y) ≡ (list_all q xs && q y)
list_all-insert q xs place y =
    list_all-append q (take place xs) (y ∷ drop place xs) ∙ moved (list_all q (take place xs)) (q y) (list_all q (drop place xs))
    ∙ ap (λ b. b && q y) (sym (list_all-append q (take place xs) (drop place xs)) ∙ ap (list_all q) (take-append-drop place xs))
