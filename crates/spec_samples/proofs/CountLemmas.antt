-- Rows whose numbers go from 1 on, and the totals of a table that a new row is added to.
use Rattle.std.proofs.Common.{◌≡◌, ℕ, ◌+◌, ◌<◌, ◌≤◌, List, [], ◌∷◌, ◌++◌, length, Bool, cond, refl, sym, subst, ◌∙◌, ap, inl, inr, arith, length-append}
use Rattle.std.proofs.lemmas.List.{append-nil}
use Rattle.std.specs.Prelude.{Option, Some, None, option_map, bytes_eq}
use Rattle.std.proofs.lemmas.Bool.{cases_lt, cases_eq, lt-ltb, le-ltb, eq-eqb, cases_Bool}
use Rattle.spec_samples.specs.Row.{Row}
use Rattle.spec_samples.specs.Rows.{rows_after_put, rows_after, ArePuts}
use Rattle.spec_samples.specs.Totals.{rows_named, last_row, total_of, total_with_last, total_after_row}
use Rattle.spec_samples.specs.Laws.{AreCountedFrom, RowsAreCounted, NewestIsLast}

-- a put of the next number stands last
pub put_last : (n : ℕ) (rows : List Row) (put : Row) → AreCountedFrom n rows → put.number ≡ n + length rows → rows_after_put rows put ≡ rows ++ put ∷ []
unfolding AreCountedFrom rows_after_put
put_last n [] put counted next = refl
put_last n (r ∷ rs) put counted next =
    let t = lt-ltb r.number put.number (omega (arith, counted.0, next)) in
    rw t (ap (λ (l : List Row). r ∷ l) (put_last (n + 1) rs put (counted.1) (omega (arith, next))))

-- a put of a number that is there
pub put_there : (n : ℕ) (rows : List Row) (put : Row) → AreCountedFrom n rows → n ≤ put.number → put.number < n + length rows → rows_after_put rows put ≡ rows
unfolding AreCountedFrom rows_after_put
put_there n [] put counted from below = absurd (omega (arith, from, below))
put_there n (r ∷ rs) put counted from below = elim (cases_eq r.number put.number) [
  | inl q ↦
      let t = le-ltb r.number put.number (omega (arith, q)) in
      let u = eq-eqb r.number put.number q in
      rw (t, u) refl
  | inr ne ↦
      let t = lt-ltb r.number put.number (omega (arith, counted.0, from, ne)) in
      rw t (ap (λ (l : List Row). r ∷ l) (put_there (n + 1) rs put (counted.1) (omega (arith, counted.0, from, ne)) (omega (arith, below))))
]

pub counted-last : (n : ℕ) (rows : List Row) (put : Row) → AreCountedFrom n rows → put.number ≡ n + length rows → AreCountedFrom n (rows ++ put ∷ [])
unfolding AreCountedFrom
counted-last n [] put counted next = (omega (arith, next), tt)
counted-last n (r ∷ rs) put counted next = (counted.0, counted-last (n + 1) rs put (counted.1) (omega (arith, next)))

pub counted_after : (puts rows : List Row) → AreCountedFrom 1 rows → ArePuts (length rows) puts → AreCountedFrom 1 (rows_after rows puts)
unfolding ArePuts rows_after
counted_after [] rows counted are = counted
counted_after (put ∷ puts) rows counted are = elim (cases_lt (length rows) put.number) [
  | inl lt ↦
      let t = lt-ltb (length rows) put.number lt in
      let next : put.number ≡ 1 + length rows = omega (arith, lt, are.1) in
      let e = put_last 1 rows put counted next in
      let more : length (rows ++ put ∷ []) ≡ length rows + 1 = omega (arith, length-append rows (put ∷ [])) in
      let rest : ArePuts (length rows + 1) puts = rw t at (are.2) in
      let P : ℕ → Type 0 = λ k. ArePuts k puts in
      rw e (counted_after puts (rows ++ put ∷ []) (counted-last 1 rows put counted next) (subst P (sym more) rest))
  | inr ge ↦
      let t = le-ltb (length rows) put.number ge in
      let e = put_there 1 rows put counted (are.0) (omega (arith, ge)) in
      rw e (counted_after puts rows counted (rw t at (are.2)))
]

pub rows_are_counted : RowsAreCounted
unfolding AreCountedFrom
rows_are_counted puts are = counted_after puts [] tt are

-- the total of a name with one row more
named-last : (name : List ℕ) (rows : List Row) (put : Row)
    → rows_named name (rows ++ put ∷ []) ≡ rows_named name rows ++ cond (bytes_eq put.name name) (put ∷ []) []
named-last name [] put = elim (cases_Bool (bytes_eq put.name name)) [ inl b ↦ rw b refl | inr b ↦ rw b refl ]
named-last name (r ∷ rs) put = elim (cases_Bool (bytes_eq r.name name)) [
  | inl b ↦ rw b (ap (λ (l : List Row). r ∷ l) (named-last name rs put))
  | inr b ↦ rw b (named-last name rs put)
]

last-last : (rows : List Row) (put : Row) → last_row (rows ++ put ∷ []) ≡ Some put
unfolding last_row
last-last [] put = refl
last-last (r ∷ []) put = refl
last-last (r ∷ (s ∷ rs)) put = last-last (s ∷ rs) put

counts_one_more : (rows : List Row) (put : Row)
    → option_map (total_with_last (length (rows ++ put ∷ []))) (Some put) ≡ Some
    (total_after_row (option_map (total_with_last (length rows)) (last_row rows)) put)
unfolding last_row
counts_one_more [] put = refl
counts_one_more (r ∷ rs) put =
    let more : length (r ∷ rs ++ put ∷ []) ≡ length (r ∷ rs) + 1 = omega (arith, length-append (r ∷ rs) (put ∷ [])) in
    ap (λ n. Some (total_with_last n put)) more ∙ one (last_row (r ∷ rs)) (has_last r rs)
  where
    has_last : (r : Row) (rs : List Row) → (x : Row) × (last_row (r ∷ rs) ≡ Some x)
    has_last r [] = (r, refl)
    has_last r (s ∷ ss) = has_last s ss

    one : (o : Option Row) → (x : Row) × (o ≡ Some x)
        → Some (total_with_last (length (r ∷ rs) + 1) put) ≡ Some (total_after_row (option_map (total_with_last (length (r ∷ rs))) o) put)
    one None there = absurd (let e = there.1 in cc)
    one (Some x) there = refl

total-last : (name : List ℕ) (rows : List Row) (put : Row)
    → total_of name (rows ++ put ∷ []) ≡ cond (bytes_eq put.name name) (Some (total_after_row (total_of name rows) put)) (total_of name rows)
unfolding total_of
total-last name rows put = elim (cases_Bool (bytes_eq put.name name)) [
  | inl b ↦
      let named : rows_named name (rows ++ put ∷ []) ≡ rows_named name rows ++ put ∷ [] =
      named-last name rows put ∙ ap (λ (t : Bool). rows_named name rows ++ cond t (put ∷ []) []) b in
      rw (named, b) (ap (option_map (total_with_last (length (rows_named name rows ++ put ∷ [])))) (last-last (rows_named name rows) put)
      ∙ counts_one_more (rows_named name rows) put)
  | inr b ↦
      let named : rows_named name (rows ++ put ∷ []) ≡ rows_named name rows =
      named-last name rows put ∙ ap (λ (t : Bool). rows_named name rows ++ cond t (put ∷ []) []) b ∙ append-nil (rows_named name rows) in
      rw (named, b) refl
]

pub newest_is_last : NewestIsLast
newest_is_last first rows put counted next =
    let e = put_last first rows put counted next in
    record {
      rows = e;
      total = λ name. ap (total_of name) e ∙ total-last name rows put;
    }
