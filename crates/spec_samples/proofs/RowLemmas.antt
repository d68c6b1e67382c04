-- Rows after puts: they rise, and each is the first put of its number.
use Rattle.std.proofs.Common.{◌≡◌, ℕ, ◌+◌, ◌<◌, ◌≤◌, List, [], ◌∷◌, true, false, cond, refl, sym, ◌∙◌, ap, inl, inr, arith}
use Rattle.std.specs.Prelude.{Option, Some, None, is_some, ◌==◌}
use Rattle.std.proofs.lemmas.Bool.{cases_lt, cases_eq, lt-ltb, le-ltb, eq-eqb, ne_eqb, false≢true, eqb-true, cases_Bool}
use Rattle.spec_samples.specs.Row.{Row}
use Rattle.spec_samples.specs.Rows.{row_numbered, rows_after_put, rows_after, rows_of}
use Rattle.spec_samples.specs.Laws.{PutAgainChangesNothing, KeepsFirstPuts, RiseFrom, RowsRise, PutsGoOn}

abbrev pub or_else : Option Row → Option Row → Option Row
or_else None o = o
or_else (Some r) o = Some r

-- what a put is to a number
abbrev pub if_numbered : ℕ → Row → Option Row
if_numbered n r = cond (r.number == n) (Some r) None

pub rise_lower : (low less : ℕ) (rows : List Row) → less ≤ low → RiseFrom low rows → RiseFrom less rows
unfolding RiseFrom
rise_lower low less [] le rise = tt
rise_lower low less (r ∷ rs) le rise = (omega (arith, le, rise.0), rise.1)

-- no row has a number below all
pub none_below : (n low : ℕ) (rows : List Row) → n < low → RiseFrom low rows → row_numbered n rows ≡ None
unfolding RiseFrom
none_below n low [] lt rise = refl
none_below n low (r ∷ rs) lt rise =
    let t = ne_eqb r.number n (λ e. omega (arith, e, lt, rise.0)) in
    rw t (none_below n (r.number + 1) rs (omega (arith, lt, rise.0)) (rise.1))

pub put_rises : (low : ℕ) (rows : List Row) (put : Row) → low ≤ put.number → RiseFrom low rows → RiseFrom low (rows_after_put rows put)
unfolding RiseFrom rows_after_put
put_rises low [] put le rise = (le, tt)
put_rises low (r ∷ rs) put le rise = elim (cases_lt r.number put.number) [
  | inl lt ↦ let t = lt-ltb r.number put.number lt in rw t (rise.0, put_rises (r.number + 1) rs put (omega (arith, lt)) (rise.1))
  | inr ge ↦
      let t = le-ltb r.number put.number ge in
      elim (cases_eq r.number put.number) [
        | inl q ↦ let u = eq-eqb r.number put.number q in rw (t, u) rise
        | inr ne ↦ let u = ne_eqb r.number put.number ne in rw (t, u) (le, (omega (arith, ge, ne), rise.1))
      ]
]

pub puts_rise : (puts rows : List Row) → RiseFrom 0 rows → RiseFrom 0 (rows_after rows puts)
unfolding rows_after
puts_rise [] rows rise = rise
puts_rise (put ∷ puts) rows rise = puts_rise puts (rows_after_put rows put) (put_rises 0 rows put (omega arith) rise)

pub rows_rise : RowsRise
unfolding RiseFrom
rows_rise puts = puts_rise puts [] tt

-- after a put, a number has the row that it had, or else the put
pub numbered-put : (n low : ℕ) (rows : List Row) (put : Row) → RiseFrom low rows
    → row_numbered n (rows_after_put rows put) ≡ or_else (row_numbered n rows) (if_numbered n put)
unfolding RiseFrom rows_after_put
numbered-put n low [] put rise = refl
numbered-put n low (r ∷ rs) put rise = elim (cases_lt r.number put.number) [
  | inl lt ↦
      let t = lt-ltb r.number put.number lt in
      rw t (elim (cases_Bool (r.number == n)) [
        | inl b ↦ rw b refl
        | inr b ↦ rw b (numbered-put n (r.number + 1) rs put (rise.1))
      ])
  | inr ge ↦
      let t = le-ltb r.number put.number ge in
      elim (cases_eq r.number put.number) [
        | inl q ↦
            let u = eq-eqb r.number put.number q in
            rw (t, u) (elim (cases_Bool (r.number == n)) [
              | inl b ↦ rw b refl
              | inr b ↦
                  let v : (put.number == n) ≡ false = ne_eqb put.number n (λ e. false≢true (sym b ∙ eq-eqb r.number n (q ∙ e))) in
                  rw (b, v) (sym (or_else-none (row_numbered n rs)))
            ])
        | inr ne ↦
            let u = ne_eqb r.number put.number ne in
            rw (t, u) (elim (cases_Bool (put.number == n)) [
              | inl b ↦
                  let e = eqb-true put.number n b in
                  let none : row_numbered n (r ∷ rs) ≡ None = none_below n r.number (r ∷ rs) (omega (arith, ge, ne, e)) (omega arith, rise.1) in
                  rw (b, none) refl
              | inr b ↦ rw b (sym (or_else-none (row_numbered n (r ∷ rs))))
            ])
      ]
]
  where
    or_else-none : (o : Option Row) → or_else o None ≡ o
    or_else-none None = refl
    or_else-none (Some r) = refl

or_else-or_else : (o p q : Option Row) → or_else (or_else o p) q ≡ or_else o (or_else p q)
or_else-or_else None p q = refl
or_else-or_else (Some r) p q = refl

numbered-first : (n : ℕ) (put : Row) (puts : List Row) → or_else (if_numbered n put) (row_numbered n puts) ≡ row_numbered n (put ∷ puts)
numbered-first n put puts = elim (cases_Bool (put.number == n)) [ inl b ↦ rw b refl | inr b ↦ rw b refl ]

pub numbered-puts : (n : ℕ) (puts rows : List Row) → RiseFrom 0 rows
    → row_numbered n (rows_after rows puts) ≡ or_else (row_numbered n rows) (row_numbered n puts)
unfolding rows_after
numbered-puts n [] rows rise = sym (none_last (row_numbered n rows))
  where
    none_last : (o : Option Row) → or_else o None ≡ o
    none_last None = refl
    none_last (Some r) = refl
numbered-puts n (put ∷ puts) rows rise =
    numbered-puts n puts (rows_after_put rows put) (put_rises 0 rows put (omega arith) rise)
    ∙ ap (λ o. or_else o (row_numbered n puts)) (numbered-put n 0 rows put rise)
    ∙ or_else-or_else (row_numbered n rows) (if_numbered n put) (row_numbered n puts)
    ∙ ap (or_else (row_numbered n rows)) (numbered-first n put puts)

pub keeps_first_puts : KeepsFirstPuts
unfolding RiseFrom
keeps_first_puts puts n = numbered-puts n puts [] tt

-- a number that is there
pub put_again : (low : ℕ) (rows : List Row) (put : Row) → RiseFrom low rows → is_some (row_numbered put.number rows) ≡ true → rows_after_put rows put ≡ rows
unfolding RiseFrom rows_after_put
put_again low [] put rise there = absurd (false≢true there)
put_again low (r ∷ rs) put rise there = elim (cases_lt r.number put.number) [
  | inl lt ↦
      let t = lt-ltb r.number put.number lt in
      let u = ne_eqb r.number put.number (λ e. omega (arith, e, lt)) in
      rw t (ap (λ (l : List Row). r ∷ l) (put_again (r.number + 1) rs put (rise.1) (rw u at there)))
  | inr ge ↦
      let t = le-ltb r.number put.number ge in
      elim (cases_eq r.number put.number) [
        | inl q ↦ let u = eq-eqb r.number put.number q in rw (t, u) refl
        | inr ne ↦
            let none : row_numbered put.number (r ∷ rs) ≡ None = none_below put.number r.number (r ∷ rs) (omega (arith, ge, ne)) (omega arith, rise.1) in
            absurd (false≢true (sym (ap is_some none) ∙ there))
      ]
]

pub put_again_changes_nothing : PutAgainChangesNothing
put_again_changes_nothing puts put there = put_again 0 (rows_of puts) put (rows_rise puts) there

pub puts_go_on : PutsGoOn
unfolding rows_after
puts_go_on rows [] second = refl
puts_go_on rows (put ∷ first) second = puts_go_on (rows_after_put rows put) first second
