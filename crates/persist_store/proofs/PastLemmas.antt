-- What a disk in memory may leave: before and after a write, and before and after a sync.
use Rattle.std.proofs.Common.{◌≡◌, ◌⊎◌, inl, inr, ⊎_elim, ℕ, ◌+◌, ◌-◌, ◌<◌, ◌≤◌, min, List, [], ◌∷◌, ◌++◌}
use Rattle.std.proofs.Common.{length, take, drop, true, false, true≢false, refl, sym, subst, ◌∙◌, ap, arith}
use Rattle.std.proofs.Common.{append-nil}
use Rattle.std.specs.Prelude.{Bool, Option, Some, None, IfSome, IsSome, filter, nat_le, ◌==◌, option_map}
use Rattle.std.specs.List.{list_all}
use Rattle.std.proofs.lemmas.Bool.{cases_lt, and_parts, and_from, cases_Bool, leb-true, le-leb, eq-eqb, ne_eqb}
use Rattle.std.proofs.lemmas.List.{take_all}
use Rattle.std.proofs.lemmas.List.Elements.{filter-append}
use Rattle.std.proofs.lemmas.List.Folds.{list_all-append}
use Rattle.spec_store.specs.Disk.{written, Torn, Follows, Only, IsSynced, Elapses}
use Rattle.spec_store.proofs.DiskLemmas.{torn-written, torn_behind}
use Rattle.persist_store.specs.Past.{LeftByWrite, LeftBy, LeftIn, of_period, LeftInPast}
use Rattle.persist_store.specs.MemDisk.{HeldFile, leaves_now, leaves_since, are_made_by, is_to_fail, after_call, after_put, after_sync}
use Rattle.persist_store.specs.declared.past_write.PastWrite.{PastWrite}

-- a file is one that a write to it may leave, and so is one that a shorter write leaves
pub torn-same : (at n : ℕ) (f : List ℕ) → Torn at n f f
torn-same at n f = record { before = first; after = refl; no_shorter = omega arith; no_longer = omega arith }
  where
    first : take (min at (length f)) f ≡ take at f
    first = elim (cases_lt at (length f)) [
      | inl lt ↦ let e : min at (length f) ≡ at = omega (arith, lt) in ap (λ (n : ℕ). take n f) e
      | inr ge ↦ take_all (min at (length f)) f (omega (arith, ge)) ∙ sym (take_all at f ge)
    ]

pub torn-longer : (at m n : ℕ) (f c : List ℕ) → m ≤ n → Torn at m f c → Torn at n f c
torn-longer at m n f c le torn = record {
  before = torn.before;
  after = torn_behind at m (at + n) f c (omega (arith, le)) torn;
  no_shorter = torn.no_shorter;
  no_longer = omega (arith, torn.no_longer, le);
}

pub torn_piece : (at : ℕ) (piece bytes f file : List ℕ) → length piece ≤ length bytes → file ≡ written at piece f → Torn at (length bytes) f file
torn_piece at piece bytes f file short is =
    let P : List ℕ → Type 0 = λ c. Torn at (length bytes) f c in
    subst P (sym is) (torn-longer at (length piece) (length bytes) f (written at piece f) short (torn-written at piece f))

-- one write more
left_by-more : (before : List ℕ → Type 0) (ws : List PastWrite) (w : PastWrite) (c : List ℕ)
    → LeftBy before (ws ++ w ∷ []) c → LeftByWrite (LeftBy before ws) w c
left_by-more before [] w c left = left
left_by-more before (v ∷ vs) w c left = left_by-more (LeftByWrite before v) vs w c left

left_by-one : (before : List ℕ → Type 0) (ws : List PastWrite) (w : PastWrite) (c : List ℕ)
    → LeftByWrite (LeftBy before ws) w c → LeftBy before (ws ++ w ∷ []) c
left_by-one before [] w c left = left
left_by-one before (v ∷ vs) w c left = left_by-one (LeftByWrite before v) vs w c left

period-same : (ws : List PastWrite) (w : PastWrite) → of_period w.period (ws ++ w ∷ []) ≡ of_period w.period ws ++ w ∷ []
period-same ws w =
    let same = eq-eqb w.period w.period refl in
    filter-append (λ (v : PastWrite). v.period == w.period) ws (w ∷ []) ∙ rw same refl

period-other : (p : ℕ) (ws : List PastWrite) (w : PastWrite) → p < w.period → of_period p (ws ++ w ∷ []) ≡ of_period p ws
period-other p ws w lt =
    let other = ne_eqb w.period p (λ e. absurd (omega (arith, lt, e))) in
    filter-append (λ (v : PastWrite). v.period == p) ws (w ∷ []) ∙ rw (other, append-nil) refl

-- a call that writes nothing
pub quiet : (m new : HeldFile) (fails : Bool) → new ≡ after_call fails m → Elapses m.period new.period (leaves_since m) (leaves_since new) (leaves_now new)
quiet m new fails is =
    let P : HeldFile → Type 0 = λ x. Elapses m.period x.period (leaves_since m) (leaves_since x) (leaves_now x) in
    subst P (sym is) (record { later = omega arith; nothing_else = λ t c le left. inl left; keeps = λ t c le left. left })

-- nothing was called
pub still : (m : HeldFile) → Elapses m.period m.period (leaves_since m) (leaves_since m) (leaves_now m)
still m = record { later = omega arith; nothing_else = λ t c le left. inl left; keeps = λ t c le left. left }

pub same_now : (m new : HeldFile) (fails : Bool) → new ≡ after_call fails m → (c : List ℕ) → leaves_now new c → leaves_now m c
same_now m new fails is c left =
    let P : HeldFile → Type 0 = λ x. leaves_now x c in
    subst P is left

-- a write
pub record WritesOnce (m mid new : HeldFile) (place size : ℕ) : Type 0 where
  pub counted : new.failing ≡ mid.failing
  pub touched : Torn place size m.file new.file
  pub stop : Follows (Torn place size) (leaves_now m) (leaves_now new)
  pub time : Elapses m.period new.period (leaves_since m) (leaves_since new) (leaves_now new)

pub writes_nothing : (m : HeldFile) (fails : Bool) (place size : ℕ) → WritesOnce m (after_call fails m) (after_call fails m) place size
writes_nothing m fails place size = record {
  counted = refl;
  touched = torn-same place size m.file;
  stop = λ c left. (c, left, torn-same place size c);
  time = quiet m (after_call fails m) fails refl;
}

abbrev pub write_of : HeldFile → ℕ → ℕ → PastWrite
write_of m place size = record { before = m.file; place = place; size = size; period = m.period }

left_more : (m : HeldFile) (place size : ℕ) (file c : List ℕ) → LeftIn (of_period m.period (m.writes ++ write_of m place size ∷ [])) c
    → LeftByWrite (LeftIn (of_period m.period m.writes)) (write_of m place size) c
left_more m place size file c left =
    let P : List PastWrite → Type 0 = λ ws. LeftIn ws c in
    left_by-more (λ c. ⊥) (of_period m.period m.writes) (write_of m place size) c (subst P (period-same m.writes (write_of m place size)) left)

left_one : (m : HeldFile) (place size : ℕ) (c : List ℕ) → LeftByWrite (LeftIn (of_period m.period m.writes)) (write_of m place size) c
    → LeftIn (of_period m.period (m.writes ++ write_of m place size ∷ [])) c
left_one m place size c left =
    let P : List PastWrite → Type 0 = λ ws. LeftIn ws c in
    subst P (sym (period-same m.writes (write_of m place size))) (left_by-one (λ c. ⊥) (of_period m.period m.writes) (write_of m place size) c left)

past_same : (m : HeldFile) (place size t : ℕ) (c : List ℕ) → LeftInPast (m.writes ++ write_of m place size ∷ []) t m.period c → LeftInPast m.writes t m.period c
past_same m place size t c past =
    let P : List PastWrite → Type 0 = λ ws. LeftIn ws c in
    record {
      period = past.period;
      from = past.from;
      before = past.before;
      left = subst P (period-other past.period m.writes (write_of m place size) past.before) past.left;
    }

past_too : (m : HeldFile) (place size t : ℕ) (c : List ℕ) → LeftInPast m.writes t m.period c → LeftInPast (m.writes ++ write_of m place size ∷ []) t m.period c
past_too m place size t c past =
    let P : List PastWrite → Type 0 = λ ws. LeftIn ws c in
    record {
      period = past.period;
      from = past.from;
      before = past.before;
      left = subst P (sym (period-other past.period m.writes (write_of m place size) past.before)) past.left;
    }

pub puts : (m : HeldFile) (fails : Bool) (place size : ℕ) (file : List ℕ) → Torn place size m.file file
    → WritesOnce m (after_call fails m) (after_put (after_call fails m) place size file) place size
puts m fails place size file torn = record { counted = refl; touched = torn; stop = follows; time = time }
  where
    from_before : (c : List ℕ) → LeftByWrite (LeftIn (of_period m.period m.writes)) (write_of m place size) c
        → (d : List ℕ) × leaves_now m d × Torn place size d c
    from_before c (d, inl left, t) = (d, inr left, t)
    from_before c (d, inr is, t) = (d, inl is, t)

    follows : (c : List ℕ) → leaves_now (after_put (after_call fails m) place size file) c → (d : List ℕ) × leaves_now m d × Torn place size d c
    follows c (inl is) = let P : List ℕ → Type 0 = λ f. Torn place size m.file f in (m.file, inl refl, subst P (sym is) torn)
    follows c (inr left) = from_before c (left_more m place size file c left)

    grows : (c : List ℕ) → leaves_now m c → leaves_now (after_put (after_call fails m) place size file) c
    grows c (inl is) = inr (left_one m place size c (c, inr is, torn-same place size c))
    grows c (inr left) = inr (left_one m place size c (c, inl left, torn-same place size c))

    nothing_else : (t : ℕ) (c : List ℕ) → t ≤ m.period → leaves_since (after_put (after_call fails m) place size file) t c
        → leaves_since m t c ⊎ leaves_now (after_put (after_call fails m) place size file) c
    nothing_else t c le (inl now) = inr now
    nothing_else t c le (inr past) = inl (inr (past_same m place size t c past))

    keeps : (t : ℕ) (c : List ℕ) → t ≤ m.period → leaves_since m t c → leaves_since (after_put (after_call fails m) place size file) t c
    keeps t c le (inl now) = inl (grows c now)
    keeps t c le (inr past) = inr (past_too m place size t c past)

    time : Elapses m.period m.period (leaves_since m) (leaves_since (after_put (after_call fails m) place size file))
        (leaves_now (after_put (after_call fails m) place size file))
    time = record { later = omega arith; nothing_else = nothing_else; keeps = keeps }

-- a write that takes its file or does not
pub writes_once : (m mid new : HeldFile) (fails : Bool) (place size : ℕ) (file : Option (List ℕ)) (done : Bool)
    → mid ≡ after_call fails m → IfSome file (λ f. Torn place size m.file f)
    → (done ≡ false → new ≡ mid) → (done ≡ true → IsSome file)
    → IfSome file (λ f. done ≡ true → new ≡ after_put mid place size f) → WritesOnce m mid new place size
writes_once m mid new fails place size file false is torn kept some put =
    let P : HeldFile → Type 0 = λ x. WritesOnce m mid x place size in
    let Q : HeldFile → Type 0 = λ x. WritesOnce m x x place size in
    subst P (sym (kept refl)) (subst Q (sym is) (writes_nothing m fails place size))
writes_once m mid new fails place size None true is torn kept some put = absurd (true≢false (sym (some refl)))
writes_once m mid new fails place size (Some f) true is torn kept some put =
    let P : HeldFile → Type 0 = λ x. WritesOnce m mid x place size in
    let Q : HeldFile → Type 0 = λ x. WritesOnce m x (after_put x place size f) place size in
    subst P (sym (put refl)) (subst Q (sym is) (puts m fails place size f torn))

pub writes_all : (m mid new : HeldFile) (place size : ℕ) (bytes : List ℕ) (file : Option (List ℕ)) (done : Bool)
    → IfSome file (λ f. is_to_fail m ≡ false → f ≡ written place bytes m.file)
    → (done ≡ true → IsSome file) → IfSome file (λ f. done ≡ true → new ≡ after_put mid place size f)
    → is_to_fail m ≡ false → done ≡ true → new.file ≡ written place bytes m.file
writes_all m mid new place size bytes None done all some put works is = absurd (true≢false (sym (some is)))
writes_all m mid new place size bytes (Some f) done all some put works is = ap (λ (x : HeldFile). x.file) (put is) ∙ all works

-- a sync
none_new : (p : ℕ) (ws : List PastWrite) → are_made_by p ws ≡ true → of_period (p + 1) ws ≡ []
none_new p [] h = refl
none_new p (w ∷ ws) h =
    let parts = and_parts (nat_le w.period p) (are_made_by p ws) h in
    let le = leb-true w.period p (parts.0) in
    let other = ne_eqb w.period (p + 1) (λ e. absurd (omega (arith, le, e))) in
    rw other (none_new p ws (parts.1))

pub made_by_later : (p : ℕ) (ws : List PastWrite) → are_made_by p ws ≡ true → are_made_by (p + 1) ws ≡ true
made_by_later p [] h = refl
made_by_later p (w ∷ ws) h =
    let parts = and_parts (nat_le w.period p) (are_made_by p ws) h in
    let le = leb-true w.period p (parts.0) in
    and_from _ _ (le-leb w.period (p + 1) (omega (arith, le))) (made_by_later p ws (parts.1))

pub made_by_more : (ws : List PastWrite) (w : PastWrite) → are_made_by w.period ws ≡ true → are_made_by w.period (ws ++ w ∷ []) ≡ true
made_by_more ws w h =
    let here = le-leb w.period w.period (omega arith) in
    list_all-append (λ (v : PastWrite). nat_le v.period w.period) ws (w ∷ []) ∙ rw (h, here) refl

pub record Syncs (m new : HeldFile) : Type 0 where
  pub done : Only m.file (leaves_now new)
  pub stop : (c : List ℕ) → leaves_now new c → leaves_now m c
  pub time : Elapses m.period new.period (leaves_since m) (leaves_since new) (leaves_now new)

syncs : (m : HeldFile) (fails : Bool) → are_made_by m.period m.writes ≡ true → Syncs m (after_sync (after_call fails m))
syncs m fails made = record {
  done = only;
  stop = λ c left. inl (only c left);
  time = record { later = omega arith; nothing_else = nothing_else; keeps = keeps };
}
  where
    only : (c : List ℕ) → leaves_now (after_sync (after_call fails m)) c → c ≡ m.file
    only c (inl is) = is
    only c (inr left) = let P : List PastWrite → Type 0 = λ ws. LeftIn ws c in absurd (subst P (none_new m.period m.writes made) left)

    past_or_now : (t : ℕ) (c : List ℕ) → (past : LeftInPast m.writes t (m.period + 1) c) → leaves_since m t c
    past_or_now t c past = elim (cases_lt past.period m.period) [
      | inl lt ↦ inr (record { period = past.period; from = past.from; before = lt; left = past.left })
      | inr ge ↦
          let e : past.period ≡ m.period = omega (arith, ge, past.before) in
          let P : ℕ → Type 0 = λ p. LeftIn (of_period p m.writes) c in
          inl (inr (subst P e past.left))
    ]

    nothing_else : (t : ℕ) (c : List ℕ) → t ≤ m.period → leaves_since (after_sync (after_call fails m)) t c
        → leaves_since m t c ⊎ leaves_now (after_sync (after_call fails m)) c
    nothing_else t c le (inl now) = inr now
    nothing_else t c le (inr past) = inl (past_or_now t c past)

    keeps : (t : ℕ) (c : List ℕ) → t ≤ m.period → leaves_since m t c → leaves_since (after_sync (after_call fails m)) t c
    keeps t c le (inl (inl is)) = inl (inl is)
    keeps t c le (inl (inr left)) = inr (record { period = m.period; from = le; before = omega arith; left = left })
    keeps t c le (inr past) = inr (record { period = past.period; from = past.from; before = omega (arith, past.before); left = past.left })

pub syncs_once : (m mid new : HeldFile) (fails : Bool) → mid ≡ after_call fails m
    → are_made_by mid.period mid.writes ≡ true → new ≡ after_sync mid → Syncs m new
syncs_once m mid new fails is made put =
    let P : HeldFile → Type 0 = λ x. Syncs m x in
    let Q : HeldFile → Type 0 = λ x. are_made_by x.period x.writes ≡ true in
    subst P (sym (put ∙ ap after_sync is)) (syncs m fails (subst Q is made))
