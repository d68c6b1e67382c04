-- Entries that are read one after another.
use Rattle.std.proofs.Common.{◌≡◌, ◌≢◌, ℕ, zero, suc, ◌-◌, ◌<◌, List, [], ◌∷◌, length, refl, sym, ◌∙◌, ap, subst, true≢false, arith}
use Rattle.std.specs.Prelude.{Bool, Option, Some, None, IsSome, IfSome, IfNone, is_some, option_map, option_and_then, unwrap_or, nat_eq}
use Rattle.spec_store.specs.BodyText.{StoredEntry, EntryRead, entry_of, entries_in}

-- what the entry in front and the entries behind it are
abbrev pub with_entry : ℕ → EntryRead → Option (List StoredEntry)
with_entry n r = option_map (λ entries. r.entry ∷ entries) (entries_in n r.behind)

pub entries-step : (n : ℕ) (text : List ℕ) → n ≢ 0 → entries_in n text ≡ option_and_then (with_entry (n - 1)) (entry_of text)
unfolding entries_in
entries-step zero text ne = absurd (ne refl)
entries-step (suc n) text ne = let e : suc n - 1 ≡ n = omega arith in rw e refl

-- an entry stands in front
pub entries-behind : (n : ℕ) (text after : List ℕ) (e : StoredEntry) → n ≢ 0 → Some (record { entry = e; behind = after }) ≡ entry_of text
    → entries_in n text ≡ option_map (λ entries. e ∷ entries) (entries_in (n - 1) after)
entries-behind n text after e ne is = entries-step n text ne ∙ ap (option_and_then (with_entry (n - 1))) (sym is)

is_some-map : {A B : Type 0} (f : A → B) (o : Option A) → is_some (option_map f o) ≡ is_some o
is_some-map f (Some x) = refl
is_some-map f None = refl

pub still_entries : (n : ℕ) (text after : List ℕ) (e : StoredEntry) → n ≢ 0 → Some (record { entry = e; behind = after }) ≡ entry_of text
    → is_some (entries_in (n - 1) after) ≡ is_some (entries_in n text)
still_entries n text after e ne is = sym (ap is_some (entries-behind n text after e ne is) ∙ is_some-map (λ entries. e ∷ entries) (entries_in (n - 1) after))

-- none stands in front
pub no_entries : (n : ℕ) (text : List ℕ) → n ≢ 0 → None ≡ entry_of text → entries_in n text ≡ None
no_entries n text ne is = entries-step n text ne ∙ ap (option_and_then (with_entry (n - 1))) (sym is)

-- none is left
pub none_left : (text : List ℕ) → is_some (entries_in 0 text) ≡ nat_eq (length text) 0
unfolding entries_in
none_left [] = refl
none_left (b ∷ bs) = let e : nat_eq (length (b ∷ bs)) 0 ≡ Bool.false = grind (arith) in sym e

pub none_given : (text : List ℕ) → unwrap_or (entries_in 0 text) [] ≡ []
unfolding entries_in
none_given [] = refl
none_given (b ∷ bs) = refl

pub left_behind : (e : StoredEntry) (o p : Option (List StoredEntry)) → p ≡ option_map (λ entries. e ∷ entries) o → IsSome p
    → IsSome o × (unwrap_or p [] ≡ e ∷ unwrap_or o [])
left_behind e (Some es) p is some = (refl, ap (λ q. unwrap_or q []) is)
left_behind e None p is some =
    let P : Option (List StoredEntry) → Type 0 = λ q. IsSome q in
    absurd (true≢false (sym (subst P is some)))

-- one of so many entries
pub record HasFirst (n : ℕ) (text after : List ℕ) (e : StoredEntry) : Type 0 where
  pub left : IsSome (entries_in (n - 1) after)
  pub next : unwrap_or (entries_in n text) [] ≡ e ∷ unwrap_or (entries_in (n - 1) after) []

pub has_first : (n : ℕ) (text : List ℕ) (r : EntryRead) → n ≢ 0 → IsSome (entries_in n text) → Some r ≡ entry_of text → HasFirst n text r.behind r.entry
has_first n text r ne some is =
    let step : entries_in n text ≡ option_map (λ entries. r.entry ∷ entries) (entries_in (n - 1) r.behind) =
    entries-step n text ne ∙ ap (option_and_then (with_entry (n - 1))) (sym is) in
    let both = left_behind r.entry (entries_in (n - 1) r.behind) (entries_in n text) step some in
    record { left = both.0; next = both.1 }

-- so many entries have a first one
pub has_some : (n : ℕ) (text : List ℕ) → n ≢ 0 → IsSome (entries_in n text) → None ≡ entry_of text → ⊥
has_some n text ne some is =
    let P : Option (List StoredEntry) → Type 0 = λ q. IsSome q in
    true≢false (sym (subst P (no_entries n text ne is) some))

-- what is read in front of so many entries
pub step_none : {T : Type 0} (r : Option T) (f : T → EntryRead) (n : ℕ) (text : List ℕ) (Q : Type 0)
    → n ≢ 0 → IsSome (entries_in n text) → option_map f r ≡ entry_of text → IfNone r Q
step_none (Some x) f n text Q ne some is = tt
step_none None f n text Q ne some is = absurd (has_some n text ne some is)

pub step_left : {T : Type 0} (r : Option T) (f : T → EntryRead) (n : ℕ) (text : List ℕ) → n ≢ 0 → IsSome (entries_in n text) → option_map f r ≡ entry_of text
    → IfSome r (λ x. IsSome (entries_in (n - 1) (f x).behind))
step_left (Some x) f n text ne some is = (has_first n text (f x) ne some is).left
step_left None f n text ne some is = tt

pub step_next : {T : Type 0} (r : Option T) (f : T → EntryRead) (n : ℕ) (text : List ℕ) → n ≢ 0 → IsSome (entries_in n text) → option_map f r ≡ entry_of text
    → IfSome r (λ x. unwrap_or (entries_in n text) [] ≡ (f x).entry ∷ unwrap_or (entries_in (n - 1) (f x).behind) [])
step_next (Some x) f n text ne some is = (has_first n text (f x) ne some is).next
step_next None f n text ne some is = tt

pub zero_entries : (text : List ℕ) → IsSome (entries_in 0 text) → entries_in 0 text ≡ Some []
unfolding entries_in
zero_entries [] some = refl
zero_entries (b ∷ bs) some = cc

pub zero_entries_at : (n : ℕ) (text : List ℕ) → n ≡ 0 → IsSome (entries_in n text) → entries_in n text ≡ Some []
zero_entries_at zero text e some = zero_entries text some
zero_entries_at (suc n) text e some = absurd (omega (arith, e))
