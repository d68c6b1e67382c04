-- What a write leaves of a file, what a stop may leave of it, and what stands behind saves, by computation.
use Rattle.std.specs.Prelude.{◌≡◌, refl, ℕ, ◌-◌, ◌^◌, List, [], ◌∷◌, map, Bool, true, false, Option, Some, None, bytes_eq}
use Rattle.std.specs.Prelude.{◌⊎◌}
use Rattle.std.proofs.Common.{ap, arith, inl, inr, lit≤, subst, sym}
use Rattle.std.proofs.lemmas.Bool.{false≢true}
use Rattle.spec_store.specs.BodyText.{entry_of, entries_in, entries_of}
use Rattle.spec_store.specs.Disk.{written, Torn, Follows, Only, IsSynced, WhereTold, Elapses}
use Rattle.spec_store.specs.Slots.{Standing, behind_gate, slot_of, standing_of, standing_body}
use Rattle.spec_store.specs.Saves.{is_over_limit, standing_after}
use Rattle.spec_store.specs.Runs.{standing_after_all, IsOneOf}

-- a file of four bytes
abbrev four : List ℕ
four = 1 ∷ 2 ∷ 3 ∷ 4 ∷ []

-- a write inside, over the end, and behind it, where a gap reads as zeros
inside : written 1 (9 ∷ 8 ∷ []) four ≡ 1 ∷ 9 ∷ 8 ∷ 4 ∷ []
inside = refl

over_the_end : written 3 (9 ∷ 8 ∷ []) four ≡ 1 ∷ 2 ∷ 3 ∷ 9 ∷ 8 ∷ []
over_the_end = refl

behind_a_gap : written 6 (9 ∷ []) four ≡ 1 ∷ 2 ∷ 3 ∷ 4 ∷ 0 ∷ 0 ∷ 9 ∷ []
behind_a_gap = refl

-- a stop in a write may leave any bytes in its range, and any length up to its end
half_written : Torn 1 2 four (1 ∷ 7 ∷ 3 ∷ 4 ∷ [])
half_written = record { before = refl; after = refl; no_shorter = lit≤ tt; no_longer = lit≤ tt }

half_grown : Torn 3 4 four (1 ∷ 2 ∷ 3 ∷ 7 ∷ 0 ∷ [])
half_grown = record { before = refl; after = refl; no_shorter = lit≤ tt; no_longer = lit≤ tt }

-- but no byte before the range or behind it, no shorter file, and none that ends behind the write
byte_before : Torn 1 2 four (0 ∷ 2 ∷ 3 ∷ 4 ∷ []) → ⊥
byte_before t = false≢true (ap (λ l. bytes_eq l (1 ∷ [])) t.before)

byte_behind : Torn 1 2 four (1 ∷ 2 ∷ 3 ∷ 5 ∷ []) → ⊥
byte_behind t = false≢true (ap (λ l. bytes_eq l (4 ∷ [])) t.after)

shorter : Torn 1 4 four (1 ∷ []) → ⊥
shorter t = omega (arith, t.no_shorter)

longer : Torn 1 4 four (1 ∷ 2 ∷ 3 ∷ 4 ∷ 5 ∷ 6 ∷ []) → ⊥
longer t = omega (arith, t.no_longer)

-- what a stop may leave after a step, from what it might have left before
abbrev IsBytes : List ℕ → List ℕ → Type 0
IsBytes bytes c = c ≡ bytes

follows : Follows (Torn 0 1) (IsBytes (5 ∷ [])) (IsBytes (6 ∷ []))
follows c e = (
  5 ∷ [],
  refl,
  subst (λ c. Torn 0 1 (5 ∷ []) c) (sym e)
      (record { before = refl; after = refl; no_shorter = lit≤ tt; no_longer = lit≤ tt }),
)

-- one file and no other
only_this : Only four (IsBytes four)
only_this c e = e

not_any : Only four (λ c. Unit {0}) → ⊥
not_any only = false≢true (ap (λ l. bytes_eq l four) (only [] tt))

-- nothing is pending; of a disk that tells no file nothing is said
synced : IsSynced (Some four) (IsBytes four)
synced c e = e

pending : IsSynced (Some four) (IsBytes (1 ∷ [])) → ⊥
pending only = false≢true (ap (λ l. bytes_eq l four) (only (1 ∷ []) refl))

untold : IsSynced None (λ c. Unit {0})
untold = tt

-- a file that is told goes on to be told
told : WhereTold (λ old new. old ≡ new) (Some four) (Some four)
told = refl

told_no_more : WhereTold (λ old new. Unit {0}) (Some four) None → ⊥
told_no_more h = h

told_at_once : WhereTold (λ old new. Unit {0}) None (Some four) → ⊥
told_at_once h = h

-- time goes on: nothing is left but what was left before, or may be left now; and what was left before stays
abbrev one_or_four : ℕ → List ℕ → Type 0
one_or_four t c = IsBytes (1 ∷ []) c ⊎ IsBytes four c

elapses : Elapses 3 7 (λ t c. IsBytes (1 ∷ []) c) one_or_four (IsBytes four)
elapses = record { later = lit≤ tt; nothing_else = λ t c le since. since; keeps = λ t c le past. inl past }

back_in_time : Elapses 3 2 (λ t c. Unit {0}) (λ t c. Unit {0}) (λ c. Unit {0}) → ⊥
back_in_time e = omega (arith, e.later)

is_one_or_four : (c : List ℕ) → IsBytes (1 ∷ []) c ⊎ IsBytes four c → bytes_eq c [] ≡ false
is_one_or_four c (inl e) = ap (λ l. bytes_eq l []) e
is_one_or_four c (inr e) = ap (λ l. bytes_eq l []) e

something_else : Elapses 3 7 (λ t c. IsBytes (1 ∷ []) c) (λ t c. Unit {0}) (IsBytes four) → ⊥
something_else e = false≢true (sym (is_one_or_four [] (e.nothing_else 3 [] (lit≤ tt) tt)))

forgotten : Elapses 3 7 (λ t c. IsBytes (1 ∷ []) c) (λ t c. IsBytes four c) (IsBytes four) → ⊥
forgotten e = false≢true (ap (λ l. bytes_eq l four) (e.keeps 3 (1 ∷ []) (lit≤ tt) refl))

-- saves one after another go to either slot in turn, and their numbers rise by one
abbrev in_second : Bool → ℕ → List ℕ → Standing
in_second is_second sequence body = record { is_second = is_second; slot = record { sequence = sequence; body = body } }

first_save : standing_after None (1 ∷ []) ≡ in_second false 1 (1 ∷ [])
first_save = refl

third_save : standing_after_all None ((1 ∷ []) ∷ (2 ∷ []) ∷ (3 ∷ []) ∷ []) ≡ Some (in_second false 3 (3 ∷ []))
unfolding standing_after_all
third_save = refl

no_save : standing_after_all (Some (in_second true 8 four)) [] ≡ Some (in_second true 8 four)
unfolding standing_after_all
no_save = refl

-- what stood before saves, or behind one of them
before_all : IsOneOf None (four ∷ []) None
unfolding IsOneOf
before_all = inl refl

behind_the_first : IsOneOf None (four ∷ [] ∷ []) (Some (in_second false 1 four))
unfolding IsOneOf
behind_the_first = inr (inl refl)

abbrev body_of_one : Option Standing → List ℕ
body_of_one None = []
body_of_one (Some s) = s.slot.body

another_body : IsOneOf None (four ∷ []) (Some (in_second false 1 (1 ∷ []))) → ⊥
unfolding IsOneOf
another_body (inl e) = false≢true (ap (λ o. bytes_eq (body_of_one o) []) e)
another_body (inr e) = false≢true (ap (λ o. bytes_eq (body_of_one o) four) e)

-- the last number of 64 bits has none behind it
last_number : is_over_limit (Some (in_second false (2 ^ 64 - 1) [])) [] ≡ true
last_number = refl

number_before_it : map (λ s. is_over_limit s four) (None ∷ Some (in_second true (2 ^ 64 - 2) four) ∷ []) ≡ false ∷ false ∷ []
number_before_it = refl

-- the body that a file stands for
standing_in_file : standing_body (1 ∷ behind_gate (record { sequence = 7; body = 0 ∷ 0 ∷ 0 ∷ 0 ∷ [] })) ≡ Some (0 ∷ 0 ∷ 0 ∷ 0 ∷ [])
unfolding standing_of slot_of entry_of entries_in entries_of
standing_in_file = refl

nothing_in_file : standing_body (0 ∷ behind_gate (record { sequence = 7; body = 0 ∷ 0 ∷ 0 ∷ 0 ∷ [] })) ≡ None
unfolding standing_of slot_of entry_of entries_in entries_of
nothing_in_file = refl
