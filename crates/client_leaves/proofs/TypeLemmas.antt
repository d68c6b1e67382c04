-- A type is found by the place of its name, and what stands at a place is looked up.
use Rattle.std.proofs.Common.{◌≡◌, ℕ, ◌<◌, ◌≤◌, List, map, length, get_or, refl, sym, ap, subst, ◌∙◌, inl, inr}
use Rattle.std.specs.Prelude.{Bool, Option, Some, None, bytes_eq, find, position, slice_get, nat_lt, option_map, option_and_then, IfSome, MatchOption}
use Rattle.std.specs.List.{All, position_or_len}
use Rattle.std.proofs.lemmas.Bool.{cases_Bool, ltb-false}
use Rattle.std.proofs.lemmas.List.Elements.{All-get_or}
use Rattle.std.proofs.lemmas.List.Folds.{find_at}
use Rattle.std.proofs.lemmas.Option.{slice_get_past, slice_get_read, slice_get_within, get_or_from_slice_get}
use Rattle.name_paths.specs.Identifier.{lower}
use Rattle.spec_formats.specs.TypeEntry as formats
use Rattle.spec_client.specs.LeafTypes.{type_named}
use Rattle.name_index.specs.Numbered.{first_called}
use Rattle.name_index.proofs.CallerLemmas.{first_called-map, position-map}
use Rattle.type_upload.specs.declared.entry.TypeEntry.{TypeEntry}
use Rattle.type_upload.specs.Entry.{entry_meant}
use Rattle.client_leaves.specs.Entries.{entry_name}

abbrev is_named : List ℕ → formats.TypeEntry → Bool
is_named name t = bytes_eq (lower t.fields.name) (lower name)

-- what is found stands at the first place at which a test passes
found_at : {X : Type 0} (p : X → Bool) (xs : List X) → option_and_then (λ k. slice_get xs k) (position p xs) ≡ find p xs
found_at p xs = elim (cases_Bool (nat_lt (position_or_len p xs) (length xs))) [
  | inl t ↦ rw t (sym (find_at p xs))
  | inr t ↦ let past : length xs ≤ position_or_len p xs = ltb-false (position_or_len p xs) (length xs) t in
      rw t (sym (find_at p xs ∙ slice_get_past xs (position_or_len p xs) past))
]

place_is : (es : List TypeEntry) (name : List ℕ) → first_called (map entry_name es) name ≡ position (is_named name) (map entry_meant es)
place_is es name = first_called-map entry_name es name ∙ sym (position-map (is_named name) entry_meant es)

pub named_found : (es : List TypeEntry) (name : List ℕ)
    → option_and_then (λ k. slice_get (map entry_meant es) k) (first_called (map entry_name es) name) ≡ type_named (map entry_meant es) name
unfolding type_named
named_found es name = rw (place_is es name) (found_at (is_named name) (map entry_meant es))

-- what a look-up at a place answers
pub looked_up : {R X : Type 0} (now : R → X) (xs : List X) (i : ℕ) (P : R → Type 0) (r : Option R) → MatchOption r (length xs ≤ i) (λ x. (i < length xs) × P x)
    → IfSome r (λ x. now x ≡ get_or xs i (now x)) → option_map now r ≡ slice_get xs i
looked_up now xs i P None h value = sym (slice_get_past xs i h)
looked_up now xs i P (Some x) h value = sym (slice_get_read xs (length xs) i (now x) refl (h.0) value)

pub mapped_look_up : {R X Y : Type 0} (now : R → X) (f : X → Y) (r : Option R) (o : Option X) → option_map now r ≡ o
    → option_map (λ x. f (now x)) r ≡ option_map f o
mapped_look_up now f None o is = ap (option_map f) is
mapped_look_up now f (Some x) o is = ap (option_map f) is

-- what holds of all holds of it
pub look_up_holds : {R X : Type 0} (now : R → X) (xs : List X) (i : ℕ) (P : X → Type 0) (r : Option R) → option_map now r ≡ slice_get xs i → All P xs
    → IfSome r (λ x. P (now x))
look_up_holds now xs i P None is all = tt
look_up_holds now xs i P (Some x) is all =
    let there = sym is in
    subst P (get_or_from_slice_get xs i (now x) (now x) there) (All-get_or P xs i (now x) (slice_get_within xs i (now x) there) all)
