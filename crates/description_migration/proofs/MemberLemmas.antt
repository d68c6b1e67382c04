-- What the members of a table are once one is set, and where a key is not known.
use Rattle.std.proofs.Common.{◌≡◌, ℕ, true, false, List, ◌∷◌, Option, Some, None, Ordering, Less, Equal, Greater, refl, sym, ap, ◌∙◌, inl, inr, is_eq}
use Rattle.std.specs.Prelude.{bytes_eq}
use Rattle.std.specs.List.{list_any}
use Rattle.std.specs.Ordering.{nat_cmp, match_ordering}
use Rattle.std.specs.Cmp.{tied_itself}
use Rattle.std.specs.Cmp.Lexicographic.{slice_cmp}
use Rattle.std.proofs.lemmas.Bool.{cases_Bool, and_parts}
use Rattle.std.proofs.lemmas.Cmp.{nat_list_cmp_total}
use Rattle.std.proofs.lemmas.Map.Text.{is_eq-slice_cmp}
use Rattle.std.proofs.lemmas.Slice.Eq.{bytes_eq-Decides}
use Rattle.toml.specs.Data.{Data, Members, no_members, member, get_member}
use Rattle.spec_rules.specs.Fields.{only_keys}
use Rattle.table_text.specs.SetMember.{set_member}

-- what is found at one of three places
found_at : (o : Ordering) (k l : List ℕ) (d e : Data) (ms : Members) → slice_cmp nat_cmp k l ≡ o
    → get_member k (set_member k d ms) ≡ Some d
    → get_member k (match_ordering o (member k d (member l e ms)) (member l d ms) (member l e (set_member k d ms))) ≡ Some d
found_at Less k l d e ms is ih = rw (tied_itself nat_list_cmp_total k) refl
found_at Equal k l d e ms is ih = rw is refl
found_at Greater k l d e ms is ih = rw is ih

-- the key has the value
pub get_member-set : (k : List ℕ) (d : Data) (ms : Members) → get_member k (set_member k d ms) ≡ Some d
get_member-set k d no_members = rw (tied_itself nat_list_cmp_total k) refl
get_member-set k d (member l e ms) = found_at (slice_cmp nat_cmp k l) k l d e ms refl (get_member-set k d ms)

-- what a first member that is another's does not change
passed : (o : Ordering) (a b : Option Data) → is_eq o ≡ false → match_ordering o a b a ≡ a
passed Less a b h = refl
passed Equal a b h = cc
passed Greater a b h = refl

-- what is set at one of three places
set_at : (o : Ordering) (k l m : List ℕ) (d e : Data) (ms : Members) → slice_cmp nat_cmp l m ≡ o → is_eq (slice_cmp nat_cmp k l) ≡ false
    → get_member k (set_member l d ms) ≡ get_member k ms
    → get_member k (match_ordering o (member l d (member m e ms)) (member m d ms) (member m e (set_member l d ms))) ≡ get_member k (member m e ms)
set_at Less k l m d e ms is other ih = passed (slice_cmp nat_cmp k l) (get_member k (member m e ms)) (Some d) other
set_at Equal k l m d e ms is other ih =
    let tied : slice_cmp nat_cmp k l ≡ slice_cmp nat_cmp k m = alike k l m is in
    let apart : is_eq (slice_cmp nat_cmp k m) ≡ false = ap is_eq (sym tied) ∙ other in
    passed (slice_cmp nat_cmp k m) (get_member k ms) (Some d) apart ∙ sym (passed (slice_cmp nat_cmp k m) (get_member k ms) (Some e) apart)
  where
    alike : (k l m : List ℕ) → slice_cmp nat_cmp l m ≡ Equal → slice_cmp nat_cmp k l ≡ slice_cmp nat_cmp k m
    alike k l m tie =
        let yes_ : bytes_eq l m ≡ true = sym (is_eq-slice_cmp l m) ∙ ap is_eq tie in
        ap (slice_cmp nat_cmp k) ((bytes_eq-Decides l m).0 yes_)
set_at Greater k l m d e ms is other ih = ap (λ found. match_ordering (slice_cmp nat_cmp k m) found (Some e) found) ih

-- another key has what it had
pub get_member-other : (k l : List ℕ) (d : Data) (ms : Members) → is_eq (slice_cmp nat_cmp k l) ≡ false → get_member k (set_member l d ms) ≡ get_member k ms
get_member-other k l d no_members other = passed (slice_cmp nat_cmp k l) None (Some d) other
get_member-other k l d (member m e ms) other = set_at (slice_cmp nat_cmp l m) k l m d e ms refl other (get_member-other k l d ms other)

known_at : (o : Ordering) (keys : List (List ℕ)) (k l : List ℕ) (d e : Data) (ms : Members)
    → list_any (bytes_eq k) keys ≡ true → list_any (bytes_eq l) keys ≡ true
    → only_keys keys ms ≡ true → only_keys keys (set_member k d ms) ≡ true
    → only_keys keys (match_ordering o (member k d (member l e ms)) (member l d ms) (member l e (set_member k d ms))) ≡ true
known_at Less keys k l d e ms new here more ih = rw (new, here, more) refl
known_at Equal keys k l d e ms new here more ih = rw (here, more) refl
known_at Greater keys k l d e ms new here more ih = rw (here, ih) refl

-- the keys stay known
pub only_keys-set : (keys : List (List ℕ)) (k : List ℕ) (d : Data) (ms : Members)
    → list_any (bytes_eq k) keys ≡ true → only_keys keys ms ≡ true → only_keys keys (set_member k d ms) ≡ true
only_keys-set keys k d no_members new h = rw new refl
only_keys-set keys k d (member l e ms) new h =
    let (here, more) = and_parts (list_any (bytes_eq l) keys) (only_keys keys ms) h in
    known_at (slice_cmp nat_cmp k l) keys k l d e ms new here more (only_keys-set keys k d ms new more)

-- a key that is not known is not there
pub get_member-unknown : (keys : List (List ℕ)) (k : List ℕ) (ms : Members)
    → list_any (bytes_eq k) keys ≡ false → only_keys keys ms ≡ true → get_member k ms ≡ None
get_member-unknown keys k no_members unknown h = refl
get_member-unknown keys k (member l e ms) unknown h =
    let (here, more) = and_parts (list_any (bytes_eq l) keys) (only_keys keys ms) h in
    let none = get_member-unknown keys k ms unknown more in
    elim (cases_Bool (is_eq (slice_cmp nat_cmp k l))) [
      | inl same ↦
          let is : k ≡ l = (bytes_eq-Decides k l).0 (sym (is_eq-slice_cmp k l) ∙ same) in
          let found : list_any (bytes_eq k) keys ≡ true = ap (λ n. list_any (bytes_eq n) keys) is ∙ here in
          cc
      | inr other ↦ rw none (passed (slice_cmp nat_cmp k l) None (Some e) other)
    ]

-- one more key that is known
pub only_keys-more : (k : List ℕ) (keys : List (List ℕ)) (ms : Members) → only_keys keys ms ≡ true → only_keys (k ∷ keys) ms ≡ true
only_keys-more k keys no_members h = refl
only_keys-more k keys (member l e ms) h =
    let (here, more) = and_parts (list_any (bytes_eq l) keys) (only_keys keys ms) h in
    elim (cases_Bool (bytes_eq l k)) [
      | inl same ↦ rw (same, only_keys-more k keys ms more) refl
      | inr other ↦ rw (other, here, only_keys-more k keys ms more) refl
    ]
