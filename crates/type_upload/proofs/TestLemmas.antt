-- The test of an entry's fields.
use Rattle.std.proofs.Common.{◌≡◌, ℕ, Bool, true, false, eqb, leb, List, length, get_or, refl, sym, subst}
use Rattle.std.specs.Cmp.Derive.{both_true}
use Rattle.std.proofs.lemmas.Bool.{leb-true, le-leb, eqb-true, eq-eqb}
use Rattle.spec_formats.specs.Numbers.{number32}
use Rattle.spec_formats.proofs.EntryLemmas.{both}
use Rattle.type_upload.specs.Places.{HasFields}
use Rattle.spec_formats.specs.TypeEntryReading.{end_of_name, end_of_type, end_of_comment, end_of_fields, is_fields}

pub fields_of_test : (bytes : List ℕ) → is_fields bytes ≡ true → HasFields bytes
unfolding is_fields
fields_of_test bytes e =
    let c = both _ (eqb (get_or bytes (end_of_comment bytes) 0) 0) e in
    let k = both _ (eqb (get_or bytes (end_of_type bytes) 0) 0) c.0 in
    let n = both _ (eqb (get_or bytes (end_of_name bytes) 0) 0) k.0 in
    let l = both (leb (end_of_fields bytes) (number32 0 bytes)) (leb (number32 0 bytes) (length bytes)) n.0 in
    record {
      covers = leb-true (end_of_fields bytes) (number32 0 bytes) l.0;
      within = leb-true (number32 0 bytes) (length bytes) l.1;
      name = eqb-true (get_or bytes (end_of_name bytes) 0) 0 n.1;
      kind = eqb-true (get_or bytes (end_of_type bytes) 0) 0 k.1;
      comment = eqb-true (get_or bytes (end_of_comment bytes) 0) 0 c.1;
    }

pub test_of_fields : (bytes : List ℕ) → HasFields bytes → is_fields bytes ≡ true
unfolding is_fields
test_of_fields bytes t =
    both_true (both_true (both_true (both_true
    (le-leb (end_of_fields bytes) (number32 0 bytes) t.covers)
    (le-leb (number32 0 bytes) (length bytes) t.within))
    (eq-eqb (get_or bytes (end_of_name bytes) 0) 0 t.name))
    (eq-eqb (get_or bytes (end_of_type bytes) 0) 0 t.kind))
    (eq-eqb (get_or bytes (end_of_comment bytes) 0) 0 t.comment)

is_false : (test : Bool) → (test ≡ true → ⊥) → false ≡ test
is_false true never = absurd (never refl)
is_false false never = refl

-- where one of the facts fails, the test does
pub refused : (bytes : List ℕ) → (HasFields bytes → ⊥) → false ≡ is_fields bytes
refused bytes never = is_false (is_fields bytes) (λ e. never (fields_of_test bytes e))

pub refused_name : (bytes : List ℕ) (at : ℕ) → at ≡ end_of_name bytes → (get_or bytes at 0 ≡ 0 → ⊥) → false ≡ is_fields bytes
refused_name bytes at e never =
    refused bytes (λ t. never (subst (λ (n : ℕ). get_or bytes n 0 ≡ 0) (sym e) t.name))

pub refused_kind : (bytes : List ℕ) (at : ℕ) → at ≡ end_of_type bytes → (get_or bytes at 0 ≡ 0 → ⊥) → false ≡ is_fields bytes
refused_kind bytes at e never =
    refused bytes (λ t. never (subst (λ (n : ℕ). get_or bytes n 0 ≡ 0) (sym e) t.kind))

pub refused_comment : (bytes : List ℕ) (at : ℕ) → at ≡ end_of_comment bytes → (get_or bytes at 0 ≡ 0 → ⊥) → false ≡ is_fields bytes
refused_comment bytes at e never =
    refused bytes (λ t. never (subst (λ (n : ℕ). get_or bytes n 0 ≡ 0) (sym e) t.comment))

pub found_at : (bytes : List ℕ) (at place : ℕ) → at ≡ place → get_or bytes at 0 ≡ 0 → get_or bytes place 0 ≡ 0
found_at bytes at place e nul = subst (λ (n : ℕ). get_or bytes n 0 ≡ 0) e nul
