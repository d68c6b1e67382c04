-- Numbers that came before.
use Rattle.std.proofs.Common.{◌≡◌, ℕ, Bool, true, false, not, ◌&&◌, List, [], ◌∷◌, ◌++◌, refl, ap, sym, ◌∙◌, map, Option, Some, None, is_none, ℤ, pos, negsuc}
use Rattle.std.proofs.Math.Bool.{and-true}
use Rattle.std.specs.List.{list_all}
use Rattle.std.specs.Map.{lookup}
use Rattle.std.specs.Option.{option_map_or}
use Rattle.std.specs.Ordering.{int_eq}
use Rattle.std.proofs.lemmas.Bool.{and_parts, not-true, eqb-true, eq-eqb}
use Rattle.std.proofs.lemmas.Bool.Decides.{Decides-int_eq, same_from_decides}
use Rattle.std.proofs.lemmas.List.Folds.{list_all-append}
use Rattle.indexmap.specs.IndexMap.{insert_entry}
use Rattle.spec_plant.specs.AcceptedTypes.{is_same_number}
use Rattle.description_rules.specs.Placed.{SignalPlace, names_other, is_right_use}
use Rattle.description_rules.specs.NextNumber.{is_no_number_of, IsNextNumber, IsNextUse, AreNamed}
use Rattle.description_rules.proofs.TextLemmas.{absent}

is_same_number-Decides : (x y : ℤ) → (is_same_number x y ≡ true → x ≡ y) × (x ≡ y → is_same_number x y ≡ true)
is_same_number-Decides (pos m) (pos n) = (λ e. ap pos (eqb-true m n e), λ e. eq-eqb m n cc)
is_same_number-Decides (pos m) (negsuc n) = (λ e. absurd cc, λ e. absurd cc)
is_same_number-Decides (negsuc m) (pos n) = (λ e. absurd cc, λ e. absurd cc)
is_same_number-Decides (negsuc m) (negsuc n) = (λ e. ap negsuc (eqb-true m n e), λ e. eq-eqb m n cc)

int_eq-same : (n m : ℤ) → int_eq n m ≡ is_same_number m n
int_eq-same n m =
    let d = is_same_number-Decides m n in
    same_from_decides (int_eq n m) (is_same_number m n) (Decides-int_eq n m) (λ e. sym (d.0 e), λ e. d.1 (sym e))

-- a number that is not found is none of those that are there
pub is_none-lookup_number : (n : ℤ) (es : List (ℤ × ℕ)) → is_none (lookup (int_eq n) es) ≡ is_no_number_of (map (λ e. e.0) es) n
is_none-lookup_number n [] = refl
is_none-lookup_number n (e ∷ es) =
    absent (int_eq n e.0) (lookup (int_eq n) es) e.1
    ∙ ap (λ b. not b && is_none (lookup (int_eq n) es)) (int_eq-same n e.0)
    ∙ ap (λ others. not (is_same_number e.0 n) && others) (is_none-lookup_number n es)

-- a number that is none of those that are there goes behind them
pub insert_entry-new_number : (n : ℤ) (v : ℕ) (es : List (ℤ × ℕ)) → is_no_number_of (map (λ e. e.0) es) n ≡ true
    → map (λ e. e.0) (insert_entry int_eq es n v) ≡ map (λ e. e.0) es ++ n ∷ []
insert_entry-new_number n v [] h = refl
insert_entry-new_number n v (e ∷ es) h =
    let parts = and_parts (not (is_same_number e.0 n)) (is_no_number_of (map (λ e. e.0) es) n) h in
    let other : int_eq n e.0 ≡ false = int_eq-same n e.0 ∙ not-true _ parts.0 in
    rw other (ap (λ others. e.0 ∷ others) (insert_entry-new_number n v es parts.1))

-- a symbol that names a signal
pub next_use : (u : SignalPlace) (old new : List ℤ) (n : ℤ) (right : Bool)
    → u.signal ≡ Some n → IsNextNumber u.right old new n right → IsNextUse u old new right
next_use u old new n right e next = record {
  answer = next.answer ∙ sym (ap (λ (o : Option ℤ). option_map_or (λ m. u.right && is_no_number_of old m) o true) e);
  noted = λ is m.
      ap (λ numbers. is_no_number_of numbers m) (next.noted is) ∙ list_all-append (λ k. not (is_same_number k m)) old (n ∷ [])
      ∙ ap (λ b. is_no_number_of old m && b)
      (and-true (not (is_same_number n m)) ∙ sym (ap (λ (o : Option ℤ). option_map_or (λ k. not (is_same_number k m)) o true) e));
}

-- a symbol that names none
pub no_use : (u : SignalPlace) (old : List ℤ) → u.signal ≡ None → IsNextUse u old old true
no_use u old e = record {
  answer = sym (ap (λ (o : Option ℤ). option_map_or (λ m. u.right && is_no_number_of old m) o true) e);
  noted = λ is m. keep (is_no_number_of old m)
      ∙ ap (λ b. is_no_number_of old m && b) (sym (ap (λ (o : Option ℤ). option_map_or (λ k. not (is_same_number k m)) o true) e));
}
  where
    keep : (b : Bool) → b ≡ (b && true)
    keep true = refl
    keep false = refl

pub is_right_use-named : (before : List SignalPlace) (u : SignalPlace) (old new : List ℤ) (right : Bool)
    → AreNamed before old → IsNextUse u old new right → is_right_use before u ≡ right
is_right_use-named before u old new right named next = sym (next.answer ∙ by_signal u.signal)
  where
    by_signal : (o : Option ℤ)
        → option_map_or (λ n. u.right && is_no_number_of old n) o true ≡ option_map_or (λ n. u.right && list_all (names_other n) before) o true
    by_signal None = refl
    by_signal (Some n) = ap (λ b. u.right && b) (named n)

pub named-none : AreNamed [] []
named-none = λ n. refl

pub named-more : (before more : List SignalPlace) (u : SignalPlace) (old new : List ℤ) (right : Bool)
    → AreNamed before old → IsNextUse u old new right → right ≡ true
    → more ≡ before ++ u ∷ [] → AreNamed more new
named-more before more u old new right named next is e = λ n.
    next.noted is n ∙ ap (λ b. b && names_other n u) (named n) ∙ ap (λ b. list_all (names_other n) before && b) (keep (names_other n u))
    ∙ sym (list_all-append (names_other n) before (u ∷ [])) ∙ ap (list_all (names_other n)) (sym e)
  where
    keep : (b : Bool) → b ≡ (b && true)
    keep true = refl
    keep false = refl
