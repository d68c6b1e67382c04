-- Texts that are compared.
use Rattle.std.proofs.Common.{◌≡◌, ℕ, Bool, true, false, cond, not, ◌&&◌, List, [], ◌∷◌, refl, ap, sym, ◌∙◌}
use Rattle.std.proofs.Common.{map, Option, Some, None, is_none, is_some, option_copied, Bor, ◌++◌, Vec, Global}
use Rattle.std.proofs.lemmas.Bool.{and_parts, not-true}
use Rattle.indexmap.specs.IndexMap.{insert_entry}
use Rattle.std.specs.Prelude.{bytes_eq}
use Rattle.std.specs.Map.{lookup}
use Rattle.std.specs.List.{list_all}
use Rattle.std.proofs.lemmas.Slice.Eq.{bytes_eq-Decides}
use Rattle.std.proofs.lemmas.Bool.Decides.{same_from_decides}

pub bytes_eq-comm : (a b : List ℕ) → bytes_eq a b ≡ bytes_eq b a
bytes_eq-comm a b =
    let back = bytes_eq-Decides b a in
    same_from_decides (bytes_eq a b) (bytes_eq b a) (bytes_eq-Decides a b) (λ e. sym (back.0 e), λ e. back.1 (sym e))

pub absent : (b : Bool) (r : Option ℕ) (v : ℕ) → is_none (cond b (Some v) r) ≡ (not b && is_none r)
absent true r v = refl
absent false r v = refl

-- a text that is not found is none of those that are there
pub is_none-lookup : (text : List ℕ) (es : List (Vec ℕ Global × ℕ))
    → is_none (lookup (λ k. bytes_eq text k.items) es) ≡ list_all (λ e. not (bytes_eq e text)) (map (λ e. e.0.items) es)
is_none-lookup text [] = refl
is_none-lookup text (e ∷ es) =
    absent (bytes_eq text e.0.items) (lookup (λ k. bytes_eq text k.items) es) e.1
    ∙ ap (λ b. not b && is_none (lookup (λ k. bytes_eq text k.items) es)) (bytes_eq-comm text e.0.items)
    ∙ ap (λ others. not (bytes_eq e.0.items text) && others) (is_none-lookup text es)

pub is_none-option_copied : (r : Option (Bor ℕ)) → not (is_some r) ≡ is_none (option_copied r)
is_none-option_copied None = refl
is_none-option_copied (Some r) = refl

-- a text that is none of those that are there goes behind them
pub insert_entry-absent : (text : Vec ℕ Global) (v : ℕ) (es : List (Vec ℕ Global × ℕ))
    → list_all (λ e. not (bytes_eq e text.items)) (map (λ e. e.0.items) es) ≡ true
    → map (λ e. e.0.items) (insert_entry (λ a b. bytes_eq a.items b.items) es text v) ≡ map (λ e. e.0.items) es ++ text.items ∷ []
insert_entry-absent text v [] h = refl
insert_entry-absent text v (e ∷ es) h =
    let parts = and_parts (not (bytes_eq e.0.items text.items)) (list_all (λ e. not (bytes_eq e text.items)) (map (λ e. e.0.items) es)) h in
    let other : bytes_eq text.items e.0.items ≡ false = bytes_eq-comm text.items e.0.items ∙ not-true _ parts.0 in
    rw other (ap (λ others. e.0.items ∷ others) (insert_entry-absent text v es parts.1))

pub not-not : (b : Bool) → b ≡ not (not b)
not-not true = refl
not-not false = refl
