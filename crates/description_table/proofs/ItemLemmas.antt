-- One more item of an array is read.
use Rattle.std.proofs.Common.{◌≡◌, ℕ, ◌+◌, ◌<◌, List, [], ◌∷◌, ◌++◌, length, get_or, drop, refl, ap, sym, ◌∙◌}
use Rattle.std.proofs.Common.{add-one, drop-cons, append_assoc, Option, Some, None, option_map}
use Rattle.toml.specs.Data.{Data}
use Rattle.toml.specs.View.{view, items_view}
use Rattle.toml.specs.declared.value.Value.{Value}
use Rattle.spec_rules.specs.Fields.{items_in}

onto : {X : Type 0} (xs : List X) (x : X) (o : Option (List X))
    → option_map (λ ys. xs ++ ys) (option_map (λ ys. x ∷ ys) o) ≡ option_map (λ ys. (xs ++ x ∷ []) ++ ys) o
onto xs x None = refl
onto xs x (Some ys) = ap Some (sym (append_assoc xs (x ∷ []) ys))

-- the items from i on, where the i-th is an x
items_in-drop : {X : Type 0} (kind : Data → Option X) (vs : List Value) (i : ℕ) (v : Value) (x : X) → i < length vs → v ≡ get_or vs i v → Some x ≡ kind (view v)
    → items_in kind (items_view (drop i vs)) ≡ option_map (λ xs. x ∷ xs) (items_in kind (items_view (drop (i + 1) vs)))
items_in-drop kind vs i v x below is gives = rw (add-one, drop-cons vs i v, ← is, ← gives) refl

-- the items so far and those that are left, after one more
pub items_in_more : {X : Type 0} (kind : Data → Option X) (vs : List Value) (i : ℕ) (v : Value) (x : X) (xs : List X) (all : Option (List X))
    → i < length vs → v ≡ get_or vs i v → Some x ≡ kind (view v)
    → all ≡ option_map (λ ys. xs ++ ys) (items_in kind (items_view (drop i vs)))
    → all ≡ option_map (λ ys. (xs ++ x ∷ []) ++ ys) (items_in kind (items_view (drop (i + 1) vs)))
items_in_more kind vs i v x xs all below is gives so_far =
    so_far ∙ ap (option_map (λ ys. xs ++ ys)) (items_in-drop kind vs i v x below is gives) ∙ onto xs x (items_in kind (items_view (drop (i + 1) vs)))

-- nothing is read where the i-th is no x
pub items_in_none : {X : Type 0} (kind : Data → Option X) (vs : List Value) (i : ℕ) (v : Value) (xs : List X) (all : Option (List X))
    → i < length vs → v ≡ get_or vs i v → None ≡ kind (view v)
    → all ≡ option_map (λ ys. xs ++ ys) (items_in kind (items_view (drop i vs))) → None ≡ all
items_in_none kind vs i v xs all below is none so_far =
    let left : items_in kind (items_view (drop i vs)) ≡ None = rw (drop-cons vs i v, ← is, ← none) refl in
    sym (so_far ∙ ap (option_map (λ ys. xs ++ ys)) left)
