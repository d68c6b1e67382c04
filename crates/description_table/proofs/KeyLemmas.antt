-- Tests of the keys of a table.
use Rattle.std.proofs.Common.{◌≡◌, ℕ, Bool, List, [], ◌∷◌, ◌&&◌, ◌||◌, map, refl, ap, sym, ◌∙◌, Global, String, Bor, string_bytes}
use Rattle.std.specs.Prelude.{bytes_eq}
use Rattle.std.specs.List.{list_any, list_all}
use Rattle.std.specs.Map.{keys_of}
use Rattle.toml.specs.declared.value.Value.{Value}
use Rattle.toml.specs.View.{members_view}
use Rattle.spec_rules.specs.Fields.{only_keys}
use Rattle.description_table.specs.Views.{text_view}

list_any-map : {X Y : Type 0} (p : X → Bool) (f : Y → X) (ys : List Y) → list_any p (map f ys) ≡ list_any (λ y. p (f y)) ys
list_any-map p f [] = refl
list_any-map p f (y ∷ ys) = ap (λ b. p (f y) || b) (list_any-map p f ys)

pub only_keys-members_view : (known : List (Bor (List ℕ))) (es : List (String Global × Value))
    → list_all (λ key. list_any (λ k. bytes_eq (string_bytes key) (text_view k)) known) (keys_of es) ≡ only_keys (map text_view known) (members_view es)
only_keys-members_view known [] = refl
only_keys-members_view known (e ∷ es) =
    let test = bytes_eq (string_bytes e.0) in
    ap (λ found. found && list_all (λ key. list_any (λ k. bytes_eq (string_bytes key) (text_view k)) known) (keys_of es))
    (sym (list_any-map test text_view known))
    ∙ ap (λ others. list_any test (map text_view known) && others) (only_keys-members_view known es)
