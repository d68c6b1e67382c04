-- Ports whose numbers are noted.
use Rattle.std.proofs.Common.{◌≡◌, ℕ, Bool, true, false, not, ◌&&◌, nat_le, List, [], ◌∷◌, ◌++◌, length, map, refl, ap, sym, ◌∙◌, ℤ}
use Rattle.std.specs.List.{list_all}
use Rattle.std.proofs.lemmas.List.Folds.{list_all-map}
use Rattle.spec_plant.specs.AcceptedTypes.{is_same_number}
use Rattle.spec_rules.specs.Written as rules
use Rattle.spec_rules.specs.PortRules.{is_right_port, is_between, is_port_name, has_right_sizes}
use Rattle.description_table.specs.Views.{port_view}
use Rattle.description_table.specs.declared.written.WrittenPort.{WrittenPort}
use Rattle.description_rules.specs.NextNumber.{is_no_number_of, IsNextNumber}
use Rattle.description_rules.specs.NextPort.{is_right_alone, number_view}

with_last : (x : Bool) → x ≡ (x && true)
with_last true = refl
with_last false = refl

without : (b c d e : Bool) → false ≡ ((((b && c) && d) && e) && false)
without true true true true = refl
without true true true false = refl
without true true false e = refl
without true false d e = refl
without false c d e = refl

moved : (a l b c d e : Bool) → (((((a && l) && b) && c) && d) && e) ≡ (((((a && b) && c) && d) && e) && l)
moved true true b c d e = with_last (((b && c) && d) && e)
moved true false b c d e = without b c d e
moved false l b c d e = refl

numbers-viewed : (xs : List WrittenPort) → map number_view xs ≡ map (λ (e : rules.WrittenPort). e.number) (map port_view xs)
numbers-viewed [] = refl
numbers-viewed (x ∷ xs) = ap (λ numbers. number_view x ∷ numbers) (numbers-viewed xs)

-- a port is right behind those whose numbers are noted
pub is_right_port-noted : (limit : ℕ) (xs : List WrittenPort) (x : WrittenPort) (old new : List ℤ) (right : Bool) → old ≡ map number_view xs
    → IsNextNumber (is_right_alone limit (port_view x)) old new (number_view x) right → is_right_port limit (map port_view xs) (port_view x) ≡ right
is_right_port-noted limit xs x old new right noted next =
    let p = port_view x in
    let others = list_all (λ (e : rules.WrittenPort). not (is_same_number e.number p.number)) (map port_view xs) in
    moved (is_between 1 65535 p.number) others (is_port_name p.name) (is_between 0 255 p.major && is_between 0 255 p.minor && is_between 0 65535 p.build)
    (has_right_sizes limit p) (nat_le (length p.symbols) 10000)
    ∙ ap (λ b. is_right_alone limit p && b) (sym (list_all-map (λ e. not (is_same_number e p.number)) (λ (e : rules.WrittenPort). e.number) (map port_view xs))
    ∙ ap (λ numbers. is_no_number_of numbers p.number) (sym (noted ∙ numbers-viewed xs)))
    ∙ sym next.answer

pub port-noted : (xs more_xs : List ℤ) (n : ℤ) (allowed : Bool) (old new : List ℤ) (right : Bool)
    → old ≡ xs → IsNextNumber allowed old new n right → right ≡ true
    → more_xs ≡ xs ++ n ∷ [] → new ≡ more_xs
port-noted xs more_xs n allowed old new right noted next is more = next.noted is ∙ ap (λ numbers. numbers ++ n ∷ []) noted ∙ sym more
