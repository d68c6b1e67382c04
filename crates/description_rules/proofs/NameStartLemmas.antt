-- A name begins with the identifiers of another exactly where one of its starts is that other.
use Rattle.std.proofs.Common.{◌≡◌, ℕ, ◌+◌, Bool, true, false, cond, not, ◌&&◌, ◌==◌, List, [], ◌∷◌, ◌++◌, map, refl, ap, sym, ◌∙◌, arith, ⊎_elim}
use Rattle.std.proofs.Math.Bool.{and_assoc, and-true}
use Rattle.std.specs.Prelude.{bytes_eq}
use Rattle.std.specs.Char.{to_ascii_lowercase}
use Rattle.std.specs.List.{list_all, slice_split, onto_first, starts_with}
use Rattle.std.proofs.lemmas.Bool.{cases_Bool, cases_lt, cases_eq, eqb-true, eq-eqb, ne_eqb, lt-ltb, le-ltb}
use Rattle.std.proofs.lemmas.List.Folds.{list_all-map, list_all-append}
use Rattle.std.proofs.lemmas.Slice.Eq.{bytes_eq-Decides}
use Rattle.name_paths.specs.Identifier.{lower}
use Rattle.name_paths.specs.Name.{is_full_stop, lower_identifiers, is_symbol_name}
use Rattle.spec_rules.specs.Written.{WrittenSymbol}
use Rattle.spec_rules.specs.SymbolRules.{neither_begins, is_right_name}
use Rattle.description_table.specs.declared.written.WrittenSymbol as code
use Rattle.description_table.specs.Views.{symbol_view}
use Rattle.description_rules.specs.NextName.{IsNextName, name_view}
use Rattle.description_rules.specs.NameStarts.{starts_of, is_none_of, each_behind, share_none, AreNoted, IsAdded}
use Rattle.description_rules.proofs.TextLemmas.{bytes_eq-comm}

-- a text goes on behind another one with a full stop, or is that one
abbrev pub goes_on : List ℕ → List ℕ → Bool
goes_on [] [] = true
goes_on (c ∷ cs) [] = is_full_stop c
goes_on [] (d ∷ ds) = false
goes_on (c ∷ cs) (d ∷ ds) = (d == c) && goes_on cs ds

record HasFirst (parts : List (List ℕ)) : Type 0 where
  first : List ℕ
  rest : List (List ℕ)
  is : parts ≡ first ∷ rest

has_first : (cs : List ℕ) → HasFirst (slice_split is_full_stop cs)
has_first [] = record { first = []; rest = []; is = refl }
has_first (c ∷ cs) =
    let h = has_first cs in
    ⊎_elim (λ e. record { first = []; rest = slice_split is_full_stop cs; is = rw e refl })
    (λ e. record { first = c ∷ h.first; rest = h.rest; is = rw e (ap (onto_first c) h.is) }) (cases_Bool (is_full_stop c))

abbrev begins : List (List ℕ) → List (List ℕ) → Bool
begins parts front = starts_with bytes_eq parts front

same_stop : (c d : ℕ) → is_full_stop c ≡ true → is_full_stop d ≡ true → (d == c) ≡ true
same_stop c d e f = eq-eqb d c (eqb-true d 46 f ∙ sym (eqb-true c 46 e))

other_stop : (c d : ℕ) (b : Bool) → is_full_stop c ≡ b → is_full_stop d ≡ not b → (d == c) ≡ false
other_stop c d b e f = ne_eqb d c (λ same. both b (sym e ∙ ap is_full_stop (sym same) ∙ f))
  where
    both : (b : Bool) → b ≡ not b → ⊥
    both true e = cc
    both false e = cc

split_stop : (c : ℕ) (cs : List ℕ) → is_full_stop c ≡ true → slice_split is_full_stop (c ∷ cs) ≡ [] ∷ slice_split is_full_stop cs
split_stop c cs e = rw e refl

split_other : (c : ℕ) (cs : List ℕ) (h : HasFirst (slice_split is_full_stop cs))
    → is_full_stop c ≡ false → slice_split is_full_stop (c ∷ cs) ≡ (c ∷ h.first) ∷ h.rest
split_other c cs h e = rw e (ap (onto_first c) h.is)

same_begins : (a b x y : List (List ℕ)) (found : Bool) → a ≡ x → b ≡ y → begins x y ≡ found → begins a b ≡ found
same_begins a b x y found p q e = ap (λ parts. begins parts b) p ∙ ap (begins x) q ∙ e

-- one step, where both go on
step : (c d : ℕ) (cs ds : List ℕ) → begins (slice_split is_full_stop cs) (slice_split is_full_stop ds) ≡ goes_on cs ds
    → begins (slice_split is_full_stop (c ∷ cs)) (slice_split is_full_stop (d ∷ ds)) ≡ ((d == c) && goes_on cs ds)
step c d cs ds ih =
    let h = has_first cs in
    let g = has_first ds in
    let go = goes_on cs ds in
    let split = λ (text : List ℕ). slice_split is_full_stop text in
    let same_parts : ((d == c) && (bytes_eq g.first h.first && begins h.rest g.rest)) ≡ ((d == c) && go) =
    ap (λ b. (d == c) && b)
    (sym (same_begins (split cs) (split ds) (h.first ∷ h.rest) (g.first ∷ g.rest)
    (bytes_eq g.first h.first && begins h.rest g.rest) h.is g.is refl) ∙ ih) in
    ⊎_elim (λ e. ⊎_elim
    (λ f. same_begins (split (c ∷ cs)) (split (d ∷ ds)) ([] ∷ split cs) ([] ∷ split ds) ((d == c) && go)
    (split_stop c cs e) (split_stop d ds f) (ih ∙ ap (λ b. b && go) (sym (same_stop c d e f))))
    (λ f. same_begins (split (c ∷ cs)) (split (d ∷ ds)) ([] ∷ split cs) ((d ∷ g.first) ∷ g.rest) ((d == c) && go)
    (split_stop c cs e) (split_other d ds g f) (ap (λ b. b && go) (sym (other_stop c d true e f))))
    (cases_Bool (is_full_stop d)))
    (λ e. ⊎_elim
    (λ f. same_begins (split (c ∷ cs)) (split (d ∷ ds)) ((c ∷ h.first) ∷ h.rest) ([] ∷ split ds) ((d == c) && go)
    (split_other c cs h e) (split_stop d ds f) (ap (λ b. b && go) (sym (other_stop c d false e f))))
    (λ f. same_begins (split (c ∷ cs)) (split (d ∷ ds)) ((c ∷ h.first) ∷ h.rest)
    ((d ∷ g.first) ∷ g.rest) ((d == c) && go) (split_other c cs h e) (split_other d ds g f)
    (and_assoc (d == c) (bytes_eq g.first h.first) (begins h.rest g.rest) ∙ same_parts))
    (cases_Bool (is_full_stop d))) (cases_Bool (is_full_stop c))

split_begins : (a b : List ℕ) → begins (slice_split is_full_stop a) (slice_split is_full_stop b) ≡ goes_on a b
split_begins [] [] = refl
split_begins (c ∷ cs) [] =
    let h = has_first cs in
    ⊎_elim (λ e. same_begins (slice_split is_full_stop (c ∷ cs)) ([] ∷ [])
    ([] ∷ slice_split is_full_stop cs) ([] ∷ []) (is_full_stop c) (split_stop c cs e) refl (sym e))
    (λ e. same_begins (slice_split is_full_stop (c ∷ cs)) ([] ∷ []) ((c ∷ h.first) ∷ h.rest) ([] ∷ []) (is_full_stop c) (split_other c cs h e) refl (sym e))
    (cases_Bool (is_full_stop c))
split_begins [] (d ∷ ds) =
    let g = has_first ds in
    ⊎_elim (λ e. same_begins ([] ∷ []) (slice_split is_full_stop (d ∷ ds)) ([] ∷ []) ([] ∷ slice_split is_full_stop ds) false refl (split_stop d ds e)
    (same_begins ([] ∷ []) ([] ∷ slice_split is_full_stop ds) ([] ∷ []) ([] ∷ g.first ∷ g.rest) false refl (ap (λ parts. [] ∷ parts) g.is) refl))
    (λ e. same_begins ([] ∷ []) (slice_split is_full_stop (d ∷ ds)) ([] ∷ []) ((d ∷ g.first) ∷ g.rest) false refl (split_other d ds g e) refl)
    (cases_Bool (is_full_stop d))
split_begins (c ∷ cs) (d ∷ ds) = step c d cs ds (split_begins cs ds)

lower_stop : (c : ℕ) → is_full_stop (to_ascii_lowercase c) ≡ is_full_stop c
lower_stop c =
    ⊎_elim (λ k. rw (lt-ltb c 65 k) refl)
    (λ k. ⊎_elim (λ m. rw (le-ltb c 65 k, lt-ltb c 91 m) (ne_eqb (c + 32) 46 (λ e. omega arith) ∙ sym (ne_eqb c 46 (λ e. omega arith))))
    (λ m. rw (le-ltb c 65 k, le-ltb c 91 m) refl) (cases_lt c 91)) (cases_lt c 65)

lower_onto : (c : ℕ) (parts : List (List ℕ)) → map lower (onto_first c parts) ≡ onto_first (to_ascii_lowercase c) (map lower parts)
lower_onto c [] = refl
lower_onto c (part ∷ parts) = refl

lower_split : (text : List ℕ) → map lower (slice_split is_full_stop text) ≡ slice_split is_full_stop (lower text)
lower_split [] = refl
lower_split (c ∷ cs) =
    let ih = lower_split cs in
    let small = to_ascii_lowercase c in
    let h = has_first (lower cs) in
    ⊎_elim (λ e. ap (map lower) (split_stop c cs e) ∙ ap (λ parts. [] ∷ parts) ih ∙ sym (split_stop small (lower cs) (lower_stop c ∙ e)))
    (λ e. ap (map lower) (other c (slice_split is_full_stop cs) (is_full_stop c) e) ∙ lower_onto c (slice_split is_full_stop cs) ∙ ap (onto_first small) ih
    ∙ sym (other small (slice_split is_full_stop (lower cs)) (is_full_stop small) (lower_stop c ∙ e))) (cases_Bool (is_full_stop c))
  where
    other : (x : ℕ) (parts : List (List ℕ)) (b : Bool) → b ≡ false → cond b ([] ∷ parts) (onto_first x parts) ≡ onto_first x parts
    other x parts b e = rw e refl

all_pass : {X : Type 0} (xs : List X) → list_all (λ x. true) xs ≡ true
all_pass [] = refl
all_pass (x ∷ xs) = all_pass xs

-- texts behind one byte beside a text that begins with a byte
none_behind : (c d : ℕ) (texts : List (List ℕ)) (text : List ℕ) → is_none_of (each_behind c texts) (d ∷ text) ≡ not ((d == c) && not (is_none_of texts text))
none_behind c d texts text =
    list_all-map (λ e. not (bytes_eq e (d ∷ text))) (λ (t : List ℕ). c ∷ t) texts
    ∙ ⊎_elim (λ e. rw (eq-eqb c d e, eq-eqb d c (sym e)) (twice (is_none_of texts text)))
    (λ e. rw (ne_eqb c d e, ne_eqb d c (λ f. e (sym f))) (all_pass texts)) (cases_eq c d)
  where
    twice : (b : Bool) → b ≡ not (not b)
    twice true = refl
    twice false = refl

not_none : (b : Bool) (g : Bool) → b ≡ not g → not b ≡ g
not_none b true e = rw e refl
not_none b false e = rw e refl

starts_go_on : (a b : List ℕ) → is_none_of (starts_of a) b ≡ not (goes_on a b)
starts_go_on [] [] = refl
starts_go_on [] (d ∷ ds) = refl
starts_go_on (c ∷ cs) [] =
    ⊎_elim (λ e. rw e refl) (λ e. rw e (list_all-map (λ t. not (bytes_eq t [])) (λ (t : List ℕ). c ∷ t) (starts_of cs) ∙ all_pass (starts_of cs)))
    (cases_Bool (is_full_stop c))
starts_go_on (c ∷ cs) (d ∷ ds) =
    let ih = not_none (is_none_of (starts_of cs) ds) (goes_on cs ds) (starts_go_on cs ds) in
    let behind = none_behind c d (starts_of cs) ds ∙ ap (λ b. not ((d == c) && b)) ih in
    ⊎_elim (λ e. rw e behind) (λ e. rw e behind) (cases_Bool (is_full_stop c))

-- a name does not begin with the identifiers of another exactly where none of its starts is that other, ASCII case aside
pub begins-starts : (name front : List ℕ)
    → not (starts_with bytes_eq (lower_identifiers name) (lower_identifiers front)) ≡ is_none_of (starts_of (lower name)) (lower front)
begins-starts name front =
    ap (λ parts. not (begins parts (lower_identifiers front))) (lower_split name)
    ∙ ap (λ parts. not (begins (slice_split is_full_stop (lower name)) parts)) (lower_split front)
    ∙ ap not (split_begins (lower name) (lower front)) ∙ sym (starts_go_on (lower name) (lower front))

pub list_all_both : {X : Type 0} (f g : X → Bool) (xs : List X) → list_all (λ x. f x && g x) xs ≡ (list_all f xs && list_all g xs)
list_all_both f g [] = refl
list_all_both f g (x ∷ xs) = ap (λ b. (f x && g x) && b) (list_all_both f g xs) ∙ crossed (f x) (g x) (list_all f xs) (list_all g xs)
  where
    crossed : (a b c d : Bool) → ((a && b) && (c && d)) ≡ ((a && c) && (b && d))
    crossed true true c d = refl
    crossed true false true d = refl
    crossed true false false d = refl
    crossed false b c d = refl

list_all_swap : {X Y : Type 0} (r : X → Y → Bool) (xs : List X) (ys : List Y)
    → list_all (λ x. list_all (r x) ys) xs ≡ list_all (λ y. list_all (λ x. r x y) xs) ys
list_all_swap r [] ys = sym (all_pass ys)
list_all_swap r (x ∷ xs) ys =
    ap (λ b. list_all (r x) ys && b) (list_all_swap r xs ys) ∙ sym (list_all_both (r x) (λ y. list_all (λ x. r x y) xs) ys)

list_all_same : {X : Type 0} (f g : X → Bool) (xs : List X) → ((x : X) → f x ≡ g x) → list_all f xs ≡ list_all g xs
list_all_same f g [] h = refl
list_all_same f g (x ∷ xs) h = ap (λ b. b && list_all f xs) (h x) ∙ ap (λ b. g x && b) (list_all_same f g xs h)

-- what is noted tells of all names before
pub noted-apart : (names whole starts : List (List ℕ)) (name : List ℕ) → AreNoted names whole starts
    → (is_none_of starts (lower name) && share_none whole (starts_of (lower name))) ≡ list_all (λ e. neither_begins e name) names
noted-apart names whole starts name noted =
    let forth = λ (e : List ℕ). is_none_of (starts_of (lower e)) (lower name) in
    let back = λ (e : List ℕ). is_none_of (starts_of (lower name)) (lower e) in
    sym (list_all_same (λ e. neither_begins e name) (λ e. forth e && back e) names
    (λ e. ap (λ b. b && not (starts_with bytes_eq (lower_identifiers name) (lower_identifiers e))) (begins-starts e name)
    ∙ ap (λ b. forth e && b) (begins-starts name e))
    ∙ list_all_both forth back names
    ∙ ap (λ b. b && list_all back names) (sym (noted.begun (lower name)))
    ∙ ap (λ b. is_none_of starts (lower name) && b) (list_all_swap (λ (e c : List ℕ). not (bytes_eq c (lower e))) names (starts_of (lower name))
    ∙ list_all_same (λ c. list_all (λ e. not (bytes_eq c (lower e))) names) (is_none_of whole) (starts_of (lower name))
    (λ c. list_all_same (λ e. not (bytes_eq c (lower e))) (λ e. not (bytes_eq (lower e) c)) names (λ e. ap not (bytes_eq-comm c (lower e)))
    ∙ sym (noted.in_full c))))

pub noted-none : AreNoted [] [] []
noted-none = record { in_full = λ text. refl; begun = λ text. refl }

-- one more name
pub noted-more : (names whole starts : List (List ℕ)) (more_whole more_starts : List (List ℕ)) (name : List ℕ) → AreNoted names whole starts
    → IsAdded (lower name ∷ []) whole more_whole → IsAdded (starts_of (lower name)) starts more_starts → AreNoted (names ++ name ∷ []) more_whole more_starts
noted-more names whole starts more_whole more_starts name noted one two = record {
  in_full = λ text.
      one text ∙ ap (λ b. b && (not (bytes_eq (lower name) text) && true)) (noted.in_full text)
      ∙ sym (list_all-append (λ e. not (bytes_eq (lower e) text)) names (name ∷ []));
  begun = λ text.
      two text ∙ ap (λ b. b && is_none_of (starts_of (lower name)) text) (noted.begun text)
      ∙ ap (λ b. list_all (λ e. is_none_of (starts_of (lower e)) text) names && b) (sym (and-true (is_none_of (starts_of (lower name)) text)))
      ∙ sym (list_all-append (λ e. is_none_of (starts_of (lower e)) text) names (name ∷ []));
}

-- a text that is noted once more, or is there already
pub added-one : (text : List ℕ) (old new : List (List ℕ)) (fresh : Bool)
    → fresh ≡ is_none_of old text → new ≡ cond fresh (old ++ text ∷ []) old → IsAdded (text ∷ []) old new
added-one text old new fresh answer noted = λ other. ⊎_elim (λ e. yes other e) (λ e. no other e) (cases_Bool fresh)
  where
    yes : (other : List ℕ) → fresh ≡ true → is_none_of new other ≡ (is_none_of old other && is_none_of (text ∷ []) other)
    yes other e = ap (λ texts. is_none_of texts other) (noted ∙ ap (λ b. cond b (old ++ text ∷ []) old) e)
        ∙ list_all-append (λ t. not (bytes_eq t other)) old (text ∷ [])

    there : (other : List ℕ) → is_none_of old text ≡ false → (b : Bool)
        → bytes_eq text other ≡ b → is_none_of old other ≡ (is_none_of old other && (not b && true))
    there other absent true same = rw (sym ((bytes_eq-Decides text other).0 same)) (rw absent refl)
    there other absent false same = keep (is_none_of old other)
      where
        keep : (b : Bool) → b ≡ (b && true)
        keep true = refl
        keep false = refl

    no : (other : List ℕ) → fresh ≡ false → is_none_of new other ≡ (is_none_of old other && is_none_of (text ∷ []) other)
    no other e =
        ap (λ texts. is_none_of texts other) (noted ∙ ap (λ b. cond b (old ++ text ∷ []) old) e)
        ∙ there other (sym answer ∙ e) (bytes_eq text other) refl

is_right-same : (right : Bool) (before : List WrittenSymbol) (s : WrittenSymbol) (names : List (List ℕ)) → names ≡ map (λ (e : WrittenSymbol). e.name) before
    → right ≡ (is_symbol_name s.name && list_all (λ e. neither_begins e s.name) names) → is_right_name before s ≡ right
is_right-same right before s names e answer =
    sym (answer ∙ ap (λ ns. is_symbol_name s.name && list_all (λ e. neither_begins e s.name) ns) e
    ∙ ap (λ b. is_symbol_name s.name && b) (list_all-map (λ e. neither_begins e s.name) (λ (e : WrittenSymbol). e.name) before))

names-viewed : (xs : List code.WrittenSymbol) → map name_view xs ≡ map (λ (e : WrittenSymbol). e.name) (map symbol_view xs)
names-viewed [] = refl
names-viewed (x ∷ xs) = ap (λ names. name_view x ∷ names) (names-viewed xs)

-- a symbol is right behind those whose names are noted
pub is_right-noted : (xs : List code.WrittenSymbol) (x : code.WrittenSymbol) (whole starts more_whole more_starts : List (List ℕ)) (right : Bool)
    → AreNoted (map name_view xs) whole starts → IsNextName (name_view x) whole starts more_whole more_starts right
    → is_right_name (map symbol_view xs) (symbol_view x) ≡ right
is_right-noted xs x whole starts more_whole more_starts right noted next =
    is_right-same right (map symbol_view xs) (symbol_view x) (map name_view xs) (names-viewed xs)
    (next.answer ∙ ap (λ b. is_symbol_name (name_view x) && b) (noted-apart (map name_view xs) whole starts (name_view x) noted))

pub noted-next : (names more_names whole starts more_whole more_starts : List (List ℕ)) (name : List ℕ) (right : Bool) → AreNoted names whole starts
    → IsNextName name whole starts more_whole more_starts right → right ≡ true → more_names ≡ names ++ name ∷ [] → AreNoted more_names more_whole more_starts
noted-next names more_names whole starts more_whole more_starts name right noted next is more =
    rw more (noted-more names whole starts more_whole more_starts name noted (next.in_full is) (next.begun is))
