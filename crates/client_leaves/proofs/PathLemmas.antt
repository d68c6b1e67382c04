-- The paths of an array's elements.
use Rattle.std.proofs.Common.{◌≡◌, ℕ, suc, ◌+◌, ◌-◌, ◌*◌, ◌<◌, ◌≤◌, List, [], ◌∷◌, ◌++◌, map, length, take}
use Rattle.std.proofs.Common.{drop, get_or, refl, sym, ap, ◌∙◌, append_assoc, arith}
use Rattle.std.specs.Prelude.{flat_map, pos, ◌+ℤ◌}
use Rattle.std.specs.List.{range_with_len}
use Rattle.std.proofs.Math.Nat.{suc-mul, one-le-mul}
use Rattle.std.proofs.lemmas.List.{length-append, append-nil, map-append, take_all}
use Rattle.std.proofs.lemmas.List.FromFn.{length-map-range_with_len}
use Rattle.spec_plant.specs.Spelling.{integer_text}
use Rattle.spec_plant.specs.TypeTexts.{Ends}
use Rattle.spec_client.specs.Leaves.{indexes_in, indexes_of, element_path}
use Rattle.spec_client.specs.LeafTypes.{elements_of, element_count}
use Rattle.client_leaves.specs.Paths.{paths_from}

-- each index behind a separator, which is a comma from the second on
abbrev joined_behind : ℕ → List (List ℕ) → List ℕ
joined_behind separator [] = []
joined_behind separator (t ∷ ts) = (separator ∷ t) ++ joined_behind 44 ts

comma_is : (ts : List (List ℕ)) → joined_behind 44 ts ≡ flat_map (λ u. 44 ∷ u) ts
comma_is [] = refl
comma_is (t ∷ ts) = ap (λ r. (44 ∷ t) ++ r) (comma_is ts)

-- a path behind which indexes and a bracket follow
abbrev path_with : List ℕ → List (List ℕ) → List ℕ
path_with before indexes = before ++ (joined_behind 44 indexes ++ 93 ∷ [])

same_row : (F : List (List ℕ) → List ℕ) (before : List ℕ) (t : List ℕ) → ((indexes : List (List ℕ)) → F (t ∷ indexes) ≡ path_with before indexes)
    → (all : List (List (List ℕ))) → map (path_with before) all ≡ map F (map (λ others. t ∷ others) all)
same_row F before t same [] = refl
same_row F before t same (indexes ∷ all) =
    ap (λ p. p ∷ map (path_with before) all) (sym (same indexes)) ∙ ap (λ ps. F (t ∷ indexes) ∷ ps) (same_row F before t same all)

rows : (F : List (List ℕ) → List ℕ) (separator : ℕ) (before : List ℕ) (es : List Ends)
    → ((b : List ℕ) → paths_from 44 b es ≡ map (path_with b) (indexes_of es))
    → ((t : List ℕ) (indexes : List (List ℕ)) → F (t ∷ indexes) ≡ path_with (before ++ separator ∷ t) indexes)
    → (ts : List (List ℕ)) → flat_map (λ index. paths_from 44 (before ++ separator ∷ index) es) ts
    ≡ map F (flat_map (λ index. map (λ others. index ∷ others) (indexes_of es)) ts)
rows F separator before es behind same [] = refl
rows F separator before es behind same (t ∷ ts) =
    let first : paths_from 44 (before ++ separator ∷ t) es ≡ map F (map (λ others. t ∷ others) (indexes_of es)) =
    behind (before ++ separator ∷ t) ∙ same_row F (before ++ separator ∷ t) t (same t) (indexes_of es) in
    let others = flat_map (λ index. map (λ others. index ∷ others) (indexes_of es)) ts in
    ap (λ ps. ps ++ flat_map (λ index. paths_from 44 (before ++ separator ∷ index) es) ts) first
    ∙ (ap (λ ps. map F (map (λ others. t ∷ others) (indexes_of es)) ++ ps) (rows F separator before es behind same ts)
    ∙ sym (map-append F (map (λ others. t ∷ others) (indexes_of es)) others))

paths_behind : (before : List ℕ) (es : List Ends) → paths_from 44 before es ≡ map (path_with before) (indexes_of es)
paths_behind before [] = refl
paths_behind before (e ∷ es) =
    rows (path_with before) 44 before es (λ b. paths_behind b es) (λ t indexes. simp append_assoc refl) (indexes_in e)

-- they are the paths of the elements
pub paths_are : (path : List ℕ) (e : Ends) (es : List Ends) → paths_from 91 path (e ∷ es) ≡ map (element_path path) (indexes_of (e ∷ es))
paths_are path e es =
    rows (element_path path) 91 path es (λ b. paths_behind b es) (λ t indexes. rw (comma_is indexes) (simp append_assoc refl)) (indexes_in e)

length_rows : {X : Type 0} (f : List ℕ → List X) (n : ℕ) → ((t : List ℕ) → length (f t) ≡ n) → (ts : List (List ℕ)) → length (flat_map f ts) ≡ length ts * n
length_rows f n same [] = omega arith
length_rows f n same (t ∷ ts) =
    length-append (f t) (flat_map f ts) ∙ omega (arith, same t, length_rows f n same ts, suc-mul (length ts) n)

-- there are as many as elements
pub paths_count : (separator : ℕ) (before : List ℕ) (es : List Ends) → length (paths_from separator before es) ≡ element_count es
paths_count separator before [] = refl
paths_count separator before (e ∷ es) =
    length_rows (λ index. paths_from 44 (before ++ separator ∷ index) es) (element_count es) (λ t. paths_count 44 (before ++ separator ∷ t) es) (indexes_in e)
    ∙ ap (λ (n : ℕ). n * element_count es) (length-map-range_with_len (λ k. integer_text (e.low +ℤ pos k)) 0 (elements_of e))

pub some_elements : (es : List Ends) → 1 ≤ element_count es
some_elements [] = omega arith
some_elements (e ∷ es) = one-le-mul {a = elements_of e} {b = element_count es} (omega arith) (some_elements es)

-- the paths behind the k-th index on, of n
abbrev pub paths_left : ℕ → List ℕ → Ends → List Ends → ℕ → ℕ → List (List ℕ)
paths_left separator before e es k n =
    flat_map (λ index. paths_from 44 (before ++ separator ∷ index) es) (map (λ j. integer_text (e.low +ℤ pos j)) (range_with_len k (n - k)))

-- the paths so far, and those that are left, are all
pub record PathsSoFar (separator : ℕ) (before : List ℕ) (e : Ends) (es : List Ends) (k n : ℕ) (old new : List (List ℕ)) : Type 0 where
  pub count : n ≡ elements_of e
  pub same : new ++ paths_left separator before e es k n ≡ old ++ paths_from separator before (e ∷ es)

pub paths_begin : (separator : ℕ) (before : List ℕ) (e : Ends) (es : List Ends) (n : ℕ) (old : List (List ℕ)) → n ≡ elements_of e
    → PathsSoFar separator before e es 0 n old old
paths_begin separator before e es n old is =
    let all : n - 0 ≡ elements_of e = omega (arith, is) in
    record { count = is; same = rw all refl }

pub paths_more : (separator : ℕ) (before : List ℕ) (e : Ends) (es : List Ends) (k n : ℕ) (old now new : List (List ℕ)) (path : List ℕ) → k < n
    → PathsSoFar separator before e es k n old now → path ≡ before ++ separator ∷ integer_text (e.low +ℤ pos k)
    → new ≡ now ++ paths_from 44 path es → PathsSoFar separator before e es (k + 1) n old new
paths_more separator before e es k n old now new path less so_far is put =
    let m : n - k ≡ suc (n - (k + 1)) = omega arith in
    let left : now ++ (paths_from 44 (before ++ separator ∷ integer_text (e.low +ℤ pos k)) es ++ paths_left separator before e es (k + 1) n)
    ≡ old ++ paths_from separator before (e ∷ es) = rw m at so_far.same in
    record {
      count = so_far.count;
      same = rw (put, is) (append_assoc now (paths_from 44 (before ++ separator ∷ integer_text (e.low +ℤ pos k)) es)
          (paths_left separator before e es (k + 1) n) ∙ left);
    }

pub paths_end : (separator : ℕ) (before : List ℕ) (e : Ends) (es : List Ends) (k n : ℕ) (old new : List (List ℕ)) → n ≤ k
    → PathsSoFar separator before e es k n old new → new ≡ old ++ paths_from separator before (e ∷ es)
paths_end separator before e es k n old new all so_far =
    let m : n - k ≡ 0 = omega arith in
    let left : new ++ [] ≡ old ++ paths_from separator before (e ∷ es) = rw m at so_far.same in
    sym (append-nil new) ∙ left

-- a list as its first item and the others
pub first_and_others : {X : Type 0} (xs : List X) (d : X) → 0 < length xs → xs ≡ get_or xs 0 d ∷ take (length xs - 1) (drop 1 xs)
first_and_others [] d some = absurd (omega arith)
first_and_others (x ∷ xs) d some =
    let n : suc (length xs) - 1 ≡ length xs = omega arith in
    rw n (ap (λ l. x ∷ l) (sym (take_all (length xs) xs (omega arith))))
