-- One turn of a loop over the starts of a text.
use Rattle.std.proofs.Common.{◌≡◌, ℕ, ◌+◌, ◌≤◌, ◌<◌, Bool, true, false, ◌&&◌, not, List, [], ◌∷◌, ◌++◌, length}
use Rattle.std.proofs.Common.{get_or, take, drop, map, refl, ap, sym, ◌∙◌, ⊎_elim, add-one, append-nil}
use Rattle.std.proofs.Common.{append_assoc}
use Rattle.std.proofs.Math.Bool.{and_assoc, and-true}
use Rattle.std.proofs.Math.Seq.{take-suc}
use Rattle.std.proofs.lemmas.List.{drop_all, take_all}
use Rattle.std.specs.Prelude.{bytes_eq, Result, Ok, Err, OnOk, IfOk}
use Rattle.std.proofs.lemmas.Bool.{cases_Bool}
use Rattle.std.proofs.lemmas.List.Folds.{list_all-append}
use Rattle.name_paths.specs.Name.{is_full_stop}
use Rattle.description_rules.specs.NameStarts.{starts_of, start_at, is_none_of, each_behind, share_none, IsAdded}
use Rattle.description_rules.proofs.StructLemmas.{dropped}

abbrev all_behind : List ℕ → List (List ℕ) → List (List ℕ)
all_behind front texts = map (λ (t : List ℕ). front ++ t) texts

-- the starts of a text from the i-th byte on
abbrev pub starts_from : List ℕ → ℕ → List (List ℕ)
starts_from text i = all_behind (take i text) (starts_of (drop i text))

behind_behind : (front : List ℕ) (c : ℕ) (texts : List (List ℕ)) → all_behind front (each_behind c texts) ≡ all_behind (front ++ c ∷ []) texts
behind_behind front c [] = refl
behind_behind front c (t ∷ ts) =
    ap (λ u. u ∷ all_behind front (each_behind c ts)) (sym (append_assoc front (c ∷ []) t))
    ∙ ap (λ us. ((front ++ c ∷ []) ++ t) ∷ us) (behind_behind front c ts)

behind_nothing : (texts : List (List ℕ)) → all_behind [] texts ≡ texts
behind_nothing [] = refl
behind_nothing (t ∷ ts) = ap (λ us. t ∷ us) (behind_nothing ts)

pub starts_from-none : (text : List ℕ) → starts_of text ≡ starts_from text 0
starts_from-none text = sym (behind_nothing (starts_of text))

longer : (text : List ℕ) (i c : ℕ) → i < length text → c ≡ get_or text i c → take i text ++ c ∷ [] ≡ take (i + 1) text
longer text i c below is = sym (rw add-one (take-suc text i c below ∙ ap (λ d. take i text ++ d ∷ []) (sym is)))

starts_from-turn : (text : List ℕ) (i c : ℕ) → i < length text → c ≡ get_or text i c → starts_from text i ≡ start_at text i c ++ starts_from text (i + 1)
starts_from-turn text i c below is =
    let front = take i text in
    let rest = starts_of (drop (i + 1) text) in
    let behind : all_behind front (each_behind c rest) ≡ starts_from text (i + 1) =
    behind_behind front c rest ∙ ap (λ f. all_behind f rest) (longer text i c below is) in
    ap (λ ys. all_behind front (starts_of ys)) (dropped text i c below is)
    ∙ ⊎_elim (λ e. rw e (ap (λ u. u ∷ all_behind front (each_behind c rest)) (append-nil front) ∙ ap (λ us. front ∷ us) behind))
    (λ e. rw e behind) (cases_Bool (is_full_stop c))

-- no byte is left
pub starts_from-end : (text : List ℕ) (i : ℕ) → length text ≤ i → starts_from text i ≡ text ∷ []
starts_from-end text i end =
    ap (λ rest. all_behind (take i text) (starts_of rest)) (drop_all i text end)
    ∙ ap (λ u. u ∷ []) (append-nil (take i text) ∙ take_all i text end)

-- a start that is new
pub share_from-new : (texts : List (List ℕ)) (text : List ℕ) (i c : ℕ) (none : Bool)
    → i < length text → c ≡ get_or text i c → share_none texts (start_at text i c) ≡ true
    → none ≡ share_none texts (starts_from text i) → none ≡ share_none texts (starts_from text (i + 1))
share_from-new texts text i c none below is new so_far =
    so_far ∙ ap (share_none texts) (starts_from-turn text i c below is) ∙ list_all-append (is_none_of texts) (start_at text i c) (starts_from text (i + 1))
    ∙ ap (λ b. b && share_none texts (starts_from text (i + 1))) new

-- a start that is there
pub share_from-old : (texts : List (List ℕ)) (text : List ℕ) (i c : ℕ) (none : Bool)
    → i < length text → c ≡ get_or text i c → share_none texts (start_at text i c) ≡ false
    → none ≡ share_none texts (starts_from text i) → none ≡ false
share_from-old texts text i c none below is old so_far =
    so_far ∙ ap (share_none texts) (starts_from-turn text i c below is) ∙ list_all-append (is_none_of texts) (start_at text i c) (starts_from text (i + 1))
    ∙ ap (λ b. b && share_none texts (starts_from text (i + 1))) old

pub share_from-end : (texts : List (List ℕ)) (text : List ℕ) (i : ℕ) (none : Bool)
    → length text ≤ i → none ≡ share_none texts (starts_from text i) → none ≡ is_none_of texts text
share_from-end texts text i none end so_far = so_far ∙ ap (share_none texts) (starts_from-end text i end) ∙ and-true (is_none_of texts text)

-- the starts from the i-th byte on are still to be added
abbrev pub IsLeft : List (List ℕ) → List (List ℕ) → List ℕ → ℕ → Type 0
IsLeft old now text i = (other : List ℕ)
    → (is_none_of old other && is_none_of (starts_of text) other) ≡ (is_none_of now other && is_none_of (starts_from text i) other)

pub left-none : (old : List (List ℕ)) (text : List ℕ) → IsLeft old old text 0
left-none old text = λ other. ap (λ texts. is_none_of old other && is_none_of texts other) (starts_from-none text)

pub left-more : (old now new : List (List ℕ)) (text : List ℕ) (i c : ℕ) → i < length text
    → c ≡ get_or text i c → IsAdded (start_at text i c) now new → IsLeft old now text i
    → IsLeft old new text (i + 1)
left-more old now new text i c below is added left = λ other.
    let later = is_none_of (starts_from text (i + 1)) other in
    left other ∙ ap (λ texts. is_none_of now other && is_none_of texts other) (starts_from-turn text i c below is)
    ∙ ap (λ b. is_none_of now other && b) (list_all-append (λ e. not (bytes_eq e other)) (start_at text i c) (starts_from text (i + 1)))
    ∙ sym (and_assoc (is_none_of now other) (is_none_of (start_at text i c) other) later) ∙ ap (λ b. b && later) (sym (added other))

pub left-end : (old now new : List (List ℕ)) (text : List ℕ) (i : ℕ) → length text ≤ i
    → IsAdded (text ∷ []) now new → IsLeft old now text i → IsAdded (starts_of text) old new
left-end old now new text i end added left = λ other.
    added other ∙ ap (λ texts. is_none_of now other && is_none_of texts other) (sym (starts_from-end text i end)) ∙ sym (left other)

-- what follows from a clause about success
pub on_ok : {T E : Type 0} (P Q : Type 0) (r : Result T E) → (P → Q) → OnOk r P → OnOk r Q
on_ok P Q (Ok x) f h = f h
on_ok P Q (Err e) f h = h

pub if_ok : {T E : Type 0} (P Q : T → Type 0) (r : Result T E) → ((x : T) → P x → Q x) → IfOk r P → IfOk r Q
if_ok P Q (Ok x) f h = f x h
if_ok P Q (Err e) f h = h
