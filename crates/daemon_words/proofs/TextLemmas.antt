-- Joined texts, one more at a time; and answers that say less of what was done.
use Rattle.std.proofs.Common.{◌≡◌, ℕ, ◌+◌, ◌<◌, List, [], length, drop, get_or, sym, ap, ◌∙◌}
use Rattle.std.specs.Prelude.{Result, Ok, Err, OnOk, IfOk, Option, Some, None, IfSome}
use Rattle.std.proofs.lemmas.List.{at_drop_more}
use Rattle.daemon_words.specs.Setups.{line_with, line_with_all, joined}

pub on_ok : {A E P Q : Type 0} (r : Result A E) → (P → Q) → OnOk r P → OnOk r Q
on_ok (Ok a) f p = f p
on_ok (Err e) f p = tt

pub if_ok : {A E : Type 0} (r : Result A E) (P Q : A → Type 0) → ((a : A) → P a → Q a) → IfOk r P → IfOk r Q
if_ok (Ok a) P Q f p = f a p
if_ok (Err e) P Q f p = tt

pub if_some : {A : Type 0} (o : Option A) (P Q : A → Type 0) → ((a : A) → P a → Q a) → IfSome o P → IfSome o Q
if_some (Some a) P Q f p = f a p
if_some None P Q f p = tt

-- the line with one more text, and with those that are left
pub joined_next : (texts : List (List ℕ)) (i : ℕ) (line new text : List ℕ) → i < length texts → get_or texts i text ≡ text → new ≡ line_with line text
    → line_with_all line (drop i texts) ≡ line_with_all [] texts → line_with_all new (drop (i + 1) texts) ≡ line_with_all [] texts
unfolding line_with_all
joined_next texts i line new text less at is before =
    ap (λ l. line_with_all l (drop (i + 1) texts)) (is ∙ ap (line_with line) (sym at))
    ∙ (sym (at_drop_more (line_with_all line) texts i text less) ∙ before)

-- the line with none left
pub joined_end : (texts left : List (List ℕ)) (line : List ℕ) → left ≡ [] → line_with_all line left ≡ line_with_all [] texts → line ≡ joined texts
unfolding line_with_all
joined_end texts left line none before = sym (ap (line_with_all line) none) ∙ before
