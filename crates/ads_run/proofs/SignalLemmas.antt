-- What a run says over signals, of the waves that they have.
use Rattle.std.proofs.Common.{◌≡◌, ◌++◌, ◌∷◌, [], map, ℕ, List, ap, ◌∙◌, subst}
use Rattle.ads_outside.specs.FilesState.{FilesState}
use Rattle.signals.specs.Wave.{Wave}
use Rattle.run_tasks.specs.declared.status.Status.{Status}
use Rattle.ads_run.specs.Program.{RunsWith}
use Rattle.ads_run.specs.Uses.{Uses}

-- three signals one after another have these waves
three_waves : {X : Type 0} (f : X → Wave) (none one two three : List X) (a b c : X) (u v w : Wave) (all : List Wave) → none ≡ [] → one ≡ none ++ a ∷ []
    → two ≡ one ++ b ∷ []
    → three ≡ two ++ c ∷ [] → f a ≡ u → f b ≡ v → f c ≡ w → u ∷ v ∷ w ∷ [] ≡ all → map f three ≡ all
three_waves f none one two three a b c u v w all e0 e1 e2 e3 p q r is =
    rw (e3, e2, e1, e0) (ap (λ x. x ∷ f b ∷ f c ∷ []) p ∙ (ap (λ x. u ∷ x ∷ f c ∷ []) q ∙ (ap (λ x. u ∷ v ∷ x ∷ []) r ∙ is)))

pub three_signals : {X A B C : Type 0} (f : X → Wave) (none one two three : List X) (a b c : X) (u : A → Wave) (v : B → Wave) (w : C → Wave)
    (x x' : A) (y y' : B) (z z' : C) (all : List Wave) → u x ∷ v y ∷ w z ∷ [] ≡ all → none ≡ [] → one ≡ none ++ a ∷ [] → two ≡ one ++ b ∷ []
    → three ≡ two ++ c ∷ []
    → x' ≡ x → y' ≡ y → z' ≡ z → f a ≡ u x' → f b ≡ v y' → f c ≡ w z' → map f three ≡ all
three_signals f none one two three a b c u v w x x' y y' z z' all is e0 e1 e2 e3 sx sy sz p q r =
    three_waves f none one two three a b c (u x) (v y) (w z) all e0 e1 e2 e3 (p ∙ ap u sx) (q ∙ ap v sy) (r ∙ ap w sz) is

-- the same run with the same waves and words
pub runs_same : {O : Type 0} (waves others : List Wave) (words texts : List (List ℕ)) (s : Status) (files files_new : FilesState) (u : Uses O)
    → waves ≡ others → words ≡ texts
    → RunsWith waves words s files files_new u → RunsWith others texts s files files_new u
runs_same waves others words texts s files files_new u is are runs =
    subst (λ t. RunsWith others t s files files_new u) are (subst (λ w. RunsWith w words s files files_new u) is runs)
