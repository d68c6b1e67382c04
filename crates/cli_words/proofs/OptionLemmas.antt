-- Options by their names.
use Rattle.std.proofs.Common.{◌≡◌, ℕ, ◌+◌, ◌<◌, List, [], ◌∷◌, length, Some, None, true, false, get_or, drop, refl, sym, ap, ◌∙◌, bytes_eq, add-one, drop-cons}
use Rattle.cli_words.specs.declared.division.OptionWord.{OptionWord}
use Rattle.std.proofs.lemmas.List.{at_drop_more}
use Rattle.cli_words.specs.Words.{value_of}
use Rattle.cli_words.specs.Forms.{may_stand, are_among}

pub value_of-here : (name : List ℕ) (options : List OptionWord) (i : ℕ) (o : OptionWord) → i < length options
    → o ≡ get_or options i o → bytes_eq o.name name ≡ true → value_of name (drop i options) ≡ Some o.value
unfolding value_of
value_of-here name options i o below is same = rw (drop-cons options i o, ← is, same) refl

pub value_of-later : (name : List ℕ) (options : List OptionWord) (i : ℕ) (o : OptionWord) → i < length options
    → o ≡ get_or options i o → bytes_eq o.name name ≡ false → value_of name (drop i options) ≡ value_of name (drop (i + 1) options)
unfolding value_of
value_of-later name options i o below is other = rw (add-one, drop-cons options i o, ← is, other) refl

pub value_of-end : (name : List ℕ) (options : List OptionWord) (i : ℕ) → drop i options ≡ [] → value_of name (drop i options) ≡ None
unfolding value_of
value_of-end name options i e = rw e refl

pub are_among-off : (allowed : List (List ℕ)) (options : List OptionWord) (i : ℕ) (o : OptionWord) → i < length options
    → o ≡ get_or options i o → may_stand allowed o.name (drop (i + 1) options) ≡ false → are_among allowed (drop i options) ≡ false
unfolding are_among
are_among-off allowed options i o below is off =
    at_drop_more (are_among allowed) options i o below ∙ ap (λ x. are_among allowed (x ∷ drop (i + 1) options)) (sym is) ∙ rw off refl

pub are_among-more : (allowed : List (List ℕ)) (options : List OptionWord) (i : ℕ) (o : OptionWord) → i < length options
    → o ≡ get_or options i o → may_stand allowed o.name (drop (i + 1) options) ≡ true
    → are_among allowed (drop i options) ≡ are_among allowed (drop (i + 1) options)
unfolding are_among
are_among-more allowed options i o below is stands =
    at_drop_more (are_among allowed) options i o below ∙ ap (λ x. are_among allowed (x ∷ drop (i + 1) options)) (sym is) ∙ rw stands refl

pub are_among-end : (allowed : List (List ℕ)) (options : List OptionWord) → options ≡ [] → are_among allowed options ≡ true
unfolding are_among
are_among-end allowed options e = rw e refl
