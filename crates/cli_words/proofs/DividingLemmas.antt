-- How a division goes on behind one word.
use Rattle.std.proofs.Common.{◌≡◌, ℕ, List, [], ◌∷◌, Option, Some, None, option_map, refl, append_assoc, append-nil, false, true}
use Rattle.cli_words.specs.declared.division.Division.{Division}
use Rattle.cli_words.specs.declared.division.Kind.TheVariants.{EndOfOptions, Plain, Joined, Named}
use Rattle.cli_words.specs.Words.{begins_with_dash, kind_of, divided, with_option, with_positional}
use Rattle.cli_words.specs.Dividing.{joined, finished, finished_by, with_last_option}

option_first : (d : Division) (name value : List ℕ) (o : Option Division)
    → option_map (joined d) (option_map (with_option name value) o) ≡ option_map (joined (with_last_option d name value)) o
option_first d name value None = refl
option_first d name value (Some later) = rw append_assoc refl

positional_first : (d : Division) (word : List ℕ) (o : Option Division)
    → option_map (joined d) (option_map (with_positional word) o) ≡ option_map (joined (finished_by d (word ∷ []))) o
positional_first d word None = refl
positional_first d word (Some later) = rw append_assoc refl

pub finished-value : (d : Division) (name value : List ℕ) (words : List (List ℕ)) → begins_with_dash value ≡ false
    → finished d (Some name) (value ∷ words) ≡ finished (with_last_option d name value) None words
unfolding finished divided
finished-value d name value words e = rw e (option_first d name value (divided None words))

pub finished-dash : (d : Division) (name value : List ℕ) (words : List (List ℕ)) → begins_with_dash value ≡ true → finished d (Some name) (value ∷ words) ≡ None
unfolding finished divided
finished-dash d name value words e = rw e refl

pub finished-plain : (d : Division) (word : List ℕ) (words : List (List ℕ)) → kind_of word ≡ Plain
    → finished d None (word ∷ words) ≡ finished (finished_by d (word ∷ [])) None words
unfolding finished divided
finished-plain d word words e = rw (e, divided) (positional_first d word (divided None words))

pub finished-joined : (d : Division) (word name value : List ℕ) (words : List (List ℕ))
    → kind_of word ≡ Joined name value → finished d None (word ∷ words) ≡ finished (with_last_option d name value) None words
unfolding finished divided
finished-joined d word name value words e = rw (e, divided) (option_first d name value (divided None words))

pub finished-named : (d : Division) (word : List ℕ) (words : List (List ℕ))
    → kind_of word ≡ Named → finished d None (word ∷ words) ≡ finished d (Some word) words
unfolding finished divided
finished-named d word words e = rw (e, divided) refl

pub finished-end : (d : Division) (word : List ℕ) (words : List (List ℕ))
    → kind_of word ≡ EndOfOptions → finished d None (word ∷ words) ≡ Some (finished_by d words)
unfolding finished divided
finished-end d word words e = rw (e, divided) (rw append-nil refl)

-- nothing is divided yet
pub finished-fresh : (words : List (List ℕ)) → finished (record { positional = []; options = [] }) None words ≡ divided None words
unfolding finished
finished-fresh words = fresh (divided None words)
  where
    fresh : (o : Option Division) → option_map (joined (record { positional = []; options = [] })) o ≡ o
    fresh None = refl
    fresh (Some d) = refl

-- no word is left
pub finished-none : (d : Division) → finished d None [] ≡ Some d
unfolding finished divided
finished-none d = rw (append-nil, append-nil) refl

pub finished-pending : (d : Division) (name : List ℕ) → finished d (Some name) [] ≡ None
unfolding finished divided
finished-pending d name = refl
