-- The bytes of hex words, one word after another.
use Rattle.std.proofs.Common.{◌≡◌, ℕ, List, ◌∷◌, ◌++◌, Option, Some, None, refl, sym, ap, ◌∙◌, append_assoc, append-nil}
use Rattle.std.specs.Prelude.{IsSomeAnd, true, false}
use Rattle.spec_machine.specs.ScriptLines.{words_of}
use Rattle.replay_script.specs.Lines.{words_behind, AppendsWord}
use Rattle.spec_machine.specs.ScriptWords.{behind, bytes_of_word, bytes_of_words}

-- bytes behind bytes
pub behind-behind : (old first : List ℕ) (rest : Option (List ℕ)) → behind old (behind first rest) ≡ behind (old ++ first) rest
behind-behind old first None = refl
behind-behind old first (Some bytes) = ap (λ (bs : List ℕ). Some bs) (sym (append_assoc old first bytes))

pub bytes_of_words-word : (old word bytes : List ℕ) (words : List (List ℕ)) → bytes_of_word word ≡ Some bytes
    → behind old (bytes_of_words (word ∷ words)) ≡ behind (old ++ bytes) (bytes_of_words words)
unfolding bytes_of_words
bytes_of_words-word old word bytes words e = rw e (behind-behind old bytes (bytes_of_words words))

pub bytes_of_words-none : (old word : List ℕ) (words : List (List ℕ)) → bytes_of_word word ≡ None
    → behind old (bytes_of_words (word ∷ words)) ≡ None
unfolding bytes_of_words
bytes_of_words-none old word words e = rw e refl

appended : (old new word : List ℕ) (words : List (List ℕ)) (o : Option (List ℕ)) → bytes_of_word word ≡ o
    → IsSomeAnd o (λ bytes. new ≡ old ++ bytes) → behind old (bytes_of_words (word ∷ words)) ≡ behind new (bytes_of_words words)
appended old new word words None e h = absurd h
appended old new word words (Some bytes) e h =
    bytes_of_words-word old word bytes words e ∙ ap (λ bs. behind bs (bytes_of_words words)) (sym h)

-- one more word was read: all is what all words write, and the word stands first in a text
pub bytes_of_words-more : (all : Option (List ℕ)) (old new word text : List ℕ) (rest others : Option (List ℕ))
    → all ≡ behind old (bytes_of_words (words_behind rest)) → rest ≡ Some text → words_of text ≡ word ∷ words_behind others
    → AppendsWord true old new word → all ≡ behind new (bytes_of_words (words_behind others))
bytes_of_words-more all old new word text rest others so_far is words appends =
    let there = so_far ∙ (ap (λ r. behind old (bytes_of_words (words_behind r))) is ∙ ap (λ ws. behind old (bytes_of_words ws)) words) in
    there ∙ appended old new word (words_behind others) (bytes_of_word word) refl appends

-- a word that is no hex word
pub bytes_of_words-refused : (all : Option (List ℕ)) (old new word text : List ℕ) (rest others : Option (List ℕ))
    → all ≡ behind old (bytes_of_words (words_behind rest)) → rest ≡ Some text → words_of text ≡ word ∷ words_behind others
    → AppendsWord false old new word → None ≡ all
bytes_of_words-refused all old new word text rest others so_far is words appends =
    let there = so_far ∙ (ap (λ r. behind old (bytes_of_words (words_behind r))) is ∙ ap (λ ws. behind old (bytes_of_words ws)) words) in
    sym (there ∙ bytes_of_words-none old word (words_behind others) appends)

-- no text is left
pub bytes_of_words-end : (all : Option (List ℕ)) (old : List ℕ) (rest : Option (List ℕ))
    → all ≡ behind old (bytes_of_words (words_behind rest)) → rest ≡ None → Some old ≡ all
unfolding bytes_of_words
bytes_of_words-end all old rest so_far is =
    sym (so_far ∙ (ap (λ r. behind old (bytes_of_words (words_behind r))) is ∙ ap (λ (bs : List ℕ). Some bs) (append-nil old)))
