-- Words, one more at a time.
use Rattle.std.proofs.Common.{◌≡◌, ℕ, ◌+◌, ◌<◌, List, [], ◌∷◌, ◌++◌, length, map, take, get_or, refl, subst, sym, ap, ◌∙◌}
use Rattle.std.proofs.lemmas.List.{take_more, map-append}
use Rattle.daemon_words.specs.Reading.{SoFar, PutsWord, PutsWords}

puts_more : (words : List (List ℕ)) (word : List ℕ) (old mid new : SoFar) → PutsWords words old mid → PutsWord word mid new
    → PutsWords (words ++ word ∷ []) old new
unfolding PutsWords
puts_more [] word old mid new puts one = (new, subst (λ m. PutsWord word m new) puts one, refl)
puts_more (first ∷ words) word old mid new puts one = (puts.0, puts.1, puts_more words word puts.0 mid new puts.2 one)

-- the words before the next one, and that one
pub puts_next : {X : Type 0} (text : X → List ℕ) (words : List X) (i : ℕ) (word : X) (old mid new : SoFar) → i < length words
    → PutsWords (map text (take i words)) old mid → PutsWord (text (get_or words i word)) mid new
    → PutsWords (map text (take (i + 1) words)) old new
puts_next text words i word old mid new less puts one =
    let more : map text (take (i + 1) words) ≡ map text (take i words) ++ text (get_or words i word) ∷ [] =
    ap (map text) (take_more words i word less) ∙ map-append text (take i words) (get_or words i word ∷ []) in
    subst (λ ws. PutsWords ws old new) (sym more) (puts_more (map text (take i words)) (text (get_or words i word)) old mid new puts one)
