-- A text parted at the first of a byte.
use Rattle.std.proofs.Common.{◌≡◌, ◌≢◌, ℕ, suc, ◌<◌, List, [], ◌∷◌, ◌++◌, length, get_or, Option, Some, None}
use Rattle.std.proofs.Common.{option_map, MatchOption, false, eqb, refl, sym, ap, ◌∙◌, arith, Bor, inl, inr}
use Rattle.std.proofs.lemmas.Bool.{eq-eqb, ne_eqb, eqb-true, cases_Bool}
use Rattle.cli_words.specs.Words.{parted, with_first}

-- no byte of a text is this one
abbrev pub IsFreeOf : ℕ → List ℕ → Type 0
IsFreeOf stop text = (k : ℕ) → k < length text → get_or text k 0 ≢ stop

pub parted-join : (stop : ℕ) (front rest : List ℕ) → IsFreeOf stop front → parted stop (front ++ stop ∷ rest) ≡ Some (front, rest)
unfolding parted
parted-join stop [] rest free = rw (eq-eqb stop stop refl) refl
parted-join stop (b ∷ bs) rest free =
    let other : eqb b stop ≡ false = ne_eqb b stop (free 0 (omega arith)) in
    rw (other, parted-join stop bs rest (λ k below. free (suc k) (omega arith))) refl

pub parted-free : (stop : ℕ) (text : List ℕ) → IsFreeOf stop text → parted stop text ≡ None
unfolding parted
parted-free stop [] free = refl
parted-free stop (b ∷ bs) free =
    let other : eqb b stop ≡ false = ne_eqb b stop (free 0 (omega arith)) in
    rw (other, parted-free stop bs (λ k below. free (suc k) (omega arith))) refl

more_first : (b stop : ℕ) (bs : List ℕ) (o : Option (List ℕ × List ℕ)) → MatchOption o (Unit {0}) (λ p. bs ≡ p.0 ++ stop ∷ p.1)
    → MatchOption (option_map (with_first b) o) (Unit {0}) (λ p. b ∷ bs ≡ p.0 ++ stop ∷ p.1)
more_first b stop bs None h = tt
more_first b stop bs (Some p) h = ap (λ text. b ∷ text) h

pub parted-whole : (stop : ℕ) (text : List ℕ) → MatchOption (parted stop text) (Unit {0}) (λ p. text ≡ p.0 ++ stop ∷ p.1)
unfolding parted
parted-whole stop [] = tt
parted-whole stop (b ∷ bs) = elim (cases_Bool (eqb b stop)) [
  | inl e ↦ rw e (ap (λ x. x ∷ bs) (eqb-true b stop e))
  | inr e ↦ rw e (more_first b stop bs (parted stop bs) (parted-whole stop bs))
]

pub parted-parts : (stop : ℕ) (text : List ℕ) (parts : List ℕ × List ℕ) → parted stop text ≡ Some parts → text ≡ parts.0 ++ stop ∷ parts.1
parted-parts stop text parts e = rw e at (parted-whole stop text)

-- `split_once` gives the parts
pub parted-from_split : (stop : ℕ) (text : List ℕ) (r : Option (Bor (List ℕ) × Bor (List ℕ)))
    → MatchOption r (IsFreeOf stop text) (λ x. (text ≡ x.0.now ++ (stop ∷ x.1.now)) × IsFreeOf stop x.0.now)
    → option_map (λ p. (p.0.now, p.1.now)) r ≡ parted stop text
parted-from_split stop text None free = sym (parted-free stop text free)
parted-from_split stop text (Some x) h = sym (ap (parted stop) h.0 ∙ parted-join stop x.0.now x.1.now h.1)
