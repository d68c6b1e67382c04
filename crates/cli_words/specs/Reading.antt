-- What a reader of words answers: the value, or that the words are off the grammar.
use Rattle.std.specs.Prelude.{◌≡◌, Option, Some, None, Result, Ok, Err}
use Rattle.cli_words.specs.declared.refusal.Refusal.{Refusal}
use Rattle.cli_words.specs.declared.refusal.Refusal.TheVariants as refusal

-- one reading after another, as long as each gives a value
infixl 10 ◌>>=◌
abbrev pub ◌>>=◌ : {A B : Type 0} → Option A → (A → Option B) → Option B
(Some x) >>= f = f x
None >>= f = None

-- the answer of a call that refuses: nothing is read, or memory was wanting
abbrev pub Refuses : {A : Type 0} → Refusal → Option A → Type 0
Refuses refusal.OffGrammar reading = reading ≡ None
Refuses refusal.Memory reading = Unit {0}

-- a call answers what is read, unless memory was wanting
abbrev pub Reads : {A : Type 0} → Result A Refusal → Option A → Type 0
Reads (Ok x) reading = reading ≡ Some x
Reads (Err e) reading = Refuses e reading
