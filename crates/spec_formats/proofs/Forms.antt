-- A payload that is read by its length.
use Rattle.std.proofs.Common.{◌≡◌, ℕ, Bool, true, false, cond, eqb, List, [], ◌∷◌, ◌++◌, length, Some, None, refl, ap, ◌∙◌, arith}
use Rattle.std.proofs.lemmas.List.{append-nil}
use Rattle.std.proofs.lemmas.Bool.{eq-eqb, eqb-true}
use Rattle.spec_formats.specs.Numbers.{at_length}

pub at_length-same : {X : Type 0} (len : ℕ) (bytes : List ℕ) (value : X) → length bytes ≡ len
    → at_length len bytes value ≡ Some value
at_length-same len bytes value e = rw (eq-eqb (length bytes) len e) refl

chosen : {X : Type 0} (test : Bool) (value other : X) → cond test (Some value) None ≡ Some other → (test ≡ true) × (value ≡ other)
chosen true value other e = (refl, cc)
chosen false value other e = absurd cc

-- what was read had this length, and is the value
pub at_length-some : {X : Type 0} (len : ℕ) (bytes : List ℕ) (value other : X) → at_length len bytes value ≡ Some other
    → (length bytes ≡ len) × (value ≡ other)
at_length-some len bytes value other e =
    let c = chosen (eqb (length bytes) len) value other e in (eqb-true (length bytes) len c.0, c.1)

pub empty : (bytes : List ℕ) → length bytes ≡ 0 → bytes ≡ []
empty [] e = refl
empty (b ∷ bytes) e = absurd (omega arith)

-- a payload of the right length is read as the request or reply whose fields stand in it
pub at_length-is : {X : Type 0} (len : ℕ) (bytes : List ℕ) (value wanted : X) → length bytes ≡ len → value ≡ wanted
    → at_length len bytes value ≡ Some wanted
at_length-is len bytes value wanted e same = at_length-same len bytes value e ∙ ap Some same

pub no_reserved : (fields reserved : List ℕ) → length reserved ≡ 0 → fields ++ reserved ≡ fields
no_reserved fields reserved e = rw (empty reserved e) (append-nil fields)
