-- What acts do to two memories that agree on what the acts read, and to one outside of what they write.
use Rattle.std.proofs.Common.{◌≡◌, ℕ, List, [], ◌∷◌, ◌++◌, map, refl, ap}
use Rattle.std.specs.Prelude.{unwrap_or, ◌^◌, ◌/◌, ◌%◌}
use Rattle.spec_plant.specs.World.{ByteName, Block}
use Rattle.spec_formats.specs.Codes.{no_error}
use Rattle.spec_machine.specs.Access.{Addressed, WholeByte, OneBit, addressed_name, value_at, values_at, Put, byte_after, memory_after_put, memory_after_puts}
use Rattle.spec_machine.specs.Acts.{Act, Refusal, Allowed, Outcome, outcome_of, outcomes_of, memory_after}
use Rattle.spec_machine.specs.Acts.{memory_after_acts, added_reads, reads_of_act, writes_of_act, reads_of_acts}
use Rattle.spec_machine.specs.Acts.{writes_of_acts}
pub use Rattle.spec_laws.specs.Soundness.{Each}
use Rattle.spec_laws.proofs.Memory.{Agree, with_byte-agree, with_byte-outside}

pub each_left : {X : Type 0} (P : X → Type 0) (xs ys : List X) → Each P (xs ++ ys) → Each P xs
each_left P [] ys e = tt
each_left P (x ∷ xs) ys e = (e.0, each_left P xs ys (e.1))

pub each_right : {X : Type 0} (P : X → Type 0) (xs ys : List X) → Each P (xs ++ ys) → Each P ys
each_right P [] ys e = e
each_right P (x ∷ xs) ys e = each_right P xs ys (e.1)

pub each_both : {X : Type 0} (P : X → Type 0) (xs ys : List X) → Each P xs → Each P ys → Each P (xs ++ ys)
each_both P [] ys e f = f
each_both P (x ∷ xs) ys e f = (e.0, each_both P xs ys (e.1) f)

abbrev pub Not : (ByteName → Type 0) → ByteName → Type 0
Not R n = R n → ⊥

abbrev pub put_name : Put → ByteName
put_name p = addressed_name p.place

value-agree : (R : ByteName → Type 0) (m w : List Block) (a : Addressed) → R (addressed_name a) → Agree R m w → value_at m a ≡ value_at w a
value-agree R m w (WholeByte n) i g = ap (λ o. unwrap_or o 0) (g.same n i)
value-agree R m w (OneBit n k) i g = ap (λ o. (unwrap_or o 0 / 2 ^ k) % 2) (g.same n i)

-- reads of names of R give the same
pub values-agree : (R : ByteName → Type 0) (m w : List Block) (rs : List Addressed)
    → Each R (map addressed_name rs) → Agree R m w → values_at m rs ≡ values_at w rs
values-agree R m w [] e g = refl
values-agree R m w (r ∷ rs) e g = let p = value-agree R m w r (e.0) g in let q = values-agree R m w rs (e.1) g in rw (p, q) refl

pub puts-agree : (R : ByteName → Type 0) (ps : List Put) (m w : List Block) → Agree R m w → Agree R (memory_after_puts m ps) (memory_after_puts w ps)
unfolding memory_after_puts
puts-agree R [] m w g = g
puts-agree R (p ∷ ps) m w g = puts-agree R ps (memory_after_put m p) (memory_after_put w p) (with_byte-agree R m w (put_name p) (byte_after p.place p.value) g)

pub puts-outside : (R : ByteName → Type 0) (ps : List Put) (m w : List Block)
    → Each (Not R) (map put_name ps) → Agree R m w → Agree R (memory_after_puts m ps) w
unfolding memory_after_puts
puts-outside R [] m w e g = g
puts-outside R (p ∷ ps) m w e g = puts-outside R ps (memory_after_put m p) w (e.1) (with_byte-outside R m w (put_name p) (byte_after p.place p.value) (e.0) g)

outcome-agree : (R : ByteName → Type 0) (m w : List Block) (a : Act) → Each R (reads_of_act a) → Agree R m w → outcome_of m a ≡ outcome_of w a
outcome-agree R m w (Refusal code) e g = refl
outcome-agree R m w (Allowed a) e g =
    ap (λ (bs : List ℕ). let o : Outcome = record { code = no_error; bytes = a.fixed ++ bs } in o)
    (values-agree R m w a.reads (each_left R (map addressed_name a.reads) (map addressed_name (added_reads a.effect)) e) g)

memory_after-agree : (R : ByteName → Type 0) (m w : List Block) (a : Act) → Agree R m w → Agree R (memory_after m a) (memory_after w a)
memory_after-agree R m w (Refusal code) g = g
memory_after-agree R m w (Allowed a) g = puts-agree R a.writes m w g

memory_after-outside : (R : ByteName → Type 0) (m w : List Block) (a : Act) → Each (Not R) (writes_of_act a) → Agree R m w → Agree R (memory_after m a) w
memory_after-outside R m w (Refusal code) e g = g
memory_after-outside R m w (Allowed a) e g = puts-outside R a.writes m w e g

pub outcomes-agree : (R : ByteName → Type 0) (acts : List Act) (m w : List Block)
    → Each R (reads_of_acts acts) → Agree R m w → outcomes_of m acts ≡ outcomes_of w acts
unfolding outcomes_of
outcomes-agree R [] m w e g = refl
outcomes-agree R (a ∷ rest) m w e g =
    let p = outcome-agree R m w a (each_left R (reads_of_act a) (reads_of_acts rest) e) g in
    let q = outcomes-agree R rest (memory_after m a) (memory_after w a) (each_right R (reads_of_act a) (reads_of_acts rest) e) (memory_after-agree R m w a g) in
    rw (p, q) refl

pub acts-agree : (R : ByteName → Type 0) (acts : List Act) (m w : List Block) → Agree R m w → Agree R (memory_after_acts m acts) (memory_after_acts w acts)
unfolding memory_after_acts
acts-agree R [] m w g = g
acts-agree R (a ∷ rest) m w g = acts-agree R rest (memory_after m a) (memory_after w a) (memory_after-agree R m w a g)

pub acts-outside : (R : ByteName → Type 0) (acts : List Act) (m w : List Block)
    → Each (Not R) (writes_of_acts acts) → Agree R m w → Agree R (memory_after_acts m acts) w
unfolding memory_after_acts
acts-outside R [] m w e g = g
acts-outside R (a ∷ rest) m w e g =
    acts-outside R rest (memory_after m a) w (each_right (Not R) (writes_of_act a) (writes_of_acts rest) e)
    (memory_after-outside R m w a (each_left (Not R) (writes_of_act a) (writes_of_acts rest) e) g)
