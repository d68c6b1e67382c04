-- Ports by their numbers, in a plant and among the ports that hold it.
use Rattle.std.proofs.Common.{◌≡◌, ℕ, zero, suc, ◌<◌, ◌≤◌, List, [], ◌∷◌, map, length, get_or, cond, refl, sym, ◌∙◌, ap, subst, true, false, arith}
use Rattle.std.specs.Prelude.{Bool, ◌==◌, Option, Some, None, IsSome, IfSome, MatchOption, option_map, slice_get, slice_set}
use Rattle.std.proofs.lemmas.Option.{slice_get_read, slice_get_past}
use Rattle.spec_plant.specs.World.{PlantPort}
use Rattle.spec_plant.specs.Named.{port_numbered}
use Rattle.spec_machine.specs.World.{World}
use Rattle.spec_machine.specs.WatchedRanges.{numbers_of}
use Rattle.port_device.specs.PortMemory.{PortMemory, PortsMemory, memory_numbered, with_numbered, with_port}
use Rattle.port_device.specs.PlaceOfPort.{place_numbered}
use Rattle.port_device.specs.Holds.{HoldsPort, HoldEach, HoldsPorts, HoldsFound}

-- a port and the one that holds it have one number
pub same_number : (w : World) (p : PlantPort) (m : PortMemory) → HoldsPort w p m → m.number ≡ p.number
same_number w p m h = h.number ∙ sym (ap (λ (q : PlantPort). q.number) h.plant)

-- ports that hold a plant's have their numbers
pub held_numbers : (w : World) (ps : List PlantPort) (ms : List PortMemory) → HoldEach w ps ms → map (λ (m : PortMemory). m.number) ms ≡ numbers_of ps
held_numbers w [] [] h = refl
held_numbers w [] (m ∷ ms) h = absurd h
held_numbers w (p ∷ ps) [] h = absurd h
held_numbers w (p ∷ ps) (m ∷ ms) h =
    ap (λ n. n ∷ map (λ (x : PortMemory). x.number) ms) (same_number w p m (h.0)) ∙ ap (λ ns. p.number ∷ ns) (held_numbers w ps ms (h.1))

each_found : (w : World) (number : ℕ) (ps : List PlantPort) (ms : List PortMemory) → HoldEach w ps ms
    → HoldsFound w (port_numbered number ps) (memory_numbered number ms)
each_found w number [] [] h = tt
each_found w number [] (m ∷ ms) h = absurd h
each_found w number (p ∷ ps) [] h = absurd h
each_found w number (p ∷ ps) (m ∷ ms) h =
    let P : ℕ → Type 0 = λ n. HoldsFound w (port_numbered number (p ∷ ps)) (cond (n == number) (Some m) (memory_numbered number ms)) in
    let Q : Bool → Type 0 = λ b. HoldsFound w (cond b (Some p) (port_numbered number ps)) (cond b (Some m) (memory_numbered number ms)) in
    subst P (sym (same_number w p m (h.0)))
    (elim (p.number == number) as Q [ true ↦ h.0 | false ↦ each_found w number ps ms (h.1) ])

-- where ports are held, the port with a number is held by the one with that number
pub found_is_held : (w : World) (m : PortsMemory) (number : ℕ) → HoldsPorts w m
    → HoldsFound w (port_numbered number w.plant.ports) (memory_numbered number m.ports)
found_is_held w m number h = each_found w number w.plant.ports m.ports h.each

-- the port at the place of a number is the port with it
pub get-place_numbered : (number : ℕ) (ms : List PortMemory) → slice_get ms (place_numbered number ms) ≡ memory_numbered number ms
get-place_numbered number [] = refl
get-place_numbered number (m ∷ ms) =
    let P : Bool → Type 0 = λ b. slice_get (m ∷ ms) (cond b 0 (suc (place_numbered number ms))) ≡ cond b (Some m) (memory_numbered number ms) in
    elim (m.number == number) as P [ true ↦ refl | false ↦ get-place_numbered number ms ]

pub set-place_numbered : (number : ℕ) (new : PortMemory) (ms : List PortMemory) → slice_set ms (place_numbered number ms) new ≡ with_numbered number new ms
set-place_numbered number new [] = refl
set-place_numbered number new (m ∷ ms) =
    let P : Bool → Type 0 = λ b. slice_set (m ∷ ms) (cond b 0 (suc (place_numbered number ms))) new ≡ cond b (new ∷ ms) (m ∷ with_numbered number new ms) in
    elim (m.number == number) as P [ true ↦ refl | false ↦ ap (λ xs. m ∷ xs) (set-place_numbered number new ms) ]

-- what a look-up at a place answers
pub looked_up : {R X : Type 0} (now : R → X) (xs : List X) (i : ℕ) (P : R → Type 0) (r : Option R) → MatchOption r (length xs ≤ i) (λ x. (i < length xs) × P x)
    → IfSome r (λ x. now x ≡ get_or xs i (now x)) → option_map now r ≡ slice_get xs i
looked_up now xs i P None h value = sym (slice_get_past xs i h)
looked_up now xs i P (Some x) h value = sym (slice_get_read xs (length xs) i (now x) refl (h.0) value)

absent : {X : Type 0} (xs : List X) (i : ℕ) → (i < length xs → ⊥) → slice_get xs i ≡ None
absent [] i h = refl
absent (x ∷ xs) zero h = absurd (h (omega arith))
absent (x ∷ xs) (suc i) h = absent xs i (λ u. h (omega (arith, u)))

-- what a look-up at a place lends
pub lent_at : {R X : Type 0} (now : R → X) (xs : List X) (len i : ℕ) (r : Option R) → len ≡ length xs → (i < len → IsSome r) → (IsSome r → i < len)
    → IfSome r (λ x. now x ≡ get_or xs i (now x)) → option_map now r ≡ slice_get xs i
lent_at now xs len i None same there within value = sym (absent xs i (λ u. let e : false ≡ true = there (omega (arith, u, same)) in cc))
lent_at now xs len i (Some x) same there within value = sym (slice_get_read xs len i (now x) same (within refl) value)

-- the ports with another at the place of a number
pub with_place : (m : PortsMemory) (number place : ℕ) (new : PortMemory) → place ≡ place_numbered number m.ports
    → ◌≡◌ {A = PortsMemory} (record { types = m.types; version = m.version; manner = m.manner; ports = slice_set m.ports place new }) (with_port m number new)
with_place m number place new e =
    let Q : List PortMemory → PortsMemory = λ xs. record { types = m.types; version = m.version; manner = m.manner; ports = xs } in
    ap Q (ap (λ i. slice_set m.ports i new) e ∙ set-place_numbered number new m.ports)
