-- A tick steps all signals in the bytes of a port.
use Rattle.std.proofs.Common.{◌≡◌, ◌≢◌, ℕ, zero, suc, ◌+◌, ◌≤◌, List, [], ◌∷◌, ◌++◌, map, length, take, refl, sym, subst, inl, inr, arith}
use Rattle.std.specs.Prelude.{flat_map, slice_get, Some}
use Rattle.std.specs.Int.{w64, to_le_bytes}
use Rattle.std.proofs.lemmas.Bool.{cases_Bool}
use Rattle.signals.specs.Wave.{Wave, value_of}
use Rattle.spec_plant.specs.Description.{size_in}
use Rattle.spec_plant.specs.World.{Block, PlantPort, PlantSymbol, SymbolPart, lower_name, symbol_size}
use Rattle.spec_plant.specs.Named.{AreNamedApart, NotNumbered, AreNumberedApart}
use Rattle.spec_plant.specs.Sound.{Each, AreApart, IsSoundSymbol, IsSoundPort}
use Rattle.spec_plant.proofs.SoundLemmas.{each-get}
use Rattle.spec_machine.specs.World.{numbers_from}
use Rattle.spec_machine.specs.Access.{WholeByte, Put, puts_of, memory_after_put, memory_after_puts}
use Rattle.spec_machine.specs.Ticks.{has_signal, signal_puts_of_symbol, signal_puts_among, signal_puts, world_after_tick}
use Rattle.spec_machine.specs.PortBytes.{PortBytes, with_image_bytes, Holds, image_after_signal, image_after_signals}
use Rattle.spec_machine.specs.PortLaws.{IsAtAnotherPort, StepsSignals}
use Rattle.spec_machine.proofs.AreaNames.{spans_give_names}
use Rattle.spec_machine.proofs.PortBytesLemmas.{writes_image, leaves_other_ports}

pub puts-append : (memory : List Block) (ps qs : List Put) → memory_after_puts memory (ps ++ qs) ≡ memory_after_puts (memory_after_puts memory ps) qs
unfolding memory_after_puts
puts-append memory [] qs = refl
puts-append memory (u ∷ ps) qs = puts-append (memory_after_put memory u) ps qs

-- a symbol stands in a list
abbrev IsAmongSymbols : List PlantSymbol → PlantSymbol → Type 0
IsAmongSymbols symbols s = (n : ℕ) × (slice_get symbols n ≡ Some s)

behind : (x : PlantSymbol) (all symbols : List PlantSymbol) → Each (IsAmongSymbols all) symbols → Each (IsAmongSymbols (x ∷ all)) symbols
behind x all [] e = tt
behind x all (s ∷ symbols) e = ((suc (e.0.0), e.0.1), behind x all symbols (e.1))

pub among_itself : (symbols : List PlantSymbol) → Each (IsAmongSymbols symbols) symbols
among_itself [] = tt
among_itself (s ∷ symbols) = ((zero, refl), behind s symbols symbols (among_itself symbols))

-- what a symbol needs of its port
record IsFineAt (p : PlantPort) (s : PlantSymbol) : Type 0 where
  among : IsAmongSymbols p.symbols s
  within : s.offset + symbol_size s ≤ size_in p.sizes s.area

are_fine : (p : PlantPort) (symbols : List PlantSymbol) → Each (IsAmongSymbols p.symbols) symbols → Each (IsSoundSymbol p) symbols → Each (IsFineAt p) symbols
are_fine p [] e f = tt
are_fine p (s ∷ symbols) e f = (record { among = e.0; within = f.0.within }, are_fine p symbols (e.1) (f.1))

-- one symbol is written
symbol_stepped : (p : PlantPort) (s : PlantSymbol) (value : ℕ) (memory : List Block) (b : PortBytes) → AreNamedApart p.symbols → AreApart p.symbols
    → IsFineAt p s → Holds memory p b
    → Holds (memory_after_puts memory (signal_puts_of_symbol p.number s value)) p
    (record b { image = with_image_bytes p.sizes b.image s.area s.offset (take (symbol_size s) (to_le_bytes w64 value)) })
symbol_stepped p s value memory b named apart fine h =
    let bytes : List ℕ = take (symbol_size s) (to_le_bytes w64 value) in
    let from : s.offset + 0 ≡ s.offset = omega arith in
    let within = fine.within in
    let names = spans_give_names p (fine.among.0) s 0 (symbol_size s) apart (fine.among.1) (omega arith) in
    let short : length bytes ≤ symbol_size s = take-short (symbol_size s) (to_le_bytes w64 value) in
    let done = writes_image memory p b s.area (s.offset + 0) (symbol_size s) bytes named h (omega (arith, within)) short in
    let P : ℕ → Type 0
    = λ at_. Holds (memory_after_puts memory (signal_puts_of_symbol p.number s value)) p
    (record b { image = with_image_bytes p.sizes b.image s.area at_ bytes }) in
    subst P from (rw (← names) done)
  where
    take-short : (n : ℕ) (xs : List ℕ) → length (take n xs) ≤ n
    take-short zero xs = omega arith
    take-short (suc n) [] = omega arith
    take-short (suc n) (x ∷ xs) = let l = take-short n xs in omega (arith, l)

among_stepped : (p : PlantPort) (n value : ℕ) (memory : List Block) (b : PortBytes) → AreNamedApart p.symbols → AreApart p.symbols
    → (symbols : List PlantSymbol) → Each (IsFineAt p) symbols → Holds memory p b
    → Holds (memory_after_puts memory (signal_puts_among p.number n value symbols)) p (record b { image = image_after_signal p.sizes n value symbols b.image })
unfolding memory_after_puts
among_stepped p n value memory b named apart [] fine h = h
among_stepped p n value memory b named apart (s ∷ symbols) fine h =
    elim (cases_Bool (has_signal n s)) [
      | inl t ↦ rw t (symbol_stepped p s value memory b named apart (fine.0) h)
      | inr t ↦ rw t (among_stepped p n value memory b named apart symbols (fine.1) h)
    ]

-- what other ports' symbols are written
puts_elsewhere : (p : PlantPort) (port : ℕ) (name : List ℕ) → port ≢ p.number → (ks bytes : List ℕ)
    → Each (IsAtAnotherPort p) (puts_of (map WholeByte (map (λ k. record { port = port; part = SymbolPart name; index = k }) ks)) bytes)
puts_elsewhere p port name ne [] bytes = tt
puts_elsewhere p port name ne (k ∷ ks) [] = tt
puts_elsewhere p port name ne (k ∷ ks) (x ∷ bytes) = (ne, puts_elsewhere p port name ne ks bytes)

signal_elsewhere : (p : PlantPort) (port n value : ℕ) → port ≢ p.number → (symbols : List PlantSymbol)
    → Each (IsAtAnotherPort p) (signal_puts_among port n value symbols)
signal_elsewhere p port n value ne [] = tt
signal_elsewhere p port n value ne (s ∷ symbols) =
    elim (cases_Bool (has_signal n s)) [
      | inl t ↦ rw t (puts_elsewhere p port (lower_name s) ne (numbers_from 0 (symbol_size s)) (take (symbol_size s) (to_le_bytes w64 value)))
      | inr t ↦ rw t (signal_elsewhere p port n value ne symbols)
    ]

each-append : (p : PlantPort) (xs ys : List Put) → Each (IsAtAnotherPort p) xs → Each (IsAtAnotherPort p) ys → Each (IsAtAnotherPort p) (xs ++ ys)
each-append p [] ys e f = f
each-append p (x ∷ xs) ys e f = (e.0, each-append p xs ys (e.1) f)

-- what a signal puts at all ports
abbrev puts_at_ports : ℕ → ℕ → List PlantPort → List Put
puts_at_ports n value ports = flat_map (λ (q : PlantPort). signal_puts_among q.number n value q.symbols) ports

ports_elsewhere : (p : PlantPort) (n value : ℕ) (ports : List PlantPort) → NotNumbered p.number ports → Each (IsAtAnotherPort p) (puts_at_ports n value ports)
ports_elsewhere p n value [] e = tt
ports_elsewhere p n value (q ∷ ports) e =
    each-append p (signal_puts_among q.number n value q.symbols) (puts_at_ports n value ports) (signal_elsewhere p q.number n value (e.0) q.symbols)
    (ports_elsewhere p n value ports (e.1))

pub not_first : (n : ℕ) (ports : List PlantPort) (i : ℕ) (p : PlantPort) → NotNumbered n ports → slice_get ports i ≡ Some p → p.number ≢ n
not_first n [] i p e g = cc
not_first n (q ∷ ports) zero p e g = let same : q ≡ p = cc in let P : PlantPort → Type 0 = λ x. x.number ≢ n in subst P same (e.0)
not_first n (q ∷ ports) (suc i) p e g = not_first n ports i p (e.1) g

-- one signal steps at all ports
ports_stepped : (n value : ℕ) (p : PlantPort) → AreNamedApart p.symbols → AreApart p.symbols → Each (IsFineAt p) p.symbols → (ports : List PlantPort) (i : ℕ)
    → AreNumberedApart ports → slice_get ports i ≡ Some p
    → (memory : List Block) (b : PortBytes) → Holds memory p b
    → Holds (memory_after_puts memory (puts_at_ports n value ports)) p (record b { image = image_after_signal p.sizes n value p.symbols b.image })
ports_stepped n value p named apart fine [] i a g memory b h = cc
ports_stepped n value p named apart fine (q ∷ ports) zero a g memory b h =
    let same : q ≡ p = cc in
    let own : List Put = signal_puts_among p.number n value p.symbols in
    let others : List Put = puts_at_ports n value ports in
    let after : PortBytes = record b { image = image_after_signal p.sizes n value p.symbols b.image } in
    let elsewhere = ports_elsewhere p n value ports (subst (λ (x : PlantPort). NotNumbered x.number ports) same (a.0)) in
    let done = leaves_other_ports (memory_after_puts memory own) p after others elsewhere (among_stepped p n value memory b named apart p.symbols fine h) in
    let all = subst (λ (m : List Block). Holds m p after) (sym (puts-append memory own others)) done in
    subst (λ (x : PlantPort). Holds (memory_after_puts memory (signal_puts_among x.number n value x.symbols ++ others)) p after) (sym same) all
ports_stepped n value p named apart fine (q ∷ ports) (suc i) a g memory b h =
    let first : List Put = signal_puts_among q.number n value q.symbols in
    let others : List Put = puts_at_ports n value ports in
    let after : PortBytes = record b { image = image_after_signal p.sizes n value p.symbols b.image } in
    let ne : q.number ≢ p.number = λ e. not_first q.number ports i p (a.0) g (sym e) in
    let left = leaves_other_ports memory p b first (signal_elsewhere p q.number n value ne q.symbols) h in
    let done = ports_stepped n value p named apart fine ports i (a.1) g (memory_after_puts memory first) b left in
    subst (λ (m : List Block). Holds m p after) (sym (puts-append memory first others)) done

all_stepped : (p : PlantPort) → AreNamedApart p.symbols → AreApart p.symbols → Each (IsFineAt p) p.symbols → (ports : List PlantPort) (i : ℕ)
    → AreNumberedApart ports → slice_get ports i ≡ Some p
    → (waves : List Wave) (n : ℕ) (memory : List Block) (b : PortBytes) → Holds memory p b
    → Holds (memory_after_puts memory (signal_puts ports n waves)) p (record b { image = image_after_signals p n waves b.image })
unfolding memory_after_puts
all_stepped p named apart fine ports i a g [] n memory b h = h
all_stepped p named apart fine ports i a g (wave ∷ waves) n memory b h =
    let first : List Put = puts_at_ports n (value_of wave) ports in
    let others : List Put = signal_puts ports (n + 1) waves in
    let after : PortBytes = record b { image = image_after_signal p.sizes n (value_of wave) p.symbols b.image } in
    let left = ports_stepped n (value_of wave) p named apart fine ports i a g memory b h in
    let done = all_stepped p named apart fine ports i a g waves (n + 1) (memory_after_puts memory first) after left in
    subst (λ (m : List Block). Holds m p (record b { image = image_after_signals p n (wave ∷ waves) b.image })) (sym (puts-append memory first others)) done

pub steps_signals : StepsSignals
unfolding world_after_tick
steps_signals w i p b sound a g h =
    let port = each-get (IsSoundPort w.plant.ports) w.plant.ports i p sound g in
    all_stepped p port.names port.bytes (are_fine p p.symbols (among_itself p.symbols) port.symbols) w.plant.ports i a g w.signals 0 w.memory b h
