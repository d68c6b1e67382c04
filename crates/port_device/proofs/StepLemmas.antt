-- A step of a signal in the image of a port: which symbol it writes, and that this is what a tick writes.
use Rattle.std.proofs.Common.{◌≡◌, ℕ, zero, suc, ◌+◌, ◌<◌, ◌≤◌, List, [], ◌∷◌, ◌++◌, map, take, drop, length, get_or, Bool, true, false, cond}
use Rattle.std.proofs.Common.{refl, sym, ◌∙◌, ap, subst, arith}
use Rattle.std.specs.Prelude.{Option, Some, None, option_map, slice_get, slice_set, slice_index_or}
use Rattle.std.proofs.lemmas.List.{length-map}
use Rattle.std.proofs.lemmas.Option.{slice_get-map, slice_get_read}
use Rattle.signals.specs.Wave.{Wave, value_of, wave_after_step, waves_after_step}
use Rattle.spec_plant.specs.Listed.{NamedType}
use Rattle.spec_plant.specs.Description.{Sizes, Symbol, Port}
use Rattle.spec_plant.specs.World.{PlantPort, plant_symbol, plant_port}
use Rattle.spec_plant.specs.Named.{AreNumberedApart}
use Rattle.spec_machine.specs.World.{World}
use Rattle.spec_machine.specs.Ticks.{world_after_tick}
use Rattle.spec_machine.specs.PortBytes.{image_after_signal, image_after_signals}
use Rattle.spec_machine.proofs.SignalsStepped.{steps_signals}
use Rattle.symbol_table.specs.Tables.{TableSymbol, SymbolTable, table_symbol, IsTableOf}
use Rattle.symbol_table.specs.Rows.{symbol_of_row, symbols_of_rows}
use Rattle.symbol_table.specs.declared.row.SymbolRow.{SymbolRow}
use Rattle.port_device.specs.PortMemory.{PortMemory, PortsMemory}
use Rattle.port_device.specs.Holds.{HoldsPort, HoldEach, HoldsPorts}
use Rattle.port_device.specs.Changed.{with_image}
use Rattle.port_device.specs.Signals.{is_bound_to, symbol_bound_to, with_value_at, image_after_step, port_after_step, ports_after_steps}

-- no symbol is written where none is bound
pub image_after_step-none : (sizes : Sizes) (n value : ℕ) (ss : List TableSymbol) (image : List ℕ) → symbol_bound_to n ss ≡ None
    → image_after_step sizes n value ss image ≡ image
image_after_step-none sizes n value [] image e = refl
image_after_step-none sizes n value (s ∷ ss) image e =
    either (is_bound_to n s) (symbol_bound_to n ss) (image_after_step-none sizes n value ss image) e
  where
    either : (b : Bool) (o : Option ℕ) → (o ≡ None → image_after_step sizes n value ss image ≡ image) → cond b (Some 0) (option_map (λ k. suc k) o) ≡ None
        → cond b (with_value_at sizes value s image) (image_after_step sizes n value ss image) ≡ image
    either true o rest q = cc
    either false None rest q = rest refl
    either false (Some k) rest q = cc

-- the bound symbol is written
pub image_after_step-some : (sizes : Sizes) (n value k : ℕ) (ss : List TableSymbol) (s : TableSymbol) (image : List ℕ) → symbol_bound_to n ss ≡ Some k
    → slice_get ss k ≡ Some s → image_after_step sizes n value ss image ≡ with_value_at sizes value s image
image_after_step-some sizes n value k [] s image e g = cc
image_after_step-some sizes n value k (t ∷ ss) s image e g =
    either (is_bound_to n t) (symbol_bound_to n ss) k (λ i. image_after_step-some sizes n value i ss s image) e g
  where
    either : (b : Bool) (o : Option ℕ) (i : ℕ)
        → ((j : ℕ) → o ≡ Some j → slice_get ss j ≡ Some s → image_after_step sizes n value ss image ≡ with_value_at sizes value s image)
        → cond b (Some 0) (option_map (λ j. suc j) o) ≡ Some i → slice_get (t ∷ ss) i ≡ Some s
        → cond b (with_value_at sizes value t image) (image_after_step sizes n value ss image) ≡ with_value_at sizes value s image
    either true o i rest q h =
        let first : 0 ≡ i = cc in
        let there : slice_get (t ∷ ss) 0 ≡ Some s = ap (slice_get (t ∷ ss)) first ∙ h in
        let same : t ≡ s = cc in
        ap (λ x. with_value_at sizes value x image) same
    either false None i rest q h = cc
    either false (Some j) i rest q h =
        let next : suc j ≡ i = cc in
        let there : slice_get (t ∷ ss) (suc j) ≡ Some s = ap (slice_get (t ∷ ss)) next ∙ h in
        rest j refl there

-- a port that no symbol of follows the signal
pub step-none : (n value : ℕ) (m : PortMemory) → symbol_bound_to n m.table.symbols ≡ None → m ≡ port_after_step n value m
step-none n value m e = ap (with_image m) (sym (image_after_step-none m.table.sizes n value m.table.symbols m.bytes.image e))

-- a port of which one does
pub step-some : (n value k : ℕ) (m : PortMemory) (s : TableSymbol) (sizes : Sizes) (image : List ℕ) → symbol_bound_to n m.table.symbols ≡ Some k
    → slice_get m.table.symbols k ≡ Some s → m.table.sizes ≡ sizes → image ≡ with_value_at sizes value s m.bytes.image
    → with_image m image ≡ port_after_step n value m
step-some n value k m s sizes image e g z i =
    ap (with_image m) (i ∙ ap (λ x. with_value_at x value s m.bytes.image) (sym z)
    ∙ sym (image_after_step-some m.table.sizes n value k m.table.symbols s m.bytes.image e g))

-- the symbol of a row
pub row_there : (rows : List SymbolRow) (k : ℕ) (row : SymbolRow) (symbols : List TableSymbol) → symbols_of_rows rows ≡ symbols → k < length rows
    → row ≡ slice_index_or rows k row → slice_get symbols k ≡ Some (symbol_of_row row)
row_there rows k row symbols same u e =
    ap (λ ss. slice_get ss k) (sym same) ∙ slice_get-map symbol_of_row rows k ∙ ap (option_map symbol_of_row) (slice_get_read rows (length rows) k row refl u e)

pub rows_count : (rows : List SymbolRow) (symbols : List TableSymbol) → symbols_of_rows rows ≡ symbols → length rows ≡ length symbols
rows_count rows symbols same = sym (length-map rows symbol_of_row) ∙ ap length same

-- a list whose elements are changed one after another
pub mapped_one : {X : Type 0} (f : X → X) (xs : List X) (i : ℕ) (d : X) → i < length xs
    → slice_set (map f (take i xs) ++ drop i xs) i (f (get_or (map f (take i xs) ++ drop i xs) i d)) ≡ map f (take (suc i) xs) ++ drop (suc i) xs
mapped_one f [] i d h = absurd (omega (arith, h))
mapped_one f (x ∷ xs) zero d h = refl
mapped_one f (x ∷ xs) (suc i) d h = ap (λ ys. f x ∷ ys) (mapped_one f xs i d (omega (arith, h)))

-- a list that was lent and given back with as many elements
pub refilled : {X : Type 0} (new old : List X) (n : ℕ) → n ≡ length old → length new ≡ length old → take n (new ++ drop (length new) old) ≡ new
refilled [] [] zero e l = refl
refilled [] [] (suc n) e l = refl
refilled [] (x ∷ old) n e l = absurd (omega (arith, l))
refilled (y ∷ new) [] n e l = absurd (omega (arith, l))
refilled (y ∷ new) (x ∷ old) zero e l = absurd (omega (arith, e))
refilled (y ∷ new) (x ∷ old) (suc n) e l = ap (λ ys. y ∷ ys) (refilled new old n (omega (arith, e)) (omega (arith, l)))

-- waves of which those before a number have stepped
abbrev pub stepped_to : ℕ → List Wave → List Wave
stepped_to n waves = map wave_after_step (take n waves) ++ drop n waves

pub stepped_to-next : (n : ℕ) (waves : List Wave) → n < length waves → waves_after_step n (stepped_to n waves) ≡ stepped_to (suc n) waves
stepped_to-next n [] h = absurd (omega (arith, h))
stepped_to-next zero (w ∷ waves) h = refl
stepped_to-next (suc n) (w ∷ waves) h = ap (λ ws. wave_after_step w ∷ ws) (stepped_to-next n waves (omega (arith, h)))

pub stepped_to-length : (n : ℕ) (waves : List Wave) → length (stepped_to n waves) ≡ length waves
stepped_to-length zero waves = refl
stepped_to-length (suc n) [] = refl
stepped_to-length (suc n) (w ∷ waves) = ap (λ k. suc k) (stepped_to-length n waves)

-- the next value is that of the wave as it was
pub stepped_to-value : (n : ℕ) (waves : List Wave) → slice_get (map value_of (stepped_to n waves)) n ≡ slice_get (map value_of waves) n
stepped_to-value zero waves = refl
stepped_to-value (suc n) [] = refl
stepped_to-value (suc n) (w ∷ waves) = stepped_to-value n waves

pub ports_after_steps-next : (n k value : ℕ) (waves : List Wave) (ms : List PortMemory) → slice_get (map value_of waves) n ≡ Some value
    → ports_after_steps (k + 1) (drop (suc n) waves) (map (port_after_step k value) ms) ≡ ports_after_steps k (drop n waves) ms
ports_after_steps-next n k value [] ms e = cc
ports_after_steps-next zero k value (w ∷ waves) ms e =
    let same : value ≡ value_of w = cc in ap (λ v. ports_after_steps (k + 1) waves (map (port_after_step k v) ms)) same
ports_after_steps-next (suc n) k value (w ∷ waves) ms e = ports_after_steps-next n k value waves ms e

-- a turn of the loop over the signals: there is one more, it steps, and the ports follow it
pub turn-within : (n count : ℕ) (waves now : List Wave) → now ≡ stepped_to n waves → count ≡ length waves → n < count → n < length now
turn-within n count waves now e l u = let same = ap length e ∙ stepped_to-length n waves in omega (arith, l, u, same)

pub turn-bank : (n count : ℕ) (waves now next : List Wave) → now ≡ stepped_to n waves → count ≡ length waves → n < count → next ≡ waves_after_step n now
    → next ≡ stepped_to (n + 1) waves
turn-bank n count waves now next e l u moved =
    let one : suc n ≡ n + 1 = omega arith in
    moved ∙ ap (waves_after_step n) e ∙ stepped_to-next n waves (omega (arith, l, u)) ∙ ap (λ k. stepped_to k waves) one

pub turn-ports : (n value : ℕ) (waves now : List Wave) (ms next all : List PortMemory) → now ≡ stepped_to n waves → slice_get (map value_of now) n ≡ Some value
    → next ≡ map (port_after_step n value) ms → ports_after_steps n (drop n waves) ms ≡ all → ports_after_steps (n + 1) (drop (n + 1) waves) next ≡ all
turn-ports n value waves now ms next all e v follow left =
    let one : n + 1 ≡ suc n = omega arith in
    let known : slice_get (map value_of waves) n ≡ Some value = sym (stepped_to-value n waves) ∙ ap (λ ws. slice_get (map value_of ws) n) (sym e) ∙ v in
    ap (λ k. ports_after_steps (n + 1) (drop k waves) next) one ∙ ap (ports_after_steps (n + 1) (drop (suc n) waves)) follow
    ∙ ports_after_steps-next n n value waves ms known ∙ left

drop-all : (n : ℕ) (waves : List Wave) → length waves ≤ n → drop n waves ≡ []
drop-all zero [] h = refl
drop-all zero (w ∷ waves) h = absurd (omega (arith, h))
drop-all (suc n) [] h = refl
drop-all (suc n) (w ∷ waves) h = drop-all n waves (omega (arith, h))

stepped_to-all : (n : ℕ) (waves : List Wave) → length waves ≤ n → stepped_to n waves ≡ map wave_after_step waves
stepped_to-all zero [] h = refl
stepped_to-all zero (w ∷ waves) h = absurd (omega (arith, h))
stepped_to-all (suc n) [] h = refl
stepped_to-all (suc n) (w ∷ waves) h = ap (λ ws. wave_after_step w ∷ ws) (stepped_to-all n waves (omega (arith, h)))

-- no signal is left
pub end-bank : (n : ℕ) (waves now : List Wave) → now ≡ stepped_to n waves → length waves ≤ n → now ≡ map wave_after_step waves
end-bank n waves now e h = e ∙ stepped_to-all n waves h

pub end-ports : (n : ℕ) (waves : List Wave) (ms all : List PortMemory) → ports_after_steps n (drop n waves) ms ≡ all → length waves ≤ n → ms ≡ all
end-ports n waves ms all left h = ap (λ ws. ports_after_steps n ws ms) (sym (drop-all n waves h)) ∙ left

-- a step in the table is a step in the plant
same_step : (types : List NamedType) (sizes : Sizes) (n value : ℕ) (ss : List Symbol) (image : List ℕ)
    → image_after_step sizes n value (map (table_symbol types) ss) image ≡ image_after_signal sizes n value (map (plant_symbol types) ss) image
same_step types sizes n value [] image = refl
same_step types sizes n value (s ∷ ss) image =
    ap (cond (is_bound_to n (table_symbol types s)) (with_value_at sizes value (table_symbol types s) image)) (same_step types sizes n value ss image)

-- the bytes of a port after the signals from the n-th on
abbrev port_after_steps : ℕ → List Wave → PortMemory → PortMemory
port_after_steps n [] m = m
port_after_steps n (wave ∷ waves) m = port_after_steps (n + 1) waves (port_after_step n (value_of wave) m)

each_alone : (n : ℕ) (waves : List Wave) (m : PortMemory) (ms : List PortMemory)
    → ports_after_steps n waves (m ∷ ms) ≡ port_after_steps n waves m ∷ ports_after_steps n waves ms
each_alone n [] m ms = refl
each_alone n (wave ∷ waves) m ms = each_alone (n + 1) waves (port_after_step n (value_of wave) m) (map (port_after_step n (value_of wave)) ms)

none_alone : (n : ℕ) (waves : List Wave) → ports_after_steps n waves [] ≡ []
none_alone n [] = refl
none_alone n (wave ∷ waves) = none_alone (n + 1) waves

steps_are_signals : (types : List NamedType) (port : Port) (n : ℕ) (waves : List Wave) (m : PortMemory) → IsTableOf types port m.table
    → port_after_steps n waves m ≡ with_image m (image_after_signals (plant_port types port) n waves m.bytes.image)
steps_are_signals types port n [] m t = refl
steps_are_signals types port n (wave ∷ waves) m t =
    let p = plant_port types port in
    let value = value_of wave in
    let one : image_after_step m.table.sizes n value m.table.symbols m.bytes.image ≡ image_after_signal p.sizes n value p.symbols m.bytes.image
    = ap (λ (x : SymbolTable). image_after_step x.sizes n value x.symbols m.bytes.image) t.same
    ∙ same_step types port.sizes n value port.symbols m.bytes.image in
    steps_are_signals types port (n + 1) waves (port_after_step n (value_of wave) m) t
    ∙ ap (λ image. with_image m (image_after_signals p (n + 1) waves image)) one

-- a port holds the world after a tick
port_after_tick : (w : World) (i : ℕ) (p : PlantPort) (m : PortMemory) → AreNumberedApart w.plant.ports → slice_get w.plant.ports i ≡ Some p → HoldsPort w p m
    → HoldsPort (world_after_tick w) p (port_after_steps 0 w.signals m)
unfolding world_after_tick
port_after_tick w i p m apart there h =
    let types = m.types in
    let stepped = steps_signals w i p m.bytes h.plant_sound apart there h.holds in
    let same : p ≡ plant_port types h.port = h.plant in
    let image = image_after_signals p 0 w.signals m.bytes.image in
    let held : HoldsPort (world_after_tick w) p (with_image m image) = record {
      port = h.port;
      plant = h.plant;
      table = h.table;
      number = h.number;
      facts = h.facts;
      types = h.types;
      version = h.version;
      manner = h.manner;
      plant_sound = h.plant_sound;
      sound = h.sound;
      holds = stepped;
    } in
    let steps : port_after_steps 0 w.signals m ≡ with_image m image
    = steps_are_signals types h.port 0 w.signals m h.table ∙ ap (λ q. with_image m (image_after_signals q 0 w.signals m.bytes.image)) (sym same) in
    subst (HoldsPort (world_after_tick w) p) (sym steps) held

each_after_tick : (w : World) → AreNumberedApart w.plant.ports → (before : ℕ) (ps : List PlantPort) (ms : List PortMemory)
    → ((i : ℕ) (p : PlantPort) → slice_get ps i ≡ Some p → slice_get w.plant.ports (before + i) ≡ Some p) → HoldEach w ps ms
    → HoldEach (world_after_tick w) ps (ports_after_steps 0 w.signals ms)
each_after_tick w apart before [] [] there h = subst (HoldEach (world_after_tick w) []) (sym (none_alone 0 w.signals)) tt
each_after_tick w apart before [] (m ∷ ms) there h = absurd h
each_after_tick w apart before (p ∷ ps) [] there h = absurd h
each_after_tick w apart before (p ∷ ps) (m ∷ ms) there h =
    let behind : (i : ℕ) (q : PlantPort) → slice_get ps i ≡ Some q → slice_get w.plant.ports (before + 1 + i) ≡ Some q
    = λ i q g. let e : before + 1 + i ≡ before + suc i = omega arith in ap (slice_get w.plant.ports) e ∙ there (suc i) q g in
    let rest = each_after_tick w apart (before + 1) ps ms behind (h.1) in
    subst (HoldEach (world_after_tick w) (p ∷ ps)) (sym (each_alone 0 w.signals m ms)) (port_after_tick w (before + 0) p m apart (there 0 p refl) (h.0), rest)

-- all ports hold the world after a tick
pub ports_after_tick : (w : World) (m : PortsMemory) → HoldsPorts w m
    → HoldsPorts (world_after_tick w) (record m { ports = ports_after_steps 0 w.signals m.ports })
unfolding world_after_tick
ports_after_tick w m h = record {
  types = h.types;
  version = h.version;
  manner = h.manner;
  plant_sound = h.plant_sound;
  apart = h.apart;
  each = each_after_tick w h.apart 0 w.plant.ports m.ports (λ i p g. let e : 0 + i ≡ i = omega arith in ap (slice_get w.plant.ports) e ∙ g) h.each;
}
