-- Accepted descriptions are modest: names of devices have 16 bytes, and symbols and uploads have their limits; and what
-- holds of each accepted plant holds of the plant of every state.
use Rattle.std.proofs.Common.{◌≡◌, ℕ, ◌≤◌, List, [], ◌∷◌, map, length, Bool, true, refl, sym, subst, arith, inl, inr}
use Rattle.std.specs.Prelude.{Option, Some, None, Result, Ok, Err, nat_le, ◌==◌, ◌&&◌, find, option_map, option_and_then}
use Rattle.std.specs.List.{list_all}
use Rattle.std.proofs.lemmas.Bool.{cases_Bool, and_parts, eqb-true, leb-true}
use Rattle.std.proofs.lemmas.List.{length-append}
use Rattle.std.proofs.lemmas.List.Sums.{sum_by-cons}
use Rattle.signals.specs.Wave.{Wave}
use Rattle.spec_plant.specs.Listed.{NamedType}
use Rattle.spec_plant.specs.Description.{Facts, Symbol, Port, Sizes, Description}
use Rattle.spec_plant.specs.World.{Plant, PlantPort, PlantSymbol, plant_symbol, plant_port, plant_of, symbol_size}
use Rattle.spec_plant.specs.Entries.{symbol_entry_length, upload_size}
use Rattle.name_paths.specs.Identifier.{is_identifier}
use Rattle.name_paths.specs.Name.{identifiers_of, is_symbol_name}
use Rattle.name_paths.specs.Path.{Step, steps_of}
use Rattle.spec_plant.specs.Trees.{trees_of}
use Rattle.spec_plant.specs.Parts.{TypePart, part_behind}
use Rattle.spec_plant.specs.Finding.{Found, whole_of, is_named_by, steps_behind_name, found_in_symbol, found_of_steps, without_nul, found_of}
use Rattle.spec_plant.specs.AcceptedTypes.{AreTypes, LIMIT, all_pairs, is_comment, is_shape, is_small_shape}
use Rattle.spec_plant.specs.Accepted.{IsAccepted, is_port, is_symbol, are_facts, is_device_name, size_of_symbol, are_two_names, are_apart}
use Rattle.spec_formats.specs.SymbolEntry.{entry_bytes, upload_bytes}
use Rattle.spec_formats.proofs.EntryLemmas.{length-entry_fields}
use Rattle.ads_outside.specs.declared.event.Event.{Event}
use Rattle.ads_outside.specs.declared.event.Event.TheVariants as event
use Rattle.ads_outside.specs.declared.moves.Move.{Move}
use Rattle.ads_outside.specs.declared.moves.Move.TheVariants as move
use Rattle.spec_machine.specs.Device.{DescriptionFault}
use Rattle.spec_machine.specs.Connection.{Connection, connection_of}
use Rattle.spec_machine.specs.MachineState.{MachineState, Exchange, exchange_of, after_exchange}
use Rattle.spec_machine.specs.Piece.{after_piece}
use Rattle.spec_machine.specs.Moves.{with_gone, with_took, state_after_move, state_after}
use Rattle.spec_machine.specs.Events.{after_reload, state_after_event}
use Rattle.spec_machine.specs.Manner.{Manner}
use Rattle.spec_machine.specs.Profile.{Profile}
use Rattle.spec_machine.specs.World.{World}
use Rattle.spec_plant.proofs.TextLengths.{short_comment}
use Rattle.spec_machine.specs.Client.{Place, Client}
use Rattle.spec_machine.specs.Entries.{entry_of_symbol, symbol_upload_of, entry_of_part}
use Rattle.spec_machine.specs.Ticks.{world_after_tick}
use Rattle.spec_machine.specs.Reloads.{world_after_reload}
use Rattle.spec_machine.specs.AdsDevice.{DescriptionReading, reloading, ads_device, server_step}
use Rattle.spec_laws.specs.Isolation.{start_in}
use Rattle.spec_laws.specs.Soundness.{Each, ReadsAccepted}
use Rattle.spec_laws.specs.Reachable.{IsPlaced}
use Rattle.spec_laws.proofs.TameTypes.{IsTame, path_len, text-short, tame-steps}
use Rattle.spec_laws.proofs.TameTrees.{shape-tame, trees-tame}
use Rattle.spec_laws.proofs.EveryState.{Goes, piece-goes, took-goes, gone-goes}

pub record IsModestSymbol (s : PlantSymbol) : Type 0 where
  pub size : symbol_size s ≤ LIMIT
  pub name : length s.name ≤ 255
  pub comment : length s.comment ≤ 255
  pub tame : IsTame s.type
  pub path : path_len s.type ≤ 296040

pub record IsModestPort (p : PlantPort) : Type 0 where
  pub facts : length p.facts.name ≡ 16
  pub upload : (x : Manner) → length (symbol_upload_of x p) ≤ 2000000
  pub symbols : Each IsModestSymbol p.symbols

abbrev pub IsModestPlant : Plant → Type 0
IsModestPlant plant = Each IsModestPort plant.ports

-- the upload has the size that is accepted
length-entry : (x : Manner) (types : List NamedType) (s : Symbol) → length (entry_bytes (entry_of_symbol x (plant_symbol types s)))
    ≡ symbol_entry_length types s
length-entry x types s = let e = length-entry_fields (entry_of_symbol x (plant_symbol types s)) in omega (arith, e)

pub length-upload : (x : Manner) (types : List NamedType) (ss : List Symbol)
    → length (upload_bytes (map (entry_of_symbol x) (map (plant_symbol types) ss))) ≡ upload_size types ss
length-upload x types [] = refl
length-upload x types (s ∷ ss) =
    let one = length-entry x types s in
    let rest = length-upload x types ss in
    let all = length-append (entry_bytes (entry_of_symbol x (plant_symbol types s))) (upload_bytes (map (entry_of_symbol x) (map (plant_symbol types) ss))) in
    let sum = sum_by-cons (symbol_entry_length types) s ss in
    omega (arith, one, rest, all, sum)

facts-name : (f : Facts) → are_facts f ≡ true → length f.name ≡ 16
facts-name f e =
    let q = and_parts (nat_le f.major 255 && nat_le f.minor 255 && nat_le f.build 65535) (length f.name == 16 && is_device_name f.name) e in
    let n = and_parts (length f.name == 16) (is_device_name f.name) (q.1) in
    eqb-true (length f.name) 16 (n.0)

symbol-modest : (types : List NamedType) → AreTypes types → (sizes : Sizes) (signals : ℕ) (s : Symbol)
    → is_symbol types sizes signals s ≡ true → IsModestSymbol (plant_symbol types s)
symbol-modest types a sizes signals s e =
    let d = four (is_symbol_name s.name)
    (is_shape types s.shape && is_small_shape s.shape && nat_le (size_of_symbol types s) LIMIT) _ _ (is_comment s.comment) _ _ e in
    let p = and_parts (is_shape types s.shape && is_small_shape s.shape) (nat_le (size_of_symbol types s) LIMIT) (d.1) in
    let q = and_parts (is_shape types s.shape) (is_small_shape s.shape) (p.0) in
    let n = and_parts (nat_le (length s.name) 255) (list_all is_identifier (identifiers_of s.name)) (d.0) in
    let t = shape-tame 296000 types (trees_of types) s.shape (trees-tame types a) (q.0) in
    record {
      size = leb-true (size_of_symbol types s) LIMIT (p.1);
      name = leb-true (length s.name) 255 (n.0);
      comment = short_comment s.comment (d.2);
      tame = t.0;
      path = t.1;
    }
  where
    four : (a b c d x y z : Bool) → ((((((a && b) && c) && d) && x) && y) && z) ≡ true → (a ≡ true) × (b ≡ true) × (x ≡ true)
    four a b c d x y z q =
        let q1 = and_parts (((((a && b) && c) && d) && x) && y) z q in
        let q2 = and_parts ((((a && b) && c) && d) && x) y (q1.0) in
        let q3 = and_parts (((a && b) && c) && d) x (q2.0) in
        let q4 = and_parts ((a && b) && c) d (q3.0) in
        let q5 = and_parts (a && b) c (q4.0) in
        let q6 = and_parts a b (q5.0) in
        (q6.0, q6.1, q3.1)

symbols-modest : (types : List NamedType) → AreTypes types → (sizes : Sizes) (signals : ℕ) (ss : List Symbol)
    → list_all (is_symbol types sizes signals) ss ≡ true → Each IsModestSymbol (map (plant_symbol types) ss)
symbols-modest types a sizes signals [] e = tt
symbols-modest types a sizes signals (s ∷ ss) e =
    let q = and_parts (is_symbol types sizes signals s) (list_all (is_symbol types sizes signals) ss) e in
    (symbol-modest types a sizes signals s (q.0), symbols-modest types a sizes signals ss (q.1))

port-modest : (types : List NamedType) → AreTypes types → (signals : ℕ) (p : Port) → is_port types signals p ≡ true → IsModestPort (plant_port types p)
port-modest types a signals p e =
    let fine = parts _ (are_facts p.facts) _ _ (list_all (is_symbol types p.sizes signals) p.symbols)
    (all_pairs are_two_names p.symbols) (all_pairs (are_apart types) p.symbols) (nat_le (upload_size types p.symbols) 2000000) e in
    let most = leb-true (upload_size types p.symbols) 2000000 (fine.2) in
    record {
      facts = facts-name p.facts (fine.0);
      upload = λ x. let len = length-upload x types p.symbols in omega (arith, len, most);
      symbols = symbols-modest types a p.sizes signals p.symbols (fine.1);
    }
  where
    parts : (a b c d x y z w : Bool) → (((((a && b) && c) && (d && x)) && (y && z)) && w) ≡ true → (b ≡ true) × (x ≡ true) × (w ≡ true)
    parts a b c d x y z w q =
        let q1 = and_parts (((a && b) && c) && (d && x) && (y && z)) w q in
        let q2 = and_parts (((a && b) && c) && (d && x)) (y && z) (q1.0) in
        let q3 = and_parts ((a && b) && c) (d && x) (q2.0) in
        let q4 = and_parts d x (q3.1) in
        let q5 = and_parts (a && b) c (q3.0) in
        let q6 = and_parts a b (q5.0) in
        (q6.1, q4.1, q1.1)

ports-modest : (types : List NamedType) → AreTypes types → (signals : ℕ) (ps : List Port)
    → list_all (is_port types signals) ps ≡ true → Each IsModestPort (map (plant_port types) ps)
ports-modest types a signals [] e = tt
ports-modest types a signals (p ∷ ps) e =
    let q = and_parts (is_port types signals p) (list_all (is_port types signals) ps) e in
    (port-modest types a signals p (q.0), ports-modest types a signals ps (q.1))

pub accepted_are_modest : (d : Description) (signals : ℕ) → IsAccepted d signals → IsModestPlant (plant_of d)
accepted_are_modest d signals a = ports-modest d.types a.types signals d.ports a.each_port

-- what is found among things that each have something has it too
pub found_has : {X : Type 0} → (P : X → Type 0) (test : X → Bool) (xs : List X) (x : X) → Each P xs → find test xs ≡ Some x → P x
found_has P test [] x e f = cc
found_has P test (y ∷ ys) x e f =
    elim (cases_Bool (test y)) [
      | inl t ↦ let g : Some y ≡ Some x = rw t at f in let h : y ≡ x = cc in subst P h (e.0)
      | inr t ↦ let g : find test ys ≡ Some x = rw t at f in found_has P test ys x (e.1) g
    ]

pub placed-small : (plant : Plant) → IsModestPlant plant → (port : ℕ) (place : Place) → IsPlaced plant port place → place.len ≤ LIMIT
placed-small plant m port place i =
    let p = found_has IsModestPort (λ (q : PlantPort). q.number == port) plant.ports i.asked m i.port_found in
    let s = (found_has IsModestSymbol _ i.asked.symbols i.symbol p.symbols i.symbol_found).size in
    let e = i.ends in
    omega (arith, s, e)

-- the entry of a part that a name leads to
part-short : (x : Manner) (s : PlantSymbol) → IsModestSymbol s → (steps : List Step) (p : TypePart) → part_behind (whole_of s) steps ≡ Some p
    → length (entry_bytes (entry_of_part x (record { symbol = s; steps = steps; part = p }))) ≤ 2000000
unfolding entry_of_part
part-short x s m steps p e =
    let f : Found = record { symbol = s; steps = steps; part = p } in
    let name = m.name in
    let path = m.path in
    let t = tame-steps (whole_of s) steps s.name s.comment p 296295 m.tame (omega (arith, name, path)) m.comment e in
    let len = length-entry_fields (entry_of_part x f) in
    let own = t.short_name in
    let said = t.short_comment in
    let text = text-short p.type t.tame in
    omega (arith, len, own, said, text)

pub entry-short : (x : Manner) (p : PlantPort) → IsModestPort p → (name : List ℕ) (f : Found)
    → found_of p.symbols name ≡ Some f → length (entry_bytes (entry_of_part x f)) ≤ 2000000
unfolding found_of
entry-short x p m name f e = steps_go (steps_of (without_nul name)) e
  where
    Short : Found → Type 0
    Short y = length (entry_bytes (entry_of_part x y)) ≤ 2000000

    placed : (s : PlantSymbol) → IsModestSymbol s → (steps : List Step) (o : Option TypePart) → part_behind (whole_of s) steps ≡ o
        → option_map (λ part. record { symbol = s; steps = steps; part = part }) o ≡ Some f → Short f
    placed s h steps None q g = cc
    placed s h steps (Some y) q g =
        let here : Found = record { symbol = s; steps = steps; part = y } in
        let same : here ≡ f = cc in
        subst Short same (part-short x s h steps y q)

    symbol_go : (steps : List Step) (o : Option PlantSymbol) → find (is_named_by steps) p.symbols ≡ o
        → option_and_then (found_in_symbol steps) o ≡ Some f → Short f
    symbol_go steps None q g = cc
    symbol_go steps (Some s) q g =
        placed s (found_has IsModestSymbol (is_named_by steps) p.symbols s m.symbols q)
        (steps_behind_name steps s) (part_behind (whole_of s) (steps_behind_name steps s)) refl g

    steps_go : (o : Option (List Step)) → option_and_then (found_of_steps p.symbols) o ≡ Some f → Short f
    steps_go None g = cc
    steps_go (Some steps) g = symbol_go steps (find (is_named_by steps) p.symbols) refl g

-- the plant of every state

exchange-plant : (P : Plant → Type 0) (f : Exchange World Client → Exchange World Client)
    → ((x : Exchange World Client) → Goes x (f x)) → (s : MachineState World Client) (o : Option (Connection Client))
    → P s.world.plant → P (after_exchange o f s).world.plant
exchange-plant P f goes s None h = h
exchange-plant P f goes s (Some k) h = let y = goes (exchange_of s k) in subst P (sym y.plant) h

reload-plant : (P : Plant → Type 0) (reading : DescriptionReading) (r : Result Description DescriptionFault)
    → ((d : Description) → r ≡ Ok d → P (plant_of d)) → (s : MachineState World Client)
    → P s.world.plant → P (after_reload (ads_device reading) (reloading s.world r) s).world.plant
unfolding world_after_reload
reload-plant P reading (Err fault) h s g = g
reload-plant P reading (Ok d) h s g = h d refl

-- something that each accepted plant has
abbrev HoldOfAccepted : (Plant → Type 0) → Type 0
HoldOfAccepted P = (d : Description) (signals : ℕ) → IsAccepted d signals → P (plant_of d)

event-plant : (P : Plant → Type 0) → HoldOfAccepted P → (reading : DescriptionReading) → ReadsAccepted reading → (s : MachineState World Client) (e : Event)
    → P s.world.plant → P (state_after_event (ads_device reading) s e).world.plant
unfolding state_after_event world_after_tick
event-plant P a reading h s (event.Opened n) g = g
event-plant P a reading h s (event.Piece n bytes) g =
    exchange-plant P (after_piece (ads_device reading) bytes) (piece-goes reading bytes) s (connection_of n s.connections) g
event-plant P a reading h s (event.Closed n) g = exchange-plant P with_gone gone-goes s (connection_of n s.connections) g
event-plant P a reading h s (event.Tick t) g = g
event-plant P a reading h s (event.Reload bytes) g =
    reload-plant P reading (reading bytes (length s.world.signals)) (λ d e. a d (length s.world.signals) (h bytes (length s.world.signals) d e)) s g
event-plant P a reading h s (event.Writable n) g = g

move-plant : (P : Plant → Type 0) → HoldOfAccepted P → (reading : DescriptionReading) → ReadsAccepted reading → (s : MachineState World Client) (m : Move)
    → P s.world.plant → P (state_after_move (server_step reading) s m).world.plant
unfolding state_after_move
move-plant P a reading h s (move.Event e) g = event-plant P a reading h s e g
move-plant P a reading h s (move.Took n offered bytes) g =
    exchange-plant P (with_took (length bytes)) (took-goes (length bytes)) s (connection_of n s.connections) g
move-plant P a reading h s (move.Lost n) g = exchange-plant P with_gone gone-goes s (connection_of n s.connections) g
move-plant P a reading h s (move.Shut n) g = exchange-plant P with_gone gone-goes s (connection_of n s.connections) g

log-plant : (P : Plant → Type 0) → HoldOfAccepted P → (reading : DescriptionReading) → ReadsAccepted reading → (log : List Move) (s : MachineState World Client)
    → P s.world.plant → P (state_after (server_step reading) s log).world.plant
unfolding state_after
log-plant P a reading h [] s g = g
log-plant P a reading h (m ∷ ms) s g = log-plant P a reading h ms (state_after_move (server_step reading) s m) (move-plant P a reading h s m g)

pub every_plant : (P : Plant → Type 0) → HoldOfAccepted P → (reading : DescriptionReading)
    → ReadsAccepted reading → (profile : Profile) (d : Description) (signals : List Wave) → IsAccepted d (length signals)
    → (log : List Move) → P (state_after (server_step reading) (start_in profile d signals) log).world.plant
every_plant P a reading h profile d signals accepted log = log-plant P a reading h log (start_in profile d signals) (a d (length signals) accepted)
