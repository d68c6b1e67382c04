-- Handles that agree have agreeing statuses, and what is looked up of them; a live handle's place is one of its port's table.
use Rattle.std.proofs.Common.{◌≡◌, ℕ, ◌+◌, ◌-◌, ◌≤◌, List, [], ◌∷◌, map, true, false, cond, refl, inl, inr, sym, ◌∙◌, ap, subst, arith}
use Rattle.std.specs.Prelude.{◌==◌, ◌&&◌, nat_le, bytes_eq, Option, Some, None, option_map, Result, Ok, Err, IfOk, slice_get}
use Rattle.std.specs.Option.{option_map_or}
use Rattle.std.proofs.lemmas.Bool.{cases_Bool, and_parts, eqb-true, leb-true, false≢true}
use Rattle.std.proofs.lemmas.Option.{slice_get-map}
use Rattle.return_codes.specs.declared.code.Code.{Code}
use Rattle.spec_plant.specs.Description.{Symbol}
use Rattle.spec_plant.specs.Listed.{NamedType}
use Rattle.spec_plant.specs.World.{PlantPort, PlantSymbol, plant_symbol, plant_port, symbol_size, lower_name, is_same_area}
use Rattle.spec_plant.proofs.BlockLemmas.{same_area-true}
use Rattle.spec_machine.specs.World.{World}
use Rattle.spec_machine.specs.Client as client
use Rattle.spec_machine.specs.Handles.{Handle, HandleStatus, Never, Released, Outdated, Live, handle_in, status_of_handle, kept_status, status_of}
use Rattle.spec_machine.specs.HandleLaws.{Test, AgreeingStatus, AgreeingHandles, handles_of}
use Rattle.spec_machine.specs.NumberedPlaces.{is_place_in, is_place_at}
use Rattle.spec_machine.proofs.HandleStatuses.{status_is_history}
use Rattle.symbol_table.specs.declared.place.Place.{Place}
use Rattle.symbol_table.specs.Tables.{TableSymbol, table_symbol}
use Rattle.sym_handles.specs.Kept.{Kept}
use Rattle.sym_handles.specs.History.{History, Represents, look_up}
use Rattle.type_layout.specs.Descriptions.{area_of}
use Rattle.port_device.specs.PortMemory.{PortMemory}
use Rattle.port_device.specs.Holds.{HoldsPort}
use Rattle.port_device.specs.Answers.{IsNamed, IsPlaceOf, numbered}
use Rattle.session.specs.StandsFor.{KeptFor, is_place_of}
use Rattle.session.specs.Asks.{LooksUp, SomeAsks}

-- the handle of a number, in both
pub statuses-agree : {P Q : Type 0} (test : Test P Q) (hs : List (Handle P)) (ks : List (Handle Q)) (n port : ℕ) → AgreeingHandles test hs ks
    → AgreeingStatus test port (status_of_handle port (handle_in hs n)) (status_of_handle port (handle_in ks n))
unfolding handle_in
statuses-agree test [] [] n port h = tt
statuses-agree {P} {Q} test (x ∷ xs) (y ∷ ys) n port h =
    elim (n == 1) as (λ b. AgreeingStatus test port (status_of_handle port (cond b (Some x) (handle_in xs (n - 1))))
    (status_of_handle port (cond b (Some y) (handle_in ys (n - 1))))) [
      | true ↦ here
      | false ↦ statuses-agree test xs ys (n - 1) port h.2
    ]
  where
    here : AgreeingStatus test port (status_of_handle port (Some x)) (status_of_handle port (Some y))
    here =
        let R : ℕ → Type 0 = λ k. AgreeingStatus test port (cond (x.port == port) x.status Never) (cond (k == port) y.status Never) in
        let own : R x.port = elim (cases_Bool (x.port == port)) [
          | inl e ↦ rw e (let S : ℕ → Type 0 = λ k. AgreeingStatus test k x.status y.status in subst S (eqb-true x.port port e) h.1)
          | inr e ↦ rw e tt
        ] in
        subst R (sym h.0) own
statuses-agree test [] (y ∷ ys) n port h = absurd h
statuses-agree test (x ∷ xs) [] n port h = absurd h

agreeing-looks : (ports : List PlantPort) (port : ℕ) (s : HandleStatus client.Place) (t : HandleStatus Place) → AgreeingStatus (is_place_of ports) port s t
    → LooksUp ports port s (look_up t)
agreeing-looks ports port Never Never h = refl
agreeing-looks ports port Released Released h = refl
agreeing-looks ports port Outdated Outdated h = refl
agreeing-looks ports port (Live named) (Live place) h = h
agreeing-looks ports port s t h = absurd h

pub looks-up : (ports : List PlantPort) (hs : List (Handle client.Place)) (kept : Kept) (handle port : ℕ) (answer : Result Place Code) → KeptFor ports hs kept
    → ((history : History) → Represents kept history → answer ≡ look_up (status_of history handle port))
    → LooksUp ports port (kept_status hs handle port) answer
looks-up ports hs kept handle port answer k said =
    let t = kept_status (handles_of k.history) handle port in
    let same : t ≡ status_of k.history handle port = status_is_history Place k.history handle port in
    let is : answer ≡ look_up t = said k.history k.represented ∙ ap look_up (sym same) in
    let Q : Result Place Code → Type 0 = λ r. LooksUp ports port (kept_status hs handle port) r in
    subst Q (sym is) (agreeing-looks ports port (kept_status hs handle port) t
    (statuses-agree (is_place_of ports) hs (handles_of k.history) handle port k.agree))

-- a place by name is one of the table

placed-in : (types : List NamedType) (symbols : List Symbol) (place : Place) (named : client.Place) (s : Symbol) → slice_get symbols place.symbol ≡ Some s
    → is_place_in named (numbered place) (plant_symbol types s) ≡ true
    → (t : TableSymbol) × (slice_get (map (table_symbol types) symbols) place.symbol ≡ Some t) × (area_of place.area ≡ t.area)
    × (t.offset ≤ place.«at») × (place.«at» + place.len ≤ t.offset + t.size)
placed-in types symbols place named s there is =
    let p = plant_symbol types s in
    let q = numbered place in
    let first : (bytes_eq (lower_name p) named.symbol && is_same_area q.area p.area && (q.first == p.offset + named.first) && (q.len == named.len) ≡ true)
    × (nat_le (named.first + named.len) (symbol_size p) ≡ true) = and_parts _ _ is in
    let second : (bytes_eq (lower_name p) named.symbol && is_same_area q.area p.area && (q.first == p.offset + named.first) ≡ true)
    × ((q.len == named.len) ≡ true) = and_parts _ _ first.0 in
    let third : (bytes_eq (lower_name p) named.symbol && is_same_area q.area p.area ≡ true)
    × ((q.first == p.offset + named.first) ≡ true) = and_parts _ _ second.0 in
    let fourth : (bytes_eq (lower_name p) named.symbol ≡ true) × (is_same_area q.area p.area ≡ true) = and_parts _ _ third.0 in
    let begins : place.«at» ≡ s.offset + named.first = eqb-true q.first (p.offset + named.first) third.1 in
    let long : place.len ≡ named.len = eqb-true q.len named.len second.1 in
    let ends : named.first + named.len ≤ symbol_size p = leb-true (named.first + named.len) (symbol_size p) first.1 in (
      table_symbol types s,
      slice_get-map (table_symbol types) symbols place.symbol ∙ ap (option_map (table_symbol types)) there,
      same_area-true q.area p.area fourth.1,
      omega (arith, begins),
      omega (arith, begins, long, ends),
    )

placed-at : (types : List NamedType) (symbols : List Symbol) (place : Place) (named : client.Place) (o : Option Symbol) → slice_get symbols place.symbol ≡ o
    → option_map_or (is_place_in named (numbered place)) (option_map (plant_symbol types) o) false ≡ true
    → (t : TableSymbol) × (slice_get (map (table_symbol types) symbols) place.symbol ≡ Some t) × (area_of place.area ≡ t.area)
    × (t.offset ≤ place.«at») × (place.«at» + place.len ≤ t.offset + t.size)
placed-at types symbols place named None there is = absurd (false≢true is)
placed-at types symbols place named (Some s) there is = placed-in types symbols place named s there is

pub named-placed : (w : World) (p : PlantPort) (m : PortMemory) (place : Place) (named : client.Place) → HoldsPort w p m → IsNamed w p place named
    → IsPlaceOf m.table place
named-placed w p m place named h is =
    let q = numbered place in
    let symbols = h.port.symbols in
    let P : Option PlantPort → Type 0 = λ o. option_map_or (is_place_at named q) o false ≡ true in
    let at_port : is_place_at named q p ≡ true = subst P h.sound.found is in
    let Q : PlantPort → Type 0 = λ k. is_place_at named q k ≡ true in
    let at_plant : is_place_at named q (plant_port m.types h.port) ≡ true = subst Q h.plant at_port in
    let R : Option PlantSymbol → Type 0 = λ o. option_map_or (is_place_in named q) o false ≡ true in
    let in_symbols : option_map_or (is_place_in named q) (option_map (plant_symbol m.types) (slice_get symbols place.symbol)) false ≡ true
    = subst R (slice_get-map (plant_symbol m.types) symbols place.symbol) at_plant in
    let own = placed-at m.types symbols place named (slice_get symbols place.symbol) refl in_symbols in
    let same : m.table.symbols ≡ map (table_symbol m.types) symbols = ap (λ t. t.symbols) h.table.same in
    record {
      symbol = own.0;
      there = ap (λ xs. slice_get xs place.symbol) same ∙ own.1;
      area = own.2;
      begins = own.3;
      ends = own.4;
    }

status-placed : (w : World) (p : PlantPort) (m : PortMemory) (s : HandleStatus client.Place) (answer : Result Place Code) → HoldsPort w p m
    → LooksUp w.plant.ports p.number s answer → IfOk answer (IsPlaceOf m.table)
status-placed w p m s (Err code) h looks = tt
status-placed w p m (Live named) (Ok place) h looks = named-placed w p m place named h looks
status-placed w p m Never (Ok place) h looks = absurd looks
status-placed w p m Released (Ok place) h looks = absurd looks
status-placed w p m Outdated (Ok place) h looks = absurd looks

-- the port of the memory has the port's number
pub port-number : (w : World) (p : PlantPort) (m : PortMemory) → HoldsPort w p m → m.number ≡ p.number
port-number w p m h = h.number ∙ sym (ap (λ (q : PlantPort). q.number) h.plant)

-- the place of a live handle is one of the table
pub looked-placed : (m : PortMemory) (kept : Kept) (handle number : ℕ) (answer : Result Place Code) → SomeAsks m kept → number ≡ m.number
    → ((history : History) → Represents kept history → answer ≡ look_up (status_of history handle number)) → IfOk answer (IsPlaceOf m.table)
looked-placed m kept handle number answer some is said =
    let a = some.asking in
    let p = a.asker.port in
    let h = some.asks.held in
    let same : number ≡ p.number = is ∙ port-number a.world p m h in
    let looks : LooksUp a.world.plant.ports number (kept_status a.client.handles handle number) answer
    = looks-up a.world.plant.ports a.client.handles kept handle number answer some.asks.handles said in
    let P : ℕ → Type 0 = λ n. LooksUp a.world.plant.ports n (kept_status a.client.handles handle n) answer in
    status-placed a.world p m (kept_status a.client.handles handle p.number) answer h (subst P same looks)
