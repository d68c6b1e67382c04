-- Where no rule is broken, the numbers and texts of a document fit the values of a description.
use Rattle.std.proofs.Common.{◌≡◌, ℕ, ◌+◌, ◌-◌, ◌^◌, ◌<◌, ◌≤◌, Bool, true, List, [], ◌∷◌, ◌++◌, length, map}
use Rattle.std.proofs.Common.{replicate, sym, ap, ◌∙◌, arith, length-append, Vec, Global, Bor}
use Rattle.std.specs.Prelude.{Option, Some, None, Ok, is_some, option_map, IfSome, ℤ}
use Rattle.std.specs.List.{All, list_all}
use Rattle.std.proofs.lemmas.Bool.{and_parts, leb-true, ltb-true, eqb-true}
use Rattle.std.proofs.lemmas.Simd.{map-map}
use Rattle.std.proofs.lemmas.List.Elements.{All-nil, All-cons}
use Rattle.toml.specs.Data.{Members}
use Rattle.spec_plant.specs.Listed.{NamedType, Shape}
use Rattle.spec_plant.specs.Description as plant
use Rattle.spec_plant.specs.Accepted.{is_port, is_symbol, is_signal_right, image_size, size_of_symbol}
use Rattle.spec_rules.specs.Written as rules
use Rattle.spec_rules.specs.Places.{first_wrong, first_through}
use Rattle.spec_rules.specs.Nets.{net_of}
use Rattle.spec_rules.specs.Described.{natural_of, types_described, port_described, symbol_described, sizes_described, description_of}
use Rattle.spec_rules.specs.Tables.{document_in}
use Rattle.spec_rules.specs.RouteRules.{wrong_net, is_right_route}
use Rattle.spec_rules.specs.SymbolRules.{wrong_content, is_right_content, is_right_writer, are_right_writers}
use Rattle.spec_rules.specs.Verdict.{rules_of, judged, verdict_behind, table_verdict}
use Rattle.spec_rules.proofs.FirstWrong.{none_of, first_right, first_through-none, option_map-none}
use Rattle.spec_rules.proofs.TypesAccepted.{when_all}
use Rattle.spec_rules.proofs.Accepts.{all_hold, table_verdict-accepted}
use Rattle.description_table.specs.Views.{document_view, port_view, symbol_view, route_view, text_view}
use Rattle.description_table.specs.declared.written.WrittenSymbol.{WrittenSymbol}
use Rattle.description_table.specs.declared.written.WrittenPort.{WrittenPort}
use Rattle.description_table.specs.declared.written.Document.{Document}
use Rattle.symbol_file.specs.Judged.{fault_of}
use Rattle.symbol_file.specs.Fitting.{IsNetText, SymbolFits, PortFits, DocumentFits}

-- what holds of each that passes a test, where all pass
All-passing : {X Y : Type 0} (test : Y → Bool) (f : X → Y) (P : X → Type 0)
    → ((x : X) → test (f x) ≡ true → P x) → (xs : List X) → list_all test (map f xs) ≡ true → All P xs
All-passing test f P says [] h = All-nil P
All-passing test f P says (x ∷ xs) h =
    let parts = and_parts (test (f x)) (list_all test (map f xs)) h in
    All-cons P x xs (says x parts.0) (All-passing test f P says xs parts.1)

-- what holds of each that is right, where none is wrong
All-right : {X Y : Type 0} (is_right : List Y → Y → Bool) (f : X → Y) (P : X → Type 0) → ((before : List Y) (x : X) → is_right before (f x) ≡ true → P x)
    → (before : List Y) (xs : List X) → first_wrong is_right before (map f xs) ≡ None → All P xs
All-right is_right f P says before [] h = All-nil P
All-right is_right f P says before (x ∷ xs) h =
    let first = first_right is_right before (f x) (map f xs) h in
    All-cons P x xs (says before x first.0) (All-right is_right f P says (before ++ f x ∷ []) xs first.1)

All-both : {X : Type 0} (P Q R : X → Type 0) → ((x : X) → P x → Q x → R x) → (xs : List X) → All P xs → All Q xs → All R xs
All-both P Q R says xs p q k d h = says _ (p k d h) (q k d h)

-- writers
abbrev HasNets : WrittenSymbol → Type 0
HasNets s = IfSome s.writers (λ v. All (λ t. IsNetText t.now) v.items)

writers_fit : (types : List NamedType) (s : WrittenSymbol) → is_right_content types (symbol_view s) ≡ true → HasNets s
writers_fit types s h = go s.writers (and_parts _ _ h).1
  where
    go : (o : Option (Vec (Bor (List ℕ)) Global)) → are_right_writers (option_map (λ v. map text_view v.items) o) ≡ true
        → IfSome o (λ v. All (λ t. IsNetText t.now) v.items)
    go None e = tt
    go (Some v) e =
        let none = none_of (first_wrong is_right_writer [] (map text_view v.items)) (and_parts _ _ e).1 in
        All-right is_right_writer text_view (λ t. IsNetText t.now) (λ b t g. (and_parts _ _ g).0) [] v.items none

abbrev HaveNets : WrittenPort → Type 0
HaveNets p = All HasNets p.symbols.items

ports_have_nets : (types : List NamedType) (before : List rules.WrittenPort) (ports : List WrittenPort)
    → first_through (λ (p : rules.WrittenPort). length p.symbols)
    (λ b (p : rules.WrittenPort). first_wrong (λ c (s : rules.WrittenSymbol). is_right_content types s) [] p.symbols) before (map port_view ports) ≡ None
    → All HaveNets ports
ports_have_nets types before [] h = All-nil HaveNets
ports_have_nets types before (p ∷ ps) h =
    let first = first_through-none (λ (q : rules.WrittenPort). length q.symbols)
    (λ b (q : rules.WrittenPort). first_wrong (λ c (s : rules.WrittenSymbol). is_right_content types s) [] q.symbols) before
    (port_view p) (map port_view ps) h in
    All-cons HaveNets p ps
    (All-right (λ c s. is_right_content types s) symbol_view HasNets (λ b s g. writers_fit types s g) [] p.symbols.items first.0)
    (ports_have_nets types (before ++ port_view p ∷ []) ps first.1)

-- symbols
signal_fits : (signals : ℕ) (shape : Shape) (o : Option ℤ) → signals < 2 ^ 32
    → is_signal_right signals shape (option_map natural_of o) ≡ true → IfSome o (λ n. natural_of n < 2 ^ 32)
signal_fits signals shape None most h = tt
signal_fits signals shape (Some n) most h =
    let below = ltb-true (natural_of n) signals (and_parts _ _ h).0 in
    omega arith

size_in-most : (sizes : plant.Sizes) (area : plant.Area) → plant.size_in sizes area ≤ image_size sizes
size_in-most sizes plant.Inputs = omega arith
size_in-most sizes plant.Outputs = omega arith
size_in-most sizes plant.Memory = omega arith
size_in-most sizes plant.Process = omega arith

symbol_fits : (types : List NamedType) (sizes : plant.Sizes) (signals : ℕ) (s : WrittenSymbol) → signals < 2 ^ 32 → image_size sizes ≤ 4194304
    → is_symbol types sizes signals (symbol_described types (symbol_view s)) ≡ true → HasNets s → SymbolFits types s
symbol_fits types sizes signals s most image h nets =
    let described = symbol_described types (symbol_view s) in
    let a = and_parts _ _ h in
    let b = and_parts _ _ a.0 in
    let c = and_parts _ _ b.0 in
    let d = and_parts _ _ c.0 in
    let e = and_parts _ _ d.0 in
    let f = and_parts _ _ e.0 in
    let g = and_parts _ _ f.1 in
    let i = and_parts _ _ g.0 in
    let within : natural_of s.offset + size_of_symbol types described ≤ plant.size_in sizes described.area = leb-true _ _ e.1 in
    let inside = size_in-most sizes described.area in
    record {
      small = i.1;
      size = leb-true _ _ g.1;
      offset = omega arith;
      signal = signal_fits signals described.shape s.signal most a.1;
      writers = nets;
    }

-- ports
port_fits : (types : List NamedType) (signals : ℕ) (p : WrittenPort) → signals < 2 ^ 32
    → is_port types signals (port_described types (port_view p)) ≡ true → HaveNets p
    → PortFits types p
port_fits types signals p most h nets =
    let sizes = sizes_described (port_view p) in
    let a = and_parts _ _ h in
    let b = and_parts _ _ a.0 in
    let c = and_parts _ _ b.0 in
    let d = and_parts _ _ c.0 in
    let e = and_parts _ _ d.0 in
    let number : natural_of p.number ≤ 65535 = leb-true _ _ (and_parts _ _ e.0).1 in
    let f = and_parts _ _ e.1 in
    let g = and_parts _ _ f.0 in
    let i = and_parts _ _ g.0 in
    let major : natural_of p.major ≤ 255 = leb-true _ _ i.0 in
    let minor : natural_of p.minor ≤ 255 = leb-true _ _ i.1 in
    let build : natural_of p.build ≤ 65535 = leb-true _ _ g.1 in
    let filled : length (p.name.now ++ replicate (16 - length p.name.now) 0) ≡ 16 = eqb-true _ _ (and_parts _ _ f.1).0 in
    let whole = length-append p.name.now (replicate (16 - length p.name.now) 0) in
    let image : image_size sizes ≤ 4194304 = leb-true _ _ d.1 in
    let each = All-passing (is_symbol types sizes signals) (λ s. symbol_described types (symbol_view s))
    (λ s. is_symbol types sizes signals (symbol_described types (symbol_view s)) ≡ true)
    (λ s t. t) p.symbols.items
    (ap (list_all (is_symbol types sizes signals)) (sym (map-map (symbol_described types) symbol_view p.symbols.items)) ∙ (and_parts _ _ c.1).1) in
    record {
      number = omega arith;
      facts = record { major = omega arith; minor = omega arith; build = omega arith; name = omega arith };
      sizes = record { inputs = omega arith; outputs = omega arith; memory = omega arith; process = omega arith };
      symbols = All-both _ HasNets (SymbolFits types) (λ s right has. symbol_fits types sizes signals s most image right has) p.symbols.items each nets;
    }

pub verdict-right : (signals : ℕ) (table : Members) (d : rules.Document) → document_in table ≡ Some d → fault_of signals d ≡ None
    → table_verdict signals table ≡ Ok (description_of d)
verdict-right signals table d is none =
    ap (verdict_behind signals) is ∙ ap (λ o. judged o (description_of d)) none

pub document_fits : (signals : ℕ) (table : Members) (d : Document) → signals < 2 ^ 32 → document_in table ≡ Some (document_view d)
    → fault_of signals (document_view d) ≡ None → DocumentFits d
unfolding wrong_net wrong_content
document_fits signals table d most is none =
    let document = document_view d in
    let types = types_described document.types in
    let rules = all_hold (rules_of signals document types) none in
    let from_4 = rules.1 in
    let from_13 = from_4.1.1.1.1.1.1.1.1.1 in
    let net = when_all (is_some (net_of document.net)) _ (from_4.0) in
    let routes = option_map-none _ (first_wrong is_right_route [] document.routes) net.1 in
    let accepted = table_verdict-accepted signals table (description_of document) (verdict-right signals table document is none) in
    let each = All-passing (is_port types signals) (λ p. port_described types (port_view p))
    (λ p. is_port types signals (port_described types (port_view p)) ≡ true)
    (λ p t. t) d.ports.items (ap (list_all (is_port types signals)) (sym (map-map (port_described types) port_view d.ports.items)) ∙ accepted.each_port) in
    let nets = ports_have_nets types [] d.ports.items from_13.0 in
    record {
      net = net.0;
      routes = All-right is_right_route route_view (λ r. IsNetText r.net.now) (λ b r g. (and_parts _ _ g).0) [] d.routes.items routes;
      ports = All-both _ HaveNets (PortFits types) (λ p right have. port_fits types signals p most right have) d.ports.items each nets;
    }
