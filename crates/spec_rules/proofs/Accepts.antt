-- Each description that the verdict gives is an accepted one.
use Rattle.std.proofs.Common.{◌≡◌, ℕ, suc, ◌<◌, ◌≤◌, Bool, true, false, List, [], ◌∷◌, ◌++◌, length, map, refl, sym, ◌∙◌, ap, subst, arith, inl, inr}
use Rattle.std.specs.Prelude.{Option, Some, None, Ok, is_some, option_map, ◌&&◌, ◌==◌, not, nat_le, nat_lt, bytes_eq, flat_map, ℤ, pos, negsuc, if◌then◌else◌}
use Rattle.std.specs.Option.{option_map_or}
use Rattle.std.specs.List.{list_all, filter_map}
use Rattle.std.proofs.lemmas.Bool.{cases_Bool, and_parts, leb-true, ltb-true}
use Rattle.std.proofs.lemmas.List.{length-map}
use Rattle.std.proofs.lemmas.List.Folds.{list_all-append}
use Rattle.toml.specs.Data.{Members}
use Rattle.spec_plant.specs.Listed.{NamedType}
use Rattle.spec_plant.specs.Description.{Route, Symbol, Port, Description}
use Rattle.spec_plant.specs.AcceptedTypes.{AreTypes, all_pairs, is_same_number}
use Rattle.spec_plant.specs.Accepted.{IsAccepted, IMAGE_LIMIT, are_two_nets, is_signal_right, is_port, signals_of}
use Rattle.spec_rules.specs.Written.{WrittenRoute, WrittenSymbol, WrittenPort, Document}
use Rattle.spec_rules.specs.Places.{first_wrong, first_through}
use Rattle.spec_rules.specs.Nets.{net_of}
use Rattle.spec_plant.specs.Shapes.{shape_of_text}
use Rattle.spec_rules.specs.Described.{symbol_described, port_described, route_described, shape_described, natural_of, types_described, description_of}
use Rattle.spec_rules.specs.Tables.{is_two, document_in}
use Rattle.spec_rules.specs.RouteRules.{wrong_net, is_right_route}
use Rattle.spec_rules.specs.PortRules.{image_limit, is_between, is_port_name, has_right_sizes, is_right_port, wrong_port, has_right_upload, wrong_upload}
use Rattle.spec_rules.specs.SymbolRules.{is_right_name, wrong_name, is_small, wrong_type, is_right_place}
use Rattle.spec_rules.specs.SymbolRules.{wrong_place, is_right_content, wrong_content, is_signal}
use Rattle.spec_rules.specs.SymbolRules.{has_other_signal, is_right_signal, wrong_signal}
use Rattle.spec_rules.specs.Verdict.{BrokenRule, first_broken, rules_of, judged, verdict_behind, table_verdict}
use Rattle.spec_rules.proofs.FirstWrong.{both_true, option_map-none, first_right, first_through-none, AreRight, are_right, all_pairs-mapped}
use Rattle.spec_rules.proofs.TypesAccepted.{lesser-none, when_all, accepted_types}
use Rattle.spec_rules.proofs.SymbolsAccepted.{two_nets, all_pairs-described, signal_good}
use Rattle.spec_rules.proofs.PortsAccepted.{facts_good, port_good, two_numbers}

-- routes
routes_good : (net : List ℕ) (routes : List WrittenRoute) → wrong_net net routes ≡ None
    → all_pairs are_two_nets (map (λ (r : Route). r.net) (map route_described routes)) ≡ true
unfolding wrong_net
routes_good net routes h =
    let none = (when_all (is_some (net_of net)) (option_map suc (first_wrong is_right_route [] routes)) h).1 in
    let wrong = option_map-none suc (first_wrong is_right_route [] routes) none in
    let right = are_right is_right_route (λ (r : WrittenRoute). is_some (net_of r.net))
    (λ (e r : WrittenRoute). not (bytes_eq e.net r.net)) (λ before r g. and_parts _ _ g) [] routes wrong in
    all_pairs-mapped (λ (r : Route). r.net) are_two_nets (map route_described routes)
    (all_pairs-described (λ (r : WrittenRoute). is_some (net_of r.net))
    (λ (e r : WrittenRoute). not (bytes_eq e.net r.net)) (λ (x y : Route). are_two_nets x.net y.net) route_described
    (λ x y f g e. two_nets x.net y.net f g e) routes right.each right.pairs)

-- signals
abbrev other_signals : WrittenSymbol → WrittenSymbol → Bool
other_signals e s = option_map_or (λ n. has_other_signal n e) s.signal true

no_signal_before : (before : List WrittenSymbol) (s : WrittenSymbol) (o : Option ℤ) → s.signal ≡ o
    → option_map_or (λ n. list_all (has_other_signal n) before) o true ≡ true → list_all (λ e. option_map_or (λ n. has_other_signal n e) o true) before ≡ true
no_signal_before [] s o e h = refl
no_signal_before (x ∷ xs) s None e h = no_signal_before xs s None e h
no_signal_before (x ∷ xs) s (Some n) e h = h

-- a signal is there, and no earlier symbol has it
signal_parts : (signals : ℕ) (before : List WrittenSymbol) (b : Bool) (o : Option ℤ)
    → option_map_or (λ n. is_signal signals n && list_all (has_other_signal n) before && b) o true ≡ true
    → (option_map_or (is_signal signals) o true ≡ true) × (option_map_or (λ n. list_all (has_other_signal n) before) o true ≡ true)
signal_parts signals before b None h = (refl, refl)
signal_parts signals before b (Some n) h =
    let outer = and_parts (is_signal signals n && list_all (has_other_signal n) before) b h in
    and_parts (is_signal signals n) (list_all (has_other_signal n) before) (outer.0)

right_signals : (types : List NamedType) (signals : ℕ) (ss : List WrittenSymbol) → first_wrong (is_right_signal types signals) [] ss ≡ None
    → AreRight (λ (s : WrittenSymbol). option_map_or (is_signal signals) s.signal true) other_signals [] ss
right_signals types signals ss h =
    are_right (is_right_signal types signals) (λ (s : WrittenSymbol). option_map_or (is_signal signals) s.signal true) other_signals says [] ss h
  where
    says : (before : List WrittenSymbol) (s : WrittenSymbol) → is_right_signal types signals before s ≡ true
        → (option_map_or (is_signal signals) s.signal true ≡ true) × (list_all (λ e. other_signals e s) before ≡ true)
    says before s g =
        let parts = signal_parts signals before (Rattle.spec_plant.specs.Accepted.may_have_signal (shape_described types s.type)) s.signal g in
        (parts.0, no_signal_before before s s.signal refl (parts.1))

each_signal : (types : List NamedType) (signals : ℕ) (before ss : List WrittenSymbol) → first_wrong (is_right_signal types signals) before ss ≡ None
    → list_all (λ (s : WrittenSymbol). is_signal_right signals (shape_described types s.type) (option_map natural_of s.signal)) ss ≡ true
each_signal types signals before [] h = refl
each_signal types signals before (s ∷ ss) h =
    let first = first_right (is_right_signal types signals) before s ss h in
    both_true (is_signal_right signals (shape_described types s.type) (option_map natural_of s.signal)) _
    (signal_good types signals (shape_described types s.type) before s.signal (first.0)) (each_signal types signals (before ++ s ∷ []) ss (first.1))

list_all-flat : {X Y : Type 0} (test : Y → Bool) (f : X → List Y) (xs : List X)
    → list_all test (flat_map f xs) ≡ true → list_all (λ x. list_all test (f x)) xs ≡ true
list_all-flat test f [] h = refl
list_all-flat test f (x ∷ xs) h =
    let parts = and_parts (list_all test (f x)) (list_all test (flat_map f xs)) (sym (list_all-append test (f x) (flat_map f xs)) ∙ h) in
    both_true (list_all test (f x)) (list_all (λ y. list_all test (f y)) xs) (parts.0) (list_all-flat test f xs (parts.1))

map-append : {X Y : Type 0} (f : X → Y) (xs ys : List X) → map f (xs ++ ys) ≡ map f xs ++ map f ys
map-append f [] ys = refl
map-append f (x ∷ xs) ys = ap (λ rest. f x ∷ rest) (map-append f xs ys)

symbols_described : (types : List NamedType) (ports : List WrittenPort)
    → flat_map (λ (p : Port). p.symbols) (map (port_described types) ports) ≡ map (symbol_described types) (flat_map (λ (p : WrittenPort). p.symbols) ports)
symbols_described types [] = refl
symbols_described types (p ∷ ps) =
    ap (λ rest. map (symbol_described types) p.symbols ++ rest) (symbols_described types ps)
    ∙ sym (map-append (symbol_described types) p.symbols (flat_map (λ (q : WrittenPort). q.symbols) ps))

-- the numbers of signals of symbols
abbrev ne : ℕ → ℕ → Bool
ne m n = not (m == n)

two_signals : (signals : ℕ) (y z : ℤ) → is_signal signals y ≡ true → is_signal signals z ≡ true
    → not (is_same_number y z) ≡ true → ne (natural_of y) (natural_of z) ≡ true
two_signals signals (pos m) (pos n) f g h = h
two_signals signals (pos m) (negsuc n) f g h = cc
two_signals signals (negsuc m) z f g h = cc

beside_signal : (types : List NamedType) (signals : ℕ) (x : WrittenSymbol) (z : ℤ) (ss : List WrittenSymbol) → x.signal ≡ Some z → is_signal signals z ≡ true
    → list_all (λ (s : WrittenSymbol). option_map_or (is_signal signals) s.signal true) ss ≡ true → list_all (other_signals x) ss ≡ true
    → list_all (ne (natural_of z)) (filter_map (λ (s : Symbol). s.signal) (map (symbol_described types) ss)) ≡ true
beside_signal types signals x z [] e f h g = refl
beside_signal types signals x z (s ∷ ss) e f h g =
    let a = and_parts _ _ h in
    let b = and_parts _ _ g in
    let rest = beside_signal types signals x z ss e f (a.1) (b.1) in
    go s.signal (a.0) (b.0) rest
  where
    go : (o : Option ℤ) → option_map_or (is_signal signals) o true ≡ true → option_map_or (λ n. has_other_signal n x) o true ≡ true
        → list_all (ne (natural_of z)) (filter_map (λ (t : Symbol). t.signal) (map (symbol_described types) ss)) ≡ true
        → list_all (ne (natural_of z))
        (Rattle.std.specs.List.cons_option (option_map natural_of o) (filter_map (λ (t : Symbol). t.signal) (map (symbol_described types) ss))) ≡ true
    go None p q r = r
    go (Some w) p q r =
        let other : not (is_same_number z w) ≡ true = rw e at q in
        both_true (ne (natural_of z) (natural_of w)) _ (two_signals signals z w f p other) r

signals_once : (types : List NamedType) (signals : ℕ) (ss : List WrittenSymbol)
    → list_all (λ (s : WrittenSymbol). option_map_or (is_signal signals) s.signal true) ss ≡ true → all_pairs other_signals ss ≡ true
    → all_pairs ne (filter_map (λ (s : Symbol). s.signal) (map (symbol_described types) ss)) ≡ true
signals_once types signals [] h g = refl
signals_once types signals (s ∷ ss) h g =
    let a = and_parts _ _ h in
    let b = and_parts (list_all (other_signals s) ss) (all_pairs other_signals ss) g in
    let rest = signals_once types signals ss (a.1) (b.1) in
    go s.signal refl (a.0) rest (λ z e f. beside_signal types signals s z ss e f (a.1) (b.0))
  where
    go : (o : Option ℤ) → s.signal ≡ o → option_map_or (is_signal signals) o true ≡ true
        → all_pairs ne (filter_map (λ (t : Symbol). t.signal) (map (symbol_described types) ss)) ≡ true
        → ((z : ℤ) → s.signal ≡ Some z → is_signal signals z ≡ true
        → list_all (ne (natural_of z)) (filter_map (λ (t : Symbol). t.signal) (map (symbol_described types) ss)) ≡ true)
        → all_pairs ne (Rattle.std.specs.List.cons_option (option_map natural_of o)
        (filter_map (λ (t : Symbol). t.signal) (map (symbol_described types) ss))) ≡ true
    go None e p r beside = r
    go (Some z) e p r beside = both_true _ (all_pairs ne (filter_map (λ (t : Symbol). t.signal) (map (symbol_described types) ss))) (beside z e p) r

-- ports
abbrev no_wrong : (WrittenPort → List WrittenSymbol → WrittenSymbol → Bool) → List WrittenPort → List WrittenPort → Option ℕ
no_wrong is_right before ports =
    first_through (λ (p : WrittenPort). length p.symbols) (λ b (p : WrittenPort). first_wrong (is_right p) [] p.symbols) before ports

-- what the rules say of ports behind some others
record AreRightPorts (types : List NamedType) (signals limit : ℕ) (before ports : List WrittenPort) : Type 0 where
  facts : first_wrong (is_right_port limit) before ports ≡ None
  names : no_wrong (λ p. is_right_name) before ports ≡ None
  types_ : no_wrong (λ p b (s : WrittenSymbol). option_map_or (is_small types) (shape_of_text types s.type) false) before ports ≡ None
  places : no_wrong (is_right_place types) before ports ≡ None
  contents : no_wrong (λ p b (s : WrittenSymbol). is_right_content types s) before ports ≡ None
  signals_ : list_all (λ (p : WrittenPort). list_all
      (λ (s : WrittenSymbol). is_signal_right signals (shape_described types s.type) (option_map natural_of s.signal)) p.symbols) ports ≡ true
  uploads : first_wrong (λ b p. has_right_upload types p) before ports ≡ None

through : (is_right : WrittenPort → List WrittenSymbol → WrittenSymbol → Bool) (before : List WrittenPort) (p : WrittenPort) (ps : List WrittenPort)
    → no_wrong is_right before (p ∷ ps) ≡ None
    → (first_wrong (is_right p) [] p.symbols ≡ None) × (no_wrong is_right (before ++ p ∷ []) ps ≡ None)
through is_right before p ps h =
    first_through-none (λ (q : WrittenPort). length q.symbols) (λ b (q : WrittenPort). first_wrong (is_right q) [] q.symbols) before p ps h

ports_good : (types : List NamedType) (signals limit : ℕ) (before ps : List WrittenPort)
    → AreTypes types → limit ≤ IMAGE_LIMIT → AreRightPorts types signals limit before ps
    → list_all (is_port types signals) (map (port_described types) ps) ≡ true
ports_good types signals limit before [] a most r = refl
ports_good types signals limit before (p ∷ ps) a most r =
    let fact = first_right (is_right_port limit) before p ps r.facts in
    let name = through (λ q. is_right_name) before p ps r.names in
    let type = through (λ q b (s : WrittenSymbol). option_map_or (is_small types) (shape_of_text types s.type) false) before p ps r.types_ in
    let place = through (is_right_place types) before p ps r.places in
    let content = through (λ q b (s : WrittenSymbol). is_right_content types s) before p ps r.contents in
    let signal = and_parts _ _ r.signals_ in
    let upload = first_right (λ b q. has_right_upload types q) before p ps r.uploads in
    let good = facts_good limit before p (fact.0) most in
    let here = port_good types signals p a good
    (record { names = name.0; types_ = type.0; places = place.0; contents = content.0; signals_ = signal.0 }) (upload.0) in
    let rest = ports_good types signals limit (before ++ p ∷ []) ps a most (record {
      facts = fact.1;
      names = name.1;
      types_ = type.1;
      places = place.1;
      contents = content.1;
      signals_ = signal.1;
      uploads = upload.1;
    }) in
    both_true (is_port types signals (port_described types p)) (list_all (is_port types signals) (map (port_described types) ps)) here rest

limit_most : (schema : ℤ) → image_limit schema ≤ IMAGE_LIMIT
limit_most schema =
    elim (cases_Bool (is_two schema)) [ inl t ↦ rw t (omega arith) | inr t ↦ rw t (omega arith) ]

-- the numbers of ports
right_numbers : (limit : ℕ) (ps : List WrittenPort) → first_wrong (is_right_port limit) [] ps ≡ None
    → AreRight (λ (p : WrittenPort). is_between 1 65535 p.number) (λ (e p : WrittenPort). not (is_same_number e.number p.number)) [] ps
right_numbers limit ps h =
    are_right (is_right_port limit) (λ (p : WrittenPort). is_between 1 65535 p.number)
    (λ (e p : WrittenPort). not (is_same_number e.number p.number)) says [] ps h
  where
    says : (before : List WrittenPort) (p : WrittenPort) → is_right_port limit before p ≡ true
        → (is_between 1 65535 p.number ≡ true) × (list_all (λ (e : WrittenPort). not (is_same_number e.number p.number)) before ≡ true)
    says before p g =
        let numbered = is_between 1 65535 p.number in
        let apart = list_all (λ (e : WrittenPort). not (is_same_number e.number p.number)) before in
        let version = is_between 0 255 p.major && is_between 0 255 p.minor && is_between 0 65535 p.build in
        let a = and_parts (numbered && apart && is_port_name p.name && version && has_right_sizes limit p) (nat_le (length p.symbols) 10000) g in
        let b = and_parts (numbered && apart && is_port_name p.name && version) (has_right_sizes limit p) (a.0) in
        let c = and_parts (numbered && apart && is_port_name p.name) version (b.0) in
        let d = and_parts (numbered && apart) (is_port_name p.name) (c.0) in
        and_parts numbered apart (d.0)

numbers_good : (types : List NamedType) (limit : ℕ) (ps : List WrittenPort) → first_wrong (is_right_port limit) [] ps ≡ None
    → all_pairs ne (map (λ (p : Port). p.number) (map (port_described types) ps)) ≡ true
numbers_good types limit ps h =
    let right = right_numbers limit ps h in
    all_pairs-mapped (λ (p : Port). p.number) ne (map (port_described types) ps)
    (all_pairs-described (λ (p : WrittenPort). is_between 1 65535 p.number)
    (λ (e p : WrittenPort). not (is_same_number e.number p.number)) (λ (x y : Port). ne x.number y.number) (port_described types)
    (λ x y f g e. two_numbers x.number y.number f g e) ps right.each right.pairs)

-- 1 to 16 ports
abbrev miscounted : ℕ → Option ℕ
miscounted n = if nat_lt 0 n && nat_le n 16 then None else Some 16

counted : (n : ℕ) → miscounted n ≡ None → (0 < n) × (n ≤ 16)
counted n h =
    elim (cases_Bool (nat_lt 0 n && nat_le n 16)) [
      | inl t ↦
          let parts = and_parts (nat_lt 0 n) (nat_le n 16) t in
          (ltb-true 0 n (parts.0), leb-true n 16 (parts.1))
      | inr t ↦ let f = rw t at h in cc
    ]

-- no rule is broken
abbrev pub AllHold : List (ℕ × Option ℕ) → Type 0
AllHold [] = Unit {0}
AllHold ((number, place) ∷ rules) = (place ≡ None) × AllHold rules

pub all_hold : (rules : List (ℕ × Option ℕ)) → first_broken rules ≡ None → AllHold rules
all_hold [] h = tt
all_hold ((number, None) ∷ rules) h = (refl, all_hold rules h)
all_hold ((number, Some place) ∷ rules) h = cc

judged-ok : (o : Option BrokenRule) (d x : Description) → judged o d ≡ Ok x → (o ≡ None) × (d ≡ x)
judged-ok None d x h = let same : d ≡ x = cc in (refl, same)
judged-ok (Some fault) d x h = cc

description_accepted : (signals : ℕ) (d : Document) → first_broken (rules_of signals d (types_described d.types)) ≡ None → IsAccepted (description_of d) signals
unfolding wrong_port wrong_name wrong_type wrong_place wrong_content wrong_signal wrong_upload
description_accepted signals d h =
    let types = types_described d.types in
    let rules = all_hold (rules_of signals d types) h in
    let from_4 = rules.1 in
    let from_6 = from_4.1.1 in
    let from_9 = from_6.1.1.1 in
    let from_12 = from_9.1.1.1 in
    let from_14 = from_12.1.1 in
    let a = accepted_types d.types (from_6.0) (from_6.1.0) (from_6.1.1.0) in
    let limit = image_limit d.schema in
    let flat = flat_map (λ (p : WrittenPort). p.symbols) d.ports in
    let port = lesser-none (first_wrong (is_right_port limit) [] d.ports) (miscounted (length d.ports)) (from_9.0) in
    let some = counted (length d.ports) (port.1) in
    let low = some.0 in
    let high = some.1 in
    let same_length = length-map d.ports (port_described types) in
    let signal = each_signal types signals [] flat (from_14.0) in
    let in_ports = list_all-flat (λ (s : WrittenSymbol). is_signal_right signals (shape_described types s.type) (option_map natural_of s.signal))
    (λ (p : WrittenPort). p.symbols) d.ports signal in
    let good = ports_good types signals limit [] d.ports a (limit_most d.schema) (record {
      facts = port.0;
      names = from_9.1.0;
      types_ = from_9.1.1.0;
      places = from_12.0;
      contents = from_12.1.0;
      signals_ = in_ports;
      uploads = from_14.1.0;
    }) in
    let right = right_signals types signals flat (from_14.0) in
    let once = signals_once types signals flat right.each right.pairs in
    record {
      routes = routes_good d.net d.routes (from_4.0);
      types = a;
      some_port = omega (arith, same_length, low);
      few_ports = omega (arith, same_length, high);
      numbers = numbers_good types limit d.ports (port.0);
      each_port = good;
      each_signal_once = rw (symbols_described types d.ports) once;
    }

-- the verdict's description is an accepted one
pub table_verdict-accepted : (signals : ℕ) (table : Members) (x : Description) → table_verdict signals table ≡ Ok x → IsAccepted x signals
table_verdict-accepted signals table x h = go (document_in table) h
  where
    go : (o : Option Document) → verdict_behind signals o ≡ Ok x → IsAccepted x signals
    go None f = cc
    go (Some d) f =
        let both = judged-ok (first_broken (rules_of signals d (types_described d.types))) (description_of d) x f in
        let P : Description → Type 0 = λ y. IsAccepted y signals in
        subst P (both.1) (description_accepted signals d (both.0))
