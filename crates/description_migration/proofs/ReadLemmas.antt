-- What stands behind a part of a document that was read.
use Rattle.std.proofs.Common.{◌≡◌, Bool, true, false, [], Option, Some, None, option_map, refl, subst}
use Rattle.std.specs.Prelude.{codes, pos, option_and_then}
use Rattle.std.proofs.lemmas.Option.{same_Some}
use Rattle.toml.specs.Data.{Members, as_str, as_integer}
use Rattle.spec_rules.specs.Fields.{only_keys, required, optional, tables_of, if_so}
use Rattle.spec_rules.specs.Written.{WrittenPort, Document}
use Rattle.spec_rules.specs.Tables.{route_in, type_in, symbol_in, port_in, port_keys, is_two, document_keys, document_in}

pub bind_some : {A B : Type 0} (f : A → Option B) (o : Option A) (y : B) → option_and_then f o ≡ Some y → (x : A) × (o ≡ Some x) × (f x ≡ Some y)
bind_some f None y h = cc
bind_some f (Some x) y h = (x, refl, h)

pub so_some : {A : Type 0} (b : Bool) (o : Option A) (y : A) → if_so b o ≡ Some y → (b ≡ true) × (o ≡ Some y)
so_some true o y h = (refl, h)
so_some false o y h = cc

pub map_some : {A B : Type 0} (f : A → B) (o : Option A) (y : B) → option_map f o ≡ Some y → (x : A) × (o ≡ Some x) × (f x ≡ y)
map_some f None y h = cc
map_some f (Some x) y h = (x, refl, let same : f x ≡ y = cc in same)

-- a document's parts
pub record IsDocumentRead (t : Members) (d : Document) : Type 0 where
  pub keys : only_keys document_keys t ≡ true
  pub schema : required as_integer (codes "schema") t ≡ Some d.schema
  pub net : required as_str (codes "net") t ≡ Some d.net
  pub routes : optional (tables_of route_in) [] (codes "route") t ≡ Some d.routes
  pub types : optional (tables_of (type_in (is_two d.schema))) [] (codes "type") t ≡ Some d.types
  pub ports : required (tables_of (port_in (is_two d.schema))) (codes "port") t ≡ Some d.ports

pub document_read : (t : Members) (d : Document) → document_in t ≡ Some d → IsDocumentRead t d
unfolding document_in
document_read t d h =
    let (keys, body) = so_some (only_keys document_keys t) _ d h in
    let (schema, schema_is, b1) = bind_some _ (required as_integer (codes "schema") t) d body in
    let (net, net_is, b2) = bind_some _ (required as_str (codes "net") t) d b1 in
    let (routes, routes_is, b3) = bind_some _ (optional (tables_of route_in) [] (codes "route") t) d b2 in
    let (types, types_is, b4) = bind_some _ (optional (tables_of (type_in (is_two schema))) [] (codes "type") t) d b3 in
    let (ports, ports_is, b5) = bind_some _ (required (tables_of (port_in (is_two schema))) (codes "port") t) d b4 in
    let made : Document = record { schema = schema; net = net; routes = routes; types = types; ports = ports } in
    let whole : made ≡ d = same_Some made d b5 in
    let P : Document → Type 0 = λ x. IsDocumentRead t x in
    subst P whole (record { keys = keys; schema = schema_is; net = net_is; routes = routes_is; types = types_is; ports = ports_is })

pub document_from : (t : Members) (d : Document) → IsDocumentRead t d → document_in t ≡ Some d
unfolding document_in
document_from t d r = rw (r.keys, r.schema, r.net, r.routes, r.types, r.ports) refl

-- a port's parts
pub record IsPortRead (second : Bool) (t : Members) (p : WrittenPort) : Type 0 where
  pub keys : only_keys port_keys t ≡ true
  pub number : required as_integer (codes "port") t ≡ Some p.number
  pub name : required as_str (codes "name") t ≡ Some p.name
  pub major : required as_integer (codes "major") t ≡ Some p.major
  pub minor : required as_integer (codes "minor") t ≡ Some p.minor
  pub build : required as_integer (codes "build") t ≡ Some p.build
  pub inputs : optional as_integer (pos 0) (codes "inputs") t ≡ Some p.inputs
  pub outputs : optional as_integer (pos 0) (codes "outputs") t ≡ Some p.outputs
  pub memory : optional as_integer (pos 0) (codes "memory") t ≡ Some p.memory
  pub process : optional as_integer (pos 0) (codes "data") t ≡ Some p.process
  pub symbols : optional (tables_of (symbol_in second)) [] (codes "symbol") t ≡ Some p.symbols

pub port_read : (second : Bool) (t : Members) (p : WrittenPort) → port_in second t ≡ Some p → IsPortRead second t p
unfolding port_in
port_read second t p h =
    let (keys, body) = so_some (only_keys port_keys t) _ p h in
    let (number, number_is, b1) = bind_some _ (required as_integer (codes "port") t) p body in
    let (name, name_is, b2) = bind_some _ (required as_str (codes "name") t) p b1 in
    let (major, major_is, b3) = bind_some _ (required as_integer (codes "major") t) p b2 in
    let (minor, minor_is, b4) = bind_some _ (required as_integer (codes "minor") t) p b3 in
    let (build, build_is, b5) = bind_some _ (required as_integer (codes "build") t) p b4 in
    let (inputs, inputs_is, b6) = bind_some _ (optional as_integer (pos 0) (codes "inputs") t) p b5 in
    let (outputs, outputs_is, b7) = bind_some _ (optional as_integer (pos 0) (codes "outputs") t) p b6 in
    let (memory, memory_is, b8) = bind_some _ (optional as_integer (pos 0) (codes "memory") t) p b7 in
    let (process, process_is, b9) = bind_some _ (optional as_integer (pos 0) (codes "data") t) p b8 in
    let (symbols, symbols_is, b10) = bind_some _ (optional (tables_of (symbol_in second)) [] (codes "symbol") t) p b9 in
    let made : WrittenPort =
    record {
      number = number;
      name = name;
      major = major;
      minor = minor;
      build = build;
      inputs = inputs;
      outputs = outputs;
      memory = memory;
      process = process;
      symbols = symbols;
    } in
    let whole : made ≡ p = same_Some made p b10 in
    let P : WrittenPort → Type 0 = λ x. IsPortRead second t x in
    subst P whole (record {
      keys = keys;
      number = number_is;
      name = name_is;
      major = major_is;
      minor = minor_is;
      build = build_is;
      inputs = inputs_is;
      outputs = outputs_is;
      memory = memory_is;
      process = process_is;
      symbols = symbols_is;
    })

pub port_from : (second : Bool) (t : Members) (p : WrittenPort) → IsPortRead second t p → port_in second t ≡ Some p
unfolding port_in
port_from second t p r =
    rw (r.keys, r.number, r.name, r.major, r.minor, r.build, r.inputs, r.outputs, r.memory, r.process, r.symbols) refl
