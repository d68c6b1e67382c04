-- The descriptions, ports and symbols that the code's values are.
use Rattle.std.specs.Prelude.{ℕ, List, map}
use Rattle.spec_plant.specs.Description as plant
use Rattle.type_layout.specs.Shapes.{shape_of}
use Rattle.type_layout.specs.NamedTypes.{types_of}
use Rattle.ads_base.specs.declared.net_id.NetId.{NetId}
use Rattle.type_layout.specs.declared.port.Area.{Area}
use Rattle.type_layout.specs.declared.port.Area.TheVariants as area
use Rattle.type_layout.specs.declared.port.Sizes.{Sizes}
use Rattle.type_layout.specs.declared.port.DeviceFacts4.{DeviceFacts4}
use Rattle.type_layout.specs.declared.port.SymbolDesc.{SymbolDesc}
use Rattle.type_layout.specs.declared.port.PortDesc.{PortDesc}
use Rattle.type_layout.specs.declared.description.Rights.{Rights}
use Rattle.type_layout.specs.declared.description.Rights.TheVariants as rights
use Rattle.type_layout.specs.declared.description.RouteDesc.{RouteDesc}
use Rattle.type_layout.specs.declared.description.Description.{Description}

abbrev pub area_of : Area → plant.Area
area_of area.Inputs = plant.Inputs
area_of area.Outputs = plant.Outputs
area_of area.Memory = plant.Memory
area_of area.Process = plant.Process

abbrev pub rights_of : Rights → plant.Rights
rights_of rights.Read = plant.Read
rights_of rights.Write = plant.Write
rights_of rights.Control = plant.Control

abbrev pub route_of : RouteDesc → plant.Route
route_of r = record { net = r.net.bytes; rights = rights_of r.rights }

abbrev pub routes_of : List RouteDesc → List plant.Route
routes_of routes = map route_of routes

abbrev pub sizes_of : Sizes → plant.Sizes
sizes_of s = record { inputs = s.inputs; outputs = s.outputs; memory = s.memory; process = s.process }

abbrev pub facts_of : DeviceFacts4 → plant.Facts
facts_of f = record { major = f.major; minor = f.minor; build = f.build; name = f.name }

abbrev pub nets_of : List NetId → List (List ℕ)
nets_of nets = map (λ (n : NetId). n.bytes) nets

abbrev pub symbol_of : SymbolDesc → plant.Symbol
symbol_of s = record {
  name = s.name;
  shape = shape_of s.kind;
  area = area_of s.area;
  offset = s.«at»;
  comment = s.comment;
  persistent = s.persistent;
  read_only = s.read_only;
  initial = s.initial;
  signal = s.signal;
  writers = nets_of s.writers;
}

abbrev pub symbols_of : List SymbolDesc → List plant.Symbol
symbols_of symbols = map symbol_of symbols

abbrev pub port_of : PortDesc → plant.Port
port_of p = record {
  number = p.port;
  facts = facts_of p.facts;
  sizes = sizes_of p.sizes;
  symbols = symbols_of p.symbols;
}

abbrev pub ports_of : List PortDesc → List plant.Port
ports_of ports = map port_of ports

abbrev pub description_of : Description → plant.Description
description_of d = record {
  net = d.net.bytes;
  routes = routes_of d.routes;
  types = types_of d.types;
  ports = ports_of d.ports;
}
