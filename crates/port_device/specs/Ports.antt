-- The port that the code's value is. No public clause cites this file.
use Rattle.std.specs.Prelude.{◌≡◌, ◌≤◌, ℕ, List, length, Option, Bool, IsTrue}
use Rattle.std.specs.List.{list_all}
use Rattle.std.specs.Arc.{arc_value}
use Rattle.spec_plant.specs.Description.{Port}
use Rattle.spec_plant.specs.Accepted.{image_size, IMAGE_LIMIT}
use Rattle.type_layout.specs.declared.port.Sizes.{Sizes}
use Rattle.type_layout.specs.Descriptions.{sizes_of, facts_of}
use Rattle.type_layout.specs.NamedTypes.{types_of}
use Rattle.symbol_table.specs.Tables.{IsTableOf}
use Rattle.port_device.specs.declared.port.Port.TheInside.{Inside}
use Rattle.port_device.specs.declared.uploads.UploadSizes.{UploadSizes}
use Rattle.port_device.specs.Uploads.{AreUploadSizes, has_short_texts}
use Rattle.port_device.specs.Manners.{manner_of}
use Rattle.port_device.specs.PortMemory.{PortMemory}
use Rattle.port_device.specs.Signals.{AreBound}
use Rattle.port_device.specs.Marks.{AreMarks}

abbrev pub memory_in : Inside → PortMemory
memory_in p = record {
  types = types_of (arc_value p.types);
  number = p.ams_port;
  facts = facts_of p.facts;
  table = p.table;
  manner = manner_of p.manner;
  bytes = record { image = p.image; ads = p.ads; device = p.device; version = p.version };
}

-- the port of an accepted description, with all its bytes, the lengths of its uploads, which symbols its signals write, and the
-- marks of those that not everybody may write
pub record IsPortMemory (sizes : Sizes) (uploads : UploadSizes) (bound : List (Option ℕ)) (marks : List Bool) (m : PortMemory) : Type 0 where
  pub port : Port
  pub table : IsTableOf m.types port m.table
  pub sizes_are : m.table.sizes ≡ sizes_of sizes
  pub few : image_size m.table.sizes ≤ IMAGE_LIMIT
  pub bytes : length m.bytes.image ≡ image_size m.table.sizes
  pub texts : IsTrue (list_all has_short_texts m.table.symbols)
  pub uploads_are : AreUploadSizes m.types m.table uploads
  pub bound_are : AreBound bound m.table.symbols
  pub marks_are : AreMarks m.table.sizes marks m.table.symbols
