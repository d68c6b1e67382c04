use Rattle.std.proofs.Common.{◌≡◌, List, length, map, drop}
use Rattle.std.specs.List.{All}
use Rattle.spec_plant.specs.Accepted.{image_size}
use Rattle.spec_plant.specs.Listed.{NamedType}
use Rattle.type_layout.specs.Descriptions.{sizes_of}
use Rattle.port_device.specs.PlacedBytes.{with_all_bytes}
use Rattle.port_device.specs.Reloaded.{AreCompared, IsTypedRow, reloaded_row}
use Rattle.port_device.proofs.kept.put_reloaded.Given as goal

-- the rows that are left, put into the image so far, make what all rows make
abbrev pub invariant-loop-row : goal.invariant-loop-row
invariant-loop-row l = record {
  long : length l.image ≡ image_size (sizes_of l.sizes);
  left : (types : List NamedType) → AreCompared l.was.types types l.same → All (IsTypedRow types) l.rows
      → with_all_bytes (sizes_of l.sizes) l.image (map (reloaded_row types l.was) (drop l.row-index l.rows))
      ≡ with_all_bytes (sizes_of l.sizes) l.initial.image (map (reloaded_row types l.was) l.rows);
}
