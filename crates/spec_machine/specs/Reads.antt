-- Read: what each group gives. Beckhoff Information System, "ADS Read".
use Rattle.std.specs.Prelude.{ℕ, List, [], ◌∷◌, length, nat_lt, if◌then◌else◌, Option, Some}
use Rattle.std.specs.Prelude.{Result, Ok, Err}
use Rattle.std.specs.Int.{w32, to_le_bytes}
use Rattle.spec_plant.specs.Description.{size_in}
use Rattle.spec_plant.specs.World.{PlantPort}
use Rattle.spec_formats.specs.Codes.{invalid_size}
use Rattle.spec_formats.specs.Ranges.{greatest_len}
use Rattle.spec_formats.specs.Groups.{Group, AreaSize, SymbolVersion, SymbolUpload, UploadInfo}
use Rattle.spec_formats.specs.Groups.{TypeUpload, UploadInfoWithTypes}
use Rattle.spec_machine.specs.World.{Setup}
use Rattle.spec_machine.specs.Access.{Addressed}
use Rattle.spec_machine.specs.Client.{Client}
use Rattle.spec_machine.specs.Acts.{Act, Refusal, fixed_data, reading}
use Rattle.spec_machine.specs.Reach.{reach_of}
use Rattle.spec_machine.specs.Entries.{symbol_upload_of, type_upload_of, upload_info_of, upload_info_with_types_of}

-- a fixed reply: the read length is a buffer's size, and must hold it
abbrev pub fixed_reply : ℕ → List ℕ → Act
fixed_reply len bytes = if nat_lt len (length bytes) then Refusal invalid_size else fixed_data bytes

-- a type upload that no reply can hold is refused
abbrev pub type_upload_reply : ℕ → List ℕ → Act
type_upload_reply len bytes =
    if nat_lt greatest_len (length bytes) then Refusal invalid_size else fixed_reply len bytes

abbrev pub read_act : Result (List Addressed) ℕ → Act
read_act (Err code) = Refusal code
read_act (Ok places) = reading places

-- the size of an area, the version, the uploads; else bytes, a bit, or a value by handle
unfoldable pub read_group : Setup → Client → PlantPort → Option Group → ℕ → ℕ → Act
read_group d c p (Some (AreaSize area)) offset len =
    fixed_reply len (to_le_bytes w32 (size_in p.sizes area))
read_group d c p (Some SymbolVersion) offset len = fixed_reply len (d.version ∷ [])
read_group d c p (Some SymbolUpload) offset len = fixed_reply len (symbol_upload_of d.profile.manner p)
read_group d c p (Some UploadInfo) offset len = fixed_reply len (upload_info_of d.profile.manner p)
read_group d c p (Some TypeUpload) offset len = type_upload_reply len (type_upload_of d.plant)
read_group d c p (Some UploadInfoWithTypes) offset len =
    fixed_reply len (upload_info_with_types_of d.profile.manner d.plant p)
read_group d c p group offset len = read_act (reach_of c p group offset len)
