-- Which group of the protocol a value of `Group` is, and the number of the group that names an area's bytes.
use Rattle.std.specs.Prelude.{ℕ}
use Rattle.spec_plant.specs.Description.{Area, Inputs, Outputs, Memory, Process}
use Rattle.spec_formats.specs.Groups as group
use Rattle.type_layout.specs.Descriptions.{area_of}
use Rattle.index_groups.specs.declared.groups.Group.{Group}
use Rattle.index_groups.specs.declared.groups.Group.TheVariants as value
use Rattle.index_groups.specs.declared.groups.HandleGroup.{HandleGroup}
use Rattle.index_groups.specs.declared.groups.HandleGroup.TheVariants as handle
use Rattle.index_groups.specs.declared.groups.NameGroup.{NameGroup}
use Rattle.index_groups.specs.declared.groups.NameGroup.TheVariants as name
use Rattle.index_groups.specs.declared.groups.UploadGroup.{UploadGroup}
use Rattle.index_groups.specs.declared.groups.UploadGroup.TheVariants as upload
use Rattle.index_groups.specs.declared.groups.SumGroup.{SumGroup}
use Rattle.index_groups.specs.declared.groups.SumGroup.TheVariants as sum

abbrev pub handle_meant : HandleGroup → group.Group
handle_meant handle.ByName = group.HandleByName
handle_meant handle.Value = group.ValueByHandle
handle_meant handle.Release = group.ReleaseHandle

abbrev pub name_meant : NameGroup → group.Group
name_meant name.Value = group.ValueByName
name_meant name.Info = group.InfoByName
name_meant name.Entry = group.ExtendedInfoByName

abbrev pub upload_meant : UploadGroup → group.Group
upload_meant upload.Symbols = group.SymbolUpload
upload_meant upload.Info = group.UploadInfo
upload_meant upload.Types = group.TypeUpload
upload_meant upload.InfoWithTypes = group.UploadInfoWithTypes

abbrev pub sum_meant : SumGroup → group.Group
sum_meant sum.Read = group.SumRead
sum_meant sum.Write = group.SumWrite
sum_meant sum.ReadWrite = group.SumReadWrite

abbrev pub group_meant : Group → group.Group
group_meant (value.Bytes area) = group.AreaBytes (area_of area)
group_meant (value.Bit area) = group.AreaBit (area_of area)
group_meant (value.Size area) = group.AreaSize (area_of area)
group_meant (value.Handle which) = handle_meant which
group_meant (value.Name which) = name_meant which
group_meant value.Version = group.SymbolVersion
group_meant (value.Upload which) = upload_meant which
group_meant (value.Sum which) = sum_meant which

-- the number of the group that names an area's bytes
abbrev pub byte_number : Area → ℕ
byte_number Inputs = group.input_bytes
byte_number Outputs = group.output_bytes
byte_number Memory = group.memory_bytes
byte_number Process = group.process_bytes
