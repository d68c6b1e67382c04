-- An accepted type has a short name.
use Rattle.std.proofs.Common.{length}
use Rattle.spec_plant.proofs.TypeLemmas.{stands_at}
use Rattle.type_layout.specs.NamedTypes.{types_of, enumeration_of}
use Rattle.spec_plant.proofs.TextLengths.{short_type_name}
use Rattle.type_upload.proofs.writing.append_type.Goals as goal

pub append_enumeration-requires-clause-short : goal.append_enumeration-requires-clause-short
append_enumeration-requires-clause-short c =
    let stands = stands_at (types_of c.args.types.now) (length c.args.known.now)
    (enumeration_of c.in-Enum.e) c.requires.types (rw c.in-Enum.is at c.requires.there) in
    short_type_name c.in-Enum.e.name stands.name
