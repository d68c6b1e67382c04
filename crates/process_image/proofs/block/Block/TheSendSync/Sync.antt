use denote.Param.Send.{IsSync, struct_sync}
use denote.Struct.Owning.{shape}
use Rattle.process_image.proofs.Sharing.{block_lent-common}
use Rattle.process_image.specs.contracts.block.Block as C

pub sync : IsSync C.the_row
sync = record { shared = λ d b o κ. ((struct_sync (shape C.the_type) tt).shared tt b o κ, block_lent-common d.at d.bytes d.room κ) }
