use denote.Param.Send.{IsSend, owning_send}
use Rattle.process_image.proofs.Sharing.{block_owned-keyless}
use Rattle.process_image.specs.contracts.block.Block as C

pub send : IsSend C.the_row
send = owning_send C.the_type tt (λ b. block_owned-keyless b.at b.bytes b.room) (λ k x w. tt)
