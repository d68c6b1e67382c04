-- A reference to a block reaches each byte. Assumes `Logic`.
use base.Fml.{Incl-refl}
use denote.Struct.Lending.{of_Lends}
use Rattle.process_image.specs.contracts.block.Block as C
use Rattle.process_image.proofs.block.Block.TheLaw.Statement.{statement}
use Rattle.process_image.proofs.Sharing.{block_lent-laws, Lends-block}

pub shares : statement
shares =
    of_Lends C.struct C.the_codes C.the_heap C.the_lent (λ d p. block_lent-laws d.at d.bytes d.room) tt
    (λ M 𝓤 𝓛 d p. Lends-block 𝓛 (C.the_row).lives (Incl-refl (C.the_row).lives) d.at d.bytes d.room)
