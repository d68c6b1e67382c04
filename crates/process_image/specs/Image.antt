-- How an image lies in its block. No public clause cites this.
use Rattle.std.specs.Prelude.{◌≡◌, length}
use Rattle.process_image.specs.declared.image.Image.TheInside.{Inside}

-- the block is full, begins at the image's pointer, and goes back to the image's allocator
pub record IsImage (i : Inside) : Type 0 where
  pub at : i.block.at ≡ i.place.at
  pub len : length i.block.bytes ≡ i.len
  pub full : i.block.room ≡ 0
  pub deed_at : i.deed.at ≡ i.place.at
  pub deed_len : i.deed.len ≡ i.len
  pub deed_alloc : i.deed.alloc ≡ i.alloc
