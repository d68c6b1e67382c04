-- As many zeros as were counted lie in the block, and the room for the others is behind them.
use Rattle.std.proofs.Common.{◌≡◌, ◌+◌, replicate}
use Rattle.process_image.proofs.image.Image.new.Given as goal

abbrev pub invariant-loop-count : goal.invariant-loop-count
invariant-loop-count l = (l.block.at ≡ l.at) × (l.block.bytes ≡ replicate l.count 0) × (l.block.room + l.count ≡ l.len)
