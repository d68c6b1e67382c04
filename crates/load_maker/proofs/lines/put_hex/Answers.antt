use Rattle.std.proofs.Common.{◌++◌}
use Rattle.hex.specs.Hex.{encode_lower}
use Rattle.load_maker.proofs.HexParts.{parts-more}
use Rattle.load_maker.proofs.lines.put_hex.Goals as goal

pub loop-left-preserved : goal.loop-left-preserved
loop-left-preserved c =
    parts-more c.loop-left.out c.put_digits.new.out c.loop-left.left.now c.split_at.result.0.now c.split_at.result.1.now
    (c.args.out.now ++ encode_lower c.args.bytes.now) 100 c.loop-left.invariant c.split_at.ensures.front c.split_at.ensures.back
    c.in_ok-put_digits.ensures
