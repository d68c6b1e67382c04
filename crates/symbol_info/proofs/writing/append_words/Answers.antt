use Rattle.std.specs.Int.{w32, to_le_bytes}
use Rattle.spec_formats.proofs.Appends.{three_parts}
use Rattle.symbol_info.proofs.writing.append_words.Goals as goal

pub returns-clause-ok : goal.returns-clause-ok
returns-clause-ok c = three_parts c.args.out.now (to_le_bytes w32 c.args.a) (to_le_bytes w32 c.args.b) (to_le_bytes w32 c.args.c)
    c.put32.new.out c.put32-2.new.out c.put32-3.new.out c.in_ok-put32.ensures.ok c.in_ok-put32-2.ensures.ok c.in_ok-put32-3.ensures.ok
