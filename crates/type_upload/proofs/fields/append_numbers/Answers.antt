use Rattle.std.specs.Int.{w32, to_le_bytes}
use Rattle.type_upload.specs.WrittenFields.{words}
use Rattle.type_upload.proofs.Appends.{four_parts}
use Rattle.type_upload.proofs.fields.append_numbers.Goals as goal

pub returns-clause-ok : goal.returns-clause-ok
returns-clause-ok c =
    let f = c.args.f.now in
    four_parts c.args.out.now (words c.args.len 1 0) (words 0 f.size f.offset) (to_le_bytes w32 f.type_id) (to_le_bytes w32 f.flags)
    c.append_words.new.out c.append_words-2.new.out c.put32.new.out c.put32-2.new.out
    c.in_ok-append_words.ensures.ok c.in_ok-append_words-2.ensures.ok c.in_ok-put32.ensures.ok c.in_ok-put32-2.ensures.ok
