use Rattle.symbol_info.specs.Entry.{entry_meant}
use Rattle.symbol_info.proofs.Appends.{entry_parts}
use Rattle.symbol_info.proofs.writing.append_entry.Goals as goal

pub returns-clause-ok : goal.returns-clause-ok
returns-clause-ok c = entry_parts (entry_meant c.args.e.now) c.args.out.now c.reserve.new.self c.append_words.new.out c.append_words-2.new.out
    c.append_lengths.new.out c.append_text.new.out c.append_text-2.new.out c.append_text-3.new.out c.reserve.ensures
    c.in_ok-append_words.ensures.ok c.in_ok-append_words-2.ensures.ok c.in_ok-append_lengths.ensures.ok c.in_ok-append_text.ensures.ok
    c.in_ok-append_text-2.ensures.ok c.in_ok-append_text-3.ensures.ok
