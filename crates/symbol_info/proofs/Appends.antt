-- An entry that is written in parts.
use Rattle.std.proofs.Common.{◌≡◌, ℕ, List, ◌++◌, ap, ◌∙◌}
use Rattle.spec_formats.specs.SymbolEntry.{SymbolEntry, entry_bytes, entry_len, text_bytes}
use Rattle.spec_formats.proofs.Appends.{two_parts, three_parts}
use Rattle.symbol_info.specs.Parts.{words, lengths}

-- the six parts of an entry, one after another
pub entry_parts : (e : SymbolEntry) (old room a b c d f g : List ℕ) → room ≡ old
    → a ≡ room ++ words (entry_len e) e.group e.offset → b ≡ a ++ words e.size e.type_id e.flags → c ≡ b ++ lengths e
    → d ≡ c ++ text_bytes e.name → f ≡ d ++ text_bytes e.type_name → g ≡ f ++ text_bytes e.comment → g ≡ old ++ entry_bytes e
entry_parts e old room a b c d f g is ea eb ec ed ef eg =
    let front = words (entry_len e) e.group e.offset in
    let numbers = three_parts old front (words e.size e.type_id e.flags) (lengths e) a b c (ea ∙ ap (λ (l : List ℕ). l ++ front) is) eb ec in
    let texts = three_parts c (text_bytes e.name) (text_bytes e.type_name) (text_bytes e.comment) d f g ed ef eg in
    two_parts old (front ++ words e.size e.type_id e.flags ++ lengths e)
    (text_bytes e.name ++ text_bytes e.type_name ++ text_bytes e.comment) c g numbers texts
