use Rattle.std.proofs.Common.{sym, arith, inl, inr}
use Rattle.std.proofs.lemmas.List.{take_rest}
use Rattle.spec_formats.specs.SymbolEntry.{name_place, type_place, comment_place}
use Rattle.spec_formats.specs.Numbers.{number16}
use Rattle.spec_formats.proofs.EntryLemmas.{entry_of-refused}
use Rattle.symbol_info.proofs.EntryLemmas.{text_at, no_nul, Numbers, read_is}
use Rattle.symbol_info.proofs.reading.entry_in.Goals as goal

pub returns-then-bytes-lt30 : goal.returns-then-bytes-lt30
returns-then-bytes-lt30 c = sym (entry_of-refused c.args.bytes.now (λ t. omega (arith, t.covers, t.within, c.if-bytes-lt30.true)))

pub returns-then-len-name_len : goal.returns-then-len-name_len
returns-then-len-name_len c = sym (entry_of-refused c.args.bytes.now (λ t.
    elim c.then-len-name_len.either [
      | inl short ↦ omega (arith, t.covers, short, c.get32-len.ensures, c.get16-name_len.ensures, c.get16-type_len.ensures, c.get16-comment_len.ensures)
      | inr past ↦ omega (arith, t.within, past.1, c.get32-len.ensures)
    ]))

pub returns-in_err-name : goal.returns-in_err-name
returns-in_err-name c = rw c.from_residual.ensures (sym (entry_of-refused c.args.bytes.now (λ t.
    no_nul (number16 24 c.args.bytes.now) c.get16-name_len.result (name_place c.args.bytes.now) _ c.get16-name_len.ensures
    (take_rest c.args.bytes.now 30) c.in_err-name.ensures.nul t.name)))

pub returns-in_err-kind : goal.returns-in_err-kind
returns-in_err-kind c =
    let name = text_at (number16 24 c.args.bytes.now) c.get16-name_len.result (name_place c.args.bytes.now) _ c.in_ok-name.name.now c.in_ok-name.types.now
    c.get16-name_len.ensures (take_rest c.args.bytes.now 30) c.in_ok-name.ensures.nul c.in_ok-name.ensures.text c.in_ok-name.ensures.rest in
    rw c.from_residual-in_err-kind.ensures (sym (entry_of-refused c.args.bytes.now (λ t.
    no_nul (number16 26 c.args.bytes.now) c.get16-type_len.result (type_place c.args.bytes.now) c.in_ok-name.types.now c.get16-type_len.ensures
    name.rest_is c.in_err-kind.ensures.nul t.type_name)))

pub returns-in_err-comment : goal.returns-in_err-comment
returns-in_err-comment c =
    let name = text_at (number16 24 c.args.bytes.now) c.get16-name_len.result (name_place c.args.bytes.now) _ c.in_ok-name.name.now c.in_ok-name.types.now
    c.get16-name_len.ensures (take_rest c.args.bytes.now 30) c.in_ok-name.ensures.nul c.in_ok-name.ensures.text c.in_ok-name.ensures.rest in
    let kind = text_at (number16 26 c.args.bytes.now) c.get16-type_len.result (type_place c.args.bytes.now) c.in_ok-name.types.now c.in_ok-kind.kind.now
    c.in_ok-kind.comments.now c.get16-type_len.ensures name.rest_is c.in_ok-kind.ensures.nul c.in_ok-kind.ensures.text c.in_ok-kind.ensures.rest in
    rw c.from_residual-in_err-comment.ensures (sym (entry_of-refused c.args.bytes.now (λ t.
    no_nul (number16 28 c.args.bytes.now) c.get16-comment_len.result (comment_place c.args.bytes.now) c.in_ok-kind.comments.now c.get16-comment_len.ensures
    kind.rest_is c.in_err-comment.ensures.nul t.comment)))

pub returns : goal.returns
returns c =
    let name = text_at (number16 24 c.args.bytes.now) c.get16-name_len.result (name_place c.args.bytes.now) _ c.in_ok-name.name.now c.in_ok-name.types.now
    c.get16-name_len.ensures (take_rest c.args.bytes.now 30) c.in_ok-name.ensures.nul c.in_ok-name.ensures.text c.in_ok-name.ensures.rest in
    let kind = text_at (number16 26 c.args.bytes.now) c.get16-type_len.result (type_place c.args.bytes.now) c.in_ok-name.types.now c.in_ok-kind.kind.now
    c.in_ok-kind.comments.now c.get16-type_len.ensures name.rest_is c.in_ok-kind.ensures.nul c.in_ok-kind.ensures.text c.in_ok-kind.ensures.rest in
    let comment = text_at (number16 28 c.args.bytes.now) c.get16-comment_len.result (comment_place c.args.bytes.now) c.in_ok-kind.comments.now
    c.in_ok-comment.comment.now c.in_ok-comment.field-0-1.now c.get16-comment_len.ensures kind.rest_is c.in_ok-comment.ensures.nul c.in_ok-comment.ensures.text
    c.in_ok-comment.ensures.rest in
    let numbers : Numbers c.args.bytes.now c.get32-len.result c.get16-name_len.result c.get16-type_len.result c.get16-comment_len.result =
    record { len_is = c.get32-len.ensures; name_is = c.get16-name_len.ensures; type_is = c.get16-type_len.ensures; comment_is = c.get16-comment_len.ensures } in
    read_is c.args.bytes.now c.get32-len.result c.get16-name_len.result c.get16-type_len.result c.get16-comment_len.result
    c.get32.result c.get32-2.result c.get32-3.result c.get32-4.result c.get32-5.result
    c.in_ok-name.name.now c.in_ok-name.types.now c.in_ok-kind.kind.now c.in_ok-kind.comments.now c.in_ok-comment.comment.now c.in_ok-comment.field-0-1.now
    numbers c.get32.ensures c.get32-2.ensures c.get32-3.ensures c.get32-4.ensures c.get32-5.ensures
    (omega (arith, c.if-len-name_len.false)) (omega (arith, c.if-bytes-len.false)) name kind comment
