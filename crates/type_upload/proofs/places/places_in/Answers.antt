use Rattle.std.proofs.Common.{◌+◌, sym, arith, inl, inr}
use Rattle.spec_formats.specs.TypeEntryReading.{end_of_name, end_of_type, end_of_comment}
use Rattle.type_upload.proofs.TestLemmas.{refused, refused_name, refused_kind, refused_comment, test_of_fields, found_at}
use Rattle.type_upload.proofs.places.places_in.Goals as goal

pub returns-then-bytes-lt42-clause-tested : goal.returns-then-bytes-lt42-clause-tested
returns-then-bytes-lt42-clause-tested c = refused c.args.bytes.now (λ t. omega (arith, t.covers, t.within, c.if-bytes-lt42.true))

pub returns-then-len-fields_end-clause-tested : goal.returns-then-len-fields_end-clause-tested
returns-then-len-fields_end-clause-tested c = refused c.args.bytes.now (λ t.
    elim c.then-len-fields_end.either [
      | inl short ↦ omega (arith, t.covers, short, c.get32-len.ensures, c.get16.ensures, c.get16-2.ensures, c.get16-3.ensures, c.get16-4.ensures)
      | inr past ↦ omega (arith, t.within, past.1, c.get32-len.ensures)
    ])

pub returns-then-bytes-name_end-ne0-clause-tested :
    goal.returns-then-bytes-name_end-ne0-clause-tested
returns-then-bytes-name_end-ne0-clause-tested c =
    refused_name c.args.bytes.now (42 + c.get16.result) (omega (arith, c.get16.ensures)) c.if-bytes-name_end-ne0.true

pub returns-then-bytes-kind_end-ne0-clause-tested :
    goal.returns-then-bytes-kind_end-ne0-clause-tested
returns-then-bytes-kind_end-ne0-clause-tested c =
    refused_kind c.args.bytes.now (42 + c.get16.result + 1 + c.get16-2.result) (omega (arith, c.get16.ensures, c.get16-2.ensures))
    c.if-bytes-kind_end-ne0.true

pub returns-then-bytes-comment_end-ne0-clause-tested :
    goal.returns-then-bytes-comment_end-ne0-clause-tested
returns-then-bytes-comment_end-ne0-clause-tested c =
    refused_comment c.args.bytes.now (42 + c.get16.result + 1 + c.get16-2.result + 1 + c.get16-3.result)
    (omega (arith, c.get16.ensures, c.get16-2.ensures, c.get16-3.ensures)) c.if-bytes-comment_end-ne0.true

pub returns-clause-tested : goal.returns-clause-tested
returns-clause-tested c = sym (test_of_fields c.args.bytes.now (record {
  covers = omega (arith, c.if-len-fields_end.false, c.get32-len.ensures, c.get16.ensures, c.get16-2.ensures, c.get16-3.ensures, c.get16-4.ensures);
  within = omega (arith, c.if-bytes-len.false, c.get32-len.ensures);
  name = found_at c.args.bytes.now (42 + c.get16.result) (end_of_name c.args.bytes.now) (omega (arith, c.get16.ensures)) c.if-bytes-name_end-ne0.false;
  kind = found_at c.args.bytes.now (42 + c.get16.result + 1 + c.get16-2.result) (end_of_type c.args.bytes.now)
      (omega (arith, c.get16.ensures, c.get16-2.ensures)) c.if-bytes-kind_end-ne0.false;
  comment = found_at c.args.bytes.now (42 + c.get16.result + 1 + c.get16-2.result + 1 + c.get16-3.result) (end_of_comment c.args.bytes.now)
      (omega (arith, c.get16.ensures, c.get16-2.ensures, c.get16-3.ensures)) c.if-bytes-comment_end-ne0.false;
}))
