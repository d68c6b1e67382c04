-- The types so far, and those that are left, are all.
use Rattle.std.proofs.Common.{◌≡◌, ◌≢◌, sym, ◌∙◌, length}
use Rattle.std.specs.Prelude.{Some}
use Rattle.std.proofs.lemmas.Bool.{eqb-true, eq-eqb, false≢true}
use Rattle.spec_formats.specs.TypeEntryReading.{type_entry_of}
use Rattle.type_upload.specs.Entry.{entry_meant}
use Rattle.client_leaves.proofs.MemberLemmas.{has_subs}
use Rattle.client_leaves.proofs.UploadLemmas.{types_stop, types_go_on, types_end, types_beyond}
use Rattle.client_leaves.proofs.reading.read_entries.Goals as goal

pub returns-in-None-clause-types : goal.returns-in-None-clause-types
returns-in-None-clause-types c =
    types_stop c.args.count c.types.i c.types.entries.list.items c.args.upload.now c.types.rest.now c.types-test.true c.types.invariant.so_far
    c.in-None.ensures.entry

pub types-preserved : goal.types-preserved
types-preserved c =
    let read : Some (entry_meant c.in-Some.entry, c.in-Some.behind.now) ≡ type_entry_of c.types.rest.now = c.in-Some.ensures.entry in
    record {
      indexed = c.in_ok-add-in-Some.ensures.indexed;
      so_far = types_go_on c.args.count c.types.i c.types.entries.list.items c.add.new.self.list.items
          c.args.upload.now c.types.rest.now c.in-Some.behind.now c.in-Some.entry
          c.types-test.true c.types.invariant.so_far read c.in_ok-add-in-Some.ensures.list;
    }

pub returns-then-is_empty-clause-types : goal.returns-then-is_empty-clause-types
returns-then-is_empty-clause-types c =
    let none : length c.types.rest.now ≡ 0 = eqb-true (length c.types.rest.now) 0 (sym c.is_empty.ensures ∙ c.if-is_empty.true) in
    types_end c.args.count c.types.i c.types.entries.list.items c.args.upload.now c.types.rest.now c.types-test.false none c.types.invariant.so_far

pub returns-clause-types : goal.returns-clause-types
returns-clause-types c =
    let some : length c.types.rest.now ≢ 0 = λ e. false≢true (sym c.if-is_empty.false ∙ (c.is_empty.ensures ∙ eq-eqb (length c.types.rest.now) 0 e)) in
    types_beyond c.args.count c.types.i c.types.entries.list.items c.args.upload.now c.types.rest.now c.types-test.false some c.types.invariant.so_far

pub add-requires-clause-subs : goal.add-requires-clause-subs
add-requires-clause-subs c = has_subs c.types.rest.now c.in-Some.entry c.in-Some.behind.now c.in-Some.ensures.text
