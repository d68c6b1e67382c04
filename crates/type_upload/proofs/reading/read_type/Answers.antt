use Rattle.std.proofs.Common.{◌-◌, length, take, drop, arith}
use Rattle.type_upload.proofs.ReadLemmas.{none_unfit, none_subs, type_entry_of-unfit, type_entry_of-no_subs}
use Rattle.type_upload.proofs.ReadLemmas.{region_is, rest_is, after_within, is_read, some_entry, read_entry_is}
use Rattle.type_upload.proofs.reading.read_type.Goals as goal

pub returns-in_err-places-clause-none : goal.returns-in_err-places-clause-none
returns-in_err-places-clause-none c = rw c.from_residual.ensures (none_unfit c.args.bytes.now c.in_err-places.ensures.tested)

pub returns-in_err-after-clause-none : goal.returns-in_err-after-clause-none
returns-in_err-after-clause-none c = rw c.from_residual-in_err-after.ensures
    (none_subs c.args.bytes.now (take (c.in_ok-places.places.len - c.in_ok-places.places.fields_end) (drop c.in_ok-places.places.fields_end c.args.bytes.now))
    c.get16.result c.get16.ensures (region_is c.args.bytes.now c.in_ok-places.places c.in_ok-places.ensures.places) c.in_err-after.ensures)

pub slice_bounds-sub_bytes-count : goal.slice_bounds-sub_bytes-count
slice_bounds-sub_bytes-count c =
    after_within c.args.bytes.now (take (c.in_ok-places.places.len - c.in_ok-places.places.fields_end) (drop c.in_ok-places.places.fields_end c.args.bytes.now))
    c.in_ok-after.after.now c.get16.result (λ i. omega (arith, c.type_inv.bytes i))
    (region_is c.args.bytes.now c.in_ok-places.places c.in_ok-places.ensures.places) c.in_ok-after.ensures

pub returns-clause-text : goal.returns-clause-text
returns-clause-text c =
    is_read c.args.bytes.now c.entry_at.result
    (take (length c.args.bytes.now - c.in_ok-places.places.len) (drop c.in_ok-places.places.len c.args.bytes.now))
    (take (c.in_ok-places.places.len - c.in_ok-places.places.fields_end) (drop c.in_ok-places.places.fields_end c.args.bytes.now))
    c.in_ok-after.after.now c.get16.result (λ i. omega (arith, c.type_inv.bytes i)) c.in_ok-places.ensures.places.fields c.get16.ensures
    (region_is c.args.bytes.now c.in_ok-places.places c.in_ok-places.ensures.places) c.in_ok-after.ensures c.entry_at.ensures
    (rest_is c.args.bytes.now c.in_ok-places.places.len c.in_ok-places.ensures.places.len_is)

pub returns-clause-none : goal.returns-clause-none
returns-clause-none c =
    some_entry c.args.bytes.now c.entry_at.result
    (take (length c.args.bytes.now - c.in_ok-places.places.len) (drop c.in_ok-places.places.len c.args.bytes.now))
    (returns-clause-text c)

pub returns-in_err-places-clause-entry : goal.returns-in_err-places-clause-entry
returns-in_err-places-clause-entry c = rw c.from_residual.ensures (type_entry_of-unfit c.args.bytes.now c.in_err-places.ensures.tested)

pub returns-in_err-after-clause-entry : goal.returns-in_err-after-clause-entry
returns-in_err-after-clause-entry c = rw c.from_residual-in_err-after.ensures
    (type_entry_of-no_subs c.args.bytes.now
    (take (c.in_ok-places.places.len - c.in_ok-places.places.fields_end) (drop c.in_ok-places.places.fields_end c.args.bytes.now))
    c.get16.result c.get16.ensures (region_is c.args.bytes.now c.in_ok-places.places c.in_ok-places.ensures.places) c.in_err-after.ensures)

pub returns-clause-entry : goal.returns-clause-entry
returns-clause-entry c =
    read_entry_is c.args.bytes.now c.entry_at.result
    (take (length c.args.bytes.now - c.in_ok-places.places.len) (drop c.in_ok-places.places.len c.args.bytes.now))
    (returns-clause-text c)
