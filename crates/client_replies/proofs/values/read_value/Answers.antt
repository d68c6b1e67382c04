use Rattle.std.proofs.Common.{ap, subst}
use Rattle.std.specs.Prelude.{IsNone, is_some}
use Rattle.spec_frames.specs.Number.{AreBytes}
use Rattle.client_replies.proofs.ValueLemmas.{none_found, some_found}
use Rattle.client_replies.proofs.values.read_value.Goals as goal

pub returns-in-None : goal.returns-in-None
returns-in-None c =
    let none : IsNone c.in_ok-from_text.field-0 = ap is_some c.in-None.is in
    none_found c.args.type_id c.args.size c.args.text.now (c.in_ok-from_text.ensures.none none)

pub returns-in-Some : goal.returns-in-Some
returns-in-Some c =
    some_found c.args.type_id c.args.size c.args.text.now c.in-Some.value
    (subst AreBytes c.as_slice.ensures c.value_bytes.ensures)
    (rw c.in-Some.is at c.in_ok-from_text.ensures.some)
