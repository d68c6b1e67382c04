-- The leaves that are found are those that are printed.
use Rattle.std.proofs.Common.{◌≡◌, ◌∙◌, map}
use Rattle.std.specs.Prelude.{Some, None, option_and_then}
use Rattle.spec_client.specs.Entries.{types_in}
use Rattle.client_leaves.specs.Found.{leaves_found}
use Rattle.client_leaves.specs.Kept.{leaf_kept}
use Rattle.client_replies.specs.Kept.{entry_kept}
use Rattle.client_replies.proofs.Shown.{not_shown, shown}
use Rattle.client_replies.proofs.showing.after_types.Goals as goal

pub returns-in-None : goal.returns-in-None
returns-in-None c = λ payload.
    let e = entry_kept c.args.entry.now in
    let types = types_in c.args.count c.args.bytes.now in
    let none : None ≡ option_and_then (leaves_found e.size e.name e.type_name) types =
    rw (c.in-None.is, c.as_slice.ensures, c.as_slice-2.ensures) at c.in_ok-leaves_in.ensures in
    not_shown c.args.name e types payload none

pub returns-in_ok-progress-in-Some : goal.returns-in_ok-progress-in-Some
returns-in_ok-progress-in-Some c = λ payload.
    let e = entry_kept c.args.entry.now in
    let types = types_in c.args.count c.args.bytes.now in
    let leaves = map leaf_kept c.in-Some.leaves in
    let found : Some leaves ≡ option_and_then (leaves_found e.size e.name e.type_name) types =
    rw (c.in-Some.is, c.as_slice.ensures, c.as_slice-2.ensures) at c.in_ok-leaves_in.ensures in
    let sends = rw c.value_request-asked.ensures at c.in_ok-progress-in-Some.ensures in
    sends ∙ shown c.args.name e types payload leaves found
