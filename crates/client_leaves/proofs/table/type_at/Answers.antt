-- A type is looked up at its place.
use Rattle.std.proofs.Common.{◌≡◌, sym, ◌∙◌, map}
use Rattle.std.specs.Prelude.{slice_get, option_map}
use Rattle.std.specs.List.{HoldsAt}
use Rattle.std.specs.Borrow.{Bor}
use Rattle.std.proofs.lemmas.Option.{slice_get-map}
use Rattle.client_leaves.specs.declared.table.ReadType.{ReadType}
use Rattle.client_leaves.specs.Table.{AreFound, type_kept, types_kept}
use Rattle.client_leaves.proofs.TypeLemmas.{looked_up, mapped_look_up, look_up_holds}
use Rattle.client_leaves.proofs.table.type_at.Goals as goal

pub returns-in-Some : goal.returns-in-Some
returns-in-Some c =
    let types = c.args.types.now in
    let place = c.in-Some.k in
    let now : Bor ReadType → ReadType = λ x. x.now in
    let found = looked_up now types place (λ (x : Bor ReadType). HoldsAt (λ y. x.now ≡ y) types place) c.get.result
    (c.get.ensures.lookup.3) (c.get.ensures.lookup.1) in
    record {
      value = rw c.in-Some.is (mapped_look_up now type_kept c.get.result (slice_get types place) found ∙ sym (slice_get-map type_kept types place));
      found = look_up_holds now types place (λ (t : ReadType). AreFound (types_kept types) t.members.items) c.get.result found c.requires;
    }
