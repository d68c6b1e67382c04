use Rattle.std.proofs.Common.{None, Some}
use Rattle.spec_plant.specs.Trees.{trees_of}
use Rattle.type_layout.specs.NamedTypes.{types_of}
use Rattle.description_rules.proofs.ExtentLemmas.{extent_of-tree_at, IsFair-at}
use Rattle.description_rules.proofs.known_types.extent_at.Goals as goal

pub returns-in-Some-clause-extent : goal.returns-in-Some-clause-extent
returns-in-Some-clause-extent c =
    extent_of-tree_at c.args.known.now.extents.items (trees_of (types_of c.args.known.now.types)) c.args.place (Some c.in-Some.extent) c.requires.extents.same
    (rw c.as_slice.ensures.value at c.in-Some.ensures)

pub returns-in-Some-clause-fair : goal.returns-in-Some-clause-fair
returns-in-Some-clause-fair c =
    IsFair-at c.args.known.now.extents.items c.args.place c.in-Some.extent c.requires.extents.fair (rw c.as_slice.ensures.value at c.in-Some.ensures)

pub returns-in-None-clause-extent : goal.returns-in-None-clause-extent
returns-in-None-clause-extent c =
    extent_of-tree_at c.args.known.now.extents.items (trees_of (types_of c.args.known.now.types)) c.args.place None c.requires.extents.same
    (rw c.as_slice.ensures.value at c.in-None.ensures)
