use Rattle.spec_plant.specs.Trees.{trees_of}
use Rattle.type_layout.specs.NamedTypes.{types_of}
use Rattle.description_rules.proofs.size_rules.type_extent.Goals as goal

pub returns-in-Enumeration-clause-extent : goal.returns-in-Enumeration-clause-extent
returns-in-Enumeration-clause-extent c =
    rw c.in-Enumeration.is (c.enumeration_extent.ensures.extent (trees_of (types_of c.args.known.now.types)))
