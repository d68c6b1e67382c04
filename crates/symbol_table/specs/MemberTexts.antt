-- For private contracts, and cited by no public clause: what is told of a member beside its place and type.
use Rattle.std.specs.Prelude.{ℕ, List}
use Rattle.spec_plant.specs.Parts.{MemberPart}
use Rattle.type_layout.specs.declared.structures.Member.{Member}

-- the declared name and the comment of a member
pub record MemberText : Type 0 where
  pub name : List ℕ
  pub comment : List ℕ

abbrev pub text_of_part : MemberPart → MemberText
text_of_part m = record { name = m.name; comment = m.comment }

abbrev pub text_of_declared : Member → MemberText
text_of_declared m = record { name = m.name; comment = m.comment }
