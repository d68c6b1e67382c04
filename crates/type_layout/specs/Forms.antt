-- The form of a type: its canonical text in lower case, with the members of each structure and the base of each
-- enumeration that it names. A stored value is known to fit a symbol by it. This project's own format.
use Rattle.std.specs.Prelude.{ℕ, List, [], ◌++◌, map, codes, decimal}
use Rattle.name_paths.specs.Identifier.{lower}
use Rattle.spec_plant.specs.Plain.{kind_name}
use Rattle.spec_plant.specs.Trees.{TypeTree, PlainTree, TextTree, EnumTree, ArrayTree, StructTree, MemberTrees, NoMember, MemberTree}
use Rattle.spec_plant.specs.Spelling.{bound_text, joined_by_comma}

unfoldable mutual
  -- an enumeration is `name(base)`, a structure `name{member:form;member:form;}`
  pub form_of : TypeTree → List ℕ
  form_of (PlainTree kind) = lower (kind_name kind)
  form_of (TextTree n) = codes "string(" ++ decimal n ++ codes ")"
  form_of (EnumTree name base) = lower name ++ codes "(" ++ lower (kind_name base) ++ codes ")"
  form_of (ArrayTree bounds element) =
      codes "array [" ++ joined_by_comma (map bound_text bounds) ++ codes "] of " ++ form_of element
  form_of (StructTree name members) = lower name ++ codes "{" ++ members_form members ++ codes "}"

  pub members_form : MemberTrees → List ℕ
  members_form NoMember = []
  members_form (MemberTree name type comment members) =
      lower name ++ codes ":" ++ form_of type ++ codes ";" ++ members_form members
