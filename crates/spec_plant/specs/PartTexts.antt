-- The name and the comment of a part of a symbol, as its entry tells them. Which of them an entry of a part has is this
-- project's own choice.
use Rattle.std.specs.Prelude.{ℕ, List, [], ◌∷◌, ◌++◌, map, Option, Some, None, ℤ}
use Rattle.name_paths.specs.Path.{Step, name_step, index_step}
use Rattle.spec_plant.specs.Trees.{TypeTree}
use Rattle.spec_plant.specs.Parts.{TypePart, MemberPart, member_of, part_of}
use Rattle.spec_plant.specs.Spelling.{integer_text, joined_by_comma}
use Rattle.spec_plant.specs.Finding.{Found}

-- the type behind a step, where it leads to a part
abbrev pub type_behind : TypeTree → Option TypePart → TypeTree
type_behind type None = type
type_behind type (Some part) = part.type

-- a full stop and the declared name of a member
abbrev pub text_of_member : Option MemberPart → List ℕ
text_of_member None = []
text_of_member (Some m) = 46 ∷ m.name

-- indexes in brackets, with commas between them
abbrev pub text_of_indexes : List ℤ → List ℕ
text_of_indexes indexes = 91 ∷ joined_by_comma (map integer_text indexes) ++ 93 ∷ []

-- a step as it is declared
abbrev pub text_of_step : TypeTree → Step → List ℕ
text_of_step type (name_step name) = text_of_member (member_of type name)
text_of_step type (index_step indexes) = text_of_indexes indexes

-- a name, and behind it these steps as they are declared
unfoldable pub name_behind : List ℕ → TypeTree → List Step → List ℕ
name_behind name type [] = name
name_behind name type (step ∷ steps) =
    name_behind (name ++ text_of_step type step) (type_behind type (part_of type step)) steps

abbrev pub comment_of_member : Option MemberPart → List ℕ
comment_of_member None = []
comment_of_member (Some m) = m.comment

-- a member has its own comment, an element none
abbrev pub comment_of_step : TypeTree → Step → List ℕ
comment_of_step type (name_step name) = comment_of_member (member_of type name)
comment_of_step type (index_step indexes) = []

-- the comment behind these steps: that of the last one, and without a step the given one
unfoldable pub comment_behind : List ℕ → TypeTree → List Step → List ℕ
comment_behind comment type [] = comment
comment_behind comment type (step ∷ steps) =
    comment_behind (comment_of_step type step) (type_behind type (part_of type step)) steps

-- the declared name of what a path leads to
abbrev pub name_of_found : Found → List ℕ
name_of_found f = name_behind f.symbol.name f.symbol.type f.steps

-- its comment; the whole symbol has its own
abbrev pub comment_of_found : Found → List ℕ
comment_of_found f = comment_behind f.symbol.comment f.symbol.type f.steps
