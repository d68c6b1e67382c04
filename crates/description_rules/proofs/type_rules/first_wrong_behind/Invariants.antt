use Rattle.std.proofs.Common.{◌≡◌, ◌≤◌, ◌*◌, ◌^◌, [], length, map, take}
use Rattle.spec_rules.specs.Places.{first_through}
use Rattle.spec_rules.specs.Written.{written_members}
use Rattle.spec_rules.specs.TypeRules.{wrong_member_of}
use Rattle.description_table.specs.Views.{type_view}
use Rattle.description_rules.specs.NextMember.{AreTypeNames}
use Rattle.description_rules.proofs.ThroughLemmas.{through_from}
use Rattle.description_rules.proofs.type_rules.first_wrong_behind.Given as goal

-- the members of the types before this one are right, and the names of these types noted
abbrev pub invariant-loop-kind : goal.invariant-loop-kind
invariant-loop-kind l = record {
  first : first_through (λ t. length (written_members t)) wrong_member_of [] (map type_view l.types)
      ≡ through_from (λ t. length (written_members t)) wrong_member_of type_view l.types l.kind-index l.count;
  small : l.count ≤ l.kind-index * 2 ^ 64;
  named : AreTypeNames (map type_view (take l.kind-index l.types)) l.names;
}
