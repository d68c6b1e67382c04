use Rattle.std.proofs.Common.{◌≡◌, map}
use Rattle.spec_rules.specs.PortRules.{wrong_upload, has_right_upload}
use Rattle.type_layout.specs.NamedTypes.{types_of}
use Rattle.description_table.specs.Views.{port_view}
use Rattle.description_rules.proofs.FirstLemmas.{first_from}
use Rattle.description_rules.proofs.uploads.wrong_upload.Given as goal

-- those before this one are right
abbrev pub invariant-loop-i : goal.invariant-loop-i
invariant-loop-i l = wrong_upload (types_of l.known.types) (map port_view l.ports)
    ≡ first_from (λ before p. has_right_upload (types_of l.known.types) p) port_view l.ports l.i
