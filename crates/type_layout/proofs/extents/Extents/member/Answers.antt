-- All are known.
use Rattle.std.proofs.Common.{sym, ◌∙◌, ap}
use Rattle.type_layout.specs.NamedTypes.{types_of}
use Rattle.type_layout.specs.Extents.{extents_of}
use Rattle.type_layout.proofs.KnownExtents.{all_extents}
use Rattle.type_layout.proofs.extents.Extents.member.Goals as goal

pub member_among-requires-clause-known : goal.member_among-requires-clause-known
member_among-requires-clause-known c =
    all_extents (types_of c.as_slice.result.now) c.as_slice-2.result.now
    (c.as_slice-2.ensures.value ∙ c.self.view_is ∙ c.requires.built ∙ ap (λ ts. extents_of (types_of ts)) (sym c.as_slice.ensures))
