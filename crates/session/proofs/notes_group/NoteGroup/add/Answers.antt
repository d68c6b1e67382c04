use Rattle.std.proofs.Common.{refl}
use Rattle.std.proofs.lemmas.List.{drop-append-le}
use Rattle.session.proofs.notes_group.NoteGroup.add.Goals as goal

pub returns-clause-ok : goal.returns-clause-ok
returns-clause-ok c =
    rw (← c.self.view_is, c.in_ok-put_sample.ensures.ok, drop-append-le 58 c.self.inside.bytes _ c.self.invariant.0) refl
