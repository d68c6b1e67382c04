use Rattle.std.proofs.Common.{◌∙◌, sym, ap}
use Rattle.std.specs.Option.{option_copied}
use Rattle.spec_formats.specs.Ranges.{Bytes}
use Rattle.spec_machine.specs.WatchedRanges.{InArea}
use Rattle.type_layout.specs.Descriptions.{area_of}
use Rattle.session.proofs.TickBytes.{port_found, in_found, not_missing}
use Rattle.session.proofs.tick_bytes.bytes_in.Goals as goal

pub lent-requires : goal.lent-requires
lent-requires c =
    in_found c.args.ports.now c.args.port (InArea (Bytes (area_of c.args.area) c.args.«at» c.args.len)) c.in-Some.found.now c.requires
    (sym c.find.ensures ∙ ap option_copied c.in-Some.is)

pub unreachable-requires : goal.unreachable-requires
unreachable-requires c =
    not_missing c.args.ports.now c.args.port (InArea (Bytes (area_of c.args.area) c.args.«at» c.args.len)) c.requires
    (sym c.find.ensures ∙ ap option_copied c.in-None.is)

pub returns-clause-bytes : goal.returns-clause-bytes
returns-clause-bytes c = λ w holds.
    let (p, at_, held) = port_found w c.args.ports.now c.args.port c.in-Some.found.now holds (sym c.find.ensures ∙ ap option_copied c.in-Some.is) in
    rw at_ (c.lent.ensures.bytes w p held)
