use Rattle.std.proofs.Common.{◌∙◌, sym, ap, take, drop}
use Rattle.std.specs.Option.{option_copied}
use Rattle.spec_plant.specs.Named.{port_numbered}
use Rattle.session.proofs.TickBytes.{port_found, not_missing, own_found}
use Rattle.session.proofs.tick_bytes.own_in.Goals as goal

pub unreachable-requires : goal.unreachable-requires
unreachable-requires c =
    not_missing c.args.ports.now c.args.port c.requires.watched c.requires.readable (sym c.find.ensures ∙ ap option_copied c.in-None.is)

pub returns : goal.returns
returns c = λ w first len holds within.
    let (p, at_, held) = port_found w c.args.ports.now c.args.port c.in-Some.found.now holds (sym c.find.ensures ∙ ap option_copied c.in-Some.is) in
    ap (λ bs. take len (drop first bs)) c.own.ensures
    ∙ own_found w (port_numbered c.args.port w.plant.ports) p c.in-Some.found.now first len at_ held within
