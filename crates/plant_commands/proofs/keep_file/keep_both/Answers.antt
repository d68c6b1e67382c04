-- What is printed is of the play as it ended.
use Rattle.type_layout.specs.Descriptions.{description_of}
use Rattle.keep_play.specs.KeptDisk.{disk_used}
use Rattle.plant_commands.proofs.KeepLemmas.{kept_opens, kept_printed}
use Rattle.plant_commands.proofs.keep_file.keep_both.Goals as goal

pub returns-clause-ends : goal.returns-clause-ends
returns-clause-ends g c =
    kept_printed (description_of c.args.both.description) (g.G.Sources.waves c.args.signals) c.args.both.script c.keep_play-played.result c.print_kept.result
    (g.S.Sink.state c.args.out.now) (g.S.Sink.state c.print_kept.new.out)
    (disk_used g.D.Disk.contents g.D.Disk.may_leave g.D.Disk.moment g.D.Disk.left_since g.D.Disk.marked g.D.Disk.fault_count c.args.disk.now
    c.keep_play-played.new.disk)
    c.keep_play-played.ensures.plays c.print_kept.ensures.prints

pub returns-clause-opens : goal.returns-clause-opens
returns-clause-opens g c =
    kept_opens c.keep_play-played.result c.print_kept.result (g.S.Sink.state c.args.out.now) (g.S.Sink.state c.print_kept.new.out)
    (g.D.Disk.names c.args.disk.now) (g.D.Disk.names c.keep_play-played.new.disk) c.args.store.now c.print_kept.ensures.prints
    (rw c.as_str.ensures at c.keep_play-played.ensures.named)
