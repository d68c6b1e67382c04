-- No file is opened in the turns.
use Rattle.keep_loop.proofs.RunLemmas.{disk_looped, disk_shown}
use Rattle.keep_loop.proofs.SaverLemmas.{disk_then}
use Rattle.keep_loop.proofs.keeping.save_turns.Goals as goal

pub returns-clause-keeps : goal.returns-clause-keeps
returns-clause-keeps g c =
    disk_looped c.args.saver.now.every g.M.Served.body_of g.M.Served.steps g.M.Served.noted g.D.Disk.contents g.D.Disk.may_leave g.D.Disk.moment
    g.D.Disk.left_since g.D.Disk.marked g.D.Disk.names g.D.Disk.fault_count c.args.saver.now.left c.args.saver.now.saved
    c.serve_beside-ended.new.beside.every c.serve_beside-ended.new.beside.left c.serve_beside-ended.new.beside.saved c.requires.anew
    c.args.saver.now.store c.serve_beside-ended.new.beside.store c.args.disk.now c.serve_beside-ended.new.outside c.serve_beside-ended.result
    (g.M.Served.serves c.args.served.now) (g.M.Served.serves c.serve_beside-ended.new.served) (g.W.Wire.state c.args.wire.now)
    (g.W.Wire.state c.serve_beside-ended.new.wire) c.args.limit c.requires.some c.serve_beside-ended.ensures.serve
    (λ is.
    let s = c.serve_beside-ended.ensures.stopped is in
    disk_then g.D.Disk.contents g.D.Disk.names g.D.Disk.fault_count c.args.disk.now s.outside
    c.serve_beside-ended.new.outside
    (disk_shown c.args.saver.now.every g.M.Served.body_of g.M.Served.steps g.M.Served.noted g.D.Disk.contents g.D.Disk.may_leave g.D.Disk.moment
    g.D.Disk.left_since g.D.Disk.marked g.D.Disk.names g.D.Disk.fault_count c.args.saver.now.left c.args.saver.now.saved
    s.beside.every s.beside.left s.beside.saved c.requires.anew c.args.saver.now.store s.beside.store c.args.disk.now s.outside
    (g.M.Served.serves c.args.served.now) (g.M.Served.serves s.served) (g.W.Wire.state c.args.wire.now).history s.last s.count c.requires.some s.shows)
    s.stops.keeps)
