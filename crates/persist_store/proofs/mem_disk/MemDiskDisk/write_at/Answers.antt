-- A write takes its file or does not.
use Rattle.std.proofs.Common.{◌≡◌, length, sym, ◌∙◌, ap}
use Rattle.persist_store.specs.MemDisk.{HeldFile}
use Rattle.persist_store.proofs.PastLemmas.{WritesOnce, writes_once, writes_all}
use Rattle.persist_store.proofs.mem_disk.MemDiskDisk.write_at.Goals as goal

pub returns-clause-all : goal.returns-clause-all
returns-clause-all c = λ is.
    let both = c.wrote.ensures.all is in
    writes_all c.args.self.now c.call-failed.new.self c.takes-done.new.self c.args.at (length c.args.bytes.now) c.args.bytes.now
    c.next_file-file.result c.takes-done.result c.next_file-file.ensures.all
    c.takes-done.ensures.some c.takes-done.ensures.done (c.call-failed.ensures.works both.0).0 both.1

pub returns-clause-touched : goal.returns-clause-touched
returns-clause-touched c =
    (writes_once c.args.self.now c.call-failed.new.self c.takes-done.new.self c.call-failed.result c.args.at
    (length c.args.bytes.now) c.next_file-file.result c.takes-done.result c.call-failed.ensures.after
    c.next_file-file.ensures.torn c.takes-done.ensures.kept c.takes-done.ensures.some c.takes-done.ensures.done).touched

pub returns-clause-stop : goal.returns-clause-stop
returns-clause-stop c =
    (writes_once c.args.self.now c.call-failed.new.self c.takes-done.new.self c.call-failed.result c.args.at
    (length c.args.bytes.now) c.next_file-file.result c.takes-done.result c.call-failed.ensures.after
    c.next_file-file.ensures.torn c.takes-done.ensures.kept c.takes-done.ensures.some c.takes-done.ensures.done).stop

pub returns-clause-time : goal.returns-clause-time
returns-clause-time c =
    (writes_once c.args.self.now c.call-failed.new.self c.takes-done.new.self c.call-failed.result c.args.at
    (length c.args.bytes.now) c.next_file-file.result c.takes-done.result c.call-failed.ensures.after
    c.next_file-file.ensures.torn c.takes-done.ensures.kept c.takes-done.ensures.some c.takes-done.ensures.done).time

pub returns-clause-later : goal.returns-clause-later
returns-clause-later c =
    let once = writes_once c.args.self.now c.call-failed.new.self c.takes-done.new.self c.call-failed.result c.args.at
    (length c.args.bytes.now) c.next_file-file.result c.takes-done.result c.call-failed.ensures.after
    c.next_file-file.ensures.torn c.takes-done.ensures.kept c.takes-done.ensures.some c.takes-done.ensures.done in
    rw once.counted c.call-failed.ensures.later

pub returns-clause-failed : goal.returns-clause-failed
returns-clause-failed c = λ is.
    let once = writes_once c.args.self.now c.call-failed.new.self c.takes-done.new.self c.call-failed.result c.args.at
    (length c.args.bytes.now) c.next_file-file.result c.takes-done.result c.call-failed.ensures.after
    c.next_file-file.ensures.torn c.takes-done.ensures.kept c.takes-done.ensures.some c.takes-done.ensures.done in
    rw once.counted (c.call-failed.ensures.rose (c.wrote.ensures.failed is))
