-- What stands at the beginning of a core is served unused; its play's saves are those of the server's play.
use Rattle.std.proofs.Common.{ℕ, List}
use Rattle.persist_store.specs.Store.{body_of}
use Rattle.keep_play.specs.Begun.{begun}
use Rattle.keep_play.specs.declared.played.Played.TheVariants as played
use Rattle.keep_play.specs.KeptScript.{StandsAfter}
use Rattle.keep_play.proofs.CoreLemmas.{unused_begun, core_left, core_ends, core_marked, text_saved, all_saved}
use Rattle.keep_play.proofs.keeping.play_core.Goals as goal

pub returns-in-Err-clause-left : goal.returns-in-Err-clause-left
returns-in-Err-clause-left g c = λ d waves stands.
    core_left g.D.Disk.contents g.D.Disk.moment g.D.Disk.left_since c.args.disk.now c.keep_script.new.disk
    c.args.store.standing d waves c.args.script (body_of c.args.store)
    (c.keep_script.ensures.left (begun d waves) stands (unused_begun d waves))

pub returns-in-Err-text_of-clause-left : goal.returns-in-Err-text_of-clause-left
returns-in-Err-text_of-clause-left g c = λ d waves stands.
    core_left g.D.Disk.contents g.D.Disk.moment g.D.Disk.left_since c.args.disk.now c.keep_script.new.disk
    c.args.store.standing d waves c.args.script (body_of c.args.store)
    (c.keep_script.ensures.left (begun d waves) stands (unused_begun d waves))

pub returns-in-Ok-StoreFault-clause-left : goal.returns-in-Ok-StoreFault-clause-left
returns-in-Ok-StoreFault-clause-left g c = λ d waves stands.
    core_left g.D.Disk.contents g.D.Disk.moment g.D.Disk.left_since c.args.disk.now c.keep_script.new.disk
    c.args.store.standing d waves c.args.script (body_of c.args.store)
    (c.keep_script.ensures.left (begun d waves) stands (unused_begun d waves))

pub returns-in-Ok-StoreLimit-clause-left : goal.returns-in-Ok-StoreLimit-clause-left
returns-in-Ok-StoreLimit-clause-left g c = λ d waves stands.
    core_left g.D.Disk.contents g.D.Disk.moment g.D.Disk.left_since c.args.disk.now c.keep_script.new.disk
    c.args.store.standing d waves c.args.script (body_of c.args.store)
    (c.keep_script.ensures.left (begun d waves) stands (unused_begun d waves))

pub returns-clause-left : goal.returns-clause-left
returns-clause-left g c = λ d waves stands.
    core_left g.D.Disk.contents g.D.Disk.moment g.D.Disk.left_since c.args.disk.now c.keep_script.new.disk
    c.args.store.standing d waves c.args.script (body_of c.args.store)
    (c.keep_script.ensures.left (begun d waves) stands (unused_begun d waves))

pub returns-in-Ok-StoreFault-clause-ends : goal.returns-in-Ok-StoreFault-clause-ends
returns-in-Ok-StoreFault-clause-ends g c = λ d waves stands. c.in-Ok-StoreFault.ensures.store_fault c.in-Ok-StoreFault.field-0-is

pub returns-in-Ok-StoreLimit-clause-ends : goal.returns-in-Ok-StoreLimit-clause-ends
returns-in-Ok-StoreLimit-clause-ends g c = λ d waves stands.
    core_ends played.StoreLimit c.keep_script.new.served d waves c.args.script c.args.store.standing (body_of c.args.store) (λ saves. Unit) Unit
    ((rw c.in-Ok-StoreLimit.field-0-is at c.in-Ok-StoreLimit.ensures.ends) (begun d waves) stands (unused_begun d waves))

pub returns-clause-ends : goal.returns-clause-ends
returns-clause-ends g c = λ d waves stands.
    let After : List (List ℕ) → Type 0 = StandsAfter g.D.Disk.contents g.D.Disk.may_leave c.args.disk.now c.keep_script.new.disk
    c.args.store.standing in
    let log = c.in-Ok-Done.log in
    let count = c.in-Ok-Done.saved in
    let new = c.keep_script.new.served in
    let whole = core_ends (played.Done log count) new d waves c.args.script c.args.store.standing (body_of c.args.store) After _
    ((rw c.in-Ok-Done.field-0-is at c.in-Ok-Done.ensures.ends) (begun d waves) stands (unused_begun d waves)) in (
      text_saved new d waves c.args.script log count c.in-Ok.text c.args.store.standing _ After _ whole c.in-Ok.ensures,
      all_saved g.D.Disk.contents g.D.Disk.may_leave g.D.Disk.moment g.D.Disk.left_since g.D.Disk.marked g.D.Disk.fault_count
          c.args.disk.now c.keep_script.new.disk new d waves c.args.script log count c.args.store.standing _ _ whole,
      core_marked (g.D.Disk.marked c.args.disk.now) (g.D.Disk.marked c.keep_script.new.disk) d waves c.args.script (g.D.Disk.contents c.args.disk.now)
          c.args.store.standing whole.marked,
    )
