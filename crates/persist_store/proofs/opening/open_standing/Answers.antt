-- The two slots are those of the file.
use Rattle.std.specs.Prelude.{true, false, drop, option_map}
use Rattle.spec_store.specs.Slots.{slot_of}
use Rattle.spec_store.specs.Saves.{place_of}
use Rattle.persist_store.specs.Slots.{standing_kept}
use Rattle.persist_store.proofs.OpeningLemmas.{at_passed, standing_by_slots}
use Rattle.persist_store.proofs.opening.open_standing.Goals as goal

pub returns-clause-told : goal.returns-clause-told
returns-clause-told g c = λ file told.
    let here = c.in_ok-open_file.ensures.synced file told in
    let between = at_passed g.D.Disk.contents g.D.Disk.may_leave g.D.Disk.moment g.D.Disk.left_since
    c.open_file.new.disk c.slot_at.new.disk file c.slot_at.ensures.passes here in (
      at_passed g.D.Disk.contents g.D.Disk.may_leave g.D.Disk.moment g.D.Disk.left_since
          c.slot_at.new.disk c.slot_at-2.new.disk file c.slot_at-2.ensures.passes between,
      standing_by_slots file (option_map standing_kept c.later_slot.result)
          (c.later_slot.ensures (slot_of (drop (place_of false) file)) (slot_of (drop (place_of true) file))
          (c.in_ok-first.ensures.told file here.told) (c.in_ok-second.ensures.told file between.told)),
    )
