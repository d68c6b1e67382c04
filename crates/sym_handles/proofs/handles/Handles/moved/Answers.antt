-- All that are held are moved.
use Rattle.std.proofs.Common.{List, sym, ◌∙◌, ap, subst}
use Rattle.std.specs.Prelude.{map, All}
use Rattle.sym_handles.specs.declared.entries.Entry.{Entry}
use Rattle.sym_handles.specs.Kept.{KeptHandle, Kept, HasPlaceInOldWorld, moved_handle}
use Rattle.sym_handles.specs.Records.{all_held}
use Rattle.sym_handles.proofs.Histories.{kept_is, represents_moved}
use Rattle.sym_handles.proofs.handles.Handles.moved.Goals as goal

pub move_all-live-requires-clause-in_range : goal.move_all-live-requires-clause-in_range
move_all-live-requires-clause-in_range c =
    let same = ap (all_held c.self.inside.records.slots) c.as_slice.ensures.value ∙ ap (λ (k : Kept). k.handles) c.self.view_is in
    subst (λ (hs : List KeptHandle). All (HasPlaceInOldWorld c.args.m.now) hs) (sym same) c.requires

pub returns-clause-moved : goal.returns-clause-moved
returns-clause-moved c = λ history r.
    let places = c.args.m.now in
    let old = c.self.inside.records.slots in
    let new = c.move_all-live.new.records.slots in
    let here = ap (all_held new) (sym c.as_slice.ensures.value) ∙ c.move_all-live.ensures.held
    ∙ ap (λ (es : List Entry). map (moved_handle places) (all_held old es)) c.as_slice.ensures.value in
    represents_moved c.args.self.now _ history places r (ap (λ (k : Kept). k.granted) c.self.view_is)
    (here ∙ ap (λ (k : Kept). map (moved_handle places) k.handles) c.self.view_is)

pub returns-clause-kept : goal.returns-clause-kept
returns-clause-kept c =
    let places = c.args.m.now in
    let old = c.self.inside.records.slots in
    let new = c.move_all-live.new.records.slots in
    let here = ap (all_held new) (sym c.as_slice.ensures.value) ∙ c.move_all-live.ensures.held
    ∙ ap (λ (es : List Entry). map (moved_handle places) (all_held old es)) c.as_slice.ensures.value in
    kept_is _ c.args.self.now.granted (map (moved_handle places) c.args.self.now.handles) (ap (λ (k : Kept). k.granted) c.self.view_is)
    (here ∙ ap (λ (k : Kept). map (moved_handle places) k.handles) c.self.view_is)
