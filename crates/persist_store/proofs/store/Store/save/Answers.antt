-- Where the disk tells its file, a stop leaves the body before or the new one; and a save that is done leaves a store for the next one.
use Rattle.std.proofs.Common.{◌≡◌, ℕ, List, false, sym, ◌∙◌, ap}
use Rattle.std.specs.Prelude.{Option, Some, option_map}
use Rattle.spec_store.specs.Disk.{Only}
use Rattle.spec_store.specs.Slots.{Standing, standing_of}
use Rattle.persist_store.specs.Slots.{standing_kept}
use Rattle.persist_store.specs.Store.{StoreState}
use Rattle.persist_store.proofs.StepLemmas.{ready_after}
use Rattle.persist_store.proofs.store.Store.save.Goals as goal

pub returns-in-Ok-clause-stop : goal.returns-in-Ok-clause-stop
returns-in-Ok-clause-stop g c = λ file told works.
    let ready = c.requires.ready file told works in
    c.save_slot.ensures.stop file (record { told = told; only = ready.0 }) (ready.1 ∙ sym (ap (λ (s : StoreState). s.standing) c.self.view_is))

pub returns-in-Err-Failed-clause-stop : goal.returns-in-Err-Failed-clause-stop
returns-in-Err-Failed-clause-stop g c = λ file told works.
    let ready = c.requires.ready file told works in
    c.save_slot.ensures.stop file (record { told = told; only = ready.0 }) (ready.1 ∙ sym (ap (λ (s : StoreState). s.standing) c.self.view_is))

pub returns-in-Err-Memory-clause-stop : goal.returns-in-Err-Memory-clause-stop
returns-in-Err-Memory-clause-stop g c = λ file told works.
    let ready = c.requires.ready file told works in
    c.save_slot.ensures.stop file (record { told = told; only = ready.0 }) (ready.1 ∙ sym (ap (λ (s : StoreState). s.standing) c.self.view_is))

pub returns-in-Ok-clause-ready : goal.returns-in-Ok-clause-ready
returns-in-Ok-clause-ready g c = λ file told works.
    let open_ : c.args.self.now.shut ≡ false = sym (ap (λ (s : StoreState). s.shut) c.self.view_is) ∙ c.if-self.false in
    let standing = option_map standing_kept c.self.inside.standing in
    let ready : (f : List ℕ) → g.D.Disk.contents c.args.disk.now ≡ Some f → Only f (g.D.Disk.may_leave c.args.disk.now) × (standing_of f ≡ standing) =
    λ f is. ((c.requires.ready f is open_).0, (c.requires.ready f is open_).1 ∙ sym (ap (λ (s : StoreState). s.standing) c.self.view_is)) in
    let after = ready_after g.D.Disk.contents g.D.Disk.may_leave g.D.Disk.moment g.D.Disk.left_since
    c.args.disk.now c.save_slot.new.disk standing c.args.body.now ready c.save_slot.ensures.untold
    (λ f is. c.in-Ok.ensures.done f (record { told = is; only = (ready f is).0 }) (ready f is).1) file told in
    (after.0, after.1 ∙ sym (ap (λ t. Some t) c.in-Ok.ensures.slot))
