-- No other entry has the key of the one that is taken.
use Rattle.std.proofs.Common.{◌≡◌, ℕ, ◌≤◌, List, sym, ◌∙◌, ap, subst, arith}
use Rattle.std.specs.Prelude.{Option, All, unwrap_or, None}
use Rattle.std.proofs.lemmas.List.{get_or_default}
use Rattle.sym_handles.specs.declared.entries.Entry.{Entry}
use Rattle.sym_handles.specs.declared.records.Record.{Record}
use Rattle.sym_handles.specs.Records.{IsIndex, all_held, live_among, live_in, record_in}
use Rattle.sym_handles.proofs.Slots.{OthersStay, index-removed, all_held-removed, live_among-removed, all-removed}
use Rattle.sym_handles.proofs.records.take.Goals as goal

pub returns-clause-index : goal.returns-clause-index
returns-clause-index c =
    let e = c.remove-entry.result in
    let others = subst (λ (key : ℕ). OthersStay c.args.records.now.slots c.remove.new.self.slots key)
    (ap (λ (x : Entry). x.key) c.remove-entry.ensures.value) c.remove.ensures.updates.others in
    subst (λ (es : List Entry). IsIndex c.remove.new.self.slots es) (sym c.remove-entry.ensures.items)
    (index-removed c.args.records.now.slots c.remove.new.self.slots c.args.entries.now.items
    c.args.place e c.requires.index c.requires.inside others c.remove.ensures.len)

pub returns-clause-held : goal.returns-clause-held
returns-clause-held c = λ d.
    let e = c.remove-entry.result in
    let same = c.remove-entry.ensures.value ∙ get_or_default c.args.entries.now.items c.args.place e d c.requires.inside in
    let others = subst (λ (key : ℕ). OthersStay c.args.records.now.slots c.remove.new.self.slots key)
    (ap (λ (x : Entry). x.key) same) c.remove.ensures.updates.others in
    ap (all_held c.remove.new.self.slots) c.remove-entry.ensures.items
    ∙ all_held-removed c.args.records.now.slots c.remove.new.self.slots c.args.entries.now.items c.args.place d c.requires.index c.requires.inside others

pub returns-clause-counted : goal.returns-clause-counted
returns-clause-counted c =
    let e = c.remove-entry.result in
    let old = c.args.records.now.slots in
    let new = c.remove.new.self.slots in
    let entries = c.args.entries.now.items in
    let same = ap (λ (x : Entry). x.key) c.remove-entry.ensures.value in
    let others = subst (λ (key : ℕ). OthersStay old new key) same c.remove.ensures.updates.others in
    let left = ap live_among
    (ap (all_held new) c.remove-entry.ensures.items ∙ all_held-removed old new entries c.args.place e c.requires.index c.requires.inside others) in
    let taken : live_in (record_in old e.key) ≡ live_in c.remove.result =
    ap (λ (o : Option Record). live_in (unwrap_or o (record { port = 0; place = None }))) c.remove.ensures.value in
    let here = ap (λ (key : ℕ). live_in (record_in old key)) same in
    let all = live_among-removed old entries c.args.place e c.requires.index c.requires.inside in
    omega (arith, left, taken, here, all)

pub returns-clause-numbered : goal.returns-clause-numbered
returns-clause-numbered c = λ most all.
    subst (λ (es : List Entry). All (λ (e : Entry). e.handle ≤ most) es) (sym c.remove-entry.ensures.items)
    (all-removed (λ (e : Entry). e.handle ≤ most) c.args.entries.now.items c.args.place c.requires.inside all)
