-- The handles below this one come first, and only the next can be it.
use Rattle.std.proofs.Common.{ℕ, ◌<◌, get_or, ap, sym, ◌∙◌, ltb, arith, rules, inl, inr}
use Rattle.std.proofs.lemmas.List.{get_or_default}
use Rattle.std.proofs.lemmas.List.Sorted.{IsPartitionPoint-from_clause, IsPartitionedBy-ltb}
use Rattle.std.proofs.lemmas.Bool.{cases_lt, cases_eq, ltb-true, ltb-false}
use Rattle.sym_handles.specs.declared.entries.Entry.{Entry}
use Rattle.sym_handles.proofs.Slots.{non_decreasing}
use Rattle.sym_handles.proofs.entries.halved.Goals as goal
use Rattle.sym_handles.proofs.entries.halved.Goals.{else-before-entries-via-then-before-entries+else-entries-before}
use Rattle.sym_handles.proofs.entries.halved.Goals.{else-before-entries-via-else-before-entries}

pub returns-else-before-entries : goal.returns-else-before-entries
returns-else-before-entries c = λ k d h e.
    let entries = c.args.entries.now in
    let before = c.partition_point-before.result in
    let parted = IsPartitionedBy-ltb (λ (r : Entry). r.handle) entries c.args.handle (non_decreasing entries c.requires) in
    let point = IsPartitionPoint-from_clause (λ (r : Entry). ltb r.handle c.args.handle)
    _ _ c.partition_point-before.ensures.partitioned parted (λ a r q k. search rules) in
    elim (cases_lt k before) [
      | inl low ↦ let under = ltb-true _ _ (point.0 k d (omega arith) low) in omega (arith, under, e)
      | inr high ↦ elim c.else-before-entries.branch [
        | else-before-entries-via-then-before-entries+else-entries-before w ↦ elim (cases_eq k before) [
          | inl same ↦ w.if-entries-before.false
              (ap (λ (x : Entry). x.handle) (get_or_default entries before _ d w.if-before-entries.true ∙ ap (λ (i : ℕ). get_or entries i d) (sym same)) ∙ e)
          | inr ne ↦
              let later : before < k = omega (arith, high, ne) in
              let up = c.requires before k d later h in
              let over = ltb-false _ _ (point.1 before d (omega arith) w.if-before-entries.true) in
              omega (arith, up, over, e)
        ]
        | else-before-entries-via-else-before-entries w ↦ let out = w.if-before-entries.false in omega (arith, out, high, h)
      ]
    ]
