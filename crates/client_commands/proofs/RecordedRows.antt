-- What a recording makes of the rows of its table.
use Rattle.std.proofs.Common.{◌≡◌, ◌≤◌, ◌+◌, ℕ, zero, suc, List, [], ◌∷◌, ◌++◌, Option, Some, None, inl, inr, subst, ap, sym, ◌∙◌, arith, rules, length}
use Rattle.std.proofs.Common.{take, length-append, append_assoc}
use Rattle.std.specs.Prelude.{Bool, true, false, Result, Ok, Err}
use Rattle.ads_base.specs.declared.no_memory.NoMemory.{NoMemory}
use Rattle.ads_outside.specs.declared.link_move.LinkMove.{LinkMove}
use Rattle.ads_outside.specs.LinkState.{LinkState}
use Rattle.ads_outside.specs.SinkState.{SinkState}
use Rattle.spec_samples.specs.Row.{Row}
use Rattle.spec_samples.specs.Rows.{rows_after}
use Rattle.spec_samples.specs.Laws.{AreCountedFrom}
use Rattle.spec_samples.proofs.CountLemmas.{put_last, counted-last}
use Rattle.spec_client.specs.Conversation.{LinkAnswer, LoopEnd}
use Rattle.spec_client.specs.Runner.{CallStep}
use Rattle.spec_client_laws.specs.KeptRows.{first_row, row_limit, IsCounted}
use Rattle.spec_client_laws.proofs.KeptLemmas.{keeps_counted}
use Rattle.client_calls.specs.Recording.{AreNames}
use Rattle.client_loop.specs.Called.{Calling, IfBroken, over}
use Rattle.client_loop.specs.Due.{AtSend, AtPrint, Anywhere}
use Rattle.client_loop.specs.Outlets.{Outlets, outlets, Adds}
use Rattle.client_loop.specs.Recorded.{AfterRecord, RecordsAll, RecordsSome}
use Rattle.client_replies.specs.declared.stage.CallEnd.TheVariants as call_end
use Rattle.client_loop.specs.declared.loop_end.LoopEnd.TheVariants as end
use Rattle.client_loop.specs.declared.record_end.RecordEnd.{RecordEnd}
use Rattle.client_loop.specs.declared.record_end.RecordEnd.TheVariants as recorded
use Rattle.sample_store.specs.declared.keeper_open.KeeperOpen.TheVariants as open_
use Rattle.sample_store.specs.Keeper.{KeeperState, AreNumbered, Counts}
use Rattle.run_tasks.specs.declared.record_task.RecordTask.{RecordTask}
use Rattle.run_tasks.specs.Fits.{FitsRecord}
use Rattle.run_tasks.specs.RecordAsked.{call_recorded}
use Rattle.client_commands.specs.RecordRows.{AddsRows, RowsAdded}

append_none : (rows : List Row) → rows ≡ rows ++ []
append_none rows = search rules

-- rows that are numbered on stand behind those that are there
rows_after-counted : (puts rows : List Row) → AreCountedFrom 1 rows → AreCountedFrom (1 + length rows) puts → rows_after rows puts ≡ rows ++ puts
unfolding rows_after AreCountedFrom
rows_after-counted [] rows counted next = append_none rows
rows_after-counted (p ∷ ps) rows counted next =
    let more : length (rows ++ p ∷ []) ≡ length rows + 1 = omega (arith, length-append rows (p ∷ [])) in
    let number : 1 + length rows + 1 ≡ 1 + length (rows ++ p ∷ []) = omega (arith, more) in
    let behind : AreCountedFrom (1 + length (rows ++ p ∷ [])) ps = subst (λ n. AreCountedFrom n ps) number next.1 in
    ap (λ r. rows_after r ps) (put_last 1 rows p counted next.0)
    ∙ (rows_after-counted ps (rows ++ p ∷ []) (counted-last 1 rows p counted next.0) behind ∙ append_assoc rows (p ∷ []) ps)

-- first parts of rows that are numbered on
counted-take : (n k : ℕ) (rows : List Row) → AreCountedFrom n rows → AreCountedFrom n (take k rows)
unfolding AreCountedFrom
counted-take n zero rows h = tt
counted-take n (suc k) [] h = tt
counted-take n (suc k) (r ∷ rs) h = (h.0, counted-take (n + 1) k rs h.1)

few-take : (k limit : ℕ) (rows : List Row) → length rows ≤ limit → length (take k rows) ≤ limit
few-take zero limit rows h = omega (arith)
few-take (suc k) limit [] h = h
few-take (suc k) zero (r ∷ rs) h = omega (arith, h)
few-take (suc k) (suc limit) (r ∷ rs) h = let one : length rs ≤ limit = omega (arith, h) in omega (arith, few-take k limit rs one)

counted_none : (n : ℕ) → AreCountedFrom n []
unfolding AreCountedFrom
counted_none n = tt

-- a keeper that was not called
pub adds_none : (rows : Option (List Row)) → AddsRows rows rows
adds_none None = tt
adds_none (Some rows) =
    record { more = []; is = ap (λ r. Some r) (append_none rows); numbers = counted_none (length rows + 1); few = omega (arith) }

-- an opening changes no row
pub adds_opened : (old opened new : Option (List Row)) → opened ≡ old → AddsRows opened new → AddsRows old new
adds_opened old opened new same h = subst (λ r. AddsRows r new) same h

pub adds_unchanged : (old new : Option (List Row)) → new ≡ old → AddsRows old new
adds_unchanged old new same = subst (λ r. AddsRows old r) (sym same) (adds_none old)

-- the first row's number is the next one, and there are not more than so many
adds_kept : (rows : List Row) (new : Option (List Row)) (n : ℕ) (kept : List Row) → AreCountedFrom 1 rows → n ≡ length rows → IsCounted (n + 1) 1000000 kept
    → new ≡ Some (rows_after rows kept) → RowsAdded rows new
adds_kept rows new n kept numbered count counted is =
    let first : n + 1 ≡ 1 + length rows = omega (arith, count) in
    let same : n + 1 ≡ length rows + 1 = ap (λ m. m + 1) count in
    let next : AreCountedFrom (1 + length rows) kept = subst (λ m. AreCountedFrom m kept) first counted.numbers in
    record {
      more = kept;
      is = is ∙ ap (λ r. Some r) (rows_after-counted kept rows numbered next);
      numbers = subst (λ m. AreCountedFrom m kept) same counted.numbers;
      few = counted.few;
    }

-- these rows were put, which are numbered on
adds_put : (old new : Option (List Row)) (n : ℕ) (puts : List Row) → AreNumbered old → Counts (open_.Ready n) old → IsCounted (n + 1) 1000000 puts
    → Adds old new puts → AddsRows old new
adds_put None new n puts numbered counts counted is = tt
adds_put (Some rows) new n puts numbered counts counted is = adds_kept rows new n puts numbered counts counted is

adds_same : (old new : KeeperState) → new ≡ old → AddsRows old.rows new.rows
adds_same old new same = subst (λ k. AddsRows old.rows k.rows) (sym same) (adds_none old.rows)

-- the rows that a recording gives behind so many are numbered on
kept_counted : (what : RecordTask) (x : Calling) (n moment : ℕ) (answers : List LinkAnswer) → FitsRecord what → x.call ≡ call_recorded what n
    → IsCounted (n + 1) 1000000 (over x moment answers).kept
kept_counted what x n moment answers fits is =
    let all = keeps_counted x.me x.peer x.call moment answers in
    let few : length (over x moment answers).kept ≤ what.count = subst (λ c. length (over x moment answers).kept ≤ row_limit c) is all.few in
    record {
      numbers = subst (λ c. AreCountedFrom (first_row c) (over x moment answers).kept) is all.numbers;
      few = omega (arith, few, fits.most);
    }

-- a table that is open, and a recording behind its rows
record Begins (what : RecordTask) (x : Calling) (n : ℕ) (rows : Option (List Row)) : Type 0 where
  fits : FitsRecord what
  is : x.call ≡ call_recorded what n
  numbered : AreNumbered rows
  counts : Counts (open_.Ready n) rows

adds_all : {O : Type 0} (what : RecordTask) (x : Calling) (n : ℕ) (ended : Option LoopEnd) (told tells : O → List LinkMove → Type 0) (new : LinkState)
    (out out_new : Outlets) → Begins what x n out.keeper.rows → RecordsAll x ended told tells new out out_new
    → AddsRows out.keeper.rows out_new.keeper.rows
adds_all what x n ended told tells new out out_new b h =
    adds_put out.keeper.rows out_new.keeper.rows n (over x h.talks.moment h.talks.answers).kept b.numbered b.counts
    (kept_counted what x n h.talks.moment h.talks.answers b.fits b.is) h.rows

adds_some : {O : Type 0} (IsStop : List CallStep → Type 0) (what : RecordTask) (x : Calling) (n : ℕ) (told tells : O → List LinkMove → Type 0)
    (new : LinkState) (out out_new : Outlets) → Begins what x n out.keeper.rows → RecordsSome IsStop x told tells new out out_new
    → AddsRows out.keeper.rows out_new.keeper.rows
adds_some IsStop what x n told tells new out out_new b h =
    let kept = (over x h.breaks.moment h.breaks.answers).kept in
    let counted = kept_counted what x n h.breaks.moment h.breaks.answers b.fits b.is in
    adds_put out.keeper.rows out_new.keeper.rows n (take h.rows.0 kept) b.numbered b.counts
    (record { numbers = counted-take (n + 1) h.rows.0 kept counted.numbers; few = few-take h.rows.0 1000000 kept counted.few }) h.rows.1

adds_failed : {O : Type 0} (broken : Bool) (what : RecordTask) (x : Calling) (n : ℕ) (told tells : O → List LinkMove → Type 0) (new : LinkState)
    (out out_new : Outlets) → Begins what x n out.keeper.rows
    → IfBroken broken (RecordsAll x None told tells new out out_new) (RecordsSome AtSend x told tells new out out_new)
    → AddsRows out.keeper.rows out_new.keeper.rows
adds_failed true what x n told tells new out out_new b h = adds_all what x n None told tells new out out_new b h
adds_failed false what x n told tells new out out_new b h = adds_some AtSend what x n told tells new out out_new b h

adds_so : {O : Type 0} (what : RecordTask) (x : Calling) (n : ℕ) (answer : Result RecordEnd NoMemory) (told tells : O → List LinkMove → Type 0)
    (old new : LinkState) (out out_new : Outlets) → Begins what x n out.keeper.rows → AfterRecord answer x told tells old new out out_new
    → AddsRows out.keeper.rows out_new.keeper.rows
adds_so what x n (Ok (recorded.Loop (end.Call call_end.Done))) told tells old new out out_new b h =
    adds_all what x n _ told tells new out (outlets h.before out_new.keeper) b h.all
adds_so what x n (Ok (recorded.Loop (end.Call (call_end.Refused code)))) told tells old new out out_new b h =
    adds_all what x n _ told tells new out out_new b h
adds_so what x n (Ok (recorded.Loop (end.Call (call_end.BadPeer peer)))) told tells old new out out_new b h =
    adds_all what x n _ told tells new out out_new b h
adds_so what x n (Ok (recorded.Loop (end.Call call_end.BadValue))) told tells old new out out_new b h =
    adds_all what x n _ told tells new out out_new b h
adds_so what x n (Ok (recorded.Loop (end.Call (call_end.TimedOut sent now)))) told tells old new out out_new b h =
    adds_all what x n _ told tells new out out_new b h
adds_so what x n (Ok (recorded.Loop end.Budget)) told tells old new out out_new b h = adds_all what x n _ told tells new out out_new b h
adds_so what x n (Ok (recorded.Loop end.LinkFault)) told tells old new out out_new b (rose, inl h) = adds_same out.keeper out_new.keeper h.untouched
adds_so what x n (Ok (recorded.Loop end.LinkFault)) told tells old new out out_new b (rose, inr h) =
    adds_failed new.history.broken what x n told tells new out out_new b h
adds_so what x n (Ok (recorded.Loop end.WriteFault)) told tells old new out out_new b (rose, inl h) =
    adds_some AtPrint what x n told tells new out out_new b h
adds_so what x n (Ok (recorded.Loop end.WriteFault)) told tells old new out out_new b (rose, inr h) =
    adds_all what x n _ told tells new out (outlets h.before out_new.keeper) b h.all
adds_so what x n (Ok recorded.KeeperFault) told tells old new out out_new b (rose, inl h) =
    adds_some Anywhere what x n told tells new out out_new b h
adds_so what x n (Ok recorded.KeeperFault) told tells old new out out_new b (rose, inr h) = adds_all what x n _ told tells new out out_new b h
adds_so what x n (Err e) told tells old new out out_new b (inl h) = adds_same out.keeper out_new.keeper h.untouched
adds_so what x n (Err e) told tells old new out out_new b (inr (inl h)) = adds_some Anywhere what x n told tells new out out_new b h
adds_so what x n (Err e) told tells old new out out_new b (inr (inr h)) =
    adds_all what x n _ told tells new out (outlets h.before out_new.keeper) b h.all

-- what a recording behind so many rows does to its table
pub record_adds : {O : Type 0} (what : RecordTask) (x : Calling) (n : ℕ) (answer : Result RecordEnd NoMemory) (told tells : O → List LinkMove → Type 0)
    (old new : LinkState) (out out_new : SinkState) (keeper keeper_new : KeeperState) → FitsRecord what → x.call ≡ call_recorded what n
    → AreNumbered keeper.rows → Counts (open_.Ready n) keeper.rows
    → AfterRecord answer x told tells old new (outlets out keeper) (outlets out_new keeper_new) → AddsRows keeper.rows keeper_new.rows
record_adds what x n answer told tells old new out out_new keeper keeper_new fits is numbered counts h =
    adds_so what x n answer told tells old new (outlets out keeper) (outlets out_new keeper_new)
    (record { fits = fits; is = is; numbered = numbered; counts = counts }) h

-- copies of the names are short
pub names_fit : (what : RecordTask) (names : List (List ℕ)) → names ≡ what.names → FitsRecord what → AreNames names
names_fit what names same fits =
    subst AreNames (sym same) (record { some = fits.named; most = fits.few; short = fits.short })
