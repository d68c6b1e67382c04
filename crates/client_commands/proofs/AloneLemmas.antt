-- Where the keeper failed, a recording has printed nothing before its last line.
use Rattle.std.proofs.Common.{◌≡◌, ℕ, zero, suc, ◌≤◌, List, [], ◌∷◌, ◌++◌, take, refl, sym, ap, ◌∙◌, subst, append-nil, inl, inr}
use Rattle.std.proofs.Math.Nat.{le_trans}
use Rattle.std.specs.Prelude.{◌⊎◌, Option, Some, None, Ok}
use Rattle.ads_outside.specs.declared.link_move.LinkMove.{LinkMove}
use Rattle.ads_outside.specs.declared.put.Put.{Put}
use Rattle.ads_outside.specs.declared.put.Put.TheVariants as put
use Rattle.ads_outside.specs.LinkState.{LinkState}
use Rattle.ads_outside.specs.Puts.{Appends, AppendsPart, Puts}
use Rattle.ads_outside.specs.SinkState.{SinkState, NeverFalls}
use Rattle.spec_client.specs.Conversation.{printed_by}
use Rattle.spec_client.specs.Runner.{CallStep, Print}
use Rattle.client_loop.specs.Called.{Calling}
use Rattle.client_loop.specs.Outlets.{outlets}
use Rattle.client_loop.specs.Recorded.{AfterRecord}
use Rattle.client_loop.specs.declared.record_end.RecordEnd.TheVariants as recorded
use Rattle.run_tasks.specs.declared.status.Status.{Status}
use Rattle.run_tasks.specs.declared.status.Status.TheVariants as status
use Rattle.run_tasks.specs.Ending.{Ending}
use Rattle.run_tasks.specs.StatusTable.{last_line_of}
use Rattle.run_tasks.specs.Prints.{PutsMemoryLine, PrintsEnding}
use Rattle.run_tasks.proofs.ReadingLemmas.{rose_from}
use Rattle.sample_store.specs.Keeper.{KeeperState}
use Rattle.client_commands.proofs.SilentLemmas.{IsRecord, both_none, call_silent, last_step_silent}

take_none : (n : ℕ) → ◌≡◌ {A = List ℕ} (take n []) []
take_none zero = refl
take_none (suc n) = refl

printed_both : (a b : List CallStep) → printed_by (a ++ b) ≡ [] → (printed_by a ≡ []) × (printed_by b ≡ [])
printed_both [] b none = (refl, none)
printed_both (Print text ∷ a) b none =
    let first = both_none text (printed_by (a ++ b)) none in
    let rest = printed_both a b first.1 in
    (ap (λ t. t ++ printed_by a) first.0 ∙ rest.0, rest.1)
printed_both (step ∷ a) b none = printed_both a b none

printed_first : (steps : List CallStep) → printed_by steps ≡ [] → printed_by (take 1 steps) ≡ []
printed_first [] none = refl
printed_first (Print text ∷ steps) none = append-nil text ∙ (both_none text (printed_by steps) none).0
printed_first (step ∷ steps) none = refl

none_put : (held mid new : Option (List ℕ)) → Appends held mid [] → AppendsPart mid new [] → Appends held new []
none_put None mid new all part = tt
none_put (Some old) mid new all part =
    let P : Option (List ℕ) → Type 0 = λ m. AppendsPart m new [] in
    let here : AppendsPart (Some (old ++ [])) new [] = subst P all part in
    here.1 ∙ ap (λ l. Some l) (ap (λ t. (old ++ []) ++ t) (take_none here.0) ∙ append-nil (old ++ []))

-- nothing is printed before
pub nothing_before : {O : Type 0} (x : Calling) → IsRecord x.call → (told tells : O → List LinkMove → Type 0) (old new : LinkState)
    (out between : SinkState) (keeper keeper_new : KeeperState)
    → AfterRecord (Ok recorded.KeeperFault) x told tells old new (outlets out keeper) (outlets between keeper_new)
    → Appends out.held between.held []
nothing_before x is told tells old new out between keeper keeper_new (rose, inl h) =
    let b = h.breaks in
    let t = b.text in
    let silent = last_step_silent x.me x.peer x.call b.moment b.answers is in
    let parts = printed_both t.given t.left (sym (ap printed_by t.all) ∙ silent.1) in
    let P : List ℕ → Type 0 = λ l. Appends out.held t.mid l in
    let Q : List ℕ → Type 0 = λ l. AppendsPart t.mid between.held l in
    none_put out.held t.mid between.held
    (subst P (ap (λ l. l ++ printed_by t.given) silent.0 ∙ parts.0) t.put) (subst Q (printed_first t.left parts.1) t.part)
nothing_before x is told tells old new out between keeper keeper_new (rose, inr h) =
    let t = h.talks in
    let P : List ℕ → Type 0 = λ l. Appends out.held between.held l in
    subst P (call_silent x.me x.peer x.call t.moment t.answers is) t.text

appends_from : (held mid new : Option (List ℕ)) (text : List ℕ) → Appends held mid [] → Appends mid new text → Appends held new text
appends_from None mid new text none all = tt
appends_from (Some old) mid new text none all =
    let P : Option (List ℕ) → Type 0 = λ m. Appends m new text in
    let here : Appends (Some (old ++ [])) new text = subst P none all in
    here ∙ ap (λ l. Some (l ++ text)) (append-nil old)

part_from : (held mid new : Option (List ℕ)) (text : List ℕ) → Appends held mid [] → AppendsPart mid new text → AppendsPart held new text
part_from None mid new text none part = tt
part_from (Some old) mid new text none part =
    let P : Option (List ℕ) → Type 0 = λ m. AppendsPart m new text in
    let here : AppendsPart (Some (old ++ [])) new text = subst P none part in
    (here.0, here.1 ∙ ap (λ l. Some (l ++ take here.0 text)) (append-nil old))

puts_from : (answer : Put) (out between new : SinkState) (text : List ℕ) → Appends out.held between.held [] → NeverFalls out between
    → Puts answer between new text → Puts answer out new text
puts_from put.All out between new text none later h = appends_from out.held between.held new.held text none h
puts_from put.Failed out between new text none later h =
    (part_from out.held between.held new.held text none h.0, rose_from out.faults between.faults new.faults later.faults h.1)
puts_from put.Memory out between new text none later h =
    (part_from out.held between.held new.held text none h.0, rose_from out.wants between.wants new.wants later.wants h.1)

-- what is printed behind nothing
pub prints_from : (e : Ending) (s : Status) (out between new : SinkState) → Appends out.held between.held [] → NeverFalls out between
    → PrintsEnding e s between new → PrintsEnding e s out new
prints_from e s out between new none later (inl h) = inl (h.0, puts_from put.All out between new e.text none later h.1)
prints_from e s out between new none later (inr (inl h)) = inr (inl (h.0, puts_from put.Failed out between new e.text none later h.1))
prints_from e s out between new none later (inr (inr (is, inl h))) =
    inr (inr (is, inl (h.0, puts_from h.0 out between new (last_line_of status.Memory) none later h.1)))
prints_from e s out between new none later (inr (inr (is, inr h))) =
    inr (inr (
      is,
      inr (
        h.0,
        puts_from put.Memory out between h.0 e.text none later h.1,
        record { faults = le_trans later.faults h.2.faults; wants = le_trans later.wants h.2.wants },
        h.3,
      ),
    ))
