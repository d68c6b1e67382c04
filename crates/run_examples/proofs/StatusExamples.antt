-- How each status ends the process, and what a run prints, by computation.
use Rattle.std.specs.Prelude.{◌==◌, ◌≡◌, refl, ℕ, List, [], ◌∷◌, codes, map, Option, Some, None, bytes_eq}
use Rattle.std.proofs.Common.{ap, inl, inr, lit≤}
use Rattle.std.proofs.lemmas.Bool.{false≢true}
use Rattle.std.specs.Fmt.{digits}
use Rattle.ads_base.specs.declared.peer.Peer.TheVariants as peer
use Rattle.ads_outside.specs.declared.end.End.TheVariants as end
use Rattle.ads_outside.specs.declared.put.Put.TheVariants as put
use Rattle.ads_outside.specs.SinkState.{SinkState}
use Rattle.spec_formats.specs.Codes.{text_in}
use Rattle.run_tasks.specs.declared.status.Status.{Status}
use Rattle.run_tasks.specs.declared.status.Status.TheVariants as status
use Rattle.run_tasks.specs.BeforeRun.{IsBeforeRun}
use Rattle.run_tasks.specs.Ending.{Ending, line_alone}
use Rattle.run_tasks.specs.EndsOr.{PrintsBy, WantsMemory}
use Rattle.run_tasks.specs.Prints.{PrintsEnding, PutsPartAndMemoryLine}
use Rattle.run_tasks.specs.Service.{ending_with, listening_line}
use Rattle.run_tasks.specs.StatusTable.{number_of, last_line_of}
use Rattle.run_tasks.specs.Verdict.{Ends, ended, prints}

-- every status, in the order of its number
abbrev statuses : List Status
statuses = status.Done ∷ status.Usage ∷ status.BadDescription 12 1 ∷ status.BadScript 7 ∷ status.ReadFault ∷ status.WriteFault ∷ status.LinkFault
    ∷ status.Budget ∷ status.Refused 0x710 ∷ status.BadPeer peer.Closed ∷ status.Memory ∷ status.TimedOut 5 50000005 ∷ status.TooLong
    ∷ status.BadValue ∷ status.StoreFault ∷ status.StoreLimit ∷ status.KeeperFault ∷ []

numbers : map number_of statuses ≡ 0 ∷ 1 ∷ 2 ∷ 3 ∷ 4 ∷ 5 ∷ 6 ∷ 7 ∷ 8 ∷ 9 ∷ 10 ∷ 11 ∷ 12 ∷ 13 ∷ 14 ∷ 15 ∷ 16 ∷ []
numbers = refl

-- the last line that each prints; the first prints none, and where standard output failed there is none to print
abbrev lines : List (List ℕ)
lines = [] ∷ codes "ads: usage\n" ∷ codes "ads: description rule 12 item 1\n" ∷ codes "ads: script line 7\n" ∷ codes "ads: read fault\n" ∷ []
    ∷ codes "ads: link fault\n" ∷ codes "ads: budget\n" ∷ codes "ads: refused 0x710 symbol not found\n" ∷ codes "ads: bad peer\n"
    ∷ codes "ads: memory\n" ∷ codes "ads: timed out 5 50000005\n" ∷ codes "ads: file too long\n" ∷ codes "ads: bad value\n"
    ∷ codes "ads: store fault\n" ∷ codes "ads: store limit\n" ∷ codes "ads: keeper fault\n" ∷ []

last_lines : map last_line_of statuses ≡ lines
unfolding digits text_in
last_lines = refl

-- a text that is no TOML document
no_document : last_line_of (status.BadDescription 0 0) ≡ codes "ads: description syntax\n"
no_document = refl

-- a line that stands alone, a text that is printed, and counts before a line
alone : line_alone status.ReadFault ≡ record { status = status.ReadFault; text = codes "ads: read fault\n" }
alone = refl

printed_text : prints (codes "ok\n") ≡ Ends (record { status = status.Done; text = codes "ok\n" })
printed_text = refl

ended_alone : ended status.Usage ≡ Ends (record { status = status.Usage; text = codes "ads: usage\n" })
ended_alone = refl

listening : listening_line ≡ codes "listening\n"
listening = refl

-- a service: its counts, and behind them the line of a budget; a link fault or want of memory is told alone
served : map (ending_with (codes "counts\n")) (end.Done ∷ end.Budget ∷ end.LinkFault ∷ end.Memory ∷ [])
    ≡ record { status = status.Done; text = codes "counts\n" } ∷ record { status = status.Budget; text = codes "counts\nads: budget\n" }
    ∷ record { status = status.LinkFault; text = codes "ads: link fault\n" } ∷ record { status = status.Memory; text = codes "ads: memory\n" } ∷ []
served = refl

-- what comes before a run: the words, the files and a script decide; a link, a store or a budget does not
before_run : IsBeforeRun (status.BadScript 3)
before_run = tt

too_long_before_run : IsBeforeRun status.TooLong
too_long_before_run = tt

not_before_run : IsBeforeRun status.Budget → ⊥
not_before_run h = h

done_is_none : IsBeforeRun status.Done → ⊥
done_is_none h = h

-- a sink that tells what it holds
abbrev sink : List ℕ → ℕ → ℕ → SinkState
sink held faults wants = record { held = Some held; faults = faults; wants = wants }

abbrev held_in : Option (List ℕ) → List ℕ
held_in None = []
held_in (Some held) = held

abbrev usage : Ending
usage = line_alone status.Usage

-- all of it stands there
printed : PrintsEnding usage status.Usage (sink (codes "x") 0 0) (sink (codes "xads: usage\n") 0 0)
printed = inl (refl, refl)

-- the writing failed behind 3 bytes, and that was counted
cut_short : PrintsEnding usage status.WriteFault (sink [] 0 0) (sink (codes "ads") 1 0)
cut_short = inr (inl (refl, ((3, refl), lit≤ tt)))

-- memory was wanting for it: the line on memory stands there alone, or behind a part of it
without_memory : PrintsEnding usage status.Memory (sink [] 0 0) (sink (codes "ads: memory\n") 0 0)
without_memory = inr (inr (refl, inl (put.All, refl)))

part_and_memory : PutsPartAndMemoryLine (codes "ok\n") (sink [] 0 0) (sink (codes "okads: memory\n") 0 1)
part_and_memory = (
  sink (codes "ok") 0 1,
  ((2, refl), lit≤ tt),
  record { faults = lit≤ tt; wants = lit≤ tt },
  (put.All, refl),
)

-- but not with another status, nor another text
another_number : PrintsEnding usage status.Done (sink [] 0 0) (sink (codes "ads: usage\n") 0 0) → ⊥
another_number (inl (same, told)) = false≢true (ap (λ s. number_of s == 1) same)
another_number (inr (inl (same, told))) = false≢true (ap (λ s. number_of s == 5) same)
another_number (inr (inr (same, told))) = false≢true (ap (λ s. number_of s == 10) same)

another_text : PrintsEnding usage status.Usage (sink [] 0 0) (sink (codes "ads: budget\n") 0 0) → ⊥
another_text (inl (same, told)) = false≢true (ap (λ o. bytes_eq (held_in o) (codes "ads: usage\n")) told)
another_text (inr (inl (same, told))) = false≢true (ap (λ s. number_of s == 5) same)
another_text (inr (inr (same, told))) = false≢true (ap (λ s. number_of s == 10) same)

-- the verdict is an ending, and it is printed; a service is none
ends_so : PrintsBy (ended status.Usage) ⊥ status.Usage (sink [] 0 0) (sink (codes "ads: usage\n") 0 0)
ends_so = inl (inl (record { ending = usage; is = refl; printed = inl (refl, refl); still = tt }))

-- a file could not be read: that is told in place of the verdict
reading_failed : PrintsBy (prints (codes "ok\n")) (Unit {0}) status.ReadFault (sink [] 0 0) (sink (codes "ads: read fault\n") 0 0)
reading_failed = inr (tt, record { ending = line_alone status.ReadFault; is = refl; printed = inl (refl, refl); still = tt })

-- memory was wanting before all
nothing_called : WantsMemory status.Memory (sink [] 0 0) (sink (codes "ads: memory\n") 0 0)
nothing_called = (refl, (put.All, refl))

no_other_status : WantsMemory status.Done (sink [] 0 0) (sink (codes "ads: memory\n") 0 0) → ⊥
no_other_status (same, put) = false≢true (ap (λ s. number_of s == 10) same)
