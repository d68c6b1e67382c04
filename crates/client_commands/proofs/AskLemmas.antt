-- How a client's call ends that was not made, or was made of whom its words name.
use Rattle.std.proofs.Common.{◌≡◌, List, Option, inl, refl, rules, subst, sym}
use Rattle.std.specs.Prelude.{Err}
use Rattle.signals.specs.Wave.{Wave}
use Rattle.ads_outside.specs.declared.link_move.LinkMove.{LinkMove}
use Rattle.ads_outside.specs.declared.named_file.NamedFile.{NamedFile}
use Rattle.ads_outside.specs.LinkState.{LinkState}
use Rattle.ads_outside.specs.SinkState.{SinkState}
use Rattle.client_loop.specs.Called.{Calling}
use Rattle.cli_words.specs.declared.client_words.ClientWords.{ClientWords}
use Rattle.cli_words.specs.declared.client_words.PeerWords.{PeerWords}
use Rattle.run_tasks.specs.declared.client_task.ClientTask.{ClientTask}
use Rattle.run_tasks.specs.declared.status.Status.{Status}
use Rattle.run_tasks.specs.declared.status.Status.TheVariants as status
use Rattle.run_tasks.specs.Asking.{LocalCalling}
use Rattle.client_commands.specs.Calling.{EndsCall, EndsLocalCall}
use Rattle.run_tasks.specs.Prints.{PutsMemoryLine}
use Rattle.client_commands.specs.AskedFrom.{AsksFrom}
use Rattle.client_commands.specs.CallUses.{LinkUse, used}

-- a run that wanted memory before it called anything
pub never_called : {O : Type 0} (x : Calling) (s : Status) (out out_new : SinkState) (told : O → List LinkMove → Type 0) (state : LinkState)
    → s ≡ status.Memory → PutsMemoryLine out out_new → EndsCall x s out out_new (used told told state state)
never_called x s out out_new told state is line = record {
  answer = Err (record {});
  between = out;
  called = inl (record { same = refl; silent = refl; told = λ o log h. h });
  later = record { faults = search rules; wants = search rules };
  prints = (is, line);
}

pub never_asked : (x : LocalCalling) (s : Status) (out out_new : SinkState) → s ≡ status.Memory → PutsMemoryLine out out_new → EndsLocalCall x s out out_new
never_asked x s out out_new is line = record {
  answer = Err (record {});
  between = out;
  called = inl refl;
  later = record { faults = search rules; wants = search rules };
  prints = (is, line);
}

-- a call of whom its words name
pub asks_from : {O : Type 0} (held : Option (List NamedFile)) (waves : List Wave) (what : ClientTask) (client : ClientWords) (p known : PeerWords)
    (failed : Type 0) (s : Status) (out out_new : SinkState) (link : LinkUse O) → p ≡ known
    → AsksFrom held waves what client known failed s out out_new link → AsksFrom held waves what client p failed s out out_new link
asks_from held waves what client p known failed s out out_new link is h =
    let P : PeerWords → Type 0 = λ q. AsksFrom held waves what client q failed s out out_new link in subst P (sym is) h
