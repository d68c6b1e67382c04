-- Which files a run has opened, by how it ended.
use Rattle.std.proofs.Common.{◌≡◌, ◌∷◌, [], ℕ, List, Some, None, inl, inr, sym, subst, ap, ◌∙◌, append-nil}
use Rattle.std.specs.Prelude.{Option}
use Rattle.ads_outside.specs.FilesState.{ReadsSome, ReadsAll}
use Rattle.ads_outside.specs.SinkState.{SinkState}
use Rattle.run_tasks.specs.declared.status.Status.{Status}
use Rattle.run_tasks.specs.declared.status.Status.TheVariants as status
use Rattle.run_tasks.specs.declared.task.Task.{Task}
use Rattle.run_tasks.specs.declared.task.Task.TheVariants as task
use Rattle.run_tasks.specs.Ending.{Ending}
use Rattle.run_tasks.specs.Outcomes.{IsOfFile, IsOfDescription}
use Rattle.run_tasks.specs.Openings.{MayOpenNothing, OpensOne, OpensStore, OpensTable}
use Rattle.run_tasks.specs.Prints.{PrintsEnding}
use Rattle.run_tasks.specs.Readings.{Names}
use Rattle.run_tasks.proofs.ReadLemmas.{some_of_one}

none_of_one : (old new : Names) (a : List ℕ) → new ≡ old → ReadsSome old new (a ∷ [])
none_of_one None new a same = tt
none_of_one (Some names) new a same = (0, same ∙ ap Some (sym (append-nil names)))

-- the file was opened, however the run ended
pub opens_all : (s : Status) (old new : Names) (a : List ℕ) → ReadsAll old new (a ∷ []) → OpensOne s old new a
opens_all status.Usage old new a h = some_of_one old new a h
opens_all (status.BadDescription n i) old new a h = some_of_one old new a h
opens_all (status.BadScript n) old new a h = some_of_one old new a h
opens_all status.ReadFault old new a h = some_of_one old new a h
opens_all status.WriteFault old new a h = some_of_one old new a h
opens_all status.Memory old new a h = some_of_one old new a h
opens_all status.TooLong old new a h = some_of_one old new a h
opens_all status.Done old new a h = h
opens_all status.LinkFault old new a h = h
opens_all status.Budget old new a h = h
opens_all (status.Refused n) old new a h = h
opens_all (status.BadPeer broke) old new a h = h
opens_all (status.TimedOut m n) old new a h = h
opens_all status.BadValue old new a h = h
opens_all status.StoreFault old new a h = h
opens_all status.StoreLimit old new a h = h
opens_all status.KeeperFault old new a h = h

-- memory was wanting
pub opens_some : (s : Status) (old new : Names) (a : List ℕ) → s ≡ status.Memory → ReadsSome old new (a ∷ []) → OpensOne s old new a
opens_some s old new a is h = subst (λ r. OpensOne r old new a) (sym is) h

-- nothing was opened
pub opens_none : (s : Status) (old new : Names) (a : List ℕ) → MayOpenNothing s → new ≡ old → OpensOne s old new a
opens_none status.Usage old new a may same = none_of_one old new a same
opens_none (status.BadDescription n i) old new a may same = none_of_one old new a same
opens_none (status.BadScript n) old new a may same = none_of_one old new a same
opens_none status.ReadFault old new a may same = none_of_one old new a same
opens_none status.WriteFault old new a may same = none_of_one old new a same
opens_none status.Memory old new a may same = none_of_one old new a same
opens_none status.TooLong old new a may same = none_of_one old new a same
opens_none status.Done old new a may same = absurd may
opens_none status.LinkFault old new a may same = absurd may
opens_none status.Budget old new a may same = absurd may
opens_none (status.Refused n) old new a may same = absurd may
opens_none (status.BadPeer broke) old new a may same = absurd may
opens_none (status.TimedOut m n) old new a may same = absurd may
opens_none status.BadValue old new a may same = absurd may
opens_none status.StoreFault old new a may same = absurd may
opens_none status.StoreLimit old new a may same = absurd may
opens_none status.KeeperFault old new a may same = absurd may

-- an ending that was printed, or not
pub may_printed : (e : Ending) (s : Status) (out out_new : SinkState) → MayOpenNothing e.status → PrintsEnding e s out out_new → MayOpenNothing s
may_printed e s out out_new may (inl done) = subst MayOpenNothing (sym done.0) may
may_printed e s out out_new may (inr (inl failed)) = subst MayOpenNothing (sym failed.0) tt
may_printed e s out out_new may (inr (inr wanting)) = subst MayOpenNothing (sym wanting.0) tt

pub may_wanting : (s : Status) → s ≡ status.Memory → MayOpenNothing s
may_wanting s is = subst MayOpenNothing (sym is) tt

-- a file or a description that ends the run
pub may_file : (s : Status) → IsOfFile s → MayOpenNothing s
may_file status.Usage h = tt
may_file (status.BadDescription n i) h = tt
may_file (status.BadScript n) h = tt
may_file status.ReadFault h = tt
may_file status.WriteFault h = tt
may_file status.Memory h = tt
may_file status.TooLong h = tt
may_file status.Done h = absurd h
may_file status.LinkFault h = absurd h
may_file status.Budget h = absurd h
may_file (status.Refused n) h = absurd h
may_file (status.BadPeer broke) h = absurd h
may_file (status.TimedOut m n) h = absurd h
may_file status.BadValue h = absurd h
may_file status.StoreFault h = absurd h
may_file status.StoreLimit h = absurd h
may_file status.KeeperFault h = absurd h

pub may_description : (s : Status) → IsOfDescription s → MayOpenNothing s
may_description status.Usage h = tt
may_description (status.BadDescription n i) h = tt
may_description (status.BadScript n) h = tt
may_description status.ReadFault h = tt
may_description status.WriteFault h = tt
may_description status.Memory h = tt
may_description status.TooLong h = tt
may_description status.Done h = absurd h
may_description status.LinkFault h = absurd h
may_description status.Budget h = absurd h
may_description (status.Refused n) h = absurd h
may_description (status.BadPeer broke) h = absurd h
may_description (status.TimedOut m n) h = absurd h
may_description status.BadValue h = absurd h
may_description status.StoreFault h = absurd h
may_description status.StoreLimit h = absurd h
may_description status.KeeperFault h = absurd h

-- memory was wanting before anything was called
pub store_wanting : (t : Option Task) (s : Status) (old new : Names) → s ≡ status.Memory → new ≡ old → OpensStore t s old new
store_wanting None s old new is same = tt
store_wanting (Some (task.OfFiles t)) s old new is same = tt
store_wanting (Some (task.Serve description listen events)) s old new is same = tt
store_wanting (Some (task.RelayServe description listen events)) s old new is same = tt
store_wanting (Some (task.Keep description script store)) s old new is same = opens_none s old new store (may_wanting s is) same
store_wanting (Some (task.Ask what client)) s old new is same = tt
store_wanting (Some (task.Record what)) s old new is same = tt

pub table_wanting : (t : Option Task) (s : Status) (old new : Names) → s ≡ status.Memory → new ≡ old → OpensTable t s old new
table_wanting None s old new is same = tt
table_wanting (Some (task.OfFiles t)) s old new is same = tt
table_wanting (Some (task.Serve description listen events)) s old new is same = tt
table_wanting (Some (task.RelayServe description listen events)) s old new is same = tt
table_wanting (Some (task.Keep description script store)) s old new is same = tt
table_wanting (Some (task.Ask what client)) s old new is same = tt
table_wanting (Some (task.Record what)) s old new is same = opens_none s old new what.store (may_wanting s is) same
