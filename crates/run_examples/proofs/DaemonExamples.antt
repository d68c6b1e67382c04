-- What a plant that is served over a store saves and prints, by computation.
use Rattle.std.specs.Prelude.{◌≡◌, ◌⊎◌, refl, ℕ, ◌-◌, ◌^◌, List, [], ◌∷◌, ◌++◌, codes, map, true, false, Bool, Option, Some, None}
use Rattle.std.proofs.Common.{ap, inl, inr, lit≤, sym}
use Rattle.std.proofs.lemmas.Bool.{false≢true, le-leb}
use Rattle.std.specs.Fmt.{digits}
use Rattle.ads_outside.specs.declared.end.End.TheVariants as end
use Rattle.spec_plant.specs.Description.{Read as ReadRight}
use Rattle.spec_machine.specs.Manner.{Wide}
use Rattle.spec_machine.specs.Profile.{Profile, strict}
use Rattle.spec_rules.specs.TextVerdict.{text_verdict}
use Rattle.hex.specs.Hex.{decode_pairs}
use Rattle.spec_plant.specs.Trees.{trees_behind, trees_of}
use Rattle.spec_plant.specs.Sizes.{type_align, greatest_align, type_size, members_end, type_depth, greatest_depth}
use Rattle.spec_plant.specs.Spelling.{type_text}
use Rattle.spec_rules.specs.Tables.{route_in, member_in, value_in, structure_in, enumeration_in, type_in, symbol_in, port_in, document_in}
use Rattle.spec_plant.specs.Shapes.{shape_of_text}
use Rattle.spec_rules.specs.Described.{types_behind}
use Rattle.spec_rules.specs.RouteRules.{wrong_schema, wrong_net, wrong_rights}
use Rattle.spec_rules.specs.TypeRules.{wrong_type_name, wrong_part}
use Rattle.spec_rules.specs.SizeRules.{wrong_size}
use Rattle.spec_rules.specs.PortRules.{wrong_port, wrong_upload}
use Rattle.spec_rules.specs.SymbolRules.{wrong_name, wrong_type, wrong_place, wrong_content, wrong_signal}
use Rattle.spec_store.specs.BodyText.{entry_of, entries_in, entries_of}
use Rattle.spec_store.specs.Slots.{slot_of, standing_of}
use Rattle.port_device.specs.declared.manner.Manner.TheVariants as manner
use Rattle.server_core.specs.declared.outcome.Outcome.{Outcome}
use Rattle.server_core.specs.declared.outcome.Outcome.TheVariants as outcome
use Rattle.server_core.specs.Profiles.{profile_of}
use Rattle.type_layout.specs.declared.description.Rights.TheVariants as rights
use Rattle.std.specs.Str.{chars, is_utf8}
use Rattle.toml.proofs.OnLiterals.{toml_on_literals}
use Rattle.keep_loop.specs.Bodies.{is_any_over, saves_in}
use Rattle.keep_loop.specs.declared.kept_on.KeptOn.{KeptOn}
use Rattle.keep_loop.specs.declared.save_counts.SaveCounts.{SaveCounts}
use Rattle.keep_loop.specs.declared.save_end.SaveEnd.{SaveEnd}
use Rattle.keep_loop.specs.declared.save_end.SaveEnd.TheVariants as save
use Rattle.keep_loop.specs.KeepingOn.{AreSomeOf, Begun, MayStand, StoodOnce}
use Rattle.run_tasks.specs.declared.status.Status.TheVariants as status
use Rattle.run_tasks.specs.BuiltIn.{built_in}
use Rattle.run_tasks.specs.Ending.{line_alone}
use Rattle.run_tasks.specs.Verdict.{ended}
use Rattle.serve_loop.specs.Telling.{Adds}
use Rattle.watched_wire.specs.Ends.{with_ends}
use Rattle.daemon_run.specs.Kept.{KeepsBodies, SavesEach, ending_kept, status_by, status_kept}
use Rattle.daemon_run.specs.Plant.{Plant, Serving, events_with, plant_kept, plant_of, service_of, serves_plant, serving, start_kept, verdict_on}
use Rattle.daemon_run.specs.PlantEnds.{EndsPlant, PlantBy}
use Rattle.daemon_run.specs.Printed.{counts_saved, ending_so}
use Rattle.run_examples.proofs.KeptExamples.{all_saved, disk, disk_with, empty, file, unused}
use Rattle.run_examples.proofs.PromisesExamples.{sink}
use Rattle.run_examples.proofs.VerdictExamples.{text}

-- so many saves done, failed, wanting memory, and over the limit
abbrev counts : ℕ → ℕ → ℕ → ℕ → SaveCounts
counts saved failed wanted over = record { saved = saved; failed = failed; wanted = wanted; over = over }

abbrev kept_with : Option SaveEnd → KeptOn
kept_with last = record { ended = end.Done; last = last; counts = counts 1 0 0 0 }

-- where the wire had no more events the last body decides: a fault is told only where a save failed, and a limit only where a body was over it
ends_by : map (λ last. status_by last (counts 3 1 0 0))
    (None ∷ Some save.Same ∷ Some save.Saved ∷ Some save.Failed ∷ Some save.Limit ∷ Some save.Memory ∷ [])
    ≡ status.Done ∷ status.Done ∷ status.Done ∷ status.StoreFault ∷ status.Memory ∷ status.Memory ∷ []
ends_by = refl

over_the_limit : status_by (Some save.Limit) (counts 3 0 0 1) ≡ status.StoreLimit
over_the_limit = refl

no_fault_counted : status_by (Some save.Failed) (counts 3 0 0 1) ≡ status.Memory
no_fault_counted = refl

-- what is printed: the counts, the saves, and the line of the status
printed : ending_kept (kept_with (Some save.Saved)) (codes "counts\n") ≡ record { status = status.Done; text = codes "counts\nsaved 1\n" }
unfolding digits
printed = refl

printed_fault : ending_so end.Done status.StoreFault (Some 3) (codes "counts\n")
    ≡ record { status = status.StoreFault; text = codes "counts\nsaved 3\nads: store fault\n" }
unfolding digits
printed_fault = refl

printed_budget : ending_so end.Budget status.Done None (codes "counts\n") ≡ record { status = status.Budget; text = codes "counts\nads: budget\n" }
printed_budget = refl

alone : map (λ e. (ending_so e status.Done (Some 3) (codes "counts\n")).text) (end.LinkFault ∷ end.Memory ∷ [])
    ≡ codes "ads: link fault\n" ∷ codes "ads: memory\n" ∷ []
alone = refl

its_status : status_kept (kept_with (Some save.Same)) ≡ status.Done
its_status = refl

no_store : counts_saved None (codes "counts\n") ≡ codes "counts\n"
no_store = refl

-- as many events as a count of 64 bits has, and one less with a store
events : map events_with (None ∷ Some (codes "f") ∷ []) ≡ (2 ^ 64 - 1) ∷ (2 ^ 64 - 2) ∷ []
events = refl

-- a plant that is served by the wide profile, with a store that is looked at behind each second tick
abbrev wide : Profile
wide = record { manner = Wide; others = Some ReadRight }

its_profile : profile_of (record { manner = manner.Wide; others = Some rights.Read }) ≡ wide
its_profile = refl

strict_profile : profile_of (record { manner = manner.Strict; others = None }) ≡ strict
strict_profile = refl

abbrev h : Serving
h = serving wide [] (Some (codes "f")) 2

abbrev x : Plant
x = plant_of (codes "p") (codes "127.0.0.1:48898") text built_in

its_limit : (service_of h x).limit ≡ 2 ^ 64 - 2
its_limit = refl

kept_plant : (plant_kept None x).description ≡ built_in
kept_plant = refl

starts : (start_kept h None x).world.profile ≡ wide
starts = refl

record VerdictRows : Type 0 where
  is_served : verdict_on h (codes "p") (codes "127.0.0.1:48898") (Some text) ≡ serves_plant h x
  no_file : verdict_on h (codes "p") (codes "127.0.0.1:48898") None ≡ ended status.ReadFault
  broken : verdict_on h (codes "p") (codes "127.0.0.1:48898") (Some (codes "schema = = 2")) ≡ ended (status.BadDescription 0 0)

verdict_rows : VerdictRows
unfolding text_verdict toml_on_literals is_utf8 chars route_in member_in value_in structure_in enumeration_in type_in symbol_in port_in document_in
    shape_of_text types_behind wrong_schema wrong_net wrong_rights wrong_type_name wrong_part wrong_size wrong_port wrong_upload wrong_name wrong_type
    wrong_place wrong_content wrong_signal trees_behind trees_of type_align greatest_align type_size members_end type_depth greatest_depth type_text digits
    decode_pairs
verdict_rows = record { is_served = refl; no_file = refl; broken = refl }

abbrev bytes_in : Option (List ℕ) → List ℕ
bytes_in None = []
bytes_in (Some bytes) = bytes

abbrev is_nothing : List Begun → Bool
is_nothing [] = true
is_nothing (b ∷ bs) = false

abbrev is_no_outcome : List Outcome → Bool
is_no_outcome [] = true
is_no_outcome (o ∷ os) = false

never_left : (bytes : List ℕ) → (bytes ≡ []) ⊎ (bytes ≡ []) → (bytes ≡ []) ⊎ StoodOnce None [] (standing_of bytes)
unfolding StoodOnce
never_left bytes (inl e) = inl e
never_left bytes (inr e) = inl e

-- the new store could not be opened: nothing was served, and that is told
cannot_open : EndsPlant h x status.StoreFault (sink [] 0) (sink (codes "ads: store fault\n") 0) (disk_with [] 1) unused unused
unfolding StoodOnce slot_of standing_of entry_of entries_in entries_of
cannot_open = record {
  standing = None;
  stood = λ old e. ap (λ o. standing_of (bytes_in o)) e;
  begun = [];
  left = λ old e bytes l. never_left bytes l;
  ends = inl (refl, inl (refl, lit≤ tt, inl (refl, refl)));
}

by_the_verdict : PlantBy h (Unit {0}) (serves_plant h x) ⊥ status.StoreFault (sink [] 0) (sink (codes "ads: store fault\n") 0) (disk_with [] 1) unused unused
by_the_verdict = inl (inr (record { made = x; is = refl; comes = cannot_open }))

not_there : PlantBy h (Unit {0}) (ended status.ReadFault) ⊥ status.ReadFault (sink [] 0) (sink (codes "ads: read fault\n") 0) disk unused unused
not_there = inl (inl (record { ending = line_alone status.ReadFault; is = refl; printed = inl (refl, refl); still = (refl, tt) }))

-- one save was begun and done, and the file stands for it
abbrev begun : List Begun
begun = record { body = empty; done = true } ∷ []

looked_at : KeepsBodies (kept_with (Some save.Saved)) (λ looked. looked ≡ empty ∷ []) empty disk None begun
unfolding MayStand AreSomeOf saves_in is_any_over slot_of standing_of entry_of entries_in entries_of
looked_at = record {
  looked = empty ∷ [];
  are = refl;
  some = inl (refl, tt);
  counted = refl;
  each = λ whole. record { are = refl; all = all_saved };
  leaves = λ old e bytes l. inl (ap standing_of l);
  holds = λ kept old e. record { file = file; told = refl; only = λ bytes l. l; stands = refl };
  failed = λ lt. absurd (false≢true (le-leb 1 0 lt));
  over = λ lt. absurd (false≢true (le-leb 1 0 lt));
}

-- a save that was not begun, though a body was looked at that did not stand
not_begun : SavesEach disk None (empty ∷ []) [] → ⊥
unfolding saves_in
not_begun s = false≢true (sym (ap is_nothing s.are))

-- who is told what an event came to heard that behind what was told before; one that says nothing promises nothing
told : Adds (λ heard. heard ≡ outcome.Done ∷ []) (λ heard. heard ≡ outcome.Done ∷ outcome.ReloadOk 2 ∷ []) (outcome.ReloadOk 2 ∷ [])
told before is = ap (λ heard. heard ++ outcome.ReloadOk 2 ∷ []) is

untold : Adds (λ (heard : List Outcome). heard ≡ []) (λ heard. Unit {0}) (outcome.Done ∷ [])
untold before is = tt

not_told : Adds (λ (heard : List Outcome). heard ≡ []) (λ heard. heard ≡ []) (outcome.Done ∷ []) → ⊥
not_told adds = false≢true (ap is_no_outcome (adds [] refl))

-- a wire that counts by itself
ends_counted : (with_ends 3 unused).ends ≡ 3
ends_counted = refl
