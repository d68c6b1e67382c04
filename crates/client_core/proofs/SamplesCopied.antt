-- The samples of a notification, each with its stamp's moment.
use Rattle.std.proofs.Common.{◌≡◌, ℕ, List, [], ◌∷◌, ◌++◌, refl, sym, ap, ◌∙◌, append_assoc}
use Rattle.std.specs.Prelude.{map, Option, Some, None, option_map}
use Rattle.std.proofs.lemmas.List.{map-append}
use Rattle.spec_formats.specs.Notification.{Sample, Stamp}
use Rattle.notify_frames.specs.Notes.{timed, samples_in}
use Rattle.spec_client.specs.Heard.{StampedSample, samples_of_stamp, samples_of_stamps}
use Rattle.client_core.specs.Samples.{stamped}

abbrev no_notes : Option (List (ℕ × Sample))
no_notes = None

stamped_samples : (time : ℕ) (samples : List Sample) → map stamped (timed time samples) ≡ map (λ sample. record { time = time; sample = sample }) samples
stamped_samples time [] = refl
stamped_samples time (s ∷ ss) = ap (λ xs. record { time = time; sample = s } ∷ xs) (stamped_samples time ss)

pub stamped_stamps : (stamps : List Stamp) → map stamped (samples_in stamps) ≡ samples_of_stamps stamps
stamped_stamps [] = refl
stamped_stamps (s ∷ ss) =
    map-append stamped (timed s.time s.samples) (samples_in ss)
    ∙ rw (stamped_samples s.time s.samples, stamped_stamps ss) refl

pub stamped_found : (o : Option (List Stamp)) → option_map (λ xs. map stamped xs) (option_map samples_in o) ≡ option_map samples_of_stamps o
stamped_found None = refl
stamped_found (Some stamps) = ap (λ xs. Some xs) (stamped_stamps stamps)

pub copied_step : (samples pushed : List StampedSample) (notes rest : List (ℕ × Sample)) (all : List StampedSample) (x : ℕ × Sample) (v : StampedSample)
    → samples ++ map stamped notes ≡ all → notes ≡ x ∷ rest → v ≡ stamped x → pushed ≡ samples ++ v ∷ [] → pushed ++ map stamped rest ≡ all
copied_step samples pushed notes rest all x v so_far e is more =
    rw (more, is, append_assoc) (ap (λ xs. samples ++ map stamped xs) (sym e) ∙ so_far)

pub samples_found : (o : Option (List Stamp)) (notes : List (ℕ × Sample)) (items : List StampedSample)
    → Some notes ≡ option_map samples_in o → items ≡ map stamped notes
    → Some items ≡ option_map samples_of_stamps o
samples_found o notes items found e = ap (λ xs. Some xs) e ∙ ap (λ q. option_map (λ xs. map stamped xs) q) found ∙ stamped_found o

pub none_found : (o : Option (List Stamp)) → None ≡ option_map samples_in o → None ≡ option_map samples_of_stamps o
none_found None e = refl
none_found (Some stamps) e = absurd (let h : no_notes ≡ Some (samples_in stamps) = e in cc)
