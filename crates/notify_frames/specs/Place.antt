-- What is left of a notification where its reading stands. No public clause cites this.
use Rattle.std.specs.Prelude.{ℕ, List, [], ◌∷◌, Option, Some, None, option_map}
use Rattle.notify_frames.specs.declared.place.Place.{Place}
use Rattle.notify_frames.specs.declared.samples.Sample.{Sample}
use Rattle.spec_formats.specs.Notification as notification
use Rattle.notify_frames.specs.Samples.{sample_meant}
use Rattle.notify_frames.specs.Notes.{left_in}

abbrev pub left_of : Place → Option (List (ℕ × notification.Sample))
left_of p = left_in p.time p.samples p.stamps p.bytes.now

-- the sample in front, and what is left after it
abbrev pub left_behind : ℕ → Sample → Place → Option (List (ℕ × notification.Sample))
left_behind time sample place = option_map (λ rest. (time, sample_meant sample) ∷ rest) (left_of place)

-- what was left before this step
abbrev pub left_before : Option (ℕ × Sample × Place) → Option (List (ℕ × notification.Sample))
left_before None = Some []
left_before (Some x) = left_behind x.0 x.1 x.2
