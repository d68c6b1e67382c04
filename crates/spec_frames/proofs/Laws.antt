-- The laws that the public functions ensure.
use Rattle.std.proofs.Common.{ℕ, List, refl, ap, ◌∙◌}
use Rattle.spec_frames.specs.Number.{AreBytes}
use Rattle.spec_frames.specs.Division.{front_of, packet_of, behind_frame}
use Rattle.spec_frames.specs.Laws.{HasWidths, BeginsWithFrame, HasFront, HasOneDivision, Grows}
use Rattle.spec_frames.proofs.DivisionLemmas.{frames_of-append, rest_of-append}
use Rattle.spec_frames.proofs.OneDivision.{begins_with, frame_split, frame_in_front, open_text, open_front, broken_text, broken_front, divides, one_division}

pub has_widths : (n : ℕ) → HasWidths n
has_widths n = record { two = refl; four = refl; eight = refl }

pub has_front : (text : List ℕ) → AreBytes text → HasFront text
has_front text each = record {
  whole = (
    λ e. record { ams = packet_of text; behind = behind_frame text; packet = (begins_with text each e).0; is = frame_split text each e },
    λ (b : BeginsWithFrame text). ap (λ t. front_of t) b.is ∙ (frame_in_front b.ams b.behind b.packet).whole,
  );
  open_ = (open_text text each, open_front text);
  broken = (broken_text text, broken_front text each);
}

pub has_one_division : (stream : List ℕ) → AreBytes stream → HasOneDivision stream
has_one_division stream each = record {
  one = divides stream each;
  no_other = λ packets rest d. one_division packets stream rest each d;
}

pub grows : (stream more : List ℕ) → Grows stream more
grows stream more = record { frames = frames_of-append more stream; rest = rest_of-append more stream }
