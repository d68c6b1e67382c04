-- Counts that follow one connection, one change after another.
use Rattle.std.proofs.Common.{◌≡◌, ℕ, ◌+◌, refl, ap, ◌∙◌, arith}
use Rattle.spec_machine.specs.Summary.{count_of}
use Rattle.server_core.specs.declared.summary.Summary.{Summary}
use Rattle.server_core.specs.Served.{ServedConnection}
use Rattle.server_core.specs.Counts.{Grows, Counts, replies_of, samples_of}

pub same_count : (old before : ℕ) → Grows old old before before
same_count old before = λ others e. e

pub same_counts : (s : Summary) (k : ServedConnection) → Counts s s k k
same_counts s k = record {
  connections = refl;
  requests = same_count s.requests k.frames_taken;
  replies = same_count s.replies (replies_of k);
  samples = same_count s.samples (samples_of k);
  accepted = refl;
  refused = refl;
}

pub then_counts : (s t u : Summary) (k l m : ServedConnection) → Counts s t k l → Counts t u l m → Counts s u k m
then_counts s t u k l m first second = record {
  connections = second.connections ∙ first.connections;
  requests = λ others e. second.requests others (first.requests others e);
  replies = λ others e. second.replies others (first.replies others e);
  samples = λ others e. second.samples others (first.samples others e);
  accepted = second.accepted ∙ first.accepted;
  refused = second.refused ∙ first.refused;
}

pub more : (old before n : ℕ) → Grows old (count_of (old + n)) before (before + n)
more old before n = λ others e. ap (λ m. count_of (m + n)) e ∙ some (others + before) n ∙ ap count_of (omega arith)
  where
    some : (m n : ℕ) → count_of (count_of m + n) ≡ count_of (m + n)
    some m n = omega arith

pub one_more : (old before : ℕ) → Grows old (count_of (old + 1)) before (before + 1)
one_more old before = more old before 1
