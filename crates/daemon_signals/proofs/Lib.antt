mod PlayedLemmas
mod RoundLemmas
mod TableLemmas
