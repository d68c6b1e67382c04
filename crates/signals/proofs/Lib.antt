mod Examples
mod WaveLemmas
