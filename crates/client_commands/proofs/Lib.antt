pub mod CallLemmas
pub mod AskLemmas
pub mod LocalCoreLemmas
pub mod FitLemmas
pub mod LocalLemmas
mod SilentLemmas
mod AloneLemmas
pub mod RecordLemmas
pub mod RecordedRows
pub mod RecordLocalLemmas
