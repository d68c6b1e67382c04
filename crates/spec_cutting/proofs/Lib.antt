pub mod Fed
pub mod FedTurns
pub mod Timely
pub mod Views
pub mod JoinedCalls
pub mod Takes
pub mod LocalScenes
pub mod LocalCuts
