pub mod ProgramWaves
pub mod Uses
pub mod Ends
pub mod Program
