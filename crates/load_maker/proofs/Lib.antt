pub mod Described
pub mod HexParts
pub mod LineTexts
pub mod MadeRead
pub mod RequestLines
pub mod LoadLemmas
pub mod TableLemmas
pub mod LoadExamples
