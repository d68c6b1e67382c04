pub mod EndedSo
