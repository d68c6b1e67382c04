pub mod ServerProofs
mod TypeProofs
