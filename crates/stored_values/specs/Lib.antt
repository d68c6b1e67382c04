pub mod StoredBodies
