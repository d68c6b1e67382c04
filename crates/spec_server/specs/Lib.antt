pub mod Server
pub mod ServerLaws
pub mod ProfileLaws
pub mod TypeLaws
