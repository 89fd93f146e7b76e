pub mod side
pub mod pair
pub mod turns
pub mod marks
pub mod headline
pub mod refusals
pub mod any_bytes
pub mod Lemmas
