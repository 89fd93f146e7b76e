pub mod Zeros
pub mod Digests
pub mod Hashing
pub mod Hmac
pub mod Tags
pub mod Keys
pub mod Names
pub mod Laws
