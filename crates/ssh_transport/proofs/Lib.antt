pub mod Answered
pub mod Answering
pub mod Appending
pub mod Asking
pub mod Coming
pub mod Configs
pub mod Denying
pub mod Drawing
pub mod Drawn
pub mod Failing
pub mod Handling
pub mod Heard
pub mod Hearing
pub mod Inputs
pub mod Kept
pub mod Kexes
pub mod Kexinits
pub mod Limits
pub mod Moving
pub mod Opened
pub mod Parts
pub mod Polling
pub mod Reading
pub mod Refusing
pub mod Saying
pub mod Stopping
pub mod Submitting
pub mod Taking
pub mod Stored
pub mod Turning
pub mod Wanting
pub mod Weaker
pub mod Sending
pub mod Serving
pub mod Lemmas
mod Treating
mod Advancing
mod KeptInput
mod Outcomes
