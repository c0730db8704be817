pub mod Transcript
pub mod Worked
