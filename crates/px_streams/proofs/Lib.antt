pub mod Streams
pub mod Copied
