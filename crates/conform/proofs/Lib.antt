mod Bytes
mod Carries
mod Passes
