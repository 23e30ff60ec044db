mod Tape
mod Reaching
mod Between
mod Pieces
