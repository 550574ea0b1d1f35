-- The definitions of `move_stream`: the lines of many records.
pub mod Batches
