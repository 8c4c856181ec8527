pub mod ChunkBytes
pub mod SinkStates
pub mod SinkCalls
