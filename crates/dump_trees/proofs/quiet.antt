-- Changes that give no alarm are separated.
pub mod LeavingLemmas
pub mod QuietLemmas
