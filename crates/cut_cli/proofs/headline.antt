-- What status 0 means: the whole cut, the cut without emptied revisions, and the part of a cut after a revision.
pub mod CutTrees
pub mod DroppedCuts
pub mod LengthLemmas
pub mod LoadLemmas
pub mod RestLemmas
pub mod StatusLemmas
pub mod WholeCuts
pub mod WordsApart
pub mod ZeroLemmas
