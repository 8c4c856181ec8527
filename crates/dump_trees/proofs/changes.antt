-- One change and the changes of a revision, in the whole tree and in the restricted one.
pub mod TreeLemmas
pub mod EditLemmas
pub mod StageLemmas
pub mod PlainLemmas
pub mod StepLemmas
pub mod FilteredChange
pub mod DirectoryLemmas
pub mod RevisionLemmas
pub mod CutLemmas
