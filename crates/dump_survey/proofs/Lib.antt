mod CutValues
mod LineValues
mod OmittedValues
mod PrefixValues
mod Prelude
mod RevisionMapValues
pub mod CountLemmas
pub mod CutLemmas
pub mod DigestLemmas
pub mod GivenLemmas
pub mod GrowingPrefixLemmas
pub mod IdleLemmas
pub mod KindLemmas
pub mod LeavingLemmas
pub mod LeftLemmas
pub mod LineLemmas
pub mod MergeinfoLemmas
pub mod NamedLemmas
pub mod NeedLemmas
pub mod NumberLemmas
pub mod OmittedLemmas
pub mod OnceLemmas
pub mod ParentLemmas
pub mod PlaceLemmas
pub mod PrefixLemmas
pub mod RefusedLemmas
pub mod ReportedLemmas
pub mod RevisionMapLemmas
pub mod RowLemmas
pub mod SilentLemmas
pub mod SurveyLemmas
pub mod SurveyTextLemmas
pub mod SurveyorLemmas
pub mod TallyLemmas
pub mod TieLemmas
pub mod TieValues
pub mod UnreadLemmas
pub mod VisitLemmas
pub mod WritingLemmas
