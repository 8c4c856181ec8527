-- What a survey finds is exact, and if it finds nothing, the premise of the law is true.
pub mod FindingLemmas
pub mod PartLemmas
pub mod UnreadTest
pub mod NamingTest
pub mod SurveyLemmas
