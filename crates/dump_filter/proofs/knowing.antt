-- Each fate preserves what the filter knows. What is written only grows. And there is an answer for any dump.
pub mod StandsNext
pub mod OnceLemmas
pub mod AdvanceLemmas
pub mod FilterLemmas
pub mod Answered
pub mod GrowthLaw
