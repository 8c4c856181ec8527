pub mod FilterAnswer
pub mod PlanViews
pub mod RunAnswer
pub mod RunLaws
pub mod steps
