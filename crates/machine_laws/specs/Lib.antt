pub mod TypeLaws
pub mod ClampLaws
pub mod QueueLaws
pub mod PlanLaws
pub mod StepLaws
pub mod FrontLaws
pub mod JoinLaws
pub mod GoneLaws
