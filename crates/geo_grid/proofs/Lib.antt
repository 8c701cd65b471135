mod BlockSizes
mod Ranks
mod Wheeling
mod Carries
mod Changes
mod Written
mod FormPoints
pub mod AxisLists
pub mod NamedLaws
pub mod FlagLaws
pub mod Levels
pub mod Picks
pub mod OrderLaws
pub mod RankLaws
pub mod StepLaws
pub mod PlanLaws
pub mod LaneLaws
pub mod StartLaws
pub mod ConditionLaws
pub mod RunLaws
pub mod PairLaws
