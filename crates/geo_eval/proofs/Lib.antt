mod DualPlaces
mod FollowLaws
mod ReachLaws
mod SceneLaws
