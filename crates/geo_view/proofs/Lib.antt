mod EntryLaws
mod PictureLaws
mod Steps
mod WallLaws
mod HereLaws
mod FollowLaws
mod ViewLaws
mod NearLaws
