mod Cuts
mod Growing
mod LineRows
mod LineFeeds
mod CutLines
mod HeldLines
mod NextLines
pub mod WholeLines
