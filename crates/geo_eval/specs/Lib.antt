pub mod Shown
pub mod Reaches
pub mod Scenes
