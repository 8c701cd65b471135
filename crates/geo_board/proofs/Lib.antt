pub mod Lists
pub mod MachineSteps
pub mod Schedule
pub mod TableSteps
pub mod Seats
pub mod Closing
pub mod Truths
pub mod Examples
