pub mod Machine
pub mod Truth
pub mod Hands
pub mod Rule
pub mod BoardSeats
