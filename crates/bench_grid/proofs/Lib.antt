pub mod SmallValues
