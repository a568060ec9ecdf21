pub mod Advancing
pub mod Bits
pub mod LowBits
pub mod Orders
pub mod Running
pub mod Steps
