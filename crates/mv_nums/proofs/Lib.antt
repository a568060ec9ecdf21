pub mod Powers
pub mod Decimal
