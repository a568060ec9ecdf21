-- To be trusted by a reader: `View` (what a desk tells) and `Calls` (what each call of a desk does to that);
-- of the desks in memory `Files`, `Script`, `MemoryDesk` and `HonestDesk`. `Real` and `Memory` say how desks keep what they tell.
pub mod Calls
pub mod Files
pub mod HonestDesk
pub mod Memory
pub mod MemoryDesk
pub mod Real
pub mod Script
pub mod View
