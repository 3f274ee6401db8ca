pub mod Led
pub mod Methods
pub mod Standing
pub mod WholeCalls
