pub mod AfterMoves
mod CheckedOver
pub mod CleanerRuns
pub mod CleaningTurns
mod Draining
mod ExclusiveCrossing
mod ExclusiveWalks
mod FirstHomes
mod Found
pub mod Giving
pub mod Holding
pub mod Keeping
pub mod ListCells
pub mod TakenCells
pub mod Misnamed
pub mod Moves
mod NamedItems
mod KnownFromStart
mod Nothing
mod Noting
mod OtherRefusals
mod Pool
mod Raised
mod ReadyOver
mod Refusals
mod SeatCalls
mod Slots
mod Snapping
mod Takings
mod Told
pub mod Turning
mod Turns
mod Underway
pub mod Versions
mod ViewRuns
mod BookLeft
mod ShowTurns
