-- Calls that are given as values.
pub use Rattle.nv_sessions.specs.ByValue.{IsMadeAs, after_snapshot_or_cleaner}
