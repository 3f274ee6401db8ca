-- What stands in a world when a service opens.
pub use Rattle.nv_sessions.specs.Opened.{versions_in}
