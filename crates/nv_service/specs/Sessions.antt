-- What contracts see of a session.
pub use Rattle.nv_sessions.specs.Sessions.{HeldValue, IsChangedBy, IsCommittedBy, IsViewedBy, SessionValue, with_held}
