-- The seats of a service.
pub use Rattle.nv_sessions.specs.Seats.{AreSeats, new_session}
