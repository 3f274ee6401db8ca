-- What lies beside a part under its lock.
pub use Rattle.nv_sessions.specs.UnlockedParts.{BesideCellValue}
