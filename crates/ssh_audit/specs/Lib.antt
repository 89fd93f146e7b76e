pub mod AuditScript
pub mod AuditText
pub mod AuditProgram
pub mod Alike
