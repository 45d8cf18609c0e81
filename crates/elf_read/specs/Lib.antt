-- What is promised: of files their faults and which one is told, of maps when there is none, of objects when their
-- written file has no fault.
pub mod Faults
pub mod MapRefusals
pub mod Written
-- Helpers, which follow the reader's steps: what its parts find, test by test.
pub mod Formats
pub mod Headers
pub mod Keeping
pub mod Places
pub mod HeaderFaults
pub mod RelocFaults
pub mod Texts
pub mod SymbolFaults
pub mod FirstFaults
pub mod MapRows
