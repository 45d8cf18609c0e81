pub mod StartFacts
mod RangeStarts
mod StartTables
pub mod RelocPlaces
pub mod RelocOrder
pub mod RelocTable
pub mod DecodedPlaces
