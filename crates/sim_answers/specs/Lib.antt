pub mod Units
pub mod Forms
pub mod CallUnits
