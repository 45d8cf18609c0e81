pub mod ShortLists
pub mod FirstRowForm
pub mod CallRowForm
pub mod TargetRowForm
pub mod OneList
pub mod AlikeForms
