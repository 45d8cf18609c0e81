mod StringTables
mod Laying
mod Rows
mod Sound
pub mod Bounds
mod Whole
mod Tables
mod Relocated
