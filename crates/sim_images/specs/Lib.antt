pub mod ImageLaws
pub mod CodeLaws
pub mod Counterparts
pub mod PairLaws
