pub mod Kinds
pub mod KindRules
