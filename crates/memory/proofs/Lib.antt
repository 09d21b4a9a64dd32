-- The laws that the code's proofs cite: each part of the reading over the arrays is the definitions' over their lists.
pub mod Unnamed
pub mod RowLaws
pub mod FieldLaws
pub mod KindLaws
pub mod ColumnLaws
pub mod FillLaws
pub mod HeadLaws
pub mod EndLaws
pub mod NameLaws
pub mod NodeLaws
pub mod ViewLaws
pub mod Reached
pub mod ReadLaws
