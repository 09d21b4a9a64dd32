pub mod ItselfLaws
pub mod NestedLaws
