pub mod WriteLaws
pub mod NameLaws
pub mod FirstLaws
