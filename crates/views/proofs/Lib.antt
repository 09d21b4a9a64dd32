-- What a walk knows of a node by what it sees of it.
pub mod EnteredLaws
pub mod SeenLaws
