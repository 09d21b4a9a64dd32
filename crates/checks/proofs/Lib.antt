-- What the walk for arithmetic finds at a node.
pub mod ArithLaws
