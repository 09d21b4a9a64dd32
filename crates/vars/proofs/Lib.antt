-- What the walk finds at a node, from what it finds at the nodes below.
pub mod EqualityLaws
