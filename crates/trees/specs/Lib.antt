-- The trees of the nodes that columns hold, and what is said of their terms.
pub mod Trees
pub mod Terms
