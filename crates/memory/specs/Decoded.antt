-- The node that the record which begins at a byte says. Assumes nothing: these are definitions.
use Rattle.std.specs.Prelude.{ℕ, ◌+◌, List, drop, get_or}
use Rattle.paper.specs.declared.Node.{Node}
use Rattle.paper.specs.declared.Node.TheVariants.{ListEnd}
use Rattle.paper.specs.Record.{Announced, node, format, name, end, unknown, announced, values}

-- what the record that begins at a byte says, where it is a node's
unfoldable pub node_read : Announced → List ℕ → Node
node_read (node r) b = r.node (λ i. get_or (values r.body b) i 0)
node_read format b = ListEnd
node_read name b = ListEnd
node_read end b = ListEnd
node_read unknown b = ListEnd

unfoldable pub node_from : List ℕ → ℕ → Node
node_from bytes at = node_read (announced (get_or bytes at 0)) (drop (at + 1) bytes)
