-- Where a walk goes on below a condition: to its conditions or its operands, by its node. Assumes nothing: these are definitions.
use Rattle.paper.specs.declared.Node.{Node}
use Rattle.paper.specs.declared.Node.TheVariants as node
use Rattle.views.specs.declared.Below.{Below}
use Rattle.views.specs.declared.Below.TheVariants.{Nothing, Condition, Conditions, Operands}

unfoldable pub entered_below : Node → Below
entered_below (node.And l r) = Conditions l r
entered_below (node.Or l r) = Conditions l r
entered_below (node.Not b) = Condition b
entered_below (node.Formerly b w) = Condition b
entered_below (node.Previous b w) = Condition b
entered_below (node.Since l r w) = Conditions l r
entered_below (node.Exists s y b) = Condition b
entered_below (node.Comparison o l r) = Operands l r
entered_below (node.Predicate a l) = Nothing
entered_below (node.Refine b l) = Condition b
entered_below (node.Tp s) = Nothing
entered_below (node.Call y) = Nothing
entered_below (node.SigilRef y) = Nothing
entered_below (node.Var x) = Nothing
entered_below node.Wildcard = Nothing
entered_below (node.Literal y) = Nothing
entered_below (node.ScopeField y) = Nothing
entered_below (node.ContextField y) = Nothing
entered_below (node.ParamRef k) = Nothing
entered_below (node.BinderRef k) = Nothing
entered_below (node.Array l) = Nothing
entered_below (node.Arith o l r) = Nothing
entered_below (node.Sum s l b) = Nothing
entered_below (node.Count l b) = Nothing
entered_below (node.AggregateCall y) = Nothing
entered_below node.ListEnd = Nothing
entered_below (node.ArgumentCell f x l) = Nothing
entered_below (node.ItemCell x l) = Nothing
entered_below (node.BinderCell s y l) = Nothing
