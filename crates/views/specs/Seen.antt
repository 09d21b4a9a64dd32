-- What those who ask see of a node: of an operand what it is entered by, of a condition what scoping and what demands look at. Assumes nothing: these are
-- definitions.
use Rattle.paper.specs.declared.Node.{Node}
use Rattle.paper.specs.declared.Node.TheVariants as node
use Rattle.views.specs.declared.Operand.{Operand}
use Rattle.views.specs.declared.Operand.TheVariants as operand
use Rattle.views.specs.declared.Itself.{Itself}
use Rattle.views.specs.declared.Itself.TheVariants as itself
use Rattle.views.specs.declared.Owing.{Owing}
use Rattle.views.specs.declared.Owing.TheVariants as owing

unfoldable pub seen_operand : Node → Operand
seen_operand (node.And l r) = operand.Plain
seen_operand (node.Or l r) = operand.Plain
seen_operand (node.Not b) = operand.Plain
seen_operand (node.Formerly b w) = operand.Plain
seen_operand (node.Previous b w) = operand.Plain
seen_operand (node.Since l r w) = operand.Plain
seen_operand (node.Exists s y b) = operand.Plain
seen_operand (node.Comparison o l r) = operand.Plain
seen_operand (node.Predicate a l) = operand.Plain
seen_operand (node.Refine b l) = operand.Plain
seen_operand (node.Tp s) = operand.Plain
seen_operand (node.Call y) = operand.Plain
seen_operand (node.SigilRef y) = operand.Plain
seen_operand (node.Var x) = operand.Plain
seen_operand node.Wildcard = operand.Plain
seen_operand (node.Literal y) = operand.Plain
seen_operand (node.ScopeField y) = operand.Plain
seen_operand (node.ContextField y) = operand.Plain
seen_operand (node.ParamRef k) = operand.Plain
seen_operand (node.BinderRef k) = operand.Plain
seen_operand (node.Array l) = operand.Array l
seen_operand (node.Arith o l r) = operand.Arith l r
seen_operand (node.Sum s l b) = operand.Aggregate l b
seen_operand (node.Count l b) = operand.Aggregate l b
seen_operand (node.AggregateCall y) = operand.Plain
seen_operand node.ListEnd = operand.Plain
seen_operand (node.ArgumentCell f x l) = operand.Plain
seen_operand (node.ItemCell x l) = operand.Plain
seen_operand (node.BinderCell s y l) = operand.Plain

unfoldable pub seen_itself : Node → Itself
seen_itself (node.And l r) = itself.Other
seen_itself (node.Or l r) = itself.Other
seen_itself (node.Not b) = itself.Other
seen_itself (node.Formerly b w) = itself.Other
seen_itself (node.Previous b w) = itself.Other
seen_itself (node.Since l r w) = itself.Other
seen_itself (node.Exists s y b) = itself.Exists s b
seen_itself (node.Comparison o l r) = itself.Other
seen_itself (node.Predicate a l) = itself.Predicate l
seen_itself (node.Refine b l) = itself.Other
seen_itself (node.Tp s) = itself.Tp s
seen_itself (node.Call y) = itself.Other
seen_itself (node.SigilRef y) = itself.Other
seen_itself (node.Var x) = itself.Other
seen_itself node.Wildcard = itself.Other
seen_itself (node.Literal y) = itself.Other
seen_itself (node.ScopeField y) = itself.Other
seen_itself (node.ContextField y) = itself.Other
seen_itself (node.ParamRef k) = itself.Other
seen_itself (node.BinderRef k) = itself.Other
seen_itself (node.Array l) = itself.Other
seen_itself (node.Arith o l r) = itself.Other
seen_itself (node.Sum s l b) = itself.Other
seen_itself (node.Count l b) = itself.Other
seen_itself (node.AggregateCall y) = itself.Other
seen_itself node.ListEnd = itself.Other
seen_itself (node.ArgumentCell f x l) = itself.Other
seen_itself (node.ItemCell x l) = itself.Other
seen_itself (node.BinderCell s y l) = itself.Other

unfoldable pub seen_owing : Node → Owing
seen_owing (node.And l r) = owing.And l
seen_owing (node.Or l r) = owing.Other
seen_owing (node.Not b) = owing.Not b
seen_owing (node.Formerly b w) = owing.Other
seen_owing (node.Previous b w) = owing.Other
seen_owing (node.Since l r w) = owing.Since l r
seen_owing (node.Exists s y b) = owing.Exists s
seen_owing (node.Comparison o l r) = owing.Comparison o l r
seen_owing (node.Predicate a l) = owing.Other
seen_owing (node.Refine b l) = owing.Refine
seen_owing (node.Tp s) = owing.Other
seen_owing (node.Call y) = owing.Other
seen_owing (node.SigilRef y) = owing.Other
seen_owing (node.Var x) = owing.Other
seen_owing node.Wildcard = owing.Other
seen_owing (node.Literal y) = owing.Other
seen_owing (node.ScopeField y) = owing.Other
seen_owing (node.ContextField y) = owing.Other
seen_owing (node.ParamRef k) = owing.Other
seen_owing (node.BinderRef k) = owing.Other
seen_owing (node.Array l) = owing.Other
seen_owing (node.Arith o l r) = owing.Other
seen_owing (node.Sum s l b) = owing.Other
seen_owing (node.Count l b) = owing.Other
seen_owing (node.AggregateCall y) = owing.Other
seen_owing node.ListEnd = owing.Other
seen_owing (node.ArgumentCell f x l) = owing.Other
seen_owing (node.ItemCell x l) = owing.Other
seen_owing (node.BinderCell s y l) = owing.Other
