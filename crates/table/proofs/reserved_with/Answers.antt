-- `reserved_with` meets its contract: it adds the new name's number where the name is a reserved word, and nothing elsewhere. Assumes nothing.
use mathlib.Core.Path.{◌≡◌, sym, ap, ◌∙◌}
use Prim.Native.Nat.{◌%◌}
use native.Mathlib.Nat.{mod-eq_of_lt}
use native.Mathlib.Omega.{arith}
use Rattle.paper.specs.Sets.{Set, only, ◌∪◌}
use Rattle.names.specs.Words.{mem}
use Rattle.memory.proofs.NameLaws.{reserved_yes, reserved_no}
use Rattle.table.proofs.reserved_with.Goals as goal

pub returns-then-is_reserved : goal.returns-then-is_reserved
returns-then-is_reserved c = let e : c.args.x % 256 ≡ c.args.x = mod-eq_of_lt (omega arith) in c.bitor.ensures ∙ ap (λ (s : Set). mem c.args.reserved ∪ s) (c.single.ensures ∙ ap only e ∙ reserved_yes _ _ (sym c.is_reserved.ensures ∙ c.if-is_reserved.true))

pub returns : goal.returns
returns c = reserved_no _ _ _ (sym c.is_reserved.ensures ∙ c.if-is_reserved.false)
