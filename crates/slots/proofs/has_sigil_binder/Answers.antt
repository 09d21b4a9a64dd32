use Rattle.std.proofs.Common.{rules, tests, ◌∙◌}
use Rattle.std.proofs.lemmas.Iterator.Search.{any_from_yields_List}
use Rattle.std.proofs.lemmas.Iterator.Consumers.{YieldsList-from_first}
use Rattle.paper.specs.FreeAndRestricted.{is_sigil}
use Rattle.trees.specs.Trees.{binders_of}
use Rattle.slots.specs.Binders.{slots_of}
use Rattle.slots.proofs.SlotLaws.{sigils_are}
use Rattle.slots.proofs.has_sigil_binder.Goals as goal

pub returns : goal.returns
returns c =
    any_from_yields_List is_sigil c.any.new.self _ _ c.any.ensures.ran (YieldsList-from_first (λ s. s) (λ b. slots_of (binders_of b.columns.now b.at.0)) {s = record { columns = c.args.columns; at = c.args.i }} _ cc) (λ x b q k. search (rules, tests))
    ∙ sigils_are _
