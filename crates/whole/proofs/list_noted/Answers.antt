-- `list_noted` writes nothing of a clean root, and at once where the most that there can be fits. Assumes nothing.
use mathlib.Core.Path.{sym, ◌∙◌}
use borrow.Author.Rules.{rules}
use Rattle.names.proofs.ApartLaws.{empty_everywhere}
use Rattle.known.specs.Needs.{has_none}
use Rattle.listing.proofs.ListingLaws.{from_last, clean_listed, filled_empty, filled_at_once}
use Rattle.whole.proofs.list_noted.Goals as goal

pub returns-then-is_clean : goal.returns-then-is_clean
unfolding has_none
returns-then-is_clean c =
    filled_empty (clean_listed _ _ (from_last c.requires.last c.collect_facts.ensures).2 _ (λ k e. empty_everywhere c.args.words (search rules) e k) (sym c.is_clean.ensures ∙ c.if-is_clean.true))

pub invariant_of-nodes : goal.invariant_of-nodes
invariant_of-nodes c = record { noted = (from_last c.requires.last c.collect_facts.ensures).1 }

pub is_clean-requires : goal.is_clean-requires
is_clean-requires c = let s = from_last c.requires.last c.collect_facts.ensures in (s.0, s.2)

pub list_into-requires : goal.list_into-requires
list_into-requires c = let s = from_last c.requires.last c.collect_facts.ensures in record { has = (s.0, s.2); room = c.requires.room.0 }

pub returns-then-most-out : goal.returns-then-most-out
returns-then-most-out c = filled_at_once c.requires.room.1 c.if-most-out.true c.list_into.ensures

pub list_counted-requires : goal.list_counted-requires
list_counted-requires c = let s = from_last c.requires.last c.collect_facts.ensures in record { has = (s.0, s.2); room = c.requires.room.0 }
