-- The entries of demands from a place on, and those of one condition. Assumes nothing: these are definitions.
use Rattle.std.specs.Prelude.{◌≡◌, Bool, List, ℕ, get_or}
use Rattle.paper.specs.declared.NodeNo.{NodeNo}
use Rattle.paper.specs.declared.Finding.{Finding}
use Rattle.paper.specs.declared.Equality.{Equality}
use Rattle.paper.specs.declared.Equality.TheVariants.{Left, Right, Nothing}
use Rattle.paper.specs.Sets.{Set, ◌∪◌, ◌∖◌}
use Rattle.paper.specs.Tree.{Condition}
use Rattle.paper.specs.Places.{Spot, Place, condition, asked_at, for_names, gather, findings, found}
use Rattle.paper.specs.Demands.{demand_below, demand_broken}

-- the first place below a condition, or the second, where these names are tied at the condition; its own place where there is none
unfoldable pub place_below : ℕ → Condition → Set → Place
place_below k c tied = get_or (demand_below (asked_at (condition c) tied)) k (asked_at (condition c) tied)

-- whether the first place below a condition is asked, whatever is tied
abbrev pub FirstAsked : Condition → Bool → Type 0
FirstAsked c asked = (tied : Set) → asked ≡ (place_below 0 c tied).asked

-- whether the place is asked, what stands there, and what is tied
unfoldable pub demanded : Bool → Spot → Set → List Finding
demanded asked s tied = found demand_below demand_broken (record { spot = s; names = tied; asked = asked })

-- a condition's own entries, where it is asked
unfoldable pub owed : Condition → Set → List Finding
owed c tied = gather findings (demand_broken (asked_at (condition c) tied))

-- a comparison's own entries where it ties nothing, from the free names of both sides
unfoldable pub owed_compared : NodeNo → Set → Set → Set → List Finding
owed_compared n left right tied = findings (for_names 31 n ((left ∪ right) ∖ tied))

-- an equality's, by what it ties
unfoldable pub owed_equated : NodeNo → Equality → Set → Set → Set → List Finding
owed_equated n (Left x) left right tied = findings (for_names 30 n (right ∖ tied))
owed_equated n (Right x) left right tied = findings (for_names 30 n (left ∖ tied))
owed_equated n (Nothing why) left right tied = owed_compared n left right tied
