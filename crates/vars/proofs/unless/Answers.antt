-- `unless` leaves what the equality gives, but for a wildcard and for arithmetic that contains one.
use mathlib.Core.Path.{◌≡◌, refl, sym, ap, ◌∙◌}
use mathlib.Core.Bool.{Bool}
use Rattle.paper.specs.declared.Reason.TheVariants.{Arithmetic}
use Rattle.paper.specs.declared.Equality.TheVariants.{Nothing}
use Rattle.paper.specs.Record.{pick}
use Rattle.paper.specs.Tree.{Term, as_term, planted}
use Rattle.paper.specs.FreeAndRestricted.{unless}
use Rattle.trees.specs.Trees.{term_of}
use Rattle.trees.proofs.Arms.{arm}
use Rattle.vars.proofs.EqualityLaws.{in_term, unless_arith, unless_other}
use Rattle.vars.proofs.unless.Goals as goal
use Rattle.vars.proofs.unless.Goals.{After-term_contains_wildcard}

-- arithmetic, by whether it contains a wildcard
arithmetic : (c : After-term_contains_wildcard) {b : Bool} → c.term_contains_wildcard.result ≡ b
    → pick b (Nothing Arithmetic) c.args.gives
    ≡ unless (term_of c.args.columns.now c.args.i.0) c.args.gives
arithmetic c d =
    let gives = c.args.gives in
    ap (λ (b : Bool). pick b (Nothing Arithmetic) gives) (sym d ∙ c.term_contains_wildcard.ensures)
    ∙ sym (unless_arith gives (arm _ _ _ _ c.requires c.node_at.ensures c.in-Arith.is))

pub returns-in-Wildcard : goal.returns-in-Wildcard
unfolding planted as_term unless
returns-in-Wildcard c = sym (in_term (λ (t : Term). unless t c.args.gives) (arm _ _ _ _ c.requires c.node_at.ensures c.in-Wildcard.is))

pub returns-in_default : goal.returns-in_default
returns-in_default c =
    let gives = c.args.gives in
    sym (in_term (λ (t : Term). unless t gives) (arm _ _ _ _ c.requires c.node_at.ensures refl) ∙ unless_other _ _ gives _ c.in_default.not-Wildcard c.in_default.not-Arith)

pub term_contains_wildcard-requires : goal.term_contains_wildcard-requires
term_contains_wildcard-requires c = c.requires

pub returns-then-term_contains_wildcard : goal.returns-then-term_contains_wildcard
returns-then-term_contains_wildcard c = arithmetic (goal.at.returns-then-term_contains_wildcard c).After-term_contains_wildcard c.if-term_contains_wildcard.true

pub returns-else-term_contains_wildcard : goal.returns-else-term_contains_wildcard
returns-else-term_contains_wildcard c = arithmetic (goal.at.returns-else-term_contains_wildcard c).After-term_contains_wildcard c.if-term_contains_wildcard.false
