-- The entries of scoping from a place on. Assumes nothing: these are definitions.
use Rattle.std.specs.Prelude.{List}
use Rattle.paper.specs.declared.Finding.{Finding}
use Rattle.paper.specs.Sets.{Set}
use Rattle.paper.specs.Places.{Spot, asked_at, found}
use Rattle.paper.specs.Scoping.{scope_below, scope_broken}

-- with these words reserved, and this scope
unfoldable pub scoped : Set → Spot → Set → List Finding
scoped words s scope = found scope_below (scope_broken words) (asked_at s scope)
