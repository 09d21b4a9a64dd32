-- `gathered` takes the binders out, and asks whether the body needs and restricts them. Assumes nothing.
use mathlib.Core.Path.{subst}
use Rattle.paper.specs.Sets.{Set, outside}
use Rattle.names.specs.Words.{mem}
use Rattle.names.specs.Apart.{Apart}
use Rattle.trees.specs.Trees.{binders_of}
use Rattle.known.specs.Needs.{has_some, has_none}
use Rattle.known.specs.Known.{gathered}
use Rattle.known.specs.Rows.{meant}
use Rattle.known.proofs.Covers.{binder_said}
use Rattle.derived.proofs.gathered.Goals as goal

pub returns : goal.returns
unfolding meant gathered has_some has_none
returns c =
    let m = c.gathered_marks-marks.ensures in
    let s = c.args in
    let names = c.binder_names-own.ensures in
    let list = binders_of s.columns.now s.list.0 in
    rw (
      m.sigils,
      m.hards,
      m.brokens,
      m.bindings,
      m.unclosings,
      m.computings,
      binder_said list _ (subst (λ (a : Set). Apart c.is_disjoint-met.result a (mem s.body.need)) names c.is_disjoint-met.ensures),
      binder_said list _ (subst (λ (a : Set). Apart c.is_subset-tied.result a (outside (mem s.body.restricted))) names c.is_subset-tied.ensures),
      c.is_empty-closed.ensures,
      c.empty-none.ensures,
      c.sub-need.ensures,
      c.sub-free.ensures,
      names,
    )

pub binder_names-own-requires : goal.binder_names-own-requires
binder_names-own-requires c = c.requires
