-- `bound` takes the slot's name out, and asks whether the body needs and restricts it. Assumes nothing.
use mathlib.Core.Path.{subst}
use Rattle.paper.specs.Sets.{Set, outside}
use Rattle.names.specs.Words.{mem}
use Rattle.names.specs.Apart.{Apart}
use Rattle.known.proofs.Covers.{slot_said}
use Rattle.known.specs.Known.{bound}
use Rattle.known.specs.Rows.{meant}
use Rattle.together.proofs.bound.Goals as goal

pub returns : goal.returns
unfolding meant bound
returns c =
    let s = c.args in
    let name = c.slot_name-own.ensures in
    let m = c.bound_marks-marks.ensures in
    rw (
      m.sigils,
      m.hards,
      m.brokens,
      m.bindings,
      m.unclosings,
      m.computings,
      slot_said s.slot _ (subst (λ (a : Set). Apart c.is_disjoint-met.result a (mem s.body.need)) name c.is_disjoint-met.ensures),
      slot_said s.slot _ (subst (λ (a : Set). Apart c.is_subset-tied.result a (outside (mem s.body.restricted))) name c.is_subset-tied.ensures),
      c.sub-need.ensures,
      c.sub-restricted.ensures,
      c.sub-free.ensures,
      name,
    )

pub slot_name-own-requires : goal.slot_name-own-requires
slot_name-own-requires c = c.requires
