-- `numbers_in` takes each number from the word. Assumes nothing.
use native.Mathlib.Omega.{arith}
use Rattle.nodes.proofs.numbers_in.Goals as goal

pub returns : goal.returns
returns c =
    rw (
      c.kind_in-kind.ensures,
      c.number_in-p0.ensures,
      c.number_in-p1.ensures,
      c.number_in-p2.ensures,
      c.number_in-p3.ensures,
      c.number_in-p4.ensures,
    )

pub number_in-p0-requires : goal.number_in-p0-requires
number_in-p0-requires c = omega arith

pub number_in-p1-requires : goal.number_in-p1-requires
number_in-p1-requires c = omega arith

pub number_in-p2-requires : goal.number_in-p2-requires
number_in-p2-requires c = omega arith

pub number_in-p3-requires : goal.number_in-p3-requires
number_in-p3-requires c = omega arith

pub number_in-p4-requires : goal.number_in-p4-requires
number_in-p4-requires c = omega arith
