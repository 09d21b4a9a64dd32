-- `packed` has the number of every kind's row: the end record's first, and then the arms as the source has them. Assumes nothing.
use native.Mathlib.Omega.{arith}
use Rattle.memory.proofs.RowLaws.{row_right, row_none, row_above}
use Rattle.memory.proofs.Unnamed.{Rest}
use Rattle.kinds.proofs.packed.Goals as goal

pub returns-then-kind-eq127 : goal.returns-then-kind-eq127
unfolding Rest
returns-then-kind-eq127 c = row_right 31 c.if-kind-eq127.true

pub returns-else-kind-eq127 : goal.returns-else-kind-eq127
unfolding Rest
returns-else-kind-eq127 c = row_above _ c.if-kind-ge64.true c.if-kind-eq127.false

pub returns-in-1 : goal.returns-in-1
unfolding Rest
returns-in-1 c = row_right 0 c.in-1.is

pub returns-in-2 : goal.returns-in-2
unfolding Rest
returns-in-2 c = row_right 1 c.in-2.is

pub returns-in-16 : goal.returns-in-16
unfolding Rest
returns-in-16 c = row_right 2 c.in-16.is

pub returns-in-17 : goal.returns-in-17
unfolding Rest
returns-in-17 c = row_right 3 c.in-17.is

pub returns-in-18 : goal.returns-in-18
unfolding Rest
returns-in-18 c = row_right 4 c.in-18.is

pub returns-in-19 : goal.returns-in-19
unfolding Rest
returns-in-19 c = row_right 5 c.in-19.is

pub returns-in-20 : goal.returns-in-20
unfolding Rest
returns-in-20 c = row_right 6 c.in-20.is

pub returns-in-21 : goal.returns-in-21
unfolding Rest
returns-in-21 c = row_right 7 c.in-21.is

pub returns-in-22 : goal.returns-in-22
unfolding Rest
returns-in-22 c = row_right 8 c.in-22.is

pub returns-in-23 : goal.returns-in-23
unfolding Rest
returns-in-23 c = row_right 9 c.in-23.is

pub returns-in-24 : goal.returns-in-24
unfolding Rest
returns-in-24 c = row_right 10 c.in-24.is

pub returns-in-25 : goal.returns-in-25
unfolding Rest
returns-in-25 c = row_right 11 c.in-25.is

pub returns-in-26 : goal.returns-in-26
unfolding Rest
returns-in-26 c = row_right 12 c.in-26.is

pub returns-in-27 : goal.returns-in-27
unfolding Rest
returns-in-27 c = row_right 13 c.in-27.is

pub returns-in-28 : goal.returns-in-28
unfolding Rest
returns-in-28 c = row_right 14 c.in-28.is

pub returns-in-32 : goal.returns-in-32
unfolding Rest
returns-in-32 c = row_right 15 c.in-32.is

pub returns-in-33 : goal.returns-in-33
unfolding Rest
returns-in-33 c = row_right 16 c.in-33.is

pub returns-in-34 : goal.returns-in-34
unfolding Rest
returns-in-34 c = row_right 17 c.in-34.is

pub returns-in-35 : goal.returns-in-35
unfolding Rest
returns-in-35 c = row_right 18 c.in-35.is

pub returns-in-36 : goal.returns-in-36
unfolding Rest
returns-in-36 c = row_right 19 c.in-36.is

pub returns-in-37 : goal.returns-in-37
unfolding Rest
returns-in-37 c = row_right 20 c.in-37.is

pub returns-in-38 : goal.returns-in-38
unfolding Rest
returns-in-38 c = row_right 21 c.in-38.is

pub returns-in-39 : goal.returns-in-39
unfolding Rest
returns-in-39 c = row_right 22 c.in-39.is

pub returns-in-40 : goal.returns-in-40
unfolding Rest
returns-in-40 c = row_right 23 c.in-40.is

pub returns-in-41 : goal.returns-in-41
unfolding Rest
returns-in-41 c = row_right 24 c.in-41.is

pub returns-in-42 : goal.returns-in-42
unfolding Rest
returns-in-42 c = row_right 25 c.in-42.is

pub returns-in-43 : goal.returns-in-43
unfolding Rest
returns-in-43 c = row_right 26 c.in-43.is

pub returns-in-48 : goal.returns-in-48
unfolding Rest
returns-in-48 c = row_right 27 c.in-48.is

pub returns-in-49 : goal.returns-in-49
unfolding Rest
returns-in-49 c = row_right 28 c.in-49.is

pub returns-in-50 : goal.returns-in-50
unfolding Rest
returns-in-50 c = row_right 29 c.in-50.is

pub returns-in-51 : goal.returns-in-51
unfolding Rest
returns-in-51 c = row_right 30 c.in-51.is

pub returns-in_default : goal.returns-in_default
unfolding Rest
returns-in_default c = row_none _ _ c.in_default.in_default-own.rest (omega arith)
