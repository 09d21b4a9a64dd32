-- Two answers that a contract of the C face allows coincide, and any bytes may be asked about, over what the toolchain makes of each contract. Assumes nothing.
use mathlib.Core.Path.{sym, ◌∙◌}
use mathlib.Core.List.{List}
use Prim.Native.Nat.{ℕ}
use Rattle.questions.proofs.Coincide.{Decides, AsksNothing}
use Rattle.numbers.specs.declared.Asked.{Asked}
use Rattle.noravilump.specs.declared.Stretch.{Stretch}
use Rattle.noravilump.proofs.noravilump_scoping.Reads as scoping
use Rattle.noravilump.proofs.noravilump_scoping.Kinds as of_scoping
use Rattle.noravilump.proofs.noravilump_closedness.Reads as closedness
use Rattle.noravilump.proofs.noravilump_closedness.Kinds as of_closedness
use Rattle.noravilump.proofs.noravilump_demands.Reads as demands
use Rattle.noravilump.proofs.noravilump_demands.Kinds as of_demands
use Rattle.noravilump.proofs.noravilump_arithmetic.Reads as arithmetic
use Rattle.noravilump.proofs.noravilump_arithmetic.Kinds as of_arithmetic
use Rattle.noravilump.proofs.noravilump_list.Reads as list
use Rattle.noravilump.proofs.noravilump_list.Kinds as of_list
use Rattle.noravilump.proofs.noravilump_name.Reads as name
use Rattle.noravilump.proofs.noravilump_name.Kinds as of_name

pub scoping_coincides : Decides 1 of_scoping.ps of_scoping.r scoping.Post Asked (λ κs x e. x)
scoping_coincides κs a x y e f p q = p ∙ sym q

pub closedness_coincides : Decides 1 of_closedness.ps of_closedness.r closedness.Post Asked (λ κs x e. x)
closedness_coincides κs a x y e f p q = p ∙ sym q

pub demands_coincides : Decides 1 of_demands.ps of_demands.r demands.Post Asked (λ κs x e. x)
demands_coincides κs a x y e f p q = p ∙ sym q

pub arithmetic_coincides : Decides 1 of_arithmetic.ps of_arithmetic.r arithmetic.Post Asked (λ κs x e. x)
arithmetic_coincides κs a x y e f p q = p ∙ sym q

pub list_coincides : Decides 2 of_list.ps of_list.r list.Post Asked (λ κs x e. x)
list_coincides κs a x y e f p q = p.0 ∙ sym q.0

-- all that the lent buffer holds afterwards
pub buffer_coincides : Decides 2 of_list.ps of_list.r list.Post (List ℕ) (λ κs x e. e.1.0.now)
buffer_coincides κs a x y e f p q = p.1 ∙ sym q.1

pub name_coincides : Decides 1 of_name.ps of_name.r name.Post Stretch (λ κs x e. x)
name_coincides κs a x y e f p q = p.0 ∙ sym q.0

-- ---- any bytes may be asked about

pub scoping_of_any : AsksNothing 1 of_scoping.ps scoping.Asked
scoping_of_any κs a = tt

pub closedness_of_any : AsksNothing 1 of_closedness.ps closedness.Asked
closedness_of_any κs a = tt

pub demands_of_any : AsksNothing 1 of_demands.ps demands.Asked
demands_of_any κs a = tt

pub arithmetic_of_any : AsksNothing 1 of_arithmetic.ps arithmetic.Asked
arithmetic_of_any κs a = tt

pub list_of_any : AsksNothing 2 of_list.ps list.Asked
list_of_any κs a = tt

pub name_of_any : AsksNothing 1 of_name.ps name.Asked
name_of_any κs a = tt
