-- Document 01, 'How far each promise goes': two answers that a contract allows coincide, and any bytes may be asked about. `Post` is what the toolchain makes
-- of a function's `ensures`, and `Asked` of its `requires`, so a contract that is weakened is refused here. Assumes nothing.
use mathlib.Core.Path.{◌≡◌, sym, ◌∙◌}
use mathlib.Core.List.{List}
use Prim.Native.Nat.{ℕ}
use contract.Lifetimes.{Lfts}
use denote.Triple.Clauses.{AtExit}
use borrow.Fn.Kinds.{ParamKind, ResultKind, In, Out, Dens, res_t, ended_of}
use Rattle.std.specs.Prelude.{Result}
use Rattle.paper.specs.declared.Counts.{Counts}
use Rattle.paper.specs.declared.Refusal.{Refusal}
use Rattle.paper.specs.Questions.{Answer, Arithmetic, Listing}
use Rattle.record.proofs.reader.read.Reads as reader
use Rattle.record.proofs.reader.read.Kinds as of_reader
use Rattle.record.proofs.access.name.Reads as name
use Rattle.record.proofs.access.name.Kinds as of_name
use Rattle.questions.proofs.scoping.Reads as scoping
use Rattle.questions.proofs.scoping.Kinds as of_scoping
use Rattle.questions.proofs.closedness.Reads as closedness
use Rattle.questions.proofs.closedness.Kinds as of_closedness
use Rattle.questions.proofs.demands.Reads as demands
use Rattle.questions.proofs.demands.Kinds as of_demands
use Rattle.questions.proofs.arithmetic.Reads as arithmetic
use Rattle.questions.proofs.arithmetic.Kinds as of_arithmetic
use Rattle.questions.proofs.list.Reads as list
use Rattle.questions.proofs.list.Kinds as of_list

-- whatever two results and arguments at exit `Post` allows for the same arguments, what is seen of them is the same
abbrev pub Decides : (n : ℕ) (ps : List (ParamKind n)) (r : ResultKind n) → Out n ps r → (A : Type 0) → ((κs : Lfts n) → (res_t r κs).Denot → AtExit (ended_of n ps r) κs → A) → Type 0
Decides n ps r Post A seen =
    (κs : Lfts n) (a : Dens κs ps) (x y : (res_t r κs).Denot) (e f : AtExit (ended_of n ps r) κs) → Post κs a x e → Post κs a y f → seen κs x e ≡ seen κs y f

pub scoping_coincides : Decides 1 of_scoping.ps of_scoping.r scoping.Post Answer (λ κs x e. x)
scoping_coincides κs a x y e f p q = p ∙ sym q

pub closedness_coincides : Decides 1 of_closedness.ps of_closedness.r closedness.Post Answer (λ κs x e. x)
closedness_coincides κs a x y e f p q = p ∙ sym q

pub demands_coincides : Decides 1 of_demands.ps of_demands.r demands.Post Answer (λ κs x e. x)
demands_coincides κs a x y e f p q = p ∙ sym q

pub arithmetic_coincides : Decides 1 of_arithmetic.ps of_arithmetic.r arithmetic.Post Arithmetic (λ κs x e. x)
arithmetic_coincides κs a x y e f p q = p ∙ sym q

pub list_coincides : Decides 2 of_list.ps of_list.r list.Post Listing (λ κs x e. x)
list_coincides κs a x y e f p q = p.0 ∙ sym q.0

-- all that the lent buffer holds afterwards
pub buffer_coincides : Decides 2 of_list.ps of_list.r list.Post (List ℕ) (λ κs x e. e.1.0.now)
buffer_coincides κs a x y e f p q = p.1 ∙ sym q.1

pub verdict_coincides : Decides 1 of_reader.ps of_reader.r reader.Post (Result Counts Refusal) (λ κs x e. x.verdict)
verdict_coincides κs a x y e f p q = p.said ∙ sym q.said

-- the bytes of the name
pub name_coincides : Decides 1 of_name.ps of_name.r name.Post (List ℕ) (λ κs x e. x.now)
name_coincides κs a x y e f p q = p ∙ sym q

-- ---- any bytes may be asked about, with any seed and any buffer: a contract that asks something of its caller is weaker too

abbrev pub AsksNothing : (n : ℕ) (ps : List (ParamKind n)) → In n ps → Type 0
AsksNothing n ps Asked = (κs : Lfts n) (a : Dens κs ps) → Asked κs a

pub scoping_of_any : AsksNothing 1 of_scoping.ps scoping.Asked
scoping_of_any κs a = tt

pub closedness_of_any : AsksNothing 1 of_closedness.ps closedness.Asked
closedness_of_any κs a = tt

pub demands_of_any : AsksNothing 1 of_demands.ps demands.Asked
demands_of_any κs a = tt

pub arithmetic_of_any : AsksNothing 1 of_arithmetic.ps arithmetic.Asked
arithmetic_of_any κs a = tt

pub list_of_any : AsksNothing 2 of_list.ps list.Asked
list_of_any κs a = tt

pub reader_of_any : AsksNothing 1 of_reader.ps reader.Asked
reader_of_any κs a = tt

pub name_of_any : AsksNothing 1 of_name.ps name.Asked
name_of_any κs a = tt
