-- The whole way, from bytes to a buffer: after `list`, a buffer with room begins with the number of each entry that is unmet by paths, of each of them once
-- and in document order, and of no other; and it is otherwise as before. Over what the toolchain makes of the contract of `list`. Assumes nothing.
use mathlib.Core.Path.{◌≡◌, sym, ap, ◌∙◌}
use mathlib.Core.List.{List, map}
use Prim.Native.Nat.{ℕ, ◌≤◌}
use native.Mathlib.Omega.{arith}
use lib.ListN.{length, take, drop, length-map}
use store.Seg.{take-pre, drop-pre}
use contract.Lifetimes.{Lfts}
use denote.Triple.Clauses.{AtExit}
use borrow.Fn.Kinds.{Dens, res_t, ended_of}
use Rattle.std.specs.Prelude.{Ok}
use Rattle.paper.specs.declared.Finding.{Finding}
use Rattle.paper.specs.Questions.{Listing}
use Rattle.paper.specs.TurnedAway.{Contents, accepted, read}
use Rattle.paper.specs.TheList.{the_list, pack, packed}
use Rattle.paper.proofs.Once.{Distinct}
use Rattle.paper.proofs.Answers.{ExactList, list_exact, list_once, list_writes}
use Rattle.questions.proofs.list.Reads as list
use Rattle.questions.proofs.list.Kinds as of_list

-- the answer is the count of some entries, the buffer begins with their numbers, and it is otherwise as before
pub record Written (entries : List Finding) (before after : List ℕ) (r : Listing) : Type 0 where
  pub counted : r ≡ Ok (length entries)
  pub begins : take (length entries) after ≡ map pack entries
  pub kept : drop (length entries) after ≡ drop (length entries) before

-- there are such entries: all that is unmet, in order, and no number twice; and they are written where there is room for them. `Answers.list_only` says that no
-- other entries are such
pub record WholeWay (c : Contents) (before after : List ℕ) (r : Listing) : Type 0 where
  pub entries : List Finding
  pub exact : ExactList c entries
  pub distinct : Distinct (map pack entries)
  pub written : length entries ≤ length before → Written entries before after r

pub whole_way : (κs : Lfts 2) (a : Dens κs of_list.ps) (r : (res_t of_list.r κs).Denot) (e : AtExit (ended_of 2 of_list.ps of_list.r) κs) → list.Post κs a r e
    → (c : Contents) → read a.0.now ≡ accepted c → WholeWay c a.1.0.now e.1.0.now r
unfolding packed
whole_way κs a r e meets c accepts = record { entries = the_list c; exact = list_exact c; distinct = list_once a.0.now c accepts; written = go }
  where
    long : length (packed c) ≡ length (the_list c)
    long = length-map (the_list c) pack

    go : length (the_list c) ≤ length a.1.0.now → Written (the_list c) a.1.0.now e.1.0.now r
    go room =
        let w = list_writes a.0.now a.1.0.now c accepts (let z = long in omega arith) in
        let after = meets.1 ∙ w.1 in
        record {
          counted = meets.0 ∙ w.0 ∙ ap Ok long;
          begins = ap (λ (n : ℕ). take n e.1.0.now) (sym long) ∙ ap (take (length (packed c))) after ∙ take-pre (packed c) _;
          kept =
              ap (λ (n : ℕ). drop n e.1.0.now) (sym long) ∙ ap (drop (length (packed c))) after ∙ drop-pre (packed c) _
              ∙ ap (λ (n : ℕ). drop n a.1.0.now) long;
        }
