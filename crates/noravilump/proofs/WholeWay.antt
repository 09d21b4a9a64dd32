-- The whole way at the C face: after `noravilump_list` of accepted bytes a buffer with room begins with the number of each unmet entry, and the answer is number 0
-- with their count for its place. What holds of the buffer is what `questions` shows of `list`. Assumes nothing.
use mathlib.Core.Path.{◌≡◌, refl, ap, ◌∙◌}
use Prim.Native.Nat.{◌≤◌}
use lib.ListN.{length}
use contract.Lifetimes.{Lfts}
use denote.Triple.Clauses.{AtExit}
use borrow.Fn.Kinds.{Dens, res_t, ended_of}
use Rattle.paper.specs.TurnedAway.{Contents, accepted, read}
use Rattle.paper.specs.Questions.{Listing, listing_numbers, list}
use Rattle.questions.proofs.WholeWay.{WholeWay, whole_way}
use Rattle.numbers.specs.Numbers.{asked}
use Rattle.noravilump.proofs.noravilump_list.Reads as c_list
use Rattle.noravilump.proofs.noravilump_list.Kinds as of_list

module _ (κs : Lfts 2) (a : Dens κs of_list.ps) (r : (res_t of_list.r κs).Denot) (e : AtExit (ended_of 2 of_list.ps of_list.r) κs) (meets : c_list.Post κs a r e)
    (c : Contents) (accepts : read a.0.now ≡ accepted c) where
  abbrev answer : Listing
  answer = list a.0.now (length a.1.0.now)

  pub c_way : WholeWay c a.1.0.now e.1.0.now answer
  c_way = whole_way κs a answer e (refl, meets.1) c accepts

  pub c_answer : length c_way.entries ≤ length a.1.0.now → r ≡ record { number = 0; place = length c_way.entries; name = 255 }
  unfolding listing_numbers
  c_answer room = meets.0 ∙ ap (λ (l : Listing). asked (listing_numbers l)) (c_way.written room).counted
