-- `check_demands` writes the part of 30 to 32.
use mathlib.Core.Path.{sym, ◌∙◌}
use Rattle.writes.proofs.WriteLaws.{added_none, added_is, room_is}
use Rattle.listing.proofs.ListingLaws.{no_demands, demands_are}
use Rattle.listing.proofs.check_demands.Goals as goal

pub returns-then-body_has_sigil : goal.returns-then-body_has_sigil
returns-then-body_has_sigil c = added_is (no_demands _ (sym c.body_has_sigil.ensures ∙ c.if-body_has_sigil.true)) added_none

pub returns : goal.returns
returns c =
    added_is (demands_are _ c.empty-tied.ensures (sym c.body_has_sigil.ensures ∙ c.if-body_has_sigil.false))
    c.check_chain.ensures

pub check_chain-requires : goal.check_chain-requires
check_chain-requires c = record {
  has = c.requires.has;
  room = room_is (demands_are _ c.empty-tied.ensures (sym c.body_has_sigil.ensures ∙ c.if-body_has_sigil.false))
      c.requires.room;
}

pub body_has_sigil-requires : goal.body_has_sigil-requires
body_has_sigil-requires c = let s = c.requires.has in (s.0.1, s.1)
