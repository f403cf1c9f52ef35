-- `ranking::text::advance` meets its contract: two characters begin at the two indices, and the
-- step goes on from there.
use Rattle.ranking.proofs.Texts.{fits}
use Rattle.ranking.proofs.text.advance.Goals as goal

pub next_at-front-requires : goal.next_at-front-requires
next_at-front-requires c = record { at_in_bounds = c.requires.first-inside; text_len_bound = c.requires.first-limit }

pub next_at-other-requires : goal.next_at-other-requires
next_at-other-requires c = record { at_in_bounds = c.requires.second-inside; text_len_bound = c.requires.second-limit }

pub advance-requires : goal.advance-requires
advance-requires c = fits c.requires c.next_at-front.ensures c.next_at-other.ensures

pub returns : goal.returns
returns c = c.advance.ensures.advanced _ _ _ c.next_at-front.ensures c.next_at-other.ensures
