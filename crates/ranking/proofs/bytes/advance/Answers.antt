-- `ranking::bytes::advance` meets its contract: after what is alike two characters begin, and the
-- step goes on from there.
use Rattle.ranking.proofs.Texts.{fits, follows-reached, advanced-on}
use Rattle.ranking.proofs.bytes.advance.Goals as goal

pub next_at-front-requires : goal.next_at-front-requires
next_at-front-requires c = c.skip-from.ensures.first-inside

pub next_at-other-requires : goal.next_at-other-requires
next_at-other-requires c = c.skip-from.ensures.second-inside

pub advance-requires : goal.advance-requires
advance-requires c = let limits = c.requires in
    fits (follows-reached c.skip-from.ensures limits.first-limit limits.second-limit) c.next_at-front.ensures
    c.next_at-other.ensures

pub returns : goal.returns
returns c = advanced-on c.skip-from.ensures
    (c.advance.ensures.advanced _ _ _ c.next_at-front.ensures c.next_at-other.ensures)
