-- `listing::hex::digit` meets its contract: below 10, and from 10 on.
use Rattle.listing.proofs.Digits.{digit_low, digit-high}
use Rattle.listing.proofs.hex.digit.Goals as goal

pub returns-then-value-lt10 : goal.returns-then-value-lt10
returns-then-value-lt10 c = digit_low _ c.if-value-lt10.true

pub returns : goal.returns
returns c = digit-high _ c.if-value-lt10.false
