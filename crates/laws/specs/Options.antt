-- What a definition gives or does not give, as the code answers it: the definitions have the logic's
-- own option, and the code has std's.
use Rattle.std.specs.Prelude.{Option as Answer, Some, None}
use Rattle.std.proofs.Math.Option.{Option, none, some}

abbrev pub as_answer : {A : Type 0} → Option A → Answer A
as_answer none = None
as_answer (some value) = Some value
