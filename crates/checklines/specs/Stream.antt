-- What is known of the next image of the stream: it has room.
use Rattle.std.specs.Prelude.{ℕ, ◌≤◌, Result, Option, IfOk, IfSome}
use Rattle.checklines.specs.declared.Stop.{Stop}

abbrev pub Fitting : Result (Option ℕ) Stop → Type 0
Fitting next = IfOk next (λ image. IfSome image (λ count. count ≤ 131072))
