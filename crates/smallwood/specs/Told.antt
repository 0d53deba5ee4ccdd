-- What an answer with a number leaves: the number returned, and the lent number after it.
use Rattle.std.specs.Prelude.{ℕ, Result}
use Rattle.std.specs.Prelude.Result.{Ok, Err}
use Rattle.refusal.specs.declared.Refusal.{Refusal}
use Rattle.refusal.specs.Numbers.{number}

abbrev pub told : Result ℕ Refusal → ℕ → ℕ × ℕ
told (Ok n) before = (0, n)
told (Err r) before = (number r, before)
