-- Bounds of what planners are told.
use Rattle.std.specs.Prelude.{ℕ}

-- no more nodes are missing: 64 leaves, 12 levels
abbrev pub most_missing : ℕ
most_missing = 768
