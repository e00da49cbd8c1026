-- An act that holds only things that stand: it is related to itself over the things that stand, then and later.
use Rattle.std.specs.Prelude.{◌≡◌, ℕ, ◌<◌, ◌≤◌}
use Rattle.es_ops.specs.Act.{Act}
use Rattle.es_ops.specs.Related.{Naming, Related}

abbrev pub Below : ℕ → Naming
Below m a b = (a ≡ b) × (a < m)

abbrev pub Stands : ℕ → Act → Type 0
Stands m a = (n : ℕ) → m ≤ n → Related (Below n) a a
