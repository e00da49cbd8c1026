-- Files by name with a limit on their bytes and on their number.
use Rattle.std.specs.Prelude.{◌+◌, ◌&&◌, ℕ, Bool, nat_le, List, length, sum_by, refl}
use Rattle.std.specs.Coded.{Coded, code_by, coded×, coded_ℕ}
use Rattle.std.specs.FinMap as map
use Rattle.xs_base.specs.Held.{Contents, contents_code}

-- What the names hold, how many bytes of names and contents there may be together, and how many names.
pub record Table : Type 0 where
  pub contents : Contents
  pub room : ℕ
  pub names : ℕ

-- A table is stored as the tuple of its fields.
abbrev pub table_code : Coded Table
table_code = code_by (Contents × (ℕ × ℕ)) (coded× contents_code (coded× coded_ℕ coded_ℕ)) (λ t. (t.contents, (t.room, t.names))) (λ p. record { contents = p.0; room = p.1.0; names = p.1.1 }) (λ _. refl)

-- How many bytes names and contents have together.
abbrev pub total : Contents → ℕ
total contents = sum_by (λ entry. length entry.0 + length entry.1) (map.entries contents)

-- With this content under the name neither limit is passed.
abbrev pub fits : Table → List ℕ → List ℕ → Bool
fits table name content = nat_le (total (map.insert table.contents name content)) table.room && nat_le (map.len (map.insert table.contents name content)) table.names
