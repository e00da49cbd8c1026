-- What is kept of a tree that was read: the tree where its nesting is at most 64, and the nesting cut at 65.
use Rattle.std.specs.Prelude.{ℕ, ◌+◌, max, Option, Some, None, Box, nat_lt, nat_le, if◌then◌else◌}
use Rattle.std.specs.declared.alloc.Global.{Global}
use Rattle.es_model.specs.Tree as t
use Rattle.es_model.specs.Tree.{Tree}
use Rattle.parser_forms.specs.declared.parts.Kept.{Kept}

abbrev pub Sorted : t.Sort → Type 0
Sorted s = Kept (Tree s)

-- something with nothing in it, which doesn't count itself
abbrev pub flat : {A : Type 0} → A → Kept A
flat a = record { tree = Some a; nesting = 0 }

-- a form round one or two things that were read; these don't count the form
abbrev pub map_tree : {A B : Type 0} → (A → B) → Option A → Option B
map_tree f (Some a) = Some (f a)
map_tree f None = None

abbrev pub join_trees : {A B C : Type 0} → (A → B → C) → Option A → Option B → Option C
join_trees f (Some a) (Some b) = Some (f a b)
join_trees f _ _ = None

abbrev pub around : {A B : Type 0} → (A → B) → Kept A → Kept B
around f a = record { tree = map_tree f a.tree; nesting = a.nesting }

abbrev pub both : {A B C : Type 0} → (A → B → C) → Kept A → Kept B → Kept C
both f a b = record { tree = join_trees f a.tree b.tree; nesting = max a.nesting b.nesting }

-- one level more, up to 65
abbrev pub raised : ℕ → ℕ
raised n = if nat_lt n 65 then n + 1 else 65

abbrev pub dropped : {A : Type 0} → ℕ → Option A → Option A
dropped n tree = if nat_le n 64 then tree else None

-- counted as one level of nesting
abbrev pub counted : {A : Type 0} → Kept A → Kept A
counted a = record { tree = dropped (raised a.nesting) a.tree; nesting = raised a.nesting }

-- a thing that may be left out
abbrev pub optional : {s : t.Sort} → Option (Sorted s) → Sorted (t.option s)
optional None = flat t.absent
optional (Some a) = around t.present a

-- a list, and one more behind it
abbrev pub followed : {s : t.Sort} → Tree (t.list s) → Tree s → Tree (t.list s)
followed t.none last = t.more last t.none
followed (t.more one rest) last = t.more one (followed rest last)

abbrev pub none : {s : t.Sort} → Sorted (t.list s)
none = flat t.none

abbrev pub and_then : {s : t.Sort} → Sorted (t.list s) → Sorted s → Sorted (t.list s)
and_then list last = both followed list last

-- Of what the code holds: a tree in a box.
abbrev pub unboxed : {A : Type 0} → Kept (Box A Global) → Kept A
unboxed a = around (λ box. box.value) a

abbrev pub given : {s : t.Sort} → Option (Tree s) → Tree (t.option s)
given None = t.absent
given (Some a) = t.present a
