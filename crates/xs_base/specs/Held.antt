-- What the names of files hold, and what a call on them leaves.
use Rattle.std.specs.Prelude.{◌≡◌, ◌⊎◌, ◌≤◌, ℕ, List, take, Option, Some, None, Result, Err, OnOk, IfSome, ⊤}
use Rattle.std.specs.Coded.{Coded, coded_list, coded_ℕ}
use Rattle.std.specs.Ordering.{nat_cmp}
use Rattle.std.specs.Cmp.Lexicographic.{slice_cmp}
use Rattle.std.specs.FinMap as map
use Rattle.xs_base.specs.Outside.{Rose}
use Rattle.xs_base.specs.declared.files.FileFault.{FileFault}
use Rattle.xs_base.specs.declared.files.FileFault.TheVariants.{Absent, Failed, Memory}

-- The bytes under each name that holds any. A name is given as the bytes of its text.
abbrev pub Contents : Type 0
Contents = map.FinMap (slice_cmp nat_cmp) (List ℕ)

-- Contents are stored as the list of their entries.
abbrev pub contents_code : Coded Contents
contents_code = map.code (coded_list coded_ℕ) (coded_list coded_ℕ)

-- What a name holds.
abbrev pub held : Contents → List ℕ → Option (List ℕ)
held contents name = map.get contents name

-- No fault is passed over, and none is made up; want of memory is no fault. A name that holds nothing
-- is counted by itself too, so that a fault can be told from it.
pub record HasFileCause {T : Type 0} (before now : ℕ) (missed_before missed_now : ℕ) (result : Result T FileFault) : Type 0 where
  pub later : before ≤ now
  pub kept : OnOk result ((now ≡ before) × (missed_now ≡ missed_before))
  pub memory : result ≡ Err Memory → (now ≡ before) × (missed_now ≡ missed_before)
  pub absent : result ≡ Err Absent → Rose before now × Rose missed_before missed_now
  pub failed : result ≡ Err Failed → Rose before now × (missed_now ≡ missed_before)

-- Where contents are told, the name holds these bytes.
abbrev pub Gives : Option Contents → List ℕ → List ℕ → Type 0
Gives told name bytes = IfSome told (λ contents. held contents name ≡ Some bytes)

-- Where contents are told: `Absent` exactly where the name holds nothing.
pub record IsAbsentExactly {T : Type 0} (told : Option Contents) (name : List ℕ) (result : Result T FileFault) : Type 0 where
  pub nothing : IfSome told (λ contents. held contents name ≡ None → result ≡ Err Absent)
  pub only : result ≡ Err Absent → IfSome told (λ contents. held contents name ≡ None)

-- The name holds these bytes now, and each other name what it held.
abbrev pub Puts : Option Contents → Option Contents → List ℕ → List ℕ → Type 0
Puts None new name bytes = ⊤
Puts (Some contents) new name bytes = new ≡ Some (map.insert contents name bytes)

-- All stays, or a front of the bytes stands under the name.
abbrev pub PutsInPart : Option Contents → Option Contents → List ℕ → List ℕ → Type 0
PutsInPart old new name bytes = (new ≡ old) ⊎ ((n : ℕ) × Puts old new name (take n bytes))
